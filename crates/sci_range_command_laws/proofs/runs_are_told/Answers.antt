use Rattle.sci_range_command_laws.proofs.Going.{runs_are_told, rests_are_told, saved_are_held}
use Rattle.sci_range_command_laws.proofs.Safe.{safe_has_no_faults}
use Rattle.sci_range_command_laws.proofs.runs_are_told.Goals as goal

pub returns-clause-runs : goal.returns-clause-runs
returns-clause-runs c = runs_are_told

pub returns-clause-rests : goal.returns-clause-rests
returns-clause-rests c = rests_are_told

pub returns-clause-saved : goal.returns-clause-saved
returns-clause-saved c = saved_are_held

pub returns-clause-safe : goal.returns-clause-safe
returns-clause-safe c = safe_has_no_faults
