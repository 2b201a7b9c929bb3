use Rattle.sci_wave.proofs.SomeDump.{some_run_dump}
use Rattle.sci_wave.proofs.OneDump.{one_run_dump}
use Rattle.sci_wave.proofs.laws.one_run_dump.Goals as goal

pub returns-clause-some : goal.returns-clause-some
returns-clause-some c = some_run_dump

pub returns-clause-one : goal.returns-clause-one
returns-clause-one c = one_run_dump
