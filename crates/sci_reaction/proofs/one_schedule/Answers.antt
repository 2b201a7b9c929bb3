use Rattle.sci_reaction.proofs.Exists.{some_row}
use Rattle.sci_reaction.proofs.OneRow.{one_row}
use Rattle.sci_reaction.proofs.Schedules.{some_schedule, one_schedule}
use Rattle.sci_reaction.proofs.Sources.{sources_are}
use Rattle.sci_reaction.proofs.one_schedule.Goals as goal

pub returns-clause-some_row : goal.returns-clause-some_row
returns-clause-some_row c n s net free = some_row n s free net.wired

pub returns-clause-one_row : goal.returns-clause-one_row
returns-clause-one_row c n s one other net free x y = one_row n s free one other x y

pub returns-clause-some : goal.returns-clause-some
returns-clause-some c n net free = some_schedule n net.wired free

pub returns-clause-one : goal.returns-clause-one
returns-clause-one c n one other net free x y = one_schedule n net.wired free one other x y

pub returns-clause-sources : goal.returns-clause-sources
returns-clause-sources c = sources_are
