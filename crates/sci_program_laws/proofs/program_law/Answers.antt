use Rattle.sci_program_laws.proofs.Run.{program_means_run}
use Rattle.sci_program_laws.proofs.program_law.Goals as goal

pub returns : goal.returns
returns c n rows i until limit st how os net free schedule columns late most finish =
    program_means_run n rows i until limit st how os net free schedule columns late most finish
