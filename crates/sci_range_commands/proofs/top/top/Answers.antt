use Rattle.sci_range_commands.proofs.Causes.{met_by}
use Rattle.sci_range_commands.proofs.top.top.Goals as goal

pub returns-clause-meets : goal.returns-clause-meets
returns-clause-meets g c =
    let delivered = c.deliver.ensures in
    let reached = c.prepare-prepared.ensures.reaches delivered.0 delivered.1 in
    met_by _ _ _ _ _ _ _ _ reached.0 delivered.0 reached.1 delivered.2
