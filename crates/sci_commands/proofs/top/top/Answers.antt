use Rattle.sci_commands.proofs.Delivered.{met_either}
use Rattle.sci_commands.proofs.Defined.{writes_defined}
use Rattle.sci_commands.proofs.top.top.Goals as goal

pub returns-clause-meets : goal.returns-clause-meets
returns-clause-meets g c =
    met_either c.prepare-prepared.result _ _ _ _ _ _ _ _ _ _ c.prepare-prepared.ensures.reaches c.prepare-prepared.ensures.lacks c.deliver.ensures.left c.deliver.ensures.delivered

pub returns-clause-defined : goal.returns-clause-defined
returns-clause-defined g c = writes_defined c.prepare-prepared.result _ _ _ _ _ _ _ _ c.prepare-prepared.ensures.coded c.deliver.ensures.delivered
