use Rattle.sci_diagram.specs.Objects.{diagram_view}
use Rattle.sci_prepare.proofs.Bulked.{made_ready, made_judged}
use Rattle.sci_prepare.proofs.bulk.judged.Goals as goal

pub check_diagram-requires : goal.check_diagram-requires
check_diagram-requires c = made_ready (diagram_view c.in_ok-diagram.diagram) c.args.seed c.args.size c.in_ok-diagram.ensures c.requires.least c.requires.most

pub returns : goal.returns
returns c = made_judged (diagram_view c.in_ok-diagram.diagram) c.args.seed c.args.size c.check_diagram.result c.in_ok-diagram.ensures c.check_diagram.ensures
