use Rattle.std.proofs.Common.{rules}
use Rattle.sci_diagram.specs.Objects.{diagram_view}
use Rattle.sci_verdict.proofs.Phases.{stopped_flattening, flattened, inferred}
use Rattle.sci_verdict.proofs.verdict.diagram_net.Goals as goal

pub returns-in_err-flat : goal.returns-in_err-flat
returns-in_err-flat c = stopped_flattening (diagram_view c.args.diagram.now) _ c.flatten.result c.from_residual.result c.in_err-flat.was (search rules) c.flatten.ensures

pub returns : goal.returns
returns c =
    let flat = flattened (diagram_view c.args.diagram.now) c.in_ok-flat.flat c.flatten.result c.in_ok-flat.was c.flatten.ensures in
    inferred (diagram_view c.args.diagram.now) c.in_ok-flat.flat c.infer.result flat c.infer.ensures.ok c.infer.ensures.stop
