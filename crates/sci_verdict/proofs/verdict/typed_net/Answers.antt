use Rattle.std.proofs.Common.{rules}
use Rattle.sci_verdict.proofs.Phases.{fit_to_flatten, stopped_reading, of_file}
use Rattle.sci_verdict.proofs.verdict.typed_net.Goals as goal

pub returns-in_err-diagram : goal.returns-in_err-diagram
returns-in_err-diagram c = stopped_reading c.args.bytes.now _ c.read.result c.from_residual.result c.in_err-diagram.was (search rules) c.read.ensures

pub diagram_net-requires : goal.diagram_net-requires
diagram_net-requires c = fit_to_flatten c.args.bytes.now c.in_ok-diagram.diagram c.read.result c.requires c.in_ok-diagram.was c.read.ensures

pub returns : goal.returns
returns c = of_file c.args.bytes.now c.in_ok-diagram.diagram c.read.result c.diagram_net.result c.in_ok-diagram.was c.read.ensures c.diagram_net.ensures
