use Rattle.sci_places.proofs.Placed.{output_placed}
use Rattle.std.proofs.Common.{◌∙◌, ap}
use Rattle.sci_forms.specs.Ports.{elements}
use Rattle.sci_places.proofs.laying.output_span.Goals as goal

pub returns : goal.returns
returns c =
    output_placed c.args.net.now c.args.starts.now c.args.wire c.spec.result.now c.before-2.result c.elements.result c.requires.starts
    c.requires.output c.spec.ensures.value
    c.before-2.ensures (c.elements.ensures ∙ ap elements c.port.ensures)
