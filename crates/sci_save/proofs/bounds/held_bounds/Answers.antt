use Rattle.std.proofs.Common.{◌≡◌, ap, ◌∙◌, arith}
use Rattle.sci_forms.specs.Ports.{elements, port_at}
use Rattle.sci_save.proofs.BlockLines.{outs_small}
use Rattle.sci_save.proofs.bounds.held_bounds.Goals as goal

pub overflow_cast-elements : goal.overflow_cast-elements
overflow_cast-elements c =
    let few = outs_small c.args.spec.now c.loop-at.at c.requires (omega (arith, c.loop-at-test.true, c.len-at-end.ensures.value)) in
    let same : c.elements.result ≡ elements (port_at c.args.spec.now.outs c.loop-at.at) = c.elements.ensures ∙ ap elements c.get-port.ensures in
    omega (arith, few, same)
