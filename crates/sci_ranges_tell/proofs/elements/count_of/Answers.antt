use Rattle.std.proofs.Common.{◌≡◌, ◌∙◌, ap, arith}
use Rattle.sci_forms.specs.declared.spec.Spec.{Spec}
use Rattle.sci_forms.specs.Ports.{port_at, elements}
use Rattle.sci_net.specs.Parts.{spec_of}
use Rattle.sci_ranges_tell.proofs.Pieces.{part_small}
use Rattle.sci_ranges_tell.proofs.elements.count_of.Goals as goal

pub overflow_cast-result : goal.overflow_cast-result
overflow_cast-result c =
    let ps = (spec_of c.args.net.now c.args.block).outs in
    let e : c.elements.result ≡ elements (port_at ps c.args.k) = c.elements.ensures ∙ ap elements (c.port.ensures ∙ ap (λ (s : Spec). port_at s.outs c.args.k) c.spec.ensures.value) in
    omega (arith, e, part_small ps c.args.k c.requires.port, c.requires.small)

pub returns : goal.returns
returns c = c.elements.ensures ∙ ap elements (c.port.ensures ∙ ap (λ (s : Spec). port_at s.outs c.args.k) c.spec.ensures.value)
