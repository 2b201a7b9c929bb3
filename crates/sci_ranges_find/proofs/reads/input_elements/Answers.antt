use Rattle.std.proofs.Common.{◌≡◌, ◌-◌, refl, ap, ◌∙◌, arith}
use Rattle.sci_forms.specs.declared.spec.Spec.{Spec}
use Rattle.sci_forms.specs.Ports.{elements, port_at}
use Rattle.sci_net.specs.Parts.{input_of, spec_of}
use Rattle.sci_ranges_find.proofs.Counted.{outs_small}
use Rattle.sci_ranges_find.proofs.Entering.{input_small, feeder_of, port_numbered}
use Rattle.sci_ranges_find.proofs.reads.input_elements.Goals as goal
use Rattle.sci_ranges_find.proofs.reads.input_elements.Goals.{After-elements}

is : (c : After-elements) → c.elements.result ≡ elements (input_of c.args.net.now c.args.block c.args.port)
is c =
    c.elements.ensures
    ∙ (ap elements (c.port.ensures ∙ ap (λ (s : Spec). port_at s.ins (c.args.port - 1)) c.spec.ensures.value)
    ∙ ap elements (port_numbered (spec_of c.args.net.now c.args.block).ins c.args.port c.requires.least))

pub overflow_cast-result : goal.overflow_cast-result
overflow_cast-result c =
    let n = c.args.net.now in
    let e = is (goal.at.overflow_cast-result c).After-elements in
    let few = input_small n c.args.block c.args.port c.well_formed-2.ensures c.requires in
    let small = outs_small n _ c.well_formed-2.ensures (feeder_of n c.args.block c.args.port _ c.well_formed-2.ensures c.requires refl).block in
    omega (arith, e, few, small)

pub returns : goal.returns
returns c = is (goal.at.returns c).After-elements
