use Rattle.std.proofs.Common.{◌≡◌, ◌<◌, ◌∙◌, [], List, ap, arith, length, get_or}
use Rattle.sci_net.specs.declared.Wire.{Wire}
use Rattle.sci_net.specs.Parts.{numbered, no_wire}
use Rattle.sci_net.proofs.Numbered.{numbered_next}
use Rattle.sci_forms.specs.declared.spec.Spec.{Spec}
use Rattle.sci_places.specs.Layout.{output_span}
use Rattle.sci_places.proofs.Laid.{spans_more}
use Rattle.sci_places.proofs.laying.block_place.Goals as goal

pub loop-port-preserved : goal.loop-port-preserved
loop-port-preserved c =
    let n = c.args.net.now in
    let k = c.loop-port.port in
    let wires : List Wire = numbered [] n.wires c.args.block in
    let each = c.well_formed-2.ensures.wired.one_wire_each c.args.block c.requires.block in
    let ins = ap (λ (s : Spec). length s.ins) c.spec.ensures.value in
    let inside : k < length wires = omega (arith, each, ins, c.len-inputs.ensures.value, c.loop-port-test.true) in
    let wire : c.wire.result ≡ get_or wires k no_wire = c.wire.ensures ∙ numbered_next no_wire wires k in
    c.in_ok-push.ensures.items
    ∙ spans_more (output_span n) wires k c.loop-port.ins.items c.output_span.result inside
    c.loop-port.invariant (c.output_span.ensures ∙ ap (output_span n) wire)
