use Rattle.std.proofs.Common.{◌≡◌, ◌++◌, ℕ, sym, ap, ◌∙◌, append-nil, arith}
use Rattle.sci_forms.specs.Ports.{elements}
use Rattle.sci_net.specs.Parts.{input_of}
use Rattle.sci_ranges_find.specs.View.{ranges_of}
use Rattle.sci_ranges_find.specs.Readings.{port_by}
use Rattle.sci_ranges_find.proofs.Counted.{outs_small}
use Rattle.sci_ranges_find.proofs.Entering.{feeder_of, element_in}
use Rattle.sci_ranges_find.proofs.Readings.{fed_is, element_is, port_more}
use Rattle.sci_ranges_find.proofs.reads.read_port.Goals as goal

pub output_from-from-requires-clause-block : goal.output_from-from-requires-clause-block
output_from-from-requires-clause-block c = (feeder_of c.args.net.now c.args.block c.args.port c.wire-wire.result c.well_formed-2.ensures c.requires c.wire-wire.ensures).block

pub output_from-from-requires-clause-least : goal.output_from-from-requires-clause-least
output_from-from-requires-clause-least c = (feeder_of c.args.net.now c.args.block c.args.port c.wire-wire.result c.well_formed-2.ensures c.requires c.wire-wire.ensures).least

pub output_from-from-requires-clause-most : goal.output_from-from-requires-clause-most
output_from-from-requires-clause-most c = (feeder_of c.args.net.now c.args.block c.args.port c.wire-wire.result c.well_formed-2.ensures c.requires c.wire-wire.ensures).most

pub loop-d-init : goal.loop-d-init
loop-d-init c = sym (append-nil c.args.entered.now.items)

pub overflow_add-from : goal.overflow_add-from
overflow_add-from c =
    let n = c.args.net.now in
    let feeder = feeder_of n c.args.block c.args.port c.wire-wire.result c.well_formed-2.ensures c.requires c.wire-wire.ensures in
    let within = element_in n c.args.block c.args.port c.loop-d.d c.output_from-from.result c.wire-wire.result c.well_formed-2.ensures c.requires c.wire-wire.ensures c.output_from-from.ensures
    (omega (arith, c.loop-d-test.true, c.input_elements-d-end.ensures)) in
    let small = outs_small n c.wire-wire.result.block c.well_formed-2.ensures feeder.block in
    omega (arith, within, small)

pub fed-plain-requires-clause-block : goal.fed-plain-requires-clause-block
fed-plain-requires-clause-block c = (feeder_of c.args.net.now c.args.block c.args.port c.wire-wire.result c.well_formed-2.ensures c.requires c.wire-wire.ensures).block

pub fed-plain-requires-clause-element : goal.fed-plain-requires-clause-element
fed-plain-requires-clause-element c =
    element_in c.args.net.now c.args.block c.args.port c.loop-d.d c.output_from-from.result c.wire-wire.result c.well_formed-2.ensures c.requires c.wire-wire.ensures c.output_from-from.ensures
    (omega (arith, c.loop-d-test.true, c.input_elements-d-end.ensures))

pub loop-d-preserved : goal.loop-d-preserved
loop-d-preserved c =
    let n = c.args.net.now in
    let r = ranges_of c.args.table.now in
    c.in_ok-push.ensures.items
    ∙ port_more n r c.args.reading c.args.block c.args.port c.loop-d.d c.args.entered.now.items c.loop-d.entered.items c.first_narrowed-element.result c.loop-d.invariant
    (element_is n r c.args.reading c.args.block c.args.port c.loop-d.d c.fed-plain.result c.first_narrowed-element.result
    (c.fed-plain.ensures ∙ fed_is n r c.args.reading c.args.block c.args.port c.loop-d.d c.output_from-from.result c.wire-wire.result c.wire-wire.ensures c.output_from-from.ensures)
    c.first_narrowed-element.ensures)

pub returns : goal.returns
returns c =
    let most = c.loop-d.auto.d-end in
    let all : c.loop-d.d ≡ elements (input_of c.args.net.now c.args.block c.args.port) = omega (arith, c.loop-d-test.false, most, c.input_elements-d-end.ensures) in
    c.loop-d.invariant ∙ ap (λ (k : ℕ). c.args.entered.now.items ++ port_by c.args.net.now (ranges_of c.args.table.now) c.args.reading c.args.block c.args.port k) all
