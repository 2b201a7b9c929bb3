use Rattle.std.proofs.Common.{◌≡◌, ◌<◌, ◌+◌, ◌++◌, length, sym, ap, ◌∙◌, arith}
use Rattle.std.proofs.lemmas.List.{get_or_default}
use Rattle.sci_forms.specs.declared.spec.Spec.{Spec}
use Rattle.sci_forms.specs.declared.ports.Port.{Port}
use Rattle.sci_forms.specs.Ports.{no_port, port_at, elements}
use Rattle.sci_net.specs.Parts.{spec_of, input_of}
use Rattle.sci_net.proofs.Numbered.{numbered_next}
use Rattle.std.specs.Prelude.{slice_index_or}
use Rattle.sci_ranges_find.specs.declared.reads.Reading.{Reading}
use Rattle.sci_ranges_find.specs.View.{ranges_of}
use Rattle.sci_ranges_find.specs.Readings.{no_reading, port_by}
use Rattle.sci_ranges_find.proofs.Counted.{ins_few}
use Rattle.sci_ranges_find.proofs.Readings.{ports_begin, ports_more, ports_done}
use Rattle.sci_ranges_find.proofs.reads.read_ports.Goals as goal

pub loop-k-init : goal.loop-k-init
loop-k-init c = ports_begin c.args.net.now (ranges_of c.args.table.now) c.args.readings.now c.args.block (spec_of c.args.net.now c.args.block).ins c.new-all.result.items c.new-all.ensures.items

pub overflow_cast-port : goal.overflow_cast-port
overflow_cast-port c = let few = ins_few c.spec-spec.result.now c.spec-spec.ensures.is_typed in omega (arith, few, c.loop-k-test.true, c.len-k-end.ensures.value)

pub overflow_add-port : goal.overflow_add-port
overflow_add-port c = let few = ins_few c.spec-spec.result.now c.spec-spec.ensures.is_typed in omega (arith, few, c.loop-k-test.true, c.len-k-end.ensures.value)

pub read_port-requires : goal.read_port-requires
read_port-requires c =
    let same = ap (λ (s : Spec). length s.ins) c.spec-spec.ensures.value in
    record { block = c.requires; least = omega arith; most = omega (arith, same, c.loop-k-test.true, c.len-k-end.ensures.value) }

pub loop-k-preserved : goal.loop-k-preserved
loop-k-preserved c =
    let n = c.args.net.now in
    let r = ranges_of c.args.table.now in
    let qs = c.args.readings.now in
    let b = c.args.block in
    let ps = (spec_of n b).ins in
    let k = c.loop-k.k in
    let p : Port = port_at ps k in
    let same = ap (λ (s : Spec). length s.ins) c.spec-spec.ensures.value in
    let within : k < length ps = omega (arith, same, c.loop-k-test.true, c.len-k-end.ensures.value) in
    let next : input_of n b (k + 1) ≡ p = numbered_next no_port ps k in
    ports_more n r qs b k ps p c.loop-k.all.items c.read_port.new.entered.items within (get_or_default ps k no_port p within)
    (c.in_ok-read_port.ensures
    ∙ (ap (λ (q : Reading). c.loop-k.all.items ++ port_by n r q b (k + 1) (elements (input_of n b (k + 1)))) c.reading_at-reading.ensures
    ∙ ap (λ (x : Port). c.loop-k.all.items ++ port_by n r (slice_index_or qs k no_reading) b (k + 1) (elements x)) next))
    ∙ c.loop-k.invariant

pub returns : goal.returns
returns c =
    let same = ap (λ (s : Spec). length s.ins) c.spec-spec.ensures.value in
    sym (ports_done c.args.net.now (ranges_of c.args.table.now) c.args.readings.now c.args.block c.loop-k.k (spec_of c.args.net.now c.args.block).ins c.loop-k.all.items
    (omega (arith, same, c.loop-k-test.false, c.len-k-end.ensures.value))) ∙ c.loop-k.invariant
