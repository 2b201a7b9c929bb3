use Rattle.std.proofs.Common.{◌≡◌, ◌+◌, ℕ, length, sym, ap, subst, arith}
use Rattle.sci_forms.specs.declared.spec.Spec.{Spec}
use Rattle.sci_net.specs.Parts.{spec_of}
use Rattle.sci_ranges_marks.specs.View.{marks_of}
use Rattle.sci_ranges_find.specs.Readings.{AreReadingsTo}
use Rattle.sci_ranges_find.proofs.Counted.{ins_few}
use Rattle.sci_ranges_find.proofs.Readings.{readings_begin, readings_more}
use Rattle.sci_ranges_find.proofs.reads.readings_of.Goals as goal

pub loop-k-init : goal.loop-k-init
loop-k-init c = readings_begin c.args.net.now (marks_of c.args.marks.now) c.args.block c.new-readings.result.items c.new-readings.ensures.items

pub overflow_cast-port : goal.overflow_cast-port
overflow_cast-port c = let few = ins_few c.spec-spec.result.now c.spec-spec.ensures.is_typed in omega (arith, few, c.loop-k-test.true, c.len-k-end.ensures.value)

pub overflow_add-port : goal.overflow_add-port
overflow_add-port c = let few = ins_few c.spec-spec.result.now c.spec-spec.ensures.is_typed in omega (arith, few, c.loop-k-test.true, c.len-k-end.ensures.value)

pub reading_of-reading-requires-clause-input : goal.reading_of-reading-requires-clause-input
reading_of-reading-requires-clause-input c =
    let same = ap (λ (s : Spec). length s.ins) c.spec-spec.ensures.value in
    record { block = c.requires.block; least = omega arith; most = omega (arith, same, c.loop-k-test.true, c.len-k-end.ensures.value) }

pub loop-k-preserved : goal.loop-k-preserved
loop-k-preserved c =
    subst (AreReadingsTo c.args.net.now (marks_of c.args.marks.now) c.args.block (c.loop-k.k + 1)) (sym c.in_ok-push.ensures.items)
    (readings_more c.args.net.now (marks_of c.args.marks.now) c.args.block c.loop-k.k c.loop-k.readings.items c.reading_of-reading.result c.loop-k.invariant c.reading_of-reading.ensures)

pub returns : goal.returns
returns c =
    let same = ap (λ (s : Spec). length s.ins) c.spec-spec.ensures.value in
    let most = c.loop-k.auto.k-end in
    let all : c.loop-k.k ≡ length (spec_of c.args.net.now c.args.block).ins = omega (arith, same, c.loop-k-test.false, most, c.len-k-end.ensures.value) in
    subst (λ (j : ℕ). AreReadingsTo c.args.net.now (marks_of c.args.marks.now) c.args.block j c.loop-k.readings.items) all c.loop-k.invariant
