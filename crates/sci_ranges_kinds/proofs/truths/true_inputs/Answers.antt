use Rattle.std.proofs.Common.{◌≡◌, ◌∙◌, ◌≤◌, ℕ, length, pos, Option, Some, sym, ap, subst, arith}
use Rattle.std.specs.Prelude.{option_map}
use Rattle.sci_forms.specs.Words.{size}
use Rattle.sci_ranges_base.specs.declared.interval.Interval.{Interval}
use Rattle.sci_ranges_base.specs.Intervals.{from_to}
use Rattle.sci_ranges_rules.specs.Words.{truth_range, input_range, sums}
use Rattle.sci_ranges_kinds.proofs.Looping.{sums_none}
use Rattle.sci_ranges_kinds.proofs.Counting.{counted_none, counted_more}
use Rattle.sci_ranges_kinds.proofs.truths.true_inputs.Goals as goal

pub loop-k-init : goal.loop-k-init
loop-k-init c = counted_none (λ k. option_map truth_range (input_range (size c.args.spec.now) c.args.ins.now k c.args.e))

pub loop-k-preserved : goal.loop-k-preserved
loop-k-preserved c =
    let f : ℕ → Option Interval = λ k. option_map truth_range (input_range (size c.args.spec.now) c.args.ins.now k c.args.e) in
    let truth = ap (option_map truth_range) (sym c.in_ok-i.ensures) ∙ ap Some (sym c.truth_counts-more.ensures.range) in
    counted_more f c.loop-k.k c.loop-k.sure c.loop-k.may c.truth_counts-more.result.sure c.truth_counts-more.result.may truth
    c.truth_counts-more.ensures.order c.truth_counts-more.ensures.few
    c.loop-k.invariant

pub returns-in_err-i-clause-value : goal.returns-in_err-i-clause-value
returns-in_err-i-clause-value c =
    let f : ℕ → Option Interval = λ k. option_map truth_range (input_range (size c.args.spec.now) c.args.ins.now k c.args.e) in
    rw c.from_residual.ensures (sym (sums_none f (length c.args.spec.now.ins) c.loop-k.k (omega arith) (ap (option_map truth_range) (sym c.in_err-i.ensures))))

pub returns-clause-value : goal.returns-clause-value
returns-clause-value c =
    let f : ℕ → Option Interval = λ k. option_map truth_range (input_range (size c.args.spec.now) c.args.ins.now k c.args.e) in
    let all : c.loop-k.k ≡ length c.args.spec.now.ins = omega arith in
    sym (subst (λ n. sums f n ≡ Some (from_to (pos c.loop-k.sure) (pos c.loop-k.may))) all c.loop-k.invariant.is)

pub returns-clause-order : goal.returns-clause-order
returns-clause-order c =
    let few : c.loop-k.may ≤ 64 = omega (arith, c.requires.few, c.loop-k.invariant.few) in
    (c.loop-k.invariant.order, few)
