use Rattle.std.proofs.Common.{◌≡◌, ◌∙◌, ◌+◌, ◌-◌, ℕ, ℤ, ap, subst, arith, to_z, of_z, w64}
use Rattle.std.proofs.lemmas.Int.{to_z-of_z}
use Rattle.sci_kinds.specs.Table.{truth, logical, least_to, greatest_to}
use Rattle.sci_ranges_base.specs.Intervals.{from_to, one, hull}
use Rattle.sci_ranges_kinds.proofs.Counting.{range_first, range_more}
use Rattle.sci_ranges_kinds.proofs.truths.logical_range.Goals as goal

nothing_more : (n : ℕ) → n ≡ n + 0
nothing_more n = omega arith

pub loop-more-init : goal.loop-more-init
loop-more-init c =
    let op = to_z w64 (of_z w64 c.args.op) in
    let f : ℕ → ℤ = λ k. truth (logical op c.args.n (c.args.sure + k)) in
    range_first f c.logical_truth-all.result (c.logical_truth-all.ensures ∙ ap (λ k. one (truth (logical op c.args.n k))) (nothing_more c.args.sure))

pub loop-more-preserved : goal.loop-more-preserved
loop-more-preserved c =
    let op = to_z w64 (of_z w64 c.args.op) in
    let f : ℕ → ℤ = λ k. truth (logical op c.args.n (c.args.sure + k)) in
    range_more f c.loop-more.more c.loop-more.all c.hull-all.result (omega arith) c.loop-more.invariant
    (c.hull-all.ensures ∙ ap (hull c.loop-more.all) c.logical_truth.ensures)

pub returns : goal.returns
returns c =
    let op = to_z w64 (of_z w64 c.args.op) in
    let f : ℕ → ℤ = λ k. truth (logical op c.args.n (c.args.sure + k)) in
    let all : c.loop-more.more - 1 ≡ c.args.may - c.args.sure = omega arith in
    let is = subst (λ n. c.loop-more.all ≡ from_to (least_to f n) (greatest_to f n)) all c.loop-more.invariant in
    subst (λ z. c.loop-more.all
    ≡ from_to (least_to (λ k. truth (logical z c.args.n (c.args.sure + k))) (c.args.may - c.args.sure))
    (greatest_to (λ k. truth (logical z c.args.n (c.args.sure + k))) (c.args.may - c.args.sure)))
    (to_z-of_z w64 c.args.op c.ranges.op) is
