use Rattle.std.proofs.Common.{◌≡◌, ◌-◌, ◌+◌}
use Rattle.sci_kinds.specs.Table.{truth, logical, least_to, greatest_to}
use Rattle.sci_ranges_base.specs.Intervals.{from_to}
use Rattle.sci_ranges_kinds.proofs.truths.logical_range.Given as goal

abbrev pub invariant-loop-more : goal.invariant-loop-more
invariant-loop-more l =
    l.all ≡ from_to (least_to (λ k. truth (logical l.op l.n (l.sure + k))) (l.more - 1)) (greatest_to (λ k. truth (logical l.op l.n (l.sure + k))) (l.more - 1))
