use Rattle.std.proofs.Common.{◌≡◌, ℕ, List, true, [], Some, Option, slice_index_or, sym, ap, ◌∙◌, subst, arith}
use Rattle.sci_kinds.specs.Table.{state_len}
use Rattle.sci_ranges_base.specs.declared.interval.Interval.{Interval}
use Rattle.sci_ranges_base.specs.Intervals.{within}
use Rattle.sci_ranges_rules.specs.Rules.{next_range, state_range}
use Rattle.sci_ranges_rows.specs.Tests.{all_below}
use Rattle.sci_ranges_marks.proofs.Rowed.{below_more, below_fails}
use Rattle.sci_ranges_find.specs.View.{ranges_of}
use Rattle.sci_ranges_find.proofs.table.RangeTable.holds_next.Goals.{After-within}
use Rattle.sci_ranges_find.proofs.table.RangeTable.holds_next.Goals as goal

is : (c : After-within) → c.within.result ≡ within (next_range c.args.spec.now (slice_index_or (ranges_of c.args.self.now).states c.args.block []) c.args.ins.now c.loop-k.k) (Some (state_range (slice_index_or (ranges_of c.args.self.now).states c.args.block []) c.loop-k.k))
is c =
    c.within.ensures
    ∙ (ap (λ (o : Option Interval). within o (Some c.state_range.result)) (c.next_range.ensures ∙ ap (λ (xs : List Interval). next_range c.args.spec.now xs c.args.ins.now c.loop-k.k) c.state-state.ensures)
    ∙ ap (λ (i : Interval). within (next_range c.args.spec.now (slice_index_or (ranges_of c.args.self.now).states c.args.block []) c.args.ins.now c.loop-k.k) (Some i))
    (c.state_range.ensures ∙ ap (λ (xs : List Interval). state_range xs c.loop-k.k) c.state-state.ensures))

pub returns-then-not-within : goal.returns-then-not-within
returns-then-not-within c =
    sym (below_fails (λ k. within (next_range c.args.spec.now (slice_index_or (ranges_of c.args.self.now).states c.args.block []) c.args.ins.now k) (Some (state_range (slice_index_or (ranges_of c.args.self.now).states c.args.block []) k))) (state_len c.args.spec.now) c.loop-k.k (omega (arith, c.loop-k-test.true, c.state_len-k-end.ensures))
    (sym (is (goal.at.returns-then-not-within c).After-within) ∙ c.if-not-within.true))

pub loop-k-preserved : goal.loop-k-preserved
loop-k-preserved c = below_more (λ k. within (next_range c.args.spec.now (slice_index_or (ranges_of c.args.self.now).states c.args.block []) c.args.ins.now k) (Some (state_range (slice_index_or (ranges_of c.args.self.now).states c.args.block []) k))) c.loop-k.k c.loop-k.invariant (sym (is (goal.at.loop-k-preserved c).After-within) ∙ c.if-not-within.false)

pub returns : goal.returns
returns c =
    let all : c.loop-k.k ≡ state_len c.args.spec.now = let most = c.loop-k.auto.k-end in omega (arith, c.loop-k-test.false, most, c.state_len-k-end.ensures) in
    sym (subst (λ (j : ℕ). all_below (λ k. within (next_range c.args.spec.now (slice_index_or (ranges_of c.args.self.now).states c.args.block []) c.args.ins.now k) (Some (state_range (slice_index_or (ranges_of c.args.self.now).states c.args.block []) k))) j ≡ true) all c.loop-k.invariant)
