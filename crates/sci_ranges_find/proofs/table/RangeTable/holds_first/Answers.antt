use Rattle.std.proofs.Common.{◌≡◌, ◌<◌, ℕ, List, true, [], slice_index_or, sym, ap, ◌∙◌, subst, arith, w64, rules}
use Rattle.std.proofs.lemmas.Int.{to_z-of_z}
use Rattle.sci_base.specs.Lists.{at, spread}
use Rattle.sci_kinds.specs.Table.{state_len, first_state}
use Rattle.sci_kinds.proofs.Elements.{listed_at}
use Rattle.sci_ranges_base.specs.declared.interval.Interval.{Interval}
use Rattle.sci_ranges_base.specs.Intervals.{has}
use Rattle.sci_ranges_rules.specs.Rules.{state_range}
use Rattle.sci_ranges_rows.specs.Tests.{all_below}
use Rattle.sci_ranges_marks.proofs.Rowed.{below_more, below_fails}
use Rattle.sci_ranges_find.specs.View.{ranges_of}
use Rattle.sci_ranges_find.proofs.table.RangeTable.holds_first.Goals.{After-has}
use Rattle.sci_ranges_find.proofs.table.RangeTable.holds_first.Goals as goal

is : (c : After-has) → c.has.result ≡ has (state_range (slice_index_or (ranges_of c.args.self.now).states c.args.block []) c.loop-k.k) (at (first_state c.args.spec.now) c.loop-k.k)
is c =
    let within : c.loop-k.k < state_len c.args.spec.now = omega (arith, c.loop-k-test.true, c.state_len-k-end.ensures) in
    c.has.ensures
    ∙ (ap (has c.state_range.result) (to_z-of_z w64 c.first_state.result (search rules))
    ∙ (ap (λ (i : Interval). has i c.first_state.result) (c.state_range.ensures ∙ ap (λ (xs : List Interval). state_range xs c.loop-k.k) c.state-state.ensures)
    ∙ ap (has (state_range (slice_index_or (ranges_of c.args.self.now).states c.args.block []) c.loop-k.k)) (c.first_state.ensures ∙ sym ((listed_at (spread c.args.spec.now.state) (state_len c.args.spec.now)).1 c.loop-k.k within))))

pub returns-then-not-has : goal.returns-then-not-has
returns-then-not-has c =
    sym (below_fails (λ k. has (state_range (slice_index_or (ranges_of c.args.self.now).states c.args.block []) k) (at (first_state c.args.spec.now) k)) (state_len c.args.spec.now) c.loop-k.k (omega (arith, c.loop-k-test.true, c.state_len-k-end.ensures))
    (sym (is (goal.at.returns-then-not-has c).After-has) ∙ c.if-not-has.true))

pub loop-k-preserved : goal.loop-k-preserved
loop-k-preserved c = below_more (λ k. has (state_range (slice_index_or (ranges_of c.args.self.now).states c.args.block []) k) (at (first_state c.args.spec.now) k)) c.loop-k.k c.loop-k.invariant (sym (is (goal.at.loop-k-preserved c).After-has) ∙ c.if-not-has.false)

pub returns : goal.returns
returns c =
    let all : c.loop-k.k ≡ state_len c.args.spec.now = let most = c.loop-k.auto.k-end in omega (arith, c.loop-k-test.false, most, c.state_len-k-end.ensures) in
    sym (subst (λ (j : ℕ). all_below (λ k. has (state_range (slice_index_or (ranges_of c.args.self.now).states c.args.block []) k) (at (first_state c.args.spec.now) k)) j ≡ true) all c.loop-k.invariant)
