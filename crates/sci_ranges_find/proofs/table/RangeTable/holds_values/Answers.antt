use Rattle.std.proofs.Common.{◌≡◌, ℕ, List, true, [], slice_index_or, sym, ap, ◌∙◌, subst, arith}
use Rattle.sci_forms.specs.Ports.{total}
use Rattle.sci_ranges_base.specs.declared.interval.Interval.{Interval}
use Rattle.sci_ranges_rules.specs.Rules.{cells}
use Rattle.sci_ranges_rows.specs.Tests.{all_below}
use Rattle.sci_ranges_marks.proofs.Rowed.{below_more, below_fails}
use Rattle.sci_ranges_pass.specs.Pass.{holds_cells}
use Rattle.sci_ranges_find.specs.View.{ranges_of}
use Rattle.sci_ranges_find.proofs.table.RangeTable.holds_values.Goals.{After-holds_cells}
use Rattle.sci_ranges_find.proofs.table.RangeTable.holds_values.Goals as goal

is : (c : After-holds_cells) → c.holds_cells.result ≡ holds_cells (ranges_of c.args.self.now) c.args.block c.loop-e.e (cells c.args.spec.now (slice_index_or (ranges_of c.args.self.now).states c.args.block []) c.args.masks.now c.args.ins.now c.loop-e.e)
is c =
    c.holds_cells.ensures
    ∙ ap (holds_cells (ranges_of c.args.self.now) c.args.block c.loop-e.e)
    (c.cells.ensures ∙ ap (λ (xs : List Interval). cells c.args.spec.now xs c.args.masks.now c.args.ins.now c.loop-e.e) c.state-state.ensures)

pub returns-then-not-holds_cells : goal.returns-then-not-holds_cells
returns-then-not-holds_cells c =
    sym (below_fails (λ e. holds_cells (ranges_of c.args.self.now) c.args.block e (cells c.args.spec.now (slice_index_or (ranges_of c.args.self.now).states c.args.block []) c.args.masks.now c.args.ins.now e)) (total c.args.spec.now.outs) c.loop-e.e (omega (arith, c.loop-e-test.true, c.elements_of-e-end.ensures))
    (sym (is (goal.at.returns-then-not-holds_cells c).After-holds_cells) ∙ c.if-not-holds_cells.true))

pub loop-e-preserved : goal.loop-e-preserved
loop-e-preserved c = below_more (λ e. holds_cells (ranges_of c.args.self.now) c.args.block e (cells c.args.spec.now (slice_index_or (ranges_of c.args.self.now).states c.args.block []) c.args.masks.now c.args.ins.now e)) c.loop-e.e c.loop-e.invariant (sym (is (goal.at.loop-e-preserved c).After-holds_cells) ∙ c.if-not-holds_cells.false)

pub returns : goal.returns
returns c =
    let all : c.loop-e.e ≡ total c.args.spec.now.outs = let most = c.loop-e.auto.e-end in omega (arith, c.loop-e-test.false, most, c.elements_of-e-end.ensures) in
    sym (subst (λ (j : ℕ). all_below (λ e. holds_cells (ranges_of c.args.self.now) c.args.block e (cells c.args.spec.now (slice_index_or (ranges_of c.args.self.now).states c.args.block []) c.args.masks.now c.args.ins.now e)) j ≡ true) all c.loop-e.invariant)
