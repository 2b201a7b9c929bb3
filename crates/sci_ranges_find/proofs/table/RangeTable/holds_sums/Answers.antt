use Rattle.std.proofs.Common.{◌≡◌, ◌<◌, ℕ, true, sym, ap, ◌∙◌, subst, arith}
use Rattle.sci_forms.specs.declared.spec.Spec.{Spec}
use Rattle.sci_forms.specs.Ports.{total}
use Rattle.sci_net.specs.Parts.{spec_of}
use Rattle.sci_ranges_rules.proofs.Covers.{one_size}
use Rattle.sci_ranges_refined.proofs.Adding.{sum_asks}
use Rattle.sci_ranges_rows.specs.Tests.{all_below}
use Rattle.sci_ranges_marks.proofs.Rowed.{below_more, below_fails}
use Rattle.sci_ranges_pass.specs.Pass.{holds_cells}
use Rattle.sci_ranges_sums.specs.View.{sum_told}
use Rattle.sci_ranges_find.specs.View.{ranges_of}
use Rattle.sci_ranges_find.proofs.Counted.{outs_small}
use Rattle.sci_ranges_find.proofs.table.RangeTable.holds_sums.Goals.{After-holds_cells}
use Rattle.sci_ranges_find.proofs.table.RangeTable.holds_sums.Goals as goal

pub elements_of-e-end-requires : goal.elements_of-e-end-requires
elements_of-e-end-requires c =
    let small = outs_small c.args.net.now c.args.block c.well_formed-2.ensures c.requires.block in
    let same = ap (λ (s : Spec). total s.outs) c.spec.ensures.value in
    omega (arith, small, same)

pub told_sum-requires-clause-element : goal.told_sum-requires-clause-element
told_sum-requires-clause-element c =
    let a = sum_asks (spec_of c.args.net.now c.args.block) (c.well_formed-2.ensures.typed_specs c.args.block c.requires.block) c.requires.kind in
    let same = ap (λ (s : Spec). total s.outs) c.spec.ensures.value in
    let inside : c.loop-e.e < total (spec_of c.args.net.now c.args.block).outs = omega (arith, c.loop-e-test.true, c.elements_of-e-end.ensures, same) in
    one_size (spec_of c.args.net.now c.args.block) c.loop-e.e a.0.outs_alike a.0.one inside

is : (c : After-holds_cells) → c.holds_cells.result ≡ holds_cells (ranges_of c.args.self.now) c.args.block c.loop-e.e (sum_told c.args.net.now c.args.block c.args.ins.now c.args.beside.now c.loop-e.e)
is c = c.holds_cells.ensures ∙ ap (holds_cells (ranges_of c.args.self.now) c.args.block c.loop-e.e) c.told_sum.ensures

pub returns-then-not-holds_cells : goal.returns-then-not-holds_cells
returns-then-not-holds_cells c =
    let same = ap (λ (s : Spec). total s.outs) c.spec.ensures.value in
    sym (below_fails (λ e. holds_cells (ranges_of c.args.self.now) c.args.block e (sum_told c.args.net.now c.args.block c.args.ins.now c.args.beside.now e))
    (total (spec_of c.args.net.now c.args.block).outs) c.loop-e.e (omega (arith, c.loop-e-test.true, c.elements_of-e-end.ensures, same))
    (sym (is (goal.at.returns-then-not-holds_cells c).After-holds_cells) ∙ c.if-not-holds_cells.true))

pub loop-e-preserved : goal.loop-e-preserved
loop-e-preserved c =
    below_more (λ e. holds_cells (ranges_of c.args.self.now) c.args.block e (sum_told c.args.net.now c.args.block c.args.ins.now c.args.beside.now e)) c.loop-e.e c.loop-e.invariant
    (sym (is (goal.at.loop-e-preserved c).After-holds_cells) ∙ c.if-not-holds_cells.false)

pub returns : goal.returns
returns c =
    let same = ap (λ (s : Spec). total s.outs) c.spec.ensures.value in
    let all : c.loop-e.e ≡ total (spec_of c.args.net.now c.args.block).outs =
    let most = c.loop-e.auto.e-end in omega (arith, c.loop-e-test.false, most, c.elements_of-e-end.ensures, same) in
    sym (subst (λ (j : ℕ). all_below (λ e. holds_cells (ranges_of c.args.self.now) c.args.block e (sum_told c.args.net.now c.args.block c.args.ins.now c.args.beside.now e)) j ≡ true) all
    c.loop-e.invariant)
