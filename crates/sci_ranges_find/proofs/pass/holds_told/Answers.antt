use Rattle.std.proofs.Common.{◌≡◌, List, sym, ap, ◌∙◌, arith}
use Rattle.sci_forms.specs.declared.spec.Spec.{Spec}
use Rattle.sci_forms.specs.Ports.{total}
use Rattle.sci_net.specs.Parts.{spec_of}
use Rattle.sci_ranges_base.specs.declared.masks.Masks.{Masks}
use Rattle.sci_ranges_refined.specs.Sums.{is_sum}
use Rattle.sci_ranges_pass.specs.Ranges.{masks_for}
use Rattle.sci_ranges_pass.specs.Pass.{holds_values}
use Rattle.sci_ranges_pass.specs.Taken.{is_choice}
use Rattle.sci_ranges_pass.specs.Told.{aim}
use Rattle.sci_ranges_marks.specs.View.{marks_of}
use Rattle.sci_ranges_find.specs.View.{ranges_of}
use Rattle.sci_ranges_find.proofs.Counted.{outs_small}
use Rattle.sci_ranges_find.proofs.Passing.{told_sums, told_choices, told_values, sum_is, follows_block}
use Rattle.sci_ranges_find.proofs.pass.holds_told.Goals as goal
use Rattle.sci_ranges_find.proofs.pass.holds_told.Goals.{After-is_sum, After-is_choice}

sum : (c : After-is_sum) → c.is_sum.result ≡ is_sum (spec_of c.args.net.now c.args.block).kind
sum c = c.is_sum.ensures ∙ ap (λ (s : Spec). is_sum s.kind) c.spec-spec.ensures.value

pub holds_sums-requires-clause-kind : goal.holds_sums-requires-clause-kind
holds_sums-requires-clause-kind c = sym (sum (goal.at.holds_sums-requires-clause-kind c).After-is_sum) ∙ c.if-is_sum.true

pub holds_sums-requires-clause-followed : goal.holds_sums-requires-clause-followed
holds_sums-requires-clause-followed c =
    let m = marks_of c.args.marks.now in
    follows_block c.args.net.now c.args.inputs.now m (ranges_of c.args.table.now) (aim c.args.net.now m c.args.block) c.in_ok-beside.beside.followed c.in_ok-beside.ensures.followed

pub returns-then-is_sum : goal.returns-then-is_sum
returns-then-is_sum c =
    let n = c.args.net.now in
    let i = c.args.inputs.now in
    let m = marks_of c.args.marks.now in
    let r = ranges_of c.args.table.now in
    told_sums n i m r c.args.block c.args.ins.now c.holds_sums.result (sym (sum (goal.at.returns-then-is_sum c).After-is_sum) ∙ c.if-is_sum.true)
    (c.holds_sums.ensures ∙ sum_is n i m r c.args.block c.args.ins.now c.in_ok-beside.beside c.in_ok-beside.ensures)

choice : (c : After-is_choice) → c.is_choice.result ≡ is_choice (spec_of c.args.net.now c.args.block)
choice c = c.is_choice.ensures ∙ ap (λ (s : Spec). is_choice s) c.spec-spec.ensures.value

pub holds_choice-requires-clause-choice : goal.holds_choice-requires-clause-choice
holds_choice-requires-clause-choice c = sym (choice (goal.at.holds_choice-requires-clause-choice c).After-is_choice) ∙ c.if-is_choice.true

pub returns-then-is_choice : goal.returns-then-is_choice
returns-then-is_choice c =
    let n = c.args.net.now in
    told_choices n c.args.inputs.now (marks_of c.args.marks.now) (ranges_of c.args.table.now) c.args.block c.args.ins.now c.in_ok-told.told
    (sym (sum (goal.at.returns-then-is_choice c).After-is_sum) ∙ c.if-is_sum.false) (sym (choice (goal.at.returns-then-is_choice c).After-is_choice) ∙ c.if-is_choice.true)
    c.in_ok-told.ensures

pub holds_values-requires-clause-few : goal.holds_values-requires-clause-few
holds_values-requires-clause-few c =
    let same = ap (λ (s : Spec). total s.outs) c.spec-spec.ensures.value in
    let small = outs_small c.args.net.now c.args.block c.well_formed-2.ensures c.requires.block in
    omega (arith, same, small)

pub returns : goal.returns
returns c =
    let n = c.args.net.now in
    let m = marks_of c.args.marks.now in
    let r = ranges_of c.args.table.now in
    told_values n c.args.inputs.now m r c.args.block c.args.ins.now c.holds_values.result (sym (sum (goal.at.returns c).After-is_sum) ∙ c.if-is_sum.false)
    (sym (choice (goal.at.returns c).After-is_choice) ∙ c.if-is_choice.false)
    (c.holds_values.ensures
    ∙ (ap (λ (ms : List Masks). holds_values c.spec-spec.result.now r c.args.block ms c.args.ins.now) (c.deref.ensures.value ∙ c.in_ok-masks.ensures)
    ∙ ap (λ (s : Spec). holds_values s r c.args.block (masks_for n m c.args.block) c.args.ins.now) c.spec-spec.ensures.value))
