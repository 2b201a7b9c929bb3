use Rattle.std.proofs.Common.{◌||◌, not, Bool, sym, ap, refl, ◌∙◌}
use Rattle.sci_forms.specs.declared.spec.Spec.{Spec}
use Rattle.sci_net.specs.Parts.{spec_of}
use Rattle.sci_ranges_pass.specs.Pass.{holds_next}
use Rattle.sci_ranges_marks.specs.View.{marks_of}
use Rattle.sci_ranges_find.specs.View.{ranges_of, rule_on}
use Rattle.sci_ranges_find.proofs.Passing.{rule_holds}
use Rattle.sci_ranges_find.proofs.pass.holds_rule.Goals as goal

pub returns-then-not-is_possible : goal.returns-then-not-is_possible
returns-then-not-is_possible c =
    ap (λ (t : Bool). not t || rule_on c.args.net.now c.args.inputs.now (marks_of c.args.marks.now) (ranges_of c.args.table.now) c.args.block c.args.ins.now)
    (sym c.if-not-is_possible.true ∙ c.is_possible.ensures)

pub returns-then-not-told : goal.returns-then-not-told
returns-then-not-told c =
    rule_holds c.args.net.now c.args.inputs.now (marks_of c.args.marks.now) (ranges_of c.args.table.now) c.args.block c.args.ins.now (sym c.is_possible.ensures ∙ c.if-not-is_possible.false)
    (sym c.in_ok-told.ensures ∙ c.if-not-told.true) (holds_next (spec_of c.args.net.now c.args.block) (ranges_of c.args.table.now) c.args.block c.args.ins.now) refl

pub returns : goal.returns
returns c =
    rule_holds c.args.net.now c.args.inputs.now (marks_of c.args.marks.now) (ranges_of c.args.table.now) c.args.block c.args.ins.now (sym c.is_possible.ensures ∙ c.if-not-is_possible.false)
    (sym c.in_ok-told.ensures ∙ c.if-not-told.false) c.holds_next.result
    (c.holds_next.ensures ∙ ap (λ (s : Spec). holds_next s (ranges_of c.args.table.now) c.args.block c.args.ins.now) c.spec.ensures.value)
