use Rattle.std.proofs.Common.{◌≡◌, ◌∙◌, ◌+◌, ℤ, Option, refl, ap, rules, FitsSigned, w64}
use Rattle.std.proofs.lemmas.Int.{to_z-of_z}
use Rattle.sci_forms.specs.Words.{param, size}
use Rattle.sci_ranges_base.specs.declared.interval.Interval.{Interval}
use Rattle.sci_ranges_base.specs.Intervals.{join, range_at}
use Rattle.sci_ranges_base.specs.Cells.{valued}
use Rattle.sci_ranges_rules.specs.Words.{if_so, may_take_first, may_take_third}
use Rattle.sci_ranges_kinds.proofs.choices.switch2.Goals as goal

same : (a b x y : ℤ) (i : Interval) (o p q r : Option Interval) → a ≡ x → b ≡ y → o ≡ q → p ≡ r
    → join (if_so (may_take_first a b i) o) (if_so (may_take_third a b i) p) ≡ join (if_so (may_take_first x y i) q) (if_so (may_take_third x y i) r)
same a b x y i o p q r e f g h = rw (e, f, g, h) refl

pub returns : goal.returns
returns c =
    let s = c.args.spec.now in
    let us = c.args.ins.now in
    let fits_code : FitsSigned w64 c.at-code.result = search rules in
    let code = to_z-of_z w64 c.at-code.result fits_code ∙ c.at-code.ensures in
    let fits_number : FitsSigned w64 c.at-number.result = search rules in
    let number = to_z-of_z w64 c.at-number.result fits_number ∙ c.at-number.ensures in
    let third = c.range_at-third.ensures ∙ ap (λ n. range_at us (n + 1 + c.args.e)) c.size-n.ensures.value in
    let value = c.in_ok-i.ensures ∙ ap (range_at us) c.size-n.ensures.value in
    rw (← value)
    (c.valued.ensures
    ∙ ap valued (c.switched-all.ensures
    ∙ same _ _ (param s 0) (param s 1) c.in_ok-i.i _ _ (range_at us c.args.e) (range_at us (size s + 1 + c.args.e)) code number c.range_at-first.ensures third))

pub returns-in_err-i : goal.returns-in_err-i
returns-in_err-i c =
    let value = c.in_err-i.ensures ∙ ap (range_at c.args.ins.now) c.size-n.ensures.value in
    rw (c.from_residual.ensures, ← value) refl
