use Rattle.std.proofs.Common.{◌≡◌, ◌∙◌, false, pos, sym, ap, rules, FitsSigned, w64}
use Rattle.std.proofs.lemmas.Int.{to_z-of_z}
use Rattle.sci_base.specs.Fit.{int_eq}
use Rattle.sci_forms.specs.Words.{param}
use Rattle.sci_ranges_kinds.proofs.products.product_cells.Goals as goal

pub returns-else-is_equal : goal.returns-else-is_equal
returns-else-is_equal c =
    let fits : FitsSigned w64 c.at.result = search rules in
    let code = c.is_equal.ensures ∙ ap (λ z. int_eq z (pos 1)) (to_z-of_z w64 c.at.result fits ∙ c.at.ensures) in
    let told : int_eq (param c.args.spec.now 1) (pos 1) ≡ false = sym code ∙ c.if-is_equal.false in
    rw told c.quotient_cells.ensures
