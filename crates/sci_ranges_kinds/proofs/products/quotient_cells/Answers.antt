use Rattle.std.proofs.Common.{◌≡◌, ◌∙◌, Bool, refl, ap}
use Rattle.sci_ranges_base.specs.declared.cells.Cells.{Cells}
use Rattle.sci_ranges_base.specs.Cells.{on_some}
use Rattle.sci_ranges_rules.specs.Rules.{fitted_out}
use Rattle.sci_ranges_kinds.proofs.products.quotient_cells.Goals as goal

zeroed : {a b : Cells} {x y : Bool} → a ≡ b → x ≡ y → ◌≡◌ {A = Cells} (record a { zero = x }) (record b { zero = y })
zeroed e f = rw (e, f) refl

pub returns : goal.returns
returns c =
    c.or_zero.ensures ∙ zeroed (c.fitted_some-cells.ensures ∙ ap (on_some (fitted_out c.args.spec.now)) c.quotients.ensures.value) c.has.ensures
