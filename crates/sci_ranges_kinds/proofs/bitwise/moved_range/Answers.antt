use Rattle.std.proofs.Common.{◌≡◌, ◌∙◌, false, pos, sym, ap, w64}
use Rattle.std.proofs.lemmas.Int.{to_z-of_z}
use Rattle.sci_base.specs.Fit.{int_eq}
use Rattle.sci_ranges_rules.specs.Words.{turned_range}
use Rattle.sci_ranges_kinds.proofs.bitwise.moved_range.Goals as goal

pub returns-else-is_equal : goal.returns-else-is_equal
returns-else-is_equal c =
    let code = c.is_equal.ensures ∙ ap (λ z. int_eq z (pos 0)) (to_z-of_z w64 c.args.code c.ranges.code) in
    let told : int_eq c.args.code (pos 0) ≡ false = sym code ∙ c.if-is_equal.false in
    rw told (c.turned_range.ensures ∙ ap (λ z. turned_range c.args.ty z c.args.i) (to_z-of_z w64 c.args.places c.ranges.places))
