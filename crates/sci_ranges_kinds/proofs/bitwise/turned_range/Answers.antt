use Rattle.std.proofs.Common.{◌∙◌, ap, sym, subst, pos, w64}
use Rattle.std.specs.Prelude.{unsigned_abs}
use Rattle.std.specs.Int.{int_rem_euclid}
use Rattle.std.proofs.lemmas.Int.{to_z-of_z}
use Rattle.sci_base.specs.Fit.{width}
use Rattle.sci_ranges_rules.specs.Patterns.{InType, patterns_of, numbers_of}
use Rattle.sci_ranges_rules.proofs.Patterned.{patterns_in_type}
use Rattle.sci_ranges_kinds.proofs.Shifting.{same_turned}
use Rattle.sci_ranges_kinds.proofs.bitwise.turned_range.Goals as goal

pub turned_patterns-turned-requires-clause-patterns : goal.turned_patterns-turned-requires-clause-patterns
turned_patterns-turned-requires-clause-patterns c = subst (InType c.args.ty) (sym c.patterns_of-patterns.ensures) (patterns_in_type c.args.ty c.args.i)

pub returns : goal.returns
returns c =
    let left =
    c.places_left-left.ensures.value ∙ ap (λ z. unsigned_abs (int_rem_euclid z (pos (width c.args.ty)))) (to_z-of_z w64 c.args.places c.ranges.places) in
    c.numbers_of.ensures
    ∙ ap (numbers_of c.args.ty) (c.turned_patterns-turned.ensures ∙ same_turned c.args.ty c.places_left-left.result _ c.patterns_of-patterns.result
    (patterns_of c.args.ty c.args.i) left c.patterns_of-patterns.ensures)
