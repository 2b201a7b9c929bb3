use Rattle.std.proofs.Common.{◌≡◌, ◌∙◌, ap, arith, false, pos, ◌^◌, ◌<◌, FitsSigned, w64, sym, subst}
use Rattle.std.specs.Prelude.{int_lt, unsigned_abs}
use Rattle.std.proofs.lemmas.Int.{ints, to_z-of_z}
use Rattle.sci_base.specs.declared.Mode.TheVariants.{Wrap}
use Rattle.sci_base.specs.Fit.{fit}
use Rattle.sci_kinds.specs.Table.{fitted}
use Rattle.sci_bank_logic.proofs.PatternLemmas.{moved_fits, moved_is, width_at_most}
use Rattle.sci_bank_logic.proofs.shift.shifted.Goals as goal

pub overflow_mul-v : goal.overflow_mul-v
overflow_mul-v c =
    let few : unsigned_abs c.args.n < 32 = omega (arith, c.requires.places, width_at_most c.args.t) in
    let power : c.two_to.result ≡ 2 ^ unsigned_abs c.args.n = c.two_to.ensures ∙ ap (λ k. 2 ^ k) (c.unsigned_abs-places.ensures.value ∙ ap unsigned_abs (to_z-of_z w64 c.args.n c.ranges.n)) in
    subst (FitsSigned w64) (sym (moved_is c.args.t c.args.v (unsigned_abs c.args.n) c.two_to.result c.requires.in_range few c.ranges.v power).0) (moved_fits c.args.t c.args.v (unsigned_abs c.args.n) c.requires.in_range few)

pub returns-else-n-lt0 : goal.returns-else-n-lt0
returns-else-n-lt0 c =
    let few : unsigned_abs c.args.n < 32 = omega (arith, c.requires.places, width_at_most c.args.t) in
    let power : c.two_to.result ≡ 2 ^ unsigned_abs c.args.n = c.two_to.ensures ∙ ap (λ k. 2 ^ k) (c.unsigned_abs-places.ensures.value ∙ ap unsigned_abs (to_z-of_z w64 c.args.n c.ranges.n)) in
    let least : int_lt c.args.n (pos 0) ≡ false = grind (arith, ints) in
    rw least (c.cell_of.ensures ∙ ap fitted (c.fit.ensures ∙ ap (fit c.args.t Wrap) (moved_is c.args.t c.args.v (unsigned_abs c.args.n) c.two_to.result c.requires.in_range few c.ranges.v power).1))
