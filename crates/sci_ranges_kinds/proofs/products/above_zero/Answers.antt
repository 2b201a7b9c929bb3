use Rattle.std.proofs.Common.{◌≡◌, ◌≢◌, ◌∙◌, pos, sym, subst, arith, to_z, of_z, w64}
use Rattle.std.proofs.lemmas.Int.{ints, clamps}
use Rattle.std.specs.Prelude.{IfSome}
use Rattle.std.specs.Int.{int_max}
use Rattle.sci_ranges_base.specs.declared.interval.Interval.{Interval}
use Rattle.sci_ranges_kinds.proofs.Corners.{positive_part, same_between}
use Rattle.sci_ranges_kinds.proofs.products.above_zero.Goals as goal

pub returns-clause-signs : goal.returns-clause-signs
returns-clause-signs c =
    let a : to_z w64 (of_z w64 c.max-first.result) ≡ int_max c.args.i.least (pos 1) = omega (arith, ints, clamps) in
    let b : to_z w64 (of_z w64 c.args.i.greatest) ≡ c.args.i.greatest = omega (arith, ints) in
    subst (λ o. IfSome o (λ (j : Interval). (j.least ≢ pos 0) × (j.greatest ≢ pos 0)))
    (sym (c.between.ensures ∙ same_between _ _ (int_max c.args.i.least (pos 1)) c.args.i.greatest a b))
    (positive_part c.args.i.least c.args.i.greatest)
