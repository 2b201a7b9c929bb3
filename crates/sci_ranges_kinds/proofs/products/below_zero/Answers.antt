use Rattle.std.proofs.Common.{◌≡◌, ◌≢◌, ◌∙◌, pos, negsuc, sym, subst, arith, to_z, of_z, w64}
use Rattle.std.proofs.lemmas.Int.{ints, clamps}
use Rattle.std.specs.Prelude.{IfSome}
use Rattle.std.specs.Int.{int_min}
use Rattle.sci_ranges_base.specs.declared.interval.Interval.{Interval}
use Rattle.sci_ranges_kinds.proofs.Corners.{negative_part, same_between}
use Rattle.sci_ranges_kinds.proofs.products.below_zero.Goals as goal

pub returns-clause-signs : goal.returns-clause-signs
returns-clause-signs c =
    let a : to_z w64 (of_z w64 c.args.i.least) ≡ c.args.i.least = omega (arith, ints) in
    let b : to_z w64 (of_z w64 c.min-last.result) ≡ int_min c.args.i.greatest (negsuc 0) = omega (arith, ints, clamps) in
    subst (λ o. IfSome o (λ (j : Interval). (j.least ≢ pos 0) × (j.greatest ≢ pos 0)))
    (sym (c.between.ensures ∙ same_between _ _ c.args.i.least (int_min c.args.i.greatest (negsuc 0)) a b))
    (negative_part c.args.i.least c.args.i.greatest)
