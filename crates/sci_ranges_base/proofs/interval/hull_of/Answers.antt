use Rattle.std.proofs.Common.{rules, ◌≡◌, ◌+◌, Some, get_or, take, pos, sym, ap, ◌∙◌, subst, arith, FitsSigned, w64, to_z, of_z}
use Rattle.std.proofs.lemmas.Int.{ints}
use Rattle.sci_ranges_base.specs.Intervals.{one, join}
use Rattle.sci_ranges_base.proofs.Hulls.{IsHullSoFar, hull_more}
use Rattle.sci_ranges_base.proofs.interval.hull_of.Goals as goal

pub loop-v-preserved : goal.loop-v-preserved
loop-v-preserved c =
    let fits : FitsSigned w64 (get_or c.args.values.now c.loop-v.v-index (pos 0)) = search rules in
    let e : to_z w64 (of_z w64 (get_or c.args.values.now c.loop-v.v-index (pos 0))) ≡ get_or c.args.values.now c.loop-v.v-index (pos 0) = omega (arith, ints) in
    subst (IsHullSoFar (take (c.loop-v.v-index + 1) c.args.values.now)) (sym (c.join-all.ensures ∙ ap (λ i. join c.loop-v.all (Some i)) (c.one.ensures ∙ ap one e)))
    (hull_more c.args.values.now c.loop-v.v-index (pos 0) c.loop-v.all c.loop-v-test.true c.loop-v.invariant)
