use Rattle.std.proofs.Common.{◌≡◌, ◌∙◌, ℕ, List, eqb, sym, subst}
use Rattle.std.specs.Prelude.{Contains}
use Rattle.std.specs.List.{IsDistinct}
use Rattle.std.proofs.lemmas.List.Sorted.{Contains-permutation, IsPermutation-sym, IsNonDecreasingBy-from_sort}
use Rattle.std.proofs.lemmas.Map.Keys.{IsDistinct-IsPermutation, IsStrictlyIncreasing-from_distinct}
use Rattle.std.proofs.lemmas.Cmp.{nat_eq_equiv}
use Rattle.sci_dep.proofs.table.members.Goals as goal

pub returns-clause-rising : goal.returns-clause-rising
returns-clause-rising c =
    let put = c.in_ok-members.members.items in
    let sorted = c.sort_unstable.new.self.items in
    let same : put ≡ c.args.walk.now.found = c.in_ok-members.ensures.items_if_clones_equal (λ x y e. e) ∙ c.found.ensures.value in
    IsStrictlyIncreasing-from_distinct sorted (IsNonDecreasingBy-from_sort (λ x. x) sorted c.sort_unstable.ensures.sorted)
    (IsDistinct-IsPermutation eqb nat_eq_equiv.symm put sorted c.sort_unstable.ensures.permutation (subst (IsDistinct eqb) (sym same) c.found.ensures.distinct))

pub returns-clause-exactly : goal.returns-clause-exactly
returns-clause-exactly c =
    let put = c.in_ok-members.members.items in
    let sorted = c.sort_unstable.new.self.items in
    let same : put ≡ c.args.walk.now.found = c.in_ok-members.ensures.items_if_clones_equal (λ x y e. e) ∙ c.found.ensures.value in
    λ b. (
      (λ h. subst (λ (l : List ℕ). Contains l b) same (Contains-permutation sorted put b (IsPermutation-sym put sorted c.sort_unstable.ensures.permutation) h)),
      λ h. Contains-permutation put sorted b c.sort_unstable.ensures.permutation (subst (λ (l : List ℕ). Contains l b) (sym same) h),
    )
