-- What the sort of ranks gives, where there was memory.
use Rattle.std.proofs.Common.{◌≡◌, ℕ, List, map, Contains, AllPairs, ◌↔◌, Vec, subst, sym}
use Rattle.std.specs.Prelude.{Result, Ok, Err, IfOk}
use Rattle.std.specs.List.Sorted.{IsPermutation, IsSortedBy, IsStrictlyIncreasing}
use Rattle.std.specs.Ordering.{is_lt}
use Rattle.std.specs.declared.alloc.Global.{Global}
use Rattle.sci_sched.specs.declared.ranks.Rank.{Rank}
use Rattle.sci_sched.specs.Depths.{rank, IsBefore}
use Rattle.sci_sched.proofs.Ranked.{rank_cmp, ranked_exactly, ranked_ordered}

module _ {E : Type 0} (depths blocks : List ℕ) (made sorted rs : List Rank) (r : Result (Vec ℕ Global) E) (rising : IsStrictlyIncreasing blocks) (is_made : made ≡ map (rank depths) blocks)
    (moved : IsPermutation made sorted) (same : rs ≡ sorted) where
  permuted : IsPermutation (map (rank depths) blocks) rs
  permuted = subst (λ ys. IsPermutation (map (rank depths) blocks) ys) (sym same) (subst (λ xs. IsPermutation xs sorted) is_made moved)

  pub exactly : IfOk r (λ v. v.items ≡ map (λ (x : Rank). x.block) rs) → IfOk r (λ v. (b : ℕ) → Contains v.items b ↔ Contains blocks b)
  exactly = by r
    where
      by : (q : Result (Vec ℕ Global) E) → IfOk q (λ v. v.items ≡ map (λ (x : Rank). x.block) rs) → IfOk q (λ v. (b : ℕ) → Contains v.items b ↔ Contains blocks b)
      by (Ok v) named = λ b. ranked_exactly depths blocks rs v.items rising permuted named b
      by (Err e) named = tt

  pub ordered : IsSortedBy (λ x y. is_lt (rank_cmp x y)) sorted → IfOk r (λ v. v.items ≡ map (λ (x : Rank). x.block) rs) → IfOk r (λ v. AllPairs (IsBefore depths) v.items)
  ordered in_order = by r
    where
      by : (q : Result (Vec ℕ Global) E) → IfOk q (λ v. v.items ≡ map (λ (x : Rank). x.block) rs) → IfOk q (λ v. AllPairs (IsBefore depths) v.items)
      by (Ok v) named = ranked_ordered depths blocks rs v.items rising permuted named (subst (IsSortedBy (λ x y. is_lt (rank_cmp x y))) (sym same) in_order)
      by (Err e) named = tt
