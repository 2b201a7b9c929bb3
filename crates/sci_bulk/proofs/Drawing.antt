-- Data blocks are drawn one after the other.
use Rattle.std.proofs.Common.{◌≡◌, ◌+◌, ◌-◌, ◌<◌, ◌++◌, ℕ, suc, List, [], ◌∷◌, sym, ◌∙◌, ap, arith, add-one, append_assoc}
use Rattle.sci_bulk.specs.declared.data_block.DataBlock.{DataBlock}
use Rattle.sci_bulk.specs.Bulk.{data_block, behind_block, blocks_from}

next_one : (left i x : ℕ) (before : ℕ) → before ≡ suc left → blocks_from before i x ≡ data_block i x ∷ blocks_from left (i + 1) (behind_block x)
next_one left i x before e = ap (λ (n : ℕ). blocks_from n i x) e ∙ ap (λ (j : ℕ). data_block i x ∷ blocks_from left j (behind_block x)) (sym (add-one i))

-- one more is made, and one less is left
pub one_more : (done all : List DataBlock) (n i x : ℕ) → i < n → done ++ blocks_from (n - i) i x ≡ all → (done ++ data_block i x ∷ []) ++ blocks_from (n - (i + 1)) (i + 1) (behind_block x) ≡ all
one_more done all n i x less e =
    let left : n - i ≡ suc (n - (i + 1)) = omega arith in
    append_assoc done (data_block i x ∷ []) (blocks_from (n - (i + 1)) (i + 1) (behind_block x)) ∙ (ap (λ (ds : List DataBlock). done ++ ds) (sym (next_one (n - (i + 1)) i x (n - i) left)) ∙ e)
