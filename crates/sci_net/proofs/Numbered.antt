-- Elements counted from 1.
use Rattle.std.proofs.Common.{◌≡◌, ℕ, zero, suc, ◌-◌, ◌+◌, ◌<◌, ◌≤◌, List, length, get_or, map, slice_index_or, refl, sym, ◌∙◌, ap, subst, arith}
use Rattle.std.proofs.lemmas.List.{get_or-map, get_or_default}
use Rattle.sci_net.specs.Parts.{numbered}

pub numbered_map : {A B : Type 0} (f : A → B) (d : B) (xs : List A) (b : ℕ) (v : A) → 1 ≤ b → b ≤ length xs → v ≡ get_or xs (b - 1) v → numbered d (map f xs) b ≡ f v
numbered_map f d xs zero v h k e = absurd (omega arith)
numbered_map f d xs (suc n) v h k e =
    let i : suc n - 1 ≡ n = omega arith in
    let within : n < length xs = omega arith in
    get_or-map f xs n v d within ∙ ap f (sym (subst (λ (j : ℕ). v ≡ get_or xs j v) i e))

pub numbered_read : {A : Type 0} (d : A) (xs : List A) (b : ℕ) (v : A) → 1 ≤ b → b ≤ length xs → v ≡ get_or xs (b - 1) v → v ≡ numbered d xs b
numbered_read d xs zero v h k e = absurd (omega arith)
numbered_read d xs (suc n) v h k e =
    let i : suc n - 1 ≡ n = omega arith in
    let within : n < length xs = omega arith in
    subst (λ (j : ℕ). v ≡ get_or xs j v) i e ∙ get_or_default xs n v d within

-- the element at i, counted from 0, is number i + 1
pub numbered_next : {A : Type 0} (d : A) (xs : List A) (i : ℕ) → numbered d xs (i + 1) ≡ slice_index_or xs i d
numbered_next d xs i = let e : i + 1 ≡ suc i = omega arith in rw e refl
