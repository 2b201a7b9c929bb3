-- Steps of two lists, places, and counts.
use Rattle.std.proofs.Common.{◌≡◌, ℕ, zero, suc, ◌+◌, ◌≤◌, ℤ, pos, negsuc, List, [], ◌∷◌, ◌++◌, length, map, true, ◌⊎◌, inl, inr, refl, ap, subst, arith, length-append}
use Rattle.std.specs.Prelude.{nat_eq, nat_le, int_le}
use Rattle.std.specs.List.{range_with_len}
use Rattle.std.proofs.lemmas.Bool.Decides.{nat_tests}
use Rattle.std.proofs.lemmas.List.{append_cancel_left}
use Rattle.sci_base.specs.Fit.{int_eq}
use Rattle.sci_diagram.specs.declared.diagram.End.{End}
use Rattle.sci_blocks.specs.Ports.{times}
use Rattle.sci_blocks.specs.Kept.{ends_at}
use Rattle.sci_flat.specs.Chain.{Step}

pub step_append : {A : Type 0} (xs ys : List (A × A)) (p q : A) → Step (xs ++ ys) p q → Step xs p q ⊎ Step ys p q
step_append [] ys p q s = inr s
step_append (x ∷ xs) ys p q (inl e) = inl (inl e)
step_append (x ∷ xs) ys p q (inr s) = elim (step_append xs ys p q s) [ inl a ↦ inl (inr a) | inr b ↦ inr b ]

-- a list of steps each of which has a property
pub step_map : {A : Type 0} (f : ℕ → A × A) (P : A → A → Type 0) → ((k : ℕ) → P (f k).0 (f k).1) → (b n : ℕ) (p q : A) → Step (map f (range_with_len b n)) p q → P p q
step_map f P h b zero p q s = absurd s
step_map f P h b (suc n) p q (inl e) = subst (λ x. P p x) e.1 (subst (λ x. P x (f b).1) e.0 (h b))
step_map f P h b (suc n) p q (inr s) = step_map f P h (b + 1) n p q s

-- ---- places

pub not_longer : (at : List ℕ) (j : ℕ) (xs : List ℕ) → at ≡ at ++ j ∷ xs → ⊥
not_longer at j xs e = omega (arith, ap length e, length-append at (j ∷ xs))

pub same_first : (at : List ℕ) (j k : ℕ) (xs ys : List ℕ) → at ++ j ∷ xs ≡ at ++ k ∷ ys → j ≡ k
same_first at j k xs ys e = let t = append_cancel_left at (j ∷ xs) (k ∷ ys) e in cc

pub same_rest : (at : List ℕ) (j k : ℕ) (xs ys : List ℕ) → at ++ j ∷ xs ≡ at ++ k ∷ ys → xs ≡ ys
same_rest at j k xs ys e = let t = append_cancel_left at (j ∷ xs) (k ∷ ys) e in cc

-- ---- counts

pub times-append : (n : ℕ) (xs ys : List ℕ) → times n (xs ++ ys) ≡ times n xs + times n ys
times-append n [] ys = omega arith
times-append n (x ∷ xs) ys = omega (arith, times-append n xs ys)

pub ends_at-append : (b p : ℤ) (xs ys : List End) → ends_at b p (xs ++ ys) ≡ ends_at b p xs + ends_at b p ys
ends_at-append b p [] ys = omega arith
ends_at-append b p (x ∷ xs) ys = omega (arith, ends_at-append b p xs ys)

nat_same : (n : ℕ) → nat_eq n n ≡ true
nat_same n = grind (arith, nat_tests)

pub one_up : (n : ℕ) → nat_le 1 (suc n) ≡ true
one_up n = grind (arith, nat_tests)

nat_le_same : (n : ℕ) → nat_le n n ≡ true
nat_le_same n = grind (arith, nat_tests)

pub times_own : (n : ℕ) → 1 ≤ times n (n ∷ [])
times_own n = rw (nat_same n) (omega arith)

int_le_same : (z : ℤ) → int_le z z ≡ true
int_le_same (pos n) = nat_le_same n
int_le_same (negsuc n) = nat_le_same n

int_eq_same : (z : ℤ) → int_eq z z ≡ true
int_eq_same z = rw (int_le_same z) refl

-- an end is at its own port
pub ends_own : (e : End) → 1 ≤ ends_at e.block e.port (e ∷ [])
ends_own e = rw (int_eq_same e.block, int_eq_same e.port) (omega arith)
