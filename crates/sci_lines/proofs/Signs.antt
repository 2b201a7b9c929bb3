-- Numbers with signs behind what stands before them, and what is written through a reference to a list.
use Rattle.std.proofs.Common.{◌≡◌, ℕ, suc, ◌+◌, ◌≤◌, ℤ, pos, negsuc, ◌<ℤ◌, ◌≤ℤ◌, List, [], ◌∷◌, ◌++◌, take, drop, length, Bool, true, false, ap, sym, subst, ◌∙◌, arith, append_assoc}
use lib.Dec.{T}
use mathlib.Core.Bool.{not}
use Rattle.std.specs.Int.Signed.{lt_z, lt_z_yes, lt_z_no}
use Rattle.std.specs.Prelude.{unsigned_abs}
use Rattle.std.specs.Fmt.{decimal, signed_decimal}
use Rattle.std.proofs.lemmas.Int.{ints}
use Rattle.std.proofs.lemmas.List.{take-take, take_at, length-take-le}

-- what a test of the sign says
pub is_negative : (n m : ℤ) → n ≡ m → lt_z n (pos 0) ≡ true → m <ℤ pos 0
is_negative n m e t = subst (λ (z : ℤ). z <ℤ pos 0) e (lt_z_yes (subst T (sym t) tt))

pub is_natural : (n m : ℤ) → n ≡ m → lt_z n (pos 0) ≡ false → pos 0 ≤ℤ m
is_natural n m e t = subst (λ (z : ℤ). pos 0 ≤ℤ z) e (lt_z_no (subst (λ (b : Bool). T (not b)) (sym t) tt))

-- the sign stays
pub negative_behind : (n : ℤ) (before marked whole : List ℕ) (at behind first a : ℕ) → n <ℤ pos 0 → take behind marked ≡ take at before ++ 45 ∷ [] → first ≡ behind → a ≡ unsigned_abs n
    → whole ≡ take first marked ++ decimal a → whole ≡ take at before ++ signed_decimal n
negative_behind (pos m) before marked whole at behind first a low put here abs is = absurd (omega (arith, ints, low))
negative_behind (negsuc m) before marked whole at behind first a low put here abs is =
    is ∙ ap (λ (k : ℕ). take k marked ++ decimal a) here ∙ ap (λ (l : List ℕ). l ++ decimal a) put ∙ append_assoc (take at before) (45 ∷ []) (decimal a)
    ∙ ap (λ (k : ℕ). take at before ++ 45 ∷ decimal k) abs

-- it is written over
pub natural_behind : (n : ℤ) (before marked whole : List ℕ) (at behind first a : ℕ) → pos 0 ≤ℤ n → at ≤ length before → take behind marked ≡ take at before ++ 45 ∷ [] → behind ≡ at + 1 → first ≡ at → a ≡ unsigned_abs n
    → whole ≡ take first marked ++ decimal a → whole ≡ take at before ++ signed_decimal n
natural_behind (negsuc m) before marked whole at behind first a low room put next here abs is = absurd (omega (arith, ints, low))
natural_behind (pos m) before marked whole at behind first a low room put next here abs is =
    let front : take at marked ≡ take at before =
    sym (take-take at behind marked (omega (arith, next))) ∙ ap (take at) put ∙ take_at (take at before) (45 ∷ []) at (length-take-le at before room) in
    is ∙ ap (λ (k : ℕ). take k marked ++ decimal a) here ∙ ap (λ (l : List ℕ). l ++ decimal a) front ∙ ap (λ (k : ℕ). take at before ++ decimal k) abs

pub written_back : {A : Type 0} (xs new : List A) (len : ℕ) → len ≡ length xs → length new ≡ length xs → take len (new ++ drop (length new) xs) ≡ new
written_back xs new len e h = take_at new (drop (length new) xs) len (h ∙ sym e)
