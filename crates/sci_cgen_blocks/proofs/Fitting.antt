-- Remainders that aren't negative by remainders of signed numbers, and the steps that fit a number into its type.
use Rattle.std.proofs.Common.{◌≡◌, ℕ, zero, suc, ◌+◌, ◌-◌, ◌%◌, ◌/◌, ◌*◌, suc-mul, ◌<◌, ◌≤◌, ◌<ℤ◌, ◌≤ℤ◌, ◌+ℤ◌, ◌-ℤ◌, ◌⊎◌, inl, inr, Option, Some, Bool, true, false, refl, sym, ap, ◌∙◌, arith, ℤ, pos, negsuc, mod-lt, mod-eq_of_lt, le_of_lt}
use Rattle.std.specs.Prelude.{neg_ℤ, int_lt, int_rem, unsigned_abs}
use Rattle.std.specs.Int.{int_rem_euclid}
use Rattle.std.proofs.lemmas.Int.{ints, rem_below}
use Rattle.std.proofs.Math.Nat.{add-mod_right}
use Rattle.std.proofs.lemmas.Nat.{mod-mul-add, div-add-mod'}
use Rattle.sci_base.specs.declared.Ty.{Ty}
use Rattle.sci_base.specs.declared.Mode.TheVariants.{Wrap}
use Rattle.sci_base.specs.Fit.{low, high, span, wrap, fit}
use Rattle.sci_base.proofs.FitLemmas.{low_at_least, high_at_most, low+span, span_pos, span_at_most, fit_inside, fit_below, fit_above, low≤high, rem_bounds}
use Rattle.c_ast.specs.declared.Op.TheVariants.{Add, Sub, Rem}
use Rattle.c_mean.specs.Meaning.{operate}
use Rattle.c_mean.specs.Laws.{Within}
use Rattle.sci_cgen_blocks.proofs.Operators.{add_is, sub_is, rem_by}

-- ---- remainders

rem_neg : (a n : ℕ) → 0 < n → int_rem (negsuc a) (pos n) +ℤ pos n ≡ pos (n - (suc a % n))
rem_neg a n h = neg_add (suc a % n) n (le_of_lt (mod-lt (suc a) h))
  where
    neg_add : (r n : ℕ) → r ≤ n → neg_ℤ (pos r) +ℤ pos n ≡ pos (n - r)
    neg_add r n h = omega (arith, ints, h)

mod_back : (a n : ℕ) → 0 < n → (n - suc a % n) % n ≡ n - 1 - a % n
mod_back a n h = by_rest (suc a % n) (suc a / n) (div-add-mod' (suc a) n) (mod-lt (suc a) h)
  where
    by_rest : (r q : ℕ) → q * n + r ≡ suc a → r < n → (n - r) % n ≡ n - 1 - a % n
    by_rest zero zero e l = absurd (omega (arith, e))
    by_rest zero (suc q) e l =
        let is : a ≡ q * n + (n - 1) = omega (arith, e, suc-mul q n, l) in
        let rest : a % n ≡ n - 1 = ap (λ (x : ℕ). x % n) is ∙ mod-mul-add q n (n - 1) (omega (arith, l)) in
        let none : (n - 0) % n ≡ 0 = ap (λ (x : ℕ). x % n) (omega arith) ∙ mod-mul-add 1 n 0 l in
        none ∙ omega (arith, rest)
    by_rest (suc r) q e l =
        let is : a ≡ q * n + r = omega (arith, e) in
        let rest : a % n ≡ r = ap (λ (x : ℕ). x % n) is ∙ mod-mul-add q n r (omega (arith, l)) in
        mod-eq_of_lt {n = n - suc r} {m = n} (omega (arith, l)) ∙ omega (arith, rest, l)

pub rem_twice : (z : ℤ) (n : ℕ) → 0 < n → int_rem (int_rem z (pos n) +ℤ pos n) (pos n) ≡ int_rem_euclid z (pos n)
rem_twice (pos a) n h = ap pos (add-mod_right (a % n) n ∙ mod-eq_of_lt (mod-lt a h))
rem_twice (negsuc a) n h = ap (λ (y : ℤ). int_rem y (pos n)) (rem_neg a n h) ∙ ap pos (mod_back a n h)

rem_small : (z : ℤ) (n : ℕ) → 0 < n → n ≤ 4294967296 → (negsuc 4294967295 ≤ℤ int_rem z (pos n)) × (int_rem z (pos n) ≤ℤ pos 4294967296)
rem_small z n h k = bounds (int_rem z (pos n)) (rem_below z (pos n) h)
  where
    bounds : (y : ℤ) → unsigned_abs y < n → (negsuc 4294967295 ≤ℤ y) × (y ≤ℤ pos 4294967296)
    bounds (pos a) q = (omega (arith, ints), omega (arith, ints, q, k))
    bounds (negsuc a) q = (omega (arith, ints, q, k), omega (arith, ints))

-- what `modulo` and `wrapped` make of a value
abbrev pub modulo_of : Option ℤ → ℕ → Option ℤ
modulo_of p n = operate Rem (operate Add (operate Rem p (Some (pos n))) (Some (pos n))) (Some (pos n))

abbrev pub wrapped_of : Ty → Option ℤ → Option ℤ
wrapped_of ty p = operate Add (Some (low ty)) (modulo_of (operate Sub p (Some (low ty))) (span ty))

-- a remainder that isn't negative
pub modulo_is : {p : Option ℤ} {z : ℤ} → p ≡ Some z → (n : ℕ) → 0 < n → n ≤ 4294967296 → Within z → modulo_of p n ≡ Some (int_rem_euclid z (pos n))
modulo_is {z} e n h k w =
    let small = rem_small z n h k in
    let sum : Within (int_rem z (pos n) +ℤ pos n) = record {
      above = omega (arith, ints, small.0, small.1, k);
      below = omega
          (arith, ints, small.0, small.1, k);
    } in
    rem_by (add_is (rem_by e n h w) refl sum) n h sum ∙ ap Some (rem_twice z n h)

-- ---- wrapping

pub wrapped_is : {p : Option ℤ} {z : ℤ} → p ≡ Some z → (ty : Ty) → Within (z -ℤ low ty) → wrapped_of ty p ≡ Some (wrap ty z)
wrapped_is {z} e ty w =
    let l = low_at_least ty in
    let h = high_at_most ty in
    let lh = low≤high ty in
    let sm = span_at_most ty in
    let rb = rem_bounds (z -ℤ low ty) (span ty) (span_pos ty) in
    add_is refl (modulo_is (sub_is e refl w) (span ty) (span_pos ty) sm w)
    (record { above = omega (arith, ints, rb.0, rb.1, l, h, lh, sm); below = omega (arith, ints, rb.0, rb.1, l, h, lh, sm) })

pub cases_below : (a b : ℤ) → (a <ℤ b) ⊎ (b ≤ℤ a)
cases_below a b = by_case (int_lt a b) refl
  where
    by_case : (t : Bool) → int_lt a b ≡ t → (a <ℤ b) ⊎ (b ≤ℤ a)
    by_case true e = inl (grind (arith, ints))
    by_case false e = inr (grind (arith, ints))

pub lt_yes : (a b : ℤ) → a <ℤ b → int_lt a b ≡ true
lt_yes a b h = grind (arith, ints)

pub lt_no : (a b : ℤ) → b ≤ℤ a → int_lt a b ≡ false
lt_no a b h = grind (arith, ints)

pub wrap_inside : (t : Ty) (z : ℤ) → low t ≤ℤ z → z ≤ℤ high t → wrap t z ≡ z
wrap_inside t z l h = same_inside (low t) z (span t) l (omega (arith, ints, h, low+span t))
  where
    of_pos : (y : ℤ) (n : ℕ) → pos 0 ≤ℤ y → y <ℤ pos n → int_rem_euclid y (pos n) ≡ y
    of_pos (pos a) n l h = ap pos (mod-eq_of_lt (omega (arith, ints, h)))
    of_pos (negsuc a) n l h = absurd (omega (arith, ints, l))

    same_inside : (lo z : ℤ) (n : ℕ) → lo ≤ℤ z → z <ℤ (lo +ℤ pos n) → lo +ℤ int_rem_euclid (z -ℤ lo) (pos n) ≡ z
    same_inside lo z n l h = rw (of_pos (z -ℤ lo) n (omega (arith, ints, l)) (omega (arith, ints, h))) (omega (arith, ints))

pub fit_wrap : (t : Ty) (z : ℤ) → fit t Wrap z ≡ Some (wrap t z)
fit_wrap t z = elim (cases_below z (low t)) [
  | inl l ↦ fit_below t Wrap z l
  | inr l ↦ elim (cases_below (high t) z) [
    | inl h ↦ fit_above t Wrap z h
    | inr h ↦ fit_inside t Wrap z l h ∙ ap Some (sym (wrap_inside t z l h))
  ]
]
