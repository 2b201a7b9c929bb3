-- Masks: numbers by their bits.
use Rattle.std.proofs.Common.{◌≡◌, ℕ, zero, suc, ◌+◌, ◌-◌, ◌*◌, ◌^◌, ◌<◌, max, Bool, true, false, cond, ◌⊎◌, inl, inr, ◌↔◌, ⊎_elim, refl, sym, ap, ◌∙◌, arith, true≢false}
use Rattle.std.proofs.lemmas.Bool.{cases_Bool, cases_lt, cases_eq}
use Rattle.std.proofs.lemmas.Nat.Bits.{bit_at_cat_low, bit_at_cat_high, bit_at_above, bit_at-zero, bit_at-lt, bit_at_or}
use Rattle.std.specs.Int.{bit_at}
use Rattle.std.specs.Int.Bits.{bit_or}

-- the number with bit p set for each p below k that passes the test
abbrev pub bits_of : (ℕ → Bool) → ℕ → ℕ
bits_of test zero = 0
bits_of test (suc k) = cond (test k) 1 0 * 2 ^ k + bits_of test k

pub bits_below : (test : ℕ → Bool) (k : ℕ) → bits_of test k < 2 ^ k
bits_below test zero = omega arith
bits_below test (suc k) =
    let less = bits_below test k in
    ⊎_elim (λ on. rw on (omega (arith, less))) (λ off. rw off (omega (arith, less))) (cases_Bool (test k))

bit_at_digit : (b : Bool) (i : ℕ) → (bit_at (cond b 1 0) i ≡ 1) ↔ ((i ≡ 0) × (b ≡ true))
bit_at_digit true zero = ((λ h. (refl, refl)), λ h. refl)
bit_at_digit true (suc i) = ((λ h. absurd (let z : bit_at 1 (suc i) ≡ 0 = bit_at_above 1 1 (suc i) (omega arith) (omega arith) in omega (arith, z, h))), λ h. absurd (omega (arith, h.0)))
bit_at_digit false i = ((λ h. absurd (let z : bit_at 0 i ≡ 0 = bit_at-zero i in omega (arith, z, h))), λ h. absurd (true≢false (sym h.1)))

pub bits_of-at : (test : ℕ → Bool) (k p : ℕ) → (bit_at (bits_of test k) p ≡ 1) ↔ ((p < k) × (test p ≡ true))
bits_of-at test zero p = ((λ h. absurd (let z : bit_at 0 p ≡ 0 = bit_at-zero p in omega (arith, z, h))), λ h. absurd (omega (arith, h.0)))
bits_of-at test (suc k) p =
    let less = bits_below test k in
    let rest = bits_of-at test k p in
    ⊎_elim
    (λ low. let e = bit_at_cat_low (cond (test k) 1 0) k (bits_of test k) p low in
    ((λ h. let g = rest.0 (sym e ∙ h) in (omega (arith, low), g.1)), λ h. e ∙ rest.1 (low, h.1)))
    (λ high. let e = bit_at_cat_high (cond (test k) 1 0) k (bits_of test k) p less high in
    let d = bit_at_digit (test k) (p - k) in (
      (λ h. let g = d.0 (sym e ∙ h) in let same : p ≡ k = omega (arith, g.0, high) in (omega (arith, same), ap test same ∙ g.1)),
      λ h. let same : p ≡ k = omega (arith, h.0, high) in e ∙ d.1 (omega (arith, same), ap test (sym same) ∙ h.1),
    ))
    (cases_lt p k)

max_one : (x y : ℕ) → x < 2 → y < 2 → (max x y ≡ 1) ↔ ((x ≡ 1) ⊎ (y ≡ 1))
max_one x y hx hy = (
  (λ h. ⊎_elim (λ on. inl on) (λ off. inr (omega arith)) (cases_eq x 1)),
  λ h. ⊎_elim (λ l. let k : max x y ≡ 1 = omega arith in k) (λ r. let k : max x y ≡ 1 = omega arith in k) h,
)

pub bit_or-at : (a b p : ℕ) → (bit_at (bit_or a b) p ≡ 1) ↔ ((bit_at a p ≡ 1) ⊎ (bit_at b p ≡ 1))
bit_or-at a b p =
    let e = bit_at_or a b p in
    let x = max_one (bit_at a p) (bit_at b p) (bit_at-lt a p) (bit_at-lt b p) in
    ((λ h. x.0 (sym e ∙ h)), λ h. e ∙ x.1 h)
