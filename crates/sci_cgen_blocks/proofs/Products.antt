-- The recipes of GainBlk and Product. Products of two numbers of uint32 go by halves, or by a test.
use Rattle.std.proofs.Common.{◌≡◌, ℕ, zero, suc, ◌+◌, ◌*◌, ◌/◌, ◌%◌, ◌<◌, ◌≤◌, ◌≤ℤ◌, ◌*ℤ◌, neg_ℤ, ◌&&◌, ◌||◌, Option, Some, Bool, true, false, ◌⊎◌, inl, inr, refl, sym, ap, ◌∙◌, arith, ℤ, pos, negsuc, if◌then◌else◌, List, ◌∷◌, length, div-le_self, mul-le-mul}
use Rattle.std.specs.Prelude.{int_lt, int_le, int_div, not, unsigned_abs}
use Rattle.std.proofs.lemmas.Int.{ints, unsigned_abs-mul}
use Rattle.std.proofs.lemmas.Nat.{div-add-mod', mod_below, div_below, mul-lt}
use Rattle.std.proofs.lemmas.Bool.{cases_lt}
use Rattle.std.proofs.Math.Nat.{add-mul-mod_self_right, le-div_iff_mul-le}
use Rattle.sci_base.specs.declared.Ty.{Ty}
use Rattle.sci_base.specs.declared.Ty.TheVariants.{I32, I16, I8, U32, U16, U8}
use Rattle.sci_base.specs.declared.Mode.{Mode}
use Rattle.sci_base.specs.declared.Mode.TheVariants.{Wrap, Saturate, Stop}
use Rattle.sci_base.specs.Fit.{fit, fit_outside, nearer_end, wrap, InRange, int_eq}
use Rattle.sci_base.proofs.FitLemmas.{fit_inside, fit_above}
use Rattle.sci_base.specs.Lists.{at}
use Rattle.sci_forms.specs.declared.Kind.TheVariants.{GainBlk, Product}
use Rattle.sci_forms.specs.declared.spec.Spec.{Spec}
use Rattle.sci_forms.specs.Ports.{total, Fills}
use Rattle.sci_forms.specs.Words.{param, out_type, size}
use Rattle.sci_kinds.specs.declared.Cell.TheVariants.{Value, Zero}
use Rattle.sci_kinds.specs.Table.{mode_of, input as input_of, fitted, quotient_cell, cell_of}
use Rattle.sci_kinds.specs.Asks.{Asks}
use Rattle.sci_kinds.proofs.Elements.{input_in_range, first_input_in_range}
use Rattle.c_ast.specs.declared.Op.TheVariants.{Add, Mul, Div, Rem, Eq}
use Rattle.c_mean.specs.Meaning.{operate, is_zero, truth}
use Rattle.c_mean.specs.Laws.{Within}
use Rattle.c_mean.proofs.Values.{not_zero}
use Rattle.sci_cgen_blocks.specs.Terms.{Given, Term, constant, along, both, value, Scratch, stop_if, Gives, Readable, TermFits, RecipeFits, IsScratch}
use Rattle.sci_cgen_blocks.specs.Recipes.{natural, result, set, fit_steps, halves_product, product_fits, product_is_large, large_product, product, quotient, recipe_of}
use Rattle.sci_cgen_blocks.proofs.Operators.{add_is, mul_is, div_is, div_by, rem_by, le_is, gt_is, eq_is, ne_is, and_is, or_is}
use Rattle.sci_cgen_blocks.proofs.Fitting.{fit_wrap, lt_no}
use Rattle.sci_cgen_blocks.proofs.Working.{Reaches, assign_goes, assign_if_goes, test_goes, overflow_stops, zero_stops, done_gives, near, fit_gives, spelled, TermReads, weight, reads_fit, fit_reads}
use Rattle.sci_cgen_blocks.proofs.Patterns.{natural_within}
use Rattle.sci_cgen_blocks.proofs.Inputs.{given_for, given_input, given_first, in_size, small, spelled_in, fed_for, IsFed, element_read}

-- ---- bounds

abs_small : (z : ℤ) → negsuc 2147483647 ≤ℤ z → z ≤ℤ pos 2147483647 → unsigned_abs z ≤ 2147483648
abs_small (pos n) h k = omega (arith, ints, k)
abs_small (negsuc n) h k = omega (arith, ints, h)

abs_bounds : (z : ℤ) → unsigned_abs z ≤ 4611686018427387904 → (negsuc 4611686018427387903 ≤ℤ z) × (z ≤ℤ pos 4611686018427387904)
abs_bounds (pos n) h = (omega (arith, ints), omega (arith, ints, h))
abs_bounds (negsuc n) h = (omega (arith, ints, h), omega (arith, ints))

product_bounds : (x y : ℤ) → negsuc 2147483647 ≤ℤ x → x ≤ℤ pos 2147483647 → negsuc 2147483647 ≤ℤ y → y ≤ℤ pos 2147483647
    → (negsuc 4611686018427387903 ≤ℤ (x *ℤ y)) × ((x *ℤ y) ≤ℤ pos 4611686018427387904)
product_bounds x y a b c d = abs_bounds (x *ℤ y) (omega (arith, unsigned_abs-mul x y, mul-le-mul (abs_small x a b) (abs_small y c d)))

within_of : (z : ℤ) → negsuc 4611686018427387903 ≤ℤ z → z ≤ℤ pos 4611686018427387904 → Within z
within_of z h k = record { above = omega (arith, ints, h); below = omega (arith, ints, k) }

-- a divisor that isn't 0
pub no_zero : (y : ℤ) → int_eq y (pos 0) ≡ false → is_zero y ≡ false
no_zero (pos zero) h = cc
no_zero (pos (suc n)) h = not_zero (suc n) (omega arith)
no_zero (negsuc n) h = refl

-- ---- products of uint32

halves : (i lo hi q r : ℕ) → q * 65536 + r ≡ i * hi → (i * lo + r * 65536) + q * 4294967296 ≡ i * (hi * 65536 + lo)
halves i lo hi q r h = grind (arith, h)

halves_mod : (i j : ℕ) → (i * (j % 65536) + i * (j / 65536) % 65536 * 65536) % 4294967296 ≡ i * j % 4294967296
halves_mod i j =
    let h = i * (j / 65536) in
    sym (add-mul-mod_self_right (i * (j % 65536) + i * (j / 65536) % 65536 * 65536) (i * (j / 65536) / 65536) 4294967296)
    ∙ ap (λ (n : ℕ). n % 4294967296)
    (halves i (j % 65536) (j / 65536) (i * (j / 65536) / 65536) (i * (j / 65536) % 65536) (div-add-mod' (i * (j / 65536)) 65536)
    ∙ ap (λ (n : ℕ). i * n) (div-add-mod' j 65536))

abbrev halves_of : Option ℤ → Option ℤ → Option ℤ
halves_of p q =
    operate Rem (operate Add (operate Mul p (operate Rem q (Some (pos 65536))))
    (operate Mul (operate Rem (operate Mul p (operate Div q (Some (pos 65536)))) (Some (pos 65536))) (Some (pos 65536))))
    (Some (pos 4294967296))

halves_is : (i j : ℕ) → i < 4294967296 → j < 4294967296 → {p q : Option ℤ} → p ≡ Some (pos i) → q ≡ Some (pos j)
    → halves_of p q ≡ Some (pos (i * j % 4294967296))
halves_is i j h k e f =
    let lo : j % 65536 < 65536 = mod_below j 65536 (omega arith) in
    let hi : j / 65536 < 65536 = div_below j 65536 65536 (omega arith) (omega (arith, k)) in
    let rest : i * (j / 65536) % 65536 < 65536 = mod_below (i * (j / 65536)) 65536 (omega arith) in
    let low = mul-lt i (j % 65536) 4294967296 65536 h lo in
    let high = mul-lt i (j / 65536) 4294967296 65536 h hi in
    let whole : Within (pos j) = natural_within j (omega (arith, k)) in
    let upper : Within (pos (i * (j / 65536))) = natural_within (i * (j / 65536)) (omega (arith, high)) in
    let sum : Within (pos (i * (j % 65536) + i * (j / 65536) % 65536 * 65536)) =
    natural_within (i * (j % 65536) + i * (j / 65536) % 65536 * 65536) (omega (arith, rest, low)) in
    rem_by (add_is (mul_is e (rem_by f 65536 (omega arith) whole) (natural_within (i * (j % 65536)) (omega (arith, low))))
    (mul_is (rem_by (mul_is e (div_by f 65536 (omega arith) whole) upper) 65536 (omega arith) upper) refl
    (natural_within (i * (j / 65536) % 65536 * 65536) (omega (arith, rest)))) sum) 4294967296 (omega arith) sum
    ∙ ap (λ (n : ℕ). Some (pos n)) (halves_mod i j)

wrap_large : (n : ℕ) → wrap U32 (pos n) ≡ pos (n % 4294967296)
wrap_large n =
    let e : 0 + (n + 0) % 4294967296 ≡ n % 4294967296 = omega arith in ap pos e

-- whether the product is small, by the test of either mode
record Tested (i j : ℕ) (fits : Bool) : Type 0 where
  told : int_eq (pos j) (pos 0) || int_le (pos i) (int_div (pos 4294967295) (pos j)) ≡ fits
  denied : not (int_eq (pos j) (pos 0)) && int_lt (int_div (pos 4294967295) (pos j)) (pos i) ≡ not fits

tested : (i j : ℕ) → ((i * j ≤ 4294967295) × Tested i j true) ⊎ ((4294967295 < i * j) × Tested i j false)
tested i zero = inl (omega arith, record { told = refl; denied = refl })
tested i (suc j) = elim (cases_lt 4294967295 (i * suc j)) [
  | inl l ↦ inr (l, record { told = rw (not_zero j, past_le l) refl; denied = rw (not_zero j, past_lt l) refl })
  | inr l ↦ inl (l, record { told = rw (not_zero j, small_le l) refl; denied = rw (not_zero j, small_lt l) refl })
]
  where
    not_zero : (j : ℕ) → int_eq (pos (suc j)) (pos 0) ≡ false
    not_zero j = grind (arith, ints)

    up : i * suc j ≤ 4294967295 → i ≤ 4294967295 / suc j
    up l = (le-div_iff_mul-le {k = suc j} {x = i} {y = 4294967295} (omega arith)).1 l

    down : i ≤ 4294967295 / suc j → i * suc j ≤ 4294967295
    down l = (le-div_iff_mul-le {k = suc j} {x = i} {y = 4294967295} (omega arith)).0 l

    small_le : i * suc j ≤ 4294967295 → int_le (pos i) (pos (4294967295 / suc j)) ≡ true
    small_le l = let q = up l in grind (arith, ints, q)

    small_lt : i * suc j ≤ 4294967295 → int_lt (pos (4294967295 / suc j)) (pos i) ≡ false
    small_lt l = let q = up l in grind (arith, ints, q)

    past : 4294967295 < i * suc j → 4294967295 / suc j < i
    past l = elim (cases_lt (4294967295 / suc j) i) [ inl q ↦ q | inr q ↦ absurd (omega (arith, l, down q)) ]

    past_le : 4294967295 < i * suc j → int_le (pos i) (pos (4294967295 / suc j)) ≡ false
    past_le l = let q = past l in grind (arith, ints, q)

    past_lt : 4294967295 < i * suc j → int_lt (pos (4294967295 / suc j)) (pos i) ≡ true
    past_lt l = let q = past l in grind (arith, ints, q)

module _ (g : Given) (a b : Term) where
  -- ---- products

  small_product : (t : Ty) (m : Mode) (x y : ℤ) (s : Scratch) → value g s a ≡ Some x → value g s b ≡ Some y
      → (negsuc 4611686018427387903 ≤ℤ (x *ℤ y)) × ((x *ℤ y) ≤ℤ pos 4611686018427387904)
      → Reaches g (set (both Mul a b) ∷ fit_steps t m) result s (fitted (fit t m (x *ℤ y)))
  small_product t m x y s p q h =
      assign_goes (mul_is p q (within_of (x *ℤ y) h.0 h.1)) (fit_gives g t _ m (x *ℤ y) refl (near t (x *ℤ y) h.0 h.1))

  module _ (i j : ℕ) (l : i < 4294967296) (k : j < 4294967296) (p : (s : Scratch) → value g s a ≡ Some (pos i))
      (q : (s : Scratch) → value g s b ≡ Some (pos j)) where
    quotient_within : Within (int_div (pos 4294967295) (pos j))
    quotient_within = natural_within (4294967295 / j) (omega (arith, div-le_self 4294967295 j))

    negated : (c : Bool) → not c ≡ true → c ≡ false
    negated true h = cc
    negated false h = refl

    fits_is : (s : Scratch) → value g s (product_fits a b) ≡ Some (truth (int_eq (pos j) (pos 0) || int_le (pos i) (int_div (pos 4294967295) (pos j))))
    fits_is s = or_is (int_eq (pos j) (pos 0)) (int_le (pos i) (int_div (pos 4294967295) (pos j))) (eq_is (q s) refl)
        (λ z. le_is (p s) (div_is {x = pos 4294967295} refl (q s) (no_zero (pos j) z) quotient_within))

    large_is : (s : Scratch) → value g s (product_is_large a b) ≡ Some
        (truth (not (int_eq (pos j) (pos 0)) && int_lt (int_div (pos 4294967295) (pos j)) (pos i)))
    large_is s = and_is (not (int_eq (pos j) (pos 0))) (int_lt (int_div (pos 4294967295) (pos j)) (pos i)) (ne_is (q s) refl)
        (λ z. gt_is (p s) (div_is {x = pos 4294967295} refl (q s) (no_zero (pos j) (negated _ z)) quotient_within))

    product_is : (s : Scratch) → i * j ≤ 4294967295 → value g s (both Mul a b) ≡ Some (pos (i * j))
    product_is s h = mul_is (p s) (q s) (natural_within (i * j) (omega (arith, h)))

    inside : (m : Mode) → i * j ≤ 4294967295 → fitted (fit U32 m (pos (i * j))) ≡ Value (pos (i * j))
    inside m h = rw (fit_inside U32 m (pos (i * j)) (omega (arith, ints)) (omega (arith, ints, h))) refl

    outside : (m : Mode) → 4294967295 < i * j → fit U32 m (pos (i * j)) ≡ fit_outside U32 m (pos (i * j))
    outside m h = fit_above U32 m (pos (i * j)) (omega (arith, ints, h))

    large_reaches : (m : Mode) (s : Scratch) → Reaches g (large_product m a b) result s (fitted (fit U32 m (pos (i * j))))
    large_reaches Wrap s = rw (fit_wrap U32 (pos (i * j)), wrap_large (i * j)) (assign_goes (halves_is i j l k (p s) (q s)) (done_gives refl))
    large_reaches Saturate s = elim (tested i j) [
      | inl h ↦ rw (inside Saturate h.0) (assign_goes {z = pos 4294967295} refl
          (assign_if_goes true (fits_is _ ∙ ap (λ (c : Bool). Some (truth c)) h.1.told) (λ _. product_is _ h.0)
          (λ s' r _. done_gives (ap Some r))))
      | inr h ↦ rw (outside Saturate h.0)
          (assign_goes {z = pos 4294967295} refl (assign_if_goes {z = pos 0} false (fits_is _ ∙ ap (λ (c : Bool). Some (truth c)) h.1.told) (λ f. cc)
          (λ s' r _. done_gives (ap Some (r ∙ sym (nearer h.0))))))
    ]
      where
        nearer : 4294967295 < i * j → nearer_end U32 (pos (i * j)) ≡ pos 4294967295
        nearer h = rw (lt_no (pos (i * j)) (pos 0) (omega (arith, ints))) refl
    large_reaches Stop s = elim (tested i j) [
      | inl h ↦ rw (inside Stop h.0) (test_goes (large_is s ∙ ap (λ (c : Bool). Some (truth c)) h.1.denied)
          (assign_goes (product_is s h.0) (done_gives refl)))
      | inr h ↦ rw (outside Stop h.0) (overflow_stops (large_is s ∙ ap (λ (c : Bool). Some (truth c)) h.1.denied))
    ]

  large_gives : (m : Mode) (x y : ℤ) → InRange U32 x → InRange U32 y → ((s : Scratch) → value g s a ≡ Some x) → ((s : Scratch) → value g s b ≡ Some y)
      → (s : Scratch) → Reaches g (large_product m a b) result s (fitted (fit U32 m (x *ℤ y)))
  large_gives m (pos i) (pos j) u v p q s = large_reaches i j (omega (arith, ints, u.below)) (omega (arith, ints, v.below)) p q m s
  large_gives m (negsuc i) y u v p q s = absurd (omega (arith, ints, u.above))
  large_gives m x (negsuc j) u v p q s = absurd (omega (arith, ints, v.above))

  pub product_gives : (t : Ty) (m : Mode) (x y : ℤ) → InRange t x → InRange t y → ((s : Scratch) → value g s a ≡ Some x)
      → ((s : Scratch) → value g s b ≡ Some y)
      → (s : Scratch) → Gives g (product t m a b) s (fitted (fit t m (x *ℤ y)))
  product_gives I32 m x y u v p q s = (small_product I32 m x y s (p s) (q s) (product_bounds x y u.above u.below v.above v.below)).gives
  product_gives I16 m x y u v p q s =
      (small_product I16 m x y s (p s) (q s)
      (product_bounds x y (omega (arith, ints, u.above)) (omega (arith, ints, u.below)) (omega (arith, ints, v.above)) (omega (arith, ints, v.below)))).gives
  product_gives I8 m x y u v p q s =
      (small_product I8 m x y s (p s) (q s)
      (product_bounds x y (omega (arith, ints, u.above)) (omega (arith, ints, u.below)) (omega (arith, ints, v.above)) (omega (arith, ints, v.below)))).gives
  product_gives U32 m x y u v p q s = (large_gives m x y u v p q s).gives
  product_gives U16 m x y u v p q s =
      (small_product U16 m x y s (p s) (q s)
      (product_bounds x y (omega (arith, ints, u.above)) (omega (arith, ints, u.below)) (omega (arith, ints, v.above)) (omega (arith, ints, v.below)))).gives
  product_gives U8 m x y u v p q s =
      (small_product U8 m x y s (p s) (q s)
      (product_bounds x y (omega (arith, ints, u.above)) (omega (arith, ints, u.below)) (omega (arith, ints, v.above)) (omega (arith, ints, v.below)))).gives

  -- ---- quotients

  quotient_bounds : (x y : ℤ) → negsuc 2147483647 ≤ℤ x → x ≤ℤ pos 4294967295
      → (negsuc 4611686018427387903 ≤ℤ int_div x y) × (int_div x y ≤ℤ pos 4611686018427387904)
  quotient_bounds (pos i) (pos j) h k = abs_bounds (pos (i / j)) (omega (arith, ints, k, div-le_self i j))
  quotient_bounds (pos i) (negsuc j) h k = negated (i / suc j) (omega (arith, ints, k, div-le_self i (suc j)))
    where
      negated : (n : ℕ) → n ≤ 4294967295 → (negsuc 4611686018427387903 ≤ℤ neg_ℤ (pos n)) × (neg_ℤ (pos n) ≤ℤ pos 4611686018427387904)
      negated n h = (omega (arith, ints, h), omega (arith, ints, h))
  quotient_bounds (negsuc i) (pos j) h k = negated (suc i / j) (omega (arith, ints, h, div-le_self (suc i) j))
    where
      negated : (n : ℕ) → n ≤ 4294967295 → (negsuc 4611686018427387903 ≤ℤ neg_ℤ (pos n)) × (neg_ℤ (pos n) ≤ℤ pos 4611686018427387904)
      negated n h = (omega (arith, ints, h), omega (arith, ints, h))
  quotient_bounds (negsuc i) (negsuc j) h k = abs_bounds (pos (suc i / suc j)) (omega (arith, ints, h, div-le_self (suc i) (suc j)))

  pub quotient_gives : (t : Ty) (m : Mode) (x y : ℤ) → InRange t x → (s : Scratch) → value g s a ≡ Some x → value g s b ≡ Some y
      → Gives g (quotient t m a b) s (quotient_cell t m x y)
  quotient_gives t m x y u s p q = (by_zero (int_eq y (pos 0)) refl).gives
    where
      by_zero : (c : Bool) → int_eq y (pos 0) ≡ c
          → Reaches g (stop_if (both Eq b (natural 0)) 1 ∷ set (both Div a b) ∷ fit_steps t m) result s (if c then Zero else fitted (fit t m (int_div x y)))
      by_zero true h = zero_stops (eq_is q refl ∙ ap (λ (c : Bool). Some (truth c)) h)
      by_zero false h =
          let i = small t x u in
          let w = quotient_bounds x y i.0 i.1 in
          test_goes (eq_is q refl ∙ ap (λ (c : Bool). Some (truth c)) h)
          (assign_goes (div_is p q (no_zero y h) (within_of (int_div x y) w.0 w.1)) (fit_gives g t _ m (int_div x y) refl (near t (int_div x y) w.0 w.1)))

-- ---- the kinds

module _ (s : Spec) (x : List ℤ) (m : ℕ) (u : List ℤ) (e : ℕ) (h : e < total s.outs) (t : Scratch) where
  pub gain_gives : Asks GainBlk s → Fills s.ins u → Gives (given_for s x m u e) (recipe_of GainBlk s) t (cell_of GainBlk s x m u e)
  gain_gives a f = product_gives (given_for s x m u e) (constant (param s 1)) (along 0) (out_type s) (mode_of (param s 0)) (param s 1) (at u e) a.3
      (first_input_in_range s.ins (out_type s) (size s) u a.0.ins_alike f e (omega (arith, a.1)) (in_size s a.0.outs_alike a.0.one e h))
      (λ _. refl) (λ _. ap Some (given_first s x m u e)) t

  pub product_block_gives : Asks Product s → Fills s.ins u → Gives (given_for s x m u e) (recipe_of Product s) t (cell_of Product s x m u e)
  product_block_gives a f = by_sign (int_eq (param s 1) (pos 1))
    where
      v : ℕ → ℤ
      v k = input_of (size s) u k e

      in_type : (k : ℕ) → k < length s.ins → InRange (out_type s) (v k)
      in_type k l = input_in_range s.ins (out_type s) (size s) u a.0.ins_alike f k e l (in_size s a.0.outs_alike a.0.one e h)

      is : (k : ℕ) → k < length s.ins → Some ((given_for s x m u e).input k e) ≡ Some (v k)
      is k l = ap Some (given_input s x m u (out_type s) (size s) a.0.ins_alike k e (omega (arith, l)))

      by_sign : (c : Bool) → Gives (given_for s x m u e)
          (if c then product (out_type s) (mode_of (param s 0)) (along 0) (along 1) else quotient (out_type s) (mode_of (param s 0)) (along 0)
          (along 1)) t
          (if c then fitted (fit (out_type s) (mode_of (param s 0)) (v 0 *ℤ v 1)) else quotient_cell (out_type s) (mode_of (param s 0)) (v 0) (v 1))
      by_sign true =
          product_gives (given_for s x m u e) (along 0) (along 1) (out_type s) (mode_of (param s 0)) (v 0) (v 1) (in_type 0 (omega (arith, a.1)))
          (in_type 1 (omega (arith, a.1)))
          (λ _. is 0 (omega (arith, a.1))) (λ _. is 1 (omega (arith, a.1))) t
      by_sign false = quotient_gives (given_for s x m u e) (along 0) (along 1) (out_type s) (mode_of (param s 0)) (v 0) (v 1) (in_type 0 (omega (arith, a.1)))
          t (is 0 (omega (arith, a.1))) (is 1 (omega (arith, a.1)))

-- ---- what they read

module _ (r : Readable) (h : 1 ≤ r.scratch) (a b : Term) (la : TermReads r a) (lb : TermReads r b) (wa : weight a ≤ 1) (wb : weight b ≤ 1) where
  one : IsScratch r 1
  one = (omega arith, h)

  product_fit : TermFits r 32 (both Mul a b)
  product_fit = reads_fit r 32 (both Mul a b) (la, lb) (omega (arith, wa, wb))

  halves_fit : TermFits r 32 (halves_product a b)
  halves_fit =
      let n = spelled 65536 (omega arith) in
      reads_fit r 32 (halves_product a b) ((((la, (lb, n)), (((la, (lb, n)), n), n))), spelled 4294967296 (omega arith)) (omega (arith, wa, wb))

  fits_fit : TermFits r 32 (product_fits a b)
  fits_fit = reads_fit r 32 (product_fits a b) ((lb, spelled 0 (omega arith)), (la, (spelled 4294967295 (omega arith), lb))) (omega (arith, wa, wb))

  large_fit : TermFits r 32 (product_is_large a b)
  large_fit = reads_fit r 32 (product_is_large a b) ((lb, spelled 0 (omega arith)), (la, (spelled 4294967295 (omega arith), lb))) (omega (arith, wa, wb))

  large_reads : (m : Mode) → RecipeFits r (record { steps = large_product m a b; value = result })
  large_reads Wrap = (((one, halves_fit), tt), one)
  large_reads Saturate = (((one, spelled 4294967295 (omega arith)), ((one, fits_fit, product_fit), tt)), one)
  large_reads Stop = (((large_fit, omega arith), ((one, product_fit), tt)), one)

  small_reads : (t : Ty) (m : Mode) → RecipeFits r (record { steps = set (both Mul a b) ∷ fit_steps t m; value = result })
  small_reads t m = (((one, product_fit), fit_reads r t m h), one)

  pub product_reads : (t : Ty) (m : Mode) → RecipeFits r (product t m a b)
  product_reads I32 m = small_reads I32 m
  product_reads I16 m = small_reads I16 m
  product_reads I8 m = small_reads I8 m
  product_reads U32 m = large_reads m
  product_reads U16 m = small_reads U16 m
  product_reads U8 m = small_reads U8 m

  pub quotient_reads : (t : Ty) (m : Mode) → RecipeFits r (quotient t m a b)
  quotient_reads t m =
      let test : TermFits r 32 (both Eq b (natural 0)) = reads_fit r 32 (both Eq b (natural 0)) (lb, spelled 0 (omega arith)) (omega (arith, wb)) in
      let divided : TermFits r 32 (both Div a b) = reads_fit r 32 (both Div a b) (la, lb) (omega (arith, wa, wb)) in
      (((test, omega arith), ((one, divided), fit_reads r t m h)), one)

pub gain_reads : (s : Spec) (e : ℕ) → e < total s.outs → Asks GainBlk s → IsFed GainBlk s → RecipeFits (fed_for GainBlk s e) (recipe_of GainBlk s)
gain_reads s e h a f =
    let this : (fed_for GainBlk s e).input 0 e = element_read GainBlk s (out_type s) a.0.ins_alike f 0 e (omega (arith, a.1)) refl
    (in_size s a.0.outs_alike a.0.one e h) in
    product_reads (fed_for GainBlk s e) (omega arith) (constant (param s 1)) (along 0) (spelled_in (out_type s) (param s 1) a.3) this (omega arith)
    (omega arith) (out_type s) (mode_of (param s 0))

pub product_block_reads : (s : Spec) (e : ℕ) → e < total s.outs → Asks Product s → IsFed Product s → RecipeFits (fed_for Product s e) (recipe_of Product s)
product_block_reads s e h a f = by_sign (int_eq (param s 1) (pos 1))
  where
    n : e < size s
    n = in_size s a.0.outs_alike a.0.one e h

    first : (fed_for Product s e).input 0 e
    first = element_read Product s (out_type s) a.0.ins_alike f 0 e (omega (arith, a.1)) refl n

    second : (fed_for Product s e).input 1 e
    second = element_read Product s (out_type s) a.0.ins_alike f 1 e (omega (arith, a.1)) refl n

    by_sign : (c : Bool) → RecipeFits (fed_for Product s e)
        (if c then product (out_type s) (mode_of (param s 0)) (along 0) (along 1) else quotient (out_type s) (mode_of (param s 0)) (along 0)
        (along 1))
    by_sign true =
        product_reads (fed_for Product s e) (omega arith) (along 0) (along 1) first second (omega arith) (omega arith) (out_type s) (mode_of (param s 0))
    by_sign false =
        quotient_reads (fed_for Product s e) (omega arith) (along 0) (along 1) first second (omega arith) (omega arith) (out_type s) (mode_of (param s 0))
