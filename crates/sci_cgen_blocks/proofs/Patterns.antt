-- Patterns and their bits, as terms work them out.
use Rattle.std.proofs.Common.{◌≡◌, ℕ, zero, suc, ◌+◌, ◌-◌, ◌*◌, ◌/◌, ◌%◌, ◌^◌, ◌<◌, ◌≤◌, ◌-ℤ◌, Option, Some, refl, ap, ◌∙◌, arith, ℤ, pos, negsuc, mod-lt, max, div-le_self, inl, inr, [], if◌then◌else◌}
use Rattle.std.specs.Prelude.{neg_ℤ, int_div, unsigned_abs, nat_eq, bit_or}
use Rattle.std.specs.Int.{int_rem_euclid, int_div_euclid, bit_at}
use Rattle.std.proofs.lemmas.Int.{ints}
use Rattle.std.proofs.lemmas.Bool.{cases_lt, cases_eq}
use Rattle.std.proofs.lemmas.Nat.{pow_pos, pow_below, mul-le, or_disjoint, shr_split, div-add-mod', div-mul-add}
use Rattle.std.proofs.lemmas.Nat.Bits.{and_pow, bit_at_or, bit_at-pow_same, bit_at-pow_other, bit_at-lt, same_from_bits}
use Rattle.sci_base.specs.declared.Ty.{Ty}
use Rattle.sci_base.specs.declared.Ty.TheVariants.{I32, I16, I8, U32, U16, U8}
use Rattle.sci_base.specs.Fit.{span, width}
use Rattle.sci_base.specs.Bits.{pattern, set_bit, clear_bit}
use Rattle.sci_base.proofs.FitLemmas.{span_pos, span_at_most}
use Rattle.sci_kinds.specs.Table.{number}
use Rattle.c_ast.specs.declared.Op.TheVariants.{Add, Sub, Mul, Div, Rem}
use Rattle.c_mean.specs.Meaning.{operate}
use Rattle.c_mean.specs.Laws.{Within}
use Rattle.sci_cgen_blocks.specs.Terms.{Given, Term, value, Scratch}
use Rattle.sci_cgen_blocks.specs.Recipes.{wrapped}
use Rattle.sci_cgen_blocks.proofs.Operators.{add_is, sub_is, mul_is, div_by, rem_by}
use Rattle.sci_cgen_blocks.proofs.Fitting.{modulo_of, modulo_is, wrapped_is, fit_wrap}
use Rattle.sci_cgen_blocks.proofs.Working.{Reaches, done_gives, near}

-- ---- natural numbers

pub natural_within : (n : ℕ) → n ≤ 9223372036854775807 → Within (pos n)
natural_within n h = record { above = omega (arith, ints); below = omega (arith, ints, h) }

pub plus : {p q : Option ℤ} {a b : ℕ} → p ≡ Some (pos a) → q ≡ Some (pos b) → a + b ≤ 9223372036854775807 → operate Add p q ≡ Some (pos (a + b))
plus {a} {b} e f h = add_is e f (natural_within (a + b) h)

pub times : {p q : Option ℤ} {a b : ℕ} → p ≡ Some (pos a) → q ≡ Some (pos b) → a * b ≤ 9223372036854775807 → operate Mul p q ≡ Some (pos (a * b))
times {a} {b} e f h = mul_is e f (natural_within (a * b) h)

pub minus : {p q : Option ℤ} {a b : ℕ} → p ≡ Some (pos a) → q ≡ Some (pos b) → b ≤ a → a ≤ 9223372036854775807 → operate Sub p q ≡ Some (pos (a - b))
minus {a} {b} e f h k =
    let is : pos a -ℤ pos b ≡ pos (a - b) = omega (arith, ints, h) in
    sub_is e f (record { above = omega (arith, ints, h, k); below = omega (arith, ints, h, k) }) ∙ ap Some is

pub over : {p : Option ℤ} {a : ℕ} → p ≡ Some (pos a) → (n : ℕ) → 0 < n → a ≤ 9223372036854775807 → operate Div p (Some (pos n)) ≡ Some (pos (a / n))
over {a} e n h k = div_by e n h (natural_within a k)

pub left_over : {p : Option ℤ} {a : ℕ} → p ≡ Some (pos a) → (n : ℕ) → 0 < n → a ≤ 9223372036854775807 → operate Rem p (Some (pos n)) ≡ Some (pos (a % n))
left_over {a} e n h k = rem_by e n h (natural_within a k)

-- ---- patterns

pub rem_natural : (z : ℤ) (n : ℕ) → 0 < n → unsigned_abs (int_rem_euclid z (pos n)) < n
rem_natural (pos a) n h = mod-lt a h
rem_natural (negsuc a) n h = omega (arith, h)

pub pattern_below : (t : Ty) (z : ℤ) → pattern t z < span t
pattern_below t z = rem_natural z (span t) (span_pos t)

pub pattern_is : {p : Option ℤ} {z : ℤ} → p ≡ Some z → (t : Ty) → Within z → modulo_of p (span t) ≡ Some (pos (pattern t z))
pattern_is {z} e t w = modulo_is e (span t) (span_pos t) (span_at_most t) w ∙ ap Some (natural_rem z (span t))
  where
    natural_rem : (z : ℤ) (n : ℕ) → int_rem_euclid z (pos n) ≡ pos (unsigned_abs (int_rem_euclid z (pos n)))
    natural_rem (pos a) n = refl
    natural_rem (negsuc a) n = refl

-- a pattern as a number of the type
pub number_gives : (g : Given) (t : Ty) (v : Term) (s : Scratch) (p : ℕ) → value g s v ≡ Some (pos p) → p ≤ 4611686018427387904
    → Reaches g [] (wrapped t v) s (number t p)
number_gives g t v s p e h =
    rw (fit_wrap t (pos p)) (done_gives (wrapped_is e t (near t (pos p) (omega (arith, ints)) (omega (arith, ints, h)))))

-- ---- bits

pub width_at_most : (t : Ty) → width t ≤ 32
width_at_most I32 = omega arith
width_at_most I16 = omega arith
width_at_most I8 = omega arith
width_at_most U32 = omega arith
width_at_most U16 = omega arith
width_at_most U8 = omega arith

pub pow_at_most : (k : ℕ) → k < 32 → 2 ^ k ≤ 2147483648
pow_at_most k h = elim (cases_lt k 31) [
  | inl l ↦ let b = pow_below k 31 l in omega (arith, b)
  | inr r ↦ let e : k ≡ 31 = omega (arith, h, r) in rw e (omega arith)
]

pub bit_is : {p : Option ℤ} {a : ℕ} → p ≡ Some (pos a) → (k : ℕ) → a ≤ 9223372036854775807
    → operate Rem (operate Div p (Some (pos (2 ^ k)))) (Some (pos 2)) ≡ Some (pos (bit_at a k))
bit_is {a} e k h = let less = div-le_self a (2 ^ k) in left_over (over e (2 ^ k) (pow_pos k) h) 2 (omega arith) (omega (arith, h, less))

-- a pattern with a bit more
pub set_sum : (p k : ℕ) → p + (1 - bit_at p k) * 2 ^ k ≡ set_bit p k
set_sum p k = by_bit (bit_at p k) refl (bit_at-lt p k)
  where
    bits : bit_at p k ≡ 1 → (i : ℕ) → max (bit_at p i) (bit_at (2 ^ k) i) ≡ bit_at p i
    bits e i = elim (cases_eq i k) [
      | inl q ↦ rw (q, bit_at-pow_same k, e) refl
      | inr q ↦ rw (bit_at-pow_other k i q) (omega arith)
    ]

    by_bit : (b : ℕ) → bit_at p k ≡ b → b < 2 → p + (1 - b) * 2 ^ k ≡ bit_or p (2 ^ k)
    by_bit zero e l = let apart = or_disjoint p (2 ^ k) (and_pow p k ∙ ap (λ (x : ℕ). x * 2 ^ k) e ∙ omega arith) in omega (arith, apart)
    by_bit (suc zero) e l = let same = same_from_bits (bit_or p (2 ^ k)) p (λ i. bit_at_or p (2 ^ k) i ∙ bits e i) in omega (arith, same)
    by_bit (suc (suc b)) e l = absurd (omega (arith, l))

-- a bit's part of a pattern
pub part_below : (p k : ℕ) → bit_at p k * 2 ^ k ≤ p
part_below p k =
    let small : bit_at p k ≤ p / 2 ^ k = omega arith in
    let part = mul-le (bit_at p k) (2 ^ k) (p / 2 ^ k) (2 ^ k) small (omega arith) in
    omega (arith, part, shr_split p k)

-- a pattern without a bit
pub clear_difference : (p k : ℕ) → p - bit_at p k * 2 ^ k ≡ clear_bit p k
clear_difference p k = by_bit (bit_at p k) (bit_at-lt p k)
  where
    by_bit : (b : ℕ) → b < 2 → p - b * 2 ^ k ≡ (if nat_eq b 1 then p - 2 ^ k else p)
    by_bit zero l = omega arith
    by_bit (suc zero) l = omega arith
    by_bit (suc (suc b)) l = absurd (omega (arith, l))

-- ---- quotients rounded down

pub floor_is : (z : ℤ) (n : ℕ) → 0 < n → int_div (z -ℤ int_rem_euclid z (pos n)) (pos n) ≡ int_div_euclid z (pos n)
floor_is (pos a) n h =
    let rest : pos a -ℤ pos (a % n) ≡ pos (a / n * n + 0) = omega (arith, ints, div-add-mod' a n) in
    ap (λ (y : ℤ). int_div y (pos n)) rest ∙ ap pos (div-mul-add (a / n) n 0 h)
floor_is (negsuc a) n h =
    let part = mod-lt a h in
    let rest : negsuc a -ℤ pos (n - 1 - a % n) ≡ negsuc (a / n * n + (n - 1)) = omega (arith, ints, div-add-mod' a n, part) in
    let whole : suc (a / n * n + (n - 1)) ≡ suc (a / n) * n + 0 = omega (arith, h) in
    ap (λ (y : ℤ). int_div y (pos n)) rest ∙ ap (λ (b : ℕ). neg_ℤ (pos (b / n))) whole ∙ ap (λ (b : ℕ). neg_ℤ (pos b)) (div-mul-add (suc (a / n)) n 0 h)
