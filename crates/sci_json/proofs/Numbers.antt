-- A number that a few digits write.
use Rattle.std.proofs.Common.{◌≡◌, ℕ, ◌^◌, ◌<◌, ◌≤◌, ◌==◌, pos, ◌-ℤ◌, neg_ℤ, to_z, of_z, w64, List, [], ◌++◌, length, take, drop, get_or, false, true, Some, refl, sym, ap, ◌∙◌, arith, append-nil, lt-ltb, le-leb}
use Rattle.std.proofs.Math.Nat.{pow-le-pow_right}
use Rattle.std.proofs.lemmas.Bool.Decides.{nat_tests}
use Rattle.std.proofs.lemmas.Int.{ints}
use Rattle.std.proofs.lemmas.List.{length-take}
use Rattle.std.proofs.lemmas.Int.Digits.{digits_value-lt}
use Rattle.std.specs.Str.Parse.{IsNumeral, AllDigits, digits_value}
use Rattle.fast_float.specs.Text.{scan, Parts, IsWellFormed}
use Rattle.fast_float.proofs.Writing.{scan-text_of}
use Rattle.serde_json.specs.Data.{unsigned, negative}
use Rattle.serde_json.specs.Find.{as_i64}
use Rattle.serde_json.specs.Read.{number_of, number_from}

-- what digits alone are scanned as
abbrev parts : List ℕ → Parts
parts ds = record { whole = ds; point = false; fraction = []; exponent_negative = false; exponent = []; len = length (ds ++ []) }

scanned : (ds : List ℕ) → AllDigits 10 ds → scan ds ≡ parts ds
scanned ds h =
    let formed : IsWellFormed (parts ds) = record { whole_digits = h; fraction_digits = tt; exponent_digits = tt; no_point = λ _. refl; no_exponent = λ _. refl; len_is = refl } in
    ap scan (sym (append-nil ds)) ∙ scan-text_of (parts ds) formed

pub few_unsigned : (ds : List ℕ) (n : ℕ) → IsNumeral 10 ds → n ≡ digits_value 10 ds → n < 10 ^ 18 → number_from false (scan ds) ≡ Some (unsigned n)
few_unsigned ds n h is few = rw (scanned ds h.1, append-nil ds, ← is, lt-ltb _ _ h.0, lt-ltb n (2 ^ 64) (omega arith))

pub few_negative : (ds : List ℕ) (n : ℕ) → IsNumeral 10 ds → n ≡ digits_value 10 ds → n < 10 ^ 18 → 0 < n → number_from true (scan ds) ≡ Some (negative (neg_ℤ (pos n)))
few_negative ds n h is few some = rw (scanned ds h.1, append-nil ds, ← is, lt-ltb _ _ h.0, lt-ltb 0 n some, le-leb n (2 ^ 63) (omega arith))

pub number_of-minus : (s : List ℕ) → (get_or s 0 0 == 45) ≡ true → number_of s ≡ number_from true (scan (drop 1 s))
unfolding number_of
number_of-minus s e = rw e

pub number_of-plain : (s : List ℕ) → (get_or s 0 0 == 45) ≡ false → number_of s ≡ number_from false (scan s)
unfolding number_of
number_of-plain s e = rw e

-- ---- as an integer of 64 bits

as_positive : (n : ℕ) → n < 10 ^ 18 → to_z w64 n ≡ pos n
as_positive n h = omega (arith, ints)

turned : (n : ℕ) → n < 10 ^ 18 → to_z w64 (of_z w64 (pos 0 -ℤ pos n)) ≡ neg_ℤ (pos n)
turned n h = omega (arith, ints)

pub positive_is : (n : ℕ) → n < 10 ^ 18 → Some (to_z w64 n) ≡ as_i64 (unsigned n)
positive_is n h = rw (as_positive n h, lt-ltb n (2 ^ 63) (omega arith))

pub negative_is : (n : ℕ) → n < 10 ^ 18 → Some (to_z w64 (of_z w64 (pos 0 -ℤ to_z w64 n))) ≡ as_i64 (negative (neg_ℤ (pos n)))
negative_is n h = rw (as_positive n h, turned n h)

-- ---- digit by digit

pub not_empty : (n : ℕ) → (n == 0) ≡ false → 0 < n
not_empty n e = grind (arith, nat_tests)

short : (bs : List ℕ) (i : ℕ) → AllDigits 10 (take i bs) → i < 18 → digits_value 10 (take i bs) < 10 ^ 17
short bs i h few =
    let low : length (take i bs) ≤ 17 = omega (arith, length-take i bs) in
    let least : 10 ^ length (take i bs) ≤ 10 ^ 17 = pow-le-pow_right (omega arith) low in
    let below = digits_value-lt 10 (take i bs) h in
    omega arith

pub no_overflow : (bs : List ℕ) (i : ℕ) → i < length bs → length bs ≤ 18 → AllDigits 10 (take i bs) → digits_value 10 (take i bs) < 10 ^ 17
no_overflow bs i h few digits = short bs i digits (omega arith)

pub at_most_eighteen : (bs : List ℕ) → length bs ≤ 18 → AllDigits 10 bs → digits_value 10 bs < 10 ^ 18
at_most_eighteen bs few digits =
    let least : 10 ^ length bs ≤ 10 ^ 18 = pow-le-pow_right (omega arith) few in
    let below = digits_value-lt 10 bs digits in
    omega arith
