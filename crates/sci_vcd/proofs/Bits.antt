-- Binary digits, and the numbers of a type that they stand for.
use Rattle.std.proofs.Common.{◌≡◌, ℕ, zero, suc, ◌+◌, ◌-◌, ◌*◌, ◌/◌, ◌%◌, ◌^◌, ◌<◌, ◌≤◌, ℤ, pos, negsuc, ◌-ℤ◌, ◌≤ℤ◌, ◌<ℤ◌, List, [], ◌∷◌, ◌++◌, length, take, drop, get_or, ⊎_elim, Option, Some, None, Bool, true, false, cond, refl, sym, ap, ap₂, ◌∙◌, subst, arith, append_assoc, append-nil}
use Rattle.std.specs.Prelude.{nat_eq, nat_le, int_le, unsigned_abs}
use Rattle.std.specs.Char.{is_ascii_digit}
use Rattle.std.specs.Str.{all_ascii_digits}
use Rattle.std.specs.Int.{int_rem_euclid}
use Rattle.std.proofs.lemmas.Bool.{leb-true, leb-false, le-leb, lt-leb, eqb-true, eq-eqb, and_parts, and_from, and_left, and_right, cond-true, cond-false, cases_lt}
use Rattle.std.proofs.lemmas.Int.{ints}
use Rattle.std.proofs.lemmas.List.{take_more, drop_more, length-take-le, length_push}
use Rattle.std.proofs.lemmas.Nat.{pow_below}
use Rattle.std.proofs.Math.Seq.{take-length}
use Rattle.std.proofs.Math.Nat.{pow-succ'}
use Rattle.sci_base.specs.declared.Ty.{Ty}
use Rattle.sci_base.specs.declared.Ty.TheVariants.{I32, I16, I8, U32, U16, U8}
use Rattle.sci_base.specs.Fit.{width, low, high, span, in_range}
use Rattle.sci_base.specs.Bits.{pattern}
use Rattle.sci_base.proofs.FitLemmas.{low+span, span_pos, span-pow, in_range_yes, rem_bounds}
use Rattle.sci_vcd.specs.Spelling.{binary, bits}
use Rattle.sci_text.specs.Reading.{◌>>=◌}
use Rattle.sci_text.proofs.Parts.{bind_some, guarded, some_is}
use Rattle.sci_vcd.specs.Reading.{is_bit, bits_of, number_of, decoded}

-- ---- digits

-- one digit more
bits_snoc : (ds : List ℕ) (n c : ℕ) → bits_of n (ds ++ c ∷ []) ≡ (bits_of n ds >>= λ m. bits_of m (c ∷ []))
bits_snoc [] n c = refl
bits_snoc (d ∷ ds) n c = further (is_bit d) (bits_of (2 * n + (d - 48)) (ds ++ c ∷ [])) (bits_of (2 * n + (d - 48)) ds) (λ m. bits_of m (c ∷ [])) (bits_snoc ds (2 * n + (d - 48)) c)
  where
    further : (b : Bool) (x y : Option ℕ) (f : ℕ → Option ℕ) → x ≡ (y >>= f) → cond b x None ≡ (cond b y None >>= f)
    further true x y f e = e
    further false x y f e = refl

is_bit_of : (d : ℕ) → d < 2 → is_bit (48 + d) ≡ true
is_bit_of d h = and_from (nat_le 48 (48 + d)) (nat_le (48 + d) 49) (le-leb 48 (48 + d) (omega arith)) (le-leb (48 + d) 49 (omega arith))

is_digit_of : (d : ℕ) → d < 2 → is_ascii_digit (48 + d) ≡ true
is_digit_of d h = and_from (nat_le 48 (48 + d)) (nat_le (48 + d) 57) (le-leb 48 (48 + d) (omega arith)) (le-leb (48 + d) 57 (omega arith))

pub length-binary : (w p : ℕ) → length (binary w p) ≡ w
unfolding binary
length-binary zero p = refl
length-binary (suc w) p = let i = length-binary w (p / 2) in let more = length_push (binary w (p / 2)) (48 + p % 2) in omega arith

-- from the last digit on
pub binary_step : (w k left : ℕ) (tail : List ℕ) → k < w → binary (w - (k + 1)) (left / 2) ++ ((48 + left % 2) ∷ tail) ≡ binary (w - k) left ++ tail
unfolding binary
binary_step w k left tail h =
    let e : w - k ≡ suc (w - (k + 1)) = omega arith in
    sym (ap (λ (j : ℕ). binary j left ++ tail) e ∙ append_assoc (binary (w - (k + 1)) (left / 2)) ((48 + left % 2) ∷ []) tail)

-- four at once
pub binary_steps : (g k left : ℕ) (tail : List ℕ) → k < g → binary (4 * g - 4 * (k + 1)) (left / 16) ++ (binary 4 left ++ tail) ≡ binary (4 * g - 4 * k) left ++ tail
unfolding binary
binary_steps g k left tail h =
    let w = 4 * g in
    let a = 4 * k in
    let l1 = left / 2 in
    let l2 = left / 2 / 2 in
    let l3 = left / 2 / 2 / 2 in
    let e0 : a + 1 ≤ w = omega arith in
    let same : left / 16 ≡ left / 2 / 2 / 2 / 2 = omega arith in
    let end : w - 4 * (k + 1) ≡ w - (a + 3 + 1) = omega arith in
    let s3 = binary_step w (a + 3) l3 ((48 + l2 % 2) ∷ (48 + l1 % 2) ∷ (48 + left % 2) ∷ tail) (omega arith) in
    let s2 = binary_step w (a + 2) l2 ((48 + l1 % 2) ∷ (48 + left % 2) ∷ tail) (omega arith) in
    let s1 = binary_step w (a + 1) l1 ((48 + left % 2) ∷ tail) (omega arith) in
    let s0 = binary_step w a left tail (omega arith) in
    let m3 : w - (a + 3) ≡ w - (a + 2 + 1) = omega arith in
    let m2 : w - (a + 2) ≡ w - (a + 1 + 1) = omega arith in
    ap (λ (j : ℕ). binary j (left / 16) ++ (binary 4 left ++ tail)) end
    ∙ ap (λ (l : ℕ). binary (w - (a + 3 + 1)) l ++ (binary 4 left ++ tail)) same
    ∙ s3
    ∙ ap (λ (j : ℕ). binary j l3 ++ ((48 + l2 % 2) ∷ (48 + l1 % 2) ∷ (48 + left % 2) ∷ tail)) m3
    ∙ s2
    ∙ ap (λ (j : ℕ). binary j l2 ++ ((48 + l1 % 2) ∷ (48 + left % 2) ∷ tail)) m2
    ∙ s1
    ∙ s0

-- the last four are those of what is left by 16
pub binary_last : (p : ℕ) → binary 4 (p % 16) ≡ binary 4 p
unfolding binary
binary_last p =
    let d0 : p % 16 % 2 ≡ p % 2 = omega arith in
    let d1 : p % 16 / 2 % 2 ≡ p / 2 % 2 = omega arith in
    let d2 : p % 16 / 2 / 2 % 2 ≡ p / 2 / 2 % 2 = omega arith in
    let d3 : p % 16 / 2 / 2 / 2 % 2 ≡ p / 2 / 2 / 2 % 2 = omega arith in
    ap (λ (d : ℕ). (48 + d) ∷ (48 + p % 16 / 2 / 2 % 2) ∷ (48 + p % 16 / 2 % 2) ∷ (48 + p % 16 % 2) ∷ []) d3
    ∙ ap (λ (d : ℕ). (48 + p / 2 / 2 / 2 % 2) ∷ (48 + d) ∷ (48 + p % 16 / 2 % 2) ∷ (48 + p % 16 % 2) ∷ []) d2
    ∙ ap (λ (d : ℕ). (48 + p / 2 / 2 / 2 % 2) ∷ (48 + p / 2 / 2 % 2) ∷ (48 + d) ∷ (48 + p % 16 % 2) ∷ []) d1
    ∙ ap (λ (d : ℕ). (48 + p / 2 / 2 / 2 % 2) ∷ (48 + p / 2 / 2 % 2) ∷ (48 + p / 2 % 2) ∷ (48 + d) ∷ []) d0

-- eight of them are four and four
pub eight_fours : (p : ℕ) → binary 4 (p / 16) ++ (binary 4 p ++ []) ≡ binary 8 p
eight_fours p = binary_steps 2 0 p [] (omega arith) ∙ append-nil (binary 8 p)

eight_halves : (p : ℕ) → binary 8 p ≡ binary 4 (p / 16) ++ binary 4 p
eight_halves p = sym (eight_fours p) ∙ ap (λ (l : List ℕ). binary 4 (p / 16) ++ l) (append-nil (binary 4 p))

-- eight at once
pub eight_steps : (g k left : ℕ) (tail : List ℕ) → k < g → binary (8 * g - 8 * (k + 1)) (left / 256) ++ (binary 8 left ++ tail) ≡ binary (8 * g - 8 * k) left ++ tail
eight_steps g k left tail h =
    let same : left / 256 ≡ left / 16 / 16 = omega arith in
    let end : 8 * g - 8 * (k + 1) ≡ 4 * (2 * g) - 4 * (2 * k + 1 + 1) = omega arith in
    let start : 4 * (2 * g) - 4 * (2 * k) ≡ 8 * g - 8 * k = omega arith in
    ap₂ (λ (j n : ℕ). binary j n ++ (binary 8 left ++ tail)) end same
    ∙ (ap (λ (l : List ℕ). binary (4 * (2 * g) - 4 * (2 * k + 1 + 1)) (left / 16 / 16) ++ (l ++ tail)) (eight_halves left)
    ∙ (ap (λ (l : List ℕ). binary (4 * (2 * g) - 4 * (2 * k + 1 + 1)) (left / 16 / 16) ++ l) (append_assoc (binary 4 (left / 16)) (binary 4 left) tail)
    ∙ (binary_steps (2 * g) (2 * k + 1) (left / 16) (binary 4 left ++ tail) (omega (arith, h))
    ∙ (binary_steps (2 * g) (2 * k) left tail (omega (arith, h)) ∙ ap (λ (j : ℕ). binary j left ++ tail) start))))

pub sixteen_eights : (p : ℕ) (tail : List ℕ) → binary 8 (p / 256) ++ (binary 8 p ++ tail) ≡ binary 16 p ++ tail
sixteen_eights p tail = eight_steps 2 0 p tail (omega arith)

pub thirty_two_sixteens : (p : ℕ) (tail : List ℕ) → binary 16 (p / 65536) ++ (binary 16 p ++ tail) ≡ binary 32 p ++ tail
thirty_two_sixteens p tail =
    let same : p / 65536 ≡ p / 256 / 256 = omega arith in
    ap (λ (n : ℕ). binary 16 n ++ (binary 16 p ++ tail)) same
    ∙ (ap (λ (l : List ℕ). binary 16 (p / 256 / 256) ++ l) (sym (sixteen_eights p tail))
    ∙ (eight_steps 4 1 (p / 256) (binary 8 p ++ tail) (omega arith) ∙ eight_steps 4 0 p tail (omega arith)))

-- the last eight are those of what is left by 256
pub eight_last : (p : ℕ) → binary 8 (p % 256) ≡ binary 8 p
eight_last p =
    let high : p % 256 / 16 ≡ p / 16 % 16 = omega arith in
    let low : p % 256 % 16 ≡ p % 16 = omega arith in
    eight_halves (p % 256)
    ∙ (ap₂ (λ (x y : List ℕ). x ++ y) (ap (binary 4) high ∙ binary_last (p / 16)) (sym (binary_last (p % 256)) ∙ (ap (binary 4) low ∙ binary_last p))
    ∙ sym (eight_halves p))

pub width_eights : (t : Ty) → 8 * (width t / 8) ≡ width t
width_eights I32 = refl
width_eights I16 = refl
width_eights I8 = refl
width_eights U32 = refl
width_eights U16 = refl
width_eights U8 = refl

pub binary_over : (w k left : ℕ) (tail : List ℕ) → w ≤ k → binary (w - k) left ++ tail ≡ tail
unfolding binary
binary_over w k left tail h = let e : w - k ≡ 0 = omega arith in ap (λ (j : ℕ). binary j left ++ tail) e

digits_push : (ds : List ℕ) (c : ℕ) → all_ascii_digits ds ≡ true → is_ascii_digit c ≡ true → all_ascii_digits (ds ++ c ∷ []) ≡ true
digits_push [] c e f = and_from (is_ascii_digit c) true f refl
digits_push (d ∷ ds) c e f =
    let p = and_parts (is_ascii_digit d) (all_ascii_digits ds) e in
    and_from (is_ascii_digit d) (all_ascii_digits (ds ++ c ∷ [])) p.0 (digits_push ds c p.1 f)

pub digits_binary : (w p : ℕ) → all_ascii_digits (binary w p) ≡ true
unfolding binary
digits_binary zero p = refl
digits_binary (suc w) p = let h : p % 2 < 2 = omega arith in digits_push (binary w (p / 2)) (48 + p % 2) (digits_binary w (p / 2)) (is_digit_of (p % 2) h)

pub bits_again : (w p : ℕ) → p < 2 ^ w → bits_of 0 (binary w p) ≡ Some p
unfolding binary
bits_again zero p h = let e : 0 ≡ p = omega arith in ap (λ (n : ℕ). Some n) e
bits_again (suc w) p h =
    let e = pow-succ' 2 w in
    let half : p / 2 < 2 ^ w = omega arith in
    let digit : p % 2 < 2 = omega arith in
    let n : 2 * (p / 2) + ((48 + p % 2) - 48) ≡ p = omega arith in
    bits_snoc (binary w (p / 2)) 0 (48 + p % 2)
    ∙ ap (λ (o : Option ℕ). o >>= λ m. bits_of m ((48 + p % 2) ∷ [])) (bits_again w (p / 2) half)
    ∙ cond-true (is_bit (48 + p % 2)) (Some (2 * (p / 2) + ((48 + p % 2) - 48))) None (is_bit_of (p % 2) digit)
    ∙ ap (λ (k : ℕ). Some k) n

pub bits_takes : (w : ℕ) (ds : List ℕ) (n : ℕ) → length ds ≡ w → bits_of 0 ds ≡ Some n → (ds ≡ binary w n) × (n < 2 ^ w)
unfolding binary
bits_takes zero [] n l e = let z : 0 ≡ n = some_is e in (refl, omega arith)
bits_takes zero (c ∷ ds) n l e = absurd (omega (arith, l))
bits_takes (suc w) ds n l e =
    let within : w < length ds = omega arith in
    let size : length ds ≡ w + 1 = omega arith in
    let front = take w ds in
    let c = get_or ds w 0 in
    let split : ds ≡ front ++ c ∷ [] = sym (take-length ds) ∙ ap (λ (k : ℕ). take k ds) size ∙ take_more ds w 0 within in
    let b = bind_some (bits_of 0 front) (λ m. bits_of m (c ∷ [])) n (sym (bits_snoc front 0 c) ∙ ap (bits_of 0) (sym split) ∙ e) in
    let g = guarded (is_bit c) (Some (2 * b.0 + (c - 48))) n b.2 in
    let v : 2 * b.0 + (c - 48) ≡ n = some_is g.1 in
    let r = and_parts (nat_le 48 c) (nat_le c 49) g.0 in
    let least : 48 ≤ c = leb-true 48 c r.0 in
    let most : c ≤ 49 = leb-true c 49 r.1 in
    let i = bits_takes w front b.0 (length-take-le w ds (omega arith)) b.1 in
    let less : b.0 < 2 ^ w = i.1 in
    let p = pow-succ' 2 w in
    let half : b.0 ≡ n / 2 = omega arith in
    let last : c ≡ 48 + n % 2 = omega arith in
    (split ∙ ap (λ (l : List ℕ). l ++ c ∷ []) (i.0 ∙ ap (binary w) half) ∙ ap (λ (d : ℕ). binary w (n / 2) ++ d ∷ []) last, omega arith)

-- ---- over a loop's turns

power_most : (i j : ℕ) → i ≤ j → 2 ^ i ≤ 2 ^ j
power_most i j h =
    ⊎_elim
    (λ less. let p = pow_below i j less in omega arith)
    (λ over. let e : i ≡ j = omega (arith, over) in subst (λ (k : ℕ). 2 ^ i ≤ 2 ^ k) e (omega arith))
    (cases_lt i j)

pub bits_room : (n i k : ℕ) → n < 2 ^ i → i ≤ k → n < 2 ^ k
bits_room n i k h l = let p = power_most i k l in omega arith

pub bits_next : (n i d : ℕ) → n < 2 ^ i → d ≤ 1 → 2 * n + d < 2 ^ (i + 1)
bits_next n i d h l =
    let p = pow-succ' 2 i in
    let e : suc i ≡ i + 1 = omega arith in
    subst (λ (k : ℕ). 2 * n + d < 2 ^ k) e (omega arith)

pub bits_going : (ds : List ℕ) (i n : ℕ) → i < length ds → 48 ≤ get_or ds i 0 → get_or ds i 0 ≤ 49 → bits_of n (drop i ds) ≡ bits_of (2 * n + (get_or ds i 0 - 48)) (drop (i + 1) ds)
bits_going ds i n h low_c high_c =
    let c = get_or ds i 0 in
    ap (bits_of n) (drop_more ds i 0 h)
    ∙ cond-true (is_bit c) (bits_of (2 * n + (c - 48)) (drop (i + 1) ds)) None (and_from (nat_le 48 c) (nat_le c 49) (le-leb 48 c low_c) (le-leb c 49 high_c))

pub bits_low : (ds : List ℕ) (i n : ℕ) → i < length ds → get_or ds i 0 < 48 → bits_of n (drop i ds) ≡ None
bits_low ds i n h less =
    let c = get_or ds i 0 in
    ap (bits_of n) (drop_more ds i 0 h) ∙ cond-false (is_bit c) (bits_of (2 * n + (c - 48)) (drop (i + 1) ds)) None (and_left (nat_le 48 c) (nat_le c 49) (lt-leb 48 c less))

pub bits_high : (ds : List ℕ) (i n : ℕ) → i < length ds → 49 < get_or ds i 0 → bits_of n (drop i ds) ≡ None
bits_high ds i n h more =
    let c = get_or ds i 0 in
    ap (bits_of n) (drop_more ds i 0 h) ∙ cond-false (is_bit c) (bits_of (2 * n + (c - 48)) (drop (i + 1) ds)) None (and_right (nat_le 48 c) (nat_le c 49) (lt-leb c 49 more))

-- the widths
pub width_most : (t : Ty) → width t ≤ 32
width_most I32 = omega arith
width_most I16 = omega arith
width_most I8 = omega arith
width_most U32 = omega arith
width_most U16 = omega arith
width_most U8 = omega arith

-- ---- patterns

high_is : (t : Ty) → high t ≡ pos (unsigned_abs (high t))
high_is I32 = refl
high_is I16 = refl
high_is I8 = refl
high_is U32 = refl
high_is U16 = refl
high_is U8 = refl

low_most : (t : Ty) → low t ≤ℤ pos 0
low_most I32 = omega (arith, ints)
low_most I16 = omega (arith, ints)
low_most I8 = omega (arith, ints)
low_most U32 = omega (arith, ints)
low_most U16 = omega (arith, ints)
low_most U8 = omega (arith, ints)

pattern_pos : (t : Ty) (n : ℕ) → n < span t → pattern t (pos n) ≡ n
pattern_pos I32 n h = omega arith
pattern_pos I16 n h = omega arith
pattern_pos I8 n h = omega arith
pattern_pos U32 n h = omega arith
pattern_pos U16 n h = omega arith
pattern_pos U8 n h = omega arith

pattern_neg : (t : Ty) (k : ℕ) → k < span t → pattern t (negsuc k) ≡ span t - 1 - k
pattern_neg I32 k h = omega arith
pattern_neg I16 k h = omega arith
pattern_neg I8 k h = omega arith
pattern_neg U32 k h = omega arith
pattern_neg U16 k h = omega arith
pattern_neg U8 k h = omega arith

abs_below : (z : ℤ) (n : ℕ) → pos 0 ≤ℤ z → z <ℤ pos n → unsigned_abs z < n
abs_below (pos a) n h k = omega (arith, ints)
abs_below (negsuc a) n h k = absurd (omega (arith, ints))

pattern_small : (t : Ty) (v : ℤ) → pattern t v < 2 ^ width t
pattern_small t v =
    let b = rem_bounds v (span t) (span_pos t) in
    subst (λ (m : ℕ). pattern t v < m) (span-pow t) (abs_below (int_rem_euclid v (pos (span t))) (span t) b.0 b.1)

int_le_true : (a b : ℤ) → int_le a b ≡ true → a ≤ℤ b
int_le_true a b e = grind (arith, ints)

number_again : (t : Ty) (v : ℤ) → in_range t v ≡ true → number_of t (pattern t v) ≡ v
number_again t (pos n) e =
    let r = and_parts (int_le (low t) (pos n)) (int_le (pos n) (high t)) e in
    let below : pos n ≤ℤ high t = int_le_true (pos n) (high t) r.1 in
    let top = high_is t in
    let all = low+span t in
    let under = low_most t in
    let most : n ≤ unsigned_abs (high t) = omega (arith, ints) in
    let small : n < span t = omega (arith, ints) in
    ap (number_of t) (pattern_pos t n small) ∙ cond-true (nat_le n (unsigned_abs (high t))) (pos n) (pos n -ℤ pos (2 ^ width t)) (le-leb n (unsigned_abs (high t)) most)
number_again t (negsuc k) e =
    let r = and_parts (int_le (low t) (negsuc k)) (int_le (negsuc k) (high t)) e in
    let above : low t ≤ℤ negsuc k = int_le_true (low t) (negsuc k) r.0 in
    let top = high_is t in
    let all = low+span t in
    let small : k < span t = omega (arith, ints) in
    let p = span t - 1 - k in
    let more : unsigned_abs (high t) < p = omega (arith, ints) in
    let back : pos p -ℤ pos (span t) ≡ negsuc k = omega (arith, ints) in
    ap (number_of t) (pattern_neg t k small)
    ∙ cond-false (nat_le p (unsigned_abs (high t))) (pos p) (pos p -ℤ pos (2 ^ width t)) (lt-leb p (unsigned_abs (high t)) more)
    ∙ ap (λ (m : ℕ). pos p -ℤ pos m) (sym (span-pow t)) ∙ back

number_takes : (t : Ty) (p : ℕ) → p < 2 ^ width t → (in_range t (number_of t p) ≡ true) × (pattern t (number_of t p) ≡ p)
number_takes t p h = by_test (nat_le p (unsigned_abs (high t))) refl
  where
    by_test : (b : Bool) → nat_le p (unsigned_abs (high t)) ≡ b → (in_range t (number_of t p) ≡ true) × (pattern t (number_of t p) ≡ p)
    by_test true e =
        let most : p ≤ unsigned_abs (high t) = leb-true p (unsigned_abs (high t)) e in
        let small : p < span t = subst (λ (m : ℕ). p < m) (sym (span-pow t)) h in
        let top = high_is t in
        let under = low_most t in
        let is : number_of t p ≡ pos p = cond-true (nat_le p (unsigned_abs (high t))) (pos p) (pos p -ℤ pos (2 ^ width t)) e in
        let low_is : low t ≤ℤ pos p = omega (arith, ints) in
        let high_fits : pos p ≤ℤ high t = omega (arith, ints) in
        subst (λ (v : ℤ). (in_range t v ≡ true) × (pattern t v ≡ p)) (sym is) (in_range_yes t (pos p) low_is high_fits, pattern_pos t p small)
    by_test false e =
        let more : unsigned_abs (high t) < p = leb-false p (unsigned_abs (high t)) e in
        let small : p < span t = subst (λ (m : ℕ). p < m) (sym (span-pow t)) h in
        let top = high_is t in
        let all = low+span t in
        let k = span t - 1 - p in
        let within : k < span t = omega arith in
        let back : pos p -ℤ pos (span t) ≡ negsuc k = omega (arith, ints) in
        let is : number_of t p ≡ negsuc k = cond-false (nat_le p (unsigned_abs (high t))) (pos p) (pos p -ℤ pos (2 ^ width t)) e ∙ ap (λ (m : ℕ). pos p -ℤ pos m) (sym (span-pow t)) ∙ back in
        let low_is : low t ≤ℤ negsuc k = omega (arith, ints) in
        let high_fits : negsuc k ≤ℤ high t = omega (arith, ints) in
        let turned : span t - 1 - k ≡ p = omega arith in
        subst (λ (v : ℤ). (in_range t v ≡ true) × (pattern t v ≡ p)) (sym is) (in_range_yes t (negsuc k) low_is high_fits, pattern_neg t k within ∙ turned)

-- ---- values

pub decoded_again : (t : Ty) (v : ℤ) → in_range t v ≡ true → decoded t (bits t v) ≡ Some v
unfolding decoded
decoded_again t v e =
    cond-true (nat_eq (length (bits t v)) (width t)) (bits_of 0 (bits t v) >>= λ p. Some (number_of t p)) None (eq-eqb (length (bits t v)) (width t) (length-binary (width t) (pattern t v)))
    ∙ ap (λ (o : Option ℕ). o >>= λ p. Some (number_of t p)) (bits_again (width t) (pattern t v) (pattern_small t v)) ∙ ap (λ (u : ℤ). Some u) (number_again t v e)

pub decoded_takes : (t : Ty) (ds : List ℕ) (v : ℤ) → decoded t ds ≡ Some v → (ds ≡ bits t v) × (in_range t v ≡ true)
unfolding decoded
decoded_takes t ds v e =
    let g = guarded (nat_eq (length ds) (width t)) (bits_of 0 ds >>= λ p. Some (number_of t p)) v e in
    let b = bind_some (bits_of 0 ds) (λ p. Some (number_of t p)) v g.1 in
    let n : number_of t b.0 ≡ v = some_is b.2 in
    let i = bits_takes (width t) ds b.0 (eqb-true (length ds) (width t) g.0) b.1 in
    let m = number_takes t b.0 i.1 in
    subst (λ (u : ℤ). (ds ≡ bits t u) × (in_range t u ≡ true)) n (i.0 ∙ ap (binary (width t)) (sym m.1), m.0)
