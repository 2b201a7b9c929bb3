-- The recipe of LogicalOp: true inputs are counted, once, or at each bit of the patterns.
use Rattle.std.proofs.Common.{◌≡◌, ℕ, zero, suc, ◌+◌, ◌-◌, ◌*◌, ◌%◌, ◌^◌, ◌<◌, ◌≤◌, ◌/◌, ◌+ℤ◌, ◌*ℤ◌, Option, Some, None, Bool, true, false, refl, sym, ap, ◌∙◌, subst, arith, ℤ, pos, if◌then◌else◌, List, [], ◌∷◌, ◌++◌, length, append-nil, pow-suc, min, max}
use Rattle.std.specs.Prelude.{nat_eq, nat_lt, int_lt, not}
use Rattle.std.specs.Int.{bit_at}
use Rattle.std.proofs.lemmas.Int.{ints}
use Rattle.std.proofs.lemmas.Nat.{div-mul-add, pow-add}
use Rattle.std.proofs.lemmas.Nat.Bits.{bit_at-lt}
use Rattle.std.proofs.lemmas.Bool.Decides.{nat_tests}
use Rattle.sci_base.specs.declared.Ty.{Ty}
use Rattle.sci_base.specs.declared.Ty.TheVariants.{I32, I16, I8, U32, U16, U8}
use Rattle.sci_base.specs.Fit.{InRange, int_eq, span, width}
use Rattle.sci_base.specs.Bits.{of_bits, pattern}
use Rattle.sci_base.proofs.FitLemmas.{span_at_most, span-pow}
use Rattle.sci_kinds.specs.declared.Cell.{Cell}
use Rattle.sci_kinds.specs.declared.Cell.TheVariants.{Value}
use Rattle.sci_forms.specs.declared.Kind.TheVariants.{LogicalOp}
use Rattle.sci_forms.specs.declared.spec.Spec.{Spec}
use Rattle.sci_forms.specs.Ports.{total, Fills}
use Rattle.sci_forms.specs.Words.{param, out_type, size}
use Rattle.sci_kinds.specs.Asks.{Asks}
use Rattle.sci_kinds.proofs.Elements.{input_in_range}
use Rattle.sci_kinds.specs.Table.{cell_of, input as input_of, count_to, logical as logical_of, logical_bits as bits_of, truth as truth_of, number}
use Rattle.c_ast.specs.declared.Op.TheVariants.{Add, Sub, Mul, Div, Rem, Eq, Ne, Gt, And, Or}
use Rattle.c_mean.specs.Meaning.{truth, operate, ◌>>=◌}
use Rattle.sci_cgen_blocks.specs.declared.logical_kinds.Join.{Join}
use Rattle.sci_cgen_blocks.specs.declared.logical_kinds.Join.TheVariants.{Every, Any, Odd}
use Rattle.sci_cgen_blocks.specs.Terms.{Given, Term, along, scratch, both, value, Scratch, with_scratch, Work, assign, assign_if, do_work, do_works, do_steps, worked, worked_by, then_steps, do_turns, Gives, Readable, IsScratch, WorksFit, StepsFit, RecipeFits}
use Rattle.sci_cgen_blocks.specs.Recipes.{recipe_of, natural, result, set, wrapped, logical_truths, logical_bits, logical, truth as truth_term, counted, changed, pattern as pattern_term, join_of, is_turned, last_bit, last_joined, bit_joined, patterns_joined, turned_over}
use Rattle.sci_cgen_blocks.proofs.Operators.{eq_is, ne_is, gt_is}
use Rattle.sci_cgen_blocks.proofs.Working.{Reaches, step_goes, assign_goes, spelled}
use Rattle.sci_cgen_blocks.proofs.Patterns.{plus, minus, over, left_over, pattern_below, pattern_is, width_at_most, number_gives}
use Rattle.sci_cgen_blocks.proofs.Reading.{Reads, both_reads, natural_reads, along_reads, scratch_reads, pattern_reads, wrapped_reads}
use Rattle.sci_cgen_blocks.proofs.Inputs.{given_for, given_input, in_size, fed_for, IsFed, element_read}
use Rattle.sci_cgen_blocks.proofs.PatternKinds.{within_type}
use Rattle.sci_cgen_blocks.proofs.MovedBits.{upper_bits, all_bits, bits_of_number, same_bits, turned_bits, two_bits, joined_bit, two_below, joined_below, first_bit, one_bit, operation_bit}

-- ---- an operation on a count

-- what the operation's term gives, where the result counts c of n
logical_is : (g : Given) (s : Scratch) (op : ℤ) (n c : ℕ) → s 1 ≡ pos c → c ≤ 9223372036854775807
    → value g s (logical op n) ≡ Some (truth (logical_of op n c))
logical_is g s op n c e h = at_0 (int_eq op (pos 0)) (int_eq op (pos 1)) (int_eq op (pos 2)) (int_eq op (pos 3)) (int_eq op (pos 4))
  where
    is : Some (s 1) ≡ Some (pos c)
    is = ap Some e

    same : (i j : ℕ) → int_eq (pos i) (pos j) ≡ nat_eq i j
    same i j = grind (arith, ints, nat_tests)

    less : (i j : ℕ) → int_lt (pos i) (pos j) ≡ nat_lt i j
    less i j = grind (arith, ints, nat_tests)

    at_0 : (b0 b1 b2 b3 b4 : Bool) → value g s (
        if b0 then both Eq result (natural n) else
        if b1 then both Gt result (natural 0) else
        if b2 then both Ne result (natural n) else
        if b3 then both Eq result (natural 0) else
        if b4 then both Eq (both Rem result (natural 2)) (natural 1) else both Eq result (natural 0)) ≡ Some (truth (
        if b0 then nat_eq c n else
        if b1 then nat_lt 0 c else
        if b2 then not (nat_eq c n) else
        if b3 then nat_eq c 0 else
        if b4 then nat_eq (c % 2) 1 else nat_eq c 0))
    at_0 true b1 b2 b3 b4 = eq_is {x = pos c} {y = pos n} is refl ∙ ap (λ (b : Bool). Some (truth b)) (same c n)
    at_0 false true b2 b3 b4 = gt_is {x = pos c} {y = pos 0} is refl ∙ ap (λ (b : Bool). Some (truth b)) (less 0 c)
    at_0 false false true b3 b4 = ne_is {x = pos c} {y = pos n} is refl ∙ ap (λ (b : Bool). Some (truth (not b))) (same c n)
    at_0 false false false true b4 = eq_is {x = pos c} {y = pos 0} is refl ∙ ap (λ (b : Bool). Some (truth b)) (same c 0)
    at_0 false false false false true =
        eq_is {x = pos (c % 2)} {y = pos 1} (left_over is 2 (omega arith) h) refl ∙ ap (λ (b : Bool). Some (truth b)) (same (c % 2) 1)
    at_0 false false false false false = eq_is {x = pos c} {y = pos 0} is refl ∙ ap (λ (b : Bool). Some (truth b)) (same c 0)

pub count_most : (f : ℕ → ℤ) (n : ℕ) → count_to f n ≤ n
count_most f zero = omega arith
count_most f (suc n) = by_bit (int_eq (f n) (pos 0)) (count_most f n)
  where
    by_bit : (b : Bool) → count_to f n ≤ n → count_to f n + (if b then 0 else 1) ≤ suc n
    by_bit true h = omega (arith, h)
    by_bit false h = omega (arith, h)

-- ---- changes one after the other

-- changes, and what holds behind them
record Does (g : Given) (ws : List Work) (s : Scratch) (Q : Scratch → Type 0) : Type 0 where
  behind : Scratch
  is : do_works g ws s ≡ Some behind
  holds : Q behind

assign_does : {g : Given} {n : ℕ} {t : Term} {ws : List Work} {s : Scratch} {Q : Scratch → Type 0} {z : ℤ} → value g s t ≡ Some z
    → Does g ws (with_scratch n z s) Q
    → Does g (assign n t ∷ ws) s Q
assign_does e d = record { behind = d.behind; is = rw e d.is; holds = d.holds }

done_does : {g : Given} {s : Scratch} {Q : Scratch → Type 0} → Q s → Does g [] s Q
done_does {s} h = record { behind = s; is = refl; holds = h }

-- the same changes as steps
changed_reaches : (g : Given) (ws : List Work) (v : Term) (s : Scratch) (z : ℤ) → Does g ws s (λ s'. value g s' v ≡ Some z)
    → Reaches g (changed ws) v s (Value z)
changed_reaches g ws v s z d = record { gives = record { behind = d.behind; works = by_works ws s d.is; is = d.holds } }
  where
    by_work : (w : Work) (ws : List Work) (s : Scratch) (o : Option Scratch) → do_work g w s ≡ o
        → ((s' : Scratch) → do_works g ws s' ≡ Some d.behind → do_steps g (changed ws) s' ≡ worked d.behind)
        → (o >>= do_works g ws) ≡ Some d.behind → then_steps (worked_by o) (do_steps g (changed ws)) ≡ worked d.behind
    by_work w ws s (Some s') e go h = go s' h
    by_work w ws s None e go h = cc

    by_works : (ws : List Work) (s : Scratch) → do_works g ws s ≡ Some d.behind → do_steps g (changed ws) s ≡ worked d.behind
    by_works [] s h = cc
    by_works (w ∷ ws) s h = by_work w ws s (do_work g w s) refl (λ s' q. by_works ws s' q) h

-- ---- counting

-- the digits of the terms, counted in the result; other scratch numbers stay
module _ (g : Given) (f : ℕ → Term) (d : ℕ → ℤ) (n : ℕ) (small : n ≤ 64) (ws : List Work) (s0 : Scratch) (Q : Scratch → Type 0)
    (is : (k : ℕ) → k < n → (s : Scratch) → ((i : ℕ) → nat_eq 1 i ≡ false → s i ≡ s0 i) → value g s (f k) ≡ Some
    (pos (if int_eq (d k) (pos 0) then 0 else 1))) where
  counted_does : (j k : ℕ) → k + j ≡ n → (s : Scratch) → s 1 ≡ pos (count_to d k) → ((i : ℕ) → nat_eq 1 i ≡ false → s i ≡ s0 i)
      → ((s' : Scratch) → s' 1 ≡ pos (count_to d n) → ((i : ℕ) → nat_eq 1 i ≡ false → s' i ≡ s0 i) → Does g ws s' Q)
      → Does g (counted f k j ++ ws) s Q
  counted_does zero k l s h o go = let z : k ≡ n = omega (arith, l) in go s (h ∙ ap (λ (i : ℕ). pos (count_to d i)) z) o
  counted_does (suc j) k l s h o go =
      let digit : (if int_eq (d k) (pos 0) then 0 else 1) ≤ 1 = bit (int_eq (d k) (pos 0)) in
      assign_does (plus (ap Some h) (is k (omega (arith, l)) s o) (omega (arith, count_most d k, l, small, digit)))
      (counted_does j (suc k) (omega (arith, l)) _ refl (λ i q. kept i q) go)
    where
      bit : (b : Bool) → (if b then 0 else 1) ≤ 1
      bit true = omega arith
      bit false = omega arith

      kept : (i : ℕ) → nat_eq 1 i ≡ false → with_scratch 1 (pos (count_to d k + (if int_eq (d k) (pos 0) then 0 else 1))) s i ≡ s0 i
      kept i q = rw q (o i q)

-- ---- true inputs

truth_digit : (b : Bool) → truth (not b) ≡ pos (if b then 0 else 1)
truth_digit true = refl
truth_digit false = refl

module _ (g : Given) (n : ℕ) (small : n ≤ 64) (v : ℕ → ℤ) (is : (k : ℕ) → k < n → g.input k g.element ≡ v k) (op : ℤ) where
  truths_reach : (s : Scratch) → Reaches g (set (natural 0) ∷ changed (counted (λ k. truth_term (along k)) 0 n)) (logical op n) s
      (Value (truth (logical_of op n (count_to v n))))
  truths_reach s =
      assign_goes {z = pos 0} refl (changed_reaches g (counted (λ k. truth_term (along k)) 0 n) (logical op n) (with_scratch 1 (pos 0) s) _
      (subst (λ (ws : List Work). Does g ws (with_scratch 1 (pos 0) s) (λ s'. value g s' (logical op n) ≡ Some (truth (logical_of op n (count_to v n)))))
      (append-nil (counted (λ k. truth_term (along k)) 0 n))
      (counted_does g (λ k. truth_term (along k)) v n small [] (with_scratch 1 (pos 0) s)
      (λ s'. value g s' (logical op n) ≡ Some (truth (logical_of op n (count_to v n))))
      (λ k l s' o. ne_is (ap Some (is k l)) refl ∙ ap Some (truth_digit (int_eq (v k) (pos 0)))) n 0 (omega arith) (with_scratch 1 (pos 0) s) refl
      (λ i q. refl)
      (λ s' h o. done_does (logical_is g s' op n (count_to v n) h (omega (arith, count_most v n, small)))))))

-- ---- bit by bit

-- a bit as it is counted
digit_of : (x : ℕ) → x < 2 → (if int_eq (pos x) (pos 0) then 0 else 1) ≡ x
digit_of zero h = refl
digit_of (suc zero) h = refl
digit_of (suc (suc x)) h = absurd (omega (arith, h))

and_digits : (a b : ℕ) {p q : Option ℤ} → a < 2 → b < 2 → p ≡ Some (pos a) → q ≡ Some (pos b) → operate And p q ≡ Some (pos (min a b))
and_digits zero zero h k e f = rw e refl
and_digits zero (suc zero) h k e f = rw e refl
and_digits (suc zero) zero h k e f = rw (e, f) refl
and_digits (suc zero) (suc zero) h k e f = rw (e, f) refl
and_digits (suc (suc a)) b h k e f = absurd (omega (arith, h))
and_digits a (suc (suc b)) h k e f = absurd (omega (arith, k))

or_digits : (a b : ℕ) {p q : Option ℤ} → a < 2 → b < 2 → p ≡ Some (pos a) → q ≡ Some (pos b) → operate Or p q ≡ Some (pos (max a b))
or_digits zero zero h k e f = rw (e, f) refl
or_digits zero (suc zero) h k e f = rw (e, f) refl
or_digits (suc zero) zero h k e f = rw e refl
or_digits (suc zero) (suc zero) h k e f = rw e refl
or_digits (suc (suc a)) b h k e f = absurd (omega (arith, h))
or_digits a (suc (suc b)) h k e f = absurd (omega (arith, k))

-- the last bits of two scratch numbers, joined
module _ (g : Given) (s : Scratch) (x y a b : ℕ) (first : s 1 ≡ pos (x * 2 + a)) (second : s 2 ≡ pos (y * 2 + b)) (h : a < 2) (k : b < 2)
    (l : x * 2 + a ≤ 4294967296) (m : y * 2 + b ≤ 4294967296) where
  last_first : value g s (last_bit 1) ≡ Some (pos a)
  last_first = let rest : (x * 2 + a) % 2 ≡ a = omega (arith, h) in
      left_over (ap Some first) 2 (omega arith) (omega (arith, l)) ∙ ap (λ (i : ℕ). Some (pos i)) rest

  last_second : value g s (last_bit 2) ≡ Some (pos b)
  last_second = let rest : (y * 2 + b) % 2 ≡ b = omega (arith, k) in
      left_over (ap Some second) 2 (omega arith) (omega (arith, m)) ∙ ap (λ (i : ℕ). Some (pos i)) rest

  last_is : (j : Join) → value g s (last_joined j) ≡ Some (pos (two_bits j a b))
  last_is Every = and_digits a b h k last_first last_second
  last_is Any = or_digits a b h k last_first last_second
  last_is Odd =
      let rest : (x * 2 + a + (y * 2 + b)) % 2 ≡ (a + b) % 2 = omega arith in
      left_over (plus (ap Some first) (ap Some second) (omega (arith, l, m))) 2 (omega arith) (omega (arith, l, m)) ∙ ap (λ (i : ℕ). Some (pos i)) rest

-- scratch 1 becomes n more where a test's digit is 1
more_does : {g : Given} {c t : Term} {ws : List Work} {s : Scratch} {Q : Scratch → Type 0} (d x n : ℕ) → d < 2 → value g s c ≡ Some (pos d) → s 1 ≡ pos x
    → value g s t ≡ Some (pos (x + n))
    → ((s' : Scratch) → s' 1 ≡ pos (x + d * n) → ((i : ℕ) → nat_eq 1 i ≡ false → s' i ≡ s i) → Does g ws s' Q) → Does g (assign_if c 1 t ∷ ws) s Q
more_does {s} zero x n h e f v go =
    let d = go s (f ∙ ap pos (omega arith)) (λ i q. refl) in record { behind = d.behind; is = rw e d.is; holds = d.holds }
more_does {s} (suc zero) x n h e f v go =
    let once : x + n ≡ x + 1 * n = omega arith in
    let d = go (with_scratch 1 (pos (x + n)) s) (ap pos once) (λ i q. rw q refl) in record { behind = d.behind; is = rw (e, v) d.is; holds = d.holds }
more_does (suc (suc d)) x n h e f v go = absurd (omega (arith, h))

-- turns one after the other, and what holds behind them
record Turns (g : Given) (n k : ℕ) (ws : List Work) (s : Scratch) (Q : Scratch → Type 0) : Type 0 where
  behind : Scratch
  is : do_turns g n ws k s ≡ Some behind
  holds : Q behind

turn_then : {g : Given} {n k : ℕ} {ws : List Work} {s : Scratch} {P Q : Scratch → Type 0} → Does g ws s P
    → ((s' : Scratch) → P s' → Turns g n k ws (with_scratch n (s' n +ℤ pos 1) s') Q) → Turns g n (suc k) ws s Q
turn_then {n} {k} d go = let t = go d.behind d.holds in record { behind = t.behind; is = rw (d.is, t.is) refl; holds = t.holds }

once_at_most : (d n : ℕ) → d < 2 → d * n ≤ n
once_at_most zero n h = omega arith
once_at_most (suc zero) n h = omega arith
once_at_most (suc (suc d)) n h = absurd (omega (arith, h))

even_width : (t : Ty) → width t / 2 * 2 ≡ width t
even_width I32 = omega arith
even_width I16 = omega arith
even_width I8 = omega arith
even_width U32 = omega arith
even_width U16 = omega arith
even_width U8 = omega arith

-- the pattern in scratch 1, of these bits, is joined with the one in scratch 2
module _ (g : Given) (ty : Ty) (j : Join) (f h : ℕ → ℕ) (f_bit : (i : ℕ) → f i < 2) (h_bit : (i : ℕ) → h i < 2) where
  abbrev pair : ℕ → ℕ
  pair i = two_bits j (f i) (h i)

  -- where b bits are done and n are left
  record At (b n : ℕ) (s : Scratch) : Type 0 where
    first : s 1 ≡ pos (upper_bits f b n + of_bits pair b * 2 ^ n)
    second : s 2 ≡ pos (upper_bits h b n)
    first_below : upper_bits f b n + of_bits pair b * 2 ^ n < span ty
    second_below : upper_bits h b n < span ty

  -- the span by powers
  span_split : (b n : ℕ) → b + suc n ≡ width ty → span ty ≡ 2 * (2 ^ b * 2 ^ n)
  span_split b n l =
      let parts : span ty ≡ 2 ^ b * 2 ^ suc n = span-pow ty ∙ ap (λ (i : ℕ). 2 ^ i) (sym l) ∙ pow-add 2 b (suc n) in
      let twice = ap (λ (p : ℕ). 2 ^ b * p) (pow-suc 2 n) in
      omega (arith, parts, twice)

  -- scratch 1 with the new bit, as twice what is left of it
  whole : (b n d : ℕ) → b + suc n ≡ width ty
      → upper_bits f b (suc n) + of_bits pair b * 2 ^ suc n + d * span ty ≡ (upper_bits f (suc b) n + (of_bits pair b + d * 2 ^ b) * 2 ^ n) * 2 + f b
  whole b n d l =
      let low = ap (λ (p : ℕ). of_bits pair b * p) (pow-suc 2 n) in
      let high = ap (λ (p : ℕ). d * p) (span_split b n l) in
      omega (arith, low, high)

  bit_does : {Q : Scratch → Type 0} (ws : List Work) (b n : ℕ) (s : Scratch) → b + suc n ≡ width ty → At b (suc n) s
      → ((s' : Scratch) → At (suc b) n s' → Does g ws s' Q) → Does g (bit_joined ty j ++ ws) s Q
  bit_does ws b n s l a go =
      let most = span_at_most ty in
      let d_below = two_below j (f b) (h b) (f_bit b) (h_bit b) in
      let none = whole b n 0 l in
      let all = whole b n (pair b) l in
      let part = once_at_most (pair b) (span ty) d_below in
      let low = f_bit b in
      let below = a.first_below in
      let below' = a.second_below in
      let split : upper_bits f b (suc n) + of_bits pair b * 2 ^ suc n ≡ (upper_bits f (suc b) n + of_bits pair b * 2 ^ n) * 2 + f b = omega (arith, none) in
      let half : (upper_bits f b (suc n) + of_bits pair b * 2 ^ suc n + pair b * span ty) / 2 ≡ upper_bits f (suc b) n + of_bits pair (suc b) * 2 ^ n =
      ap (λ (x : ℕ). x / 2) all ∙ div-mul-add (upper_bits f (suc b) n + of_bits pair (suc b) * 2 ^ n) 2 (f b) low in
      let half' : upper_bits h b (suc n) / 2 ≡ upper_bits h (suc b) n = div-mul-add (upper_bits h (suc b) n) 2 (h b) (h_bit b) in
      more_does (pair b) (upper_bits f b (suc n) + of_bits pair b * 2 ^ suc n) (span ty) d_below
      (last_is g s (upper_bits f (suc b) n + of_bits pair b * 2 ^ n) (upper_bits h (suc b) n) (f b) (h b) (a.first ∙ ap pos split) a.second low (h_bit b)
      (omega (arith, split, below, most)) (omega (arith, below', most)) j) a.first (plus (ap Some a.first) refl (omega (arith, below, most)))
      (λ s' e o. assign_does (over (ap Some e) 2 (omega arith) (omega (arith, below, part, most)))
      (assign_does (over (ap Some (o 2 refl ∙ a.second)) 2 (omega arith) (omega (arith, below', most)))
      (go _ (record {
        first = ap pos half;
        second = ap pos half';
        first_below = omega (arith, all, below, part);
        second_below = omega (arith, below');
      }))))

  turns_do : (k b : ℕ) (s : Scratch) → b + k * 2 ≡ width ty → At b (k * 2) s → Turns g 3 k (bit_joined ty j ++ bit_joined ty j) s (At (width ty) 0)
  turns_do zero b s l a = let same : b ≡ width ty = omega (arith, l) in record { behind = s; is = refl; holds = subst (λ (i : ℕ). At i 0 s) same a }
  turns_do (suc k) b s l a =
      let more : suc k * 2 ≡ suc (suc (k * 2)) = omega arith in
      let turn : Does g (bit_joined ty j ++ bit_joined ty j) s (At (suc (suc b)) (k * 2)) =
      bit_does (bit_joined ty j) b (suc (k * 2)) s (omega (arith, l)) (subst (λ (i : ℕ). At b i s) more a)
      (λ s' c. bit_does [] (suc b) (k * 2) s' (omega (arith, l)) c (λ s'' e. done_does e)) in
      turn_then turn (λ s' c. turns_do k (suc (suc b)) _ (omega (arith, l))
      (record { first = c.first; second = c.second; first_below = c.first_below; second_below = c.second_below }))

from_none : (x : ℕ) → x ≡ 0 + x
from_none x = omega arith

-- the numbers of these patterns, at each bit
module _ (g : Given) (n : ℕ) (ty : Ty) (v : ℕ → ℤ) (is : (k : ℕ) → k < n → g.input k g.element ≡ v k) (fits : (k : ℕ) → k < n → InRange ty (v k))
    (j : Join) where
  abbrev count : ℕ → ℕ → ℕ
  count i k = count_to (λ (x : ℕ). pos (bit_at (pattern ty (v x)) i)) k

  abbrev bits_after : ℕ → ℕ → ℕ
  bits_after k i = joined_bit j k (count i k)

  -- scratch 1, where k inputs are joined
  abbrev Holds : ℕ → Scratch → Type 0
  Holds k s = s 1 ≡ pos (of_bits (bits_after k) (width ty))

  pattern_gives : (k : ℕ) → k < n → (s : Scratch) → value g s (pattern_term ty (along k)) ≡ Some (pos (pattern ty (v k)))
  pattern_gives k l s = pattern_is (ap Some (is k l)) ty (within_type ty (v k) (fits k l))

  pattern_bits : (k : ℕ) → pattern ty (v k) ≡ upper_bits (bit_at (pattern ty (v k))) 0 (width ty)
  pattern_bits k = bits_of_number (pattern ty (v k)) (width ty) (subst (λ (x : ℕ). pattern ty (v k) < x) (span-pow ty) (pattern_below ty (v k)))

  first_holds : (s : Scratch) → s 1 ≡ pos (pattern ty (v 0)) → Holds 1 s
  first_holds s e =
      e ∙ ap pos (pattern_bits 0 ∙ all_bits (bit_at (pattern ty (v 0))) (width ty)
      ∙ same_bits (bit_at (pattern ty (v 0))) (bits_after 1) (λ i.
      let low = bit_at-lt (pattern ty (v 0)) i in
      sym (first_bit j (bit_at (pattern ty (v 0)) i) low)
      ∙ ap (joined_bit j 1) (sym (digit_of (bit_at (pattern ty (v 0)) i) low) ∙ from_none _)) (width ty))

  -- one more input
  next_bits : (k : ℕ) → of_bits (λ (i : ℕ). two_bits j (bits_after k i) (bit_at (pattern ty (v k)) i)) (width ty) ≡ of_bits (bits_after (suc k)) (width ty)
  next_bits k = same_bits (λ (i : ℕ). two_bits j (bits_after k i) (bit_at (pattern ty (v k)) i)) (bits_after (suc k)) (λ i.
      let low = bit_at-lt (pattern ty (v k)) i in
      one_bit j k (count i k) (bit_at (pattern ty (v k)) i) (count_most (λ (x : ℕ). pos (bit_at (pattern ty (v x)) i)) k) low
      ∙ ap (λ (d : ℕ). joined_bit j (suc k) (count i k + d)) (sym (digit_of (bit_at (pattern ty (v k)) i) low))) (width ty)

  pattern_turns : (k : ℕ) (s : Scratch) → Holds k s → s 2 ≡ pos (pattern ty (v k))
      → Turns g 3 (width ty / 2) (bit_joined ty j ++ bit_joined ty j) s (Holds (suc k))
  pattern_turns k s e q =
      let whole : of_bits (bits_after k) (width ty) ≡ upper_bits (bits_after k) 0 (width ty) = sym (all_bits (bits_after k) (width ty)) in
      let below = turned_bits (bits_after k) (λ i. joined_below j k (count i k)) (width ty) in
      let none : upper_bits (bits_after k) 0 (width ty) ≡ upper_bits (bits_after k) 0 (width ty) + 0 * 2 ^ width ty = omega arith in
      let spans = span-pow ty in
      let even = even_width ty in
      let start : At g ty j (bits_after k) (bit_at (pattern ty (v k))) (λ i. joined_below j k (count i k)) (λ i. bit_at-lt (pattern ty (v k)) i) 0 (width ty) s =
      record {
        first = e ∙ ap pos whole ∙ ap pos none;
        second = q ∙ ap pos (pattern_bits k);
        first_below = omega (arith, whole, below, spans);
        second_below = omega (arith, pattern_bits k, pattern_below ty (v k));
      } in
      let t = turns_do g ty j (bits_after k) (bit_at (pattern ty (v k))) (λ i. joined_below j k (count i k)) (λ i. bit_at-lt (pattern ty (v k)) i)
      (width ty / 2) 0 s (omega (arith, even)) (subst (λ (i : ℕ). At g ty j (bits_after k) (bit_at (pattern ty (v k))) (λ i. joined_below j k (count i k))
      (λ i. bit_at-lt (pattern ty (v k)) i) 0 i s) (sym even) start) in
      let last : 0 + of_bits (λ (i : ℕ). two_bits j (bits_after k i) (bit_at (pattern ty (v k)) i)) (width ty) * 2 ^ 0 ≡ of_bits (bits_after (suc k)) (width ty) =
      omega (arith, next_bits k) in
      record { behind = t.behind; is = t.is; holds = t.holds.first ∙ ap pos last }

  patterns_reach : {t : Term} {c : Cell} (i k : ℕ) (s : Scratch) → k + i ≡ n → Holds k s → ((s' : Scratch) → Holds n s' → Reaches g [] t s' c)
      → Reaches g (patterns_joined ty j k i) t s c
  patterns_reach zero k s l e go = let same : k ≡ n = omega (arith, l) in go s (subst (λ (x : ℕ). Holds x s) same e)
  patterns_reach (suc i) k s l e go =
      let turns = pattern_turns k (with_scratch 3 (pos 0) (with_scratch 2 (pos (pattern ty (v k))) s)) e refl in
      assign_goes (pattern_gives k (omega (arith, l)) s)
      (step_goes (ap worked_by turns.is) (patterns_reach i (suc k) turns.behind (omega (arith, l)) turns.holds go))

module _ (g : Given) (n : ℕ) (some : 1 ≤ n) (ty : Ty) (v : ℕ → ℤ) (is : (k : ℕ) → k < n → g.input k g.element ≡ v k)
    (fits : (k : ℕ) → k < n → InRange ty (v k)) (op : ℤ) where
  abbrev bit : ℕ → ℕ
  bit i = joined_bit (join_of op) n (count_to (λ (x : ℕ). pos (bit_at (pattern ty (v x)) i)) n)

  -- the pattern that is told
  told : (s : Scratch) → s 1 ≡ pos (of_bits bit (width ty)) → value g s (turned_over ty (is_turned op)) ≡ Some (pos (bits_of ty op n v))
  told s e = by_turn (is_turned op) ∙ ap (λ (x : ℕ). Some (pos x)) (sym (same_bits
      (λ (i : ℕ). if logical_of op n (count_to (λ (x : ℕ). pos (bit_at (pattern ty (v x)) i)) n) then 1 else 0) (λ (i : ℕ). if is_turned op then 1 - bit i else bit i)
      (λ i. operation_bit op n (count_to (λ (x : ℕ). pos (bit_at (pattern ty (v x)) i)) n)) (width ty)))
    where
      by_turn : (b : Bool) → value g s (turned_over ty b) ≡ Some (pos (of_bits (λ i. if b then 1 - bit i else bit i) (width ty)))
      by_turn true =
          let all = turned_bits bit (λ i. joined_below (join_of op) n (count_to (λ (x : ℕ). pos (bit_at (pattern ty (v x)) i)) n)) (width ty) in
          let spans = span-pow ty in
          let most = span_at_most ty in
          let rest : span ty - 1 - of_bits bit (width ty) ≡ of_bits (λ i. 1 - bit i) (width ty) = omega (arith, all, spans) in
          minus refl (ap Some e) (omega (arith, all, spans)) (omega (arith, most)) ∙ ap (λ (x : ℕ). Some (pos x)) rest
      by_turn false = ap Some e

  bits_below : bits_of ty op n v ≤ 4611686018427387904
  bits_below =
      let most = span_at_most ty in
      let spans = span-pow ty in
      let all = turned_bits (λ i. if logical_of op n (count_to (λ k. pos (bit_at (pattern ty (v k)) i)) n) then 1 else 0) (λ i. digit (logical_of op n
      (count_to (λ k. pos (bit_at (pattern ty (v k)) i)) n))) (width ty) in
      omega (arith, all, spans, most)
    where
      digit : (b : Bool) → (if b then 1 else 0) < 2
      digit true = omega arith
      digit false = omega arith

  bits_reach : (s : Scratch) → Reaches g (logical_bits ty op n).steps (logical_bits ty op n).value s (number ty (bits_of ty op n v))
  bits_reach s =
      assign_goes (pattern_gives g n ty v is fits (join_of op) 0 (omega (arith, some)) s)
      (patterns_reach g n ty v is fits (join_of op) (n - 1) 1 (with_scratch 1 (pos (pattern ty (v 0))) s) (omega (arith, some))
      (first_holds g n ty v is fits (join_of op) (with_scratch 1 (pos (pattern ty (v 0))) s) refl)
      (λ s' e. number_gives g ty (turned_over ty (is_turned op)) s' (bits_of ty op n v) (told s' e) bits_below))

-- ---- the kind

pub logical_op_gives : (s : Spec) (x : List ℤ) (m : ℕ) (u : List ℤ) (e : ℕ) → e < total s.outs → (t : Scratch) → Asks LogicalOp s → Fills s.ins u
    → Gives (given_for s x m u e) (recipe_of LogicalOp s) t (cell_of LogicalOp s x m u e)
logical_op_gives s x m u e l t a f = by_way (int_eq (param s 1) (pos 0))
  where
    v : ℕ → ℤ
    v k = input_of (size s) u k e

    is : (k : ℕ) → k < length s.ins → (given_for s x m u e).input k e ≡ v k
    is k q = given_input s x m u (out_type s) (size s) a.0.ins_alike k e (omega (arith, q))

    fits : (k : ℕ) → k < length s.ins → InRange (out_type s) (v k)
    fits k q = input_in_range s.ins (out_type s) (size s) u a.0.ins_alike f k e q (in_size s a.0.outs_alike a.0.one e l)

    by_way : (b : Bool) → Gives (given_for s x m u e)
        (if b then logical_truths (param s 0) (length s.ins) else logical_bits (out_type s) (param s 0) (length s.ins)) t
        (if b then Value (truth_of (logical_of (param s 0) (length s.ins) (count_to v (length s.ins)))) else number (out_type s)
        (bits_of (out_type s) (param s 0) (length s.ins) v))
    by_way true = (truths_reach (given_for s x m u e) (length s.ins) a.2 v is (param s 0) t).gives
    by_way false = (bits_reach (given_for s x m u e) (length s.ins) a.1 (out_type s) v is fits (param s 0) t).gives

-- ---- what it reads

logical_reads : {r : Readable} {d : ℕ} (op : ℤ) (n : ℕ) → 1 ≤ r.scratch → n ≤ 64 → Reads r (suc (suc (suc d))) (logical op n)
logical_reads {r} {d} op n o h = at_0 (int_eq op (pos 0)) (int_eq op (pos 1)) (int_eq op (pos 2)) (int_eq op (pos 3)) (int_eq op (pos 4))
  where
    at_0 : (b0 b1 b2 b3 b4 : Bool) → Reads r (suc (suc (suc d))) (
        if b0 then both Eq result (natural n) else
        if b1 then both Gt result (natural 0) else
        if b2 then both Ne result (natural n) else
        if b3 then both Eq result (natural 0) else
        if b4 then both Eq (both Rem result (natural 2)) (natural 1) else both Eq result (natural 0))
    at_0 true b1 b2 b3 b4 = both_reads (scratch_reads (omega arith) o) (natural_reads (omega (arith, h)))
    at_0 false true b2 b3 b4 = both_reads (scratch_reads (omega arith) o) (natural_reads (omega arith))
    at_0 false false true b3 b4 = both_reads (scratch_reads (omega arith) o) (natural_reads (omega (arith, h)))
    at_0 false false false true b4 = both_reads (scratch_reads (omega arith) o) (natural_reads (omega arith))
    at_0 false false false false true = both_reads (both_reads (scratch_reads (omega arith) o) (natural_reads (omega arith))) (natural_reads (omega arith))
    at_0 false false false false false = both_reads (scratch_reads (omega arith) o) (natural_reads (omega arith))

last_reads : {r : Readable} {d : ℕ} (i : ℕ) → 1 ≤ i → i ≤ r.scratch → Reads r (suc (suc d)) (last_bit i)
last_reads i l h = both_reads (scratch_reads l h) (natural_reads (omega arith))

works_joined : (r : Readable) (ws vs : List Work) → WorksFit r ws → WorksFit r vs → WorksFit r (ws ++ vs)
works_joined r [] vs h k = k
works_joined r (w ∷ ws) vs h k = (h.0, works_joined r ws vs h.1 k)

changed_fit : (r : Readable) (ws : List Work) → WorksFit r ws → StepsFit r (changed ws)
changed_fit r [] h = tt
changed_fit r (w ∷ ws) h = (h.0, changed_fit r ws h.1)

counted_fit : (r : Readable) (f : ℕ → Term) (o : 1 ≤ r.scratch) (j k : ℕ) → ((i : ℕ) → i < k + j → Reads r 31 (f i)) → WorksFit r (counted f k j)
counted_fit r f o zero k h = tt
counted_fit r f o (suc j) k h =
    let one : IsScratch r 1 = (omega arith, o) in
    let sum : Reads r 32 (both Add result (f k)) = both_reads (scratch_reads (omega arith) o) (h k (omega arith)) in
    ((one, sum.fits), counted_fit r f o j (suc k) (λ i l. h i (omega (arith, l))))

module _ (r : Readable) (op : ℤ) (n : ℕ) (few : n ≤ 64) (input_at : (k : ℕ) → k < n → r.input k r.element) where
  truths_read : 1 ≤ r.scratch → RecipeFits r (logical_truths op n)
  truths_read o =
      let one : IsScratch r 1 = (omega arith, o) in
      let count : StepsFit r (changed (counted (λ k. truth_term (along k)) 0 n)) =
      changed_fit r (counted (λ k. truth_term (along k)) 0 n)
      (counted_fit r (λ k. truth_term (along k)) o n 0
      (λ i l. both_reads (along_reads (input_at i (omega (arith, l)))) (natural_reads (omega arith)))) in
      let last : Reads r 32 (logical op n) = logical_reads op n o few in
      (((one, spelled 0 (omega arith)), count), last.fits)

  joined_reads : {d : ℕ} (j : Join) → 2 ≤ r.scratch → Reads r (suc (suc (suc d))) (last_joined j)
  joined_reads Every o = both_reads (last_reads 1 (omega arith) (omega (arith, o))) (last_reads 2 (omega arith) o)
  joined_reads Any o = both_reads (last_reads 1 (omega arith) (omega (arith, o))) (last_reads 2 (omega arith) o)
  joined_reads Odd o =
      both_reads (both_reads (scratch_reads (omega arith) (omega (arith, o))) (scratch_reads (omega arith) o)) (natural_reads (omega arith))

  bit_fits : (ty : Ty) (j : Join) → 2 ≤ r.scratch → WorksFit r (bit_joined ty j)
  bit_fits ty j o =
      let most = span_at_most ty in
      let one : IsScratch r 1 = (omega arith, omega (arith, o)) in
      let two : IsScratch r 2 = (omega arith, o) in
      let test : Reads r 32 (last_joined j) = joined_reads j o in
      let more : Reads r 32 (both Add result (natural (span ty))) =
      both_reads (scratch_reads (omega arith) (omega (arith, o))) (natural_reads (omega (arith, most))) in
      let half : (i : ℕ) → 1 ≤ i → i ≤ 2 → Reads r 32 (both Div (scratch i) (natural 2)) =
      λ i l h. both_reads (scratch_reads l (omega (arith, h, o))) (natural_reads (omega arith)) in
      let first = half 1 (omega arith) (omega arith) in
      let second = half 2 (omega arith) (omega arith) in
      ((one, test.fits, more.fits), ((one, first.fits), ((two, second.fits), tt)))

  patterns_fit : (ty : Ty) (j : Join) (i k : ℕ) → k + i ≤ n → 3 ≤ r.scratch → StepsFit r (patterns_joined ty j k i)
  patterns_fit ty j zero k l o = tt
  patterns_fit ty j (suc i) k l o =
      let width_most = width_at_most ty in
      let bit = bit_fits ty j (omega (arith, o)) in
      let two : IsScratch r 2 = (omega arith, omega (arith, o)) in
      let three : IsScratch r 3 = (omega arith, o) in
      let taken : Reads r 32 (pattern_term ty (along k)) = pattern_reads ty (along_reads (input_at k (omega (arith, l)))) in (
        (two, taken.fits),
        (
          (
            three,
            omega (arith, width_most),
            works_joined r (bit_joined ty j) (bit_joined ty j) bit bit,
            (refl, (refl, (refl, (refl, (refl, (refl, tt)))))),
          ),
          patterns_fit ty j i (suc k) (omega (arith, l)) o,
        ),
      )

  over_reads : {d : ℕ} (ty : Ty) (b : Bool) → 1 ≤ r.scratch → Reads r (suc (suc d)) (turned_over ty b)
  over_reads ty true o =
      let most = span_at_most ty in both_reads (natural_reads (omega (arith, most))) (scratch_reads (omega arith) o)
  over_reads ty false o = scratch_reads (omega arith) o

  bits_read : (ty : Ty) → 1 ≤ n → 1 ≤ r.scratch → (1 < n → 3 ≤ r.scratch) → RecipeFits r (logical_bits ty op n)
  bits_read ty some o three =
      let one : IsScratch r 1 = (omega arith, o) in
      let first : Reads r 32 (pattern_term ty (along 0)) = pattern_reads ty (along_reads (input_at 0 (omega (arith, some)))) in
      let last : Reads r 32 (wrapped ty (turned_over ty (is_turned op))) = wrapped_reads ty (over_reads ty (is_turned op) o) in
      (((one, first.fits), by_count n refl), last.fits)
    where
      by_count : (i : ℕ) → i ≡ n → StepsFit r (patterns_joined ty (join_of op) 1 (i - 1))
      by_count zero e = tt
      by_count (suc zero) e = tt
      by_count (suc (suc i)) e =
          let less : suc i ≡ suc (suc i) - 1 = omega arith in
          subst (λ (x : ℕ). StepsFit r (patterns_joined ty (join_of op) 1 x)) less
          (patterns_fit ty (join_of op) (suc i) 1 (omega (arith, e)) (three (omega (arith, e))))

more_told : (a b : ℕ) → a < b → nat_lt a b ≡ true
more_told a b h = grind (arith, nat_tests)

pub logical_op_reads : (s : Spec) (e : ℕ) → e < total s.outs → Asks LogicalOp s → IsFed LogicalOp s
    → RecipeFits (fed_for LogicalOp s e) (recipe_of LogicalOp s)
logical_op_reads s e l a f = by_way (int_eq (param s 1) (pos 0)) refl
  where
    input_at : (k : ℕ) → k < length s.ins → (fed_for LogicalOp s e).input k e
    input_at k q = element_read LogicalOp s (out_type s) a.0.ins_alike f k e q refl (in_size s a.0.outs_alike a.0.one e l)

    by_way : (b : Bool) → int_eq (param s 1) (pos 0) ≡ b
        → RecipeFits (fed_for LogicalOp s e) (if b then logical_truths (param s 0) (length s.ins) else logical_bits (out_type s) (param s 0) (length s.ins))
    by_way true p = truths_read (fed_for LogicalOp s e) (param s 0) (length s.ins) a.2 input_at (rw p (omega arith))
    by_way false p =
        let one = a.1 in
        bits_read (fed_for LogicalOp s e) (param s 0) (length s.ins) a.2 input_at (out_type s) one (rw p (by_more (nat_lt 1 (length s.ins))))
        (λ l. rw (p, more_told 1 (length s.ins) l) (omega arith))
      where
        by_more : (b : Bool) → 1 ≤ (if b then 3 else 1)
        by_more true = omega arith
        by_more false = omega arith
