-- Steps of the loops over a block's inputs.
use Rattle.std.proofs.Common.{◌≡◌, ℕ, zero, suc, ◌+◌, ◌-◌, ◌*◌, ◌/◌, ◌%◌, ◌^◌, ◌<◌, ◌≤◌, ℤ, pos, negsuc, ◌+ℤ◌, ◌-ℤ◌, ◌*ℤ◌, List, Bool, true, false, ◌&&◌, Option, Some, None, refl, sym, ap, ◌∙◌, arith, subst, cond, inl, inr, add-one}
use Rattle.std.proofs.lemmas.Int.{ints}
use Rattle.std.proofs.lemmas.Bool.{cases_lt}
use Rattle.std.specs.Prelude.{option_map}
use Rattle.sci_forms.specs.declared.spec.Spec.{Spec}
use Rattle.sci_forms.specs.Words.{param, size}
use Rattle.sci_kinds.specs.Asks.{IsSign}
use Rattle.sci_ranges_base.specs.declared.interval.Interval.{Interval}
use Rattle.sci_ranges_base.specs.Intervals.{IsIn, HasEnds, words, summands, from_to, join, both, plus, times, range_at}
use Rattle.sci_ranges_rules.specs.Words.{input_range, sums, extremes, joins, if_so, allows, may_be_digit}

-- ---- more of each

pub joins_more : (f : ℕ → Option Interval) (k : ℕ) (o r : Option Interval) → o ≡ joins f k → r ≡ join o (f k) → r ≡ joins f (k + 1)
joins_more f k o r e h = rw (add-one, ← e) h

-- where a part isn't there, neither is the sum, nor an extreme
both_none_right : (f : Interval → Interval → Interval) (o : Option Interval) → both f o None ≡ None
both_none_right f None = refl
both_none_right f (Some i) = refl

pub sums_none : (f : ℕ → Option Interval) (n k : ℕ) → k < n → f k ≡ None → sums f n ≡ None
sums_none f zero k l e = absurd (omega (arith, l))
sums_none f (suc n) k l e = elim (cases_lt k n) [
  | inl p ↦ rw (sums_none f n k p e) refl
  | inr p ↦ let d : k ≡ n = omega (arith, l, p) in let z : f n ≡ None = subst (λ j. f j ≡ None) d e in rw z (both_none_right plus (sums f n))
]

pub extremes_none : (pick : ℤ → ℤ → ℤ) (f : ℕ → Option Interval) (n k : ℕ) → k ≤ n → f k ≡ None → extremes pick f n ≡ None
extremes_none pick f zero k l e = let z : k ≡ 0 = omega (arith, l) in subst (λ j. f j ≡ None) z e
extremes_none pick f (suc n) k l e = elim (cases_lt k (suc n)) [
  | inl p ↦ rw (extremes_none pick f n k (omega (arith, p)) e) refl
  | inr p ↦ let d : k ≡ suc n = omega (arith, l, p) in let z : f (suc n) ≡ None = subst (λ j. f j ≡ None) d e in rw z (both_none_right _ (extremes pick f n))
]

-- ---- sums

-- term k of the sum at an element, counted from 0
abbrev pub term : Spec → List (Option Interval) → ℕ → ℕ → Option Interval
term s us e k = option_map (times (param s (k + 1))) (input_range (size s) us k e)

-- the ends of one term, and of so many
abbrev pub terms : ℕ → Interval
terms k = from_to (pos 0 -ℤ pos (k * 2 ^ 63)) (pos (k * 2 ^ 63))

-- the sums so far, and how large they are
pub record IsSumSoFar (f : ℕ → Option Interval) (k : ℕ) (i : Interval) : Type 0 where
  pub is : sums f k ≡ Some i
  pub ends : HasEnds (terms k) i

pub sum_none : (f : ℕ → Option Interval) → IsSumSoFar f 0 (from_to (pos 0) (pos 0))
sum_none f = record {
  is = refl;
  ends = record {
    least = record { above = omega (arith, ints); below = omega (arith, ints) };
    greatest = record { above = omega (arith, ints); below = omega (arith, ints) };
  };
}

-- a number of 64 bits times 1 or -1
sign_times : (z a : ℤ) → IsSign z → IsIn words a → IsIn (terms 1) (z *ℤ a)
sign_times z (pos a) (inl e) h = rw e (record { above = omega (arith, ints); below = omega (arith, ints, h.below) })
sign_times z (negsuc a) (inl e) h = rw e (record { above = omega (arith, ints, h.above); below = omega (arith, ints) })
sign_times z (pos a) (inr e) h = rw e (record { above = omega (arith, ints, h.below); below = omega (arith, ints) })
sign_times z (negsuc a) (inr e) h = rw e (record { above = omega (arith, ints); below = omega (arith, ints, h.above) })

pub term_ends : (z : ℤ) (i : Interval) → IsSign z → HasEnds words i → HasEnds (terms 1) (times z i)
term_ends (pos n) i s h = by_sign _
  where
    by_sign : (b : Bool) → HasEnds (terms 1) (cond b (from_to (pos n *ℤ i.greatest) (pos n *ℤ i.least)) (from_to (pos n *ℤ i.least) (pos n *ℤ i.greatest)))
    by_sign true = record { least = sign_times (pos n) i.greatest s h.greatest; greatest = sign_times (pos n) i.least s h.least }
    by_sign false = record { least = sign_times (pos n) i.least s h.least; greatest = sign_times (pos n) i.greatest s h.greatest }
term_ends (negsuc n) i s h = record { least = sign_times (negsuc n) i.greatest s h.greatest; greatest = sign_times (negsuc n) i.least s h.least }

added : (k : ℕ) (a b : ℤ) → IsIn (terms k) a → IsIn (terms 1) b → IsIn (terms (suc k)) (a +ℤ b)
added k a b h l =
    let d : suc k * 2 ^ 63 ≡ k * 2 ^ 63 + 2 ^ 63 = omega arith in
    record { above = omega (arith, ints, h.above, l.above, d); below = omega (arith, ints, h.below, l.below, d) }

pub sum_more : (f : ℕ → Option Interval) (k : ℕ) (i j : Interval) → f k ≡ Some j → HasEnds (terms 1) j → IsSumSoFar f k i → IsSumSoFar f (k + 1) (plus i j)
sum_more f k i j e t h = rw add-one (record {
  is = rw (h.is, e) refl;
  ends = record { least = added k i.least j.least h.ends.least t.least; greatest = added k i.greatest j.greatest h.ends.greatest t.greatest };
})

-- 64 terms and one more still fit
pub sum_small : (f : ℕ → Option Interval) (k : ℕ) (i : Interval) → k ≤ 64 → IsSumSoFar f k i → HasEnds summands i
sum_small f k i few h = record { least = small k i.least few h.ends.least; greatest = small k i.greatest few h.ends.greatest }
  where
    small : (k : ℕ) (v : ℤ) → k ≤ 64 → IsIn (terms k) v → IsIn summands v
    small k v few h = record { above = omega (arith, ints, h.above, few); below = omega (arith, ints, h.below, few) }

pub term_small : (i : Interval) → HasEnds (terms 1) i → HasEnds summands i
term_small i h = record { least = small i.least h.least; greatest = small i.greatest h.greatest }
  where
    small : (v : ℤ) → IsIn (terms 1) v → IsIn summands v
    small v h = record { above = omega (arith, ints, h.above); below = omega (arith, ints, h.below) }

-- ---- extremes

pub extremes_more : (pick : ℤ → ℤ → ℤ) (f : ℕ → Option Interval) (k : ℕ) (i j r : Interval) → 1 ≤ k → Some i ≡ extremes pick f (k - 1) → f k ≡ Some j
    → r ≡ from_to (pick i.least j.least) (pick i.greatest j.greatest) → Some r ≡ extremes pick f ((k + 1) - 1)
extremes_more pick f zero i j r l e h g = absurd (omega (arith, l))
extremes_more pick f (suc n) i j r l e h g =
    let less : suc n - 1 ≡ n = omega arith in
    let more : (suc n + 1) - 1 ≡ suc n = omega arith in
    let before : Some i ≡ extremes pick f n = rw less at e in
    rw more (rw (← before, h) (ap Some g))

-- ---- choices

pub so_joined : (all r x : Option Interval) (b c : Bool) (i j : Option Interval) → r ≡ join all x → x ≡ if_so b i → b ≡ c → i ≡ j → r ≡ join all (if_so c j)
so_joined all r x b c i j e f g h = e ∙ ap (join all) (f ∙ (ap (λ a. if_so a i) g ∙ ap (if_so c) h))

-- ---- rows of truths

pub allows_more : (us : List (Option Interval)) (n k row digits : ℕ) → k < n → allows us n row ≡ allows us (n - k) digits
    → may_be_digit (range_at us ((n - 1) - k)) (pos (digits % 2)) ≡ true → allows us n row ≡ allows us (n - (k + 1)) (digits / 2)
allows_more us n k row digits l e h =
    let d : n - k ≡ suc ((n - 1) - k) = omega (arith, l) in
    let m : n - (k + 1) ≡ (n - 1) - k = omega (arith, l) in
    e ∙ (ap (λ j. allows us j digits) d ∙ (ap (λ b. allows us ((n - 1) - k) (digits / 2) && b) h
    ∙ (and_true (allows us ((n - 1) - k) (digits / 2)) ∙ ap (λ j. allows us j (digits / 2)) (sym m))))
  where
    and_true : (b : Bool) → (b && true) ≡ b
    and_true true = refl
    and_true false = refl

pub allows_fails : (us : List (Option Interval)) (n k row digits : ℕ) → k < n → allows us n row ≡ allows us (n - k) digits
    → may_be_digit (range_at us ((n - 1) - k)) (pos (digits % 2)) ≡ false → allows us n row ≡ false
allows_fails us n k row digits l e h =
    let d : n - k ≡ suc ((n - 1) - k) = omega (arith, l) in
    e ∙ (ap (λ j. allows us j digits) d ∙ (ap (λ b. allows us ((n - 1) - k) (digits / 2) && b) h ∙ and_false (allows us ((n - 1) - k) (digits / 2))))
  where
    and_false : (b : Bool) → (b && false) ≡ false
    and_false true = refl
    and_false false = refl
