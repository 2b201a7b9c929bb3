-- How many truths there are, at least and at most, and what an operation makes of so many.
use Rattle.std.proofs.Common.{◌≡◌, ℕ, zero, suc, ◌+◌, ◌-◌, ◌≤◌, ℤ, pos, Option, Some, refl, ap, ◌∙◌, arith, add-one}
use Rattle.sci_kinds.specs.Table.{least_to, greatest_to}
use Rattle.sci_ranges_base.specs.declared.interval.Interval.{Interval}
use Rattle.sci_ranges_base.specs.Intervals.{from_to, one, hull}
use Rattle.sci_ranges_rules.specs.Words.{sums}

-- the truths of the first k inputs: so many surely are, and so many may be
pub record AreCounted (f : ℕ → Option Interval) (k sure may : ℕ) : Type 0 where
  pub is : sums f k ≡ Some (from_to (pos sure) (pos may))
  pub order : sure ≤ may
  pub few : may ≤ k

pub counted_none : (f : ℕ → Option Interval) → AreCounted f 0 0 0
counted_none f = record { is = refl; order = omega arith; few = omega arith }

pub counted_more : (f : ℕ → Option Interval) (k sure may a b : ℕ) → f k ≡ Some (from_to (pos a) (pos b)) → a ≤ b → b ≤ 1 → AreCounted f k sure may
    → AreCounted f (k + 1) (sure + a) (may + b)
counted_more f k sure may a b e l m h = rw add-one (record {
  is = rw (h.is, e) refl;
  order = omega (arith, h.order, l);
  few = omega (arith, h.few, m);
})

-- ---- what an operation makes of so many truths

pub range_first : (f : ℕ → ℤ) (r : Interval) → r ≡ one (f 0) → r ≡ from_to (least_to f (1 - 1)) (greatest_to f (1 - 1))
range_first f r h = h

-- one more count
pub range_more : (f : ℕ → ℤ) (more : ℕ) (i r : Interval) → 1 ≤ more → i ≡ from_to (least_to f (more - 1)) (greatest_to f (more - 1))
    → r ≡ hull i (one (f more)) → r ≡ from_to (least_to f ((more + 1) - 1)) (greatest_to f ((more + 1) - 1))
range_more f zero i r l e h = absurd (omega (arith, l))
range_more f (suc n) i r l e h =
    let less : suc n - 1 ≡ n = omega arith in
    let next : (suc n + 1) - 1 ≡ suc n = omega arith in
    let before : i ≡ from_to (least_to f n) (greatest_to f n) = rw less at e in
    rw next (h ∙ ap (λ j. hull j (one (f (suc n)))) before)
