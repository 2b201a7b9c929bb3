-- How a rule for intervals that are there is handed on to intervals that may be.
use Rattle.std.proofs.Common.{◌≡◌, ℕ, zero, suc, ◌<◌, ℤ, pos, ◌+ℤ◌, Bool, true, false, Option, Some, None, arith, subst, cond, inl, inr, ◌⊎◌}
use Rattle.std.proofs.lemmas.Int.{ints}
use Rattle.std.proofs.lemmas.Bool.{cases_lt}
use Rattle.std.specs.Prelude.{option_map, option_and_then}
use Rattle.std.specs.Int.{int_min, int_max}
use Rattle.sci_kinds.specs.declared.Cell.{Cell}
use Rattle.sci_kinds.specs.Table.{sum_to, least_to, greatest_to, fitted}
use Rattle.sci_ranges_base.specs.declared.interval.Interval.{Interval}
use Rattle.sci_ranges_base.specs.declared.cells.Cells.{Cells}
use Rattle.sci_ranges_base.specs.Intervals.{IsIn, IsInSome, from_to, one, join, both, plus}
use Rattle.sci_ranges_base.specs.Cells.{MayBe, on_some, on_both, valued}
use Rattle.sci_ranges_base.proofs.Numbers.{hull_has, hull_has_other, plus_has, le_along, min_below, max_above, below_min, above_max}
use Rattle.sci_ranges_rules.specs.Words.{sums, extremes, joins, if_so}

pub one_has : (v : ℤ) → IsIn (one v) v
one_has v = record { above = omega (arith, ints); below = omega (arith, ints) }

pub on_some_has : (f : Interval → Cells) (o : Option Interval) (v : ℤ) (c : Cell) → IsInSome o v → ((i : Interval) → IsIn i v → MayBe (f i) c) → MayBe (on_some f o) c
on_some_has f None v c h g = absurd h
on_some_has f (Some i) v c h g = g i h

pub map_has : (f : Interval → Interval) (o : Option Interval) (v w : ℤ) → IsInSome o v → ((i : Interval) → IsIn i v → IsIn (f i) w) → IsInSome (option_map f o) w
map_has f None v w h g = absurd h
map_has f (Some i) v w h g = g i h

pub then_has : (f : Interval → Option Interval) (o : Option Interval) (v w : ℤ) → IsInSome o v → ((i : Interval) → IsIn i v → IsInSome (f i) w) → IsInSome (option_and_then f o) w
then_has f None v w h g = absurd h
then_has f (Some i) v w h g = g i h

-- the same of cells without a stop
pub map_may : (f : Interval → Interval) (o : Option Interval) (v : ℤ) (c : Cell) → IsInSome o v → ((i : Interval) → IsIn i v → MayBe (valued (Some (f i))) c)
    → MayBe (valued (option_map f o)) c
map_may f None v c h g = absurd h
map_may f (Some i) v c h g = g i h

pub then_may : (f : Interval → Option Interval) (o : Option Interval) (v : ℤ) (c : Cell) → IsInSome o v → ((i : Interval) → IsIn i v → MayBe (valued (f i)) c)
    → MayBe (valued (option_and_then f o)) c
then_may f None v c h g = absurd h
then_may f (Some i) v c h g = g i h

pub both_has : (f : Interval → Interval → Interval) (o p : Option Interval) (u v w : ℤ) → IsInSome o u → IsInSome p v
    → ((i j : Interval) → IsIn i u → IsIn j v → IsIn (f i j) w) → IsInSome (both f o p) w
both_has f None p u v w h k g = absurd h
both_has f (Some i) None u v w h k g = absurd k
both_has f (Some i) (Some j) u v w h k g = g i j h k

pub on_both_has : (f : Interval → Interval → Cells) (o p : Option Interval) (u v : ℤ) (c : Cell) → IsInSome o u → IsInSome p v
    → ((i j : Interval) → IsIn i u → IsIn j v → MayBe (f i j) c) → MayBe (on_both f o p) c
on_both_has f None p u v c h k g = absurd h
on_both_has f (Some i) None u v c h k g = absurd k
on_both_has f (Some i) (Some j) u v c h k g = g i j h k

pub join_has : (o p : Option Interval) (v : ℤ) → (IsInSome o v) ⊎ (IsInSome p v) → IsInSome (join o p) v
join_has None p v (inl h) = absurd h
join_has None p v (inr h) = h
join_has (Some i) None v (inl h) = h
join_has (Some i) None v (inr h) = absurd h
join_has (Some i) (Some j) v (inl h) = hull_has i j v h
join_has (Some i) (Some j) v (inr h) = hull_has_other i j v h

-- what is there where a truth holds
pub so_has : (b : Bool) (o : Option Interval) (v : ℤ) → b ≡ true → IsInSome o v → IsInSome (if_so b o) v
so_has true o v e h = h
so_has false o v e h = cc

-- ---- more than one

pub sums_have : (f : ℕ → Option Interval) (g : ℕ → ℤ) (n : ℕ) → ((k : ℕ) → k < n → IsInSome (f k) (g k)) → IsInSome (sums f n) (sum_to g n)
sums_have f g zero h = one_has (pos 0)
sums_have f g (suc n) h =
    both_has plus (sums f n) (f n) (sum_to g n) (g n) (sum_to g n +ℤ g n) (sums_have f g n (λ k p. h k (omega (arith, p)))) (h n (omega arith)) (λ i j p q. plus_has i j (sum_to g n) (g n) p q)

pub joins_have : (f : ℕ → Option Interval) (n k : ℕ) (v : ℤ) → k < n → IsInSome (f k) v → IsInSome (joins f n) v
joins_have f zero k v l h = absurd (omega (arith, l))
joins_have f (suc n) k v l h = elim (cases_lt k n) [
  | inl p ↦ join_has (joins f n) (f n) v (inl (joins_have f n k v p h))
  | inr p ↦ let e : k ≡ n = omega (arith, l, p) in join_has (joins f n) (f n) v (inr (subst (λ j. IsInSome (f j) v) e h))
]

-- the lesser and the greater of two numbers
abbrev lesser_of : Interval → Interval → Interval
lesser_of i j = from_to (int_min i.least j.least) (int_min i.greatest j.greatest)

abbrev greater_of : Interval → Interval → Interval
greater_of i j = from_to (int_max i.least j.least) (int_max i.greatest j.greatest)

lesser_has : (i j : Interval) (u v : ℤ) → IsIn i u → IsIn j v → IsIn (lesser_of i j) (int_min u v)
lesser_has i j u v h k =
    let lo = min_below i.least j.least in
    let hi = min_below u v in
    record {
      above = below_min u v _ (le_along _ _ _ lo.0 h.above) (le_along _ _ _ lo.1 k.above);
      below = below_min i.greatest j.greatest _ (le_along _ _ _ hi.0 h.below) (le_along _ _ _ hi.1 k.below);
    }

greater_has : (i j : Interval) (u v : ℤ) → IsIn i u → IsIn j v → IsIn (greater_of i j) (int_max u v)
greater_has i j u v h k =
    let lo = max_above u v in
    let hi = max_above i.greatest j.greatest in
    record {
      above = above_max i.least j.least _ (le_along _ _ _ h.above lo.0) (le_along _ _ _ k.above lo.1);
      below = above_max u v _ (le_along _ _ _ h.below hi.0) (le_along _ _ _ k.below hi.1);
    }

least_has : (f : ℕ → Option Interval) (g : ℕ → ℤ) (n : ℕ) → ((k : ℕ) → k < suc n → IsInSome (f k) (g k)) → IsInSome (extremes int_min f n) (least_to g n)
least_has f g zero h = h 0 (omega arith)
least_has f g (suc n) h =
    both_has lesser_of (extremes int_min f n) (f (suc n)) (least_to g n) (g (suc n)) (int_min (least_to g n) (g (suc n))) (least_has f g n (λ k p. h k (omega (arith, p)))) (h (suc n) (omega arith))
    (λ i j p q. lesser_has i j (least_to g n) (g (suc n)) p q)

greatest_has : (f : ℕ → Option Interval) (g : ℕ → ℤ) (n : ℕ) → ((k : ℕ) → k < suc n → IsInSome (f k) (g k)) → IsInSome (extremes int_max f n) (greatest_to g n)
greatest_has f g zero h = h 0 (omega arith)
greatest_has f g (suc n) h =
    both_has greater_of (extremes int_max f n) (f (suc n)) (greatest_to g n) (g (suc n)) (int_max (greatest_to g n) (g (suc n))) (greatest_has f g n (λ k p. h k (omega (arith, p)))) (h (suc n) (omega arith))
    (λ i j p q. greater_has i j (greatest_to g n) (g (suc n)) p q)

pub extremes_have : (b : Bool) (f : ℕ → Option Interval) (g : ℕ → ℤ) (n : ℕ) → ((k : ℕ) → k < suc n → IsInSome (f k) (g k))
    → IsInSome (extremes (cond b int_min int_max) f n) (cond b (least_to g n) (greatest_to g n))
extremes_have true f g n h = least_has f g n h
extremes_have false f g n h = greatest_has f g n h

-- a stop by a divisor of 0 beside values
pub beside_zero : (c : Cells) (z : Bool) (o : Option ℤ) → MayBe c (fitted o) → MayBe (record c { zero = z }) (fitted o)
beside_zero c z (Some v) h = h
beside_zero c z None h = h
