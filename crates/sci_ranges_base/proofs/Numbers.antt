-- Numbers of intervals.
use Rattle.std.proofs.Common.{◌≡◌, ℕ, ◌≤◌, suc, ℤ, pos, negsuc, ◌+ℤ◌, ◌-ℤ◌, ◌*ℤ◌, ◌≤ℤ◌, true, false, arith}
use Rattle.std.proofs.lemmas.Int.{ints, clamps}
use Rattle.std.proofs.Math.IntN.{*ℤ_comm}
use Rattle.std.proofs.Math.Nat.{mul-le-mul_left}
use Rattle.std.specs.Prelude.{int_lt, int_le}
use Rattle.std.specs.Int.{int_min, int_max}
use Rattle.sci_base.proofs.FitLemmas.{int_le_yes}
use Rattle.sci_forms.proofs.TestLemmas.{both_true, int_le_told}
use Rattle.sci_ranges_base.specs.declared.interval.Interval.{Interval}
use Rattle.sci_ranges_base.specs.Intervals.{IsIn, IsInSome, one, hull, met, is_within, plus, minus, times, at_ends, corners}

-- ---- the lesser and the greater of two numbers

pub min_below : (a b : ℤ) → (int_min a b ≤ℤ a) × (int_min a b ≤ℤ b)
min_below a b = (omega (arith, ints, clamps), omega (arith, ints, clamps))

pub max_above : (a b : ℤ) → (a ≤ℤ int_max a b) × (b ≤ℤ int_max a b)
max_above a b = (omega (arith, ints, clamps), omega (arith, ints, clamps))

pub below_min : (a b m : ℤ) → m ≤ℤ a → m ≤ℤ b → m ≤ℤ int_min a b
below_min a b m h k = omega (arith, ints, clamps)

pub above_max : (a b m : ℤ) → a ≤ℤ m → b ≤ℤ m → int_max a b ≤ℤ m
above_max a b m h k = omega (arith, ints, clamps)

pub le_along : (a b c : ℤ) → a ≤ℤ b → b ≤ℤ c → a ≤ℤ c
le_along a b c h k = omega (arith, ints)

-- ---- what is in one, in both, in a part

pub hull_has : (i j : Interval) (v : ℤ) → IsIn i v → IsIn (hull i j) v
hull_has i j v h = record {
  above = le_along _ _ _ (min_below i.least j.least).0 h.above;
  below = le_along _ _ _ h.below (max_above i.greatest j.greatest).0;
}

pub hull_has_other : (i j : Interval) (v : ℤ) → IsIn j v → IsIn (hull i j) v
hull_has_other i j v h = record {
  above = le_along _ _ _ (min_below i.least j.least).1 h.above;
  below = le_along _ _ _ h.below (max_above i.greatest j.greatest).1;
}

pub met_has : (i j : Interval) (v : ℤ) → IsIn i v → IsIn j v → IsInSome (met i j) v
met_has i j v h k =
    let lo = above_max i.least j.least v h.above k.above in
    let hi = below_min i.greatest j.greatest v h.below k.below in
    rw (int_le_yes (int_max i.least j.least) (int_min i.greatest j.greatest) (le_along _ _ _ lo hi)) (record { above = lo; below = hi })

pub within_has : (i j : Interval) (v : ℤ) → is_within i j ≡ true → IsIn i v → IsIn j v
within_has i j v w h =
    let p = both_true (int_le j.least i.least) (int_le i.greatest j.greatest) w in
    record {
      above = le_along _ _ _ (int_le_told j.least i.least p.0) h.above;
      below = le_along _ _ _ h.below (int_le_told i.greatest j.greatest p.1);
    }

-- ---- operations

pub plus_has : (i j : Interval) (u v : ℤ) → IsIn i u → IsIn j v → IsIn (plus i j) (u +ℤ v)
plus_has i j u v h k = record { above = omega (arith, ints, h.above, k.above); below = omega (arith, ints, h.below, k.below) }

pub minus_has : (i j : Interval) (u v : ℤ) → IsIn i u → IsIn j v → IsIn (minus i j) (u -ℤ v)
minus_has i j u v h k = record { above = omega (arith, ints, h.above, k.below); below = omega (arith, ints, h.below, k.above) }

-- a product by a number that isn't negative rises, and by one that is falls
pub scale_up : (n : ℕ) (a b : ℤ) → a ≤ℤ b → (pos n *ℤ a) ≤ℤ (pos n *ℤ b)
scale_up n (pos a) (pos b) h = let l : a ≤ b = omega (arith, ints, h) in omega (arith, ints, mul-le-mul_left n l)
scale_up n (pos a) (negsuc b) h = absurd (omega (arith, ints, h))
scale_up n (negsuc a) (pos b) h = omega (arith, ints)
scale_up n (negsuc a) (negsuc b) h = let l : suc b ≤ suc a = omega (arith, ints, h) in omega (arith, ints, mul-le-mul_left n l)

pub scale_down : (n : ℕ) (a b : ℤ) → a ≤ℤ b → (negsuc n *ℤ b) ≤ℤ (negsuc n *ℤ a)
scale_down n (pos a) (pos b) h = let l : a ≤ b = omega (arith, ints, h) in omega (arith, ints, mul-le-mul_left (suc n) l)
scale_down n (pos a) (negsuc b) h = absurd (omega (arith, ints, h))
scale_down n (negsuc a) (pos b) h = omega (arith, ints)
scale_down n (negsuc a) (negsuc b) h = let l : suc b ≤ suc a = omega (arith, ints, h) in omega (arith, ints, mul-le-mul_left (suc n) l)

not_below : (a b : ℤ) → b ≤ℤ a → int_lt a b ≡ false
not_below a b h = grind (arith, ints)

pub times_has : (z : ℤ) (i : Interval) (v : ℤ) → IsIn i v → IsIn (times z i) (z *ℤ v)
times_has (pos n) i v h =
    let least : pos 0 ≤ℤ pos n = omega (arith, ints) in
    rw (not_below (pos n) (pos 0) least) (record { above = scale_up n i.least v h.above; below = scale_up n v i.greatest h.below })
times_has (negsuc n) i v h = record { above = scale_down n v i.greatest h.below; below = scale_down n i.least v h.above }

-- a number times each of two ends
sides : (z a u b : ℤ) → a ≤ℤ u → u ≤ℤ b → IsIn (hull (one (z *ℤ a)) (one (z *ℤ b))) (z *ℤ u)
sides (pos n) a u b h k = record {
  above = le_along _ _ _ (min_below (pos n *ℤ a) (pos n *ℤ b)).0 (scale_up n a u h);
  below = le_along _ _ _ (scale_up n u b k) (max_above (pos n *ℤ a) (pos n *ℤ b)).1;
}
sides (negsuc n) a u b h k = record {
  above = le_along _ _ _ (min_below (negsuc n *ℤ a) (negsuc n *ℤ b)).1 (scale_down n u b k);
  below = le_along _ _ _ (scale_down n a u h) (max_above (negsuc n *ℤ a) (negsuc n *ℤ b)).0;
}

-- between two numbers that are between two each
pub outer : (p q r s x y z : ℤ) → IsIn (hull (one p) (one q)) x → IsIn (hull (one r) (one s)) y → IsIn (hull (one x) (one y)) z
    → IsIn (hull (hull (one p) (one q)) (hull (one r) (one s))) z
outer p q r s x y z h k l =
    let lo = min_below (int_min p q) (int_min r s) in
    let hi = max_above (int_max p q) (int_max r s) in
    record {
      above = le_along _ _ _ (below_min x y _ (le_along _ _ _ lo.0 h.above) (le_along _ _ _ lo.1 k.above)) l.above;
      below = le_along _ _ _ l.below (above_max x y _ (le_along _ _ _ h.below hi.0) (le_along _ _ _ k.below hi.1));
    }

pub corners_have : (i j : Interval) (u v : ℤ) → IsIn i u → IsIn j v → IsIn (corners (λ a b. a *ℤ b) i j) (u *ℤ v)
corners_have i j u v h k =
    let middle = sides v i.least u i.greatest h.above h.below in
    outer (i.least *ℤ j.least) (i.least *ℤ j.greatest) (i.greatest *ℤ j.least) (i.greatest *ℤ j.greatest) (i.least *ℤ v) (i.greatest *ℤ v) (u *ℤ v)
    (sides i.least j.least v j.greatest k.above k.below)
    (sides i.greatest j.least v j.greatest k.above k.below)
    (turned (v *ℤ i.least) (v *ℤ i.greatest) (v *ℤ u) _ _ _ (*ℤ_comm v i.least) (*ℤ_comm v i.greatest) (*ℤ_comm v u) middle)
  where
    turned : (a b c x y z : ℤ) → a ≡ x → b ≡ y → c ≡ z → IsIn (hull (one a) (one b)) c → IsIn (hull (one x) (one y)) z
    turned a b c x y z e f g m = rw (← e, ← f, ← g) m

-- a function that never falls
abbrev pub NeverFalls : (ℤ → ℤ) → Type 0
NeverFalls f = (u v : ℤ) → u ≤ℤ v → f u ≤ℤ f v

pub ends_have : (f : ℤ → ℤ) (i : Interval) (v : ℤ) → NeverFalls f → IsIn i v → IsIn (at_ends f i) (f v)
ends_have f i v r h = record { above = r i.least v h.above; below = r v i.greatest h.below }
