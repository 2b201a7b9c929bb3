-- Intervals of numbers of the types give such intervals.
use Rattle.std.proofs.Common.{◌≡◌, ℕ, zero, suc, ◌+◌, ◌-◌, ◌*◌, ◌^◌, ◌<◌, ℤ, pos, negsuc, ◌+ℤ◌, ◌-ℤ◌, ◌*ℤ◌, ◌≤ℤ◌, ◌<ℤ◌, List, length, Bool, true, false, ◌&&◌, Option, Some, None, refl, sym, arith, subst, cond, inl, inr, ◌⊎◌}
use Rattle.std.proofs.lemmas.Int.{ints}
use Rattle.std.proofs.Math.Nat.{mul_comm, div-le_self}
use Rattle.std.proofs.lemmas.Nat.{mul-add-lt, pow_below, pow_pos}
use Rattle.std.specs.Prelude.{int_lt, int_le, unsigned_abs, option_map, option_and_then}
use Rattle.std.specs.Int.{int_min, int_max, int_div_euclid}
use Rattle.sci_base.specs.declared.Ty.{Ty}
use Rattle.sci_base.specs.declared.Ty.TheVariants.{I32}
use Rattle.sci_base.specs.declared.Mode.{Mode}
use Rattle.sci_base.specs.declared.Mode.TheVariants.{Wrap, Saturate, Stop}
use Rattle.sci_base.specs.Fit.{InRange, low, high, span, width, wrap, in_range, int_eq}
use Rattle.sci_base.proofs.FitLemmas.{low≤high, low+span, span-pow, wrap_bounds}
use Rattle.sci_forms.specs.declared.Kind.{Kind}
use Rattle.sci_forms.specs.declared.Kind.TheVariants.{Const, Summation, GainBlk, Product, AbsValue, Signum, MaxMin, Saturation, DeadBand, Convert, Mux, Demux, Extractor, LogicalOp, RelationalOp, Shift, BitSet, BitClear, ExtractBits, Switch2, Select, Logic, AndLog, Dollar, SampHold, Register, ModuloCount, GatedDelay, Sensor}
use Rattle.sci_forms.specs.declared.spec.Spec.{Spec}
use Rattle.sci_forms.specs.Ports.{total, type_at, IsAlike}
use Rattle.sci_forms.specs.Typed.{typed}
use Rattle.sci_forms.specs.Words.{param, out_type, size, state_len_of}
use Rattle.sci_forms.proofs.TestLemmas.{both_true, in_range_told, int_le_told}
use Rattle.sci_kinds.specs.Asks.{Asks, IsAlikeSpec, entering_of}
use Rattle.sci_kinds.specs.Table.{mode_of, sign, brought, truth, logical, least_to, greatest_to}
use Rattle.sci_kinds.proofs.Elements.{total_alike, total_one, type_at_alike}
use Rattle.sci_kinds.proofs.TypedLemmas.{only_total}
use Rattle.sci_kinds.proofs.Ranges.{zero_one, zero_in_range, cond_in_range, spread_in_range}
use Rattle.sci_kinds.proofs.LawProofs.{asks}
use Rattle.sci_ranges_base.specs.declared.interval.Interval.{Interval}
use Rattle.sci_ranges_base.specs.declared.cells.Cells.{Cells}
use Rattle.sci_ranges_base.specs.declared.masks.Masks.{Masks}
use Rattle.sci_ranges_base.specs.Intervals.{from_to, one, whole, hull, join, met, both, at_ends, times, corners, range_at}
use Rattle.sci_ranges_base.specs.Cells.{valued, on_some, on_both}
use Rattle.sci_ranges_base.specs.Masks.{some_choose, may_be_both, may_lack_one}
use Rattle.sci_ranges_base.specs.Fitting.{wrapped, wrapped_up_to, turns, fitted_range, fitted_beyond}
use Rattle.sci_ranges_base.proofs.Numbers.{le_along, min_below, max_above}
use Rattle.sci_ranges_rules.specs.declared.patterns.Patterns.{Patterns}
use Rattle.sci_ranges_rules.specs.Patterns.{numbers_of}
use Rattle.sci_ranges_rules.specs.Words.{input_range, sums, extremes, joins, if_so, quotients, quotient_cells, truth_range, logical_range, relation_range, allows, all_joined, turned_by, below_zero, from_zero, by_sign, shifted_range, turned_range}
use Rattle.sci_ranges_rules.specs.Rules.{state_range, fitted_out, product_cells, logical_cells, anything, cells_of, next_range_of}
use Rattle.sci_ranges_rules.specs.Laws.{IsOfType, IsSomeOfType, RuleInType, NextInType}
use Rattle.sci_ranges_rules.proofs.Covers.{one_below}

-- ---- intervals that may be there

some_same : (i j : Interval) → Some i ≡ Some j → i ≡ j
some_same i j e = cc

pub none_of : (t : Ty) → IsSomeOfType t None
none_of t i e = cc

pub some_of : (t : Ty) (i : Interval) → IsOfType t i → IsSomeOfType t (Some i)
some_of t i h j e = subst (IsOfType t) (some_same i j e) h

pub one_of : (t : Ty) (v : ℤ) → InRange t v → IsOfType t (one v)
one_of t v h = record { least = h; greatest = h }

map_of : (t r : Ty) (f : Interval → Interval) (o : Option Interval) → IsSomeOfType t o → ((i : Interval) → IsOfType t i → IsOfType r (f i)) → IsSomeOfType r (option_map f o)
map_of t r f None h g = none_of r
map_of t r f (Some i) h g = some_of r (f i) (g i (h i refl))

-- whatever goes in
any_of : {A : Type 0} (t : Ty) (f : A → Interval) (o : Option A) → ((a : A) → IsOfType t (f a)) → IsSomeOfType t (option_map f o)
any_of t f None g = none_of t
any_of t f (Some a) g = some_of t (f a) (g a)

hull_in : (t : Ty) (i j : Interval) → IsOfType t i → IsOfType t j → IsOfType t (hull i j)
hull_in t i j h k = record {
  least = cond_in_range t (int_lt j.least i.least) j.least i.least (λ _. k.least) (λ _. h.least);
  greatest = cond_in_range t (int_lt j.greatest i.greatest) i.greatest j.greatest (λ _. h.greatest) (λ _. k.greatest);
}

pub join_in : (t : Ty) (o p : Option Interval) → IsSomeOfType t o → IsSomeOfType t p → IsSomeOfType t (join o p)
join_in t None p h k = k
join_in t (Some i) None h k = h
join_in t (Some i) (Some j) h k = some_of t (hull i j) (hull_in t i j (h i refl) (k j refl))

both_in : (t : Ty) (f : Interval → Interval → Interval) (o p : Option Interval) → IsSomeOfType t o → IsSomeOfType t p
    → ((i j : Interval) → IsOfType t i → IsOfType t j → IsOfType t (f i j)) → IsSomeOfType t (both f o p)
both_in t f None p h k g = none_of t
both_in t f (Some i) None h k g = none_of t
both_in t f (Some i) (Some j) h k g = some_of t (f i j) (g i j (h i refl) (k j refl))

so_in : (t : Ty) (b : Bool) (o : Option Interval) → IsSomeOfType t o → IsSomeOfType t (if_so b o)
so_in t true o h = h
so_in t false o h = none_of t

joins_in : (t : Ty) (f : ℕ → Option Interval) (n : ℕ) → ((k : ℕ) → k < n → IsSomeOfType t (f k)) → IsSomeOfType t (joins f n)
joins_in t f zero h = none_of t
joins_in t f (suc n) h = join_in t (joins f n) (f n) (joins_in t f n (λ k p. h k (omega (arith, p)))) (h n (omega arith))

on_some_in : (t : Ty) (f : Interval → Cells) (o : Option Interval) → ((i : Interval) → IsSomeOfType t ((f i).values)) → IsSomeOfType t ((on_some f o).values)
on_some_in t f None g = none_of t
on_some_in t f (Some i) g = g i

-- ---- fitted

ends_in : (t : Ty) → InRange t (low t) × InRange t (high t)
ends_in t =
    let h = low≤high t in
    (record { above = omega (arith, ints); below = h }, record { above = h; below = omega (arith, ints) })

wrapped_up_to_in : (t : Ty) (most : ℤ) (i : Interval) → InRange t most → IsOfType t (wrapped_up_to t most i)
wrapped_up_to_in t most i h = by_turns (int_eq (turns t i.least) (turns t i.greatest))
  where
    by_turns : (b : Bool) → IsOfType t (cond b (at_ends (wrap t) i) (from_to (low t) most))
    by_turns true = record { least = wrap_bounds t i.least; greatest = wrap_bounds t i.greatest }
    by_turns false = record { least = (ends_in t).0; greatest = h }

wrapped_in : (t : Ty) (i : Interval) → IsOfType t (wrapped t i)
wrapped_in t i = wrapped_up_to_in t (high t) i (ends_in t).1

brought_in : (t : Ty) (v : ℤ) → InRange t (brought (low t) (high t) v)
brought_in t v =
    cond_in_range t (int_lt v (low t)) (low t) _ (λ _. (ends_in t).0)
    (λ p. cond_in_range t (int_lt (high t) v) (high t) v (λ _. (ends_in t).1) (λ q. record { above = grind (arith, ints); below = grind (arith, ints) }))

met_in : (t : Ty) (i : Interval) → IsSomeOfType t (met i (whole t))
met_in t i = by_order (int_le (int_max i.least (low t)) (int_min i.greatest (high t))) refl
  where
    by_order : (b : Bool) → int_le (int_max i.least (low t)) (int_min i.greatest (high t)) ≡ b
        → IsSomeOfType t (cond b (Some (from_to (int_max i.least (low t)) (int_min i.greatest (high t)))) None)
    by_order false e = none_of t
    by_order true e =
        let order = int_le_told _ _ e in
        let lo = (max_above i.least (low t)).1 in
        let hi = (min_below i.greatest (high t)).1 in
        some_of t _ (record {
          least = record { above = lo; below = le_along _ _ _ order hi };
          greatest = record { above = le_along _ _ _ lo order; below = hi };
        })

beyond_in : (t : Ty) (m : Mode) (i : Interval) → IsSomeOfType t ((fitted_beyond t m i).values)
beyond_in t Wrap i = some_of t _ (wrapped_in t i)
beyond_in t Saturate i = some_of t _ (record { least = brought_in t i.least; greatest = brought_in t i.greatest })
beyond_in t Stop i = met_in t i

pub fitted_in : (t : Ty) (m : Mode) (i : Interval) → IsSomeOfType t ((fitted_range t m i).values)
fitted_in t m i = by_ends (in_range t i.least && in_range t i.greatest) refl
  where
    by_ends : (b : Bool) → (in_range t i.least && in_range t i.greatest) ≡ b
        → IsSomeOfType t ((cond b (record { values = Some i; overflow = false; zero = false }) (fitted_beyond t m i)).values)
    by_ends true e =
        let p = both_true (in_range t i.least) (in_range t i.greatest) e in
        some_of t i (record { least = in_range_told t i.least p.0; greatest = in_range_told t i.greatest p.1 })
    by_ends false e = beyond_in t m i

numbers_in : (t : Ty) (p : Patterns) → IsOfType t (numbers_of t p)
numbers_in t p = wrapped_in t (from_to (pos p.least) (pos p.greatest))

-- ---- words

truth_in : (t : Ty) (b : Bool) → InRange t (truth b)
truth_in t b = cond_in_range t b (pos 1) (pos 0)
    (λ _. let z = zero_one t in record { above = omega (arith, ints, z.0); below = z.1 }) (λ _. zero_in_range t)

sign_in : (t : Ty) (v : ℤ) → InRange t v → InRange t (sign v)
sign_in t v h = cond_in_range t (int_lt v (pos 0)) (negsuc 0) _
    (λ p. let n : v <ℤ pos 0 = grind (arith, ints) in let z = zero_one t in record { above = omega (arith, ints, h.above); below = omega (arith, ints, z.1) })
    (λ _. truth_in t (int_lt (pos 0) v))

brought_between : (t : Ty) (a b v : ℤ) → InRange t a → InRange t b → InRange t v → InRange t (brought a b v)
brought_between t a b v f g h = cond_in_range t (int_lt v a) a _ (λ _. f) (λ _. cond_in_range t (int_lt b v) b v (λ _. g) (λ _. h))

least_in : (t : Ty) (f : ℕ → ℤ) (n : ℕ) → ((k : ℕ) → InRange t (f k)) → InRange t (least_to f n)
least_in t f zero h = h 0
least_in t f (suc n) h = cond_in_range t (int_lt (f (suc n)) (least_to f n)) (f (suc n)) (least_to f n) (λ _. h (suc n)) (λ _. least_in t f n h)

greatest_in : (t : Ty) (f : ℕ → ℤ) (n : ℕ) → ((k : ℕ) → InRange t (f k)) → InRange t (greatest_to f n)
greatest_in t f zero h = h 0
greatest_in t f (suc n) h = cond_in_range t (int_lt (f (suc n)) (greatest_to f n)) (greatest_to f n) (f (suc n)) (λ _. greatest_in t f n h) (λ _. h (suc n))

pick_in : (t : Ty) (b : Bool) (x y : ℤ) → InRange t x → InRange t y → InRange t (cond b int_min int_max x y)
pick_in t true x y h k = cond_in_range t (int_lt y x) y x (λ _. k) (λ _. h)
pick_in t false x y h k = cond_in_range t (int_lt y x) x y (λ _. h) (λ _. k)

extremes_in : (t : Ty) (b : Bool) (f : ℕ → Option Interval) (n : ℕ) → ((k : ℕ) → k < suc n → IsSomeOfType t (f k)) → IsSomeOfType t (extremes (cond b int_min int_max) f n)
extremes_in t b f zero h = h 0 (omega arith)
extremes_in t b f (suc n) h =
    both_in t _ (extremes (cond b int_min int_max) f n) (f (suc n)) (extremes_in t b f n (λ k p. h k (omega (arith, p)))) (h (suc n) (omega arith))
    (λ i j p q. record { least = pick_in t b i.least j.least p.least q.least; greatest = pick_in t b i.greatest j.greatest p.greatest q.greatest })

floor_in : (t : Ty) (v : ℤ) (n : ℕ) → InRange t v → InRange t (int_div_euclid v (pos n))
floor_in t (pos a) n h = let z = zero_one t in record { above = omega (arith, ints, z.0); below = omega (arith, ints, h.below, div-le_self a n) }
floor_in t (negsuc a) n h = let z = zero_one t in record { above = omega (arith, ints, h.above, div-le_self a n); below = omega (arith, ints, z.1) }

-- the greatest multiple of 2 to the k in the type
top_in : (t : Ty) (k : ℕ) → k < width t → InRange t ((high t +ℤ pos 1) -ℤ pos (2 ^ k))
top_in t k h =
    let few : 2 ^ k < span t = rw span-pow (pow_below k (width t) h) in
    let some = pow_pos k in
    let both = ends (low t) (high t) (span t) (2 ^ k) few some (low+span t) in
    record { above = both.0; below = both.1 }
  where
    ends : (a b : ℤ) (n f : ℕ) → f < n → 0 < f → a +ℤ pos n ≡ b +ℤ pos 1 → (a ≤ℤ ((b +ℤ pos 1) -ℤ pos f)) × (((b +ℤ pos 1) -ℤ pos f) ≤ℤ b)
    ends a b n f h k e = (omega (arith, ints, h, e), omega (arith, ints, k))

shifted_in : (t : Ty) (n : ℤ) (i : Interval) → unsigned_abs n < width t → IsOfType t i → IsOfType t (shifted_range t n i)
shifted_in t n i few h = by_sign (int_lt n (pos 0))
  where
    by_sign : (b : Bool)
        → IsOfType t (cond b (at_ends (λ v. int_div_euclid v (pos (2 ^ unsigned_abs n))) i) (wrapped_up_to t ((high t +ℤ pos 1) -ℤ pos (2 ^ unsigned_abs n)) (times (pos (2 ^ unsigned_abs n)) i)))
    by_sign true = record { least = floor_in t i.least (2 ^ unsigned_abs n) h.least; greatest = floor_in t i.greatest (2 ^ unsigned_abs n) h.greatest }
    by_sign false = wrapped_up_to_in t _ _ (top_in t (unsigned_abs n) few)

-- numbers of patterns, from both signs
by_sign_in : (t : Ty) (f : Interval → Interval) (o : Option Interval) → ((i : Interval) → IsOfType t (f i)) → IsSomeOfType t (option_and_then (by_sign f) o)
by_sign_in t f None g = none_of t
by_sign_in t f (Some i) g = join_in t _ _ (any_of t f (below_zero i) g) (any_of t f (from_zero i) g)

-- ---- kind by kind

-- the intervals of the states and of what goes in are of their types
pub record AreOfTypes (c : Kind) (s : Spec) (xs : List Interval) (us : List (Option Interval)) : Type 0 where
  pub states : (i : ℕ) → i < state_len_of c s → IsOfType (out_type s) (state_range xs i)
  pub entering : (d : ℕ) → IsSomeOfType (type_at (entering_of c s) d) (range_at us d)

module _ (s : Spec) (xs : List Interval) (ms : List Masks) (us : List (Option Interval)) (e : ℕ) where
  abbrev Typed : Kind → Type 0
  Typed c = s.kind ≡ c → typed s ≡ true → Asks c s → AreOfTypes c s xs us → e < total s.outs → IsSomeOfType (type_at s.outs e) ((cells_of c s xs ms us e).values)

  -- an element of the one output
  of_out : (c : Cells) → IsAlike s.outs (out_type s) (size s) → e < total s.outs → IsSomeOfType (out_type s) (c.values) → IsSomeOfType (type_at s.outs e) (c.values)
  of_out c a l h = subst (λ t. IsSomeOfType t (c.values)) (sym (type_at_alike s.outs (out_type s) (size s) a e l)) h

  element : IsAlike s.outs (out_type s) (size s) → length s.outs ≡ 1 → e < total s.outs → e < size s
  element a one h = omega (arith, h, total_one s.outs (out_type s) (size s) a one)

  -- an element of inputs of one type
  of_in : (t : Ty) (n : ℕ) → IsAlike s.ins t n → ((d : ℕ) → IsSomeOfType (type_at s.ins d) (range_at us d)) → (d : ℕ) → d < total s.ins → IsSomeOfType t (range_at us d)
  of_in t n a f d l = subst (λ r. IsSomeOfType r (range_at us d)) (type_at_alike s.ins t n a d l) (f d)

  of_input : (t : Ty) (n : ℕ) → IsAlike s.ins t n → ((d : ℕ) → IsSomeOfType (type_at s.ins d) (range_at us d)) → (k d : ℕ) → k < length s.ins → d < n → IsSomeOfType t (range_at us (k * n + d))
  of_input t n a f k d p q = of_in t n a f (k * n + d) (omega (arith, mul-add-lt k n d (length s.ins) p q, mul_comm n (length s.ins), total_alike s.ins t n a))

  of_only : IsAlikeSpec s → length s.ins ≡ 1 → ((d : ℕ) → IsSomeOfType (type_at s.ins d) (range_at us d)) → e < size s → IsSomeOfType (out_type s) (range_at us e)
  of_only a one f q = of_in (out_type s) (size s) a.ins_alike f e (omega (arith, q, total_one s.ins (out_type s) (size s) a.ins_alike one))

  fits : (i : Interval) → IsSomeOfType (out_type s) ((fitted_out s i).values)
  fits i = fitted_in (out_type s) (mode_of (param s 0)) i

  product_in : (o p : Option Interval) → IsSomeOfType (out_type s) ((on_both (product_cells s) o p).values)
  product_in None p = none_of (out_type s)
  product_in (Some i) None = none_of (out_type s)
  product_in (Some i) (Some j) = by_code (int_eq (param s 1) (pos 1))
    where
      by_code : (b : Bool) → IsSomeOfType (out_type s) ((cond b (fitted_out s (corners (λ a b. a *ℤ b) i j)) (quotient_cells (out_type s) (mode_of (param s 0)) i j)).values)
      by_code true = fits (corners (λ a b. a *ℤ b) i j)
      by_code false = on_some_in (out_type s) (fitted_range (out_type s) (mode_of (param s 0))) (quotients i j) (λ k. fits k)

  logical_in : (f : ℕ → Option Interval) → IsSomeOfType (out_type s) ((logical_cells s f).values)
  logical_in f = by_code (int_eq (param s 1) (pos 0))
    where
      truths : (i : Interval) → IsOfType (out_type s) (logical_range (param s 0) (length s.ins) i)
      truths i =
          let more = unsigned_abs i.greatest - unsigned_abs i.least in
          let decided = λ (k : ℕ). logical (param s 0) (length s.ins) (unsigned_abs i.least + k) in
          let inside : (k : ℕ) → InRange (out_type s) (truth (decided k)) = λ k. truth_in (out_type s) (decided k) in
          record { least = least_in (out_type s) (λ k. truth (decided k)) more inside; greatest = greatest_in (out_type s) (λ k. truth (decided k)) more inside }

      by_code : (b : Bool) → IsSomeOfType (out_type s)
          ((cond b (valued (option_map (logical_range (param s 0) (length s.ins)) (sums (λ k. option_map truth_range (f k)) (length s.ins))))
          (valued (option_map (λ p. numbers_of (out_type s) (turned_by (out_type s) (param s 0) p)) (all_joined (out_type s) (param s 0) f (length s.ins - 1))))).values)
      by_code true = any_of (out_type s) (logical_range (param s 0) (length s.ins)) _ truths
      by_code false = any_of (out_type s) (λ p. numbers_of (out_type s) (turned_by (out_type s) (param s 0) p)) _ (λ p. numbers_in (out_type s) _)

  switch_in : (t : Ty) (o p q : Option Interval) (f g : Interval → Bool) → IsSomeOfType t p → IsSomeOfType t q
      → IsSomeOfType t ((on_some (λ i. valued (join (if_so (f i) p) (if_so (g i) q))) o).values)
  switch_in t o p q f g h k = on_some_in t _ o (λ i. join_in t _ _ (so_in t (f i) p h) (so_in t (g i) q k))

  one_in : (t : Ty) (v : ℤ) → InRange t v → IsSomeOfType t (Some (one v))
  one_in t v h = some_of t (one v) (one_of t v h)

  any_in : (t : Ty) → IsSomeOfType t ((anything t).values)
  any_in t = some_of t (whole t) (record { least = (ends_in t).0; greatest = (ends_in t).1 })

  flag_in : (t : Ty) (z : ℤ) → (z ≡ pos 0) ⊎ (z ≡ pos 1) → InRange t z
  flag_in t z (inl p) = subst (InRange t) (sym p) (zero_in_range t)
  flag_in t z (inr p) = subst (InRange t) (sym p) (truth_in t true)

  in_type : (c : Kind) → Typed c
  in_type Const kd h a y l =
      of_out (cells_of Const s xs ms us e) a.0.outs_alike l (one_in (out_type s) _ (spread_in_range (out_type s) (size s) s.params a.2 e (element a.0.outs_alike a.0.one l)))
  in_type Summation kd h a y l = of_out (cells_of Summation s xs ms us e) a.0.outs_alike l (on_some_in (out_type s) (fitted_out s) _ fits)
  in_type GainBlk kd h a y l = of_out (cells_of GainBlk s xs ms us e) a.0.outs_alike l (on_some_in (out_type s) _ (range_at us e) (λ i. fits _))
  in_type Product kd h a y l = of_out (cells_of Product s xs ms us e) a.0.outs_alike l (product_in (input_range (size s) us 0 e) (input_range (size s) us 1 e))
  in_type AbsValue kd h a y l = of_out (cells_of AbsValue s xs ms us e) a.0.outs_alike l (on_some_in (out_type s) _ (range_at us e) (λ i. fits _))
  in_type Signum kd h a y l =
      of_out (cells_of Signum s xs ms us e) a.0.outs_alike l (map_of (out_type s) (out_type s) (at_ends sign) (range_at us e) (of_only a.0 a.1 y.entering (element a.0.outs_alike a.0.one l))
      (λ i k. record { least = sign_in (out_type s) i.least k.least; greatest = sign_in (out_type s) i.greatest k.greatest }))
  in_type MaxMin kd h a y l =
      of_out (cells_of MaxMin s xs ms us e) a.0.outs_alike l (extremes_in (out_type s) (int_eq (param s 0) (pos 1)) (λ k. input_range (size s) us k e) (length s.ins - 1)
      (λ k p. of_input (out_type s) (size s) a.0.ins_alike y.entering k e (omega (arith, p, a.1)) (element a.0.outs_alike a.0.one l)))
  in_type Saturation kd h a y l =
      of_out (cells_of Saturation s xs ms us e) a.0.outs_alike l (map_of (out_type s) (out_type s) (at_ends (brought (param s 0) (param s 1))) (range_at us e) (of_only a.0 a.1 y.entering (element a.0.outs_alike a.0.one l))
      (λ i k. record { least = brought_between (out_type s) (param s 0) (param s 1) i.least a.3 a.4 k.least; greatest = brought_between (out_type s) (param s 0) (param s 1) i.greatest a.3 a.4 k.greatest }))
  in_type DeadBand kd h a y l = of_out (cells_of DeadBand s xs ms us e) a.0.outs_alike l (on_some_in (out_type s) _ (range_at us e) (λ i. fits _))
  in_type Convert kd h a y l = of_out (cells_of Convert s xs ms us e) a.0.outs_alike l (on_some_in (out_type s) (fitted_out s) (range_at us e) fits)
  in_type Mux kd h a y l = subst (λ t. IsSomeOfType t (range_at us e)) (a.0.types e l) (y.entering e)
  in_type Demux kd h a y l = subst (λ t. IsSomeOfType t (range_at us e)) (a.0.types e l) (y.entering e)
  in_type Extractor kd h a y l =
      let b = a.4 e (omega (arith, a.3, element a.0.outs_alike a.0.one l)) in
      of_out (cells_of Extractor s xs ms us e) a.0.outs_alike l (of_in (out_type s) _ a.2 y.entering (unsigned_abs (param s e) - 1) (omega (arith, one_below (param s e) _ b.0 b.1, only_total s.ins a.1)))
  in_type LogicalOp kd h a y l = of_out (cells_of LogicalOp s xs ms us e) a.0.outs_alike l (logical_in (λ k. input_range (size s) us k e))
  in_type RelationalOp kd h a y l =
      of_out (cells_of RelationalOp s xs ms us e) a.0.outs_alike l (any_of (out_type s) (relation_range (param s 0)) _ (λ d. record { least = truth_in (out_type s) _; greatest = truth_in (out_type s) _ }))
  in_type Shift kd h a y l =
      of_out (cells_of Shift s xs ms us e) a.0.outs_alike l (map_of (out_type s) (out_type s) _ (range_at us e) (of_only a.0 a.1 y.entering (element a.0.outs_alike a.0.one l))
      (λ i k. by_code i k (int_eq (param s 1) (pos 0))))
    where
      by_code : (i : Interval) → IsOfType (out_type s) i → (b : Bool) → IsOfType (out_type s) (cond b (shifted_range (out_type s) (param s 0) i) (turned_range (out_type s) (param s 0) i))
      by_code i k true = shifted_in (out_type s) (param s 0) i a.3 k
      by_code i k false = numbers_in (out_type s) _
  in_type BitSet kd h a y l = of_out (cells_of BitSet s xs ms us e) a.0.outs_alike l (by_sign_in (out_type s) _ (range_at us e) (λ i. numbers_in (out_type s) _))
  in_type BitClear kd h a y l = of_out (cells_of BitClear s xs ms us e) a.0.outs_alike l (by_sign_in (out_type s) _ (range_at us e) (λ i. numbers_in (out_type s) _))
  in_type ExtractBits kd h a y l = of_out (cells_of ExtractBits s xs ms us e) a.0.outs_alike l (any_of (out_type s) _ (range_at us e) (λ i. numbers_in (out_type s) _))
  in_type Switch2 kd h a y l =
      let q = element a.0.outs_alike a.0.one l in
      of_out (cells_of Switch2 s xs ms us e) a.0.outs_alike l (switch_in (out_type s) (range_at us (size s)) (range_at us e) (range_at us (size s + 1 + e)) _ _
      (subst (λ t. IsSomeOfType t (range_at us e)) (a.0.first e q) (y.entering e))
      (subst (λ t. IsSomeOfType t (range_at us (size s + 1 + e))) (a.0.last e q) (y.entering (size s + 1 + e))))
  in_type Select kd h a y l =
      of_out (cells_of Select s xs ms us e) a.0.outs_alike l (joins_in (out_type s) _ s.evtin (λ k p. so_in (out_type s) (some_choose ms k) _
      (of_input (out_type s) (size s) a.0.ins_alike y.entering k e (omega (arith, p, a.1)) (element a.0.outs_alike a.0.one l))))
  in_type Logic kd h a y l =
      joins_in (type_at s.outs e) _ (2 ^ length s.ins) (λ r p. so_in (type_at s.outs e) (allows us (length s.ins) r) _
      (one_in (type_at s.outs e) _ (flag_in (type_at s.outs e) _ (a.5 (r * length s.outs + e) (omega (arith, mul-add-lt r (length s.outs) e (2 ^ length s.ins) p (omega (arith, l, a.3)), mul_comm (length s.outs) (2 ^ length s.ins), a.4))))))
  in_type AndLog kd h a y l =
      of_out (cells_of AndLog s xs ms us e) a.0.outs_alike l (subst (λ t. IsSomeOfType t (join (if_so (may_be_both ms) (Some (one (pos 1)))) (if_so (may_lack_one ms) (Some (one (negsuc 0)))))) (sym a.1)
      (join_in I32 _ _ (so_in I32 (may_be_both ms) _ (one_in I32 (pos 1) (record { above = omega arith; below = omega arith })))
      (so_in I32 (may_lack_one ms) _ (one_in I32 (negsuc 0) (record { above = omega arith; below = omega arith })))))
  in_type Dollar kd h a y l = of_out (cells_of Dollar s xs ms us e) a.0.outs_alike l (some_of (out_type s) _ (y.states e (element a.0.outs_alike a.0.one l)))
  in_type SampHold kd h a y l = of_out (cells_of SampHold s xs ms us e) a.0.outs_alike l (of_only a.0 a.1 y.entering (element a.0.outs_alike a.0.one l))
  in_type Register kd h a y l = of_out (cells_of Register s xs ms us e) a.0.outs_alike l (some_of (out_type s) _ (y.states 0 (omega (arith, a.3))))
  in_type ModuloCount kd h a y l = of_out (cells_of ModuloCount s xs ms us e) a.0.outs_alike l (some_of (out_type s) _ (y.states 0 (omega arith)))
  in_type GatedDelay kd h a y l =
      of_out (cells_of GatedDelay s xs ms us e) a.0.outs_alike l (switch_in (out_type s) (range_at us (size s)) (Some (state_range xs e)) (Some (one (pos 0))) _ _
      (some_of (out_type s) _ (y.states e (element a.0.outs_alike a.0.one l))) (one_in (out_type s) (pos 0) (zero_in_range (out_type s))))
  in_type Sensor kd h a y l =
      let z : e ≡ 0 = omega (arith, element a.0.outs_alike a.0.one l, a.1) in
      subst (λ d. IsSomeOfType (type_at s.outs d) (range_at us 0)) (sym z) (y.entering 0)
  in_type _ kd h a y l = any_in (type_at s.outs e)

pub rule_in_type : RuleInType
rule_in_type s xs ms us e h states fed l = in_type s xs ms us e s.kind refl h (asks s h) (record { states = states; entering = fed }) l

-- ---- the next state

counted_in : (s : Spec) → pos 1 ≤ℤ param s 0 → (param s 0 -ℤ pos 1) ≤ℤ high (out_type s) → IsOfType (out_type s) (from_to (pos 0) (param s 0 -ℤ pos 1))
counted_in s least most =
    let z = zero_in_range (out_type s) in record { least = z; greatest = record { above = omega (arith, ints, z.above, least); below = most } }

module _ (s : Spec) (xs : List Interval) (us : List (Option Interval)) (i : ℕ) where
  abbrev NextTyped : Kind → Type 0
  NextTyped c = s.kind ≡ c → Asks c s → ((j : ℕ) → IsOfType (out_type s) (state_range xs j)) → ((d : ℕ) → IsSomeOfType (type_at (entering_of c s) d) (range_at us d)) →
      i < state_len_of c s → IsSomeOfType (out_type s) (next_range_of c s xs us i)

  rest_in : IsSomeOfType (out_type s) (Some (one (pos 0)))
  rest_in = some_of (out_type s) (one (pos 0)) (one_of (out_type s) (pos 0) (zero_in_range (out_type s)))

  next_typed : (c : Kind) → NextTyped c
  next_typed Dollar kd a states fed l =
      subst (λ t. IsSomeOfType t (range_at us i))
      (type_at_alike s.ins (out_type s) (size s) a.0.ins_alike i (omega (arith, l, total_one s.ins (out_type s) (size s) a.0.ins_alike a.1))) (fed i)
  next_typed GatedDelay kd a states fed l = subst (λ t. IsSomeOfType t (range_at us i)) (a.0.first i l) (fed i)
  next_typed Register kd a states fed l =
      both_in (out_type s) hull (Some (state_range xs (i + 1))) (range_at us 0) (some_of (out_type s) _ (states (i + 1)))
      (subst (λ t. IsSomeOfType t (range_at us 0))
      (type_at_alike s.ins (out_type s) (size s) a.0.ins_alike 0 (omega (arith, a.2, total_one s.ins (out_type s) (size s) a.0.ins_alike a.1))) (fed 0))
      (hull_in (out_type s))
  next_typed ModuloCount kd a states fed l = some_of (out_type s) _ (counted_in s a.2 a.4)
  next_typed _ kd a states fed l = rest_in

pub next_in_type : NextInType
next_in_type s xs us i h states fed l = next_typed s xs us i s.kind refl (asks s h) states fed l
