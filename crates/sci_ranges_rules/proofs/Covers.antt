-- The rule of each kind covers its meaning.
use Rattle.std.proofs.Common.{◌≡◌, ◌≢◌, ℕ, ◌+◌, ◌-◌, ◌*◌, ◌^◌, ◌<◌, ◌≤◌, ℤ, pos, negsuc, ◌*ℤ◌, ◌-ℤ◌, ◌≤ℤ◌, ◌<ℤ◌, List, length, Bool, true, false, Option, Some, refl, sym, ◌∙◌, arith, subst, cond, inl, inr}
use Rattle.std.proofs.lemmas.Int.{ints}
use Rattle.std.proofs.lemmas.Bool.Decides.{nat_tests}
use Rattle.std.specs.Prelude.{int_lt, int_le, nat_eq, unsigned_abs, option_map}
use Rattle.sci_base.specs.declared.Ty.{Ty}
use Rattle.sci_base.specs.Fit.{InRange, fit, int_eq, span}
use Rattle.sci_base.specs.Lists.{at, spread}
use Rattle.sci_base.proofs.FitLemmas.{int_le_yes}
use Rattle.sci_kinds.specs.declared.Cell.{Cell}
use Rattle.sci_kinds.specs.declared.Cell.TheVariants.{Value, Overflow, Zero}
use Rattle.sci_forms.specs.declared.Kind.{Kind}
use Rattle.sci_forms.specs.declared.Kind.TheVariants.{Const, Summation, GainBlk, Product, AbsValue, Signum, MaxMin, Saturation, DeadBand, Convert, Mux, Demux, Extractor, LogicalOp, RelationalOp, Shift, BitSet, BitClear, ExtractBits, Switch2, Select, Logic, AndLog, Dollar, SampHold, Register, ModuloCount, GatedDelay, Sensor}
use Rattle.sci_forms.specs.declared.spec.Spec.{Spec}
use Rattle.sci_forms.specs.Ports.{total, before, type_at, Fills, IsAlike}
use Rattle.sci_forms.specs.Words.{param, in_type, out_type, size}
use Rattle.sci_forms.specs.Form.{feeds}
use Rattle.sci_forms.specs.Typed.{typed}
use Rattle.sci_forms.proofs.TestLemmas.{int_le_told, nat_same}
use Rattle.sci_kinds.specs.Asks.{Asks, IsState, IsMask, entering_of}
use Rattle.sci_kinds.specs.Table.{mode_of, input, sign, brought, sum_to, least_set, row_to, fitted, cell_of, product_cell, quotient_cell, truth, relation, switches}
use Rattle.sci_kinds.proofs.Elements.{total_one}
use Rattle.sci_kinds.proofs.TypedLemmas.{tests, only_total}
use Rattle.sci_kinds.proofs.Ranges.{elem, least_set_below, row_below, cell_in_range}
use Rattle.sci_kinds.proofs.LawLemmas.{gate}
use Rattle.sci_kinds.proofs.LawProofs.{asks}
use Rattle.sci_ranges_base.specs.declared.interval.Interval.{Interval}
use Rattle.sci_ranges_base.specs.declared.masks.Masks.{Masks}
use Rattle.sci_ranges_base.specs.Intervals.{IsIn, IsInSome, one, range_at, join, times, at_ends, corners, minus, both}
use Rattle.sci_ranges_base.specs.Cells.{MayBe, valued}
use Rattle.sci_ranges_base.specs.Masks.{AreMasks, some_choose, may_be_both, may_lack_one}
use Rattle.sci_ranges_base.proofs.Numbers.{times_has, corners_have, ends_have, minus_has, le_along}
use Rattle.sci_ranges_base.proofs.Fitted.{fitted_has, brought_rises}
use Rattle.sci_ranges_base.proofs.Chosen.{least_bit, some_choose_least, both_may_be, one_may_lack}
use Rattle.sci_ranges_rules.specs.Words.{input_range, magnitudes, beyond, quotient_cells, relation_range, allows, by_sign, set_bits, kept_bits, shifted_range, turned_range, if_so, may_take_first, may_take_third}
use Rattle.sci_ranges_rules.specs.Patterns.{patterns_of, numbers_of, extracted}
use Rattle.sci_ranges_rules.specs.Rules.{state_range, fitted_out, exact_sums, product_cells, anything, cells_of}
use Rattle.sci_ranges_rules.specs.Laws.{AreStates, AreFed, RuleCovers}
use Rattle.sci_ranges_rules.proofs.Handing.{one_has, on_some_has, on_both_has, map_has, map_may, then_may, both_has, join_has, so_has, sums_have, joins_have, extremes_have}
use Rattle.sci_ranges_rules.proofs.Arithmetic.{magnitudes_have, abs_is_fitted, sign_rises, beyond_rises, beyond_is_fitted, quotient_cells_have}
use Rattle.sci_ranges_rules.proofs.Deciding.{relation_has, row_allowed, first_may, third_may}
use Rattle.sci_ranges_rules.proofs.Feeding.{fed_kind, fed_at, fed_all, fed_alike, before_alike}
use Rattle.sci_ranges_rules.proofs.Bitwise.{logical_cells_have, shift_has, set_bit_has, clear_bit_has, extract_has}

-- what is known where a block of kind c acts
pub record Acts (c : Kind) (s : Spec) (xs : List Interval) (x : List ℤ) (ms : List Masks) (m : ℕ) (us : List (Option Interval)) (u : List ℤ) (e : ℕ) : Type 0 where
  pub kind : s.kind ≡ c
  pub is_typed : typed s ≡ true
  pub asks : Asks c s
  pub state : IsState s x
  pub mask : IsMask s m
  pub fills : Fills (entering_of c s) u
  pub states : AreStates s xs x
  pub masks : AreMasks ms m
  pub fed : AreFed s m us u
  pub element : e < total s.outs

-- the element of the one output
pub one_size : (s : Spec) (e : ℕ) → IsAlike s.outs (out_type s) (size s) → length s.outs ≡ 1 → e < total s.outs → e < size s
one_size s e a one h = omega (arith, h, total_one s.outs (out_type s) (size s) a one)

-- a kind with feedthrough from all inputs
module _ (c : Kind) (s : Spec) (xs : List Interval) (x : List ℤ) (ms : List Masks) (m : ℕ) (us : List (Option Interval)) (u : List ℤ) (e : ℕ)
    (k : Acts c s xs x ms m us u e) (f : (n : ℕ) → feeds c n ≡ true) (other : c ≢ Select) where
  each : (d : ℕ) → d < total s.ins → IsInSome (range_at us d) (at u d)
  each d l = fed_all s m us u k.is_typed k.fed (λ n. rw k.kind (f n)) (λ z. other (sym k.kind ∙ z)) d l

  each_of : (t : Ty) (n : ℕ) → IsAlike s.ins t n → (j d : ℕ) → j < length s.ins → d < n → IsInSome (range_at us (j * n + d)) (at u (j * n + d))
  each_of t n a j d p q = fed_alike s m us u k.is_typed k.fed t n a (λ n. rw k.kind (f n)) (λ z. other (sym k.kind ∙ z)) j d p q

  -- the element of the only input
  only : (t : Ty) → IsAlike s.ins t (size s) → length s.ins ≡ 1 → e < size s → IsInSome (range_at us e) (at u e)
  only t a one q = each e (omega (arith, q, total_one s.ins t (size s) a one))

-- the greater end of a saturation or a dead band isn't below the lesser
saturation_order : (s : Spec) → s.kind ≡ Saturation → typed s ≡ true → Asks Saturation s → param s 0 ≤ℤ param s 1
saturation_order s kd h a = let t = (tests s.kind s h).params 1 (omega (arith, a.2)) in int_le_told (param s 0) (param s 1) (rw kd at t)

band_order : (s : Spec) → s.kind ≡ DeadBand → typed s ≡ true → Asks DeadBand s → param s 1 ≤ℤ param s 2
band_order s kd h a = let t = (tests s.kind s h).params 2 (omega (arith, a.2)) in int_le_told (param s 1) (param s 2) (rw kd at t)

product_has : (s : Spec) (i j : Interval) (v w : ℤ) → IsIn i v → IsIn j w → MayBe (product_cells s i j) (product_cell (out_type s) (mode_of (param s 0)) (param s 1) v w)
product_has s i j v w h k = by_code (int_eq (param s 1) (pos 1))
  where
    by_code : (b : Bool) → MayBe (cond b (fitted_out s (corners (λ a b. a *ℤ b) i j)) (quotient_cells (out_type s) (mode_of (param s 0)) i j))
        (cond b (fitted (fit (out_type s) (mode_of (param s 0)) (v *ℤ w))) (quotient_cell (out_type s) (mode_of (param s 0)) v w))
    by_code true = fitted_has (out_type s) (mode_of (param s 0)) (corners (λ a b. a *ℤ b) i j) (v *ℤ w) (corners_have i j v w h k)
    by_code false = quotient_cells_have (out_type s) (mode_of (param s 0)) i j v w h k

-- the first input, or the third
switch_has : (s : Spec) (o p : Option Interval) (i : Interval) (g v w : ℤ) → IsIn i g → IsInSome o v → IsInSome p w
    → IsInSome (join (if_so (may_take_first (param s 0) (param s 1) i) o) (if_so (may_take_third (param s 0) (param s 1) i) p)) (cond (switches (param s 0) (param s 1) g) v w)
switch_has s o p i g v w h k l = by_truth (switches (param s 0) (param s 1) g) refl
  where
    by_truth : (b : Bool) → switches (param s 0) (param s 1) g ≡ b
        → IsInSome (join (if_so (may_take_first (param s 0) (param s 1) i) o) (if_so (may_take_third (param s 0) (param s 1) i) p)) (cond b v w)
    by_truth true e = join_has (if_so (may_take_first (param s 0) (param s 1) i) o) (if_so (may_take_third (param s 0) (param s 1) i) p) v (inl (so_has (may_take_first (param s 0) (param s 1) i) o v (first_may (param s 0) (param s 1) g i h e) k))
    by_truth false e = join_has (if_so (may_take_first (param s 0) (param s 1) i) o) (if_so (may_take_third (param s 0) (param s 1) i) p) w (inr (so_has (may_take_third (param s 0) (param s 1) i) p w (third_may (param s 0) (param s 1) g i h e) l))

lt_yes : (a b : ℤ) → a <ℤ b → int_lt a b ≡ true
lt_yes a b h = grind (arith, ints)

-- what a gated delay keeps, or 0
gate_has : (i k : Interval) (g v : ℤ) → IsIn i g → IsIn k v
    → IsInSome (join (if_so (int_lt (pos 0) i.greatest) (Some k)) (if_so (int_le i.least (pos 0)) (Some (one (pos 0))))) (cond (int_lt (pos 0) g) v (pos 0))
gate_has i k g v h l = by_gate (int_lt (pos 0) g) refl
  where
    by_gate : (b : Bool) → int_lt (pos 0) g ≡ b → IsInSome (join (if_so (int_lt (pos 0) i.greatest) (Some k)) (if_so (int_le i.least (pos 0)) (Some (one (pos 0))))) (cond b v (pos 0))
    by_gate true e =
        let above : pos 0 <ℤ g = grind (arith, ints) in
        let passes : int_lt (pos 0) i.greatest ≡ true = lt_yes (pos 0) i.greatest (omega (arith, ints, above, h.below)) in
        join_has (if_so (int_lt (pos 0) i.greatest) (Some k)) (if_so (int_le i.least (pos 0)) (Some (one (pos 0)))) v (inl (so_has (int_lt (pos 0) i.greatest) (Some k) v passes l))
    by_gate false e =
        let below : g ≤ℤ pos 0 = grind (arith, ints) in
        let shut : int_le i.least (pos 0) ≡ true = int_le_yes i.least (pos 0) (le_along _ _ _ h.above below) in
        join_has (if_so (int_lt (pos 0) i.greatest) (Some k)) (if_so (int_le i.least (pos 0)) (Some (one (pos 0)))) (pos 0) (inr (so_has (int_le i.least (pos 0)) (Some (one (pos 0))) (pos 0) shut (one_has (pos 0))))

-- both bits, or one is lacking
and_has : (ms : List Masks) (m : ℕ) → AreMasks ms m → m < 4
    → IsInSome (join (if_so (may_be_both ms) (Some (one (pos 1)))) (if_so (may_lack_one ms) (Some (one (negsuc 0))))) (cond (nat_eq m 3) (pos 1) (negsuc 0))
and_has ms m h few = by_both (nat_eq m 3) refl
  where
    by_both : (b : Bool) → nat_eq m 3 ≡ b → IsInSome (join (if_so (may_be_both ms) (Some (one (pos 1)))) (if_so (may_lack_one ms) (Some (one (negsuc 0))))) (cond b (pos 1) (negsuc 0))
    by_both true e =
        let three : m ≡ 3 = nat_same m 3 e in
        join_has (if_so (may_be_both ms) (Some (one (pos 1)))) (if_so (may_lack_one ms) (Some (one (negsuc 0)))) (pos 1) (inl (so_has (may_be_both ms) (Some (one (pos 1))) (pos 1) (both_may_be ms (subst (AreMasks ms) three h)) (one_has (pos 1))))
    by_both false e =
        let other : m ≢ 3 = grind (arith, nat_tests) in
        join_has (if_so (may_be_both ms) (Some (one (pos 1)))) (if_so (may_lack_one ms) (Some (one (negsuc 0)))) (negsuc 0) (inr (so_has (may_lack_one ms) (Some (one (negsuc 0))) (negsuc 0) (one_may_lack ms m h few other) (one_has (negsuc 0))))

pub one_below : (p : ℤ) (n : ℕ) → pos 1 ≤ℤ p → unsigned_abs p ≤ n → unsigned_abs p - 1 < n
one_below (pos p) n h k = omega (arith, ints)
one_below (negsuc p) n h k = absurd (omega (arith, ints))

-- ---- kind by kind

module _ (s : Spec) (xs : List Interval) (x : List ℤ) (ms : List Masks) (m : ℕ) (us : List (Option Interval)) (u : List ℤ) (e : ℕ) where
  -- the kind's rule has the kind's cell
  abbrev Covered : Kind → Type 0
  Covered c = Acts c s xs x ms m us u e → MayBe (cells_of c s xs ms us e) (cell_of c s x m u e)

  fits : (z : Interval) (v : ℤ) → IsIn z v → MayBe (fitted_out s z) (fitted (fit (out_type s) (mode_of (param s 0)) v))
  fits z v h = fitted_has (out_type s) (mode_of (param s 0)) z v h

  const_covers : Covered Const
  const_covers k = one_has (spread s.params e)

  sum_covers : Covered Summation
  sum_covers k =
      let a = k.asks in
      let q = one_size s e a.0.outs_alike a.0.one k.element in
      on_some_has (fitted_out s) (exact_sums s us e) (sum_to (λ j. param s (j + 1) *ℤ input (size s) u j e) (length s.ins)) (cell_of Summation s x m u e)
      (sums_have (λ j. option_map (times (param s (j + 1))) (input_range (size s) us j e)) (λ j. param s (j + 1) *ℤ input (size s) u j e) (length s.ins) (λ j p.
      map_has (times (param s (j + 1))) (input_range (size s) us j e) (input (size s) u j e) (param s (j + 1) *ℤ input (size s) u j e)
      (each_of Summation s xs x ms m us u e k (λ n. refl) (λ z. cc) (out_type s) (size s) a.0.ins_alike j e p q) (λ i h. times_has (param s (j + 1)) i (input (size s) u j e) h)))
      (λ i h. fits i (sum_to (λ j. param s (j + 1) *ℤ input (size s) u j e) (length s.ins)) h)

  gain_covers : Covered GainBlk
  gain_covers k =
      let a = k.asks in
      let q = one_size s e a.0.outs_alike a.0.one k.element in
      on_some_has (λ i. fitted_out s (times (param s 1) i)) (range_at us e) (at u e) (cell_of GainBlk s x m u e) (only GainBlk s xs x ms m us u e k (λ n. refl) (λ z. cc) (out_type s) a.0.ins_alike a.1 q)
      (λ i h. fits (times (param s 1) i) (param s 1 *ℤ at u e) (times_has (param s 1) i (at u e) h))

  product_covers : Covered Product
  product_covers k =
      let a = k.asks in
      let q = one_size s e a.0.outs_alike a.0.one k.element in
      on_both_has (product_cells s) (input_range (size s) us 0 e) (input_range (size s) us 1 e) (input (size s) u 0 e) (input (size s) u 1 e) (cell_of Product s x m u e)
      (each_of Product s xs x ms m us u e k (λ n. refl) (λ z. cc) (out_type s) (size s) a.0.ins_alike 0 e (omega (arith, a.1)) q)
      (each_of Product s xs x ms m us u e k (λ n. refl) (λ z. cc) (out_type s) (size s) a.0.ins_alike 1 e (omega (arith, a.1)) q)
      (λ i j h l. product_has s i j (input (size s) u 0 e) (input (size s) u 1 e) h l)

  abs_covers : Covered AbsValue
  abs_covers k =
      let a = k.asks in
      let q = one_size s e a.0.outs_alike a.0.one k.element in
      subst (MayBe (cells_of AbsValue s xs ms us e)) (sym (abs_is_fitted (out_type s) (mode_of (param s 0)) (at u e) (elem s u e a.0 a.1 k.fills q)))
      (on_some_has (λ i. fitted_out s (magnitudes i)) (range_at us e) (at u e) (fitted (fit (out_type s) (mode_of (param s 0)) (pos (unsigned_abs (at u e))))) (only AbsValue s xs x ms m us u e k (λ n. refl) (λ z. cc) (out_type s) a.0.ins_alike a.1 q)
      (λ i h. fits (magnitudes i) (pos (unsigned_abs (at u e))) (magnitudes_have i (at u e) h)))

  sign_covers : Covered Signum
  sign_covers k =
      let a = k.asks in
      let q = one_size s e a.0.outs_alike a.0.one k.element in
      map_has (at_ends sign) (range_at us e) (at u e) (sign (at u e)) (only Signum s xs x ms m us u e k (λ n. refl) (λ z. cc) (out_type s) a.0.ins_alike a.1 q)
      (λ i h. ends_have sign i (at u e) sign_rises h)

  extreme_covers : Covered MaxMin
  extreme_covers k =
      let a = k.asks in
      let q = one_size s e a.0.outs_alike a.0.one k.element in
      extremes_have (int_eq (param s 0) (pos 1)) (λ j. input_range (size s) us j e) (λ j. input (size s) u j e) (length s.ins - 1)
      (λ j p. each_of MaxMin s xs x ms m us u e k (λ n. refl) (λ z. cc) (out_type s) (size s) a.0.ins_alike j e (omega (arith, p, a.1)) q)

  saturation_covers : Covered Saturation
  saturation_covers k =
      let a = k.asks in
      let q = one_size s e a.0.outs_alike a.0.one k.element in
      map_has (at_ends (brought (param s 0) (param s 1))) (range_at us e) (at u e) (brought (param s 0) (param s 1) (at u e)) (only Saturation s xs x ms m us u e k (λ n. refl) (λ z. cc) (out_type s) a.0.ins_alike a.1 q)
      (λ i h. ends_have (brought (param s 0) (param s 1)) i (at u e) (brought_rises (param s 0) (param s 1) (saturation_order s k.kind k.is_typed a)) h)

  band_covers : Covered DeadBand
  band_covers k =
      let a = k.asks in
      let q = one_size s e a.0.outs_alike a.0.one k.element in
      subst (MayBe (cells_of DeadBand s xs ms us e)) (sym (beyond_is_fitted (out_type s) (mode_of (param s 0)) (param s 1) (param s 2) (at u e)))
      (on_some_has (λ i. fitted_out s (at_ends (beyond (param s 1) (param s 2)) i)) (range_at us e) (at u e)
      (fitted (fit (out_type s) (mode_of (param s 0)) (beyond (param s 1) (param s 2) (at u e)))) (only DeadBand s xs x ms m us u e k (λ n. refl) (λ z. cc) (out_type s) a.0.ins_alike a.1 q)
      (λ i h. fits (at_ends (beyond (param s 1) (param s 2)) i) (beyond (param s 1) (param s 2) (at u e))
      (ends_have (beyond (param s 1) (param s 2)) i (at u e) (beyond_rises (param s 1) (param s 2) (band_order s k.kind k.is_typed a)) h)))

  convert_covers : Covered Convert
  convert_covers k =
      let a = k.asks in
      let q = one_size s e a.0.outs_alike a.0.one k.element in
      on_some_has (fitted_out s) (range_at us e) (at u e) (cell_of Convert s x m u e) (only Convert s xs x ms m us u e k (λ n. refl) (λ z. cc) (in_type s) a.0.ins_alike a.1 q) (λ i h. fits i (at u e) h)

  mux_covers : Covered Mux
  mux_covers k = each Mux s xs x ms m us u e k (λ n. refl) (λ z. cc) e (omega (arith, k.element, k.asks.0.totals))

  demux_covers : Covered Demux
  demux_covers k = each Demux s xs x ms m us u e k (λ n. refl) (λ z. cc) e (omega (arith, k.element, k.asks.0.totals))

  extractor_covers : Covered Extractor
  extractor_covers k =
      let a = k.asks in
      let q = one_size s e a.0.outs_alike a.0.one k.element in
      let b = a.4 e (omega (arith, a.3, q)) in
      each Extractor s xs x ms m us u e k (λ n. refl) (λ z. cc) (unsigned_abs (param s e) - 1) (omega (arith, one_below (param s e) _ b.0 b.1, only_total s.ins a.1))

  logical_covers : Covered LogicalOp
  logical_covers k =
      let a = k.asks in
      let q = one_size s e a.0.outs_alike a.0.one k.element in
      let inside = λ (j : ℕ) (p : j < length s.ins). each_of LogicalOp s xs x ms m us u e k (λ n. refl) (λ z. cc) (out_type s) (size s) a.0.ins_alike j e p q in
      logical_cells_have s (λ j. input_range (size s) us j e) (λ j. input (size s) u j e) inside a.1

  relation_covers : Covered RelationalOp
  relation_covers k =
      let a = k.asks in
      let q = one_size s e a.0.outs_alike a.0.one k.element in
      map_has (relation_range (param s 0)) (both minus (input_range (size s) us 0 e) (input_range (size s) us 1 e)) (input (size s) u 0 e -ℤ input (size s) u 1 e)
      (truth (relation (param s 0) (input (size s) u 0 e) (input (size s) u 1 e)))
      (both_has minus (input_range (size s) us 0 e) (input_range (size s) us 1 e) (input (size s) u 0 e) (input (size s) u 1 e) (input (size s) u 0 e -ℤ input (size s) u 1 e)
      (each_of RelationalOp s xs x ms m us u e k (λ n. refl) (λ z. cc) (in_type s) (size s) a.0.ins_alike 0 e (omega (arith, a.1)) q)
      (each_of RelationalOp s xs x ms m us u e k (λ n. refl) (λ z. cc) (in_type s) (size s) a.0.ins_alike 1 e (omega (arith, a.1)) q)
      (λ i j h l. minus_has i j (input (size s) u 0 e) (input (size s) u 1 e) h l))
      (λ d h. relation_has (param s 0) d (input (size s) u 0 e) (input (size s) u 1 e) h)

  shift_covers : Covered Shift
  shift_covers k =
      let a = k.asks in
      let q = one_size s e a.0.outs_alike a.0.one k.element in
      map_may (λ i. cond (int_eq (param s 1) (pos 0)) (shifted_range (out_type s) (param s 0) i) (turned_range (out_type s) (param s 0) i)) (range_at us e) (at u e)
      (cell_of Shift s x m u e) (only Shift s xs x ms m us u e k (λ n. refl) (λ z. cc) (out_type s) a.0.ins_alike a.1 q)
      (λ i h. shift_has (out_type s) (param s 0) (param s 1) i (at u e) h a.3)

  set_covers : Covered BitSet
  set_covers k =
      let a = k.asks in
      let q = one_size s e a.0.outs_alike a.0.one k.element in
      then_may (by_sign (set_bits (out_type s) (2 ^ unsigned_abs (param s 0)))) (range_at us e) (at u e) (cell_of BitSet s x m u e)
      (only BitSet s xs x ms m us u e k (λ n. refl) (λ z. cc) (out_type s) a.0.ins_alike a.1 q)
      (λ i h. set_bit_has (out_type s) (unsigned_abs (param s 0)) i (at u e) h a.3)

  clear_covers : Covered BitClear
  clear_covers k =
      let a = k.asks in
      let q = one_size s e a.0.outs_alike a.0.one k.element in
      then_may (by_sign (kept_bits (out_type s) ((span (out_type s) - 1) - 2 ^ unsigned_abs (param s 0)))) (range_at us e) (at u e) (cell_of BitClear s x m u e)
      (only BitClear s xs x ms m us u e k (λ n. refl) (λ z. cc) (out_type s) a.0.ins_alike a.1 q)
      (λ i h. clear_bit_has (out_type s) (unsigned_abs (param s 0)) i (at u e) h a.3)

  extract_covers : Covered ExtractBits
  extract_covers k =
      let a = k.asks in
      let q = one_size s e a.0.outs_alike a.0.one k.element in
      map_may
      (λ i. numbers_of (out_type s) (extracted (unsigned_abs (param s 0)) ((unsigned_abs (param s 1) - unsigned_abs (param s 0)) + 1) (patterns_of (out_type s) i)))
      (range_at us e) (at u e) (cell_of ExtractBits s x m u e) (only ExtractBits s xs x ms m us u e k (λ n. refl) (λ z. cc) (out_type s) a.0.ins_alike a.1 q)
      (λ i h. extract_has (out_type s) (unsigned_abs (param s 0)) (unsigned_abs (param s 1)) i (at u e) h)

  switch_covers : Covered Switch2
  switch_covers k =
      let a = k.asks in
      let q = one_size s e a.0.outs_alike a.0.one k.element in
      let all = each Switch2 s xs x ms m us u e k (λ n. refl) (λ z. cc) in
      on_some_has
      (λ i. valued (join (if_so (may_take_first (param s 0) (param s 1) i) (range_at us e)) (if_so (may_take_third (param s 0) (param s 1) i) (range_at us (size s + 1 + e)))))
      (range_at us (size s)) (at u (size s)) (cell_of Switch2 s x m u e) (all (size s) (omega (arith, a.0.total_ins)))
      (λ i h. switch_has s (range_at us e) (range_at us (size s + 1 + e)) i (at u (size s)) (at u e) (at u (size s + 1 + e)) h
      (all e (omega (arith, q, a.0.total_ins))) (all (size s + 1 + e) (omega (arith, q, a.0.total_ins))))

  select_covers : Covered Select
  select_covers k =
      let a = k.asks in
      let q = one_size s e a.0.outs_alike a.0.one k.element in
      let some = k.mask.some (rw k.kind refl) in
      let j = least_set m s.evtin in
      let few = least_set_below s.evtin m k.mask.few some in
      let inside : j < length s.ins = omega (arith, few, a.1) in
      let from : before s.ins j ≤ j * size s + e = rw (before_alike s.ins (out_type s) (size s) j a.0.ins_alike (omega (arith, inside))) (omega arith) in
      let to : j * size s + e < before s.ins (j + 1) = rw (before_alike s.ins (out_type s) (size s) (j + 1) a.0.ins_alike (omega (arith, inside))) (next_place j (size s) e q) in
      let there = k.fed.inputs j (j * size s + e)
      (record { within = inside; through = fed_kind s k.is_typed j inside (rw k.kind refl); chosen = λ z. least_bit s.evtin m k.mask.few some }) from to in
      joins_have (λ n. if_so (some_choose ms n) (input_range (size s) us n e)) s.evtin j (input (size s) u j e) few
      (so_has (some_choose ms j) (input_range (size s) us j e) (input (size s) u j e) (some_choose_least ms m s.evtin k.masks k.mask.few some) there)
    where
      next_place : (j n e : ℕ) → e < n → j * n + e < (j + 1) * n
      next_place j n e h = let d : (j + 1) * n ≡ j * n + n = grind arith in omega (arith, d, h)

  logic_covers : Covered Logic
  logic_covers k =
      let a = k.asks in
      let row = row_to (at u) (length s.ins) in
      let all = each Logic s xs x ms m us u e k (λ n. refl) (λ z. cc) in
      joins_have (λ r. if_so (allows us (length s.ins) r) (Some (one (param s (r * length s.outs + e))))) (2 ^ length s.ins) row (param s (row * length s.outs + e)) (row_below (at u) (length s.ins))
      (so_has (allows us (length s.ins) row) (Some (one (param s (row * length s.outs + e)))) (param s (row * length s.outs + e)) (row_allowed us u (length s.ins) (λ j p. all j (omega (arith, p, a.2)))) (one_has (param s (row * length s.outs + e))))

  and_covers : Covered AndLog
  and_covers k = let few : m < 4 = rw k.asks.2 at k.mask.few in and_has ms m k.masks few

  dollar_covers : Covered Dollar
  dollar_covers k = let a = k.asks in k.states e (rw k.kind (one_size s e a.0.outs_alike a.0.one k.element))

  hold_covers : Covered SampHold
  hold_covers k =
      let a = k.asks in
      only SampHold s xs x ms m us u e k (λ n. refl) (λ z. cc) (out_type s) a.0.ins_alike a.1 (one_size s e a.0.outs_alike a.0.one k.element)

  register_covers : Covered Register
  register_covers k = k.states 0 (rw k.kind (omega (arith, k.asks.3)))

  counter_covers : Covered ModuloCount
  counter_covers k = k.states 0 (rw k.kind (omega arith))

  gated_covers : Covered GatedDelay
  gated_covers k =
      let a = k.asks in
      let g = gate s a in
      let q = one_size s e a.0.outs_alike a.0.one k.element in
      on_some_has (λ i. valued (join (if_so (int_lt (pos 0) i.greatest) (Some (state_range xs e))) (if_so (int_le i.least (pos 0)) (Some (one (pos 0))))))
      (range_at us (size s)) (at u (size s)) (cell_of GatedDelay s x m u e)
      (fed_at s m us u k.is_typed k.fed 1 (size s) (omega (arith, g.0)) (rw k.kind refl) (λ z. other (sym k.kind ∙ z)) (omega (arith, g.1)) (omega (arith, g.2)))
      (λ i h. gate_has i (state_range xs e) (at u (size s)) (at x e) h (k.states e (rw k.kind q)))
    where
      other : GatedDelay ≡ Select → ⊥
      other z = cc

  sensor_covers : Covered Sensor
  sensor_covers k = k.fed.sensed 0 k.asks.2 (rw k.kind (omega (arith, k.element)))

  -- a value of any kind is in its type, and both stops are told
  anything_covers : (c : Kind) → Acts c s xs x ms m us u e → MayBe (anything (type_at s.outs e)) (cell_of c s x m u e)
  anything_covers c k = by_cell (cell_of c s x m u e) refl
    where
      by_cell : (d : Cell) → cell_of c s x m u e ≡ d → MayBe (anything (type_at s.outs e)) d
      by_cell (Value v) q =
          let inside : InRange (type_at s.outs e) v = cell_in_range c s x m u k.kind k.asks k.state k.mask k.fills e v k.element q in
          record { above = inside.above; below = inside.below }
      by_cell Overflow q = refl
      by_cell Zero q = refl

  covered : (c : Kind) → Covered c
  covered Const k = const_covers k
  covered Summation k = sum_covers k
  covered GainBlk k = gain_covers k
  covered Product k = product_covers k
  covered AbsValue k = abs_covers k
  covered Signum k = sign_covers k
  covered MaxMin k = extreme_covers k
  covered Saturation k = saturation_covers k
  covered DeadBand k = band_covers k
  covered Convert k = convert_covers k
  covered Mux k = mux_covers k
  covered Demux k = demux_covers k
  covered Extractor k = extractor_covers k
  covered LogicalOp k = logical_covers k
  covered RelationalOp k = relation_covers k
  covered Shift k = shift_covers k
  covered BitSet k = set_covers k
  covered BitClear k = clear_covers k
  covered ExtractBits k = extract_covers k
  covered Switch2 k = switch_covers k
  covered Select k = select_covers k
  covered Logic k = logic_covers k
  covered AndLog k = and_covers k
  covered Dollar k = dollar_covers k
  covered SampHold k = hold_covers k
  covered Register k = register_covers k
  covered ModuloCount k = counter_covers k
  covered GatedDelay k = gated_covers k
  covered Sensor k = sensor_covers k
  covered c k = anything_covers c k

pub rule_covers : RuleCovers
rule_covers s xs x ms m us u e h st mk f states masks fed l =
    covered s xs x ms m us u e s.kind (record {
      kind = refl;
      is_typed = h;
      asks = asks s h;
      state = st;
      mask = mk;
      fills = f;
      states = states;
      masks = masks;
      fed = fed;
      element = l;
    })
