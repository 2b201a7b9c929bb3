use Rattle.std.proofs.Common.{◌≡◌, ◌≢◌, ℕ, zero, suc, ◌+◌, ◌-◌, ◌*◌, ◌/◌, ◌%◌, ◌^◌, ◌<◌, ◌≤◌, ℤ, pos, negsuc, ◌≤ℤ◌, ◌<ℤ◌, List, length, Bool, true, false, refl, sym, arith, Option, Some, None, subst, cond, inl, inr, ◌⊎◌}
use Rattle.std.proofs.lemmas.Int.{ints}
use Rattle.std.proofs.lemmas.Bool.Decides.{nat_tests}
use Rattle.std.proofs.lemmas.Nat.{mul-add-lt}
use Rattle.std.proofs.Math.Nat.{pow-suc}
use Rattle.std.specs.Prelude.{nat_eq, int_lt, unsigned_abs}
use Rattle.std.specs.Int.{int_div_euclid}
use Rattle.sci_base.specs.declared.Ty.{Ty}
use Rattle.sci_base.specs.declared.Ty.TheVariants.{I32, I16, I8, U32, U16, U8}
use Rattle.sci_base.specs.declared.Mode.{Mode}
use Rattle.sci_base.specs.declared.Mode.TheVariants.{Wrap}
use Rattle.sci_base.proofs.FitLemmas.{fit_in_range}
use Rattle.sci_base.specs.Fit.{fit, InRange, low, high, int_eq}
use Rattle.sci_base.specs.Lists.{at, spread}
use Rattle.sci_forms.specs.declared.Kind.{Kind}
use Rattle.sci_forms.specs.declared.Kind.TheVariants.{Const, Summation, GainBlk, Product, AbsValue, Signum, MaxMin, Saturation, DeadBand, Convert, Mux, Demux, Extractor, LogicalOp, RelationalOp, Shift, BitSet, BitClear, ExtractBits, Switch2, Select, Logic, AndLog, Dollar, SampHold, Register, ModuloCount, GatedDelay, Sensor, EvtDly, EvtVarDly, IfThEl, ESelect, Halt}
use Rattle.sci_kinds.specs.declared.Cell.{Cell}
use Rattle.sci_kinds.specs.declared.Cell.TheVariants.{Value, Zero}
use Rattle.sci_forms.specs.declared.spec.Spec.{Spec}
use Rattle.sci_forms.specs.Ports.{port_at, elements, total, type_at, Fills, IsAlike}
use Rattle.sci_kinds.specs.Table.{mode_of, input, least_to, greatest_to, row_to, least_set, truth, brought, sign, fitted, number, product_cell, abs_cell, beyond_cell, extreme, logical_cell, shift_cell, switches, cell_of}
use Rattle.sci_forms.specs.Words.{param, out_type, size}
use Rattle.sci_kinds.specs.Asks.{IsSpread, IsAlikeSpec, IsJoined, Asks, IsState, IsMask, entering_of}
use Rattle.std.proofs.Math.Nat.{div-le_self}
use Rattle.sci_kinds.proofs.Elements.{total_one, type_at_alike, input_in_range, first_input_in_range}

-- ---- ranges of single words

pub zero_one : (t : Ty) → (low t ≤ℤ pos 0) × (pos 1 ≤ℤ high t)
zero_one I32 = (omega arith, omega arith)
zero_one I16 = (omega arith, omega arith)
zero_one I8 = (omega arith, omega arith)
zero_one U32 = (omega arith, omega arith)
zero_one U16 = (omega arith, omega arith)
zero_one U8 = (omega arith, omega arith)

pub zero_in_range : (t : Ty) → InRange t (pos 0)
zero_in_range t = let h = zero_one t in let a = h.0 in let b = h.1 in record { above = a; below = omega (arith, ints) }

one_in_range : (t : Ty) → InRange t (pos 1)
one_in_range t = let h = zero_one t in let a = h.0 in let b = h.1 in record { above = omega (arith, ints); below = b }

-- one of two numbers, each in range where it is taken
pub cond_in_range : (t : Ty) (b : Bool) (x y : ℤ) → (b ≡ true → InRange t x) → (b ≡ false → InRange t y) → InRange t (cond b x y)
cond_in_range t true x y f g = f refl
cond_in_range t false x y f g = g refl

truth_in_range : (t : Ty) (b : Bool) → InRange t (truth b)
truth_in_range t b = cond_in_range t b (pos 1) (pos 0) (λ _. one_in_range t) (λ _. zero_in_range t)

pub spread_in_range : (t : Ty) (n : ℕ) (vs : List ℤ) → IsSpread t n vs → (e : ℕ) → e < n → InRange t (spread vs e)
spread_in_range t n vs h e q = cond_in_range t (nat_eq (length vs) 1) (at vs 0) (at vs e)
    (λ p. let one : length vs ≡ 1 = grind (arith, nat_tests) in h.1 0 (omega (arith, one)))
    (λ p. let more : length vs ≢ 1 = grind (arith, nat_tests) in h.1 e (elim h.0 [ inl x ↦ absurd (more x) | inr x ↦ omega (arith, x) ]))

sign_in_range : (t : Ty) (v : ℤ) → InRange t v → InRange t (sign v)
sign_in_range t v h = cond_in_range t (int_lt v (pos 0)) _ _
    (λ p. let n : v <ℤ pos 0 = grind (arith, ints) in let z = zero_one t in record { above = omega (arith, ints, h.above); below = omega (arith, ints, z.1) })
    (λ _. cond_in_range t (int_lt (pos 0) v) (pos 1) (pos 0) (λ _. one_in_range t) (λ _. zero_in_range t))

brought_in_range : (t : Ty) (a b v : ℤ) → InRange t a → InRange t b → InRange t v → InRange t (brought a b v)
brought_in_range t a b v f g h = cond_in_range t (int_lt v a) _ _ (λ _. f) (λ _. cond_in_range t (int_lt b v) b v (λ _. g) (λ _. h))

least_in_range : (t : Ty) (f : ℕ → ℤ) (n : ℕ) → ((k : ℕ) → k < suc n → InRange t (f k)) → InRange t (least_to f n)
least_in_range t f zero h = h 0 (omega arith)
least_in_range t f (suc n) h =
    cond_in_range t (int_lt (f (suc n)) (least_to f n)) _ _ (λ _. h (suc n) (omega arith)) (λ _. least_in_range t f n (λ k p. h k (omega (arith, p))))

greatest_in_range : (t : Ty) (f : ℕ → ℤ) (n : ℕ) → ((k : ℕ) → k < suc n → InRange t (f k)) → InRange t (greatest_to f n)
greatest_in_range t f zero h = h 0 (omega arith)
greatest_in_range t f (suc n) h =
    cond_in_range t (int_lt (f (suc n)) (greatest_to f n)) _ _ (λ _. greatest_in_range t f n (λ k p. h k (omega (arith, p)))) (λ _. h (suc n) (omega arith))

extreme_in_range : (t : Ty) (m : ℤ) (f : ℕ → ℤ) (n : ℕ) → ((k : ℕ) → k < suc n → InRange t (f k)) → InRange t (extreme m f n)
extreme_in_range t m f n h = cond_in_range t (int_eq m (pos 1)) _ _ (λ _. least_in_range t f n h) (λ _. greatest_in_range t f n h)

floor_in_range : (t : Ty) (v : ℤ) (n : ℕ) → InRange t v → InRange t (int_div_euclid v (pos n))
floor_in_range t (pos a) n h =
    let z = zero_one t in record { above = omega (arith, ints, z.0); below = omega (arith, ints, h.below, div-le_self a n) }
floor_in_range t (negsuc a) n h =
    let z = zero_one t in record { above = omega (arith, ints, h.above, div-le_self a n); below = omega (arith, ints, z.1) }

-- ---- ranges of cells

-- a cell whose value, if there is one, is in range
abbrev IsCellIn : Ty → Cell → Type 0
IsCellIn t c = (v : ℤ) → c ≡ Value v → InRange t v

cond_cell : (t : Ty) (b : Bool) (c d : Cell) → IsCellIn t c → IsCellIn t d → IsCellIn t (cond b c d)
cond_cell t true c d f g = f
cond_cell t false c d f g = g

value_cell : (t : Ty) (w : ℤ) → InRange t w → IsCellIn t (Value w)
value_cell t w h v e = let same : w ≡ v = cc in subst (InRange t) same h

no_cell : (t : Ty) → IsCellIn t Zero
no_cell t v e = cc

fitted_same : (o : Option ℤ) (v : ℤ) → fitted o ≡ Value v → o ≡ Some v
fitted_same (Some w) v e = cc
fitted_same None v e = cc

fitted_cell : (t : Ty) (m : Mode) (z : ℤ) → IsCellIn t (fitted (fit t m z))
fitted_cell t m z v e = fit_in_range t m z v (fitted_same (fit t m z) v e)

number_cell : (t : Ty) (p : ℕ) → IsCellIn t (number t p)
number_cell t p = fitted_cell t Wrap (pos p)

product_in : (t : Ty) (m : Mode) (d a b : ℤ) → IsCellIn t (product_cell t m d a b)
product_in t m d a b =
    cond_cell t (int_eq d (pos 1)) _ _ (fitted_cell t m _) (cond_cell t (int_eq b (pos 0)) _ _ (no_cell t) (fitted_cell t m _))

abs_in : (t : Ty) (m : Mode) (v : ℤ) → InRange t v → IsCellIn t (abs_cell t m v)
abs_in t m v h = cond_cell t (int_lt v (pos 0)) _ _ (fitted_cell t m _) (value_cell t v h)

beyond_in : (t : Ty) (m : Mode) (a b v : ℤ) → IsCellIn t (beyond_cell t m a b v)
beyond_in t m a b v =
    cond_cell t (int_lt b v) _ _ (fitted_cell t m _) (cond_cell t (int_lt v a) _ _ (fitted_cell t m _) (value_cell t (pos 0) (zero_in_range t)))

logical_in : (t : Ty) (op b : ℤ) (n : ℕ) (f : ℕ → ℤ) → IsCellIn t (logical_cell t op b n f)
logical_in t op b n f = cond_cell t (int_eq b (pos 0)) _ _ (value_cell t _ (truth_in_range t _)) (number_cell t _)

shift_in : (t : Ty) (n r v : ℤ) → InRange t v → IsCellIn t (shift_cell t n r v)
shift_in t n r v h =
    cond_cell t (int_eq r (pos 0)) _ _
    (cond_cell t (int_lt n (pos 0)) _ _ (value_cell t _ (floor_in_range t v _ h)) (fitted_cell t Wrap _))
    (number_cell t _)

-- ---- places

pub least_set_below : (n m : ℕ) → m < 2 ^ n → m ≢ 0 → least_set m n < n
least_set_below zero m h k = absurd (k (omega arith))
least_set_below (suc n) m h k = by_bit (nat_eq (m % 2) 1) refl (least_set_below n (m / 2))
  where
    by_bit : (b : Bool) → nat_eq (m % 2) 1 ≡ b → (m / 2 < 2 ^ n → m / 2 ≢ 0 → least_set (m / 2) n < n) → cond b 0 (suc (least_set (m / 2) n)) < suc n
    by_bit true p rest = omega arith
    by_bit false p rest =
        let even : m % 2 ≢ 1 = grind (arith, nat_tests) in
        let below = rest (omega (arith, h, pow-suc 2 n)) (λ z. k (omega (arith, even, z))) in
        omega (arith, below)

pub row_below : (f : ℕ → ℤ) (n : ℕ) → row_to f n < 2 ^ n
row_below f zero = omega arith
row_below f (suc n) = by_bit (int_eq (f n) (pos 0)) (row_below f n)
  where
    by_bit : (b : Bool) → row_to f n < 2 ^ n → 2 * row_to f n + cond b 0 1 < 2 ^ suc n
    by_bit true p = omega (arith, p, pow-suc 2 n)
    by_bit false p = omega (arith, p, pow-suc 2 n)

-- ---- each kind's cells are in range

-- an element of the one output
pub one_out : (s : Spec) (c : Cell) (v : ℤ) (e : ℕ) → IsAlike s.outs (out_type s) (size s) → length s.outs ≡ 1 → e < total s.outs
    → (e < size s → IsCellIn (out_type s) c) → c ≡ Value v → InRange (type_at s.outs e) v
one_out s c v e a one h k q =
    let n : total s.outs ≡ size s = total_one s.outs (out_type s) (size s) a one in
    subst (λ t. InRange t v) (sym (type_at_alike s.outs (out_type s) (size s) a e h)) (k (omega (arith, n)) v q)

-- the same, where every port is like it
alike : (s : Spec) (c : Cell) (v : ℤ) (e : ℕ) → IsAlikeSpec s → e < total s.outs → (e < size s → IsCellIn (out_type s) c) → c ≡ Value v → InRange (type_at s.outs e) v
alike s c v e a h k q = one_out s c v e a.outs_alike a.one h k q

-- element e of the only input
pub elem : (s : Spec) (u : List ℤ) (e : ℕ) → IsAlikeSpec s → length s.ins ≡ 1 → Fills s.ins u → e < size s → InRange (out_type s) (at u e)
elem s u e a one f q = first_input_in_range s.ins (out_type s) (size s) u a.ins_alike f e (omega (arith, one)) q

joined : (s : Spec) (u : List ℤ) (e : ℕ) (v : ℤ) → IsJoined s → Fills s.ins u → e < total s.outs → Value (at u e) ≡ Value v → InRange (type_at s.outs e) v
joined s u e v j f h c =
    value_cell (type_at s.outs e) (at u e) (subst (λ t. InRange t (at u e)) (j.types e h) (f.in_range e (omega (arith, j.totals)))) v c

pub cell_in_range : (k : Kind) (s : Spec) (x : List ℤ) (m : ℕ) (u : List ℤ) → s.kind ≡ k → Asks k s → IsState s x → IsMask s m → Fills (entering_of k s) u
    → (e : ℕ) (v : ℤ) → e < total s.outs → cell_of k s x m u e ≡ Value v → InRange (type_at s.outs e) v
cell_in_range Const s x m u kd a st mk f e v h c =
    alike s _ v e a.0 h (λ q. value_cell (out_type s) _ (spread_in_range (out_type s) (size s) s.params a.2 e q)) c
cell_in_range Summation s x m u kd a st mk f e v h c = alike s _ v e a.0 h (λ q. fitted_cell (out_type s) _ _) c
cell_in_range GainBlk s x m u kd a st mk f e v h c = alike s _ v e a.0 h (λ q. fitted_cell (out_type s) _ _) c
cell_in_range Product s x m u kd a st mk f e v h c =
    alike s _ v e a.0 h (λ q. product_in (out_type s) (mode_of (param s 0)) (param s 1) (input (size s) u 0 e) (input (size s) u 1 e)) c
cell_in_range AbsValue s x m u kd a st mk f e v h c =
    alike s _ v e a.0 h (λ q. abs_in (out_type s) (mode_of (param s 0)) (at u e) (elem s u e a.0 a.1 f q)) c
cell_in_range Signum s x m u kd a st mk f e v h c =
    alike s _ v e a.0 h (λ q. value_cell (out_type s) _ (sign_in_range (out_type s) (at u e) (elem s u e a.0 a.1 f q))) c
cell_in_range MaxMin s x m u kd a st mk f e v h c =
    alike s _ v e a.0 h (λ q. value_cell (out_type s) _ (extreme_in_range (out_type s) (param s 0) (λ k. input (size s) u k e) (length s.ins - 1)
    (λ k p. input_in_range s.ins (out_type s) (size s) u a.0.ins_alike f k e (omega (arith, p, a.1)) q))) c
cell_in_range Saturation s x m u kd a st mk f e v h c =
    alike s _ v e a.0 h (λ q. value_cell (out_type s) _ (brought_in_range (out_type s) (param s 0) (param s 1) (at u e) a.3 a.4 (elem s u e a.0 a.1 f q))) c
cell_in_range DeadBand s x m u kd a st mk f e v h c =
    alike s _ v e a.0 h (λ q. beyond_in (out_type s) (mode_of (param s 0)) (param s 1) (param s 2) (at u e)) c
cell_in_range Convert s x m u kd a st mk f e v h c = one_out s _ v e a.0.outs_alike a.0.one h (λ q. fitted_cell (out_type s) _ _) c
cell_in_range Mux s x m u kd a st mk f e v h c = joined s u e v a.0 f h c
cell_in_range Demux s x m u kd a st mk f e v h c = joined s u e v a.0 f h c
cell_in_range Extractor s x m u kd a st mk f e v h c =
    one_out s _ v e a.0.outs_alike a.0.one h (λ q.
    let b = a.4 e (omega (arith, a.3)) in
    value_cell (out_type s) _ (first_input_in_range s.ins (out_type s) (elements (port_at s.ins 0)) u a.2 f _ (omega (arith, a.1)) (one_below (param s e) _ b.0 b.1))) c
  where
    one_below : (p : ℤ) (n : ℕ) → pos 1 ≤ℤ p → unsigned_abs p ≤ n → unsigned_abs p - 1 < n
    one_below (pos p) n h k = omega (arith, ints)
    one_below (negsuc p) n h k = absurd (omega (arith, ints))
cell_in_range LogicalOp s x m u kd a st mk f e v h c =
    alike s _ v e a.0 h (λ q. logical_in (out_type s) (param s 0) (param s 1) (length s.ins) (λ k. input (size s) u k e)) c
cell_in_range RelationalOp s x m u kd a st mk f e v h c =
    one_out s _ v e a.0.outs_alike a.0.one h (λ q. value_cell (out_type s) _ (truth_in_range (out_type s) _)) c
cell_in_range Shift s x m u kd a st mk f e v h c =
    alike s _ v e a.0 h (λ q. shift_in (out_type s) (param s 0) (param s 1) (at u e) (elem s u e a.0 a.1 f q)) c
cell_in_range BitSet s x m u kd a st mk f e v h c = alike s _ v e a.0 h (λ q. number_cell (out_type s) _) c
cell_in_range BitClear s x m u kd a st mk f e v h c = alike s _ v e a.0 h (λ q. number_cell (out_type s) _) c
cell_in_range ExtractBits s x m u kd a st mk f e v h c = alike s _ v e a.0 h (λ q. number_cell (out_type s) _) c
cell_in_range Switch2 s x m u kd a st mk f e v h c =
    one_out s _ v e a.0.outs_alike a.0.one h (λ q. value_cell (out_type s) _ (cond_in_range (out_type s) (switches (param s 0) (param s 1) (at u (size s))) _ _
    (λ _. subst (λ t. InRange t (at u e)) (a.0.first e q) (f.in_range e (omega (arith, a.0.total_ins))))
    (λ _. subst (λ t. InRange t (at u (size s + 1 + e))) (a.0.last e q) (f.in_range (size s + 1 + e) (omega (arith, a.0.total_ins)))))) c
cell_in_range Select s x m u kd a st mk f e v h c =
    alike s _ v e a.0 h (λ q. value_cell (out_type s) _
    (input_in_range s.ins (out_type s) (size s) u a.0.ins_alike f (least_set m s.evtin) e (omega (arith, a.1, least_set_below s.evtin m mk.few (mk.some (rw kd refl)))) q)) c
cell_in_range Logic s x m u kd a st mk f e v h c =
    let at_row = mul-add-lt (row_to (at u) (length s.ins)) (length s.outs) e (2 ^ length s.ins) (row_below (at u) (length s.ins)) (omega (arith, a.3)) in
    value_cell (type_at s.outs e) _ (flag (type_at s.outs e) _ (a.5 (row_to (at u) (length s.ins) * length s.outs + e) (omega (arith, at_row, a.4)))) v c
  where
    flag : (t : Ty) (z : ℤ) → (z ≡ pos 0) ⊎ (z ≡ pos 1) → InRange t z
    flag t z (inl p) = subst (InRange t) (sym p) (zero_in_range t)
    flag t z (inr p) = subst (InRange t) (sym p) (one_in_range t)
cell_in_range AndLog s x m u kd a st mk f e v h c =
    one_out s _ v e a.0.outs_alike a.0.one h (λ q. value_cell (out_type s) _ (subst (λ t. InRange t (cond (nat_eq m 3) (pos 1) (negsuc 0))) (sym a.1) (both (nat_eq m 3)))) c
  where
    both : (b : Bool) → InRange I32 (cond b (pos 1) (negsuc 0))
    both true = record { above = omega arith; below = omega arith }
    both false = record { above = omega arith; below = omega arith }
cell_in_range Dollar s x m u kd a st mk f e v h c =
    alike s _ v e a.0 h (λ q. value_cell (out_type s) _ (st.in_range e (rw kd q))) c
cell_in_range SampHold s x m u kd a st mk f e v h c =
    alike s _ v e a.0 h (λ q. value_cell (out_type s) _ (elem s u e a.0 a.1 f q)) c
cell_in_range Register s x m u kd a st mk f e v h c =
    alike s _ v e a.0 h (λ q. value_cell (out_type s) _ (st.in_range 0 (rw kd (omega (arith, a.3))))) c
cell_in_range ModuloCount s x m u kd a st mk f e v h c =
    one_out s _ v e a.0.outs_alike a.0.one h (λ q. value_cell (out_type s) _ (st.in_range 0 (rw kd (omega arith)))) c
cell_in_range GatedDelay s x m u kd a st mk f e v h c =
    one_out s _ v e a.0.outs_alike a.0.one h (λ q. value_cell (out_type s) _ (cond_in_range (out_type s) (int_lt (pos 0) (at u (size s))) _ _
    (λ _. st.in_range e (rw kd q)) (λ _. zero_in_range (out_type s)))) c
cell_in_range Sensor s x m u kd a st mk f e v h c =
    one_out s _ v e a.0.outs_alike a.0.one h (λ q. value_cell (out_type s) _
    (first_input_in_range s.outs (out_type s) (size s) u a.0.outs_alike f 0 (omega (arith, a.0.one)) (omega (arith, a.1)))) c
cell_in_range EvtDly s x m u kd a st mk f e v h c = value_cell (type_at s.outs e) _ (zero_in_range _) v c
cell_in_range EvtVarDly s x m u kd a st mk f e v h c = value_cell (type_at s.outs e) _ (zero_in_range _) v c
cell_in_range IfThEl s x m u kd a st mk f e v h c = value_cell (type_at s.outs e) _ (zero_in_range _) v c
cell_in_range ESelect s x m u kd a st mk f e v h c = value_cell (type_at s.outs e) _ (zero_in_range _) v c
cell_in_range Halt s x m u kd a st mk f e v h c = value_cell (type_at s.outs e) _ (zero_in_range _) v c
