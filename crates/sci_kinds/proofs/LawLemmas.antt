use Rattle.std.proofs.Common.{◌≡◌, ◌≢◌, ℕ, ◌+◌, ◌<◌, ◌≤◌, ℤ, pos, negsuc, ◌+ℤ◌, ◌-ℤ◌, ◌≤ℤ◌, ◌<ℤ◌, List, length, Bool, true, false, refl, ap, ◌∙◌, arith, subst, cond, inr}
use Rattle.std.proofs.lemmas.Int.{ints}
use Rattle.std.proofs.lemmas.Bool.Decides.{nat_tests}
use Rattle.std.specs.Prelude.{nat_eq, nat_lt, int_lt, unsigned_abs}
use Rattle.std.specs.Int.{int_rem_euclid, int_min}
use Rattle.sci_base.specs.declared.Ty.{Ty}
use Rattle.sci_base.specs.Fit.{InRange, high}
use Rattle.sci_base.specs.Lists.{at, spread}
use Rattle.sci_forms.specs.declared.Kind.{Kind}
use Rattle.sci_forms.specs.declared.Kind.TheVariants.{Const, AndLog, Dollar, Register, ModuloCount, GatedDelay, Sensor, EvtDly, EvtVarDly, IfThEl, ESelect, Halt}
use Rattle.sci_kinds.specs.declared.Cell.TheVariants.{Value}
use Rattle.sci_forms.specs.declared.spec.Spec.{Spec}
use Rattle.sci_forms.specs.Ports.{total, type_at, before, Fills}
use Rattle.sci_kinds.specs.Table.{brought, cell_of, next_of, delay_of, branch_of, cell, state_len, next, first_state, first_held, delay, branch, Values, out}
use Rattle.sci_forms.specs.Words.{param, out_type, size, state_len_of, held_of}
use Rattle.sci_forms.specs.Form.{feeds, is_sync}
use Rattle.sci_kinds.specs.Asks.{Asks, IsState, IsMask, entering_of, entering, SameBut}
use Rattle.sci_base.proofs.FitLemmas.{rem_bounds}
use Rattle.sci_kinds.proofs.Inputs.{before_all}
use Rattle.sci_kinds.proofs.Elements.{gathered_same, gathered_values, listed_at}
use Rattle.sci_kinds.proofs.Ranges.{zero_one, zero_in_range, cond_in_range, spread_in_range, elem, one_out, cell_in_range}

-- ---- states

-- a remainder by a positive number
rem_in : (z b : ℤ) → pos 1 ≤ℤ b → (pos 0 ≤ℤ int_rem_euclid z b) × (int_rem_euclid z b <ℤ b)
rem_in z (pos n) h = rem_bounds z n (omega (arith, ints))
rem_in z (negsuc n) h = absurd (omega (arith, ints))

rem_in_range : (t : Ty) (z b : ℤ) → pos 1 ≤ℤ b → (b -ℤ pos 1) ≤ℤ high t → InRange t (int_rem_euclid z b)
rem_in_range t z b h k =
    let r = rem_in z b h in
    let o = zero_one t in
    record { above = omega (arith, ints, r.0, o.0); below = omega (arith, ints, r.1, k) }

pub next_in_range : (k : Kind) (s : Spec) (x : List ℤ) (m : ℕ) (u : List ℤ) → s.kind ≡ k → Asks k s → IsState s x → Fills (entering_of k s) u
    → (i : ℕ) → i < state_len_of k s → InRange (out_type s) (next_of k s x m u i)
next_in_range Dollar s x m u kd a st f i h = elem s u i a.0 a.1 f h
next_in_range GatedDelay s x m u kd a st f i h =
    subst (λ t. InRange t (at u i)) (a.0.first i h) (f.in_range i (omega (arith, a.0.total_ins, h)))
next_in_range Register s x m u kd a st f i h = cond_in_range (out_type s) (nat_lt (i + 1) (length s.state)) _ _
    (λ p. let more : i + 1 < length s.state = grind (arith, nat_tests) in st.in_range (i + 1) (rw kd more))
    (λ _. elem s u 0 a.0 a.1 f (omega (arith, a.2)))
next_in_range ModuloCount s x m u kd a st f i h = rem_in_range (out_type s) (at x 0 +ℤ pos 1) (param s 0) a.2 a.4
next_in_range _ s x m u kd a st f i h = absurd (omega (arith, h))

pub first_in_range : (k : Kind) (s : Spec) → Asks k s → (i : ℕ) → i < state_len_of k s → InRange (out_type s) (spread s.state i)
first_in_range Dollar s a i h = spread_in_range (out_type s) (size s) s.state a.2 i h
first_in_range GatedDelay s a i h = spread_in_range (out_type s) (size s) s.state a.2 i h
first_in_range Register s a i h = cond_in_range (out_type s) (nat_eq (length s.state) 1) _ _ (λ p. a.4 0 (omega (arith, a.3))) (λ p. a.4 i h)
first_in_range ModuloCount s a i h = rw (a.6) (counts (at s.state 0) (param s 0) a.4 a.7 a.8)
  where
    counts : (v b : ℤ) → (b -ℤ pos 1) ≤ℤ high (out_type s) → pos 0 ≤ℤ v → v <ℤ b → InRange (out_type s) v
    counts v b h k l = let o = zero_one (out_type s) in record { above = omega (arith, ints, o.0); below = omega (arith, ints) }
first_in_range _ s a i h = absurd (omega (arith, h))

-- the outputs before the first activation
held_in_range : (k : Kind) (s : Spec) → Asks k s → (e : ℕ) → e < total s.outs → InRange (type_at s.outs e) (held_of k s e)
held_in_range Dollar s a e h =
    one_out s (Value (spread s.state e)) _ e a.0.outs_alike a.0.one h (λ q v c. let same : spread s.state e ≡ v = cc in subst (InRange (out_type s)) same (first_in_range Dollar s a e q)) refl
held_in_range Register s a e h =
    one_out s (Value (at s.state 0)) _ e a.0.outs_alike a.0.one h (λ q v c. let same : at s.state 0 ≡ v = cc in subst (InRange (out_type s)) same (a.4 0 (omega (arith, a.3)))) refl
held_in_range ModuloCount s a e h =
    one_out s (Value (at s.state 0)) _ e a.0.outs_alike a.0.one h (λ q v c. let same : at s.state 0 ≡ v = cc in subst (InRange (out_type s)) same (rw a.6 at (first_in_range ModuloCount s a 0 (omega arith)))) refl
held_in_range _ s a e h = zero_in_range (type_at s.outs e)

-- value i of the next state is found from the old values at i and after
pub next_ahead : (k : Kind) (s : Spec) (x y : List ℤ) (m : ℕ) (u : List ℤ) (i : ℕ) → i < state_len_of k s → ((j : ℕ) → i ≤ j → at x j ≡ at y j) → next_of k s x m u i ≡ next_of k s y m u i
next_ahead Register s x y m u i l h = ap (λ z. cond (nat_lt (i + 1) (length s.state)) z (at u 0)) (h (i + 1) (omega arith))
next_ahead ModuloCount s x y m u i l h = ap (λ z. int_rem_euclid (z +ℤ pos 1) (param s 0)) (h 0 (omega (arith, l)))
next_ahead _ s x y m u i l h = refl

-- ---- delays and branches

delay_bounds : (k : Kind) (s : Spec) (p : ℕ) (u : List ℤ) → Asks k s → (negsuc 0 ≤ℤ delay_of k s p u) × (delay_of k s p u ≤ℤ pos 2147483647)
delay_bounds EvtDly s p u a = (a.2, a.3)
delay_bounds EvtVarDly s p u a = by_sign (int_lt (at u 0) (pos 0)) refl
  where
    by_least : (b : Bool) → int_lt (at u 0) (pos 0) ≡ false → int_lt (pos 2147483647) (at u 0) ≡ b → (negsuc 0 ≤ℤ cond b (pos 2147483647) (at u 0)) × (cond b (pos 2147483647) (at u 0) ≤ℤ pos 2147483647)
    by_least true p q = (omega arith, omega arith)
    by_least false p q = (let f : pos 0 ≤ℤ at u 0 = grind (arith, ints) in omega (arith, ints), grind (arith, ints))

    by_sign : (b : Bool) → int_lt (at u 0) (pos 0) ≡ b → (negsuc 0 ≤ℤ cond b (negsuc 0) (int_min (at u 0) (pos 2147483647))) × (cond b (negsuc 0) (int_min (at u 0) (pos 2147483647)) ≤ℤ pos 2147483647)
    by_sign true p = (omega arith, omega arith)
    by_sign false p = by_least (int_lt (pos 2147483647) (at u 0)) p refl
delay_bounds _ s p u a = (omega arith, omega arith)

one_or_two : (b : Bool) → (1 ≤ cond b 1 2) × (cond b 1 2 ≤ 2)
one_or_two true = (omega arith, omega arith)
one_or_two false = (omega arith, omega arith)

brought_bounds : (n : ℕ) (v : ℤ) → 1 ≤ n → (1 ≤ unsigned_abs (brought (pos 1) (pos n) v)) × (unsigned_abs (brought (pos 1) (pos n) v) ≤ n)
brought_bounds n v h = by_low (int_lt v (pos 1)) refl
  where
    inside : (z : ℤ) → pos 1 ≤ℤ z → z ≤ℤ pos n → (1 ≤ unsigned_abs z) × (unsigned_abs z ≤ n)
    inside (pos z) p q = (omega (arith, ints), omega (arith, ints))
    inside (negsuc z) p q = absurd (omega (arith, ints))

    by_high : (b : Bool) → int_lt v (pos 1) ≡ false → int_lt (pos n) v ≡ b → (1 ≤ unsigned_abs (cond b (pos n) v)) × (unsigned_abs (cond b (pos n) v) ≤ n)
    by_high true p q = (h, omega arith)
    by_high false p q = inside v (grind (arith, ints)) (grind (arith, ints))

    by_low : (b : Bool) → int_lt v (pos 1) ≡ b → (1 ≤ unsigned_abs (cond b (pos 1) (cond (int_lt (pos n) v) (pos n) v))) × (unsigned_abs (cond b (pos 1) (cond (int_lt (pos n) v) (pos n) v)) ≤ n)
    by_low true p = (omega arith, h)
    by_low false p = by_high (int_lt (pos n) v) p refl

branch_bounds : (k : Kind) (s : Spec) (u : List ℤ) → Asks k s → is_sync k ≡ true → (1 ≤ branch_of k s u) × (branch_of k s u ≤ s.evtout)
branch_bounds IfThEl s u a h = rw a.2 (one_or_two _)
branch_bounds ESelect s u a h = brought_bounds s.evtout (at u 0) (omega (arith, a.2))
branch_bounds _ s u a h = cc

-- ---- feedthrough

-- what the kind has no feedthrough from changes no element; of GATED_DELAY the second input's one element decides
free_cell : (k : Kind) (s : Spec) (x : List ℤ) (m i : ℕ) (u v : List ℤ) (e : ℕ) → Asks k s → i < length s.ins → feeds k (i + 1) ≡ false
    → (k ≡ GatedDelay → at u (size s) ≡ at v (size s)) → cell_of k s x m u e ≡ cell_of k s x m v e
free_cell Const s x m i u v e a l n h = refl
free_cell AndLog s x m i u v e a l n h = refl
free_cell Dollar s x m i u v e a l n h = refl
free_cell Register s x m i u v e a l n h = refl
free_cell ModuloCount s x m i u v e a l n h = refl
free_cell GatedDelay s x m i u v e a l n h = ap (λ z. Value (cond (int_lt (pos 0) z) (at x e) (pos 0))) (h refl)
free_cell Sensor s x m i u v e a l n h = absurd (omega (arith, l, a.2))
free_cell EvtDly s x m i u v e a l n h = refl
free_cell EvtVarDly s x m i u v e a l n h = refl
free_cell Halt s x m i u v e a l n h = refl
free_cell _ s x m i u v e a l n h = cc

-- the second input of a GATED_DELAY
pub gate : (s : Spec) → Asks GatedDelay s → (length s.ins ≡ 2) × (before s.ins 1 ≡ size s) × (before s.ins 2 ≡ size s + 1)
gate s a = (a.1, a.0.first_size, before_all s.ins 2 a.1 ∙ a.0.total_ins ∙ omega arith)

-- an input of which a GATED_DELAY has no feedthrough isn't the second
gated_same : (s : Spec) (i : ℕ) (u v : List ℤ) → Asks s.kind s → i < length s.ins → feeds s.kind (i + 1) ≡ false → SameBut s i u v → s.kind ≡ GatedDelay
    → at u (size s) ≡ at v (size s)
gated_same s i u v a l n h kd =
    let g = gate s (subst (λ k. Asks k s) kd a) in
    let not_two : nat_eq (i + 1) 2 ≡ false = subst (λ k. feeds k (i + 1) ≡ false) kd n in
    let not_one : i ≢ 1 = grind (arith, nat_tests) in
    let zero : i ≡ 0 = omega (arith, l, g.0, not_one) in
    h (size s) (inr (rw zero (omega (arith, g.1))))

free_branch : (k : Kind) (s : Spec) (i : ℕ) (u v : List ℤ) → feeds k (i + 1) ≡ false → branch_of k s u ≡ branch_of k s v
free_branch IfThEl s i u v n = cc
free_branch ESelect s i u v n = cc
free_branch _ s i u v n = refl

-- ---- whole specs

module _ (s : Spec) (a : Asks s.kind s) where
  -- with an input of which the kind has no feedthrough
  pub same_of : (x : List ℤ) (m k : ℕ) (u v : List ℤ) → k < length s.ins → feeds s.kind (k + 1) ≡ false → (s.kind ≡ GatedDelay → at u (size s) ≡ at v (size s))
      → (out s x m u ≡ out s x m v) × (branch s u ≡ branch s v)
  same_of x m k u v l n h =
      (gathered_same (cell s x m u) (cell s x m v) (total s.outs) (λ e _. free_cell s.kind s x m k u v e a l n h), free_branch s.kind s k u v n)

  pub free_input_of : (x : List ℤ) (m k : ℕ) (u v : List ℤ) → k < length s.ins → feeds s.kind (k + 1) ≡ false → SameBut s k u v
      → (out s x m u ≡ out s x m v) × (branch s u ≡ branch s v)
  free_input_of x m k u v l n h = same_of x m k u v l n (gated_same s k u v a l n h)

  pub out_in_range : (x : List ℤ) (m : ℕ) (u : List ℤ) → IsState s x → IsMask s m → Fills (entering s) u → (vs : List ℤ) → out s x m u ≡ Values vs → Fills s.outs vs
  out_in_range x m u st mk f vs e =
      let g = gathered_values (cell s x m u) (total s.outs) vs e in
      record { enough = g.0; in_range = λ i h. cell_in_range s.kind s x m u refl a st mk f i (at vs i) h (g.1 i h) }

  pub IsState-next : (x : List ℤ) (m : ℕ) (u : List ℤ) → IsState s x → Fills (entering s) u → IsState s (next s x m u)
  IsState-next x m u st f =
      let g = listed_at (next_of s.kind s x m u) (state_len s) in
      record { enough = g.0; in_range = λ i h. rw (g.1 i h) (next_in_range s.kind s x m u refl a st f i h) }

  pub IsState-first_state : IsState s (first_state s)
  IsState-first_state =
      let g = listed_at (spread s.state) (state_len s) in
      record { enough = g.0; in_range = λ i h. rw (g.1 i h) (first_in_range s.kind s a i h) }

  pub first_held_of : Fills s.outs (first_held s)
  first_held_of =
      let g = listed_at (held_of s.kind s) (total s.outs) in
      record { enough = g.0; in_range = λ i h. rw (g.1 i h) (held_in_range s.kind s a i h) }

  pub delay_of_typed : (p : ℕ) (u : List ℤ) → (negsuc 0 ≤ℤ delay s p u) × (delay s p u ≤ℤ pos 2147483647)
  delay_of_typed p u = delay_bounds s.kind s p u a

  pub branch_of_typed : (u : List ℤ) → is_sync s.kind ≡ true → (1 ≤ branch s u) × (branch s u ≤ s.evtout)
  branch_of_typed u h = branch_bounds s.kind s u a h
