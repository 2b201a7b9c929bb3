-- Kinds without delays and without a state, and what a spec means apart from the state that it begins with.
use Rattle.std.proofs.Common.{◌≡◌, ℕ, zero, suc, ◌+◌, false, cond, nat_lt, ℤ, negsuc, List, [], ◌∷◌, ◌++◌, length, refl, ap, subst, ◌∙◌, arith, true≢false}
use Rattle.sci_base.specs.Lists.{at, listed}
use Rattle.sci_forms.specs.declared.Kind.{Kind}
use Rattle.sci_forms.specs.declared.Kind.TheVariants.{Const, Dollar, Register, ModuloCount, GatedDelay, EvtDly, EvtVarDly}
use Rattle.sci_forms.specs.declared.spec.Spec.{Spec}
use Rattle.sci_forms.specs.Form.{has_state, has_delay}
use Rattle.sci_forms.specs.Ports.{total}
use Rattle.sci_forms.specs.Words.{state_len_of}
use Rattle.sci_kinds.specs.Table.{cell_of, next_of, delay_of, branch_of, cell, state_len, next, delay}
use Rattle.sci_kinds.specs.Asks.{IsState, entering_of}
use Rattle.sci_kinds.proofs.Elements.{gathered_same}
use Rattle.sci_pass.specs.State.{IsSameButState, AreAlike}

-- ---- without delays, without a state

no_delay_of : (k : Kind) (s : Spec) (p : ℕ) (u : List ℤ) → has_delay k ≡ false → delay_of k s p u ≡ negsuc 0
no_delay_of EvtDly s p u h = absurd (true≢false h)
no_delay_of EvtVarDly s p u h = absurd (true≢false h)
no_delay_of _ s p u h = refl

pub no_delay : (s : Spec) (p : ℕ) (u : List ℤ) → has_delay s.kind ≡ false → delay s p u ≡ negsuc 0
no_delay s p u h = no_delay_of s.kind s p u h

no_state_of : (k : Kind) (s : Spec) → has_state k ≡ false → state_len_of k s ≡ 0
no_state_of Dollar s h = absurd (true≢false h)
no_state_of GatedDelay s h = absurd (true≢false h)
no_state_of Register s h = absurd (true≢false h)
no_state_of ModuloCount s h = absurd (true≢false h)
no_state_of _ s h = refl

pub no_state : (s : Spec) → has_state s.kind ≡ false → state_len s ≡ 0
no_state s h = no_state_of s.kind s h

nothing_listed : (f : ℕ → ℤ) (x : List ℤ) (n : ℕ) → n ≡ 0 → length x ≡ n → listed f n ≡ x
nothing_listed f [] zero z l = refl
nothing_listed f (v ∷ x) zero z l = absurd (omega (arith, l))
nothing_listed f x (suc n) z l = absurd (omega (arith, z))

pub state_stays : (s : Spec) (x : List ℤ) (mask : ℕ) (u : List ℤ) → has_state s.kind ≡ false → IsState s x → next s x mask u ≡ x
state_stays s x mask u h st = nothing_listed (next_of s.kind s x mask u) x (state_len s) (no_state s h) st.enough

-- ---- apart from the state

abbrev with_state : Spec → List ℤ → Spec
with_state s st = record s { state = st }

cell_same : (k : Kind) (s : Spec) (st x : List ℤ) (mask : ℕ) (u : List ℤ) (e : ℕ) → cell_of k s x mask u e ≡ cell_of k (with_state s st) x mask u e
cell_same Const s st x mask u e = refl
cell_same _ s st x mask u e = refl

branch_same : (k : Kind) (s : Spec) (st u : List ℤ) → branch_of k s u ≡ branch_of k (with_state s st) u
branch_same Const s st u = refl
branch_same _ s st u = refl

delay_same : (k : Kind) (s : Spec) (st : List ℤ) (p : ℕ) (u : List ℤ) → delay_of k s p u ≡ delay_of k (with_state s st) p u
delay_same Const s st p u = refl
delay_same _ s st p u = refl

entering_same : (k : Kind) (s : Spec) (st : List ℤ) → entering_of k s ≡ entering_of k (with_state s st)
entering_same Const s st = refl
entering_same _ s st = refl

-- of a shift register the count of values decides
next_same : (k : Kind) (s : Spec) (st x : List ℤ) (mask : ℕ) (u : List ℤ) (i : ℕ) → state_len_of k s ≡ state_len_of k (with_state s st)
    → next_of k s x mask u i ≡ next_of k (with_state s st) x mask u i
next_same Register s st x mask u i len = ap (λ n. cond (nat_lt (i + 1) n) (at x (i + 1)) (at u 0)) len
next_same _ s st x mask u i len = refl

listed_same : (f g : ℕ → ℤ) → ((i : ℕ) → f i ≡ g i) → (n : ℕ) → listed f n ≡ listed g n
listed_same f g same zero = refl
listed_same f g same (suc n) = ap (λ xs. xs ++ f n ∷ []) (listed_same f g same n) ∙ ap (λ v. listed g n ++ v ∷ []) (same n)

whole_next : (s : Spec) (st x : List ℤ) (mask : ℕ) (u : List ℤ)
    → state_len s ≡ state_len (with_state s st) → next s x mask u ≡ next (with_state s st) x mask u
whole_next s st x mask u len =
    let one = next_of s.kind s x mask u in
    let two = next_of s.kind (with_state s st) x mask u in
    ap (listed one) len ∙ listed_same one two (λ i. next_same s.kind s st x mask u i len) (state_len (with_state s st))

-- the same count of values, but for a shift register
length_same : (k : Kind) (s : Spec) (st : List ℤ) → (k ≡ Register → length s.state ≡ length st) → state_len_of k s ≡ state_len_of k (with_state s st)
length_same Register s st h = h refl
length_same _ s st h = refl

alike : (s : Spec) (st : List ℤ) → AreAlike s (with_state s st)
alike s st = record {
  kind = refl;
  ins = refl;
  outs = refl;
  evtin = refl;
  evtout = refl;
  entering = entering_same s.kind s st;
  masks = λ mask is. record { few = is.few; some = is.some };
  out = λ x mask u. gathered_same (cell s x mask u) (cell (with_state s st) x mask u) (total s.outs) (λ e l. cell_same s.kind s st x mask u e);
  branch = λ u. branch_same s.kind s st u;
  delay = λ p u. delay_same s.kind s st p u;
  lengths = λ same. length_same s.kind s st same;
  states = λ len x is. record { enough = is.enough ∙ len; in_range = λ i h. is.in_range i (omega (arith, h, len)) };
  next = λ len x mask u. whole_next s st x mask u len;
}

pub same_but_state : (s t : Spec) → IsSameButState s t → AreAlike s t
same_but_state s t same = subst (AreAlike s) same (alike s t.state)
