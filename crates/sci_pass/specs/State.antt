-- Specs that are the same apart from the state that a block begins with.
use Rattle.std.specs.Prelude.{◌≡◌, ℕ, ℤ, List, length}
use Rattle.sci_forms.specs.declared.Kind.TheVariants.{Register}
use Rattle.sci_forms.specs.declared.spec.Spec.{Spec}
use Rattle.sci_kinds.specs.Table.{out, next, delay, branch, state_len}
use Rattle.sci_kinds.specs.Asks.{IsState, IsMask, entering}

-- the two are the same apart from the state that they begin with
abbrev pub IsSameButState : Spec → Spec → Type 0
IsSameButState s t = record s { state = t.state } ≡ t

-- The two have the same kind and ports, and mean the same: what goes in and comes out, branches and delays. Where the state has as many values
-- in both, as it does but for a shift register with another count of values, the next state is the same.
pub record AreAlike (s t : Spec) : Type 0 where
  pub kind : s.kind ≡ t.kind
  pub ins : s.ins ≡ t.ins
  pub outs : s.outs ≡ t.outs
  pub evtin : s.evtin ≡ t.evtin
  pub evtout : s.evtout ≡ t.evtout
  pub entering : entering s ≡ entering t
  pub masks : (mask : ℕ) → IsMask s mask → IsMask t mask
  pub out : (x : List ℤ) (mask : ℕ) (u : List ℤ) → out s x mask u ≡ out t x mask u
  pub branch : (u : List ℤ) → branch s u ≡ branch t u
  pub delay : (p : ℕ) (u : List ℤ) → delay s p u ≡ delay t p u
  pub lengths : (s.kind ≡ Register → length s.state ≡ length t.state) → state_len s ≡ state_len t
  pub states : state_len s ≡ state_len t → (x : List ℤ) → IsState s x → IsState t x
  pub next : state_len s ≡ state_len t → (x : List ℤ) (mask : ℕ) (u : List ℤ) → next s x mask u ≡ next t x mask u
