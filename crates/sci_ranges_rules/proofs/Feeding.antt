-- The values on which the outputs of a typed spec depend are in their intervals.
use Rattle.std.proofs.Common.{◌≡◌, ◌≢◌, ℕ, zero, suc, ◌+◌, ◌-◌, ◌*◌, ◌<◌, ◌≤◌, ℤ, List, [], ◌∷◌, length, Bool, true, false, ◌||◌, not, refl, arith, inl, inr}
use Rattle.std.proofs.Math.Numerals.{add-one}
use Rattle.std.proofs.lemmas.Nat.{mul-add-lt}
use Rattle.std.proofs.lemmas.Bool.{cases_lt}
use Rattle.std.proofs.Math.Nat.{mul_comm}
use Rattle.std.specs.Prelude.{Option, nat_eq}
use Rattle.sci_base.specs.declared.Ty.{Ty}
use Rattle.sci_base.specs.Lists.{at, truth_at}
use Rattle.sci_forms.specs.declared.Kind.TheVariants.{Select}
use Rattle.sci_forms.specs.declared.ports.Port.{Port}
use Rattle.sci_forms.specs.declared.spec.Spec.{Spec}
use Rattle.sci_forms.specs.Ports.{elements, total, before, IsAlike}
use Rattle.sci_forms.specs.Form.{feeds}
use Rattle.sci_forms.specs.Forms.{fed, all_to}
use Rattle.sci_forms.specs.Typed.{typed}
use Rattle.sci_forms.proofs.TestLemmas.{all_to_at, both_true}
use Rattle.sci_kinds.proofs.TypedLemmas.{tests}
use Rattle.sci_kinds.proofs.Elements.{total_alike}
use Rattle.sci_ranges_base.specs.declared.interval.Interval.{Interval}
use Rattle.sci_ranges_base.specs.Intervals.{IsInSome, range_at}
use Rattle.sci_ranges_rules.specs.Laws.{AreFed}

-- an input from which the kind has feedthrough has it
pub fed_kind : (s : Spec) → typed s ≡ true → (k : ℕ) → k < length s.ins → feeds s.kind (k + 1) ≡ true → truth_at s.feed k ≡ true
fed_kind s h k l f =
    let parts = both_true (nat_eq (length s.feed) (length s.ins)) (all_to (fed s.kind s.feed) (length s.ins)) (tests s.kind s h).feed in
    by_truth (truth_at s.feed k) (feeds s.kind (k + 1)) f (all_to_at (fed s.kind s.feed) (length s.ins) parts.1 k l)
  where
    by_truth : (a b : Bool) → b ≡ true → (a || not b) ≡ true → a ≡ true
    by_truth true b p h = refl
    by_truth false true p h = cc
    by_truth false false p h = cc

-- each element is one of an input
pub port_of : (ps : List Port) (e : ℕ) → e < total ps → (k : ℕ) × (k < length ps) × (before ps k ≤ e) × (e < before ps (suc k))
port_of [] e h = absurd (omega (arith, h))
port_of (p ∷ ps) e h = elim (cases_lt e (elements p)) [
  | inl q ↦ (0, omega arith, omega arith, omega (arith, q))
  | inr q ↦
      let r = port_of ps (e - elements p) (omega (arith, h, q)) in
      (suc r.0, omega (arith, r.1), omega (arith, r.2, q), omega (arith, r.3, q))
]

pub before_alike : (ps : List Port) (t : Ty) (n k : ℕ) → IsAlike ps t n → k ≤ length ps → before ps k ≡ k * n
before_alike ps t n zero a h = omega arith
before_alike [] t n (suc k) a h = absurd (omega (arith, h))
before_alike (p ∷ ps) t n (suc k) a h =
    let rest = before_alike ps t n k (record { types = λ j l. a.types (suc j) (omega (arith, l)); sizes = λ j l. a.sizes (suc j) (omega (arith, l)) }) (omega (arith, h)) in
    let first : elements p ≡ n = a.sizes 0 (omega arith) in
    added (elements p) (before ps k) first rest
  where
    added : (x y : ℕ) → x ≡ n → y ≡ k * n → x + y ≡ suc k * n
    added x y e f = rw (e, f) (grind arith)

module _ (s : Spec) (m : ℕ) (us : List (Option Interval)) (u : List ℤ) (h : typed s ≡ true) (fed : AreFed s m us u) where
  -- an element of an input
  pub fed_at : (k e : ℕ) → k < length s.ins → feeds s.kind (k + 1) ≡ true → s.kind ≢ Select → before s.ins k ≤ e → e < before s.ins (k + 1) → IsInSome (range_at us e) (at u e)
  fed_at k e l f other from to = fed.inputs k e (record { within = l; through = fed_kind s h k l f; chosen = λ z. absurd (other z) }) from to

  -- of a kind with feedthrough from all inputs
  pub fed_all : ((k : ℕ) → feeds s.kind k ≡ true) → s.kind ≢ Select → (e : ℕ) → e < total s.ins → IsInSome (range_at us e) (at u e)
  fed_all f other e l =
      let p = port_of s.ins e l in
      let next : e < before s.ins (p.0 + 1) = rw add-one p.3 in
      fed_at p.0 e p.1 (f (p.0 + 1)) other p.2 next

  -- of inputs of one size
  pub fed_alike : (t : Ty) (n : ℕ) → IsAlike s.ins t n → ((k : ℕ) → feeds s.kind k ≡ true) → s.kind ≢ Select
      → (k e : ℕ) → k < length s.ins → e < n → IsInSome (range_at us (k * n + e)) (at u (k * n + e))
  fed_alike t n a f other k e p q =
      let all = total_alike s.ins t n a in
      fed_all f other (k * n + e) (omega (arith, mul-add-lt k n e (length s.ins) p q, mul_comm n (length s.ins), all))
