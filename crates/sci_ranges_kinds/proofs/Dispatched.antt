-- What the rules say of the kinds that they don't name, and the types of their elements.
use Rattle.std.proofs.Common.{◌≡◌, ◌≢◌, ℕ, ◌+◌, ◌-◌, ◌<◌, ◌≤◌, pos, cond, List, length, drop, Option, Some, refl, ap, ◌∙◌}
use Rattle.std.proofs.lemmas.List.{at_drop_more}
use Rattle.std.specs.Prelude.{nat_lt}
use Rattle.sci_forms.specs.declared.ports.Port.{Port}
use Rattle.sci_forms.specs.Ports.{no_port, port_at, elements, type_of, type_at}
use Rattle.sci_kinds.proofs.Elements.{nat_lt_yes, nat_lt_no}
use Rattle.sci_forms.specs.declared.Kind.{Kind}
use Rattle.sci_forms.specs.declared.Kind.TheVariants.{Dollar, GatedDelay, Register, ModuloCount, IfThEl, ESelect}
use Rattle.sci_forms.specs.declared.spec.Spec.{Spec}
use Rattle.sci_forms.specs.Words.{in_type}
use Rattle.sci_ranges_base.specs.declared.interval.Interval.{Interval}
use Rattle.sci_ranges_base.specs.Intervals.{one, whole}
use Rattle.sci_ranges_rules.specs.Rules.{next_range_of, taking_of}

pub other_next : (k : Kind) (s : Spec) (xs : List Interval) (us : List (Option Interval)) (i : ℕ) → k ≢ Dollar → k ≢ GatedDelay → k ≢ Register → k ≢ ModuloCount
    → next_range_of k s xs us i ≡ Some (one (pos 0))
other_next Dollar s xs us i a b c d = absurd (a refl)
other_next GatedDelay s xs us i a b c d = absurd (b refl)
other_next Register s xs us i a b c d = absurd (c refl)
other_next ModuloCount s xs us i a b c d = absurd (d refl)
other_next _ s xs us i a b c d = refl

pub other_taking : (k : Kind) (s : Spec) (p : ℕ) → k ≢ IfThEl → k ≢ ESelect → taking_of k s p ≡ whole (in_type s)
other_taking IfThEl s p a b = absurd (a refl)
other_taking ESelect s p a b = absurd (b refl)
other_taking _ s p a b = refl

-- ---- the type of an element, port by port

module _ (ps : List Port) (k left : ℕ) (l : k < length ps) where
  here : type_at (drop k ps) left
      ≡ cond (nat_lt left (elements (port_at ps k))) (type_of (port_at ps k)) (type_at (drop (k + 1) ps) (left - elements (port_at ps k)))
  here = at_drop_more (λ qs. type_at qs left) ps k no_port l

  pub type_there : left < elements (port_at ps k) → type_at (drop k ps) left ≡ type_of (port_at ps k)
  type_there h =
      here
      ∙ ap (λ b. cond b (type_of (port_at ps k)) (type_at (drop (k + 1) ps) (left - elements (port_at ps k)))) (nat_lt_yes left (elements (port_at ps k)) h)

  pub type_beyond : elements (port_at ps k) ≤ left → type_at (drop k ps) left ≡ type_at (drop (k + 1) ps) (left - elements (port_at ps k))
  type_beyond h =
      here
      ∙ ap (λ b. cond b (type_of (port_at ps k)) (type_at (drop (k + 1) ps) (left - elements (port_at ps k)))) (nat_lt_no left (elements (port_at ps k)) h)
