-- The rules on the types and sizes of a net whose typing is known.
use Rattle.std.specs.Prelude.{ℕ, ◌+◌, pos, List, [], ◌∷◌, Option, Some, None, nat_le, if◌then◌else◌}
use Rattle.sci_base.specs.declared.limits.TheConstants.{PORT_ELEMENTS, ALL_ELEMENTS}
use Rattle.sci_base.specs.Plain.{Violation}
use Rattle.sci_base.specs.declared.refusal.Rule.TheVariants.{SignalTooLarge}
use Rattle.sci_forms.specs.declared.broken.Broken.{Broken}
use Rattle.sci_forms.specs.declared.broken.Detail.TheVariants.{Pair}
use Rattle.sci_forms.specs.declared.ports.Port.{Port}
use Rattle.sci_forms.specs.declared.spec.Spec.{Spec}
use Rattle.sci_forms.specs.Forms.{or_else}
use Rattle.sci_forms.specs.Broken.{violation_at}
use Rattle.sci_forms.specs.Ports.{elements}
use Rattle.sci_forms.specs.Typed.{types_broken_of, sizes_broken_of}
use Rattle.sci_net.specs.Parts.{Parts, path_of}
use Rattle.sci_net.specs.Net.{all_elements}

-- a broken rule of a block
abbrev pub Blamed : Type 0
Blamed = ℕ × Broken

-- of one block the rule on types first, then the one on sizes
abbrev pub spec_broken : Spec → Option Broken
spec_broken s = or_else (types_broken_of s.kind s) (sizes_broken_of s.kind s)

abbrev pub blamed : ℕ → Option Broken → Option Blamed
blamed b None = None
blamed b (Some x) = Some (b, x)

-- the first block that breaks one; the first of these has number b
abbrev pub specs_broken : ℕ → List Spec → Option Blamed
specs_broken b [] = None
specs_broken b (s ∷ ss) = or_else (blamed b (spec_broken s)) (specs_broken (b + 1) ss)

-- the first output, the first of these having number k, that has more than 256 elements
abbrev pub outs_large : ℕ → List Port → Option Broken
outs_large k [] = None
outs_large k (p ∷ ps) = if nat_le (elements p) PORT_ELEMENTS then outs_large (k + 1) ps else Some (record { rule = SignalTooLarge; detail = Pair (pos k) (pos (elements p)) })

abbrev pub specs_large : ℕ → List Spec → Option Blamed
specs_large b [] = None
specs_large b (s ∷ ss) = or_else (blamed b (outs_large 1 s.outs)) (specs_large (b + 1) ss)

-- all outputs together have more than 65,536 elements; that is no block's fault
abbrev pub sum_large : List Spec → Option Blamed
sum_large ss = if nat_le (all_elements ss) ALL_ELEMENTS then None else Some (0, record { rule = SignalTooLarge; detail = Pair (pos 0) (pos (all_elements ss)) })

-- the first of these rules that a net breaks
abbrev pub net_broken : List Spec → Option Blamed
net_broken ss = or_else (specs_broken 1 ss) (or_else (specs_large 1 ss) (sum_large ss))

-- block 0 is the diagram as a whole
abbrev pub violation : Parts → ℕ → Broken → Violation
violation n b x = violation_at (path_of n b) x
