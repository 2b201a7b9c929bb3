use Rattle.std.specs.Prelude.{◌≡◌, ℕ, ◌+◌, ◌<◌, ◌≤◌, ℤ, negsuc, ◌≤ℤ◌, List, length, false, true}
use Rattle.sci_base.specs.declared.limits.TheConstants.{DELAY}
use Rattle.sci_base.specs.Lists.{truth_at}
use Rattle.sci_forms.specs.declared.spec.Spec.{Spec}
use Rattle.sci_forms.specs.Ports.{total, Fills}
use Rattle.sci_kinds.specs.Table.{Values, out, next, delay, branch, first_state, first_held}
use Rattle.sci_forms.specs.Form.{is_sync}
use Rattle.sci_forms.specs.Typed.{typed}
use Rattle.sci_kinds.specs.Asks.{IsState, IsMask, entering, SameBut, SameFed, laid}

-- where input k has no feedthrough, the outputs and the branch are the same for all values of input k, the others being equal
abbrev pub FreeInputLaw : Type 0
FreeInputLaw =
    (s : Spec) (x : List ℤ) (m k : ℕ) (u v : List ℤ) → typed s ≡ true → k < length s.ins → truth_at s.feed k ≡ false → SameBut s k u v
    → (out s x m u ≡ out s x m v) × (branch s u ≡ branch s v)

-- the outputs and the branch are the same where the inputs with feedthrough are
abbrev pub FedInputsLaw : Type 0
FedInputsLaw =
    (s : Spec) (x : List ℤ) (m : ℕ) (u v : List ℤ) → typed s ≡ true → length u ≡ total s.ins → length v ≡ total s.ins → SameFed s u v
    → (out s x m u ≡ out s x m v) × (branch s u ≡ branch s v)

-- the same of lists of values, one for each input
abbrev pub LaidInputsLaw : Type 0
LaidInputsLaw =
    (s : Spec) (x : List ℤ) (m : ℕ) (xs ys : ℕ → List ℤ) → typed s ≡ true
    → ((k : ℕ) → k < length s.ins → truth_at s.feed k ≡ true → xs (k + 1) ≡ ys (k + 1))
    → (out s x m (laid s.ins xs) ≡ out s x m (laid s.ins ys)) × (branch s (laid s.ins xs) ≡ branch s (laid s.ins ys))

-- values in range give values in range
abbrev pub RangeLaw : Type 0
RangeLaw =
    (s : Spec) (x : List ℤ) (m : ℕ) (u : List ℤ) → typed s ≡ true → IsState s x → IsMask s m → Fills (entering s) u
    → ((vs : List ℤ) → out s x m u ≡ Values vs → Fills s.outs vs) × IsState s (next s x m u)

-- the first state and the first held outputs are in range
abbrev pub FirstHeldLaw : Type 0
FirstHeldLaw = (s : Spec) → typed s ≡ true → IsState s (first_state s) × Fills s.outs (first_held s)

-- a delay is from -1 to 2^31 - 1
abbrev pub DelayLaw : Type 0
DelayLaw = (s : Spec) (p : ℕ) (u : List ℤ) → typed s ≡ true → (negsuc 0 ≤ℤ delay s p u) × (delay s p u ≤ℤ DELAY)

-- a branch is from 1 to the number of activation outputs
abbrev pub BranchLaw : Type 0
BranchLaw = (s : Spec) (u : List ℤ) → typed s ≡ true → is_sync s.kind ≡ true → (1 ≤ branch s u) × (branch s u ≤ s.evtout)
