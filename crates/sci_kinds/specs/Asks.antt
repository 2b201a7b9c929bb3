-- What holds of a typed spec, kind by kind; its states, masks and inputs.
use Rattle.std.specs.Prelude.{◌≡◌, ◌≢◌, ℕ, ◌+◌, ◌*◌, ◌^◌, ◌<◌, ◌≤◌, ℤ, pos, negsuc, ◌-ℤ◌, ◌≤ℤ◌, ◌<ℤ◌, ◌⊎◌, List, [], ◌∷◌, ◌++◌, suc, true, length, unsigned_abs}
use Rattle.sci_base.specs.declared.limits.TheConstants.{PORTS, DELAY}
use Rattle.sci_base.specs.declared.Ty.{Ty}
use Rattle.sci_base.specs.declared.Ty.TheVariants.{I32}
use Rattle.sci_base.specs.Fit.{InRange, width, high}
use Rattle.sci_base.specs.Lists.{at, truth_at, listed}
use Rattle.sci_forms.specs.declared.Kind.{Kind}
use Rattle.sci_forms.specs.declared.Kind.TheVariants.{Const, Summation, GainBlk, Product, AbsValue, Signum, MaxMin, Saturation, DeadBand, Convert, Mux, Demux, Extractor, LogicalOp, RelationalOp, Shift, BitSet, BitClear, ExtractBits, Switch2, Select, Logic, AndLog, Dollar, SampHold, Register, ModuloCount, GatedDelay, Sensor, EvtDly, EvtVarDly, IfThEl, ESelect, Halt}
use Rattle.sci_forms.specs.declared.ports.Port.{Port}
use Rattle.sci_forms.specs.declared.spec.Spec.{Spec}
use Rattle.sci_forms.specs.Ports.{port_at, elements, total, before, type_at, IsAlike}
use Rattle.sci_forms.specs.declared.form.Role.{Role}
use Rattle.sci_forms.specs.declared.form.Role.TheVariants.{Values, State, Delay, Branch, Sensor as Senses, Halt as Halts}
use Rattle.sci_forms.specs.declared.form.Mask.TheVariants.{Needed}
use Rattle.sci_forms.specs.Form.{form, role_of}
use Rattle.sci_forms.specs.Words.{param, out_type, in_type, size, state_len_of}

-- numbers in range of t, one or one per element
abbrev pub IsSpread : Ty → ℕ → List ℤ → Type 0
IsSpread t n vs = ((length vs ≡ 1) ⊎ (length vs ≡ n)) × ((k : ℕ) → k < length vs → InRange t (at vs k))

-- one output
pub record IsOneOut (s : Spec) : Type 0 where
  pub outs_alike : IsAlike s.outs (out_type s) (size s)
  pub one : length s.outs ≡ 1

-- one output, and every port of one type and size
pub record IsAlikeSpec (s : Spec) : Type 0 where
  pub outs_alike : IsAlike s.outs (out_type s) (size s)
  pub one : length s.outs ≡ 1
  pub ins_alike : IsAlike s.ins (out_type s) (size s)

-- one output, and every port of one size; the inputs of one type
pub record IsSizedSpec (s : Spec) : Type 0 where
  pub outs_alike : IsAlike s.outs (out_type s) (size s)
  pub one : length s.outs ≡ 1
  pub ins_alike : IsAlike s.ins (in_type s) (size s)

-- the inputs have the outputs' elements
pub record IsJoined (s : Spec) : Type 0 where
  pub totals : total s.ins ≡ total s.outs
  pub types : (e : ℕ) → e < total s.outs → type_at s.ins e ≡ type_at s.outs e

-- one output; the inputs are one like it, a scalar of any type, and n more elements of the output's type
pub record IsSwitched (s : Spec) (n : ℕ) : Type 0 where
  pub outs_alike : IsAlike s.outs (out_type s) (size s)
  pub one : length s.outs ≡ 1
  pub total_ins : total s.ins ≡ size s + 1 + n
  pub first_size : before s.ins 1 ≡ size s
  pub first : (e : ℕ) → e < size s → type_at s.ins e ≡ out_type s
  pub last : (e : ℕ) → e < n → type_at s.ins (size s + 1 + e) ≡ out_type s

-- each parameter is 0 or 1
abbrev pub AreFlags : Spec → Type 0
AreFlags s = (k : ℕ) → k < length s.params → (param s k ≡ pos 0) ⊎ (param s k ≡ pos 1)

abbrev pub IsSign : ℤ → Type 0
IsSign z = (z ≡ pos 1) ⊎ (z ≡ negsuc 0)

-- what a kind asks of its ports and parameters
abbrev pub Asks : Kind → Spec → Type 0
Asks Const s = IsAlikeSpec s × (length s.ins ≡ 0) × IsSpread (out_type s) (size s) s.params
Asks Summation s =
    IsAlikeSpec s × (2 ≤ length s.ins) × (length s.ins ≤ PORTS) × (length s.params ≡ length s.ins + 1)
    × ((k : ℕ) → k < length s.ins → IsSign (param s (k + 1)))
Asks GainBlk s = IsAlikeSpec s × (length s.ins ≡ 1) × (length s.params ≡ 2) × InRange (out_type s) (param s 1)
Asks Product s = IsAlikeSpec s × (length s.ins ≡ 2) × (length s.params ≡ 2)
Asks AbsValue s = IsAlikeSpec s × (length s.ins ≡ 1) × (length s.params ≡ 1)
Asks Signum s = IsAlikeSpec s × (length s.ins ≡ 1)
Asks MaxMin s = IsAlikeSpec s × (2 ≤ length s.ins) × (length s.ins ≤ PORTS) × (length s.params ≡ 1)
Asks Saturation s =
    IsAlikeSpec s × (length s.ins ≡ 1) × (length s.params ≡ 2) × InRange (out_type s) (param s 0) × InRange (out_type s) (param s 1)
Asks DeadBand s =
    IsAlikeSpec s × (length s.ins ≡ 1) × (length s.params ≡ 3) × InRange (out_type s) (param s 1) × InRange (out_type s) (param s 2)
Asks Convert s = IsSizedSpec s × (length s.ins ≡ 1) × (length s.params ≡ 1)
Asks Mux s = IsJoined s × (length s.outs ≡ 1)
Asks Demux s = IsJoined s × (length s.ins ≡ 1)
Asks Extractor s =
    IsOneOut s × (length s.ins ≡ 1) × IsAlike s.ins (out_type s) (elements (port_at s.ins 0)) × (size s ≡ length s.params)
    × ((k : ℕ) → k < length s.params → (pos 1 ≤ℤ param s k) × (unsigned_abs (param s k) ≤ elements (port_at s.ins 0)))
Asks LogicalOp s = IsAlikeSpec s × (1 ≤ length s.ins) × (length s.ins ≤ PORTS) × (length s.params ≡ 2)
Asks RelationalOp s = IsSizedSpec s × (length s.ins ≡ 2) × (length s.params ≡ 1)
Asks Shift s = IsAlikeSpec s × (length s.ins ≡ 1) × (length s.params ≡ 2) × (unsigned_abs (param s 0) < width (out_type s))
Asks BitSet s = IsAlikeSpec s × (length s.ins ≡ 1) × (length s.params ≡ 1) × (unsigned_abs (param s 0) < width (out_type s))
Asks BitClear s = IsAlikeSpec s × (length s.ins ≡ 1) × (length s.params ≡ 1) × (unsigned_abs (param s 0) < width (out_type s))
Asks ExtractBits s =
    IsAlikeSpec s × (length s.ins ≡ 1) × (length s.params ≡ 2) × (unsigned_abs (param s 0) ≤ unsigned_abs (param s 1))
    × (unsigned_abs (param s 1) < width (out_type s))
Asks Switch2 s = IsSwitched s (size s) × (length s.params ≡ 2)
Asks Select s = IsAlikeSpec s × (length s.ins ≡ s.evtin) × (2 ≤ s.evtin) × (s.evtin ≤ 8)
Asks Logic s =
    (1 ≤ length s.ins) × (length s.ins ≤ 8) × (total s.ins ≡ length s.ins) × (total s.outs ≡ length s.outs)
    × (length s.params ≡ 2 ^ length s.ins * length s.outs) × AreFlags s
Asks AndLog s = IsOneOut s × (out_type s ≡ I32) × (s.evtin ≡ 2)
Asks Dollar s = IsAlikeSpec s × (length s.ins ≡ 1) × IsSpread (out_type s) (size s) s.state
Asks SampHold s = IsAlikeSpec s × (length s.ins ≡ 1)
Asks Register s =
    IsAlikeSpec s × (length s.ins ≡ 1) × (size s ≡ 1) × (1 ≤ length s.state)
    × ((k : ℕ) → k < length s.state → InRange (out_type s) (at s.state k))
Asks ModuloCount s =
    IsOneOut s × (size s ≡ 1) × (pos 1 ≤ℤ param s 0) × (param s 0 ≤ℤ pos 2147483647) × ((param s 0 -ℤ pos 1) ≤ℤ high (out_type s))
    × (length s.params ≡ 1) × (length s.state ≡ 1) × (pos 0 ≤ℤ at s.state 0) × (at s.state 0 <ℤ param s 0)
Asks GatedDelay s = IsSwitched s 0 × (length s.ins ≡ 2) × IsSpread (out_type s) (size s) s.state
Asks Sensor s = IsOneOut s × (size s ≡ 1) × (length s.ins ≡ 0)
Asks EvtDly s =
    (length s.outs ≡ 0) × (length s.ins ≡ 0) × (negsuc 0 ≤ℤ param s 0) × (param s 0 ≤ℤ DELAY) × (length s.params ≡ 1)
Asks EvtVarDly s = (length s.outs ≡ 0) × (total s.ins ≡ 1)
Asks IfThEl s = (length s.outs ≡ 0) × (total s.ins ≡ 1) × (s.evtout ≡ 2)
Asks ESelect s = (length s.outs ≡ 0) × (total s.ins ≡ 1) × (2 ≤ s.evtout) × (s.evtout ≤ PORTS)
Asks Halt s = (length s.outs ≡ 0) × (length s.ins ≡ 0)

-- the state is a list of numbers in range
pub record IsState (s : Spec) (x : List ℤ) : Type 0 where
  pub enough : length x ≡ state_len_of s.kind s
  pub in_range : (i : ℕ) → i < state_len_of s.kind s → InRange (out_type s) (at x i)

-- the mask has bits for activation inputs alone, and where the kind needs one, a bit
pub record IsMask (s : Spec) (m : ℕ) : Type 0 where
  pub few : m < 2 ^ s.evtin
  pub some : (form s.kind).mask ≡ Needed → m ≢ 0

-- the ports whose values go in: the inputs, and to a SENSOR the next value of its column, as its output has it
abbrev pub entering_by : Role → Spec → List Port
entering_by Senses s = s.outs
entering_by Values s = s.ins
entering_by (State m) s = s.ins
entering_by Delay s = s.ins
entering_by Branch s = s.ins
entering_by Halts s = s.ins

abbrev pub entering_of : Kind → Spec → List Port
entering_of c s = entering_by (role_of c) s

abbrev pub entering : Spec → List Port
entering s = entering_of s.kind s

-- u and v are the same at each element of each input with feedthrough, inputs counted from 0
abbrev pub SameFed : Spec → List ℤ → List ℤ → Type 0
SameFed s u v =
    (k e : ℕ) → k < length s.ins → truth_at s.feed k ≡ true → before s.ins k ≤ e → e < before s.ins (k + 1) → at u e ≡ at v e

-- the values on the inputs, one after the other: of input k, counted from 1, as many as its port has elements, 0 for those that xs k hasn't
abbrev pub laid : List Port → (ℕ → List ℤ) → List ℤ
laid [] xs = []
laid (p ∷ ps) xs = listed (at (xs 1)) (elements p) ++ laid ps (λ k. xs (suc k))

-- u and v are the same but for the values of input k, counted from 0
abbrev pub SameBut : Spec → ℕ → List ℤ → List ℤ → Type 0
SameBut s k u v = (e : ℕ) → ((e < before s.ins k) ⊎ (before s.ins (k + 1) ≤ e)) → at u e ≡ at v e
