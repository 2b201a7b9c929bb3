-- The equations of one reaction.
use Rattle.std.specs.Prelude.{◌≡◌, ℕ, zero, suc, ◌+◌, ◌↔◌, ◌⊎◌, ℤ, List, [], ◌∷◌, take, drop, Contains, Option, Some, None, Result, Ok, Err, if◌then◌else◌}
use Rattle.std.specs.Int.{bit_at}
use Rattle.sci_base.specs.declared.observation.StopWord.{StopWord}
use Rattle.sci_base.specs.declared.observation.StopWord.TheVariants.{Overflow, Zero, Input}
use Rattle.sci_forms.specs.declared.ports.Port.{Port}
use Rattle.sci_forms.specs.declared.spec.Spec.{Spec}
use Rattle.sci_forms.specs.Ports.{port_at, elements, before, Fills}
use Rattle.sci_kinds.specs.Asks.{laid}
use Rattle.sci_kinds.specs.Table.{Answer, Values, NoFit, NoQuotient, out, branch}
use Rattle.sci_net.specs.declared.Source.{Source}
use Rattle.sci_net.specs.Parts.{Parts, IsBlock, IsActivationInput, spec_of, wire_of, feeds_of}
use Rattle.sci_forms.specs.Form.{is_sensor}
use Rattle.sci_reaction.specs.Links.{SourceFeeds}
use Rattle.sci_reaction.specs.Active.{IsSync, Spread}
use Rattle.sci_reaction.specs.Memory.{Memory, Columns, next_value}

-- ---- values

-- the values of all outputs: of each block all elements of all its outputs, in order
abbrev pub Signals : Type 0
Signals = ℕ → List ℤ

-- the values of each block are in range of its outputs
abbrev pub AreInRange : Parts → Signals → Type 0
AreInRange n y = (b : ℕ) → IsBlock n b → Fills (spec_of n b).outs (y b)

-- the elements of output p among those of all outputs of its block
abbrev pub output_among : List Port → List ℤ → ℕ → List ℤ
output_among ports vs zero = []
output_among ports vs (suc k) = take (elements (port_at ports k)) (drop (before ports k) vs)

-- the values on input k of b
abbrev pub input_in : Parts → Signals → ℕ → ℕ → List ℤ
input_in n y b k = output_among (spec_of n (wire_of n b k).block).outs (y (wire_of n b k).block) (wire_of n b k).port

-- ---- what a block does on its inputs

-- the values on all inputs, one after the other
abbrev pub all_inputs : Spec → (ℕ → List ℤ) → List ℤ
all_inputs s inputs = laid s.ins inputs

-- the branch that a synchronous block takes
unfoldable pub branch_on : Spec → (ℕ → List ℤ) → ℕ
branch_on s inputs = branch s (all_inputs s inputs)

-- a block's values, or the word that says why there are none
abbrev pub values_or_word : Answer → Result (List ℤ) StopWord
values_or_word (Values vs) = Ok vs
values_or_word NoFit = Err Overflow
values_or_word NoQuotient = Err Zero

-- a sensor gives the next value of its column
abbrev pub sensed : Spec → List ℤ → ℕ → Option ℤ → Result (List ℤ) StopWord
sensed s x mask None = Err Input
sensed s x mask (Some v) = values_or_word (out s x mask (v ∷ []))

abbrev pub answer_of : Spec → List ℤ → Option ℤ → ℕ → (ℕ → List ℤ) → Result (List ℤ) StopWord
answer_of s x next mask inputs =
    if is_sensor s.kind then sensed s x mask next else values_or_word (out s x mask (all_inputs s inputs))

-- what block b gives where it is active, on its mask and its inputs
unfoldable pub answer : Parts → Memory → Columns → ℕ → ℕ → (ℕ → List ℤ) → Result (List ℤ) StopWord
answer n m i b mask inputs = answer_of (spec_of n b) (m.state b) (next_value i (spec_of n b) (m.cursor b)) mask inputs

-- ---- activation on given values

-- on these values synchronous block c takes its branch p
abbrev pub Takes : Parts → Signals → ℕ → ℕ → Type 0
Takes n y c p = branch_on (spec_of n c) (input_in n y c) ≡ p

-- the blocks that the source activates on these values
abbrev pub Active : Parts → Source → Signals → ℕ → Type 0
Active n s y = Spread n s (Takes n y)

-- the branch that an active synchronous block takes feeds activation input p of b
pub record BranchFeeds (n : Parts) (s : Source) (y : Signals) (b p : ℕ) : Type 0 where
  pub block : ℕ
  pub port : ℕ
  pub active : Active n s y block
  pub sync : IsSync n block
  pub takes : Takes n y block port
  pub fed : Contains (feeds_of n b p) (record { block = block; port = port })

-- activation input p of b is activated, by the source or by a branch
pub record IsActivated (n : Parts) (s : Source) (y : Signals) (b p : ℕ) : Type 0 where
  pub within : IsActivationInput n b p
  pub how : SourceFeeds n s b p ⊎ BranchFeeds n s y b p

-- bit p - 1 is set exactly where activation input p is in the set
abbrev pub HasBits : ℕ → (ℕ → Type 0) → Type 0
HasBits mask set = (p : ℕ) → (bit_at mask p ≡ 1) ↔ set (p + 1)

-- the mask of b has a bit for each activation input that is activated
abbrev pub IsMaskOf : Parts → Source → Signals → ℕ → ℕ → Type 0
IsMaskOf n s y b mask = HasBits mask (IsActivated n s y b)

-- ---- the equations

-- b is active, and this is what it gives
pub record Gives (n : Parts) (m : Memory) (i : Columns) (s : Source) (y : Signals) (b : ℕ) (given : Result (List ℤ) StopWord) : Type 0 where
  pub active : Active n s y b
  pub mask : ℕ
  pub mask_is : IsMaskOf n s y b mask
  pub answer_is : answer n m i b mask (input_in n y b) ≡ given

-- b isn't active, and holds its values
pub record Holds (n : Parts) (m : Memory) (s : Source) (y : Signals) (b : ℕ) : Type 0 where
  pub idle : Active n s y b → ⊥
  pub held : y b ≡ m.held b

-- the equation of block b
abbrev pub Meets : Parts → Memory → Columns → Source → Signals → ℕ → Type 0
Meets n m i s y b = Gives n m i s y b (Ok (y b)) ⊎ Holds n m s y b
