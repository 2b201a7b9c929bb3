-- The laws of the pass over a row, and of a block's state.
use Rattle.std.specs.Prelude.{◌≡◌, ℕ, ◌↔◌, true, false, ℤ, negsuc, List, [], ◌∷◌, ◌++◌, Contains}
use Rattle.sci_forms.specs.declared.spec.Spec.{Spec}
use Rattle.sci_forms.specs.Form.{has_state, has_delay}
use Rattle.sci_kinds.specs.Table.{next, delay, state_len}
use Rattle.sci_kinds.specs.Asks.{IsState}
use Rattle.sci_net.specs.declared.Source.{Source}
use Rattle.sci_net.specs.Parts.{Parts, spec_of}
use Rattle.sci_net.specs.Net.{IsNet}
use Rattle.sci_reaction.specs.Active.{IsSync}
use Rattle.sci_reaction.specs.Depends.{IsLoopFree}
use Rattle.sci_reaction.specs.Memory.{Memory, Columns}
use Rattle.sci_reaction.specs.Equations.{Signals, input_in, branch_on, Active, IsMaskOf}
use Rattle.sci_reaction.specs.Schedule.{Entry, blocks_of, IsRow}
use Rattle.sci_reaction.specs.Pass.{Progress, put, with_values, IsFront}
use Rattle.sci_pass.specs.State.{IsSameButState, AreAlike}
use Rattle.sci_pass.specs.Noted.{IsNoted}

-- ---- what is done stays done

-- c is the block of an entry e of a row, or stands before it
pub record IsDoneBy (n : Parts) (s : Source) (row pre post : List Entry) (e : Entry) (c : ℕ) : Type 0 where
  pub net : IsNet n
  pub free : IsLoopFree n s
  pub row_is : IsRow n s row
  pub split : row ≡ pre ++ e ∷ post
  pub among : Contains (blocks_of pre ++ e.block ∷ []) c

-- with other values of e's block it takes the same branch
abbrev pub BranchStays : Type 0
BranchStays =
    (n : Parts) (s : Source) (row pre post : List Entry) (e : Entry) (y : Signals) (vs : List ℤ) (c : ℕ) → IsDoneBy n s row pre post e c →
    branch_on (spec_of n c) (input_in n (put y e.block vs) c) ≡ branch_on (spec_of n c) (input_in n y c)

-- it has the same mask
abbrev pub MaskStays : Type 0
MaskStays =
    (n : Parts) (s : Source) (row pre post : List Entry) (e : Entry) (y : Signals) (vs : List ℤ) (c mask : ℕ) → IsDoneBy n s row pre post e c →
    IsMaskOf n s y c mask → IsMaskOf n s (put y e.block vs) c mask

-- and it is active just as before
abbrev pub ActivityStays : Type 0
ActivityStays =
    (n : Parts) (s : Source) (row pre post : List Entry) (e : Entry) (y : Signals) (vs : List ℤ) (c : ℕ) → IsDoneBy n s row pre post e c →
    Active n s y c ↔ Active n s (put y e.block vs) c

-- in the midst of a pass a block whose entry applied is done
abbrev pub AppliedIsDone : Type 0
AppliedIsDone =
    (n : Parts) (m : Memory) (i : Columns) (s : Source) (done : List ℕ) (w : Progress) (c : ℕ) →
    IsFront n m i s done w → w.applied c ≡ true → Contains done c

-- and behind the last entry the blocks whose entries applied are those that are active
abbrev pub AppliedAreActive : Type 0
AppliedAreActive =
    (n : Parts) (m : Memory) (i : Columns) (s : Source) (row : List Entry) (w : Progress) (b : ℕ) → IsRow n s row → IsFront n m i s (blocks_of row) w →
    (w.applied b ≡ true) ↔ Active n s w.values b

-- where branches and masks are noted, it is enough to note those of an entry that applies when its block has its values
abbrev pub NotesGoOn : Type 0
NotesGoOn =
    (n : Parts) (m : Memory) (i : Columns) (s : Source) (row pre post : List Entry) (e : Entry) (w : Progress) (vs : List ℤ) (branch mask : ℕ → ℕ)
    (taken here : ℕ) → IsNet n → IsLoopFree n s → IsRow n s row → row ≡ pre ++ e ∷ post → IsFront n m i s (blocks_of pre) w → IsNoted n s w branch mask →
    (IsSync n e.block → branch_on (spec_of n e.block) (input_in n w.values e.block) ≡ taken) → IsMaskOf n s w.values e.block here →
    IsNoted n s (with_values w e.block vs) (put branch e.block taken) (put mask e.block here)

-- on the same values a block has one mask
abbrev pub OneMask : Type 0
OneMask = (n : Parts) (s : Source) (y : Signals) (b one other : ℕ) → IsMaskOf n s y b one → IsMaskOf n s y b other → one ≡ other

-- ---- kinds with a state, kinds with delays

-- an activation output of a kind without delays programs nothing
abbrev pub NoDelay : Type 0
NoDelay = (s : Spec) (p : ℕ) (u : List ℤ) → has_delay s.kind ≡ false → delay s p u ≡ negsuc 0

-- the state of a kind without a state is empty
abbrev pub NoState : Type 0
NoState = (s : Spec) → has_state s.kind ≡ false → state_len s ≡ 0

-- and stays as it is
abbrev pub StateStays : Type 0
StateStays = (s : Spec) (x : List ℤ) (mask : ℕ) (u : List ℤ) → has_state s.kind ≡ false → IsState s x → next s x mask u ≡ x

-- the state that a block begins with changes nothing of what it means
abbrev pub SameButState : Type 0
SameButState = (s t : Spec) → IsSameButState s t → AreAlike s t
