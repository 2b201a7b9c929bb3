-- A text to which a sink compares what it is given.
use Rattle.std.specs.Prelude.{◌≡◌, ◌≢◌, ℕ, ◌≤◌, ◌⊎◌, Bool, List, ◌++◌, take, length, Option, Some, None, slice_get, option_to_list}
use Rattle.sci_io.specs.Taken.{SinkState, direct}
use Rattle.sci_agree.specs.Lines.{lines_of}

-- the text, how many of its bytes were given, how many lines these are, the first byte that was given and isn't the text's there, how often a call
-- failed, and whether the last one did
pub record Compared : Type 0 where
  pub text : List ℕ
  pub at : ℕ
  pub lines : ℕ
  pub wrong : Option ℕ
  pub faults : ℕ
  pub failing : Bool

-- it fails from the first wrong byte on, which it takes
pub record IsCompared (c : Compared) : Type 0 where
  pub within : c.at ≤ length c.text
  pub lines_are : c.lines ≡ lines_of (take c.at c.text)
  pub wrong_is : (byte : ℕ) → c.wrong ≡ Some byte → slice_get c.text c.at ≢ Some byte
  pub failed : (byte : ℕ) → c.wrong ≡ Some byte → 1 ≤ c.faults
  pub sound : c.wrong ≡ None → c.faults ≡ 0

-- what it took
abbrev pub taken_by : Compared → List ℕ
taken_by c = take c.at c.text ++ option_to_list c.wrong

abbrev pub state_of : Compared → SinkState
state_of c = direct (Some (taken_by c)) c.faults c.failing

-- All of a text was given to it and taken; or a call failed, and it took a front of the text.
abbrev pub WasGiven : List ℕ → Compared → Type 0
WasGiven due c = ((taken_by c ≡ due) × (c.faults ≡ 0)) ⊎ ((rest : List ℕ) × (due ≡ taken_by c ++ rest) × (1 ≤ c.faults))
