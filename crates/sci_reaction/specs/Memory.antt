-- What a net remembers from one reaction to the next, and the input file.
use Rattle.std.specs.Prelude.{ℕ, ℤ, List, [], slice_get, Contains, Option}
use Rattle.sci_base.specs.Fit.{InRange}
use Rattle.sci_forms.specs.declared.spec.Spec.{Spec}
use Rattle.sci_forms.specs.Ports.{Fills}
use Rattle.sci_forms.specs.Words.{out_type}
use Rattle.sci_kinds.specs.Table.{first_state, first_held}
use Rattle.sci_kinds.specs.Asks.{IsState}
use Rattle.sci_net.specs.Parts.{Parts, IsBlock, IsSensor, numbered, spec_of, column_of}

-- of each block: its state, the values that its outputs hold, and of a sensor how many values of its column it has taken
pub record Memory : Type 0 where
  pub state : ℕ → List ℤ
  pub held : ℕ → List ℤ
  pub cursor : ℕ → ℕ

-- the memory that a run begins with
abbrev pub first_memory : Parts → Memory
first_memory n = record { state = λ b. first_state (spec_of n b); held = λ b. first_held (spec_of n b); cursor = λ b. 0 }

-- states and held values are in range
pub record IsMemory (n : Parts) (m : Memory) : Type 0 where
  pub states : (b : ℕ) → IsBlock n b → IsState (spec_of n b) (m.state b)
  pub held : (b : ℕ) → IsBlock n b → Fills (spec_of n b).outs (m.held b)

-- the columns of the input file, counted from 1
abbrev pub Columns : Type 0
Columns = List (List ℤ)

-- the value that a sensor takes next, where its column has one
abbrev pub next_value : Columns → Spec → ℕ → Option ℤ
next_value i s cursor = slice_get (numbered [] i (column_of s)) cursor

-- the values of each sensor's column are in range of its output
abbrev pub AreColumns : Parts → Columns → Type 0
AreColumns n i =
    (b : ℕ) → IsSensor n b → (v : ℤ) → Contains (numbered [] i (column_of (spec_of n b))) v → InRange (out_type (spec_of n b)) v
