-- The files of a run: a diagram and its input file.
use Rattle.std.specs.Prelude.{ℕ, ℤ, ◌≡◌, List, Ok, Err}
use Rattle.sci_base.specs.Plain.{Violation}
use Rattle.sci_trace.specs.Columns.{Needed}
use Rattle.sci_trace.specs.Reading.{judge}
use Rattle.sci_needs.specs.Needs.{needs_of}
use Rattle.sci_verdict.specs.Verdict.{Plan, Accepts, Breaks}
use Rattle.sci_answers.specs.Course.{diagram_slot, inputs_slot, Course, reads}

-- the bytes are these columns, with what is needed of them
abbrev pub AcceptsColumns : List Needed → List ℕ → List (List ℤ) → Type 0
AcceptsColumns needs bytes columns = judge bytes needs ≡ Ok columns

-- the first rule that the bytes break
abbrev pub BreaksColumns : List Needed → List ℕ → Violation → Type 0
BreaksColumns needs bytes v = judge bytes needs ≡ Err v

-- an input file with what is needed of it, and what comes behind its columns
abbrev pub behind_inputs : List ℕ → List Needed → (List (List ℤ) → Course) → Course
behind_inputs i needs next = reads (List (List ℤ)) inputs_slot i (AcceptsColumns needs) (BreaksColumns needs) next

-- a diagram and its input file, and what comes behind both
abbrev pub reads_run : (d i : List ℕ) → (Plan → List (List ℤ) → Course) → Course
reads_run d i next = reads Plan diagram_slot d Accepts Breaks (λ p. behind_inputs i (needs_of p.net) (next p))
