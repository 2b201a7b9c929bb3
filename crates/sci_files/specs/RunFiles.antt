-- A diagram and its input file, which are looked at one after the other.
use Rattle.std.specs.Prelude.{ℕ, ℤ, ◌≡◌, ◌⊎◌, List, Result, Ok, Err}
use Rattle.sci_io.specs.Files.{FolderState}
use Rattle.sci_net.specs.Parts.{Parts}
use Rattle.sci_needs.specs.Needs.{needs_of}
use Rattle.sci_verdict.specs.Verdict.{Breaks}
use Rattle.sci_verdict.specs.declared.checked.Checked.{Checked}
use Rattle.sci_answers.specs.Course.{diagram_slot, inputs_slot}
use Rattle.sci_answers.specs.Inputs.{AcceptsColumns, BreaksColumns}
use Rattle.sci_files.specs.Judged.{AcceptsChecked}
use Rattle.sci_files.specs.Look.{IsLooked}
use Rattle.sci_files.specs.declared.look.LookStop.{LookStop}
use Rattle.sci_files.specs.declared.run_files.RunFiles.{RunFiles}

-- what the diagram's file comes to
abbrev pub LooksAtDiagram : FolderState → FolderState → List ℕ → Result Checked LookStop → Type 0
LooksAtDiagram old new d r = IsLooked AcceptsChecked Breaks diagram_slot old new d r

-- and the input file, behind a diagram with this net
abbrev pub LooksAtInputs : Parts → FolderState → FolderState → List ℕ → Result (List (List ℤ)) LookStop → Type 0
LooksAtInputs n old new i r = IsLooked (AcceptsColumns (needs_of n)) (BreaksColumns (needs_of n)) inputs_slot old new i r

-- the diagram passes
pub record PassesDiagram (old mid : FolderState) (d : List ℕ) (c : Checked) : Type 0 where
  pub looked : LooksAtDiagram old mid d (Ok c)
  pub kept : mid.files ≡ old.files

-- and so does its input file
pub record PassRun (old new : FolderState) (d i : List ℕ) (f : RunFiles) : Type 0 where
  pub mid : FolderState
  pub first : PassesDiagram old mid d f.checked
  pub looked : LooksAtInputs f.checked.net mid new i (Ok f.inputs)
  pub kept : new.files ≡ mid.files

-- the diagram passes, and its input file gives nothing
pub record StopsAtInputs (old new : FolderState) (d i : List ℕ) (e : LookStop) : Type 0 where
  pub mid : FolderState
  pub checked : Checked
  pub first : PassesDiagram old mid d checked
  pub looked : LooksAtInputs checked.net mid new i (Err e)

abbrev pub LooksAtRun : FolderState → FolderState → (d i : List ℕ) → Result RunFiles LookStop → Type 0
LooksAtRun old new d i (Ok f) = PassRun old new d i f
LooksAtRun old new d i (Err e) = LooksAtDiagram old new d (Err e) ⊎ StopsAtInputs old new d i e
