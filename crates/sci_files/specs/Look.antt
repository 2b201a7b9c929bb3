-- What looking at one file comes to.
use Rattle.std.specs.Prelude.{ℕ, ◌≡◌, ◌≤◌, ◌<◌, ◌⊎◌, ◌++◌, List, [], ◌∷◌, Result, Ok, Err, length, Vec}
use Rattle.std.specs.declared.alloc.Global.{Global}
use Rattle.sci_base.specs.Plain.{Violation, violation_of}
use Rattle.sci_io.specs.Causes.{Rose}
use Rattle.sci_io.specs.Files.{FolderState}
use Rattle.sci_answers.specs.Course.{Holds, Slot, too_long, Passes, Fails}
use Rattle.sci_files.specs.declared.look.FileStop.{FileStop}
use Rattle.sci_files.specs.declared.look.FileStop.TheVariants.{TooLong, Failed, Memory as NoBytes}
use Rattle.sci_files.specs.declared.look.LookStop.{LookStop}
use Rattle.sci_files.specs.declared.look.LookStop.TheVariants.{Refused, Fault, Memory}
use Rattle.sci_answers.specs.Answer.{Answer, refused, read_fault, no_memory}
use Rattle.sci_files.specs.declared.look.LookStop.TheVariants as stops

-- this name was asked for, and nothing failed
abbrev pub Asks : FolderState → FolderState → List ℕ → Type 0
Asks old new name = (new.asked ≡ old.asked ++ name ∷ []) × (new.faults ≡ old.faults)

-- this name was asked for, and the read failed
abbrev pub AsksInVain : FolderState → FolderState → List ℕ → Type 0
AsksInVain old new name = (new.asked ≡ old.asked ++ name ∷ []) × Rose old.faults new.faults

-- this name was asked for or not, and nothing failed
abbrev pub MayAsk : FolderState → FolderState → List ℕ → Type 0
MayAsk old new name = ((new.asked ≡ old.asked) ⊎ (new.asked ≡ old.asked ++ name ∷ [])) × (new.faults ≡ old.faults)

-- a file that has at most so many bytes
abbrev pub IsFile : ℕ → FolderState → FolderState → List ℕ → Result (Vec ℕ Global) FileStop → Type 0
IsFile most old new name (Ok bytes) = Holds old.files name bytes.items × (length bytes.items ≤ most) × Asks old new name
IsFile most old new name (Err TooLong) = ((bytes : List ℕ) × Holds old.files name bytes × (most < length bytes)) × Asks old new name
IsFile most old new name (Err Failed) = AsksInVain old new name
IsFile most old new name (Err NoBytes) = MayAsk old new name

-- what the rules of a file accept, and how they are broken, make of one
abbrev pub IsLooked : {A : Type 0} → (List ℕ → A → Type 0) → (List ℕ → Violation → Type 0)
    → Slot → FolderState → FolderState → List ℕ → Result A LookStop → Type 0
IsLooked accepts breaks slot old new name (Ok made) = ((bytes : List ℕ) × Holds old.files name bytes × Passes accepts slot bytes made) × Asks old new name
IsLooked accepts breaks slot old new name (Err (Refused r)) =
    ((bytes : List ℕ) × Holds old.files name bytes × Fails breaks slot bytes (violation_of r)) × Asks old new name
IsLooked accepts breaks slot old new name (Err Fault) = AsksInVain old new name
IsLooked accepts breaks slot old new name (Err Memory) = MayAsk old new name

-- this refusal, memory aside
abbrev pub IsRefusal : Violation → LookStop → Type 0
IsRefusal v (Refused r) = violation_of r ≡ v
IsRefusal v Fault = ⊥
IsRefusal v Memory = Unit {0}

-- that of a file that is too long
abbrev pub IsTooLong : Slot → LookStop → Type 0
IsTooLong slot e = IsRefusal (too_long slot) e

-- a file that gives nothing
abbrev pub stop_answer : LookStop → Answer
stop_answer (stops.Refused r) = refused (violation_of r)
stop_answer stops.Fault = read_fault
stop_answer stops.Memory = no_memory
