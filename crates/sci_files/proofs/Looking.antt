-- From a look at a file to what a course comes to.
use Rattle.std.proofs.Common.{◌≡◌, ℕ, ℤ, List, subst, Result, Ok, Err}
use Rattle.sci_base.specs.Plain.{Violation}
use Rattle.sci_io.specs.Files.{FolderState}
use Rattle.sci_answers.specs.Answer.{Answer}
use Rattle.sci_trace.specs.Columns.{Needed}
use Rattle.sci_answers.specs.Course.{Slot, inputs_slot, Course, reads}
use Rattle.sci_answers.specs.Inputs.{AcceptsColumns, BreaksColumns}
use Rattle.sci_files.specs.Look.{IsLooked, stop_answer}
use Rattle.sci_answers.specs.Coming.{ComesTo, ReachesTo}
use Rattle.sci_files.specs.declared.look.LookStop.{LookStop}
use Rattle.sci_files.proofs.Courses.{stops, goes_on, of_files}

module _ (A : Type 0) (slot : Slot) (d : List ℕ) (accepts : List ℕ → A → Type 0) (breaks : List ℕ → Violation → Type 0) (next : A → Course) (B : Type 0) (judged : List ℕ → B → Type 0) (old : FolderState) where
  -- the first file gives nothing
  pub first_stops : (new : FolderState) (r : Result B LookStop) (e : LookStop) → r ≡ Err e → IsLooked judged breaks slot old new d r → ReachesTo old new (reads A slot d accepts breaks next) (stop_answer e)
  first_stops new r e is h =
      let looked = subst (λ (q : Result B LookStop). IsLooked judged breaks slot old new d q) is h in
      of_files old new A slot d accepts breaks next (stop_answer e) (stops A slot d accepts breaks next judged old new e looked)

  -- the first file passes
  pub first_passes : (mid new : FolderState) (r : Result B LookStop) (made : B) (a : Answer) → r ≡ Ok made → IsLooked judged breaks slot old mid d r → mid.files ≡ old.files
      → ((b : List ℕ) → judged b made → (m : A) × accepts b m × ComesTo mid new (next m) a) → ComesTo old new (reads A slot d accepts breaks next) a
  first_passes mid new r made a is h same then =
      let looked = subst (λ (q : Result B LookStop). IsLooked judged breaks slot old mid d q) is h in
      goes_on A slot d accepts breaks next judged made old mid new a looked same then

  pub next_stops : (new : FolderState) (r : Result B LookStop) (e : LookStop) → r ≡ Err e → IsLooked judged breaks slot old new d r → ComesTo old new (reads A slot d accepts breaks next) (stop_answer e)
  next_stops new r e is h =
      let looked = subst (λ (q : Result B LookStop). IsLooked judged breaks slot old new d q) is h in
      stops A slot d accepts breaks next judged old new e looked

-- what is needed of an input file, by another name
pub looked_for : (ds es : List Needed) (old new : FolderState) (name : List ℕ) (r : Result (List (List ℤ)) LookStop) → ds ≡ es → IsLooked (AcceptsColumns ds) (BreaksColumns ds) inputs_slot old new name r
    → IsLooked (AcceptsColumns es) (BreaksColumns es) inputs_slot old new name r
looked_for ds es old new name r same h = subst (λ (needs : List Needed). IsLooked (AcceptsColumns needs) (BreaksColumns needs) inputs_slot old new name r) same h
