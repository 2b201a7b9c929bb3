-- What a course comes to, file by file.
use Rattle.std.proofs.Common.{◌≡◌, ℕ, List, [], ◌∷◌, ◌++◌, ◌⊎◌, inl, inr, refl, sym, ◌∙◌, ap, subst, append_assoc}
use Rattle.std.proofs.lemmas.List.{append-nil}
use Rattle.std.specs.Prelude.{Ok, Err}
use Rattle.sci_base.specs.Plain.{Violation, violation_of}
use Rattle.sci_io.specs.Causes.{Rose}
use Rattle.sci_io.specs.Files.{Files, FolderState}
use Rattle.sci_answers.specs.Answer.{Answer, no_memory}
use Rattle.sci_answers.specs.Course.{Slot, Holds, Passes, Course, gives, makes, reads, TakesMemory, DueOn, AsksFront}
use Rattle.sci_files.specs.Look.{Asks, IsLooked, stop_answer}
use Rattle.sci_answers.specs.Reached.{ReachesOf}
use Rattle.sci_answers.specs.Coming.{ComesBy, ComesTo, ReachesTo}
use Rattle.sci_files.specs.declared.look.LookStop.{LookStop}
use Rattle.sci_files.specs.declared.look.LookStop.TheVariants.{Refused, Fault, Memory}

-- ---- no file is left

pub due_by : (s : FolderState) (due : Answer → Type 0) (a : Answer) → due a → ComesBy s s (gives due) [] a
due_by s due a h = inl ([], (h, refl), sym (append-nil s.asked), refl)

pub due_now : (s : FolderState) (due : Answer → Type 0) (a : Answer) → due a → ComesTo s s (gives due) a
due_now s due a h = ([], due_by s due a h)

pub lacks_now : (s : FolderState) (course : Course) → ComesTo s s course no_memory
lacks_now s course = ([], inr (inr (refl, [], tt, sym (append-nil s.asked), refl)))

-- this answer is due, or memory lacks
pub due_or_lacks : (s : FolderState) (a b : Answer) → (a ≡ b) ⊎ (a ≡ no_memory) → ComesTo s s (gives (λ x. x ≡ b)) a
due_or_lacks s a b (inl h) = due_now s (λ x. x ≡ b) a h
due_or_lacks s a b (inr h) = subst (λ (x : Answer). ComesTo s s (gives (λ y. y ≡ b)) x) (sym h) (lacks_now s (gives (λ y. y ≡ b)))

-- ---- a file is read

asked_behind : (old mid new : FolderState) (d : List ℕ) (names : List (List ℕ)) → mid.asked ≡ old.asked ++ d ∷ [] → new.asked ≡ mid.asked ++ names → new.asked ≡ old.asked ++ d ∷ names
asked_behind old mid new d names is h = h ∙ (ap (λ (l : List (List ℕ)). l ++ names) is ∙ append_assoc old.asked (d ∷ []) names)

module _ (A : Type 0) (slot : Slot) (d : List ℕ) (accepts : List ℕ → A → Type 0) (breaks : List ℕ → Violation → Type 0) (next : A → Course) where
  -- it gives nothing
  pub stops : {B : Type 0} (judged : List ℕ → B → Type 0) (old new : FolderState) (e : LookStop) → IsLooked judged breaks slot old new d (Err e) → ComesTo old new (reads A slot d accepts breaks next) (stop_answer e)
  stops judged old new (Refused r) h = (h.0.0 ∷ [], inl (d ∷ [], (h.0.1, inl (violation_of r, h.0.2, refl, refl)), h.1.0, h.1.1))
  stops judged old new Fault h = ([], inr (inl (h.1, d, [], (refl, refl), h.0, refl)))
  stops judged old new Memory (inl h, same) = ([], inr (inr (same, [], tt, h ∙ sym (append-nil old.asked), refl)))
  stops judged old new Memory (inr h, same) = ([], inr (inr (same, d ∷ [], (refl, refl), h, refl)))

  -- it passes, and the course goes on
  pub passes_by : (old mid new : FolderState) (bytes : List (List ℕ)) (a : Answer) (b : List ℕ) (m : A) → Holds old.files d b → Passes accepts slot b m → Asks old mid d → mid.files ≡ old.files → ComesBy mid new (next m) bytes a
      → ComesBy old new (reads A slot d accepts breaks next) (b ∷ bytes) a
  passes_by old mid new bytes a b m holds pass asks same (inl h) =
      let due = subst (λ (f : Files). DueOn f (next m) bytes h.0 a) same h.1 in
      inl (d ∷ h.0, (holds, inr (m, pass, h.0, refl, due)), asked_behind old mid new d h.0 asks.0 h.2, h.3 ∙ asks.1)
  passes_by old mid new bytes a b m holds pass asks same (inr (inl h)) =
      let rose = subst (λ (n : ℕ). Rose n new.faults) asks.1 h.0 in
      let front = subst (λ (f : Files). AsksFront f (next m) bytes (h.1 ∷ h.2)) same h.3 in
      inr (inl (rose, d, h.1 ∷ h.2, (refl, inr (holds, m, pass, front)), asked_behind old mid new d (h.1 ∷ h.2) asks.0 h.4, h.5))
  passes_by old mid new bytes a b m holds pass asks same (inr (inr h)) =
      let front = subst (λ (f : Files). AsksFront f (next m) bytes h.1) same h.2 in
      inr (inr (h.0 ∙ asks.1, d ∷ h.1, (refl, inr (holds, m, pass, front)), asked_behind old mid new d h.1 asks.0 h.3, h.4))

  -- the same of what the rules made of it
  pub goes_on : {B : Type 0} (judged : List ℕ → B → Type 0) (made : B) (old mid new : FolderState) (a : Answer) → IsLooked judged breaks slot old mid d (Ok made) → mid.files ≡ old.files
      → ((b : List ℕ) → judged b made → (m : A) × accepts b m × ComesTo mid new (next m) a) → ComesTo old new (reads A slot d accepts breaks next) a
  goes_on judged made old mid new a h same then =
      let t = then h.0.0 h.0.2.1 in
      (h.0.0 ∷ t.2.0, passes_by old mid new t.2.0 a h.0.0 t.0 h.0.1 (h.0.2.0, t.1) h.1 same t.2.1)

-- ---- of a whole command

pub reaches_by : (old new : FolderState) (course : Course) (bytes : List (List ℕ)) (a : Answer) → TakesMemory course → ComesBy old new course bytes a → ReachesOf old new course bytes a
reaches_by old new course bytes a reading (inl h) = inl h
reaches_by old new course bytes a reading (inr (inl h)) = inr (inl h)
reaches_by old new course bytes a reading (inr (inr h)) = inr (inr (reading, h))

-- one that reads files
pub of_files : (old new : FolderState) (A : Type 0) (slot : Slot) (d : List ℕ) (accepts : List ℕ → A → Type 0) (breaks : List ℕ → Violation → Type 0) (next : A → Course) (a : Answer)
    → ComesTo old new (reads A slot d accepts breaks next) a → ReachesTo old new (reads A slot d accepts breaks next) a
of_files old new A slot d accepts breaks next a h = (h.0, reaches_by old new (reads A slot d accepts breaks next) h.0 a tt h.1)

-- one that makes its answer in memory
pub of_made : (s : FolderState) (due : Answer → Type 0) (a : Answer) → due a → ReachesTo s s (makes due) a
of_made s due a h = ([], inl ([], (h, refl), sym (append-nil s.asked), refl))

pub lacks_made : (s : FolderState) (due : Answer → Type 0) → ReachesTo s s (makes due) no_memory
lacks_made s due = ([], inr (inr (tt, (refl, [], tt, sym (append-nil s.asked), refl))))

-- one that reads none
pub of_none : (s : FolderState) (due : Answer → Type 0) (a : Answer) → due a → ReachesTo s s (gives due) a
of_none s due a h = ([], inl ([], (h, refl), sym (append-nil s.asked), refl))
