-- Of each command: whatever passes, its files are read, and it is done.
use Rattle.std.proofs.Common.{◌≡◌, ◌≤◌, ℕ, List, [], ◌∷◌, ◌++◌, ◌⊎◌, inl, inr, refl, sym, ◌∙◌, ap, subst, Bool, true, false, pos, arith}
use Rattle.sci_io.specs.Files.{Files}
use Rattle.sci_trace.specs.Lines.{stops}
use Rattle.c_run.specs.declared.start.CEnd.{CEnd}
use Rattle.c_run.specs.declared.start.CEnd.TheVariants.{End, Stop, Undefined}
use Rattle.c_mean.specs.Meaning.{meaning}
use Rattle.c_run.specs.Answering.{end_of}
use Rattle.sci_words.specs.Words.{Request, simulate, judge, save, resume, code, run_c, bulk, dump, files_of}
use Rattle.sci_answers.specs.Answer.{Answer, IsDone, prints}
use Rattle.sci_answers.specs.RunC.{c_status}
use Rattle.sci_answers.specs.Simulate.{run_status}
use Rattle.sci_net.specs.Parts.{Parts}
use Rattle.sci_reaction.specs.Memory.{Columns}
use Rattle.sci_agree.specs.declared.verdict.Verdict.{Verdict}
use Rattle.sci_agree.specs.declared.verdict.Verdict.TheVariants.{Yes, No}
use Rattle.sci_answers.specs.Judge.{verdict_status}
use Rattle.sci_answers.specs.Save.{IsSaveOf, saves, ended}
use Rattle.sci_answers.specs.Course.{Course, gives, makes, reads, DueOn, AsksFront}
use Rattle.sci_answers.specs.Due.{course_of}

pub status-is : {a b : Answer} → a ≡ b → a.status ≡ b.status
status-is h = ap (λ (c : Answer). c.status) h

pub out-is : {a b : Answer} → a ≡ b → a.out ≡ b.out
out-is h = ap (λ (c : Answer). c.out) h

pub done_by : {s t : ℕ} → s ≡ t → IsDone t → IsDone s
done_by is h = subst IsDone (sym is) h

-- 1 to 5 are of no command that was done
pub undone : (s : ℕ) → 1 ≤ s → s ≤ 5 → IsDone s → ⊥
undone s least most (inl h) = omega (arith, h, least)
undone s least most (inr (inl h)) = omega (arith, h, most)
undone s least most (inr (inr (inl h))) = omega (arith, h, most)
undone s least most (inr (inr (inr h))) = omega (arith, h, most)

done_run : (b : Bool) → IsDone (run_status b)
done_run false = inl refl
done_run true = inr (inl refl)

done_c : (e : CEnd) → IsDone (c_status e)
done_c End = inl refl
done_c Stop = inr (inl refl)
done_c (Undefined n) = inr (inr (inl refl))

done_verdict : (v : Verdict) → IsDone (verdict_status v)
done_verdict (Yes lines) = inl refl
done_verdict (No line) = inr (inr (inr refl))

-- behind the last file: the command is done, or refused with nothing on out
abbrev pub Closes : Answer → Type 0
Closes a = (a.status ≡ 0) ⊎ ((a.status ≡ 6) ⊎ ((a.status ≡ 7) ⊎ ((a.status ≡ 8) ⊎ ((a.status ≡ 1) × (a.out ≡ [])))))

closes : (a : Answer) → IsDone a.status → Closes a
closes a (inl h) = inl h
closes a (inr (inl h)) = inr (inl h)
closes a (inr (inr (inl h))) = inr (inr (inl h))
closes a (inr (inr (inr h))) = inr (inr (inr (inl h)))

closes_save : (n : Parts) (i : Columns) (until limit k : ℕ) (a : Answer) → IsSaveOf n i until limit k a → Closes a
closes_save n i until limit k a (saves m h told) = inl (status-is told)
closes_save n i until limit k a (ended count h told) = inr (inr (inr (inr (status-is told, out-is told))))

closes_printed : (t : List ℕ) (a : Answer) → a ≡ prints t → Closes a
closes_printed t a is = inl (status-is is)

-- whatever passes, these files are read, and the command is done, or refused behind them
abbrev pub Ends : Course → List (List ℕ) → Type 0
Ends (gives due) files = (files ≡ []) × ((a : Answer) → due a → Closes a)
Ends (makes due) files = (files ≡ []) × ((a : Answer) → due a → IsDone a.status)
Ends (reads A slot d accepts breaks next) [] = ⊥
Ends (reads A slot d accepts breaks next) (f ∷ files) = (f ≡ d) × ((made : A) → Ends (next made) files)

-- where no run, verdict or program has a status of its own, the answer is a text that is printed
pub ends_of : (c : Request) → Ends (course_of c) (files_of c)
ends_of (simulate d i until limit) = (refl, λ p. (refl, λ columns. (refl, λ a is. closes a (done_by (status-is is.2) (done_run (stops is.0))))))
ends_of (judge d i v until limit) = (refl, λ p. (refl, λ columns. (refl, λ file. (refl, λ a is. closes a (done_by (status-is is.4) (done_verdict is.2))))))
ends_of (save d i until limit k) = (refl, λ p. (refl, λ columns. (refl, λ a is. closes_save p.net columns until limit k a is)))
ends_of (resume d i s until limit) = (refl, λ p. (refl, λ columns. (refl, λ m. (refl, λ a is. closes a (done_by (status-is is.2) (done_run (stops is.0)))))))
ends_of (code d) = (refl, λ p. (refl, λ a is. inl (status-is is.told)))
ends_of (run_c c i until limit) = (refl, λ program. (refl, λ columns. (refl, λ a is. closes a (done_by (status-is is) (done_c (end_of (meaning program columns (pos until) (pos limit)).how))))))
ends_of (bulk seed size) = (refl, λ a is. inl (status-is is.2))
ends_of (dump d i until limit) = (refl, λ p. (refl, λ columns. (refl, λ a is. closes a (done_by (status-is is.4) (done_run (stops is.2))))))
ends_of c = search closes_printed

-- An answer that is due tells that all files were read and the command is done, or refuses, with nothing on out.
pub data EndKind (files names : List (List ℕ)) (a : Answer) : Type 0 where
  printed : IsDone a.status → names ≡ files → EndKind files names a
  turned_down : a.status ≡ 1 → a.out ≡ [] → EndKind files names a

kind_behind : (d f : List ℕ) (files rest names : List (List ℕ)) (a : Answer) → f ≡ d → names ≡ d ∷ rest → EndKind files rest a → EndKind (f ∷ files) names a
kind_behind d f files rest names a same is (printed done all) = printed done (cc (same, is, all))
kind_behind d f files rest names a same is (turned_down status none) = turned_down status none

kind_closed : (files names : List (List ℕ)) (a : Answer) → names ≡ files → Closes a → EndKind files names a
kind_closed files names a all (inl h) = printed (inl h) all
kind_closed files names a all (inr (inl h)) = printed (inr (inl h)) all
kind_closed files names a all (inr (inr (inl h))) = printed (inr (inr (inl h))) all
kind_closed files names a all (inr (inr (inr (inl h)))) = printed (inr (inr (inr h))) all
kind_closed files names a all (inr (inr (inr (inr h)))) = turned_down h.0 h.1

pub kind_of : (told : Files) (course : Course) (bytes files names : List (List ℕ)) (a : Answer) → Ends course files → DueOn told course bytes names a → EndKind files names a
kind_of told (gives due) bytes files names a ends h = kind_closed files names a (h.1 ∙ sym ends.0) (ends.1 a h.0)
kind_of told (makes due) bytes files names a ends h = printed (ends.1 a h.0) (h.1 ∙ sym ends.0)
kind_of told (reads A slot d accepts breaks next) [] files names a ends h = absurd h
kind_of told (reads A slot d accepts breaks next) (b ∷ bytes) [] names a ends h = absurd ends
kind_of told (reads A slot d accepts breaks next) (b ∷ bytes) (f ∷ files) names a ends (holds, inl h) = turned_down (status-is h.2) (out-is h.2)
kind_of told (reads A slot d accepts breaks next) (b ∷ bytes) (f ∷ files) names a ends (holds, inr h) =
    kind_behind d f files h.2 names a ends.0 h.3 (kind_of told (next h.0) bytes files h.2 a (ends.1 h.0) h.4)

-- the names that are read for what is due are asked for in order
pub front_of : (told : Files) (course : Course) (bytes names : List (List ℕ)) (a : Answer) → DueOn told course bytes names a → AsksFront told course bytes names
front_of told (gives due) bytes names a h = subst (λ (l : List (List ℕ)). AsksFront told (gives due) bytes l) (sym h.1) tt
front_of told (makes due) bytes names a h = subst (λ (l : List (List ℕ)). AsksFront told (makes due) bytes l) (sym h.1) tt
front_of told (reads A slot d accepts breaks next) [] names a h = absurd h
front_of told (reads A slot d accepts breaks next) (b ∷ bytes) names a (holds, inl h) =
    subst (λ (l : List (List ℕ)). AsksFront told (reads A slot d accepts breaks next) (b ∷ bytes) l) (sym h.3) (refl, inl refl)
front_of told (reads A slot d accepts breaks next) (b ∷ bytes) names a (holds, inr h) =
    let front = front_of told (next h.0) bytes h.2 a h.4 in
    subst (λ (l : List (List ℕ)). AsksFront told (reads A slot d accepts breaks next) (b ∷ bytes) l) (sym h.3) (refl, inr (holds, h.0, h.1, front))

first_alone : (d n f : List ℕ) (names files : List (List ℕ)) → f ≡ d → n ≡ d → names ≡ [] → (rest : List (List ℕ)) × (f ∷ files ≡ (n ∷ names) ++ rest)
first_alone d n f names files is same none = (files, cc (is, same, none))

-- names that are asked for in order are a front of the files
pub front_files : (told : Files) (course : Course) (bytes files names : List (List ℕ)) → Ends course files → AsksFront told course bytes names → (rest : List (List ℕ)) × (files ≡ names ++ rest)
front_files told course bytes files [] ends h = (files, refl)
front_files told (gives due) bytes files (n ∷ names) ends h = absurd h
front_files told (makes due) bytes files (n ∷ names) ends h = absurd h
front_files told (reads A slot d accepts breaks next) bytes [] (n ∷ names) ends h = absurd ends
front_files told (reads A slot d accepts breaks next) [] (f ∷ files) (n ∷ names) ends h = first_alone d n f names files ends.0 h.0 h.1
front_files told (reads A slot d accepts breaks next) (b ∷ bytes) (f ∷ files) (n ∷ names) ends (same, inl none) = first_alone d n f names files ends.0 same none
front_files told (reads A slot d accepts breaks next) (b ∷ bytes) (f ∷ files) (n ∷ names) ends (same, inr h) =
    let more = front_files told (next h.1) bytes files names (ends.1 h.1) h.3 in
    (more.0, cc (ends.0, same, more.1))
