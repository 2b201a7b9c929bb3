-- The statuses of what is due of each command.
use Rattle.std.proofs.Common.{◌≡◌, ◌⊎◌, ℕ, List, [], ◌∷◌, inl, inr, refl, sym, ◌∙◌, ap, Bool, true, false, pos, arith, nat_eq}
use Rattle.std.specs.List.{list_any}
use Rattle.std.proofs.lemmas.Bool.{or_parts, eq-eqb, true≢false}
use Rattle.sci_io.specs.Files.{Files}
use Rattle.sci_net.specs.Parts.{Parts}
use Rattle.sci_reaction.specs.Memory.{Columns}
use Rattle.sci_trace.specs.Lines.{stops}
use Rattle.c_run.specs.declared.start.CEnd.{CEnd}
use Rattle.c_run.specs.declared.start.CEnd.TheVariants.{End, Stop, Undefined}
use Rattle.c_mean.specs.Meaning.{Ran, meaning}
use Rattle.c_run.specs.Answering.{end_of}
use Rattle.sci_agree.specs.declared.verdict.Verdict.{Verdict}
use Rattle.sci_agree.specs.declared.verdict.Verdict.TheVariants.{Yes, No}
use Rattle.sci_words.specs.Words.{Request, simulate, judge, save, resume, code, run_c, host, bulk, dump, Spells}
use Rattle.sci_answers.specs.Answer.{Answer, prints}
use Rattle.sci_answers.specs.RunC.{c_status, c_err, c_ran, undefined_line}
use Rattle.sci_answers.specs.Simulate.{run_status}
use Rattle.sci_answers.specs.Judge.{judged}
use Rattle.sci_answers.specs.Save.{IsSaveOf, saves, ended}
use Rattle.sci_answers.specs.Course.{Course, gives, makes, reads, DueOn}
use Rattle.sci_answers.specs.Due.{course_of}
use Rattle.sci_command_laws.specs.Statuses.{statuses_of, IsOneOf, EachHasItsStatuses, JudgesNo, EightIsOfJudge, RunsUndefined, SevenIsOfCrun, MayStop, SixIsOfRuns}
use Rattle.sci_command_laws.proofs.Commands.{status-is}

-- ---- numbers of a list

-- a number that a list lacks is none of it
lacks : (xs : List ℕ) (s t : ℕ) → IsOneOf xs s → s ≡ t → list_any (nat_eq t) xs ≡ false → ⊥
lacks [] s t h e none = h
lacks (x ∷ xs) s t (inl h) e none =
    let first = (or_parts (nat_eq t x) (list_any (nat_eq t) xs) none).0 in
    true≢false (sym (eq-eqb t x (sym e ∙ h)) ∙ first)
lacks (x ∷ xs) s t (inr h) e none = lacks xs s t h e (or_parts (nat_eq t x) (list_any (nat_eq t) xs) none).1

-- ---- what comes behind the files of a course

-- whatever the files pass as, of the answer that is due then this holds
abbrev Closes : (Answer → Type 0) → Course → Type 0
Closes P (gives due) = (a : Answer) → due a → P a
Closes P (makes due) = (a : Answer) → due a → P a
Closes P (reads A slot d accepts breaks next) = (made : A) → Closes P (next made)

-- and before it may be refused
closed : (P : Answer → Type 0) (files : Files) (course : Course) (bytes names : List (List ℕ)) (a : Answer) → Closes P course → DueOn files course bytes names a → (a.status ≡ 1) ⊎ P a
closed P files (gives due) bytes names a closes h = inr (closes a h.0)
closed P files (makes due) bytes names a closes h = inr (closes a h.0)
closed P files (reads A slot d accepts breaks next) [] names a closes h = absurd h
closed P files (reads A slot d accepts breaks next) (b ∷ bytes) names a closes (holds, inl h) = inl (status-is h.2)
closed P files (reads A slot d accepts breaks next) (b ∷ bytes) names a closes (holds, inr h) = closed P files (next h.0) bytes h.2 a (closes h.0) h.4

-- ---- of each command

abbrev IsPrinted : Answer → Type 0
IsPrinted a = a.status ≡ 0

abbrev IsOfRun : Answer → Type 0
IsOfRun a = (stopped : Bool) × (a.status ≡ run_status stopped)

abbrev IsOfVerdict : Answer → Type 0
IsOfVerdict a = (v : Verdict) × (a ≡ judged v)

abbrev IsOfProgram : Answer → Type 0
IsOfProgram a = (r : Ran) × (a ≡ c_ran r)

abbrev IsOfSave : Answer → Type 0
IsOfSave a = (a.status ≡ 0) ⊎ (a.status ≡ 1)

save_closes : (n : Parts) (i : Columns) (until limit k : ℕ) (a : Answer) → IsSaveOf n i until limit k a → IsOfSave a
save_closes n i until limit k a (saves m h told) = inl (status-is told)
save_closes n i until limit k a (ended count h told) = inr (status-is told)

printed_status : (t : List ℕ) (a : Answer) → a ≡ prints t → a.status ≡ 0
printed_status t a is = status-is is

printed : (a : Answer) → (a.status ≡ 1) ⊎ IsPrinted a → IsOneOf (0 ∷ 1 ∷ []) a.status
printed a (inl h) = inr (inl h)
printed a (inr h) = inl h

saved : (a : Answer) → (a.status ≡ 1) ⊎ IsOfSave a → IsOneOf (0 ∷ 1 ∷ []) a.status
saved a (inl h) = inr (inl h)
saved a (inr (inl h)) = inl h
saved a (inr (inr h)) = inr (inl h)

run : (a : Answer) → (a.status ≡ 1) ⊎ IsOfRun a → IsOneOf (0 ∷ 1 ∷ 6 ∷ []) a.status
run a (inl h) = inr (inl h)
run a (inr (false, h)) = inl h
run a (inr (true, h)) = inr (inr (inl h))

judged_so : (a : Answer) → (a.status ≡ 1) ⊎ IsOfVerdict a → IsOneOf (0 ∷ 1 ∷ 8 ∷ []) a.status
judged_so a (inl h) = inr (inl h)
judged_so a (inr (Yes lines, h)) = inl (status-is h)
judged_so a (inr (No line, h)) = inr (inr (inl (status-is h)))

ended_so : (a : Answer) (e : CEnd) → a.status ≡ c_status e → IsOneOf (0 ∷ 1 ∷ 6 ∷ 7 ∷ []) a.status
ended_so a End h = inl h
ended_so a Stop h = inr (inr (inl h))
ended_so a (Undefined n) h = inr (inr (inr (inl h)))

run_of_c : (a : Answer) → (a.status ≡ 1) ⊎ IsOfProgram a → IsOneOf (0 ∷ 1 ∷ 6 ∷ 7 ∷ []) a.status
run_of_c a (inl h) = inr (inl h)
run_of_c a (inr (r, h)) = ended_so a (end_of r.how) (status-is h)

judge_closed : (files : Files) (d i v : List ℕ) (until limit : ℕ) (bytes names : List (List ℕ)) (a : Answer) → DueOn files (course_of (judge d i v until limit)) bytes names a → (a.status ≡ 1) ⊎ IsOfVerdict a
judge_closed files d i v until limit bytes names a h =
    closed IsOfVerdict files (course_of (judge d i v until limit)) bytes names a (λ p columns file b is. (is.2, is.4)) h

program_closed : (files : Files) (c i : List ℕ) (until limit : ℕ) (bytes names : List (List ℕ)) (a : Answer) → DueOn files (course_of (run_c c i until limit)) bytes names a → (a.status ≡ 1) ⊎ IsOfProgram a
program_closed files c i until limit bytes names a h =
    closed IsOfProgram files (course_of (run_c c i until limit)) bytes names a (λ program columns b is. (meaning program columns (pos until) (pos limit), is)) h

-- of a command that is none of the first ones a text is printed
status_of : (files : Files) (c : Request) (bytes names : List (List ℕ)) (a : Answer) → DueOn files (course_of c) bytes names a → IsOneOf (statuses_of c) a.status
status_of files (simulate d i until limit) bytes names a h =
    run a (closed IsOfRun files (course_of (simulate d i until limit)) bytes names a (λ p columns b is. (stops is.0, status-is is.2)) h)
status_of files (judge d i v until limit) bytes names a h = judged_so a (judge_closed files d i v until limit bytes names a h)
status_of files (save d i until limit k) bytes names a h =
    saved a (closed IsOfSave files (course_of (save d i until limit k)) bytes names a (λ p columns b is. save_closes p.net columns until limit k b is) h)
status_of files (resume d i s until limit) bytes names a h =
    run a (closed IsOfRun files (course_of (resume d i s until limit)) bytes names a (λ p columns m b is. (stops is.0, status-is is.2)) h)
status_of files (code d) bytes names a h = printed a (closed IsPrinted files (course_of (code d)) bytes names a (λ p b is. status-is is.told) h)
status_of files (run_c c i until limit) bytes names a h = run_of_c a (program_closed files c i until limit bytes names a h)
status_of files host bytes names a h = inl (status-is h.0)
status_of files (bulk seed size) bytes names a h = inl (status-is h.0.2)
status_of files (dump d i until limit) bytes names a h =
    run a (closed IsOfRun files (course_of (dump d i until limit)) bytes names a (λ p columns b is. (stops is.2, status-is is.4)) h)
status_of files c bytes names a h = printed a (closed IsPrinted files (course_of c) bytes names a (search printed_status) h)

pub each_has_its_statuses : EachHasItsStatuses
each_has_its_statuses files words bytes names a (inl h) = inl (h.0, status-is h.1)
each_has_its_statuses files words bytes names a (inr h) = inr (h.0, h.1, status_of files h.0 bytes names a h.2)

-- ---- 8

no_of : (words : List (List ℕ)) (a : Answer) (d i v : List ℕ) (until limit : ℕ) → Spells words (judge d i v until limit) → a.status ≡ 8 → (a.status ≡ 1) ⊎ IsOfVerdict a → JudgesNo words a
no_of words a d i v until limit spells eight (inl h) = absurd (omega (arith, eight, h))
no_of words a d i v until limit spells eight (inr (Yes lines, h)) = absurd (omega (arith, eight, status-is h))
no_of words a d i v until limit spells eight (inr (No line, h)) =
    record { diagram = d; inputs = i; trace = v; until = until; limit = limit; spelled_so = spells; line = line; told = h }

eight_of : (files : Files) (c : Request) (words bytes names : List (List ℕ)) (a : Answer) → Spells words c → a.status ≡ 8 → IsOneOf (statuses_of c) a.status → DueOn files (course_of c) bytes names a → JudgesNo words a
eight_of files (judge d i v until limit) words bytes names a spells eight is h = no_of words a d i v until limit spells eight (judge_closed files d i v until limit bytes names a h)
eight_of files c words bytes names a spells eight is h = absurd (lacks (statuses_of c) a.status 8 is eight refl)

pub eight_is_of_judge : EightIsOfJudge
eight_is_of_judge files words bytes names a (inl h) eight = absurd (omega (arith, eight, status-is h.1))
eight_is_of_judge files words bytes names a (inr h) eight = eight_of files h.0 words bytes names a h.1 eight (status_of files h.0 bytes names a h.2) h.2

-- ---- 7

undefined_of : (e : CEnd) (s : ℕ) (err : List ℕ) → s ≡ 7 → s ≡ c_status e → err ≡ c_err e → (statement : ℕ) × (err ≡ undefined_line statement)
undefined_of End s err seven status told = absurd (omega (arith, seven, status))
undefined_of Stop s err seven status told = absurd (omega (arith, seven, status))
undefined_of (Undefined n) s err seven status told = (n, told)

seven_by : (words : List (List ℕ)) (a : Answer) (c i : List ℕ) (until limit : ℕ) → Spells words (run_c c i until limit) → a.status ≡ 7 → (a.status ≡ 1) ⊎ IsOfProgram a → RunsUndefined words a
seven_by words a c i until limit spells seven (inl h) = absurd (omega (arith, seven, h))
seven_by words a c i until limit spells seven (inr (r, h)) =
    let u = undefined_of (end_of r.how) a.status a.err seven (status-is h) (ap (λ (b : Answer). b.err) h) in
    record { program = c; inputs = i; until = until; limit = limit; spelled_so = spells; statement = u.0; told = u.1 }

seven_of : (files : Files) (c : Request) (words bytes names : List (List ℕ)) (a : Answer) → Spells words c → a.status ≡ 7 → IsOneOf (statuses_of c) a.status → DueOn files (course_of c) bytes names a → RunsUndefined words a
seven_of files (run_c c i until limit) words bytes names a spells seven is h = seven_by words a c i until limit spells seven (program_closed files c i until limit bytes names a h)
seven_of files c words bytes names a spells seven is h = absurd (lacks (statuses_of c) a.status 7 is seven refl)

pub seven_is_of_crun : SevenIsOfCrun
seven_is_of_crun files words bytes names a (inl h) seven = absurd (omega (arith, seven, status-is h.1))
seven_is_of_crun files words bytes names a (inr h) seven = seven_of files h.0 words bytes names a h.1 seven (status_of files h.0 bytes names a h.2) h.2

-- ---- 6

six_of : (c : Request) (s : ℕ) → s ≡ 6 → IsOneOf (statuses_of c) s → MayStop c
six_of (simulate d i until limit) s six is = tt
six_of (resume d i v until limit) s six is = tt
six_of (run_c c i until limit) s six is = tt
six_of (dump d i until limit) s six is = tt
six_of c s six is = absurd (lacks (statuses_of c) s 6 is six refl)

pub six_is_of_runs : SixIsOfRuns
six_is_of_runs files words bytes names a (inl h) six = absurd (omega (arith, six, status-is h.1))
six_is_of_runs files words bytes names a (inr h) six = (h.0, h.1, six_of h.0 a.status six (status_of files h.0 bytes names a h.2))
