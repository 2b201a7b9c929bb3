-- Words that spell a command spell no other; and what its answers say.
use Rattle.std.proofs.Common.{◌≡◌, ◌≤◌, ◌^◌, ℕ, List, codes, decimal, get_or, inl, inr, refl, sym, ap, subst, arith}
use Rattle.std.proofs.lemmas.Fmt.{decimal_injective}
use Rattle.sci_base.specs.Plain.{Violation}
use Rattle.sci_io.specs.Files.{Files}
use Rattle.sci_words.specs.declared.command.Report.{Report}
use Rattle.sci_words.specs.declared.command.Report.TheVariants.{Check, Map, Schedule}
use Rattle.sci_answers.specs.Answer.{Answer, refused}
use Rattle.sci_answers.specs.Course.{DueOn}
use Rattle.sci_words.specs.Words.{Request, report, simulate, judge, code, run_c, report_word, spelled, InBounds}
use Rattle.sci_answers.specs.Due.{course_of, Due}

pub status-is : {a b : Answer} → a ≡ b → a.status ≡ b.status
status-is h = ap (λ (c : Answer). c.status) h

-- what was done was not refused
pub not_refused : (a : Answer) (v : Violation) → a.status ≡ 0 → a ≡ refused v → ⊥
not_refused a v done e = omega (arith, done, status-is e)

-- ---- one command

same_numbers : (t t' n n' : ℕ) → t ≤ 2 ^ 62 → t' ≤ 2 ^ 62 → n ≤ 1000000 → n' ≤ 1000000 → decimal t ≡ decimal t' → decimal n ≡ decimal n' → (t ≡ t') × (n ≡ n')
same_numbers t t' n n' late later most more dates counts =
    (decimal_injective t t' (omega (arith, late)) (omega (arith, later)) dates, decimal_injective n n' (omega (arith, most)) (omega (arith, more)) counts)

report_not_code : (r : Report) → report_word r ≡ codes "ccode" → ⊥
report_not_code Check h =
    let second : 104 ≡ 99 = ap (λ (l : List ℕ). get_or l 1 0) h in
    absurd (omega (arith, second))
report_not_code Map h = absurd (cc h)
report_not_code Schedule h = absurd (cc h)

-- no other has its words
abbrev pub IsAlone : Request → Type 0
IsAlone c = (q : Request) → InBounds q → spelled q ≡ spelled c → q ≡ c

pub simulate_alone : (d i : List ℕ) (t n : ℕ) → t ≤ 2 ^ 62 → n ≤ 1000000 → IsAlone (simulate d i t n)
simulate_alone d i t n late most (simulate d' i' t' n') p h =
    let numbers = same_numbers t' t n' n p.0 late p.1 most (cc h) (cc h) in
    cc (h, numbers.0, numbers.1)
simulate_alone d i t n late most q p h = absurd (cc h)

pub judge_alone : (d i v : List ℕ) (t n : ℕ) → t ≤ 2 ^ 62 → n ≤ 1000000 → IsAlone (judge d i v t n)
judge_alone d i v t n late most (judge d' i' v' t' n') p h =
    let numbers = same_numbers t' t n' n p.0 late p.1 most (cc h) (cc h) in
    cc (h, numbers.0, numbers.1)
judge_alone d i v t n late most q p h = absurd (cc h)

pub run_alone : (d i : List ℕ) (t n : ℕ) → t ≤ 2 ^ 62 → n ≤ 1000000 → IsAlone (run_c d i t n)
run_alone d i t n late most (run_c d' i' t' n') p h =
    let numbers = same_numbers t' t n' n p.0 late p.1 most (cc h) (cc h) in
    cc (h, numbers.0, numbers.1)
run_alone d i t n late most q p h = absurd (cc h)

pub code_alone : (d : List ℕ) → IsAlone (code d)
code_alone d (code d') p h = cc h
code_alone d (report r d') p h =
    let word : report_word r ≡ codes "ccode" = cc h in
    absurd (report_not_code r word)
code_alone d q p h = absurd (cc h)

pub due_course : (files : Files) (c : Request) (bytes names : List (List ℕ)) (a : Answer) → InBounds c → IsAlone c → Due files (spelled c) bytes names a
    → DueOn files (course_of c) bytes names a
due_course files c bytes names a bounds alone (inl h) = absurd (h.0 c (refl, bounds))
due_course files c bytes names a bounds alone (inr h) =
    let same : h.0 ≡ c = alone h.0 h.1.1 (sym h.1.0) in
    subst (λ (q : Request). DueOn files (course_of q) bytes names a) same h.2
