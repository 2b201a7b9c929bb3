-- One answer is due of the words and the told files.
use Rattle.std.proofs.Common.{◌≡◌, ◌≤◌, ◌^◌, ℕ, List, [], ◌∷◌, ◌⊎◌, inl, inr, refl, sym, ◌∙◌, ap, subst, arith, Some, length}
use Rattle.sci_base.specs.Plain.{Violation}
use Rattle.sci_io.specs.Files.{Files}
use Rattle.sci_verdict.specs.Laws.{AreAlike, IsOneVerdict}
use Rattle.sci_verdict.proofs.Verdicts.{one_verdict, one_tree_verdict, given_is_net, tree_given_is_net}
use Rattle.sci_verdict.specs.Verdict.{Plan, Accepts}
use Rattle.sci_reaction.specs.Memory.{Columns}
use Rattle.sci_run.specs.Run.{IsRun}
use Rattle.sci_run.proofs.Unique.{one_trace, one_rest}
use Rattle.sci_trace.specs.Columns.{Needed}
use Rattle.sci_needs.specs.Needs.{needs_of}
use Rattle.sci_answers.specs.Inputs.{AcceptsColumns, BreaksColumns}
use Rattle.sci_answers.specs.RunC.{AcceptsC, BreaksC, not_c}
use Rattle.c_read.proofs.Uniqueness.{one_spelled, one_blamed, not_both}
use Rattle.sci_bulk.specs.Bulk.{bulk as bulk_tree}
use Rattle.sci_answers.specs.Bulk.{run_line, IsBulkLine, IsBulkAnswer}
use Rattle.sci_answers.specs.Code.{IsCodeOf}
use Rattle.sci_answers.specs.Dump.{dumped, IsDumpAnswer}
use Rattle.sci_answers.specs.DumpAt.{AcceptsDump, BreaksDump, not_vcd}
use Rattle.sci_vcd.specs.Waveforms.{Waveforms}
use Rattle.sci_wave.proofs.OneDump.{one_run_dump}
use Rattle.sci_vcd.proofs.Blaming as dumps
use Rattle.sci_words.specs.Words.{Request, simulate, judge, save, resume, code, bulk, dump, spelled}
use Rattle.sci_base.specs.declared.observation.Obs.{Obs}
use Rattle.sci_trace.specs.Lines.{text}
use Rattle.sci_agree.specs.Verdict.{IsVerdict}
use Rattle.sci_agree.proofs.Verdicts.{one_verdict as one_text_verdict}
use Rattle.sci_save.specs.Bounds.{AreShort}
use Rattle.sci_save.specs.Saved.{Saved}
use Rattle.sci_save.specs.Text.{saved_text}
use Rattle.sci_save.specs.Resumed.{state_of}
use Rattle.sci_save.proofs.Blaming.{one_spelled as one_saved_of_text, one_blamed as one_blamed_line}
use Rattle.sci_resume.proofs.Behind.{one_saved, one_end, not_both as saved_or_ended}
use Rattle.sci_answers.specs.Judge.{IsText, BreaksNothing, judged, IsJudgementOf}
use Rattle.sci_answers.specs.Save.{IsSaveOf, saves, ended, run_ended}
use Rattle.sci_answers.specs.Resume.{not_save, AcceptsSaved, BreaksSaved, IsRestOf}
use Rattle.sci_command_laws.proofs.ShortColumns.{columns_short}
use Rattle.sci_answers.specs.Answer.{Answer, prints, refused}
use Rattle.sci_answers.specs.Simulate.{ran, IsTraceOf}
use Rattle.sci_answers.specs.Course.{Holds, Slot, Passes, Fails, Course, gives, makes, reads, DueOn}
use Rattle.sci_answers.specs.Due.{Due, course_of}
use Rattle.sci_command_laws.specs.OneAnswer.{TellLoops, AreOneAnswer, OneAnswer, OneAnswerOfBytes}
use Rattle.sci_words.proofs.Spoken.{same_command}

pub one_columns : (needs : List Needed) → IsOneVerdict (AcceptsColumns needs) (BreaksColumns needs)
one_columns needs = record {
  one_made = λ bytes m n h k. cc (h, k);
  one_break = λ bytes v w h k. inl (cc (h, k));
  not_both = λ bytes m v h k. absurd (cc (h, k));
}

-- any text passes
one_text : IsOneVerdict IsText BreaksNothing
one_text = record {
  one_made = λ bytes m n h k. h ∙ sym k;
  one_break = λ bytes v w h k. absurd h;
  not_both = λ bytes m v h k. k;
}

-- a text saves one thing, or one line of it is blamed
one_saved_file : (bytes : List ℕ) (p : Plan) (i : Columns) → Accepts bytes p → AreShort i → IsOneVerdict (AcceptsSaved p.net i) (BreaksSaved p.net i)
one_saved_file bytes p i accepted short = record {
  one_made = λ file m o h k. one_saved_of_text p.net i (given_is_net bytes p.net accepted.given) short file m o h k;
  one_break = λ file v w h k. inl (h.told ∙ (ap not_save (one_blamed_line p.net i file h.line k.line h.blamed k.blamed) ∙ sym k.told));
  not_both = λ file m v h k. k.blamed.none m h;
}

one_program : IsOneVerdict AcceptsC BreaksC
one_program = record {
  one_made = λ bytes p q a b. one_spelled bytes p q a.0 b.0;
  one_break = λ bytes v w h k. inl (h.told ∙ (ap not_c (one_blamed bytes h.byte k.byte h.blamed k.blamed) ∙ sym k.told));
  not_both = λ bytes p v h k. not_both bytes p k.byte h k.blamed;
}

one_dump : IsOneVerdict AcceptsDump BreaksDump
one_dump = record {
  one_made = λ bytes v w a b. dumps.one_dump v w a.0 b.0 (sym a.1 ∙ b.1);
  one_break = λ bytes v w h k. inl (h.told ∙ (ap not_vcd (dumps.one_first_wrong bytes h.line k.line h.blamed k.blamed) ∙ sym k.told));
  not_both = λ bytes w v h k. dumps.not_both bytes w k.line h k.blamed;
}

pub one_fail : {A : Type 0} (breaks : List ℕ → Violation → Type 0) (accepts : List ℕ → A → Type 0) (slot : Slot) → IsOneVerdict accepts breaks → (x y : List ℕ) (v w : Violation) → x ≡ y → Fails breaks slot x v → Fails breaks slot y w → AreAlike v w
one_fail breaks accepts slot one x y v w e (inl h) (inl k) = inl (h.1 ∙ sym k.1)
one_fail breaks accepts slot one x y v w e (inl h) (inr k) = absurd (omega (arith, ap length e, h.0, k.0))
one_fail breaks accepts slot one x y v w e (inr h) (inl k) = absurd (omega (arith, ap length e, h.0, k.0))
one_fail breaks accepts slot one x y v w e (inr h) (inr k) = one.one_break y v w (subst (λ (l : List ℕ). breaks l v) e h.1) k.1

pub no_both : {A : Type 0} (breaks : List ℕ → Violation → Type 0) (accepts : List ℕ → A → Type 0) (slot : Slot) → IsOneVerdict accepts breaks → (x y : List ℕ) (m : A) (v : Violation) → x ≡ y → Fails breaks slot x v → length y ≤ slot.longest → accepts y m → ⊥
no_both breaks accepts slot one x y m v e (inl h) short k = omega (arith, ap length e, h.0, short)
no_both breaks accepts slot one x y m v e (inr h) short k = one.not_both y m v k (subst (λ (l : List ℕ). breaks l v) e h.1)

-- what two answers are that are due of a command behind its files: one; of `ccode` both are the text of such a program for one plan
abbrev AreSame : Request → Answer → Answer → Type 0
AreSame (code d) a b = (p : Plan) × IsCodeOf p a × IsCodeOf p b
AreSame _ a b = a ≡ b

-- one answer, or two refusals that tell a loop of one source, or two answers behind the files
abbrev AreAlikeBut : (Answer → Answer → Type 0) → Answer → Answer → Type 0
AreAlikeBut same a b = (a ≡ b) ⊎ (TellLoops a b ⊎ same a b)

refused_alike : (same : Answer → Answer → Type 0) (a b : Answer) (v w : Violation) → a ≡ refused v → b ≡ refused w → AreAlike v w → AreAlikeBut same a b
refused_alike same a b v w h k (inl e) = inl (h ∙ (ap refused e ∙ sym k))
refused_alike same a b v w h k (inr loops) = inr (inl (record { one = v; other = w; loops = loops; tells_one = h; tells_other = k }))

same_of : (words : List (List ℕ)) (c : Request) (a b : Answer) → words ≡ spelled c → AreSame c a b → AreOneAnswer words a b
same_of words (code d) a b is h = inr (inr (record { diagram = d; asked = is; plan = h.0; tells_one = h.1; tells_other = h.2 }))
same_of words _ a b is h = inl h

alike_of : (words : List (List ℕ)) (c : Request) (a b : Answer) → words ≡ spelled c → AreAlikeBut (AreSame c) a b → AreOneAnswer words a b
alike_of words c a b is (inl h) = inl h
alike_of words c a b is (inr (inl h)) = inr (inl h)
alike_of words c a b is (inr (inr h)) = same_of words c a b is h

-- a net of an accepted diagram has one trace
one_trace_answer : (bytes : List ℕ) (p : Plan) (i : Columns) (until limit : ℕ) (a b : Answer) → Accepts bytes p → IsTraceOf p.net i until limit a → IsTraceOf p.net i until limit b → a ≡ b
one_trace_answer bytes p i until limit a b accepted h k =
    let same : h.0 ≡ k.0 = one_trace p.net i (given_is_net bytes p.net accepted.given) accepted.planned.free until limit h.0 k.0 h.1 k.1 in
    h.2 ∙ (ap ran same ∙ sym k.2)

-- one verdict on a file
one_judgement : (bytes : List ℕ) (p : Plan) (i : Columns) (until limit : ℕ) (file : List ℕ) (a b : Answer) → Accepts bytes p → IsJudgementOf p.net i until limit file a → IsJudgementOf p.net i until limit file b → a ≡ b
one_judgement bytes p i until limit file a b accepted h k =
    let same : h.0 ≡ k.0 = one_trace p.net i (given_is_net bytes p.net accepted.given) accepted.planned.free until limit h.0 k.0 h.1 k.1 in
    let verdict : h.2 ≡ k.2 = one_text_verdict (text k.0) file h.2 k.2 (subst (λ (os : List Obs). IsVerdict (text os) file h.2) same h.3) k.3 in
    h.4 ∙ (ap judged verdict ∙ sym k.4)

-- one thing is saved behind a reaction, or the run is over
one_save : (bytes : List ℕ) (p : Plan) (i : Columns) (until limit k : ℕ) (a b : Answer) → Accepts bytes p → IsSaveOf p.net i until limit k a → IsSaveOf p.net i until limit k b → a ≡ b
one_save bytes p i until limit k a b accepted (saves m h told) (saves o g tells) =
    told ∙ (ap (λ (x : Saved). prints (saved_text p.net x)) (one_saved p.net i until limit k m o (given_is_net bytes p.net accepted.given) accepted.planned.free h g) ∙ sym tells)
one_save bytes p i until limit k a b accepted (ended j h told) (ended l g tells) =
    told ∙ (ap (λ (x : ℕ). refused (run_ended k x)) (one_end p.net i until limit k j l (given_is_net bytes p.net accepted.given) accepted.planned.free h g) ∙ sym tells)
one_save bytes p i until limit k a b accepted (saves m h told) (ended l g tells) =
    absurd (saved_or_ended p.net i until limit k l m (given_is_net bytes p.net accepted.given) accepted.planned.free h g)
one_save bytes p i until limit k a b accepted (ended j h told) (saves o g tells) =
    absurd (saved_or_ended p.net i until limit k j o (given_is_net bytes p.net accepted.given) accepted.planned.free g h)

-- and one rest of a run from there
one_rest_answer : (bytes : List ℕ) (p : Plan) (i : Columns) (until limit : ℕ) (m : Saved) (a b : Answer) → Accepts bytes p → IsRestOf p.net i until limit m a → IsRestOf p.net i until limit m b → a ≡ b
one_rest_answer bytes p i until limit m a b accepted h k =
    let same : h.0 ≡ k.0 = one_rest p.net i (given_is_net bytes p.net accepted.given) accepted.planned.free until limit (state_of m) h.0 k.0 h.1 k.1 in
    h.2 ∙ (ap ran same ∙ sym k.2)

-- and one dump
one_dump_answer : (bytes : List ℕ) (p : Plan) (i : Columns) (until limit : ℕ) (a b : Answer) → Accepts bytes p → IsDumpAnswer p.net i until limit a → IsDumpAnswer p.net i until limit b → a ≡ b
one_dump_answer bytes p i until limit a b accepted h k =
    let net = given_is_net bytes p.net accepted.given in
    let dump : h.0 ≡ k.0 = one_run_dump p.net i until limit h.0 k.0 net accepted.planned.free h.1 k.1 in
    let trace : h.2 ≡ k.2 = one_trace p.net i net accepted.planned.free until limit h.2 k.2 h.3 k.3 in
    h.4 ∙ (ap (λ (w : Waveforms). dumped w h.2) dump ∙ (ap (dumped k.0) trace ∙ sym k.4))

-- a bulk diagram has one line
one_line : (seed size : ℕ) (s t : List ℕ) → IsBulkLine seed size s → IsBulkLine seed size t → s ≡ t
one_line seed size s t h k =
    let plan : h.plan ≡ k.plan = one_tree_verdict.one_made (bulk_tree seed size) h.plan k.plan h.accepted k.accepted in
    let net = tree_given_is_net (bulk_tree seed size) k.plan.net k.accepted.given in
    let run = subst (λ (p : Plan). IsRun p.net [] (2 ^ 62) 1000 h.observed) plan h.run in
    let same : h.observed ≡ k.observed = one_trace k.plan.net [] net k.accepted.planned.free (2 ^ 62) 1000 h.observed k.observed run k.run in
    h.told ∙ (ap (λ (p : Plan). run_line p h.observed) plan ∙ (ap (run_line k.plan) same ∙ sym k.told))

one_bulk : (seed size : ℕ) (a b : Answer) → IsBulkAnswer seed size a → IsBulkAnswer seed size b → a ≡ b
one_bulk seed size a b h k = h.2 ∙ (ap prints (one_line seed size h.0 k.0 h.1 k.1) ∙ sym k.2)

-- ---- one answer of a course

-- bytes of files that are alike wherever both are a file's
abbrev AreOne : Files → List (List ℕ) → List (List ℕ) → Type 0
AreOne files [] ys = Unit {0}
AreOne files (x ∷ xs) [] = Unit {0}
AreOne files (x ∷ xs) (y ∷ ys) = ((d : List ℕ) → Holds files d x → Holds files d y → x ≡ y) × AreOne files xs ys

told_are_one : (all : List (List ℕ × List ℕ)) (xs ys : List (List ℕ)) → AreOne (Some all) xs ys
told_are_one all [] ys = tt
told_are_one all (x ∷ xs) [] = tt
told_are_one all (x ∷ xs) (y ∷ ys) = ((λ d h k. cc (h, k)), told_are_one all xs ys)

same_are_one : (files : Files) (xs : List (List ℕ)) → AreOne files xs xs
same_are_one files [] = tt
same_are_one files (x ∷ xs) = ((λ d h k. refl), same_are_one files xs)

-- two answers that are due of it are so, whatever passes
abbrev IsOneCourse : (Answer → Answer → Type 0) → Course → Type 0
IsOneCourse same (gives due) = (a b : Answer) → due a → due b → same a b
IsOneCourse same (makes due) = (a b : Answer) → due a → due b → same a b
IsOneCourse same (reads A slot d accepts breaks next) =
    IsOneVerdict accepts breaks × ((bytes : List ℕ) (made : A) → Passes accepts slot bytes made → IsOneCourse same (next made))

one_of : (a b c : Answer) → a ≡ c → b ≡ c → a ≡ b
one_of a b c h k = h ∙ sym k

-- of a command that is none of the first ones the answer is known behind its files
one_course_of : (c : Request) → IsOneCourse (AreSame c) (course_of c)
one_course_of (simulate d i t n) =
    (one_verdict, λ bytes p accepted. (one_columns (needs_of p.net), λ file columns read a b h k. one_trace_answer bytes p columns t n a b accepted.1 h k))
one_course_of (judge d i v t n) =
    (one_verdict, λ bytes p accepted. (one_columns (needs_of p.net), λ file columns read. (one_text, λ judged_file text is a b h k. one_judgement bytes p columns t n text a b accepted.1 h k)))
one_course_of (save d i t n k) =
    (one_verdict, λ bytes p accepted. (one_columns (needs_of p.net), λ file columns read a b h g. one_save bytes p columns t n k a b accepted.1 h g))
one_course_of (resume d i s t n) = (
  one_verdict,
  λ bytes p accepted. (
    one_columns (needs_of p.net),
    λ file columns read.
        (one_saved_file bytes p columns accepted.1 (columns_short (needs_of p.net) file columns read.0 read.1), λ saved_file m is a b h k. one_rest_answer bytes p columns t n m a b accepted.1 h k),
  ),
)
one_course_of (code d) = (one_verdict, λ bytes p accepted a b h k. (p, h, k))
one_course_of (bulk seed size) = one_bulk seed size
one_course_of (dump d i t n) =
    (one_verdict, λ bytes p accepted. (one_columns (needs_of p.net), λ file columns read a b h k. one_dump_answer bytes p columns t n a b accepted.1 h k))
one_course_of c = search (one_of, one_verdict, one_columns, one_program, one_dump)

-- and their names are one list
abbrev Same : (Answer → Answer → Type 0) → Answer → Answer → List (List ℕ) → List (List ℕ) → Type 0
Same same a b names others = AreAlikeBut same a b × (names ≡ others)

one_due_on : (same : Answer → Answer → Type 0) (files : Files) (course : Course) (xs ys names others : List (List ℕ)) (a b : Answer) → IsOneCourse same course → AreOne files xs ys
    → DueOn files course xs names a → DueOn files course ys others b → Same same a b names others
one_due_on same files (gives due) xs ys names others a b one alike h k = (inr (inr (one a b h.0 k.0)), h.1 ∙ sym k.1)
one_due_on same files (makes due) xs ys names others a b one alike h k = (inr (inr (one a b h.0 k.0)), h.1 ∙ sym k.1)
one_due_on same files (reads A slot d accepts breaks next) [] ys names others a b one alike h k = absurd h
one_due_on same files (reads A slot d accepts breaks next) (x ∷ xs) [] names others a b one alike h k = absurd k
one_due_on same files (reads A slot d accepts breaks next) (x ∷ xs) (y ∷ ys) names others a b one alike (p, inl h) (q, inl k) =
    (refused_alike same a b h.0 k.0 h.2 k.2 (one_fail breaks accepts slot one.0 x y h.0 k.0 (alike.0 d p q) h.1 k.1), h.3 ∙ sym k.3)
one_due_on same files (reads A slot d accepts breaks next) (x ∷ xs) (y ∷ ys) names others a b one alike (p, inl h) (q, inr k) =
    absurd (no_both breaks accepts slot one.0 x y k.0 h.0 (alike.0 d p q) h.1 k.1.0 k.1.1)
one_due_on same files (reads A slot d accepts breaks next) (x ∷ xs) (y ∷ ys) names others a b one alike (p, inr h) (q, inl k) =
    absurd (no_both breaks accepts slot one.0 y x h.0 k.0 (sym (alike.0 d p q)) k.1 h.1.0 h.1.1)
one_due_on same files (reads A slot d accepts breaks next) (x ∷ xs) (y ∷ ys) names others a b one alike (p, inr h) (q, inr k) =
    let bytes : x ≡ y = alike.0 d p q in
    let made : h.0 ≡ k.0 = one.0.one_made y h.0 k.0 (subst (λ (l : List ℕ). accepts l h.0) bytes h.1.1) k.1.1 in
    let due = subst (λ (m : A). DueOn files (next m) xs h.2 a) made h.4 in
    let rest = one_due_on same files (next k.0) xs ys h.2 k.2 a b (one.1 y k.0 k.1) alike.1 due k.4 in
    (rest.0, h.3 ∙ (ap (λ (l : List (List ℕ)). d ∷ l) rest.1 ∙ sym k.3))

one_due : (files : Files) (words xs ys names others : List (List ℕ)) (a b : Answer) → AreOne files xs ys → Due files words xs names a → Due files words ys others b
    → AreOneAnswer words a b × (names ≡ others)
one_due files words xs ys names others a b alike (inl h) (inl k) = (inl (h.1 ∙ sym k.1), h.2 ∙ sym k.2)
one_due files words xs ys names others a b alike (inl h) (inr k) = absurd (h.0 k.0 k.1)
one_due files words xs ys names others a b alike (inr h) (inl k) = absurd (k.0 h.0 h.1)
one_due files words xs ys names others a b alike (inr h) (inr k) =
    let command : h.0 ≡ k.0 = same_command h.0 k.0 h.1.1 k.1.1 (sym h.1.0 ∙ k.1.0) in
    let due = subst (λ (c : Request). DueOn files (course_of c) xs names a) command h.2 in
    let one = one_due_on (AreSame k.0) files (course_of k.0) xs ys names others a b (one_course_of k.0) alike due k.2 in
    (alike_of words k.0 a b k.1.0 one.0, one.1)

pub one_answer : OneAnswer
one_answer all words xs ys names others a b h k = one_due (Some all) words xs ys names others a b (told_are_one all xs ys) h k

pub one_answer_of_bytes : OneAnswerOfBytes
one_answer_of_bytes files words bytes names others a b h k = one_due files words bytes bytes names others a b (same_are_one files bytes) h k
