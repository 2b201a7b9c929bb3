-- From the steps of writing to what is left on the two sinks.
use Rattle.std.proofs.Common.{◌≡◌, ◌≢◌, ◌<◌, ℕ, List, [], ◌∷◌, ◌++◌, ◌⊎◌, length, inl, inr, refl, sym, ap, subst, arith, Bool, true, false}
use Rattle.std.proofs.lemmas.List.{append-nil}
use Rattle.std.specs.Prelude.{Result, Ok, Err, OnOk, OnErr}
use Rattle.sci_base.specs.Plain.{Violation}
use Rattle.sci_io.specs.Causes.{counted}
use Rattle.sci_io.specs.Taken.{SinkState, Advances, TakesFront, Writes}
use Rattle.sci_io.proofs.Advance.{then_writes, same_text, all_taken}
use Rattle.sci_net.specs.Parts.{Parts}
use Rattle.sci_print.specs.Line.{refused_line, head_text}
use Rattle.sci_answers.specs.Answer.{says, prints, write_fault_line}
use Rattle.sci_answers.specs.Written.{Took, Cut, Given, CutShort, Written}
use Rattle.sci_ranges_rows.specs.Marks.{Marks}
use Rattle.sci_ranges_pass.specs.Ranges.{Ranges, table_of}
use Rattle.sci_ranges_pass.specs.Pass.{is_possible}
use Rattle.sci_ranges_text.specs.Text.{ranges_text, states_text, stops_text, idle_text, is_open, last_word}
use Rattle.sci_ranges_tell.specs.Told.{told}
use Rattle.sci_range_commands.specs.Deliver.{Gives, Said}

pub some_text : (t : List ℕ) → 0 < length t → t ≢ []
some_text t h = λ e. omega (arith, h, ap length e)

pub some_refusal : (v : Violation) → refused_line v ≢ []
unfolding refused_line head_text
some_refusal v = λ e. absurd (cc e)

-- a text was written, and then the sink was flushed
pub flushed : {T E U F : Type 0} {old mid new : SinkState} (t : List ℕ) (r : Result T E) (s : Result U F) (x : T) → r ≡ Ok x → Writes old mid t r → Writes mid new [] s → OnOk s (new.held ≡ []) → Gives old new t s
flushed {old = old} {new = new} t r (Ok y) x is first second empty =
    let w : Writes old new t (Ok y) = same_text (append-nil t) (then_writes t [] r (Ok y) x is first second) in
    (all_taken (subst (λ (l : List ℕ). Advances old.taken new.taken (old.held ++ t) l) empty w.ok), empty, w.quiet)
flushed {old = old} {new = new} t r (Err f) x is first second empty =
    let w : Writes old new t (Err f) = same_text (append-nil t) (then_writes t [] r (Err f) x is first second) in
    (w.cut, w.dropped, w.cause, w.fails)

-- a text was cut, and the sink was not flushed
pub not_flushed : {T E U F : Type 0} {old new : SinkState} (t : List ℕ) (r : Result T E) (s : Result U F) (e : E) (f : F) → r ≡ Err e → s ≡ Err f → Writes old new t r → Gives old new t s
not_flushed {old = old} {new = new} t r s e f is was w =
    let cut = subst (λ q. OnErr q (TakesFront old.taken new.taken (old.held ++ t))) is w.cut in
    let one_more = subst (λ q. OnErr q (new.faults ≡ counted old.faults)) is w.cause in
    let fails = subst (λ q. OnErr q (new.failing ≡ true)) is w.fails in
    let none = subst (λ q. OnErr q (new.held ≡ [])) is w.dropped in
    subst (λ q. Gives old new t q) (sym was) (cut, none, one_more, fails)

none_given : (s : SinkState) → Given s s []
none_given s = inl (refl, refl)

pub said_written : (status : ℕ) (t : List ℕ) (out err err' : SinkState) (answer : ℕ) → Said status t err err' answer → Written (says status t) out out err err' answer
said_written status t out err err' answer (some, inl h) = inl (h.0, none_given out, inr (some, h.1))
said_written status t out err err' answer (some, inr h) = inr (inr (h.0, none_given out, (some, h.1)))

fault_told : (err err' : SinkState) (answer : ℕ) → Said 4 write_fault_line err err' answer → (answer ≡ 4) × (Given err err' write_fault_line ⊎ CutShort err err' write_fault_line)
fault_told err err' answer (some, inl h) = (h.0, inl (inr (some, h.1)))
fault_told err err' answer (some, inr h) = (h.0, inr (some, h.1))

-- some text was printed on out, or cut
pub told_written : (t : List ℕ) (out out' err : SinkState) → t ≢ [] → Took out out' t → Written (prints t) out out' err err 0
told_written t out out' err some h = inl (refl, inr (some, h), none_given err)

pub told_cut : (t : List ℕ) (out out' err err' : SinkState) (answer : ℕ) → t ≢ [] → Cut out out' t → Said 4 write_fault_line err err' answer → Written (prints t) out out' err err' answer
told_cut t out out' err err' answer some h said =
    let told = fault_told err err' answer said in
    inr (inl (told.0, (some, h), told.1))

-- ---- each table has a last word

right_none : {A : Type 0} (xs ys : List A) → xs ++ ys ≡ [] → ys ≡ []
right_none [] ys e = e
right_none (x ∷ xs) ys e = absurd (cc e)

word_some : (o : Bool) → last_word o ≢ []
word_some false = λ e. absurd (cc e)
word_some true = λ e. absurd (cc e)

pub told_some : (n : Parts) (m : Marks) (r : Ranges) → told n m r ≢ []
told_some n m r = λ e.
    let t = table_of n m.dead r in
    let word = last_word (is_open n t) in
    let idle = idle_text n (is_possible m) ++ word in
    let stops = stops_text n t ++ idle in
    word_some (is_open n t) (right_none (idle_text n (is_possible m)) word (right_none (stops_text n t) idle (right_none (states_text n t) stops (right_none (ranges_text n t) (states_text n t ++ stops) e))))
