-- From the steps of writing to what is left on the two sinks.
use Rattle.std.proofs.Common.{◌≡◌, ◌≢◌, ◌≤◌, ◌<◌, ℕ, List, [], ◌∷◌, ◌++◌, ◌⊎◌, length, inl, inr, refl, sym, ◌∙◌, ap, subst, arith, codes, decimal, Bool}
use Rattle.std.proofs.lemmas.List.{append-nil}
use Rattle.std.specs.Prelude.{Result, Ok, Err, OnOk, OnErr, true}
use Rattle.sci_base.specs.Plain.{Violation}
use Rattle.sci_io.specs.Causes.{counted}
use Rattle.sci_io.specs.declared.sink.Failed.{Failed}
use Rattle.sci_io.specs.Taken.{SinkState, Advances, TakesFront, Writes}
use Rattle.sci_io.proofs.Advance.{then_writes, same_text, all_taken}
use Rattle.sci_print.specs.Line.{refused_line, head_text}
use Rattle.sci_trace.specs.Lines.{text, stops}
use Rattle.sci_sim.specs.declared.end.RunEnd.{RunEnd}
use Rattle.c_run.specs.declared.start.CEnd.{CEnd}
use Rattle.c_run.specs.declared.start.CEnd.TheVariants.{End, Stop, Undefined}
use Rattle.c_run.specs.declared.start.RunStop.{RunStop}
use Rattle.c_run.specs.declared.start.RunStop.TheVariants as causes
use Rattle.c_mean.specs.Meaning.{Ran as Observed}
use Rattle.c_run.specs.Answering.{end_of}
use Rattle.sci_answers.specs.Answer.{Answer, says, prints, write_fault_line, no_memory_line, no_memory}
use Rattle.sci_answers.specs.RunC.{undefined_line, c_status, c_err, c_ran}
use Rattle.sci_answers.specs.Simulate.{ran, IsTraceOf, run_status}
use Rattle.sci_answers.specs.Written.{Took, Cut, Given, CutShort, Written}
use Rattle.sci_answers.specs.declared.prepared.Simulation.{Simulation}
use Rattle.sci_answers.proofs.Traced.{trace_some}
use Rattle.sci_deliver.specs.Deliver.{Gives, Said, is_stopped, RanAs, PrintsTrace, PrintsDump, Finished, RunsOut, RanC, FinishedC}
use Rattle.sci_answers.specs.Dump.{dumped, IsDumpAnswer}
use Rattle.sci_vcd.specs.Waveforms.{Waveforms}
use Rattle.sci_vcd.specs.Spelling.{spelling}

pub some_text : (t : List ℕ) → 0 < length t → t ≢ []
some_text t h = λ e. omega (arith, h, ap length e)

pub some_refusal : (v : Violation) → refused_line v ≢ []
unfolding refused_line head_text
some_refusal v = λ e. absurd (cc e)

-- a text was written, and then the sink was flushed
pub flushed : {T E U F : Type 0} {old mid new : SinkState} (t : List ℕ) (r : Result T E) (s : Result U F) (x : T) → r ≡ Ok x → Writes old mid t r → Writes mid new [] s → OnOk s (new.held ≡ []) → Gives old new t s
flushed {old = old} {new = new} t r (Ok y) x is first second empty =
    let w : Writes old new t (Ok y) = same_text (append-nil t) (then_writes t [] r (Ok y) x is first second) in
    (all_taken (subst (λ (l : List ℕ). Advances old.taken new.taken (old.held ++ t) l) empty w.ok), empty, w.quiet)
flushed {old = old} {new = new} t r (Err f) x is first second empty =
    let w : Writes old new t (Err f) = same_text (append-nil t) (then_writes t [] r (Err f) x is first second) in
    (w.cut, w.dropped, w.cause, w.fails)

-- a text was cut, and the sink was not flushed
pub not_flushed : {T E U F : Type 0} {old new : SinkState} (t : List ℕ) (r : Result T E) (s : Result U F) (e : E) (f : F) → r ≡ Err e → s ≡ Err f → Writes old new t r → Gives old new t s
not_flushed {old = old} {new = new} t r s e f is was w =
    let cut = subst (λ q. OnErr q (TakesFront old.taken new.taken (old.held ++ t))) is w.cut in
    let one_more = subst (λ q. OnErr q (new.faults ≡ counted old.faults)) is w.cause in
    let fails = subst (λ q. OnErr q (new.failing ≡ true)) is w.fails in
    let none = subst (λ q. OnErr q (new.held ≡ [])) is w.dropped in
    subst (λ q. Gives old new t q) (sym was) (cut, none, one_more, fails)

pub none_given : (s : SinkState) → Given s s []
none_given s = inl (refl, refl)

pub said_written : (status : ℕ) (t : List ℕ) (out err err' : SinkState) (answer : ℕ) → Said status t err err' answer → Written (says status t) out out err err' answer
said_written status t out err err' answer (some, inl h) = inl (h.0, none_given out, inr (some, h.1))
said_written status t out err err' answer (some, inr h) = inr (inr (h.0, none_given out, (some, h.1)))

pub fault_told : (err err' : SinkState) (answer : ℕ) → Said 4 write_fault_line err err' answer → (answer ≡ 4) × (Given err err' write_fault_line ⊎ CutShort err err' write_fault_line)
fault_told err err' answer (some, inl h) = (h.0, inl (inr (some, h.1)))
fault_told err err' answer (some, inr h) = (h.0, inr (some, h.1))

-- what is told of a diagram, which may be nothing
pub silent_written : (t : List ℕ) (out err : SinkState) → t ≡ [] → Written (prints t) out out err err 0
silent_written t out err none = inl (refl, inl (none, refl), none_given err)

pub told_written : (t : List ℕ) (out out' err : SinkState) → t ≢ [] → Took out out' t → Written (prints t) out out' err err 0
told_written t out out' err some h = inl (refl, inr (some, h), none_given err)

pub told_cut : (t : List ℕ) (out out' err err' : SinkState) (answer : ℕ) → t ≢ [] → Cut out out' t → Said 4 write_fault_line err err' answer → Written (prints t) out out' err err' answer
told_cut t out out' err err' answer some h said =
    let told = fault_told err err' answer said in
    inr (inl (told.0, (some, h), told.1))

-- a text was printed on out, or cut
pub printed_written : (t : List ℕ) (out out' err : SinkState) → 0 < length t → Took out out' t → Written (prints t) out out' err err 0
printed_written t out out' err some h = inl (refl, inr (some_text t some, h), none_given err)

pub cut_written : (t : List ℕ) (out out' err err' : SinkState) (answer : ℕ) → 0 < length t → Cut out out' t → Said 4 write_fault_line err err' answer → Written (prints t) out out' err err' answer
cut_written t out out' err err' answer some h said =
    let told = fault_told err err' answer said in
    inr (inl (told.0, (some_text t some, h), told.1))

pub ran_written : (t : List ℕ) (stopped : Bool) (out out' err err' : SinkState) (answer : ℕ) (r : Result RunEnd Failed) → t ≢ [] → RanAs t stopped out out' r → Finished r err err' answer
    → Written (record { out = t; err = []; status = run_status stopped }) out out' err err' answer
ran_written t stopped out out' err err' answer (Ok e) some p h =
    inl (h.0 ∙ ap run_status p.0, inr (some, p.1), inl (refl, h.1))
ran_written t stopped out out' err err' answer (Err e) some p h =
    let told = fault_told err err' answer h in
    inr (inl (told.0, (some, p), told.1))

pub trace_written : (s : Simulation) (out out' err err' : SinkState) (answer : ℕ) (r : Result RunEnd Failed) → PrintsTrace s out out' r → Finished r err err' answer
    → (a : Answer) × IsTraceOf s.ready.fixed.net s.inputs s.until s.limit a × Written a out out' err err' answer
trace_written s out out' err err' answer r p h =
    let some = trace_some s.ready.fixed.net s.inputs s.until s.limit p.0 p.1 in
    (ran p.0, (p.0, p.1, refl), ran_written (text p.0) (stops p.0) out out' err err' answer r some p.2 h)

-- each dump has a head
dump_some : (w : Waveforms) → spelling w ≢ []
dump_some w = λ e. absurd (cc e)

pub dump_written : (s : Simulation) (out out' err err' : SinkState) (answer : ℕ) (r : Result RunEnd Failed) → PrintsDump s out out' r → Finished r err err' answer
    → (a : Answer) × IsDumpAnswer s.ready.fixed.net s.inputs s.until s.limit a × Written a out out' err err' answer
dump_written s out out' err err' answer r p h =
    (dumped p.0 p.2, (p.0, p.1, p.2, p.3, refl), ran_written (spelling p.0) (stops p.2) out out' err err' answer r (dump_some p.0) p.4 h)

-- a run failed to be written
pub ran_cut : {T E : Type 0} (old new : SinkState) (t : List ℕ) (stopped : Bool) (r : Result T E) (s : Result RunEnd Failed) (e : E) (f : Failed) → r ≡ Err e → s ≡ Err f → Gives old new t r → RanAs t stopped old new s
ran_cut old new t stopped r s e f is was h = subst (λ q. RanAs t stopped old new q) (sym was) (subst (λ q. Gives old new t q) is h)

-- a run was written and flushed
pub ran_whole : {T E : Type 0} (old new : SinkState) (t : List ℕ) (stopped : Bool) (end : RunEnd) (s : Result T E) (x : T) → s ≡ Ok x → Gives old new t s → stopped ≡ is_stopped end → RanAs t stopped old new (Ok end)
ran_whole old new t stopped end s x is h ends = (sym ends, subst (λ q. Gives old new t q) is h)

-- a run failed as it wrote
pub ran_failed : {T E : Type 0} {old new : SinkState} (t : List ℕ) (stopped : Bool) (r : Result T E) (s : Result RunEnd Failed) (e : E) (f : Failed) → r ≡ Err e → s ≡ Err f → Writes old new t r → RanAs t stopped old new s
ran_failed {old = old} {new = new} t stopped r s e f is was w = ran_cut old new t stopped r s e f is was (not_flushed t r r e e is is w)

-- a run was written and not flushed
pub ran_unflushed : {T E U F : Type 0} {old mid new : SinkState} (t : List ℕ) (stopped : Bool) (r : Result T E) (s : Result U F) (q : Result RunEnd Failed) (x : T) (e : F) (f : Failed) → r ≡ Ok x → s ≡ Err e → q ≡ Err f → Writes old mid t r → Writes mid new [] s → OnOk s (new.held ≡ []) → RanAs t stopped old new q
ran_unflushed {old = old} {new = new} t stopped r s q x e f ok is was first second empty = ran_cut old new t stopped s q e f is was (flushed t r s x ok first second empty)

-- and flushed
pub ran_flushed : {T E U F : Type 0} {old mid new : SinkState} (t : List ℕ) (stopped : Bool) (end : RunEnd) (r : Result T E) (s : Result U F) (x : T) (y : U) → r ≡ Ok x → s ≡ Ok y → Writes old mid t r → Writes mid new [] s → OnOk s (new.held ≡ []) → stopped ≡ is_stopped end → RanAs t stopped old new (Ok end)
ran_flushed {old = old} {new = new} t stopped end r s x y ok is first second empty ends = ran_whole old new t stopped end s y is (flushed t r s x ok first second empty) ends

-- ---- of a C program

-- it observes something, and was run on out
pub c_observed : (r : Observed) (out out' : SinkState) (q : Result CEnd RunStop) → text r.seen ≢ [] → RunsOut r out out' q → RanC r out out' q
c_observed r out out' (Ok e) some h = (h.0, inr (some, h.1))
c_observed r out out' (Err causes.Failed) some h = (some, h)
c_observed r out out' (Err causes.Memory) some h = h

-- it observes nothing, and was not run on out
pub c_silent : (r : Observed) (e : CEnd) (out : SinkState) → text r.seen ≡ [] → e ≡ end_of r.how → RanC r out out (Ok e)
c_silent r e out none is = (is, inl (none, refl))

pub some_statement : (n : ℕ) → undefined_line n ≢ []
unfolding undefined_line
some_statement n = λ e. absurd (cc e)

-- it came to an end without a line on err
c_quiet : (r : Observed) (e : CEnd) (out out' err err' : SinkState) (answer : ℕ) → c_err e ≡ [] → answer ≡ c_status e → e ≡ end_of r.how → Given out out' (text r.seen) → err' ≡ err → Written (c_ran r) out out' err err' answer
c_quiet r e out out' err err' answer none status is given same =
    inl (status ∙ ap c_status is, given, inl (sym (ap c_err is) ∙ none, same))

-- or with one
c_undefined : (r : Observed) (n : ℕ) (out out' err err' : SinkState) (answer : ℕ) → Undefined n ≡ end_of r.how → Given out out' (text r.seen) → Said 7 (undefined_line n) err err' answer → Written (c_ran r) out out' err err' answer
c_undefined r n out out' err err' answer is given (some, inl h) =
    let line : undefined_line n ≡ (c_ran r).err = ap c_err is in
    inl (h.0 ∙ ap c_status is, given, subst (λ (t : List ℕ). Given err err' t) line (inr (some, h.1)))
c_undefined r n out out' err err' answer is given (some, inr h) =
    let line : undefined_line n ≡ (c_ran r).err = ap c_err is in
    inr (inr (h.0, given, subst (λ (t : List ℕ). CutShort err err' t) line (some, h.1)))

-- memory lacked before it observed anything
c_lacks : (out out' err err' : SinkState) (answer : ℕ) → out' ≡ out → Said 5 no_memory_line err err' answer → Written no_memory out out' err err' answer
c_lacks out out' err err' answer same said = subst (λ (s : SinkState). Written no_memory out s err err' answer) (sym same) (said_written 5 no_memory_line out err err' answer said)

pub c_written : (r : Observed) (out out' err err' : SinkState) (answer : ℕ) (q : Result CEnd RunStop) → RanC r out out' q → FinishedC q err err' answer → ((a : Answer) × (a ≡ c_ran r) × Written a out out' err err' answer) ⊎ (Unit {0} × Written no_memory out out' err err' answer)
c_written r out out' err err' answer (Ok End) p h = inl (c_ran r, refl, c_quiet r End out out' err err' answer refl h.0 p.0 p.1 h.1)
c_written r out out' err err' answer (Ok Stop) p h = inl (c_ran r, refl, c_quiet r Stop out out' err err' answer refl h.0 p.0 p.1 h.1)
c_written r out out' err err' answer (Ok (Undefined n)) p h = inl (c_ran r, refl, c_undefined r n out out' err err' answer p.0 p.1 h)
c_written r out out' err err' answer (Err causes.Failed) p h =
    let told = fault_told err err' answer h in
    inl (c_ran r, refl, inr (inl (told.0, p, told.1)))
c_written r out out' err err' answer (Err causes.Memory) p h = inr (tt, c_lacks out out' err err' answer p h)
