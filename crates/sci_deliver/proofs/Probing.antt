-- A sink that fails at the first piece tells whether a run observes anything.
use Rattle.std.proofs.Common.{◌≡◌, ◌≢◌, ◌≤◌, ◌<◌, ◌-◌, ◌^◌, ℕ, List, [], ◌∷◌, ◌++◌, length, drop, get_or, slice_index, refl, sym, ◌∙◌, ap, arith, Option, Some, None, Bool, true, false}
use Rattle.std.specs.Prelude.{Result, Ok, Err}
use Rattle.sci_io.specs.Causes.{counted}
use Rattle.sci_io.specs.Taken.{Writes}
use Rattle.sci_io.proofs.Advance.{took_nothing, stays, all_taken}
use Rattle.sci_trace.specs.Lines.{text}
use Rattle.c_run.specs.declared.start.CEnd.{CEnd}
use Rattle.c_run.specs.declared.start.RunStop.{RunStop}
use Rattle.c_run.specs.declared.start.RunStop.TheVariants.{Failed}
use Rattle.c_mean.specs.Meaning.{Ran}
use Rattle.c_run.specs.Answering.{end_of, AnswersBy}
use Rattle.sci_deliver.specs.Probe.{probe_state}
use Rattle.sci_deliver.specs.Deliver.{IsSilence}

-- the first piece, of which the first byte is taken
pub first_piece : {T E : Type 0} (more : ℕ) (s : Bool) (piece : List ℕ) (b : ℕ) (e : E) → 0 < length piece → b ≡ get_or piece 0 b
    → Writes {T = T} {E = E} (probe_state None more s) (probe_state (Some b) 0 true) piece (Err e)
first_piece more s [] b e some is = absurd (omega (arith, some))
first_piece more s (x ∷ xs) b e some is =
    record { ok = tt; quiet = tt; works = tt; cut = (xs, record { front = b ∷ []; split = cc is; taken = refl }); dropped = refl; cause = refl; fails = refl; later = omega arith }

-- the same of the byte at 0
pub first_index : {T E : Type 0} (more : ℕ) (s : Bool) (piece : List ℕ) (e : E) → 0 < length piece
    → Writes {T = T} {E = E} (probe_state None more s) (probe_state (Some (slice_index piece 0)) 0 true) piece (Err e)
first_index more s [] e some = absurd (omega (arith, some))
first_index more s (x ∷ xs) e some = first_piece more s (x ∷ xs) x e some refl

-- a later piece, of which nothing is taken
pub later_piece : {T E : Type 0} (more next : ℕ) (s : Bool) (piece : List ℕ) (b : ℕ) (e : E) → next ≡ counted more
    → Writes {T = T} {E = E} (probe_state (Some b) more s) (probe_state (Some b) next true) piece (Err e)
later_piece more next s piece b e is = record {
  ok = tt;
  quiet = tt;
  works = tt;
  cut = took_nothing (Some (b ∷ [])) piece;
  dropped = refl;
  cause = ap counted is;
  fails = refl;
  later = omega (arith, is);
}

pub flushed_probe : {T E : Type 0} (o : Option ℕ) (more : ℕ) (s : Bool) (x : T) → Writes {T = T} {E = E} (probe_state o more s) (probe_state o more false) [] (Ok x)
flushed_probe None more s x = record { ok = stays (Some []) []; quiet = refl; works = λ _. refl; cut = tt; dropped = tt; cause = tt; fails = tt; later = omega arith }
flushed_probe (Some b) more s x = record { ok = stays (Some (b ∷ [])) []; quiet = refl; works = λ _. refl; cut = tt; dropped = tt; cause = tt; fails = tt; later = omega arith }

silent_text : (o : Option ℕ) (more : ℕ) (s : Bool) (t : List ℕ) → Writes {T = Unit {0}} {E = Unit {0}} (probe_state None 0 false) (probe_state o more s) t (Ok tt) → t ≡ []
silent_text None more s t w = let taken : [] ≡ [] ++ t = all_taken w.ok in sym taken
silent_text (Some b) more s t w = absurd (omega (arith, w.quiet))

loud_text : (o : Option ℕ) (more : ℕ) (s : Bool) (t : List ℕ) → Writes {T = Unit {0}} {E = Unit {0}} (probe_state None 0 false) (probe_state o more s) t (Err tt) → t ≢ []
loud_text None more s t w = absurd (omega (arith, w.cause))
loud_text (Some b) more s t w = λ none.
    let a = w.cut.1 in
    let front : b ∷ [] ≡ a.front = a.taken in
    absurd (cc (front, a.split, none))

pub silent_run : (o : Option ℕ) (more : ℕ) (s : Bool) (ran : Ran) (end : CEnd) → AnswersBy (probe_state None 0 false) (probe_state o more s) (Ok end) ran → IsSilence {E = Unit {0}} ran (Ok (Some end))
silent_run o more s ran end by = (silent_text o more s (text ran.seen) by.0, by.1)

pub loud_run : (o : Option ℕ) (more : ℕ) (s : Bool) (ran : Ran) → AnswersBy (probe_state None 0 false) (probe_state o more s) (Err Failed) ran → text ran.seen ≢ []
loud_run o more s ran by = loud_text o more s (text ran.seen) by
