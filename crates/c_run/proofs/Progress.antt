-- A run in parts.
use Rattle.std.proofs.Common.{◌≡◌, ℕ, suc, ◌+◌, ◌-◌, ◌<◌, List, [], ◌∷◌, ◌++◌, Result, Ok, Err, refl, sym, ap, ◌∙◌, subst, arith, append_assoc, append-nil}
use Rattle.sci_base.specs.declared.observation.Obs.{Obs}
use Rattle.sci_io.specs.Taken.{SinkState, Writes}
use Rattle.sci_io.proofs.Advance.{then_writes, stopped, begins, finished}
use Rattle.sci_trace.specs.Lines.{line, text}
use Rattle.c_run.specs.declared.machine.Flow.{Flow}
use Rattle.c_run.specs.declared.machine.Flow.TheVariants as flows
use Rattle.c_mean.specs.Meaning.{World, How, going, undefined, over, halted, Ran, quietly, behind, on_how, then_run, turns, later}
use Rattle.c_run.specs.Running.{how_of, moved, called, RunsFrom, Runs}
use Rattle.c_run.proofs.Counts.{later_zero, later_later}

abbrev pub Took : SinkState → SinkState → List ℕ → Type 0
Took old new text = Writes {T = Unit {0}} {E = Unit {0}} old new text (Ok tt)

abbrev pub Broke : SinkState → SinkState → List ℕ → Type 0
Broke old new text = Writes {T = Unit {0}} {E = Unit {0}} old new text (Err tt)

took_then : (p q w : SinkState) (a b : List ℕ) → Took p q a → Took q w b → Took p w (a ++ b)
took_then p q w a b x y = then_writes a b (Ok tt) (Ok tt) tt refl x y

took_broke : (p q w : SinkState) (a b : List ℕ) → Took p q a → Broke q w b → Broke p w (a ++ b)
took_broke p q w a b x y = then_writes a b (Ok tt) (Err tt) tt refl x y

broke_more : (p w : SinkState) (a b : List ℕ) → Broke p w a → Broke p w (a ++ b)
broke_more p w a b x = stopped a b (Err tt) (Err tt) tt tt refl refl x

text-append : (a b : List Obs) → text (a ++ b) ≡ text a ++ text b
text-append [] b = refl
text-append (s ∷ ss) b = ap (λ l. line s ++ l) (text-append ss b) ∙ sym (append_assoc (line s) (text ss) (text b))

pub took_nothing : (p : SinkState) → Took p p []
took_nothing p = finished tt (begins p [])

-- What was observed so far, and what is still to run.
pub record Progress (before now : SinkState) (whole rest : Ran) : Type 0 where
  pub seen : List Obs
  pub wrote : Took before now (text seen)
  pub is : whole ≡ behind seen rest

took_more : {p q w : SinkState} (a b : List Obs) → Took p q (text a) → Took q w (text b) → Took p w (text (a ++ b))
took_more {p} {q} {w} a b g h = subst (λ (l : List ℕ). Took p w l) (sym (text-append a b)) (took_then p q w (text a) (text b) g h)

on_going : (seen : List Obs) (h : How) (m : World) (go : World → Ran) → h ≡ going m → on_how seen h go ≡ behind seen (go m)
on_going seen h m go e = ap (λ k. on_how seen k go) e

behind_behind : (a b : List Obs) (r : Ran) → behind a (behind b r) ≡ behind (a ++ b) r
behind_behind a b r = ap (λ (l : List Obs). let x : Ran = record { seen = l; how = r.how } in x) (sym (append_assoc a b r.seen))

pub progress_on : {p q : SinkState} {whole : Ran} (w : SinkState) (r : Ran) (go : World → Ran) (m : World) → Progress p q whole (then_run r go) → Took q w (text r.seen) → r.how ≡ going m → Progress p w whole (go m)
progress_on w r go m g t e = record {
  seen = g.seen ++ r.seen;
  wrote = took_more g.seen r.seen g.wrote t;
  is = g.is ∙ ap (behind g.seen) (on_going r.seen r.how m go e) ∙ behind_behind g.seen r.seen (go m);
}

pub progress_end : {E : Type 0} {p q : SinkState} {whole : Ran} (n : ℕ) (m : World) → Progress p q whole (quietly (going m)) → RunsFrom {E = E} n p q (Ok flows.Going) m whole
progress_end {p = p} {q = q} {whole = whole} n m g =
    let e : whole.seen ≡ g.seen = ap (λ (r : Ran). r.seen) g.is ∙ append-nil g.seen in
    record { by = (subst (λ l. Took p q (text l)) (sym e) g.wrote, ap (λ (r : Ran). r.how) g.is) }

-- what a part observed comes first in what follows from it
then_seen : (seen : List Obs) (h : How) (go : World → Ran) → (more : List Obs) × ((on_how seen h go).seen ≡ seen ++ more)
then_seen seen (going m) go = ((go m).seen, refl)
then_seen seen (undefined n) go = ([], sym (append-nil seen))
then_seen seen halted go = ([], sym (append-nil seen))
then_seen seen over go = ([], sym (append-nil seen))

pub progress_broke : {p q : SinkState} {whole : Ran} (w : SinkState) (r : Ran) (go : World → Ran) → Progress p q whole (then_run r go) → Broke q w (text r.seen) → Broke p w (text whole.seen)
progress_broke {p} {q} {whole} w r go g b =
    let t = then_seen r.seen r.how go in
    let e : whole.seen ≡ g.seen ++ (r.seen ++ t.0) = ap (λ (r : Ran). r.seen) g.is ∙ ap (λ l. g.seen ++ l) t.1 in
    let whole_text : text whole.seen ≡ text g.seen ++ (text r.seen ++ text t.0) = ap text e ∙ text-append g.seen (r.seen ++ t.0) ∙ ap (λ l. text g.seen ++ l) (text-append r.seen t.0) in
    subst (λ (l : List ℕ). Broke p w l) (sym whole_text) (took_broke p q w (text g.seen) (text r.seen ++ text t.0) g.wrote (broke_more q w (text r.seen) (text t.0) b))

-- a way that doesn't go on
abbrev pub Over : Flow → Type 0
Over flows.Going = ⊥
Over (flows.Undefined k) = Unit {0}
Over (flows.UndefinedInCall k) = Unit {0}
Over flows.Over = Unit {0}
Over flows.Halted = Unit {0}

over_how : (n : ℕ) (f : Flow) (m : World) (seen : List Obs) (h : How) (go : World → Ran) → Over f → h ≡ how_of n f m → on_how seen h go ≡ record { seen = seen; how = how_of n f m }
over_how n flows.Going m seen h go o e = absurd o
over_how n (flows.Undefined k) m seen h go o e = ap (λ k. on_how seen k go) e
over_how n (flows.UndefinedInCall k) m seen h go o e = ap (λ k. on_how seen k go) e
over_how n flows.Over m seen h go o e = ap (λ k. on_how seen k go) e
over_how n flows.Halted m seen h go o e = ap (λ k. on_how seen k go) e

pub progress_over : {E : Type 0} {p q : SinkState} {whole : Ran} (n : ℕ) (w : SinkState) (r : Ran) (go : World → Ran) (f : Flow) (m : World) → Over f → Progress p q whole (then_run r go) → Took q w (text r.seen) → r.how ≡ how_of n f m → RunsFrom {E = E} n p w (Ok f) m whole
progress_over {p = p} {q = q} {whole = whole} n w r go f m o g t e =
    let k = g.is ∙ ap (behind g.seen) (over_how n f m r.seen r.how go o e) in
    record { by = (subst (λ l. Took p w (text l)) (sym (ap (λ (r : Ran). r.seen) k)) (took_more g.seen r.seen g.wrote t), ap (λ (r : Ran). r.how) k) }

-- a part without observations
pub quiet_runs : {E : Type 0} (n : ℕ) (p : SinkState) (f : Flow) (w : World) (r : Ran) → r ≡ quietly (how_of n f w) → RunsFrom {E = E} n p p (Ok f) w r
quiet_runs n p f w r e = record { by = (subst (λ (r : Ran). Took p p (text r.seen)) (sym e) (took_nothing p), ap (λ (r : Ran). r.how) e) }

-- the first statement is undefined
pub undefined_runs : {E : Type 0} (p : SinkState) (w : World) (r : ℕ → Ran) → ((n : ℕ) → r n ≡ quietly (undefined n)) → Runs {E = E} p p (Ok (flows.Undefined 0)) w r
undefined_runs p w r e = record { from = λ n small. quiet_runs n p (flows.Undefined 0) w (r n) (e n ∙ ap (λ k. quietly (undefined k)) (sym (later_zero n small))) }

-- the same run in other words
pub runs_as : {E : Type 0} {p w : SinkState} (result : Result Flow E) (m : World) (r s : ℕ → Ran) → ((n : ℕ) → r n ≡ s n) → Runs p w result m r → Runs p w result m s
runs_as {E} {p} {w} result m r s e h = record { from = λ n small. subst (RunsFrom {E = E} n p w result m) (e n) (h.from n small) }

-- A part's run is one of the whole that begins so many statements before it.
pub runs_moved : {E : Type 0} {p w : SinkState} (n k : ℕ) (result : Result Flow E) (m : World) (r : Ran) → RunsFrom (later n k) p w result m r → RunsFrom n p w (moved k result) m r
runs_moved n k (Ok flows.Going) m r h = record { by = h.by }
runs_moved n k (Ok (flows.Undefined j)) m r h = record { by = (h.by.0, h.by.1 ∙ ap undefined (later_later n k j)) }
runs_moved n k (Ok (flows.UndefinedInCall j)) m r h = record { by = h.by }
runs_moved n k (Ok flows.Over) m r h = record { by = h.by }
runs_moved n k (Ok flows.Halted) m r h = record { by = h.by }
runs_moved n k (Err e) m r h = record { by = h.by }

-- A function's run is one of a call, whatever the call's number.
pub runs_called : {E : Type 0} {p w : SinkState} (n first : ℕ) (result : Result Flow E) (m : World) (r : Ran) → RunsFrom first p w result m r → RunsFrom n p w (called first result) m r
runs_called n first (Ok flows.Going) m r h = record { by = h.by }
runs_called n first (Ok (flows.Undefined j)) m r h = record { by = h.by }
runs_called n first (Ok (flows.UndefinedInCall j)) m r h = record { by = h.by }
runs_called n first (Ok flows.Over) m r h = record { by = h.by }
runs_called n first (Ok flows.Halted) m r h = record { by = h.by }
runs_called n first (Err e) m r h = record { by = h.by }

-- one turn more
pub turns_more : (n i : ℕ) (turn : World → Ran) (m : World) → i < n → turns (n - i) turn m ≡ then_run (turn m) (turns (n - (i + 1)) turn)
turns_more n i turn m h = let e : n - i ≡ suc (n - (i + 1)) = omega arith in ap (λ k. turns k turn m) e

-- A part that doesn't go on is the end of the whole.
pub progress_runs : {E : Type 0} {p q : SinkState} {whole : Ran} (n : ℕ) (w : SinkState) (r : Ran) (go : World → Ran) (result : Result Flow E) (m : World) → (result ≡ Ok flows.Going → ⊥) → Progress p q whole (then_run r go) → RunsFrom n q w result m r → RunsFrom n p w result m whole
progress_runs n w r go (Ok flows.Going) m o g h = absurd (o refl)
progress_runs n w r go (Ok (flows.Undefined k)) m o g h = progress_over n w r go (flows.Undefined k) m tt g h.by.0 h.by.1
progress_runs n w r go (Ok (flows.UndefinedInCall k)) m o g h = progress_over n w r go (flows.UndefinedInCall k) m tt g h.by.0 h.by.1
progress_runs n w r go (Ok flows.Over) m o g h = progress_over n w r go flows.Over m tt g h.by.0 h.by.1
progress_runs n w r go (Ok flows.Halted) m o g h = progress_over n w r go flows.Halted m tt g h.by.0 h.by.1
progress_runs n w r go (Err e) m o g h = record { by = progress_broke w r go g h.by }
