-- A step: its reaction, and what is observed and answered behind it.
use Rattle.std.proofs.Common.{◌≡◌, ◌≤◌, ℕ, ◌+◌, ◌-◌, min, List, [], ◌∷◌, ◌++◌, ◌⊎◌, inl, inr, length, refl, sym, ap, subst, ◌∙◌, append-nil, pos, Option, Some, None, true, Result, Ok, Err, arith}
use Rattle.std.specs.Prelude.{IfOk}
use Rattle.std.proofs.lemmas.List.{length-append}
use Rattle.sci_io.specs.Taken.{SinkState, Writes}
use Rattle.sci_io.proofs.Advance.{same_text, then_writes, stopped as stopped_writes}
use Rattle.sci_trace.specs.Lines.{text}
use Rattle.sci_base.specs.declared.observation.Obs.{Obs}
use Rattle.sci_base.specs.declared.observation.EndWord.{EndWord}
use Rattle.sci_base.specs.declared.observation.StopWord.{StopWord}
use Rattle.sci_base.specs.declared.observation.Obs.TheVariants.{End, Stop}
use Rattle.sci_net.specs.Parts.{Parts, IsBlock}
use Rattle.sci_net.specs.Sources.{source_of}
use Rattle.sci_reaction.specs.Memory.{Columns}
use Rattle.sci_reaction.specs.Result.{Stopped as NoValue, IsResult}
use Rattle.sci_forms.specs.declared.Kind.{Kind}
use Rattle.sci_run.specs.Activity.{halts}
use Rattle.sci_run.specs.Observed.{header, stop_seen}
use Rattle.sci_run.specs.Counts.{activations_of_kind}
use Rattle.sci_run.specs.Run.{State, ReactionOutcome, Leads, StopsWith, IsOutcome, Decision, Over, Fires, comes_next}
use Rattle.sci_bank.specs.Bank.{Meaning}
use Rattle.sci_bank.specs.Library.{bank_of}
use Rattle.sci_sim.specs.declared.end.RunEnd.TheVariants.{End as Ended, Stop as Stopped}
use Rattle.sci_sim.specs.declared.end.Step.{Step}
use Rattle.sci_sim.specs.declared.end.Step.TheVariants.{More, Over as IsOver}
use Rattle.sci_store.specs.Frame.{Fixed}
use Rattle.sci_store.specs.Store.{Standing, AreCountedWithin, active_of}
use Rattle.sci_store.specs.Tally.{lines_after}
use Rattle.sci_store.specs.Written.{sum_of, tallied}
use Rattle.sci_kept.specs.Kept.{Kept}
use Rattle.sci_sim.specs.Rows.{row_in}
use Rattle.sci_sim.specs.At.{Running, IsReady, Shows, IsAt, AreTallied}
use Rattle.sci_sim.specs.Reacting.{ShowsFiring, HasSetOut, AreMarksOf, IsReacted, IsStopOf, seen_in}
use Rattle.sci_sim.specs.Steps.{end_due, end_seen, step_of, step_seen, AreCountedToStop, IsStep}
use Rattle.sci_store.proofs.Writing.{lines_twice, sum_twice, text-append}

-- ---- what is due behind a reaction

pub none_of : {A : Type 0} (x : Option A) → ((y : A) → x ≡ Some y → ⊥) → x ≡ None
none_of None h = refl
none_of (Some y) h = absurd (h y refl)

pub goes_on : (d : Decision) → None ≡ end_due d → (step_of d ≡ More) × (end_seen d ≡ [])
goes_on (Over word) h = absurd (cc h)
goes_on (Fires e) h = (refl, refl)

pub is_over : (d : Decision) (word : EndWord) → Some word ≡ end_due d → (step_of d ≡ IsOver (Ended word)) × (end_seen d ≡ End word ∷ [])
is_over (Over other) word h = let same : other ≡ word = cc h in (ap (λ w. IsOver (Ended w)) same, ap (λ w. End w ∷ []) same)
is_over (Fires e) word h = absurd (cc h)

-- what is observed behind the reaction itself
abbrev pub behind : Parts → (until limit : ℕ) → ReactionOutcome → List Obs
behind n until limit (Leads seen after) = end_seen (comes_next n until (limit - after.fired) after)
behind n until limit (StopsWith seen) = []

pub seen_behind : (n : Parts) (until limit : ℕ) (o : ReactionOutcome) → step_seen n until limit o ≡ seen_in o ++ behind n until limit o
seen_behind n until limit (Leads seen after) = refl
seen_behind n until limit (StopsWith seen) = sym (append-nil seen)

-- a stop is all that is observed
pub all_seen : (n : Parts) (until limit : ℕ) (o : ReactionOutcome) (stop : Option StopWord) (word : StopWord) → IsStopOf o stop → stop ≡ Some word → step_seen n until limit o ≡ seen_in o
all_seen n until limit (Leads seen after) stop word h is = absurd (cc (h, is))
all_seen n until limit (StopsWith seen) stop word h is = refl

-- ---- what is counted

-- a bank counts at most so many calls more
more_calls : (x y old new : ℕ) → old ≡ min x 18446744073709551615 → new ≤ min (old + y) 18446744073709551615 → new ≤ min (x + y) 18446744073709551615
more_calls x y old new h g = omega (arith, h, g)

pub within_until : (date now until : ℕ) → now ≡ date → (date ≤ until) ⊎ (date ≡ 0) → until ≤ 4611686018427387904 → now ≤ 4611686018427387904
within_until date now until e (inl h) g = omega (arith, e, h, g)
within_until date now until e (inr h) g = omega (arith, e, h, g)

pub tallied_more : (r s t : Standing) (some more : List Obs) → AreTallied r s some → AreTallied s t more → AreTallied r t (some ++ more)
tallied_more r s t some more h g = record {
  lines = g.lines ∙ ap (λ l. lines_after l (length more)) h.lines ∙ lines_twice r.lines (length some) (length more) ∙ ap (lines_after r.lines) (sym (length-append some more));
  sum = g.sum ∙ ap (λ x. sum_of x more) h.sum ∙ sum_twice r.sum some more;
}

pub tallied_is : (s t : Standing) (more : List Obs) → t ≡ tallied s more → AreTallied s t more
tallied_is s t more e = record { lines = ap (λ (x : Standing). x.lines) e; sum = ap (λ (x : Standing). x.sum) e }

-- ---- a net before a step, with its source taken, and behind the reaction

module _ (until : ℕ) (r a : Running) (banks : List Meaning) (date source : ℕ) (from : State) (fires : ℕ)
    (a_is : a ≡ record r { wheel = a.wheel; now = a.now; fired = a.fired; started = true }) (set : HasSetOut until r a banks date source from fires) where
  a_fixed : a.fixed ≡ r.fixed
  a_fixed = ap (λ (x : Running). x.fixed) a_is

  a_store : a.store ≡ r.store
  a_store = ap (λ (x : Running). x.store) a_is

  pub shows_taken : ShowsFiring a.fixed a.store banks a.wheel.meaning a.wheel.puts a.offset a.now from
  shows_taken =
      subst (λ (x : Fixed). ShowsFiring x a.store banks a.wheel.meaning a.wheel.puts a.offset a.now from) (sym a_fixed)
      (subst (λ (x : Standing). ShowsFiring r.fixed x banks a.wheel.meaning a.wheel.puts a.offset a.now from) (sym a_store)
      (subst (λ (x : ℕ). ShowsFiring r.fixed r.store banks a.wheel.meaning a.wheel.puts x a.now from) (sym (ap (λ (x : Running). x.offset) a_is))
      (subst (λ (d : ℕ). ShowsFiring r.fixed r.store banks a.wheel.meaning a.wheel.puts r.offset d from) (sym set.now) set.shown)))

  pub outcome_of : (i : Columns) (o : ReactionOutcome) → IsOutcome a.fixed.net i a.now (source_of a.fixed.net fires) from o → IsOutcome r.fixed.net i date (source_of r.fixed.net source) from o
  outcome_of i o h =
      subst (λ k. IsOutcome r.fixed.net i date (source_of r.fixed.net k) from o) set.source_is
      (subst (λ d. IsOutcome r.fixed.net i d (source_of r.fixed.net fires) from o) set.now
      (subst (λ (x : Fixed). IsOutcome x.net i a.now (source_of x.net fires) from o) a_fixed h))

  -- behind the reaction
  module _ (i : Columns) (b : Running) (later : List Meaning) (b_is : b ≡ record a { store = b.store; wheel = b.wheel; row = fires; has_row = true; halted = b.halted })
      (o : ReactionOutcome) (outcome : IsOutcome r.fixed.net i date (source_of r.fixed.net source) from o) (stop : Option StopWord)
      (reacted : IsReacted a.fixed fires (row_in a.rows fires) a.store b.store banks later b.wheel.meaning b.wheel.puts a.offset o stop) where
    b_fixed : b.fixed ≡ a.fixed
    b_fixed = ap (λ (x : Running). x.fixed) b_is

    pub fixed_stays : b.fixed ≡ r.fixed
    fixed_stays = b_fixed ∙ a_fixed

    b_now : b.now ≡ date
    b_now = ap (λ (x : Running). x.now) b_is ∙ set.now

    b_row : b.row ≡ source
    b_row = ap (λ (x : Running). x.row) b_is ∙ set.source_is

    b_fired : b.fired ≡ from.fired
    b_fired = ap (λ (x : Running). x.fired) b_is ∙ set.fired

    pub is_tallied : AreTallied r.store b.store (seen_in o)
    is_tallied = subst (λ (x : Standing). AreTallied x b.store (seen_in o)) a_store reacted.tallied

    -- it leads to a state
    pub record Stands : Type 0 where
      pub seen : List Obs
      pub after : State
      pub leads : o ≡ Leads seen after
      pub at : IsAt b later after
      pub row : b.row ≡ source

    pub stands : stop ≡ None → ((after : State) → AreMarksOf a.fixed fires (row_in a.rows fires) b.store after → b.halted ≡ halts a.fixed.net after.active) → Stands
    stands none halted = let q = by_outcome o stop none outcome reacted in record { seen = q.0; after = q.1; leads = q.2; at = q.3; row = b_row }
      where
        by_outcome : (p : ReactionOutcome) (stop : Option StopWord) → stop ≡ None → IsOutcome r.fixed.net i date (source_of r.fixed.net source) from p
            → IsReacted a.fixed fires (row_in a.rows fires) a.store b.store banks later b.wheel.meaning b.wheel.puts a.offset p stop
            → (seen : List Obs) × (after : State) × (p ≡ Leads seen after) × IsAt b later after
        by_outcome (StopsWith seen) (Some word) n h g = absurd (cc n)
        by_outcome (StopsWith seen) None n h g = absurd g.stops
        by_outcome (Leads seen after) stop n h g =
            let now : after.now ≡ date = ap (λ (x : State). x.now) h.leads in
            let fired : after.fired ≡ from.fired = ap (λ (x : State). x.fired) h.leads in
            let offset : b.offset ≡ a.offset = ap (λ (x : Running). x.offset) b_is in
            let marks = g.leads.1 in (
              seen,
              after,
              refl,
              record {
                shown = subst (λ (x : ℕ). Shows b.fixed b.store later b.wheel.meaning b.wheel.puts x after) (sym offset)
                    (subst (λ (x : Fixed). Shows x b.store later b.wheel.meaning b.wheel.puts a.offset after) (sym b_fixed) g.leads.0);
                now = b_now ∙ sym now;
                fired = b_fired ∙ sym fired;
                active = λ k block. marks.shown.active_are k (subst (λ (x : Fixed). IsBlock x.net k) b_fixed block);
                halted = halted after marks ∙ ap (λ (x : Fixed). halts x.net after.active) (sym b_fixed);
              },
            )

    same_stop : (p q : ℕ) (v w : StopWord) (x y : Obs) → x ∷ Stop v (pos p) (pos 0) ∷ [] ≡ y ∷ Stop w (pos q) (pos 0) ∷ [] → v ≡ w
    same_stop p q v w x y e = cc e

    -- it stops
    pub stops_at : (limit : ℕ) (word : StopWord) → stop ≡ Some word → ((k : Kind) → (bank_of banks k).outs ≡ min (activations_of_kind r.fixed.net from k) 18446744073709551615)
        → IsStep i until limit date source from b later o (IsOver (Stopped word))
    stops_at limit word is counts = by_outcome o stop is outcome reacted
      where
        by_outcome : (p : ReactionOutcome) (stop : Option StopWord) → stop ≡ Some word → IsOutcome r.fixed.net i date (source_of r.fixed.net source) from p
            → IsReacted a.fixed fires (row_in a.rows fires) a.store b.store banks later b.wheel.meaning b.wheel.puts a.offset p stop → IsStep i until limit date source from b later p (IsOver (Stopped word))
        by_outcome (Leads seen after) stop n h g = absurd (cc (n, g.stops))
        by_outcome (StopsWith seen) None n h g = absurd (cc n)
        by_outcome (StopsWith seen) (Some w) n h g =
            let same : h.word ≡ word = same_stop h.block g.stops.1 h.word w (header date (source_of r.fixed.net source)) g.stops.0 (sym h.observed ∙ g.stops.2) ∙ cc n in
            let within : AreCountedWithin r.fixed.net (source_of r.fixed.net source) banks later = subst (λ k. AreCountedWithin r.fixed.net (source_of r.fixed.net k) banks later) set.source_is
            (subst (λ (x : Fixed). AreCountedWithin x.net (source_of x.net fires) banks later) a_fixed g.leads) in
            record {
              block = h.block;
              stops = subst (λ (x : Fixed). IsResult x.net from.memory i (source_of x.net source) (NoValue h.block word)) (sym fixed_stays)
                  (subst (λ w. IsResult r.fixed.net from.memory i (source_of r.fixed.net source) (NoValue h.block w)) same h.result);
              observed = h.observed ∙ ap (λ (x : Fixed). stop_seen date (source_of x.net source) h.block h.word) (sym fixed_stays)
                  ∙ ap (λ w. stop_seen date (source_of b.fixed.net source) h.block w) same;
              now = b_now;
              fired = b_fired;
              row = b_row;
              counts = subst (λ (x : Fixed). AreCountedToStop x.net (source_of x.net source) from later) (sym fixed_stays) (record {
                least = λ k. subst (λ c. c ≤ (bank_of later k).outs) (counts k) (within.least k);
                most = λ possible are k. more_calls (activations_of_kind r.fixed.net from k) (active_of r.fixed.net possible k) (bank_of banks k).outs (bank_of later k).outs (counts k) (within.most possible are k);
              });
            }

-- ---- the answer

-- a step goes on or ends as its reaction's state decides
pub leads_to : (i : Columns) (until limit date source : ℕ) (from : State) (n : Parts) (r : Running) (banks : List Meaning) (o : ReactionOutcome) (seen : List Obs) (after : State) (step : Step) (more : List Obs)
    → r.fixed.net ≡ n → o ≡ Leads seen after → IsAt r banks after → r.row ≡ source
    → (step_of (comes_next r.fixed.net until (limit - after.fired) after) ≡ step) × (end_seen (comes_next r.fixed.net until (limit - after.fired) after) ≡ more)
    → IsStep i until limit date source from r banks o step × (step_seen n until limit o ≡ seen_in o ++ more)
leads_to i until limit date source from n r banks o seen after step more net leads at row answers = (
  subst (λ p. IsStep i until limit date source from r banks p step) (sym leads) (at, row, sym answers.0),
  ap (step_seen n until limit) leads ∙ ap (λ (m : Parts). seen ++ end_seen (comes_next m until (limit - after.fired) after)) (sym net) ∙ ap (λ os. seen ++ os) answers.1
      ∙ ap (λ p. seen_in p ++ more) (sym leads),
)

-- only the counts change where the end is observed
pub at_tallied : (b v : Running) (later : List Meaning) (st : State) (os : List Obs) (k : Kept) → v ≡ b → IsAt b later st → k.fixed ≡ v.fixed → k.store ≡ tallied v.store os
    → IsAt (record v { fixed = k.fixed; store = k.store }) later st
at_tallied b v later st os k is h fixed e =
    let at = subst (λ x. IsAt x later st) (sym is) h in
    let s = at.shown in
    subst (λ (f : Fixed). IsAt (record v { fixed = f; store = k.store }) later st) (sym fixed)
    (subst (λ (x : Standing). IsAt (record v { store = x }) later st) (sym e) (record {
      shown = record { seated = s.seated; memory = record { held = s.memory.held; cursor = s.memory.cursor; state = s.memory.state }; in_range = s.in_range; pending = s.pending; counts = s.counts };
      now = at.now;
      fired = at.fired;
      active = at.active;
      halted = at.halted;
    }))

-- the same where the end is observed on the view
pub leads_to_in : (i : Columns) (until limit date source : ℕ) (from : State) (n : Parts) (b v : Running) (k : Kept) (banks : List Meaning) (o : ReactionOutcome) (seen : List Obs) (after : State) (step : Step)
    (more : List Obs) → v ≡ b → k.fixed ≡ v.fixed → b.fixed.net ≡ n → o ≡ Leads seen after → IsAt (record v { fixed = k.fixed; store = k.store }) banks after → b.row ≡ source
    → (step_of (comes_next b.fixed.net until (limit - after.fired) after) ≡ step) × (end_seen (comes_next b.fixed.net until (limit - after.fired) after) ≡ more)
    → IsStep i until limit date source from (record v { fixed = k.fixed; store = k.store }) banks o step × (step_seen n until limit o ≡ seen_in o ++ more)
leads_to_in i until limit date source from n b v k banks o seen after step more is fixed net leads at row answers =
    let same = ap (λ (f : Fixed). f.net) fixed ∙ ap (λ (x : Running). x.fixed.net) is in
    leads_to i until limit date source from n (record v { fixed = k.fixed; store = k.store }) banks o seen after step more (same ∙ net) leads at (ap (λ (x : Running). x.row) is ∙ row)
    (subst (λ (m : Parts). (step_of (comes_next m until (limit - after.fired) after) ≡ step) × (end_seen (comes_next m until (limit - after.fired) after) ≡ more)) (sym same) answers)

-- ---- what is written

pub ok_as : {T E U F : Type 0} {old new : SinkState} {t : List ℕ} (x : T) (y : U) → Writes {T = T} {E = E} old new t (Ok x) → Writes {T = U} {E = F} old new t (Ok y)
ok_as x y w = record { ok = w.ok; quiet = w.quiet; works = w.works; cut = w.cut; dropped = w.dropped; cause = w.cause; fails = w.fails; later = w.later }

pub err_as : {T E U F : Type 0} {old new : SinkState} {t : List ℕ} (r : Result T E) (s : Result U F) (e : E) (f : F) → r ≡ Err e → s ≡ Err f → Writes old new t r → Writes old new t s
err_as {t = t} r s e f h k w = same_text (append-nil t) (stopped_writes t [] r s e f h k w)

pub no_ok : {T E : Type 0} (P : T → Type 0) (r : Result T E) (e : E) → r ≡ Err e → IfOk r P
no_ok P r e h = subst (λ x. IfOk x P) (sym h) tt

-- out failed in the reaction
pub step_cut : {T E U F : Type 0} {old new : SinkState} (n : Parts) (until limit : ℕ) (o : ReactionOutcome) (r : Result T E) (s : Result U F) (e : E) (f : F) → r ≡ Err e → s ≡ Err f
    → Writes old new (text (seen_in o)) r → Writes old new (text (step_seen n until limit o)) s
step_cut n until limit o r s e f h k w =
    same_text (sym (text-append (seen_in o) (behind n until limit o)) ∙ ap text (sym (seen_behind n until limit o)))
    (stopped_writes (text (seen_in o)) (text (behind n until limit o)) r s e f h k w)

-- the reaction was written, and then this
pub step_written : {T E V H : Type 0} {old mid new : SinkState} (o : ReactionOutcome) (os more : List Obs) (x : T) (y : Result V H) → os ≡ seen_in o ++ more
    → Writes {T = T} {E = E} old mid (text (seen_in o)) (Ok x) → Writes mid new (text more) y → Writes old new (text os) y
step_written o os more x y is w v =
    same_text (sym (text-append (seen_in o) more) ∙ ap text (sym is)) (then_writes (text (seen_in o)) (text more) (Ok x) y x refl w v)

pub ready_kept : (v : Running) (k : Kept) → k.fixed ≡ v.fixed → k.store ≡ v.store → IsReady v → IsReady (record v { fixed = k.fixed; store = k.store })
ready_kept v k fixed e h =
    subst (λ (f : Fixed). IsReady (record v { fixed = f; store = k.store })) (sym fixed) (subst (λ (x : Standing). IsReady (record v { store = x })) (sym e) h)
