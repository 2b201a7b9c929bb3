-- The loop that drives a run and its dump.
use Rattle.std.proofs.Common.{◌≡◌, ℕ, ◌+◌, ◌-◌, ◌^◌, ◌≤◌, List, [], ◌∷◌, ◌++◌, Bool, true, false, refl, sym, ap, ◌∙◌, subst, arith, append-nil, append_assoc, Result, Ok, Err}
use Rattle.std.specs.Prelude.{Option, None, min, if◌then◌else◌}
use Rattle.sci_base.specs.declared.observation.Obs.{Obs}
use Rattle.sci_base.specs.declared.observation.EndWord.{EndWord}
use Rattle.sci_base.specs.declared.observation.StopWord.{StopWord}
use Rattle.sci_io.specs.Taken.{SinkState, direct, Writes, UnderWay}
use Rattle.sci_io.specs.declared.sink.Failed.{Failed}
use Rattle.sci_io.proofs.Advance.{same_text, then_writes, stopped as stopped_writes, next_front, finished, written_first}
use Rattle.sci_net.specs.Parts.{Parts, IsBlock}
use Rattle.sci_net.specs.Net.{IsNet}
use Rattle.sci_net.specs.Sources.{source_of}
use Rattle.sci_places.specs.Flat.{values_at}
use Rattle.sci_reaction.specs.Memory.{Memory, Columns, AreColumns}
use Rattle.sci_pending.specs.Pending.{Event}
use Rattle.sci_bank.specs.Bank.{Meaning}
use Rattle.sci_run.specs.Laws.{AreLoopFree}
use Rattle.sci_run.specs.Run.{State, first_state, taken, ReactionOutcome, Leads, StopsWith, IsOutcome, Decision, Over, Fires, comes_next, Reacts, Stops}
use Rattle.sci_sim.specs.declared.end.RunEnd.{RunEnd}
use Rattle.sci_sim.specs.declared.end.RunEnd.TheVariants.{End as Ended, Stop as Stopped}
use Rattle.sci_sim.specs.declared.end.Step.{Step}
use Rattle.sci_sim.specs.declared.end.Step.TheVariants.{More, Over as IsOver}
use Rattle.sci_store.specs.Frame.{Fixed}
use Rattle.sci_sim.specs.At.{Running, IsAt, IsAtStart}
use Rattle.sci_sim.specs.Reacting.{FiresNext, start as at_start, event as by_event}
use Rattle.sci_sim.specs.Steps.{step_of, IsStep}
use Rattle.sci_sim.proofs.Runs.{IsOnWay}
use Rattle.sci_vcd.specs.Waveforms.{Waveforms}
use Rattle.sci_vcd.specs.Spelling.{spelling}
use Rattle.sci_vcd.specs.Writing.{Writing, IsWriting, MayClose, text_of, told_at, tick_text}
use Rattle.sci_wave.specs.History.{IsHistory, start, event, IsWholeHistory, ended, stopped, stopped_at_start}
use Rattle.sci_wave.specs.RunDump.{IsDumpOf, IsRunDump}
use Rattle.sci_wave.specs.Following.{IsFollowed, due_text, moved_to}
use Rattle.sci_wave.proofs.Followed.{whole_dump, GoesOn, goes_on, held_still}
use Rattle.sci_wave.proofs.Completed.{reached_early, rises, completed_behind}

-- ---- a sink that never fails

pub never_fails : {T : Type 0} (r : Result T Failed) (e : Failed) (text : List ℕ) → r ≡ Err e → Writes (direct None 0 false) (direct None 0 false) text r → ⊥
never_fails (Ok x) e text is h = absurd (cc is)
never_fails (Err f) e text is h = let one_more : 0 ≡ min (0 + 1) (2 ^ 64 - 1) = h.cause in omega (arith, one_more)

-- ---- a text more

pub written_more : {T U : Type 0} {old mid new : SinkState} (a b : List ℕ) (r : Result T Failed) (x : T) (y : U) → r ≡ Ok x → Writes {T = Unit {0}} {E = Failed} old mid a (Ok tt) → Writes mid new b r
    → Writes {T = U} {E = Failed} old new (a ++ b) (Ok y)
written_more {old = old} {mid = mid} a b r x y is h g = finished y (next_front b [] r x is (subst (λ (l : List ℕ). UnderWay old mid (a ++ b) l) (sym (append-nil b)) (written_first a b (Ok tt) tt refl h)) g)

pub written_cut : {T U : Type 0} {old mid new : SinkState} (a b more : List ℕ) (r : Result T Failed) (s : Result U Failed) (e f : Failed) → r ≡ Err e → s ≡ Err f
    → Writes {T = Unit {0}} {E = Failed} old mid a (Ok tt) → Writes mid new b r → Writes old new ((a ++ b) ++ more) s
written_cut a b more r s e f re sf h g =
    let cut : Writes _ _ (b ++ more) s = stopped_writes b more r s e f re sf g in
    same_text (sym (append_assoc a b more)) (then_writes a (b ++ more) (Ok tt) s tt refl h cut)

-- ---- where a run stands between two steps

pub data Standing (n : Parts) (i : Columns) (until limit : ℕ) (r : Running) (banks : List Meaning) : List State → State → Type 0 where
  begins : IsAtStart n r banks → Standing n i until limit r banks [] (first_state n)
  goes : (states : List State) (st : State) (e : Event) → r.started ≡ true → IsAt r banks st → IsHistory n i until limit states st → comes_next n until (limit - st.fired) st ≡ Fires e
      → Standing n i until limit r banks states st

-- the source that fires next, and what its reaction adds
pub record NextOf (n : Parts) (i : Columns) (until limit : ℕ) (r : Running) (banks : List Meaning) (states : List State) (st : State) : Type 0 where
  pub from : State
  pub date : ℕ
  pub source : ℕ
  pub at : IsAt r banks st
  pub fires : FiresNext r.fixed.net until limit r.started st date source from
  pub memory : from.memory ≡ st.memory
  pub reacted : (after : State) (seen : List Obs) → Reacts n i date (source_of n source) from after seen → IsHistory n i until limit (states ++ after ∷ []) after × (st.now ≤ after.now)
  pub stops : (seen : List Obs) → Stops n i date (source_of n source) from seen → IsWholeHistory n i until limit states
  pub early : st.now ≤ 2 ^ 62

module _ (n : Parts) (i : Columns) (until limit : ℕ) (net : IsNet n) (free : AreLoopFree n) (columns : AreColumns n i) (early : until ≤ 2 ^ 62) where
  pub next_of : (r : Running) (banks : List Meaning) (states : List State) (st : State) → r.fixed.net ≡ n → Standing n i until limit r banks states st → NextOf n i until limit r banks states st
  next_of r banks [] st is (begins s) = record {
    from = first_state n;
    date = 0;
    source = 0;
    at = s.at;
    fires = subst (λ (m : Parts). FiresNext m until limit r.started (first_state n) 0 0 (first_state n)) (sym is)
        (subst (λ (b : Bool). FiresNext n until limit b (first_state n) 0 0 (first_state n)) (sym s.not_started) at_start);
    memory = refl;
    reacted = λ after seen h. (start after seen h, omega arith);
    stops = λ seen h. stopped_at_start h.block h.word h.result;
    early = omega arith;
  }
  next_of r banks states st is (goes _ _ e started at history fires) = record {
    from = taken st e;
    date = e.date;
    source = e.source;
    at = at;
    fires = subst (λ (m : Parts). FiresNext m until limit r.started st e.date e.source (taken st e)) (sym is)
        (subst (λ (b : Bool). FiresNext n until limit b st e.date e.source (taken st e)) (sym started) (by_event st e fires));
    memory = refl;
    reacted = λ after seen h. (event states st after e seen history fires h, rises n i until limit net free columns early states st after e seen history fires h);
    stops = λ seen h. stopped states st e h.block h.word history fires h.result;
    early = reached_early n i until limit net free columns early states st history;
  }

-- ---- what a step came to

-- a reaction with values
pub record Led (n : Parts) (i : Columns) (until limit : ℕ) (date source : ℕ) (from : State) (b : Running) (later : List Meaning) (step : Step) : Type 0 where
  pub after : State
  pub seen : List Obs
  pub reacts : Reacts n i date (source_of n source) from after seen
  pub at : IsAt b later after
  pub comes : step ≡ step_of (comes_next n until (limit - after.fired) after)

module _ (n : Parts) (i : Columns) (until limit date source : ℕ) (from : State) (b : Running) (later : List Meaning) (is : b.fixed.net ≡ n) where
  pub led : (o : ReactionOutcome) → IsOutcome n i date (source_of n source) from o → (step : Step) → IsStep i until limit date source from b later o step
      → ((word : StopWord) → step ≡ IsOver (Stopped word) → ⊥) → Led n i until limit date source from b later step
  led (Leads seen after) h step (at, row, comes) other = record { after = after; seen = seen; reacts = h; at = at; comes = comes ∙ ap (λ (m : Parts). step_of (comes_next m until (limit - after.fired) after)) is }
  led (StopsWith seen) h More s other = absurd s
  led (StopsWith seen) h (IsOver (Ended word)) s other = absurd s
  led (StopsWith seen) h (IsOver (Stopped word)) s other = absurd (other word refl)

  no_stop : (d : Decision) (word : StopWord) → step_of d ≡ IsOver (Stopped word) → ⊥
  no_stop (Over end) word e = absurd (cc e)
  no_stop (Fires e) word h = absurd (cc h)

  pub stopped_there : (o : ReactionOutcome) → IsOutcome n i date (source_of n source) from o → (step : Step) → IsStep i until limit date source from b later o step
      → (word : StopWord) → step ≡ IsOver (Stopped word) → (seen : List Obs) × Stops n i date (source_of n source) from seen
  stopped_there (Leads seen after) h step (at, row, comes) word e = absurd (no_stop (comes_next b.fixed.net until (limit - after.fired) after) word (sym comes ∙ e))
  stopped_there (StopsWith seen) h step s word e = (seen, h)

pub some_event : (d : Decision) → step_of d ≡ More → (e : Event) × (d ≡ Fires e)
some_event (Over word) h = absurd (cc h)
some_event (Fires e) h = (e, refl)

pub some_end : (d : Decision) (end : RunEnd) → step_of d ≡ IsOver end → (word : EndWord) × (d ≡ Over word)
some_end (Over word) end h = (word, refl)
some_end (Fires e) end h = absurd (cc h)

pub not_stop : (step : Step) → ((e : RunEnd) → step ≡ IsOver e → (word : StopWord) → e ≡ Stopped word → ⊥) → (word : StopWord) → step ≡ IsOver (Stopped word) → ⊥
not_stop step h word is = h (Stopped word) is word refl

-- ---- the loop

pub record Driven (n : Parts) (i : Columns) (until limit : ℕ) (from r : Running) (banks : List Meaning) (t0 t1 : SinkState) (o : Writing) (date : ℕ) (s0 s1 : SinkState) (k : ℕ) : Type 0 where
  pub way : IsOnWay i until limit from r banks t0 t1 k
  pub states : List State
  pub st : State
  pub told : Option Waveforms
  pub stands : Standing n i until limit r banks states st
  pub followed : IsFollowed n states st told o
  pub now : date ≡ st.now
  pub writing : IsWriting o
  pub written : Writes {T = Unit {0}} {E = Failed} s0 s1 (text_of told) (Ok tt)

module _ (n : Parts) (i : Columns) (until limit : ℕ) (net : IsNet n) (free : AreLoopFree n) (columns : AreColumns n i) (early : until ≤ 2 ^ 62)
    (from r : Running) (banks : List Meaning) (t0 t1 : SinkState) (o : Writing) (date : ℕ) (s0 s1 : SinkState) (k : ℕ) (here : from.fixed.net ≡ n)
    (d : Driven n i until limit from r banks t0 t1 o date s0 s1 k) where
  pub net_is : r.fixed.net ≡ n
  net_is = ap (λ (x : Fixed). x.net) d.way.fixed ∙ here

  pub next : NextOf n i until limit r banks d.states d.st
  next = next_of n i until limit net free columns early r banks d.states d.st net_is d.stands

  pub may_close : MayClose o.closed date
  may_close = subst (λ (t : ℕ). MayClose o.closed t) (sym d.now) d.followed.may

  pub date_early : date ≤ 2 ^ 62
  date_early = let e = next.early in let now = d.now in omega (arith, e, now)

  pub led_by : (b : Running) (later : List Meaning) → b.fixed ≡ r.fixed → (p : ReactionOutcome) → IsOutcome r.fixed.net i next.date (source_of r.fixed.net next.source) next.from p → (step : Step)
      → IsStep i until limit next.date next.source next.from b later p step → ((word : StopWord) → step ≡ IsOver (Stopped word) → ⊥) → Led n i until limit next.date next.source next.from b later step
  led_by b later fixed p h step s other =
      led n i until limit next.date next.source next.from b later (ap (λ (x : Fixed). x.net) fixed ∙ net_is) p
      (subst (λ (m : Parts). IsOutcome m i next.date (source_of m next.source) next.from p) net_is h) step s other

  pub whole_by : (b : Running) (later : List Meaning) → b.fixed ≡ r.fixed → (p : ReactionOutcome) → IsOutcome r.fixed.net i next.date (source_of r.fixed.net next.source) next.from p → (step : Step)
      → IsStep i until limit next.date next.source next.from b later p step → (word : StopWord) → step ≡ IsOver (Stopped word) → IsWholeHistory n i until limit d.states
  whole_by b later fixed p h step s word is =
      let stop = stopped_there n i until limit next.date next.source next.from b later (ap (λ (x : Fixed). x.net) fixed ∙ net_is) p
      (subst (λ (m : Parts). IsOutcome m i next.date (source_of m next.source) next.from p) net_is h) step s word is in
      next.stops stop.0 stop.1

  -- the tick under way is the last one
  module _ (whole : IsWholeHistory n i until limit d.states) where
    dump_here : IsDumpOf n d.states (told_at d.told o d.st.now) × (spelling (told_at d.told o d.st.now) ≡ text_of d.told ++ tick_text o d.st.now)
    dump_here = whole_dump n d.states d.st d.told o net d.followed d.writing next.early

    text_is : text_of d.told ++ tick_text o date ≡ spelling (told_at d.told o d.st.now)
    text_is = ap (λ (t : ℕ). text_of d.told ++ tick_text o t) d.now ∙ sym dump_here.1

    pub dumped : {T U : Type 0} {new : SinkState} (p : Result T Failed) (x : T) (y : U) → p ≡ Ok x → Writes s1 new (tick_text o date) p
        → (w : Waveforms) × IsRunDump n i until limit w × Writes {T = U} {E = Failed} s0 new (spelling w) (Ok y)
    dumped p x y is h = (told_at d.told o d.st.now, (d.states, whole, dump_here.0), same_text text_is (written_more (text_of d.told) (tick_text o date) p x y is d.written h))

    pub dump_cut : {T U : Type 0} {new : SinkState} (p : Result T Failed) (q : Result U Failed) (e f : Failed) → p ≡ Err e → q ≡ Err f → Writes s1 new (tick_text o date) p
        → (w : Waveforms) × IsRunDump n i until limit w × Writes s0 new (spelling w) q
    dump_cut p q e f pe qf h =
        (told_at d.told o d.st.now, (d.states, whole, dump_here.0), same_text (append-nil (text_of d.told ++ tick_text o date) ∙ text_is) (written_cut (text_of d.told) (tick_text o date) [] p q e f pe qf d.written h))

  -- a reaction with values
  module _ (b : Running) (later : List Meaning) (step : Step) (l : Led n i until limit next.date next.source next.from b later step) where
    pub after_now : b.now ≡ l.after.now
    after_now = l.at.now

    history : IsHistory n i until limit (d.states ++ l.after ∷ []) l.after × (d.st.now ≤ l.after.now)
    history = next.reacted l.after l.seen l.reacts

    due_is : due_text o date b.now ≡ due_text o d.st.now l.after.now
    due_is = ap (λ (t : ℕ). due_text o t b.now) d.now ∙ ap (λ (t : ℕ). due_text o d.st.now t) after_now

    -- the tick before it was cut
    pub follow_cut : {T U : Type 0} {new : SinkState} (p : Result T Failed) (q : Result U Failed) (e f : Failed) → p ≡ Err e → q ≡ Err f → Writes s1 new (due_text o date b.now) p
        → (w : Waveforms) × IsRunDump n i until limit w × Writes s0 new (spelling w) q
    follow_cut p q e f pe qf h =
        let c = completed_behind n i until limit net free columns early d.states d.st l.after d.told o history.0 d.followed d.writing next.early history.1 in
        (c.0, c.2, same_text (ap (λ (t : List ℕ). (text_of d.told ++ t) ++ c.1) due_is ∙ sym c.3) (written_cut (text_of d.told) (due_text o date b.now) c.1 p q e f pe qf d.written h))

    module _ (fixed : b.fixed ≡ r.fixed) (p : Writing) (is : p ≡ record (moved_to o date b.now) { noted = p.noted })
        (noted : (c : ℕ) → IsBlock b.fixed.net c → values_at b.fixed.net p.noted c ≡ (if l.after.active c then l.after.memory.held c else values_at b.fixed.net o.noted c)) where
      b_is : b.fixed.net ≡ n
      b_is = ap (λ (x : Fixed). x.net) fixed ∙ net_is

      noted_there : (c : ℕ) → IsBlock n c → values_at n p.noted c ≡ l.after.memory.held c
      noted_there c block =
          let given = subst (λ (m : Parts). (c : ℕ) → IsBlock m c → values_at m p.noted c ≡ (if l.after.active c then l.after.memory.held c else values_at m o.noted c)) b_is noted in
          given c block ∙ held_still n i next.date (source_of n next.source) next.from l.after l.seen l.reacts c block (values_at n o.noted c) (d.followed.noted c block ∙ ap (λ (m : Memory). m.held c) (sym next.memory))

      moved_is : p ≡ record (moved_to o d.st.now l.after.now) { noted = p.noted }
      moved_is = is ∙ ap (λ (t : ℕ). record (moved_to o t b.now) { noted = p.noted }) d.now ∙ ap (λ (t : ℕ). record (moved_to o d.st.now t) { noted = p.noted }) after_now

      pub further : GoesOn n d.states d.told o p d.st.now l.after
      further = goes_on n d.states d.st l.after d.told o p net d.followed d.writing next.early history.1 moved_is noted_there

      pub written_further : {T : Type 0} {new : SinkState} (q : Result T Failed) (x : T) → q ≡ Ok x → Writes s1 new (due_text o date b.now) q → Writes {T = Unit {0}} {E = Failed} s0 new (text_of further.now_told) (Ok tt)
      written_further q x qx h = same_text (ap (λ (t : List ℕ). text_of d.told ++ t) due_is ∙ sym further.text) (written_more (text_of d.told) (due_text o date b.now) q x tt qx d.written h)

      -- the run goes on
      pub driven_on : {t2 s2 : SinkState} (t : ℕ) → t ≡ b.now → (way : IsOnWay i until limit from b later t0 t2 (k + 1)) → b.started ≡ true → step ≡ More → IsWriting p → {T : Type 0} (q : Result T Failed) (x : T) → q ≡ Ok x
          → Writes s1 s2 (due_text o date b.now) q → Driven n i until limit from b later t0 t2 p t s0 s2 (k + 1)
      driven_on t t_is way started more writing q x qx h =
          let e = some_event (comes_next n until (limit - l.after.fired) l.after) (sym l.comes ∙ more) in
          record {
            way = way;
            states = d.states ++ l.after ∷ [];
            st = l.after;
            told = further.now_told;
            stands = goes (d.states ++ l.after ∷ []) l.after e.0 started l.at history.0 e.1;
            followed = further.followed;
            now = t_is ∙ after_now;
            writing = writing;
            written = written_further q x qx h;
          }

      -- or it is over, and the last tick is closed
      module _ (end : RunEnd) (over : step ≡ IsOver end) (writing : IsWriting p) (t : ℕ) (t_is : t ≡ b.now) where
        whole_now : IsWholeHistory n i until limit (d.states ++ l.after ∷ [])
        whole_now = let w = some_end (comes_next n until (limit - l.after.fired) l.after) end (sym l.comes ∙ over) in ended (d.states ++ l.after ∷ []) l.after w.0 history.0 w.1

        after_early : l.after.now ≤ 2 ^ 62
        after_early = reached_early n i until limit net free columns early (d.states ++ l.after ∷ []) l.after history.0

        pub may_close_last : MayClose p.closed t
        may_close_last = subst (λ (x : ℕ). MayClose p.closed x) (sym (t_is ∙ after_now)) further.followed.may

        pub last_early : t ≤ 2 ^ 62
        last_early = let e = after_early in let now = after_now in omega (arith, e, now, t_is)

        last_dump : IsDumpOf n (d.states ++ l.after ∷ []) (told_at further.now_told p l.after.now) × (spelling (told_at further.now_told p l.after.now) ≡ text_of further.now_told ++ tick_text p l.after.now)
        last_dump = whole_dump n (d.states ++ l.after ∷ []) l.after further.now_told p net further.followed writing after_early

        last_text : text_of further.now_told ++ tick_text p t ≡ spelling (told_at further.now_told p l.after.now)
        last_text = ap (λ (x : ℕ). text_of further.now_told ++ tick_text p x) (t_is ∙ after_now) ∙ sym last_dump.1

        pub dumped_last : {T U V : Type 0} {s2 new : SinkState} (q : Result T Failed) (x : T) → q ≡ Ok x → Writes s1 s2 (due_text o date b.now) q → (a : Result U Failed) (y : U) (z : V) → a ≡ Ok y
            → Writes s2 new (tick_text p t) a → (w : Waveforms) × IsRunDump n i until limit w × Writes {T = V} {E = Failed} s0 new (spelling w) (Ok z)
        dumped_last q x qx h a y z ay g = (
          told_at further.now_told p l.after.now,
          (d.states ++ l.after ∷ [], whole_now, last_dump.0),
          same_text last_text (written_more (text_of further.now_told) (tick_text p t) a y z ay (written_further q x qx h) g),
        )

        pub last_cut : {T U V : Type 0} {s2 new : SinkState} (q : Result T Failed) (x : T) → q ≡ Ok x → Writes s1 s2 (due_text o date b.now) q → (a : Result U Failed) (c : Result V Failed) (e f : Failed) → a ≡ Err e → c ≡ Err f
            → Writes s2 new (tick_text p t) a → (w : Waveforms) × IsRunDump n i until limit w × Writes s0 new (spelling w) c
        last_cut q x qx h a c e f ae cf g = (
          told_at further.now_told p l.after.now,
          (d.states ++ l.after ∷ [], whole_now, last_dump.0),
          same_text (append-nil (text_of further.now_told ++ tick_text p t) ∙ last_text)
              (written_cut (text_of further.now_told) (tick_text p t) [] a c e f ae cf (written_further q x qx h) g),
        )
