-- A step of the run: a reaction, and what comes behind it.
use Rattle.std.specs.declared.alloc.Global.{Global}
use Rattle.std.proofs.Common.{Vec, Contains, ⊎_elim, ◌≡◌, ℕ, Bool, false, List, [], ◌∷◌, ◌++◌, refl, sym, ap, subst, ◌∙◌, append-nil, true≢false, Result, Ok, Err}
use Rattle.std.specs.Prelude.{Some, None}
use Rattle.sci_base.specs.declared.observation.Obs.{Obs}
use Rattle.sci_base.specs.declared.observation.Obs.TheVariants.{End}
use Rattle.sci_base.specs.declared.observation.EndWord.{EndWord}
use Rattle.sci_io.specs.Taken.{SinkState, Writes}
use Rattle.sci_io.proofs.Advance.{stopped, same_text, then_writes}
use Rattle.sci_trace.specs.Lines.{line, text}
use Rattle.sci_net.specs.declared.Source.{Source}
use Rattle.sci_net.specs.Parts.{Parts, IsBlock}
use Rattle.sci_reaction.proofs.Lists.{Has-cases}
use Rattle.sci_reaction.proofs.Rows.{Contains-has, has-Contains}
use Rattle.sci_pending.specs.Pending.{Pending, without}
use Rattle.sci_run.specs.Run.{State, ReactionOutcome, Leads, StopsWith, Decision, Over, Fires, comes_next}
use Rattle.sci_bank.specs.Bank.{Meaning}
use Rattle.sci_events.specs.declared.events.Event.{Event as Kept}
use Rattle.sci_events.specs.Events.{event_of, Waiting}
use Rattle.sci_store.specs.Frame.{Fixed}
use Rattle.sci_store.specs.Marks.{mark_at, idle}
use Rattle.sci_store.specs.Store.{Standing, AreIdle}
use Rattle.sci_judge.specs.declared.rows.SourcePlan.{SourcePlan}
use Rattle.sci_judge.specs.declared.judging.Due.{Due}
use Rattle.sci_judge.proofs.Reacting.{shows_marked}
use Rattle.sci_store.proofs.Writing.{text-append}
use Rattle.sci_judge.specs.Reacting.{Shows, AreMarksOf, IsReacted, blocks_at, decision_of, seen_in, end_seen, step_seen, Follows, IsStep}
use Rattle.sci_judge.proofs.Sinking.{err_writes, ok_writes}

-- the reaction was cut off
pub step_cut : {T E U F : Type 0} {a b : SinkState} (n : Parts) (until left : ℕ) (o : ReactionOutcome) (r : Result T E) (q : Result U F) (e : E) (f : F) → r ≡ Err e → q ≡ Err f
    → Writes a b (text (seen_in o)) r → Writes a b (text (step_seen n until left o)) q
step_cut n until left (Leads seen after) r q e f is was w =
    same_text (sym (text-append seen (end_seen (comes_next n until left after)))) (stopped (text seen) (text (end_seen (comes_next n until left after))) r q e f is was w)
step_cut n until left (StopsWith seen) r q e f is was w = err_writes (text seen) r q e f is was w

-- a reaction that didn't stop
pub record HasLed (f : Fixed) (source : Source) (blocks : List ℕ) (s : Standing) (banks : List Meaning) (pending : Pending) (o : ReactionOutcome) : Type 0 where
  pub seen : List Obs
  pub after : State
  pub is : o ≡ Leads seen after
  pub shows : Shows f s banks pending after
  pub marks : AreMarksOf f source blocks s after

pub has_led : (f : Fixed) (source : Source) (blocks : List ℕ) (s : Standing) (banks : List Meaning) (pending : Pending) (o : ReactionOutcome) (went : Bool)
    → IsReacted f source blocks s banks pending o went → went ≡ false → HasLed f source blocks s banks pending o
has_led f source blocks s banks pending (Leads seen after) went h off = record { seen = seen; after = after; is = refl; shows = h.1; marks = h.2 }
has_led f source blocks s banks pending (StopsWith seen) went h off = absurd (true≢false (sym h ∙ off))

module _ (f : Fixed) (until left : ℕ) (o : ReactionOutcome) (seen : List Obs) (after : State) (is : o ≡ Leads seen after) where
  -- the run ends there
  module _ (word : EndWord) (ends : comes_next f.net until left after ≡ Over word) where
    seen_is : step_seen f.net until left o ≡ seen ++ End word ∷ []
    seen_is = ap (step_seen f.net until left) is ∙ ap (λ d. seen ++ end_seen d) ends

    pub end_written : {T E U F : Type 0} {a b c : SinkState} (r : Result T E) (q : Result U F) (x : T) → r ≡ Ok x → Writes a b (text (seen_in o)) r
        → Writes b c (line (End word)) q → Writes a c (text (step_seen f.net until left o)) q
    end_written {a = a} {b = b} r q x was first second =
        same_text (sym (ap text seen_is ∙ (text-append seen (End word ∷ []) ∙ ap (λ t. text seen ++ t) (append-nil (line (End word))))))
        (then_writes (text seen) (line (End word)) r q x was (subst (λ (p : ReactionOutcome). Writes a b (text (seen_in p)) r) is first) second)

    pub ends_step : (s : Standing) (banks : List Meaning) (pending : Pending) → IsStep f until left s banks pending o None
    ends_step s banks pending =
        subst (λ (p : ReactionOutcome). IsStep f until left s banks pending p None) (sym is)
        (subst (λ (d : Decision). Follows f s banks pending after d None) (sym ends) refl)

  -- an event fires next
  module _ (k : Kept) (fires : comes_next f.net until left after ≡ Fires (event_of k)) where
    pub went_written : {T E U F : Type 0} {a b : SinkState} (r : Result T E) (x : T) (y : U) → r ≡ Ok x → Writes a b (text (seen_in o)) r
        → Writes {T = U} {E = F} a b (text (step_seen f.net until left o)) (Ok y)
    went_written {a = a} {b = b} r x y was w =
        same_text (ap text (sym (ap (step_seen f.net until left) is ∙ (ap (λ d. seen ++ end_seen d) fires ∙ append-nil seen))))
        (ok_writes (text seen) r x y was (subst (λ (p : ReactionOutcome). Writes a b (text (seen_in p)) r) is w))

    pub fires_step : (s t : Standing) (banks : List Meaning) (old new : Waiting) → Shows f s banks old.pending after → t ≡ record s { marks = t.marks }
        → new ≡ record old { pending = record old.pending { events = without k.order old.pending.events } } → IsStep f until left t banks new.pending o (Some k)
    fires_step s t banks old new shows cleared moved =
        subst (λ (p : ReactionOutcome). IsStep f until left t banks new.pending p (Some k)) (sym is)
        (subst (λ (d : Decision). Follows f t banks new.pending after d (Some k)) (sym fires) (
          k,
          refl,
          refl,
          (let here = shows_marked f s t banks old.pending after cleared shows in
              record {
                seated = here.seated;
                memory = here.memory;
                in_range = here.in_range;
                pending_is = ap (λ (w : Waiting). w.pending) moved
                    ∙ ap (λ (p : Pending). let x : Pending = record p { events = without k.order p.events } in x) shows.pending_is;
                counts = here.counts;
              }),
        ))

-- no block is marked: those of the source are cleared, and no other was
pub all_idle : (f : Fixed) (blocks : List ℕ) (s t : Standing) → ((b : ℕ) → Contains blocks b → mark_at t.marks b ≡ idle) → ((b : ℕ) → (Contains blocks b → ⊥) → mark_at t.marks b ≡ mark_at s.marks b)
    → ((b : ℕ) → IsBlock f.net b → (Contains blocks b → ⊥) → mark_at s.marks b ≡ idle) → AreIdle f t
all_idle f blocks s t cleared others marked b block =
    ⊎_elim (λ on. cleared b (has-Contains blocks b on))
    (λ off. let out : Contains blocks b → ⊥ = λ h. off (Contains-has blocks b h) in others b out ∙ marked b block out) (Has-cases blocks b)

-- what comes behind a reaction over which the frame and the plans stay
pub decided : (f k : Fixed) (plans later : Vec SourcePlan Global) (at : ℕ) (source : Source) (until left : ℕ) (s : Standing) (pending : Pending) (due : Due) (after : State) → k ≡ f → later ≡ plans
    → ((source : Source) (st : State) → pending ≡ st.pending → AreMarksOf k source (blocks_at later.items at) s st → decision_of due ≡ comes_next k.net until left st)
    → pending ≡ after.pending → AreMarksOf f source (blocks_at plans.items at) s after → decision_of due ≡ comes_next f.net until left after
decided f k plans later at source until left s pending due after same_frame same_plans behind is marks =
    subst (λ (x : Fixed). decision_of due ≡ comes_next x.net until left after) same_frame
    (behind source after is
    (subst (λ (x : Fixed). AreMarksOf x source (blocks_at later.items at) s after) (sym same_frame)
    (subst (λ (ps : Vec SourcePlan Global). AreMarksOf f source (blocks_at ps.items at) s after) (sym same_plans) marks)))
