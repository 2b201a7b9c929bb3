-- The reaction of a source, by its row.
use Rattle.std.specs.declared.alloc.Global.{Global}
use Rattle.std.proofs.Common.{Vec, ◌≡◌, ℕ, suc, ◌<◌, ◌≤◌, ◌+◌, ⊎_elim, Bool, true, false, ℤ, List, [], ◌∷◌, ◌++◌, length, get_or, pos, refl, sym, ap, subst, ◌∙◌, arith, Contains}
use Rattle.std.proofs.lemmas.List.{get_or-map}
use Rattle.std.specs.Prelude.{if◌then◌else◌, Option, Some, None, negsuc}
use Rattle.sci_base.specs.Lists.{at, listed}
use Rattle.sci_base.specs.declared.observation.Obs.{Obs}
use Rattle.sci_base.specs.declared.observation.Obs.TheVariants.{Stop}
use Rattle.sci_base.specs.declared.observation.StopWord.{StopWord}
use Rattle.sci_forms.specs.declared.ports.Port.{Port as Signal}
use Rattle.sci_forms.specs.declared.spec.Spec.{Spec}
use Rattle.sci_forms.specs.Ports.{elements}
use Rattle.sci_kinds.specs.Asks.{laid}
use Rattle.sci_kinds.specs.Table.{delay}
use Rattle.sci_net.specs.declared.Feed.{Feed}
use Rattle.sci_net.specs.declared.Source.{Source}
use Rattle.sci_net.specs.declared.Source.TheVariants.{Start, Port}
use Rattle.sci_net.specs.Parts.{Parts, IsBlock, spec_of, wire_of}
use Rattle.sci_net.specs.Net.{IsNet}
use Rattle.sci_net.specs.Sources.{sources_of, source_of}
use Rattle.sci_reaction.specs.Equations.{Signals, output_among, input_in, all_inputs}
use Rattle.sci_reaction.proofs.Lists.{cons-Contains}
use Rattle.sci_reaction.proofs.Next.{some_next}
use Rattle.sci_reaction.proofs.Sources.{sources_are}
use Rattle.sci_reaction.proofs.Spreading.{possible}
use Rattle.sci_reaction.specs.Memory.{Columns}
use Rattle.sci_pass.proofs.Meanings.{no_delay}
use Rattle.sci_pending.specs.Pending.{Pending}
use Rattle.sci_run.specs.Activity.{Activity}
use Rattle.sci_run.specs.Programs.{with_delay, with_delays, delay_of, next_pending}
use Rattle.sci_run.specs.Observed.{header, values_seen, stop_seen, blocks_seen}
use Rattle.sci_run.specs.Run.{State, ReactionOutcome, Leads, StopsWith, IsOutcome, after_reaction}
use Rattle.sci_places.specs.Flat.{values_at}
use Rattle.sci_bank.specs.Bank.{Meaning}
use Rattle.sci_store.specs.Frame.{Fixed, IsFrame, AreSeated}
use Rattle.sci_store.specs.Blocks.{AreBlocksByNumber}
use Rattle.sci_store.specs.Rows.{ReadyRow, IsRowOf, IsReadyRow}
use Rattle.sci_store.specs.Runs.{MayStep}
use Rattle.sci_store.specs.Store.{Standing, ShowsMemory, ShowsValues}
use Rattle.sci_store.specs.Passed.{IsValued, IsPassed, IsStepped, AreAlikeCounts}
use Rattle.sci_store.specs.Written.{AreAmong, IsPlain}
use Rattle.sci_lines.specs.Lines.{IsHeader}
use Rattle.sci_store.specs.Delays.{delays_in}
use Rattle.sci_store.proofs.Covering.{row_blocks}
use Rattle.sci_store.proofs.Reacting.{outcome_here, AreKept, range_alike, masks_alike, sensed_alike, range_here, masks_here, sensed_here, states_here}
use Rattle.sci_judge.specs.Programming.{with_sources, AreSourcesOf}
use Rattle.sci_judge.specs.declared.rows.SourcePlan.{SourcePlan}
use Rattle.sci_judge.specs.Rows.{IsPlanOf, ArePlans}
use Rattle.sci_judge.specs.declared.judging.Judging.{Judging}
use Rattle.sci_judge.specs.Reacting.{IsSound, Shows, seen_in, blocks_at}

-- ---- what the active blocks program

same_delays : (date : ℕ) (f g : Feed → ℤ) (k : ℕ) (ss : List Source) (p : Pending) → ((q : Feed) → Contains ss (Port q) → f q ≡ g q)
    → with_delays date f k ss p ≡ with_delays date g k ss p
same_delays date f g k [] p h = refl
same_delays date f g k (Start ∷ ss) p h = same_delays date f g (k + 1) ss p (λ q c. h q (cons-Contains Start ss (Port q) c))
same_delays date f g k (Port r ∷ ss) p h =
    ap (λ (d : ℤ). with_delays date f (k + 1) ss (with_delay date k d p)) (h r (0, omega arith, refl))
    ∙ same_delays date f g (k + 1) ss (with_delay date k (g r) p) (λ q c. h q (cons-Contains (Port r) ss (Port q) c))

laid_same : (ps : List Signal) (xs ys : ℕ → List ℤ) → ((k : ℕ) → 1 ≤ k → k ≤ length ps → xs k ≡ ys k) → laid ps xs ≡ laid ps ys
laid_same [] xs ys h = refl
laid_same (p ∷ ps) xs ys h =
    ap (λ (v : List ℤ). listed (at v) (elements p) ++ laid ps (λ k. xs (suc k))) (h 1 (omega arith) (omega arith))
    ∙ ap (λ (l : List ℤ). listed (at (ys 1)) (elements p) ++ l)
    (laid_same ps (λ k. xs (suc k)) (λ k. ys (suc k)) (λ k l m. h (suc k) (omega arith) (omega (arith, m))))

inputs_same : (n : Parts) (y z : Signals) → IsNet n → ((b : ℕ) → IsBlock n b → y b ≡ z b) → (b : ℕ) → IsBlock n b
    → all_inputs (spec_of n b) (input_in n y b) ≡ all_inputs (spec_of n b) (input_in n z b)
inputs_same n y z net value b inside =
    laid_same (spec_of n b).ins (input_in n y b) (input_in n z b)
    (λ k l m. ap (λ vs. output_among (spec_of n (wire_of n b k).block).outs vs (wire_of n b k).port)
    (value (wire_of n b k).block (net.wired.wires_lead b k (record { block = inside; least = l; most = m })).block))

module _ (f : Fixed) (frame : IsFrame f) (source : Source) (s : Standing) (y : Signals) (active : Activity) (shown : ShowsValues f source s y active) where
  shown_delays : (q : Feed) → IsBlock f.net q.block → delays_in f s q ≡ delay_of f.net y active q
  shown_delays q block =
      let spec : Spec = spec_of f.net q.block in
      ap (λ (t : Bool). if t then delay spec q.port (all_inputs spec (input_in f.net (values_at f.net s.values) q.block)) else negsuc 0)
      (shown.active_are q.block block)
      ∙ ap (λ (u : List ℤ). if active q.block then delay spec q.port u else negsuc 0)
      (inputs_same f.net (values_at f.net s.values) y frame.net shown.values q.block block)

  quiet : (q : Feed) → (t : Bool) → active q.block ≡ t → IsBlock f.net q.block → (d : ℤ) → (if t then d else negsuc 0) ≡ delay_of f.net y active q → (t ≡ true → d ≡ negsuc 0)
      → delay_of f.net y active q ≡ negsuc 0
  quiet q true on block d is none = sym is ∙ none refl
  quiet q false off block d is none = sym is

  -- the sources of these blocks program what the run says
  pub programmed_is : (date : ℕ) (blocks ks : List ℕ) (p : Pending) → AreSourcesOf f.net blocks ks → AreAmong f.net active blocks
      → with_sources f.net date (delays_in f s) ks p ≡ next_pending f.net date y active p
  programmed_is date blocks ks p are among =
      are.all date (delays_in f s) p
      (λ q out none. shown_delays q out.block
      ∙ quiet q (active q.block) refl out.block (delay (spec_of f.net q.block) q.port (all_inputs (spec_of f.net q.block) (input_in f.net y q.block))) refl
      (λ on. ⊎_elim (λ off. absurd (off (among q.block out.block on)))
      (λ still. no_delay (spec_of f.net q.block) q.port (all_inputs (spec_of f.net q.block) (input_in f.net y q.block)) still) none))
      ∙ same_delays date (delays_in f s) (delay_of f.net y active) 0 (sources_of f.net) p (λ q c. shown_delays q ((sources_are f.net (Port q)).0 c).0.block)

-- ---- the plan of a source

-- the plan that is read of a source
pub record IsPlanned (f : Fixed) (plans : List SourcePlan) (k : ℕ) (p : SourcePlan) : Type 0 where
  pub plan : IsPlanOf f (source_of f.net k) p
  pub ready : IsReadyRow f p.row
  pub blocks_are : blocks_at plans k ≡ p.row.blocks

pub planned : (f : Fixed) (plans : List SourcePlan) → ArePlans f plans → (k : ℕ) → k < length (sources_of f.net) → (p : SourcePlan) → p ≡ get_or plans k p → IsPlanned f plans k p
planned f plans are k l p read =
    let within : k < length plans = let enough = are.enough in omega (arith, l, enough) in
    let plan = subst (IsPlanOf f (source_of f.net k)) (sym read) (are.each k p within) in
    record {
      plan = plan;
      ready = (source_of f.net k, plan.row);
      blocks_are = get_or-map (λ (q : SourcePlan). q.row.blocks) plans k p [] within ∙ ap (λ (q : SourcePlan). q.row.blocks) (sym read);
    }

-- its blocks by number
pub blocks_by_number : (f : Fixed) (plans : List SourcePlan) (k : ℕ) (p : SourcePlan) → IsPlanned f plans k p → AreBlocksByNumber f.net p.row.blocks
blocks_by_number f plans k p h = row_blocks f p.row h.ready

-- ---- what a reaction comes to

-- marks apart, what is kept stands for the same state
pub shows_marked : (f : Fixed) (s t : Standing) (banks : List Meaning) (pending : Pending) (st : State) → t ≡ record s { marks = t.marks } → Shows f s banks pending st
    → Shows f t banks pending st
shows_marked f s t banks pending st marked shows = record {
  seated = shows.seated;
  memory = subst (λ (u : Standing). ShowsMemory f u banks st.memory) (sym marked)
      (record { held = shows.memory.held; cursor = shows.memory.cursor; state = shows.memory.state });
  in_range = shows.in_range;
  pending_is = shows.pending_is;
  counts = shows.counts;
}

-- a block that is active is one of the row's
pub among_row : (f : Fixed) (source : Source) (row : ReadyRow) → IsRowOf f source row → (i : Columns) (st : State) (s t : Standing) (banks mid : List Meaning)
    (v : IsValued f i source st.memory s t banks mid) → AreAmong f.net v.active row.blocks
among_row f source row is i st s t banks mid v b block on =
    (is.row.blocks_are.same b).1 ((is.entries.exactly b).1 (possible f.net source _ ((v.active_are b block).0 on)))

-- behind the values the states may be stepped
pub may_step : (f : Fixed) → IsFrame f → (source : Source) (i : Columns) (st : State) (s t : Standing) (banks mid : List Meaning) (pending : Pending) → Shows f s banks pending st
    → IsValued f i source st.memory s t banks mid → MayStep f i t mid
may_step f frame source i st s t banks mid pending shows v = record {
  values = range_here f source frame i st.memory s t banks mid v;
  masks = masks_here f source frame i st.memory s t banks mid v;
  sensed = sensed_here f source frame i st.memory s t banks mid v shows.memory;
  states = states_here f source frame i st.memory s t banks mid v shows.memory shows.in_range;
}

pub may_step_alike : (f : Fixed) (i : Columns) (s t : Standing) (banks : List Meaning) → AreKept s t → MayStep f i s banks → MayStep f i t banks
may_step_alike f i s t banks kept may = record {
  values = range_alike f s t kept may.values;
  masks = masks_alike f s t kept may.masks;
  sensed = sensed_alike f s t kept i may.sensed;
  states = may.states;
}

pub header_is : (date : ℕ) (source : Source) → IsHeader (header date source)
header_is date Start = tt
header_is date (Port q) = tt

pub plain_is : (date : ℕ) (source : Source) → IsPlain (header date source)
plain_is date Start = tt
plain_is date (Port q) = tt

-- whatever the pass came to, there is an outcome, which begins with its header
pub some_outcome : (f : Fixed) (source : Source) (i : Columns) (st : State) (s t : Standing) (banks mid : List Meaning) (date : ℕ) (stop : Option (ℕ × StopWord))
    → IsPassed f i source st.memory s t banks mid stop
    → (o : ReactionOutcome) × IsOutcome f.net i date source st o × ((rest : List Obs) × (seen_in o ≡ header date source ∷ rest))
some_outcome f source i st s t banks mid date None v =
    let next = some_next f.net st.memory source v.y in (
      Leads (values_seen f.net date source v.y v.active) (after_reaction f.net date st v.y v.active next.0),
      outcome_here f source i st s t banks mid v date next.0 next.1,
      (blocks_seen 1 f.net.specs v.y v.active, refl),
    )
some_outcome f source i st s t banks mid date (Some stop) v = (
  StopsWith (stop_seen date source stop.0 stop.1),
  record { block = stop.0; word = stop.1; result = v.0; observed = refl },
  (Stop stop.1 (pos stop.0) (pos 0) ∷ [], refl),
)

-- the state behind a reaction with values
pub shows_after : (f : Fixed) (source : Source) (i : Columns) (st : State) (s t last : Standing) (banks mid after : List Meaning) (old new : Pending) (date : ℕ)
    (v : IsValued f i source st.memory s t banks mid) → Shows f s banks old st → (step : IsStepped f source st.memory v.y last after) → AreSeated f after → AreAlikeCounts mid after
    → new ≡ next_pending f.net date v.y v.active old → Shows f last after new (after_reaction f.net date st v.y v.active step.memory)
shows_after f source i st s t last banks mid after old new date v shows step seated same is = record {
  seated = seated;
  memory = step.shown;
  in_range = step.in_range;
  pending_is = is ∙ ap (λ (p : Pending). next_pending f.net date v.y v.active p) shows.pending_is;
  counts = λ k. let e = same k in let c = v.counted k in omega (arith, e, c);
}

-- ---- what stays sound

pub sound_on : (j l : Judging) → l.kept.fixed ≡ j.kept.fixed → l.plans ≡ j.plans → l.events.sources ≡ j.events.sources → IsSound j → IsSound l
sound_on j l fixed plans sources h = record {
  plans_are = subst (λ (x : Fixed). ArePlans x l.plans.items) (sym fixed) (subst (λ (v : Vec SourcePlan Global). ArePlans j.kept.fixed v.items) (sym plans) h.plans_are);
  sources_are = sources ∙ (h.sources_are ∙ ap (λ (x : Fixed). length (sources_of x.net)) (sym fixed));
}
