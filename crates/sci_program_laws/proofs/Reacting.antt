-- A reaction of the program is the reaction of the net: the pass over the source's row, and then what follows.
use Rattle.std.proofs.Common.{◌≡◌, ℕ, zero, suc, ◌<◌, ◌≤◌, ◌⊎◌, inl, inr, List, [], ◌∷◌, length, Contains, Some, Bool, true, false, refl, sym, ap, ◌∙◌, subst, arith, ℤ, pos, slice_index_or, drop}
use Rattle.sci_base.specs.declared.observation.Obs.{Obs}
use Rattle.sci_base.specs.declared.observation.Obs.TheVariants.{Stop}
use Rattle.sci_base.specs.declared.observation.StopWord.{StopWord}
use Rattle.sci_base.specs.Lists.{at}
use Rattle.sci_net.specs.declared.Feed.{Feed}
use Rattle.sci_net.specs.declared.Source.{Source}
use Rattle.sci_net.specs.declared.Source.TheVariants.{Start, Port}
use Rattle.sci_net.specs.Parts.{Parts, numbered, spec_of, column_of}
use Rattle.sci_net.specs.Net.{IsNet}
use Rattle.sci_net.specs.Sources.{sources_of, source_of}
use Rattle.sci_reaction.specs.Depends.{IsLoopFree}
use Rattle.sci_reaction.specs.Memory.{Columns, AreColumns}
use Rattle.sci_reaction.specs.Result.{Reaction, Whole, Stopped, IsResult, AreSame}
use Rattle.sci_reaction.specs.Schedule.{Entry, IsRow, IsSchedule, blocks_of}
use Rattle.sci_reaction.proofs.Spreading.{Spread-block}
use Rattle.sci_reaction.proofs.OneResult.{one_result}
use Rattle.sci_reaction.proofs.Fair.{fair}
use Rattle.sci_pending.specs.Pending.{Pending}
use Rattle.sci_run.specs.Alike.{AreAlike}
use Rattle.sci_run.specs.Laws.{AreLoopFree}
use Rattle.sci_run.specs.Observed.{header, stop_seen}
use Rattle.sci_run.specs.Run.{State, Reacts}
use Rattle.sci_run.proofs.Unique.{halts_same}
use Rattle.c_mean.specs.Meaning.{World, Around, Ran, going, halted, behind, then_run, run_block, truth}
use Rattle.c_mean.specs.Places.{get}
use Rattle.c_mean.specs.Programs.{surroundings}
use Rattle.c_mean.proofs.Steps.{number_after, run_joined, then_seen}
use Rattle.sci_cgen_blocks.specs.Laws.{ValuesLaw, SensorLaw, BranchLaw, MayLaw}
use Rattle.sci_due.specs.Due.{now as now_name}
use Rattle.sci_due.specs.Laws.{ShowsPending}
use Rattle.sci_program.specs.declared.part.Part.{Part}
use Rattle.sci_program.specs.declared.part.Part.TheVariants.{Marked}
use Rattle.sci_program.specs.Names.{settle_name}
use Rattle.sci_program.specs.Program.{has_own, port_count, scratch_count, part_in, part_of, pass_text, following_text, settle_text, shared_text}
use Rattle.sci_program.specs.Shows.{ShowsState, ShowsActive, is_asked, is_told}
use Rattle.sci_program.specs.Passes.{HasPassed, IsDated, Passes}
use Rattle.sci_program_laws.proofs.Ready.{IsReady, ReactionGoes, IsOneReaction}
use Rattle.sci_program_laws.proofs.Calls.{calls_are}
use Rattle.sci_program_laws.proofs.Row.{row_goes}
use Rattle.sci_program_laws.proofs.Settle.{Settles, settles}
use Rattle.sci_program.proofs.Called.{AreReactions, before_source, block_functions, settle_called}
use Rattle.sci_program_laws.proofs.Turns.{call_alone}
use Rattle.sci_program_laws.proofs.Running.{halted_stays}
use Rattle.sci_program_laws.proofs.Taking.{acting}
use Rattle.sci_program_laws.proofs.Leaving.{reacts_leaves}
use Rattle.sci_program.proofs.Sizes.{loop_enough}
use Rattle.sci_program.proofs.Bodies.{scheduled, enough_scratch, runs_body}

-- ---- states that are alike are shown alike

alike_shown : (n : Parts) (scratch : ℕ) (i : Columns) (until limit : ℕ) (st other : State) (w : World) → AreAlike n st other
    → ShowsState n scratch i until limit other w → ShowsState n scratch i until limit st w
alike_shown n scratch i until limit st other w a s = record {
  held = record { each = λ b e k l. s.held.each b e k l ∙ ap (λ (v : List ℤ). Some (at v e)) (sym (a.memory.held b k)) };
  states = record { each = λ b e k l. s.states.each b e k l ∙ ap (λ (v : List ℤ). Some (at v e)) (sym (a.memory.state b k)) };
  columns = record {
    each = λ b k. s.columns.each b k ∙ ap (λ (c : ℕ). drop c (numbered [] i (column_of (spec_of n b)))) (sym (a.memory.cursor b k.block));
  };
  pending = λ l. subst (λ (p : Pending). ShowsPending (port_count n) p w) (sym a.pending) (s.pending l);
  now = λ l. s.now l ∙ ap (λ (d : ℕ). Some (pos d)) (sym a.now);
  halt = λ l. s.halt l ∙ ap (λ (t : Bool). Some (truth t)) (sym (halts_same n st.active other.active a.active));
  bounds = s.bounds;
  room = s.room;
}

-- ---- of one reaction there is one result

module _ (n : Parts) (net : IsNet n) (i : Columns) (s : Source) (free : IsLoopFree n s) (st : State) where
  same_result : (x y : Reaction) → IsResult n st.memory i s x → IsResult n st.memory i s y → AreSame n x y
  same_result x y p q = one_result n st.memory i s net.wired (fair n st.memory i net.typed_specs) free x y p q

  same_stop : (date block c : ℕ) (word other : StopWord) → IsResult n st.memory i s (Stopped block word) → IsResult n st.memory i s (Stopped c other)
      → header date s ∷ Stop other (pos c) (pos 0) ∷ [] ≡ stop_seen date s block word
  same_stop date block c word other p q =
      let r = same_result (Stopped block word) (Stopped c other) p q in
      ap (λ (b : ℕ). header date s ∷ Stop other (pos b) (pos 0) ∷ []) (sym r.0)
      ∙ ap (λ (x : StopWord). header date s ∷ Stop x (pos block) (pos 0) ∷ []) (sym r.1)

-- ---- the reactions

module _ (values : ValuesLaw) (sensor : SensorLaw) (branch : BranchLaw) (may : MayLaw) (n : Parts) (rows : List (List Entry)) (i : Columns) (until limit : ℕ)
    (net : IsNet n) (free : AreLoopFree n) (schedule : IsSchedule n rows) (columns : AreColumns n i) (react : ℕ → World → Ran)
    (are : AreReactions n rows (pos until) (pos limit) react) where
  abbrev own : Bool
  own = has_own n rows

  abbrev scratch : ℕ
  scratch = scratch_count n rows (length n.specs)

  abbrev row_at : ℕ → List Entry
  row_at k = slice_index_or rows k []

  abbrev asked : ℕ → ℕ → Bool
  asked k = is_asked own n (row_at k)

  abbrev told : ℕ → ℕ → Bool
  told k = is_told own (row_at k)

  -- in the function of source k
  abbrev env : ℕ → Around
  env k = surroundings (before_source n rows k) (pos until) (pos limit)

  row_of : (k : ℕ) → k < length (sources_of n) → IsRow n (source_of n k) (slice_index_or rows k [])
  row_of k l = schedule.each k (omega (arith, l, schedule.enough))

  dated : (s : Source) (date : ℕ) (w : World) → (1 ≤ port_count n → get w now_name 0 ≡ Some (pos date)) → (s ≡ Start) ⊎ (1 ≤ port_count n)
      → IsDated s date w
  dated Start date w h c = tt
  dated (Port q) date w h (inl e) = absurd (not_start q e)
    where
      not_start : (q : Feed) → Port q ≡ Start → ⊥
      not_start q e = cc
  dated (Port q) date w h (inr l) = h l

  is_start : (k : ℕ) → k < length (sources_of n) → (source_of n k ≡ Start) ⊎ (1 ≤ port_count n)
  is_start zero l = inl refl
  is_start (suc k) l = inr (omega (arith, l))

  -- ---- the row of a source

  passes : (k date number : ℕ) (st : State) (w : World) (l : k < length (sources_of n)) → IsReady n scratch i own until limit date st w
      → Passes n scratch i (asked k) (told k) st.memory (source_of n k) (row_at k) w (header date (source_of n k) ∷ [])
      (run_block (env k) number (pass_text own n (source_of n k) (row_at k)) w)
  passes k date number st w l ready =
      let row = row_at k in
      let in_rows : k < length rows = omega (arith, l, schedule.enough) in
      let block = λ (b : ℕ) (t : Contains (blocks_of row) b). Spread-block n (source_of n k) _ (((row_of k l).exactly b).0 t) in
      let enough = λ (b : ℕ) (t : Contains (blocks_of row) b). enough_scratch n rows b (block b t) (scheduled rows k b in_rows t) in
      row_goes (env k) n net scratch i columns st.memory ready.memory branch (source_of n k) (free k l) own row (row_of k l) w ready.shows.states
      (calls_are values sensor (env k) n net scratch i st.memory ready.memory (source_of n k) (free k l) row (row_of k l) enough
      (λ b t. runs_body n rows (pos until) (pos limit) k b (block b t) (scheduled rows k b in_rows t)))
      date number w (dated (source_of n k) date w ready.shows.now (is_start k l)) ready.shows.held ready.shows.columns ready.shows.room ready.idle
      (λ x j h. refl)

  -- behind it
  settled : (k date number : ℕ) (st : State) (w to : World) (l : k < length (sources_of n)) → IsReady n scratch i own until limit date st w
      → HasPassed n scratch i (asked k) (told k) st.memory (source_of n k) (row_at k) w to
      → Settles n scratch i until limit date (source_of n k) st (run_block (env k) number (following_text own n (row_at k)) to)
  settled k date number st w to l ready passed = by_own own refl
    where
      settles_in : (around : Around) (j : ℕ) (part : ℕ → Part) → ShowsActive n part passed.found.applied to
          → Settles n scratch i until limit date (source_of n k) st (run_block around j (settle_text n part) to)
      settles_in around j part acts =
          settles around n net scratch i until limit date (source_of n k) st (row_at k) w to (asked k) (told k) part (row_of k l) ready.memory ready.counts
          ready.shows ready.goes_on ready.soon ready.few ready.ports passed acts (loop_enough n rows (length n.specs)) j

      acts : ShowsActive n (part_of own n (row_at k)) passed.found.applied to
      acts = acting n net scratch i st.memory (source_of n k) (row_at k) (row_of k l) w to own passed

      by_own : (o : Bool) → own ≡ o → Settles n scratch i until limit date (source_of n k) st (run_block (env k) number (following_text o n (row_at k)) to)
      by_own true q = settles_in (env k) number (part_in n (row_at k)) (subst (λ (o : Bool). ShowsActive n (part_of o n (row_at k)) passed.found.applied to) q acts)
      by_own false q =
          let c = settle_called n rows (pos until) (pos limit) q k in
          subst (Settles n scratch i until limit date (source_of n k) st)
          (sym (call_alone (env k) number settle_name to
          (run_block (surroundings (block_functions n rows) (pos until) (pos limit)) c.0 (shared_text n)) c.1))
          (settles_in (surroundings (block_functions n rows) (pos until) (pos limit)) c.0 (λ b. Marked)
          (subst (λ (o : Bool). ShowsActive n (part_of o n (row_at k)) passed.found.applied to) q acts))

  -- ---- what it comes to

  -- the function of a source does both
  reacts_by : (k : ℕ) (l : k < length (sources_of n)) (w : World) → (number : ℕ) × ((m : ℕ) × (react k w
      ≡ then_run (run_block (env k) number (pass_text own n (source_of n k) (row_at k)) w) (run_block (env k) m (following_text own n (row_at k)))))
  reacts_by k l w =
      let c = are.source k l in
      let first = pass_text own n (source_of n k) (row_at k) in (
        c.0,
        (
          number_after first c.0,
          ap (λ (run : World → Ran). run w) c.1 ∙ run_joined (env k) first (following_text own n (row_at k)) c.0 w,
        ),
      )

  goes_on : (k date : ℕ) (st after : State) (seen : List Obs) (w : World) → k < length (sources_of n)
      → IsReady n scratch i own until limit date st w → Reacts n i date (source_of n k) st after seen
      → IsOneReaction n i date (source_of n k) st after seen
      → (w' : World) × ((react k w ≡ record { seen = seen; how = going w' }) × ShowsState n scratch i until limit after w')
  goes_on k date st after seen w l ready h one =
      let r = reacts_by k l w in
      let first = run_block (env k) r.0 (pass_text own n (source_of n k) (row_at k)) w in
      elim (passes k date r.0 st w l ready) [
        | inl p ↦ let s = settled k date r.1.0 st w p.to l ready p.holds in
            let o = one s.after (header date (source_of n k) ∷ s.seen) s.reacts in (
              s.to,
              (
                r.1.1 ∙ (then_seen first (header date (source_of n k) ∷ []) p.to (run_block (env k) r.1.0 (following_text own n (row_at k))) p.is
                    ∙ (ap (behind (header date (source_of n k) ∷ [])) s.is
                    ∙ ap (λ (seen : List Obs). let r : Ran = record { seen = seen; how = going s.to } in r) (sym o.0))),
                alike_shown n scratch i until limit after s.after s.to o.1 s.holds,
              ),
            )
        | inr x ↦ absurd (same_result n net i (source_of n k) (free k l) st (Whole h.values) (Stopped x.block x.word) h.result x.result)
      ]

  stops : (k date : ℕ) (st : State) (block : ℕ) (word : StopWord) (w : World) → k < length (sources_of n)
      → IsReady n scratch i own until limit date st w → IsResult n st.memory i (source_of n k) (Stopped block word)
      → react k w ≡ record { seen = stop_seen date (source_of n k) block word; how = halted }
  stops k date st block word w l ready h =
      let r = reacts_by k l w in
      let first = run_block (env k) r.0 (pass_text own n (source_of n k) (row_at k)) w in
      elim (passes k date r.0 st w l ready) [
        | inl p ↦ let s = settled k date r.1.0 st w p.to l ready p.holds in
            absurd (same_result n net i (source_of n k) (free k l) st (Whole s.reacts.values) (Stopped block word) s.reacts.result h)
        | inr x ↦ r.1.1
            ∙ (halted_stays first (header date (source_of n k) ∷ Stop x.word (pos x.block) (pos 0) ∷ [])
            (run_block (env k) r.1.0 (following_text own n (row_at k))) x.is
            ∙ ap (λ (seen : List Obs). let r : Ran = record { seen = seen; how = halted } in r)
            (same_stop n net i (source_of n k) (free k l) st date block x.block word x.word h x.result))
      ]

  -- The reactions of the program go as those of the net.
  pub reactions_go : ReactionGoes n scratch i own until limit react
  reactions_go = record {
    leaves = reacts_leaves may n rows (pos until) (pos limit) react are;
    values = goes_on;
    stops = stops;
  }
