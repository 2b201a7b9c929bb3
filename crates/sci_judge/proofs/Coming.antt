-- What comes behind a reaction.
use Rattle.std.proofs.Common.{◌≡◌, ℕ, ◌<◌, ◌≤◌, Bool, true, false, List, Some, None, sym, subst}
use Rattle.std.specs.Prelude.{Option, ◌==◌, nat_lt}
use Rattle.std.proofs.lemmas.Bool.{eq-eqb, lt-ltb, le-ltb}
use Rattle.std.proofs.lemmas.List.Kept.{AllPairs-filter}
use Rattle.sci_base.specs.declared.observation.EndWord.TheVariants.{Halt, Events, Empty, Until}
use Rattle.sci_forms.specs.Form.{is_halt}
use Rattle.sci_net.specs.declared.Source.{Source}
use Rattle.sci_net.specs.Parts.{Parts, spec_of}
use Rattle.sci_reaction.specs.Equations.{Signals}
use Rattle.sci_reaction.proofs.Lists.{and_both}
use Rattle.sci_run.specs.Activity.{Activity, halts}
use Rattle.sci_pending.specs.Pending.{Event, next}
use Rattle.sci_run.specs.Run.{State, Over, Fires, comes_next, in_time}
use Rattle.sci_store.specs.Blocks.{AreBlocksByNumber}
use Rattle.sci_store.specs.Chosen.{active_of_kinds}
use Rattle.sci_store.specs.Frame.{Fixed}
use Rattle.sci_store.specs.Rows.{ReadyRow, IsReadyRow}
use Rattle.sci_store.specs.Store.{Standing, ShowsValues}
use Rattle.sci_store.specs.Written.{AreAmong}
use Rattle.sci_store.proofs.Covering.{row_blocks}
use Rattle.sci_judge.specs.declared.rows.SourcePlan.{SourcePlan}
use Rattle.sci_judge.specs.Reacting.{AreMarksOf, blocks_at}
use Rattle.sci_judge.proofs.Members.{filter_from, filter_to, not_same}

-- ---- a block that ends the run

module _ (f : Fixed) (r : ReadyRow) (ready : IsReadyRow f r) where
  abbrev ends : ℕ → Bool
  ends b = is_halt (spec_of f.net b).kind

  -- the blocks of a row that end the run, by number
  pub halts_by_number : AreBlocksByNumber f.net r.halts
  halts_by_number =
      subst (AreBlocksByNumber f.net) (sym ready.1.row.halts_are)
      (record {
        rising = AllPairs-filter (λ b c. b < c) ends r.blocks (row_blocks f r ready).rising;
        blocks = λ b h. (row_blocks f r ready).blocks b (filter_from ends r.blocks b h).0;
      })

  halts_among : (active : Activity) → AreAmong f.net active r.blocks → AreAmong f.net (active_of_kinds f.net is_halt active) r.halts
  halts_among active among =
      subst (AreAmong f.net (active_of_kinds f.net is_halt active)) (sym ready.1.row.halts_are)
      (λ b block on. let both = and_both (active b) (ends b) on in filter_to ends r.blocks b (among b block both.0) both.1)

  -- whether one of them was active in the reaction
  pub halts_told : (plans : List SourcePlan) (k : ℕ) → blocks_at plans k ≡ r.blocks → (blocks : List ℕ) → blocks ≡ r.halts → (s : Standing) (result : Bool)
      → ((source : Source) (y : Signals) (active : Activity) → ShowsValues f source s y active → AreAmong f.net (active_of_kinds f.net is_halt active) blocks → result ≡ halts f.net active)
      → (source : Source) (st : State) → AreMarksOf f source (blocks_at plans k) s st → halts f.net st.active ≡ result
  halts_told plans k named blocks here s result tells source st marks =
      sym (tells source marks.y st.active marks.shown
      (subst (AreAmong f.net (active_of_kinds f.net is_halt st.active)) (sym here) (halts_among st.active (subst (AreAmong f.net st.active) named marks.among))))

-- ---- by the first that holds

module _ (n : Parts) (until left : ℕ) (st : State) where
  pub halt_next : halts n st.active ≡ true → Over Halt ≡ comes_next n until left st
  halt_next on = rw on

  module _ (off : halts n st.active ≡ false) where
    pub limit_next : left ≡ 0 → Over Events ≡ comes_next n until left st
    limit_next none = let test : (left == 0) ≡ true = eq-eqb left 0 none in rw (off, test)

    module _ (some : left ≡ 0 → ⊥) where
      time_next : (e : Option Event) → e ≡ next st.pending.events → in_time until e ≡ comes_next n until left st
      time_next e is = let test : (left == 0) ≡ false = not_same left 0 some in rw (off, test, is)

      pub none_next : None ≡ next st.pending.events → Over Empty ≡ comes_next n until left st
      none_next is = time_next None is

      pub late_next : (e : Event) → Some e ≡ next st.pending.events → until < e.date → Over Until ≡ comes_next n until left st
      late_next e is late = let test : nat_lt until e.date ≡ true = lt-ltb until e.date late in rw (← time_next (Some e) is, test)

      pub fires_next : (e : Event) → Some e ≡ next st.pending.events → e.date ≤ until → Fires e ≡ comes_next n until left st
      fires_next e is due = let test : nat_lt until e.date ≡ false = le-ltb until e.date due in rw (← time_next (Some e) is, test)
