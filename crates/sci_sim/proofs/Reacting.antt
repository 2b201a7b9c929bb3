-- The reaction of a source, by its row.
use Rattle.std.proofs.Common.{◌≡◌, ℕ, ◌<◌, ◌+◌, List, length, get_or, sym, subst, ◌∙◌, arith}
use Rattle.std.specs.Prelude.{All, true, if◌then◌else◌}
use Rattle.std.proofs.lemmas.List.{get_or_default}
use Rattle.sci_forms.specs.Form.{has_delay, is_halt}
use Rattle.sci_net.specs.declared.Source.{Source}
use Rattle.sci_net.specs.declared.Source.TheVariants.{Start, Port}
use Rattle.sci_net.specs.Parts.{spec_of}
use Rattle.sci_net.specs.Sources.{sources_of, source_of}
use Rattle.sci_reaction.specs.Memory.{Columns}
use Rattle.sci_reaction.proofs.Spreading.{possible}
use Rattle.sci_run.specs.Activity.{Activity}
use Rattle.sci_run.specs.Counts.{activations_from}
use Rattle.sci_run.specs.Observed.{header}
use Rattle.sci_run.specs.Programs.{next_pending}
use Rattle.sci_run.specs.Run.{State, after_reaction}
use Rattle.sci_bank.specs.Bank.{Meaning}
use Rattle.sci_bank.specs.Library.{bank_of}
use Rattle.sci_agenda.specs.Firing.{Meaning as Waiting}
use Rattle.sci_store.specs.Blocks.{AreBlocksByNumber}
use Rattle.sci_store.specs.Frame.{Fixed, AreSeated}
use Rattle.sci_store.specs.Store.{Standing, is_kind, active_of}
use Rattle.sci_store.specs.Passed.{IsValued, IsStepped, AreAlikeCounts}
use Rattle.sci_store.specs.Written.{AreAmong}
use Rattle.sci_lines.specs.Lines.{IsHeader}
use Rattle.sci_store.specs.Chosen.{active_of_kinds}
use Rattle.sci_store.specs.Rows.{ReadyRow, no_row, IsRowOf, IsReadyRow}
use Rattle.sci_store.proofs.Reacting.{counts_more, activations_more}
use Rattle.sci_store.proofs.Covering.{row_blocks}
use Rattle.sci_sim.specs.Rows.{row_in, AreRowsOf}
use Rattle.sci_sim.specs.Programming.{Keeps}
use Rattle.sci_sim.specs.At.{Shows}
use Rattle.sci_sim.proofs.Choosing.{chosen_by_number, chosen_among, chosen_kinds}

-- ---- rows

pub source_within : (f : Fixed) (rows : List ReadyRow) (k : ℕ) → AreRowsOf f rows → k < length rows → k < length (sources_of f.net)
source_within f rows k h l = omega (arith, h.enough, l)

-- each row is that of its source
pub row_ready : (f : Fixed) (rows : List ReadyRow) (k : ℕ) → AreRowsOf f rows → k < length rows → IsReadyRow f (row_in rows k)
row_ready f rows k h l = (source_of f.net k, h.each k l)

-- the row that was read of a source
pub row_read : (rows : List ReadyRow) (k : ℕ) (r : ReadyRow) → k < length rows → r ≡ get_or rows k r → r ≡ row_in rows k
row_read rows k r l read = read ∙ get_or_default rows k r no_row l

module _ (f : Fixed) (r : ReadyRow) (ready : IsReadyRow f r) where
  -- its blocks with delays
  pub delays_by_number : AreBlocksByNumber f.net r.delays
  delays_by_number = subst (AreBlocksByNumber f.net) (sym ready.1.row.delays_are) (chosen_by_number f.net has_delay r.blocks (row_blocks f r ready))

  pub delays_delay : All (λ b. has_delay (spec_of f.net b).kind ≡ true) r.delays
  delays_delay = subst (All (λ b. has_delay (spec_of f.net b).kind ≡ true)) (sym ready.1.row.delays_are) (chosen_kinds f.net has_delay r.blocks)

  pub delays_among : (active : Activity) → AreAmong f.net active r.blocks → AreAmong f.net (active_of_kinds f.net has_delay active) r.delays
  delays_among active among = subst (AreAmong f.net (active_of_kinds f.net has_delay active)) (sym ready.1.row.delays_are) (chosen_among f.net has_delay r.blocks active among)

  -- its blocks that end the run
  pub halts_by_number : AreBlocksByNumber f.net r.halts
  halts_by_number = subst (AreBlocksByNumber f.net) (sym ready.1.row.halts_are) (chosen_by_number f.net is_halt r.blocks (row_blocks f r ready))

  pub halts_among : (active : Activity) → AreAmong f.net active r.blocks → AreAmong f.net (active_of_kinds f.net is_halt active) r.halts
  halts_among active among = subst (AreAmong f.net (active_of_kinds f.net is_halt active)) (sym ready.1.row.halts_are) (chosen_among f.net is_halt r.blocks active among)

-- a block that is active is one of them
pub among_row : (f : Fixed) (source : Source) (row : ReadyRow) → IsRowOf f source row → (i : Columns) (st : State) (s t : Standing) (banks mid : List Meaning)
    (v : IsValued f i source st.memory s t banks mid) → AreAmong f.net v.active row.blocks
among_row f source row is i st s t banks mid v b block on =
    (is.row.blocks_are.same b).1 ((is.entries.exactly b).1 (possible f.net source _ ((v.active_are b block).0 on)))

-- ---- what a reaction comes to

pub header_is : (date : ℕ) (source : Source) → IsHeader (header date source)
header_is date Start = tt
header_is date (Port q) = tt

-- the state behind a reaction with values
pub shows_after : (f : Fixed) (source : Source) (i : Columns) (st : State) (s t last : Standing) (banks mid after : List Meaning) (old waiting : Waiting)
    (before puts offset date : ℕ) (v : IsValued f i source st.memory s t banks mid) → Shows f s banks old before offset (record st { now = date })
    → (step : IsStepped f source st.memory v.y last after) → AreSeated f after → AreAlikeCounts mid after
    → Keeps f.net offset date waiting puts (next_pending f.net date v.y v.active st.pending)
    → Shows f last after waiting puts offset (after_reaction f.net date st v.y v.active step.memory)
shows_after f source i st s t last banks mid after old waiting before puts offset date v shows step seated same keeps = record {
  seated = seated;
  memory = step.shown;
  in_range = step.in_range;
  pending = keeps;
  counts = λ kd. counts_more (bank_of banks kd).outs (bank_of after kd).outs (activations_from (is_kind kd) 1 f.net.specs st.activations)
      (activations_from (is_kind kd) 1 f.net.specs (λ b. if v.active b then st.activations b + 1 else st.activations b)) (active_of f.net v.active kd)
      (same kd ∙ v.counted kd) (shows.counts kd) (activations_more (is_kind kd) v.active st.activations 1 f.net.specs);
}
