-- Where the marks of the reaction before are cleared, a net stands as it did.
use Rattle.std.proofs.Common.{◌≡◌, ◌<◌, Bool, ℕ, List, ⊎_elim, true, true≢false, length, sym, ap, subst, ◌∙◌, Contains, Option}
use Rattle.sci_base.specs.declared.observation.StopWord.{StopWord}
use Rattle.sci_net.specs.Parts.{IsBlock}
use Rattle.sci_net.specs.Sources.{source_of}
use Rattle.sci_reaction.specs.Memory.{Columns}
use Rattle.sci_net.specs.declared.Source.{Source}
use Rattle.sci_reaction.specs.Equations.{Signals}
use Rattle.sci_reaction.proofs.Lists.{Has-cases}
use Rattle.sci_reaction.proofs.Rows.{Contains-has, has-Contains}
use Rattle.sci_agenda.specs.Wheel.{Wheel}
use Rattle.sci_agenda.specs.Firing.{Meaning as Waiting}
use Rattle.sci_bank.specs.Bank.{Meaning}
use Rattle.sci_run.specs.Activity.{Activity, halts}
use Rattle.sci_forms.specs.Form.{is_halt}
use Rattle.sci_run.specs.Run.{State, ReactionOutcome, IsOutcome}
use Rattle.sci_store.specs.Marks.{mark_at, idle}
use Rattle.sci_store.specs.Tally.{lines_after}
use Rattle.sci_store.specs.Frame.{Fixed, IsFrame}
use Rattle.sci_store.specs.Rows.{ReadyRow, IsRowOf, IsReadyRow, HasBegun, KeepsBegun}
use Rattle.sci_store.specs.Store.{Standing, AreIdle, ShowsValues}
use Rattle.sci_store.specs.declared.marks.Mark.{Mark}
use Rattle.sci_sim.specs.Rows.{row_in}
use Rattle.sci_sim.specs.At.{IsAt, IsReady, Running}
use Rattle.sci_sim.specs.Reacting.{ShowsFiring, IsReacted, AreMarksOf, seen_in}
use Rattle.sci_store.specs.Written.{AreAmong, sum_of}
use Rattle.sci_store.specs.Chosen.{active_of_kinds}
use Rattle.sci_store.proofs.InPass.{whole_in_row}
use Rattle.sci_sim.proofs.Reacting.{halts_among}

-- no block is marked: those of the last row are cleared, and no other was
pub all_idle : (f : Fixed) (blocks : List ℕ) (s t : Standing) → ((b : ℕ) → Contains blocks b → mark_at t.marks b ≡ idle) → ((b : ℕ) → (Contains blocks b → ⊥) → mark_at t.marks b ≡ mark_at s.marks b)
    → ((b : ℕ) → IsBlock f.net b → (Contains blocks b → ⊥) → mark_at s.marks b ≡ idle) → AreIdle f t
all_idle f blocks s t cleared others marked b block =
    ⊎_elim (λ h. cleared b (has-Contains blocks b h)) (λ h. let out : Contains blocks b → ⊥ = λ c. h (Contains-has blocks b c) in others b out ∙ marked b block out) (Has-cases blocks b)

-- what a reaction comes to, by the view
pub outcome_in : (r v : Running) → v ≡ r → (i : Columns) (source : ℕ) (st : State) (o : ReactionOutcome) → IsOutcome v.fixed.net i v.now (source_of v.fixed.net source) st o
    → IsOutcome r.fixed.net i r.now (source_of r.fixed.net source) st o
outcome_in r v is i source st o h = subst (λ (x : Running). IsOutcome x.fixed.net i x.now (source_of x.fixed.net source) st o) is h

-- the view of a net with its marks cleared
module _ (r v : Running) (t : Standing) (is : v ≡ r) (cleared : t ≡ record v.store { marks = t.marks }) (banks : List Meaning) where
  pub shown_cleared : (st : State) → ShowsFiring r.fixed r.store banks r.wheel.meaning r.wheel.puts r.offset r.now st → ShowsFiring v.fixed t banks v.wheel.meaning v.wheel.puts v.offset v.now st
  shown_cleared st h =
      let s = subst (λ (x : Running). ShowsFiring x.fixed x.store banks x.wheel.meaning x.wheel.puts x.offset x.now st) (sym is) h in
      subst (λ (x : Standing). ShowsFiring v.fixed x banks v.wheel.meaning v.wheel.puts v.offset v.now st) (sym cleared)
      (record { seated = s.seated; memory = record { held = s.memory.held; cursor = s.memory.cursor; state = s.memory.state }; in_range = s.in_range; pending = s.pending; counts = s.counts })

  pub reacted_cleared : (source : ℕ) (row : ReadyRow) → row ≡ row_in r.rows source → (new : Standing) (later : List Meaning) (waiting : Waiting) (puts : ℕ) (o : ReactionOutcome) (stop : Option StopWord)
      → IsReacted v.fixed source row t new banks later waiting puts v.offset o stop → IsReacted r.fixed source (row_in r.rows source) r.store new banks later waiting puts r.offset o stop
  reacted_cleared source row kept new later waiting puts o stop h =
      subst (λ (w : ReadyRow). IsReacted r.fixed source w r.store new banks later waiting puts r.offset o stop) kept
      (subst (λ (x : Running). IsReacted x.fixed source row x.store new banks later waiting puts x.offset o stop) is (record {
        stops = h.stops;
        leads = h.leads;
        tallied = record {
          lines = h.tallied.lines ∙ ap (λ (x : Standing). lines_after x.lines (length (seen_in o))) cleared;
          sum = h.tallied.sum ∙ ap (λ (x : Standing). sum_of x.sum (seen_in o)) cleared;
        };
      }))

-- whether a HALT_f was active, as the view tells it
pub halted_in : (r v : Running) → v ≡ r → (source : ℕ) (row : ReadyRow) → row ≡ row_in v.rows source → IsReadyRow v.fixed row → (new : Standing) (after : State) (result : Bool)
    → AreMarksOf r.fixed source (row_in r.rows source) new after
    → ((s : Source) (y : Signals) (active : Activity) → ShowsValues v.fixed s new y active → AreAmong v.fixed.net (active_of_kinds v.fixed.net is_halt active) row.halts
    → result ≡ halts v.fixed.net active)
    → result ≡ halts r.fixed.net after.active
halted_in r v is source row kept ready new after result marks h =
    let there = subst (λ (x : Running). AreMarksOf x.fixed source (row_in x.rows source) new after) (sym is) marks in
    let here = subst (λ (w : ReadyRow). AreMarksOf v.fixed source w new after) (sym kept) there in
    subst (λ (x : Running). result ≡ halts x.fixed.net after.active) is
    (h (source_of v.fixed.net source) here.y after.active here.shown (halts_among v.fixed row ready after.active here.among))

-- the row that was begun keeps what a reaction needs
pub begun_keeps : (f : Fixed) → IsFrame f → (source : Source) (row : ReadyRow) (s : Standing) → IsRowOf f source row → HasBegun f row s → KeepsBegun f row s
begun_keeps f frame source row s is h = record { whole = h.whole; others = λ b block out. h.others b block (λ whole. out (whole_in_row f frame source row is b whole)) }

-- where a row was begun, or a reaction over it was, what is kept holds again
pub ready_behind : (v : Running) (source : ℕ) (row : ReadyRow) (t : Standing) (w : Wheel) (halted : Bool) → IsReady v → v.row ≡ source → source < length v.rows → row ≡ row_in v.rows source
    → KeepsBegun v.fixed row t → IsReady (record v { store = t; wheel = w; halted = halted })
ready_behind v source row t w halted h at within kept begun =
    let here : KeepsBegun v.fixed (row_in v.rows v.row) t = subst (λ (k : ℕ). KeepsBegun v.fixed (row_in v.rows k) t) (sym at) (subst (λ (x : ReadyRow). KeepsBegun v.fixed x t) kept begun) in
    record { frame = h.frame; rows = h.rows; row = h.row; begun = λ has. here; marked = here.others }

-- the row of a source, where its blocks are marked
pub ready_entered : (v : Running) (source : ℕ) (row : ReadyRow) (t : Standing) → IsReady v → source < length v.rows → row ≡ row_in v.rows source → KeepsBegun v.fixed row t
    → IsReady (record v { store = t; row = source; has_row = true })
ready_entered v source row t h within kept begun =
    let here : KeepsBegun v.fixed (row_in v.rows source) t = subst (λ (x : ReadyRow). KeepsBegun v.fixed x t) kept begun in
    record { frame = h.frame; rows = h.rows; row = within; begun = λ has. here; marked = here.others }

-- the same where the tables of what is kept are the same
pub ready_on : (v : Running) (f : Fixed) → f ≡ v.fixed → IsReady v → IsReady (record v { fixed = f })
ready_on v f same h = subst (λ (x : Fixed). IsReady (record v { fixed = x })) (sym same) h

-- the blocks that the last reaction activated are in its source's row
pub active_in_row : (r : Running) (banks : List Meaning) (st : State) → IsReady r → IsAt r banks st → (b : ℕ) → IsBlock r.fixed.net b → st.active b ≡ true → Contains (row_in r.rows r.row).blocks b
active_in_row r banks st ready at b block on =
    ⊎_elim (λ h. has-Contains (row_in r.rows r.row).blocks b h)
    (λ h. absurd (true≢false (sym on ∙ sym (at.active b block) ∙ ap (λ (m : Mark). m.active) (ready.marked b block (λ c. h (Contains-has (row_in r.rows r.row).blocks b c))))))
    (Has-cases (row_in r.rows r.row).blocks b)
