-- What a net that is ready to run keeps, and the state of the run that it stands for.
use Rattle.std.specs.Prelude.{◌≡◌, ℕ, ◌<◌, Bool, true, false, min, List, length, Contains}
use Rattle.sci_base.specs.declared.observation.Obs.{Obs}
use Rattle.sci_forms.specs.declared.Kind.{Kind}
use Rattle.sci_net.specs.Parts.{Parts, IsBlock}
use Rattle.sci_reaction.specs.Memory.{IsMemory}
use Rattle.sci_run.specs.Activity.{halts}
use Rattle.sci_run.specs.Counts.{activations_of_kind}
use Rattle.sci_run.specs.Run.{State, first_state}
use Rattle.sci_agenda.specs.Wheel.{Wheel}
use Rattle.sci_agenda.specs.Firing.{Meaning as Waiting}
use Rattle.sci_bank.specs.Bank.{Meaning}
use Rattle.sci_bank.specs.Library.{bank_of}
use Rattle.sci_store.specs.Marks.{mark_at, idle}
use Rattle.sci_store.specs.Frame.{Fixed, IsFrame, AreSeated}
use Rattle.sci_store.specs.Store.{Standing, AreIdle, ShowsMemory}
use Rattle.sci_store.specs.Rows.{ReadyRow, KeepsBegun}
use Rattle.sci_sim.specs.Rows.{AreRowsOf, row_in}
use Rattle.sci_sim.specs.Programming.{Keeps}
use Rattle.sci_store.specs.Written.{sum_of}
use Rattle.sci_store.specs.Tally.{lines_after}

-- a net that is ready to run, or whose run is under way: what stays, the rows of its sources, what changes, the wheel and how much less its dates are, the
-- date of the last reaction, how many events have fired, the source of the last reaction and whether its blocks are marked, whether the run has begun, and
-- whether a HALT_f was active in the last reaction
pub record Running : Type 0 where
  pub fixed : Fixed
  pub rows : List ReadyRow
  pub store : Standing
  pub wheel : Wheel
  pub offset : ℕ
  pub now : ℕ
  pub fired : ℕ
  pub row : ℕ
  pub has_row : Bool
  pub started : Bool
  pub halted : Bool

pub record IsReady (r : Running) : Type 0 where
  pub frame : IsFrame r.fixed
  pub rows : AreRowsOf r.fixed r.rows
  pub row : r.row < length r.rows
  -- where blocks are marked, they are those of the last source's row, among them all that are active whatever the values are
  pub begun : r.has_row ≡ true → KeepsBegun r.fixed (row_in r.rows r.row) r.store
  pub marked : (b : ℕ) → IsBlock r.fixed.net b → (Contains (row_in r.rows r.row).blocks b → ⊥) → mark_at r.store.marks b ≡ idle

-- ---- the state of the run

-- the memory and the counts of the banks; and the events that an agenda keeps
pub record Shows (f : Fixed) (s : Standing) (banks : List Meaning) (waiting : Waiting) (puts offset : ℕ) (st : State) : Type 0 where
  pub seated : AreSeated f banks
  pub memory : ShowsMemory f s banks st.memory
  pub in_range : IsMemory f.net st.memory
  pub pending : Keeps f.net offset st.now waiting puts st.pending
  pub counts : (k : Kind) → (bank_of banks k).outs ≡ min (activations_of_kind f.net st k) 18446744073709551615

-- the net with its banks stands at this state of a run
pub record IsAt (r : Running) (banks : List Meaning) (st : State) : Type 0 where
  pub shown : Shows r.fixed r.store banks r.wheel.meaning r.wheel.puts r.offset st
  pub now : r.now ≡ st.now
  pub fired : r.fired ≡ st.fired
  pub active : (b : ℕ) → IsBlock r.fixed.net b → (mark_at r.store.marks b).active ≡ st.active b
  pub halted : r.halted ≡ halts r.fixed.net st.active

-- before start reacts
pub record IsAtStart (n : Parts) (r : Running) (banks : List Meaning) : Type 0 where
  pub net : r.fixed.net ≡ n
  pub not_started : r.started ≡ false
  pub at : IsAt r banks (first_state n)
  pub idle : AreIdle r.fixed r.store
  pub no_offset : r.offset ≡ 0
  pub row : r.row ≡ 0
  pub lines : r.store.lines ≡ 0
  pub sum : r.store.sum ≡ 0

-- what is observed more is counted
pub record AreTallied (old new : Standing) (more : List Obs) : Type 0 where
  pub lines : new.lines ≡ lines_after old.lines (length more)
  pub sum : new.sum ≡ sum_of old.sum more

-- what was counted is what was observed
pub record IsTallied (s : Standing) (seen : List Obs) : Type 0 where
  pub lines : s.lines ≡ lines_after 0 (length seen)
  pub sum : s.sum ≡ sum_of 0 seen

-- at whichever state of a run the net stands, the wheel keeps what is pending there
abbrev pub KeepsPending : Running → Wheel → Type 0
KeepsPending r w = (banks : List Meaning) (st : State) → IsAt r banks st → Keeps r.fixed.net r.offset st.now w.meaning w.puts st.pending

-- and these blocks are all that the last reaction activated, or more
abbrev pub HaveActive : Running → List ℕ → Type 0
HaveActive r blocks = (banks : List Meaning) (st : State) → IsAt r banks st → (b : ℕ) → IsBlock r.fixed.net b → st.active b ≡ true → Contains blocks b
