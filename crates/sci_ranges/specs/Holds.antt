-- What it is for a table to hold: of every run on input files whose columns keep within the given ones.
use Rattle.std.specs.Prelude.{◌≡◌, ℕ, ◌<◌, true, List}
use Rattle.sci_base.specs.declared.observation.Obs.{Obs}
use Rattle.sci_base.specs.declared.observation.StopWord.{StopWord}
use Rattle.sci_base.specs.Lists.{at}
use Rattle.sci_forms.specs.Ports.{total}
use Rattle.sci_kinds.specs.Table.{state_len}
use Rattle.sci_net.specs.Parts.{Parts, IsBlock, spec_of}
use Rattle.sci_reaction.specs.Memory.{Columns}
use Rattle.sci_run.specs.Run.{State, Reachable}
use Rattle.sci_run.specs.Finish.{Finish, ByStop}
use Rattle.sci_ranges_base.specs.Intervals.{IsIn, IsInSome, range_at}
use Rattle.sci_ranges_rules.specs.Rules.{state_range}
use Rattle.sci_ranges_reads.specs.Live.{IsPossible}
use Rattle.sci_ranges.specs.Columns.{KeepWithin}
use Rattle.sci_ranges.specs.Table.{Table, held_range}

-- what a net remembers and has just shown is within the table
pub record IsCovered (n : Parts) (t : Table) (st : State) : Type 0 where
  pub held : (b e : ℕ) → IsBlock n b → e < total (spec_of n b).outs → IsInSome (held_range n t b e) (at (st.memory.held b) e)
  pub states : (b k : ℕ) → IsBlock n b → k < state_len (spec_of n b) → IsIn (state_range (t.states b) k) (at (st.memory.state b) k)
  pub shown : (b e : ℕ) → IsBlock n b → e < total (spec_of n b).outs → st.active b ≡ true → IsInSome (range_at (t.shows b) e) (at (st.memory.held b) e)
  pub acts : (b : ℕ) → IsBlock n b → st.active b ≡ true → IsPossible n t.dead b

-- so behind each reaction, whatever the bounds are, and a run stops only where the table says that it may
pub record Holds (n : Parts) (i : Columns) (t : Table) : Type 0 where
  pub reached : (j : Columns) (until limit : ℕ) (st : State) (seen : List Obs) → KeepWithin n i j → Reachable n j until limit st seen → IsCovered n t st
  pub stops : (j : Columns) (until limit : ℕ) (st : State) (b : ℕ) (word : StopWord) (seen : List Obs) → KeepWithin n i j →
      Finish n j until limit st (ByStop b word) seen → t.stops b word ≡ true
