-- A table of ranges.
use Rattle.std.specs.Prelude.{ℕ, List, Option, Some, Bool}
use Rattle.sci_base.specs.declared.observation.StopWord.{StopWord}
use Rattle.sci_base.specs.Lists.{at}
use Rattle.sci_kinds.specs.Table.{first_held}
use Rattle.sci_net.specs.Parts.{Parts, spec_of}
use Rattle.sci_ranges_base.specs.declared.interval.Interval.{Interval}
use Rattle.sci_ranges_base.specs.Intervals.{one, join, range_at}
use Rattle.sci_ranges_reads.specs.Live.{Dead}

-- of each block: what each element of its outputs shows, where it ever shows anything, what each value of its state is (one interval stands for all),
-- which of its branches are never taken, and by which words it may stop
pub record Table : Type 0 where
  pub shows : ℕ → List (Option Interval)
  pub states : ℕ → List Interval
  pub dead : Dead
  pub stops : ℕ → StopWord → Bool

-- what element e of a block's outputs holds: its first value, or what it has shown
abbrev pub held_range : Parts → Table → (block element : ℕ) → Option Interval
held_range n t b e = join (Some (one (at (first_held (spec_of n b)) e))) (range_at (t.shows b) e)
