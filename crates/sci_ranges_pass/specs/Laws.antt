-- What the pass over a table shows.
use Rattle.std.specs.Prelude.{◌≡◌, ℕ, ◌<◌, true, false, Some, length, slice_index_or, []}
use Rattle.sci_base.specs.Lists.{truth_at}
use Rattle.sci_forms.specs.Ports.{total, type_at}
use Rattle.sci_forms.specs.Words.{out_type}
use Rattle.sci_net.specs.Net.{IsNet}
use Rattle.sci_net.specs.Parts.{Parts, IsBlock, spec_of}
use Rattle.sci_net.specs.Sources.{source_of}
use Rattle.sci_reaction.specs.Memory.{Columns, AreColumns}
use Rattle.sci_run.specs.Laws.{AreLoopFree}
use Rattle.sci_ranges_base.specs.Intervals.{whole, range_at}
use Rattle.sci_ranges_rules.specs.Rules.{state_range}
use Rattle.sci_ranges_reads.specs.Live.{IsLive, IsPossible}
use Rattle.sci_ranges.specs.Closed.{IsClosed}
use Rattle.sci_ranges_rows.specs.Marks.{Marks, AreActs, AreMarks, dead_of}
use Rattle.sci_ranges_pass.specs.Ranges.{Ranges, table_of}
use Rattle.sci_ranges_pass.specs.Pass.{is_possible, is_closed, marks_live}

-- a table that passes is one that no rule widens
abbrev pub ClosedByTest : Type 0
ClosedByTest =
    (n : Parts) (i : Columns) (m : Marks) (r : Ranges) → IsNet n → AreLoopFree n → AreMarks n m → is_closed n i m r ≡ true → IsClosed n i (table_of n m.dead r)

-- marks that pass have each live source
abbrev pub LiveByTest : Type 0
LiveByTest =
    (n : Parts) (m : Marks) → IsNet n → AreLoopFree n → AreActs n m → marks_live n m ≡ true
    → (k : ℕ) → IsLive n (dead_of m.dead) (source_of n k) → k < length m.rows → truth_at m.live k ≡ true

-- a block that may act passes the test
abbrev pub PossibleByTest : Type 0
PossibleByTest =
    (n : Parts) (m : Marks) (c : ℕ) → IsNet n → AreLoopFree n → AreMarks n m → IsPossible n (dead_of m.dead) c → is_possible m c ≡ true

-- ---- the widest table

-- each element and each state may be any number of its type, and each block may stop
pub record IsWidest (n : Parts) (r : Ranges) : Type 0 where
  pub shows : (b e : ℕ) → IsBlock n b → e < total (spec_of n b).outs → range_at (slice_index_or r.shows b []) e ≡ Some (whole (type_at (spec_of n b).outs e))
  pub states : (b k : ℕ) → IsBlock n b → state_range (slice_index_or r.states b []) k ≡ whole (out_type (spec_of n b))
  pub overflows : (b : ℕ) → IsBlock n b → truth_at r.overflows b ≡ true
  pub zeros : (b : ℕ) → IsBlock n b → truth_at r.zeros b ≡ true

-- where no branch is dead, it passes
abbrev pub WidestPasses : Type 0
WidestPasses =
    (n : Parts) (i : Columns) (m : Marks) (r : Ranges) → IsNet n → AreColumns n i → ((c p : ℕ) → dead_of m.dead c p ≡ false) → IsWidest n r → is_closed n i m r ≡ true
