-- Which sources are marked as live.
use Rattle.std.specs.Prelude.{◌≡◌, ℕ, ◌<◌, true, false, length}
use Rattle.sci_base.specs.Lists.{truth_at}
use Rattle.sci_net.specs.Parts.{Parts}
use Rattle.sci_net.specs.Sources.{sources_of, source_of}
use Rattle.sci_ranges_reads.specs.Live.{IsLive}
use Rattle.sci_ranges_rows.specs.Marks.{Marks, dead_of}
use Rattle.sci_ranges_marks.specs.View.{AreMarked}
use Rattle.sci_ranges_find.specs.View.{marked_place}

-- each marked source may ever react
pub record AreLive (n : Parts) (m : Marks) : Type 0 where
  pub each : (k : ℕ) → truth_at m.live k ≡ true → IsLive n (dead_of m.dead) (source_of n k)

-- the blocks are marked, and of the sources only such as are live
pub record AreSound (n : Parts) (m : Marks) : Type 0 where
  pub marked : AreMarked n m
  pub live : AreLive n m
  pub enough : length m.live ≡ length (sources_of n)

-- by the marks so far the source of this place has to be marked, and it isn't
pub record IsMissing (n : Parts) (m : Marks) (j : ℕ) : Type 0 where
  pub within : j < length (sources_of n)
  pub missing : marked_place n m j ≡ false
