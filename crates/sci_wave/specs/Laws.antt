-- The laws of the dump of a run.
use Rattle.std.specs.Prelude.{◌≡◌, ◌≤◌, ℕ}
use Rattle.sci_base.specs.declared.limits.TheConstants.{TICKS}
use Rattle.sci_net.specs.Parts.{Parts}
use Rattle.sci_net.specs.Net.{IsNet}
use Rattle.sci_reaction.specs.Memory.{Columns, AreColumns}
use Rattle.sci_run.specs.Laws.{AreLoopFree}
use Rattle.sci_vcd.specs.Waveforms.{Waveforms}
use Rattle.sci_wave.specs.RunDump.{IsRunDump}

-- a run has a dump, where the input file is in range and the bound on time is that of words
abbrev pub SomeRunDump : Type 0
SomeRunDump =
    (n : Parts) (i : Columns) (until limit : ℕ) → IsNet n → AreLoopFree n → AreColumns n i → until ≤ TICKS
    → (w : Waveforms) × IsRunDump n i until limit w

-- and no other
abbrev pub OneRunDump : Type 0
OneRunDump =
    (n : Parts) (i : Columns) (until limit : ℕ) (v w : Waveforms) → IsNet n → AreLoopFree n → IsRunDump n i until limit v → IsRunDump n i until limit w → v ≡ w
