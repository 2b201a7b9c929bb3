-- The dump of a run.
use Rattle.std.specs.Prelude.{◌≡◌, ℕ, ◌-◌, ◌≤◌, List}
use Rattle.sci_base.specs.Lists.{at}
use Rattle.sci_forms.specs.Ports.{total}
use Rattle.sci_net.specs.Parts.{Parts, IsBlock, spec_of}
use Rattle.sci_reaction.specs.Memory.{Columns, first_memory}
use Rattle.sci_run.specs.Run.{State}
use Rattle.sci_vcd.specs.Waveforms.{Waveforms, value_at, IsDump}
use Rattle.sci_vcd.specs.Signals.{signals_of, number_of}
use Rattle.sci_wave.specs.History.{IsWholeHistory, memory_at}

-- Each signal of the net has at each tick the value that its output holds behind the last of these reactions with a date up to it, and the first
-- memory's value where there is none.
pub record IsDumpOf (n : Parts) (states : List State) (w : Waveforms) : Type 0 where
  pub dump : IsDump w
  pub signals : w.signals ≡ signals_of n
  pub values : (t b e : ℕ) → IsBlock n b → 1 ≤ e → e ≤ total (spec_of n b).outs
      → value_at w (number_of n b e) t ≡ at ((memory_at (first_memory n) states t).held b) (e - 1)

abbrev pub IsRunDump : Parts → Columns → (until limit : ℕ) → Waveforms → Type 0
IsRunDump n i until limit w = (states : List State) × IsWholeHistory n i until limit states × IsDumpOf n states w
