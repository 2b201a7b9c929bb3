-- What holds at the stages that are told apart.
use Rattle.std.proofs.Common.{◌≡◌, ◌≤◌, ℕ, [], length, subst}
use Rattle.sci_vcd.specs.declared.machine.Stage.{Stage}
use Rattle.sci_vcd.specs.declared.machine.Stage.TheVariants.{Signals, Ticks, Tick}
use Rattle.sci_vcd.specs.Waveforms.{Waveforms, IsDump}
use Rattle.sci_vcd.specs.Machine.{HasSignals, HasTick, Stands}
use Rattle.sci_vcd.proofs.Eachs.{signals_few}

pub at_signals : (s : Stage) (w : Waveforms) → s ≡ Signals → Stands s w → w.changes ≡ []
at_signals s w e h = (has (subst (λ (q : Stage). Stands q w) e h))
  where
    has : HasSignals w → w.changes ≡ []
    has g = g.unchanged

pub at_ticks : (s : Stage) (w : Waveforms) → s ≡ Ticks → Stands s w → IsDump w
at_ticks s w e h = subst (λ (q : Stage). Stands q w) e h

pub at_tick : (s : Stage) (w : Waveforms) (t : ℕ) → s ≡ Tick t → Stands s w → IsDump w
at_tick s w t e h = (has (subst (λ (q : Stage). Stands q w) e h))
  where
    has : HasTick w t → IsDump w
    has g = g.dump

pub dump_few : (w : Waveforms) → IsDump w → length w.signals ≤ 65536
dump_few w d = signals_few w.signals d.signals
