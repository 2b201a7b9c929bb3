-- What is programmed: the activation outputs with a firing before the run, and those of the active blocks after each reaction. A source
-- is named by its place in the net's list of sources, which goes by block and port.
use Rattle.std.specs.Prelude.{ℕ, ◌+◌, ℤ, pos, negsuc, List, [], ◌∷◌, if◌then◌else◌}
use Rattle.sci_kinds.specs.Table.{delay}
use Rattle.sci_net.specs.declared.Feed.{Feed}
use Rattle.sci_net.specs.declared.Source.{Source}
use Rattle.sci_net.specs.declared.Source.TheVariants.{Start, Port}
use Rattle.sci_net.specs.Parts.{Parts, numbered, spec_of}
use Rattle.sci_net.specs.Sources.{sources_of}
use Rattle.sci_reaction.specs.Equations.{Signals, input_in, all_inputs}
use Rattle.sci_pending.specs.Pending.{Pending, replaced}
use Rattle.sci_run.specs.Activity.{Activity}

-- A delay of -1 leaves what is pending as it is. Any other programs the source anew: its pending event, where it has one, goes, and the
-- new one stands last among those programmed.
abbrev pub with_delay : (date source : ℕ) → ℤ → Pending → Pending
with_delay date source (pos delay) p = replaced p (date + delay) source
with_delay date source (negsuc _) p = p

-- each source of a list, whose places begin with k, with its delay; start is never programmed
abbrev pub with_delays : (date : ℕ) → (Feed → ℤ) → (k : ℕ) → List Source → Pending → Pending
with_delays date delays k [] p = p
with_delays date delays k (Start ∷ ss) p = with_delays date delays (k + 1) ss p
with_delays date delays k (Port q ∷ ss) p = with_delays date delays (k + 1) ss (with_delay date k (delays q) p)

-- ---- before the run

-- the date of the event that an activation output has before the run; none is -1
abbrev pub firing_of : Parts → Feed → ℤ
firing_of n q = numbered (negsuc 0) (spec_of n q.block).firing q.port

-- the firings of 0 or more, by block and port
abbrev pub first_pending : Parts → Pending
first_pending n = with_delays 0 (firing_of n) 0 (sources_of n) (record { events = []; programmed = 0 })

-- ---- after a reaction

-- the delay of an activation output on the values of the reaction; a block that isn't active programs nothing
abbrev pub delay_of : Parts → Signals → Activity → Feed → ℤ
delay_of n y active q =
    if active q.block then delay (spec_of n q.block) q.port (all_inputs (spec_of n q.block) (input_in n y q.block)) else negsuc 0

-- the active blocks program their activation outputs, by block and port
abbrev pub next_pending : Parts → (date : ℕ) → Signals → Activity → Pending → Pending
next_pending n date y active p = with_delays date (delay_of n y active) 0 (sources_of n) p
