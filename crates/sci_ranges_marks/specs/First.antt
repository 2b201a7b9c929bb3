-- The first event of a source.
use Rattle.std.specs.Prelude.{ℤ, negsuc}
use Rattle.sci_net.specs.declared.Source.{Source}
use Rattle.sci_net.specs.declared.Source.TheVariants.{Start, Port}
use Rattle.sci_net.specs.Parts.{Parts}
use Rattle.sci_run.specs.Programs.{firing_of}

-- the date of the event that a source has before the run; none is -1
abbrev pub firing_at : Parts → Source → ℤ
firing_at n Start = negsuc 0
firing_at n (Port q) = firing_of n q
