-- A law over the sizes of schedules.
use Rattle.std.specs.Prelude.{◌≡◌, List}
use Rattle.sci_net.specs.Parts.{Parts}
use Rattle.sci_net.specs.Net.{IsNet}
use Rattle.sci_reaction.specs.Schedule.{Entry}
use Rattle.sci_sched.specs.declared.measured.Size.{Size}
use Rattle.sci_sched.specs.Size.{entry_count, guard_count}
use Rattle.sci_sched.specs.Answer.{IsPlan}
use Rattle.sci_sched.specs.Measured.{IsMeasured}

-- a net's size is that of each of its schedules
abbrev pub OneSize : Type 0
OneSize = (n : Parts) (s : Size) (rows : List (List Entry)) → IsNet n → IsMeasured n s → IsPlan n rows → (entry_count rows ≡ s.entries) × (guard_count rows ≡ s.guards)
