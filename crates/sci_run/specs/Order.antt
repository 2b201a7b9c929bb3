-- What is pending in every reachable state. At most one event of a source is pending, and each falls due soon.
use Rattle.std.specs.Prelude.{ℕ, ◌+◌, ◌<◌, ◌≤◌, All, length}
use Rattle.sci_net.specs.Parts.{Parts}
use Rattle.sci_net.specs.Sources.{sources_of}
use Rattle.sci_pending.specs.Pending.{Event, Pending}
use Rattle.sci_pending.specs.Order.{Falls, AreOnce}

-- the event of an activation output, and so of any source but start; from this date on, in less than 2^31 ticks
pub record IsAhead (n : Parts) (now : ℕ) (e : Event) : Type 0 where
  pub not_start : 1 ≤ e.source
  pub source : e.source < length (sources_of n)
  pub not_past : now ≤ e.date
  pub near : e.date < now + 2147483648

pub record PendingInOrder (n : Parts) (now : ℕ) (p : Pending) : Type 0 where
  pub numbered : Falls p.programmed p.events
  pub once : AreOnce p.events
  pub ahead : All (IsAhead n now) p.events
