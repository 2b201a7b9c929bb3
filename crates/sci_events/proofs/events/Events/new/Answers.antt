use Rattle.sci_events.proofs.Listed.{kept_none}
use Rattle.sci_events.proofs.events.Events.new.Goals as goal

pub invariant_of-result : goal.invariant_of-result
invariant_of-result c = rw c.in_ok-events.ensures.items (kept_none _ _ c.in_ok-events.ensures.capacity)
