use Rattle.sci_bulk.proofs.Restless.{restless_ends_by_events}
use Rattle.sci_bulk.proofs.laws.restless_nets.Goals as goal

pub returns : goal.returns
returns c = restless_ends_by_events
