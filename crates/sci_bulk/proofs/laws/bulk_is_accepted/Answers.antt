use Rattle.sci_bulk.proofs.Accepting.{bulk_is_accepted, bulk_ends_by_events}
use Rattle.sci_bulk.proofs.laws.bulk_is_accepted.Goals as goal

pub returns-clause-accepted : goal.returns-clause-accepted
returns-clause-accepted c = bulk_is_accepted

pub returns-clause-ends : goal.returns-clause-ends
returns-clause-ends c = bulk_ends_by_events
