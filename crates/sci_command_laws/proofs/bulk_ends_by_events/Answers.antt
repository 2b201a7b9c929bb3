use Rattle.sci_command_laws.proofs.BulkRuns.{by_events}
use Rattle.sci_command_laws.proofs.bulk_ends_by_events.Goals as goal

pub returns : goal.returns
returns c = by_events
