use Rattle.std.proofs.Common.{None}
use Rattle.sci_io.proofs.Advance.{direct_took}
use Rattle.sci_io.proofs.sure.SureSinkSink.put.Goals as goal

pub returns-clause-written : goal.returns-clause-written
returns-clause-written c = direct_took None None _ _ c.args.piece.now _ tt
