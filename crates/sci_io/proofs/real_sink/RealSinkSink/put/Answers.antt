use Rattle.std.proofs.Common.{rules}
use Rattle.sci_io.proofs.Advance.{direct_took, direct_cut}
use Rattle.sci_io.proofs.real_sink.RealSinkSink.put.Goals as goal

pub returns-then-write_whole-clause-written : goal.returns-then-write_whole-clause-written
returns-then-write_whole-clause-written g c = direct_took _ _ _ _ c.args.piece.now _ (c.write_whole.ensures.whole c.if-write_whole.true)

pub returns-clause-written : goal.returns-clause-written
returns-clause-written g c = direct_cut _ _ _ _ _ c.args.piece.now _ c.write_whole.ensures.front (search rules) (search rules)
