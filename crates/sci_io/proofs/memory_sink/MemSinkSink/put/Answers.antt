use Rattle.std.proofs.Common.{rules, Some}
use Rattle.sci_io.proofs.Advance.{direct_took, direct_cut, took_nothing}
use Rattle.sci_io.proofs.memory_sink.MemSinkSink.put.Goals as goal

pub returns-then-told-clause-written : goal.returns-then-told-clause-written
returns-then-told-clause-written c =
    let taken = Some c.args.self.now.bytes.items in
    direct_cut taken taken _ _ _ c.args.piece.now _ (took_nothing taken c.args.piece.now) (search rules) (search rules)

pub returns-clause-written : goal.returns-clause-written
returns-clause-written c = direct_took _ _ _ _ c.args.piece.now _ (search rules)
