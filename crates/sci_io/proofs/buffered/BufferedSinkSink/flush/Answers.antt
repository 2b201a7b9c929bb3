use Rattle.std.proofs.Common.{rules, [], append-nil}
use Rattle.sci_io.proofs.Advance.{then_writes, same_text}
use Rattle.sci_io.proofs.Buffering.{cut_bytes, emptied}
use Rattle.sci_io.proofs.buffered.BufferedSinkSink.flush.Goals as goal

pub returns-in_err-give-clause-written : goal.returns-in_err-give-clause-written
returns-in_err-give-clause-written g c =
    cut_bytes _ _ c.args.self.now.buffer.items [] _ c.args.self.now.failing _ c.give.result c.from_residual.result _ _ c.in_err-give.was (search rules) c.give.ensures.emptied c.give.ensures.fails
    c.give.ensures.written

pub returns-clause-written : goal.returns-clause-written
returns-clause-written g c =
    let whole = same_text (append-nil c.args.self.now.buffer.items) (then_writes c.args.self.now.buffer.items [] c.give.result c.flush-flushed.result _ c.in_ok-give.was c.give.ensures.written c.flush-flushed.ensures.written) in
    emptied _ _ c.args.self.now.buffer.items _ c.args.self.now.failing _ c.flush-flushed.result (search rules) (search rules) c.give.ensures.emptied whole

pub returns-clause-given : goal.returns-clause-given
returns-clause-given g c =
    same_text (append-nil c.args.self.now.buffer.items) (then_writes c.args.self.now.buffer.items [] c.give.result c.flush-flushed.result _ c.in_ok-give.was c.give.ensures.written c.flush-flushed.ensures.written)
