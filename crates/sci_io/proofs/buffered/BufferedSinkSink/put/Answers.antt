use Rattle.std.proofs.Common.{rules, ap, subst, ◌∙◌, List, ℕ, sym, arith, length, ◌<◌, ◌+◌}
use Rattle.sci_io.specs.Taken.{Writes}
use Rattle.sci_io.proofs.Advance.{then_writes}
use Rattle.sci_io.proofs.Buffering.{kept_back, kept_alone, cut_bytes, past_buffer, cut_given, given_whole}
use Rattle.sci_io.proofs.buffered.BufferedSinkSink.put.Goals as goal

pub returns-then-piece-self-clause-written : goal.returns-then-piece-self-clause-written
returns-then-piece-self-clause-written g c =
    kept_back _ _ _ c.args.piece.now _ c.args.self.now.failing _ _ c.hold.ensures.failing (ap g.S.Sink.state c.hold.ensures.sink) c.hold.ensures.held

pub returns-in_err-give-clause-written : goal.returns-in_err-give-clause-written
returns-in_err-give-clause-written g c =
    cut_bytes _ _ c.args.self.now.buffer.items c.args.piece.now _ c.args.self.now.failing _ c.give.result c.from_residual.result _ _ c.in_err-give.was (search rules) c.give.ensures.emptied c.give.ensures.fails c.give.ensures.written

pub returns-in_err-give-clause-given : goal.returns-in_err-give-clause-given
returns-in_err-give-clause-given g c =
    let over : c.args.self.now.room < length c.args.self.now.buffer.items + length c.args.piece.now = omega (arith, c.if-piece-self.false, c.len.ensures, c.args.self.now.buffer.ok.0) in
    cut_given _ _ c.args.self.now.room c.args.self.now.buffer.items c.args.piece.now c.give.result c.from_residual.result _ _ over c.in_err-give.was (search rules) c.give.ensures.written

pub returns-then-self-piece-clause-written : goal.returns-then-self-piece-clause-written
returns-then-self-piece-clause-written g c =
    let whole = then_writes c.args.self.now.buffer.items c.args.piece.now c.give.result c.pass.result _ c.in_ok-give.was c.give.ensures.written c.pass.ensures.written in
    past_buffer _ _ c.args.self.now.buffer.items c.args.piece.now _ c.args.self.now.failing _ c.pass.result c.pass.ensures.works c.pass.ensures.fails
    (c.pass.ensures.held ∙ c.give.ensures.emptied) whole

pub returns-then-self-piece-clause-given : goal.returns-then-self-piece-clause-given
returns-then-self-piece-clause-given g c =
    let whole = then_writes c.args.self.now.buffer.items c.args.piece.now c.give.result c.pass.result _ c.in_ok-give.was c.give.ensures.written c.pass.ensures.written in
    let large : c.args.self.now.room < length c.args.piece.now = omega (arith, c.if-self-piece.true, c.give.ensures.room) in
    subst (λ (l : List ℕ). Writes (g.S.Sink.state c.args.self.now.sink) (g.S.Sink.state c.pass.new.self.sink) l c.pass.result) (sym (given_whole c.args.self.now.room c.args.self.now.buffer.items c.args.piece.now large)) whole

pub returns-clause-written : goal.returns-clause-written
returns-clause-written g c =
    kept_alone _ _ _ c.args.self.now.buffer.items c.args.piece.now _ c.args.self.now.failing _ c.give.result _ _ (search rules) c.in_ok-give.was c.give.ensures.written (ap g.S.Sink.state c.hold-2.ensures.sink) (search rules)
