use Rattle.sci_sim.proofs.Runs.{IsOnWay}
use Rattle.sci_sim.proofs.ready.Ready.run.Given as goal

abbrev pub invariant-loop-reaction : goal.invariant-loop-reaction
invariant-loop-reaction g l =
    IsOnWay l.fn.ins l.fn.until l.fn.limit l.fn.self l.self l.lib (g.S.Sink.state l.fn.out) (g.S.Sink.state l.out) l._reaction
