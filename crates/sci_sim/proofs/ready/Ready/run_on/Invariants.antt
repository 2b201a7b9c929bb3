use Rattle.sci_run.specs.Run.{State}
use Rattle.sci_sim.specs.At.{IsAt}
use Rattle.sci_sim.proofs.Resting.{IsRestOnWay}
use Rattle.sci_sim.proofs.ready.Ready.run_on.Given as goal

abbrev pub invariant-loop-reaction : goal.invariant-loop-reaction
invariant-loop-reaction g l =
    (first : State) → IsAt l.fn.self l.fn.lib first
    → IsRestOnWay l.fn.ins l.fn.until l.fn.limit first l.fn.self l.self l.lib (g.S.Sink.state l.fn.out) (g.S.Sink.state l.out) l._reaction
