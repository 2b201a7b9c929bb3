use Rattle.std.proofs.Common.{◌≡◌}
use Rattle.sci_store.specs.Store.{AreIdle}
use Rattle.sci_judge.specs.Reacting.{IsSound}
use Rattle.sci_judge.proofs.Runs.{IsOnWay}
use Rattle.sci_judge.proofs.judging.Judging.run.Given as goal

abbrev pub invariant-loop-fired : goal.invariant-loop-fired
invariant-loop-fired g l = record {
  way : IsOnWay l.self.kept.fixed l.fn.inputs l.fn.until l.fn.limit l.self.kept.store l.lib l.self.events.pending
      (g.S.Sink.state l.fn.out) (g.S.Sink.state l.out) l.firing.date l.firing.source l.fired;
  sound : IsSound l.self;
  idle : AreIdle l.self.kept.fixed l.self.kept.store;
  same : l.self.kept.fixed ≡ l.fn.self.kept.fixed;
}
