use Rattle.std.specs.Prelude.{None, false}
use Rattle.sci_io.specs.Taken.{direct}
use Rattle.sci_wave.proofs.Driven.{Driven}
use Rattle.sci_wave.proofs.driver.dump_run.Given as goal

abbrev pub invariant-loop-reaction : goal.invariant-loop-reaction
invariant-loop-reaction g l =
    Driven l.fn.ready.fixed.net l.ins l.until l.limit l.fn.ready l.ready l.lib
    (direct None 0 false) (direct None 0 false) l.dump l.date (g.S.Sink.state l.fn.out) (g.S.Sink.state l.out) l._reaction
