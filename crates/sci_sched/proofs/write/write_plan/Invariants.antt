use Rattle.std.proofs.Common.{drop}
use Rattle.sci_io.specs.Taken.{UnderWay}
use Rattle.sci_net.specs.Sources.{sources_of}
use Rattle.sci_sched.specs.Plain.{lists_of}
use Rattle.sci_sched.specs.Text.{plan_text}
use Rattle.sci_sched.proofs.write.write_plan.Given as goal

-- the rows so far are handed on, and the others are due still
abbrev pub invariant-loop-at : goal.invariant-loop-at
invariant-loop-at g l =
    UnderWay (g.S.Sink.state l.fn.out) (g.S.Sink.state l.out) (plan_text (sources_of l.net) (lists_of l.plan.rows.items)) (plan_text (drop l.at (sources_of l.net)) (lists_of (drop l.at l.plan.rows.items)))
