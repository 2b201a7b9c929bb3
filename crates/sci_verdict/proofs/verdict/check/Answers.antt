use Rattle.std.proofs.Common.{rules}
use Rattle.sci_verdict.proofs.Phases.{stopped_before, net_given, stopped_planning, checked}
use Rattle.sci_verdict.proofs.verdict.check.Goals as goal

pub returns-in_err-net : goal.returns-in_err-net
returns-in_err-net c = stopped_before c.args.bytes.now _ c.typed_net.result c.from_residual.result c.in_err-net.was (search rules) c.typed_net.ensures

pub returns-in_err-schedule : goal.returns-in_err-schedule
returns-in_err-schedule c =
    let given = net_given c.args.bytes.now c.in_ok-net.net c.typed_net.result c.in_ok-net.was c.typed_net.ensures in
    stopped_planning c.args.bytes.now c.in_ok-net.net _ c.from_residual-in_err-schedule.result (search rules) given c.in_err-schedule.ensures.stop

pub returns : goal.returns
returns c =
    let given = net_given c.args.bytes.now c.in_ok-net.net c.typed_net.result c.in_ok-net.was c.typed_net.ensures in
    checked c.args.bytes.now (record { net = c.in_ok-net.net; schedule = c.in_ok-schedule.schedule }) given c.in_ok-schedule.ensures.ok
