use Rattle.std.proofs.Common.{rules}
use Rattle.sci_verdict.proofs.Phases.{unmeasured_before, net_given, stopped_measuring, measured}
use Rattle.sci_verdict.proofs.verdict.measure.Goals as goal

pub returns-in_err-net : goal.returns-in_err-net
returns-in_err-net c = unmeasured_before c.args.bytes.now _ c.typed_net.result c.from_residual.result c.in_err-net.was (search rules) c.typed_net.ensures

pub returns-in_err-size : goal.returns-in_err-size
returns-in_err-size c =
    let given = net_given c.args.bytes.now c.in_ok-net.net c.typed_net.result c.in_ok-net.was c.typed_net.ensures in
    stopped_measuring c.args.bytes.now c.in_ok-net.net _ c.from_residual-in_err-size.result (search rules) given c.in_err-size.ensures.stop

pub returns : goal.returns
returns c =
    let given = net_given c.args.bytes.now c.in_ok-net.net c.typed_net.result c.in_ok-net.was c.typed_net.ensures in
    measured c.args.bytes.now (record { net = c.in_ok-net.net; size = c.in_ok-size.size }) given c.in_ok-size.ensures.ok
