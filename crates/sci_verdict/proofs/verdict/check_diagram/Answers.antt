use Rattle.std.proofs.Common.{rules}
use Rattle.sci_diagram.specs.Objects.{diagram_view}
use Rattle.sci_verdict.proofs.Phases.{tree_stopped_before, tree_net_given, tree_stopped_planning, tree_checked}
use Rattle.sci_verdict.proofs.verdict.check_diagram.Goals as goal

pub returns-in_err-typed : goal.returns-in_err-typed
returns-in_err-typed c = tree_stopped_before (diagram_view c.args.diagram.now) _ c.diagram_net.result c.from_residual.result c.in_err-typed.was (search rules) c.diagram_net.ensures

pub returns-in_err-schedule : goal.returns-in_err-schedule
returns-in_err-schedule c =
    let given = tree_net_given (diagram_view c.args.diagram.now) c.in_ok-typed.typed c.diagram_net.result c.in_ok-typed.was c.diagram_net.ensures in
    tree_stopped_planning (diagram_view c.args.diagram.now) c.in_ok-typed.typed _ c.from_residual-in_err-schedule.result (search rules) given c.in_err-schedule.ensures.stop

pub returns : goal.returns
returns c =
    let given = tree_net_given (diagram_view c.args.diagram.now) c.in_ok-typed.typed c.diagram_net.result c.in_ok-typed.was c.diagram_net.ensures in
    tree_checked (diagram_view c.args.diagram.now) (record { net = c.in_ok-typed.typed; schedule = c.in_ok-schedule.schedule }) given c.in_ok-schedule.ensures.ok
