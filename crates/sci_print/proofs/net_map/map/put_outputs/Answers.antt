use Rattle.std.proofs.Common.{rules, ◌+◌, drop, subst, ap, List, ℕ, arith}
use Rattle.sci_io.specs.Taken.{UnderWay}
use Rattle.sci_io.proofs.Advance.{cut_off, next_front, same_text}
use Rattle.sci_forms.specs.Ports.{no_port, port_at}
use Rattle.sci_print.specs.Map.{output_text, outputs_text}
use Rattle.sci_print.proofs.Pieces.{outputs-drop}
use Rattle.sci_print.proofs.net_map.map.put_outputs.Goals as goal

pub returns-in_err-put_output : goal.returns-in_err-put_output
returns-in_err-put_output g c =
    let i = c.loop-at.at in
    let ps = c.args.ports.now in
    let due = subst (λ (l : List ℕ). UnderWay (g.S.Sink.state c.args.out.now) (g.S.Sink.state c.loop-at.out) (outputs_text ps) l) (outputs-drop ps i no_port (omega arith)) c.loop-at.invariant in
    cut_off (output_text (port_at ps i)) (outputs_text (drop (i + 1) ps)) c.put_output.result c.from_residual.result _ _ c.in_err-put_output.was (search rules) due (same_text (ap output_text c.get.ensures) c.put_output.ensures)

pub loop-at-preserved : goal.loop-at-preserved
loop-at-preserved g c =
    let i = c.loop-at.at in
    let ps = c.args.ports.now in
    let due = subst (λ (l : List ℕ). UnderWay (g.S.Sink.state c.args.out.now) (g.S.Sink.state c.loop-at.out) (outputs_text ps) l) (outputs-drop ps i no_port (omega arith)) c.loop-at.invariant in
    next_front (output_text (port_at ps i)) (outputs_text (drop (i + 1) ps)) c.put_output.result _ c.in_ok-put_output.was due (same_text (ap output_text c.get.ensures) c.put_output.ensures)
