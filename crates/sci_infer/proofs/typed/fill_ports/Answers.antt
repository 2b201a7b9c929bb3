use Rattle.std.proofs.Common.{◌++◌, ◌∷◌, [], arith, ap, ◌∙◌}
use Rattle.sci_forms.specs.declared.ports.Port.{Port}
use Rattle.sci_infer.specs.Typed.{typed_ports}
use Rattle.sci_infer.proofs.Filled.{ports_more}
use Rattle.sci_infer.proofs.typed.fill_ports.Goals as goal

pub loop-port-preserved : goal.loop-port-preserved
loop-port-preserved c =
    ports_more c.args.values.now c.loop-port.items.items (typed_ports c.args.values.now c.args.start c.args.ports.now) c.push.new.self.items c.args.ports.now c.loop-port.port c.args.start
    (omega (arith, c.loop-port-test.true, c.len-port-end.ensures.value)) c.loop-port.invariant
    (c.in_ok-push.ensures.items ∙ ap (λ (p : Port). c.loop-port.items.items ++ p ∷ []) c.fill_port.ensures)
