use Rattle.std.proofs.Common.{arith, ◌≡◌, ◌<◌, ◌≤◌, length, ap, ◌∙◌}
use Rattle.sci_forms.specs.Ports.{port_at, elements}
use Rattle.sci_forms.proofs.PortLemmas.{total_step}
use Rattle.sci_cgen_sources.proofs.SettleLemmas.{output_done, outputs_none, all_done}
use Rattle.sci_cgen_sources.proofs.settle_texts.push_outputs.Goals as goal

pub loop-port-preserved : goal.loop-port-preserved
loop-port-preserved c =
    let more : c.loop-port.port < length c.args.outs.now = omega arith in
    let is : c.elements-count.result ≡ elements (port_at c.args.outs.now c.loop-port.port) = c.elements-count.ensures ∙ ap elements c.get.ensures in
    record {
      shown = output_done c.args.block c.loop-port.place c.loop-port.port c.elements-count.result c.args.outs.now _ _ _ more is c.in_ok-push_output.ensures
          c.loop-port.invariant.shown;
      places = omega (arith, total_step c.args.outs.now c.loop-port.port more, is, c.loop-port.invariant.places);
    }

pub returns : goal.returns
returns c =
    let most : length c.args.outs.now ≤ c.loop-port.port = omega arith in
    all_done _ _ _ (outputs_none c.args.block _ _ c.loop-port.port c.args.outs.now most) c.loop-port.invariant.shown
