use Rattle.std.proofs.Common.{arith, ◌<◌, length, sym, ap, ◌∙◌}
use Rattle.sci_forms.specs.declared.ports.Port.{Port}
use Rattle.sci_forms.specs.Ports.{elements}
use Rattle.sci_cgen_blocks.specs.Terms.{is_looped}
use Rattle.sci_cgen_run.proofs.DeclaredLemmas.{port_passed}
use Rattle.sci_cgen_run.proofs.declared_names.is_any_looped.Goals as goal

pub loop-port-preserved : goal.loop-port-preserved
loop-port-preserved c =
    let within : c.loop-port.port < length c.args.outs.now = omega arith in
    let other = sym (c.is_looped.ensures ∙ ap (λ (q : Port). is_looped (elements q)) c.get.ensures) ∙ c.if-is_looped.false in
    port_passed (λ q. is_looped (elements q)) c.args.outs.now c.loop-port.port _ within c.loop-port.invariant other
