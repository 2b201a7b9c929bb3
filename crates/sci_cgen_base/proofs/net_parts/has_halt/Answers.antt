use Rattle.std.proofs.Common.{arith, ◌<◌, length, sym, ap, ◌∙◌}
use Rattle.sci_forms.specs.declared.spec.Spec.{Spec}
use Rattle.sci_forms.specs.Form.{is_halt}
use Rattle.sci_cgen_base.proofs.NetLemmas.{any_passed}
use Rattle.sci_cgen_base.proofs.net_parts.has_halt.Goals as goal

pub loop-at-preserved : goal.loop-at-preserved
loop-at-preserved c =
    let within : c.loop-at.at < length c.args.net.now.specs = omega arith in
    let other = sym (c.is_halt.ensures ∙ ap (λ (s : Spec). is_halt s.kind) c.spec.ensures.value) ∙ c.if-is_halt.false in
    any_passed (λ s. is_halt s.kind) c.args.net.now.specs c.loop-at.at _ within c.loop-at.invariant other
