use Rattle.std.proofs.Common.{sym, ap, ◌∙◌}
use Rattle.sci_forms.specs.declared.spec.Spec.{Spec}
use Rattle.sci_forms.specs.Form.{has_delay}
use Rattle.sci_program.proofs.Sizes.{port_has_delay}
use Rattle.sci_cgen_sources.specs.Taking.{takes}
use Rattle.sci_cgen_sources.proofs.SettleLemmas.{absent_behind}
use Rattle.sci_cgen_sources.proofs.settle_texts.push_port_delay.Goals as goal

pub block_delay-requires-clause-delays : goal.block_delay-requires-clause-delays
block_delay-requires-clause-delays c =
    let delays = port_has_delay c.args.net.now c.well_formed-2.ensures c.args.q c.requires.port in
    ap (λ (s : Spec). has_delay s.kind) c.spec-spec.ensures.value ∙ delays

pub returns-then-takes_no_part : goal.returns-then-takes_no_part
returns-then-takes_no_part c =
    absent_behind (takes c.args.taking.now c.args.q.block) c.args.q.block _ _ (sym c.takes_no_part.ensures ∙ c.if-takes_no_part.true)
