use Rattle.std.proofs.Common.{◌≡◌, false, ap, sym, ◌∙◌}
use Rattle.sci_forms.specs.declared.spec.Spec.{Spec}
use Rattle.sci_net.specs.Parts.{spec_of}
use Rattle.sci_forms.specs.Form.{is_halt}
use Rattle.sci_cgen_sources.specs.Taking.{takes}
use Rattle.sci_cgen_sources.proofs.SettleLemmas.{where_absent, absent_where}
use Rattle.sci_cgen_sources.proofs.settle_texts.push_halt.Goals as goal

pub returns-then-not-is_halt : goal.returns-then-not-is_halt
returns-then-not-is_halt c =
    let goes_on : is_halt (spec_of c.args.net.now c.args.block).kind ≡ false
    = ap (λ (s : Spec). is_halt s.kind) (sym c.spec.ensures.value) ∙ sym c.is_halt.ensures ∙ c.if-not-is_halt.true in
    where_absent _ _ _ goes_on

pub returns-then-takes_no_part : goal.returns-then-takes_no_part
returns-then-takes_no_part c =
    absent_where _ (takes c.args.taking.now c.args.block) c.args.block _ _ (sym c.takes_no_part.ensures ∙ c.if-takes_no_part.true)
