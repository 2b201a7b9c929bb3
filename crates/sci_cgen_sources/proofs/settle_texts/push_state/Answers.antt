use Rattle.std.proofs.Common.{◌≡◌, false, ap, sym, ◌∙◌}
use Rattle.sci_forms.specs.declared.spec.Spec.{Spec}
use Rattle.sci_forms.specs.Form.{has_state}
use Rattle.sci_net.specs.Parts.{spec_of}
use Rattle.sci_cgen_base.proofs.LaidLemmas.{few_read}
use Rattle.sci_cgen_sources.specs.Taking.{takes}
use Rattle.sci_cgen_sources.proofs.SettleLemmas.{where_absent, absent_where}
use Rattle.sci_cgen_sources.proofs.settle_texts.push_state.Goals as goal

pub block_next-requires-clause-few : goal.block_next-requires-clause-few
block_next-requires-clause-few c =
    few_read c.args.net.now c.args.layouts.now c.args.block _ _ c.well_formed-2.ensures c.requires.laid c.requires.block
    c.spec-spec.ensures.value c.layout.ensures

pub returns-then-not-has_state : goal.returns-then-not-has_state
returns-then-not-has_state c =
    let stateless : has_state (spec_of c.args.net.now c.args.block).kind ≡ false
    = ap (λ (s : Spec). has_state s.kind) (sym c.spec-spec.ensures.value) ∙ sym c.has_state.ensures ∙ c.if-not-has_state.true in
    where_absent _ _ _ stateless

pub returns-then-takes_no_part : goal.returns-then-takes_no_part
returns-then-takes_no_part c =
    absent_where _ (takes c.args.taking.now c.args.block) c.args.block _ _ (sym c.takes_no_part.ensures ∙ c.if-takes_no_part.true)
