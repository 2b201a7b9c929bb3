use Rattle.std.proofs.Common.{◌≡◌, length, ap, sym, ◌∙◌}
use Rattle.sci_forms.specs.declared.spec.Spec.{Spec}
use Rattle.sci_net.specs.Parts.{spec_of}
use Rattle.sci_cgen_blocks.specs.Plain.{plain_places}
use Rattle.sci_cgen_sources.specs.Taking.{takes}
use Rattle.sci_cgen_sources.proofs.SettleLemmas.{few_outs, outs_within, none_shown, where_absent, absent_where}
use Rattle.sci_cgen_sources.proofs.settle_texts.push_values.Goals as goal

pub push_outputs-requires-clause-few : goal.push_outputs-requires-clause-few
push_outputs-requires-clause-few c = few_outs c.spec.result.now c.spec.ensures.is_typed

pub push_outputs-requires-clause-within : goal.push_outputs-requires-clause-within
push_outputs-requires-clause-within c =
    outs_within c.args.net.now c.args.block c.spec.result.now (plain_places c.layout.result.now) c.well_formed-2.ensures c.requires.block c.spec.ensures.value
    (c.layout.ensures ∙ c.requires.laid.places c.args.block c.requires.block)

pub returns-then-len-eq0 : goal.returns-then-len-eq0
returns-then-len-eq0 c =
    let no_outs : length (spec_of c.args.net.now c.args.block).outs ≡ 0
    = ap (λ (s : Spec). length s.outs) (sym c.spec.ensures.value) ∙ sym c.len.ensures.value ∙ c.if-len-eq0.true in
    where_absent _ _ _ (none_shown _ no_outs)

pub returns-then-takes_no_part : goal.returns-then-takes_no_part
returns-then-takes_no_part c =
    absent_where _ (takes c.args.taking.now c.args.block) c.args.block _ _ (sym c.takes_no_part.ensures ∙ c.if-takes_no_part.true)
