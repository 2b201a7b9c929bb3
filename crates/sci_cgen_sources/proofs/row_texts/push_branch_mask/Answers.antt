use Rattle.std.proofs.Common.{sym, ap, ◌∙◌}
use Rattle.sci_forms.specs.declared.spec.Spec.{Spec}
use Rattle.sci_forms.specs.Form.{reads_mask}
use Rattle.sci_program.proofs.Entries.{few_inputs}
use Rattle.sci_cgen_base.proofs.TextLemmas.{where_false}
use Rattle.sci_cgen_sources.proofs.row_texts.push_branch_mask.Goals as goal

pub push_bits-requires-clause-few : goal.push_bits-requires-clause-few
push_bits-requires-clause-few c =
    few_inputs c.spec-spec.result.now c.spec-spec.ensures.is_typed (sym c.reads_mask.ensures ∙ c.if-reads_mask.true)

pub returns-else-reads_mask : goal.returns-else-reads_mask
returns-else-reads_mask c =
    where_false _ _ _ (ap (λ (s : Spec). reads_mask s.kind) (sym c.spec-spec.ensures.value) ∙ sym c.reads_mask.ensures ∙ c.if-reads_mask.false)
