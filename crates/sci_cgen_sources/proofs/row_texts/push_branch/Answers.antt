use Rattle.std.proofs.Common.{sym, ap, ◌∙◌}
use Rattle.sci_forms.specs.declared.spec.Spec.{Spec}
use Rattle.sci_forms.specs.Form.{is_sync}
use Rattle.sci_cgen_base.proofs.TextLemmas.{where_false}
use Rattle.sci_cgen_sources.proofs.row_texts.push_branch.Goals as goal

pub returns-else-is_sync : goal.returns-else-is_sync
returns-else-is_sync c =
    where_false _ _ _ (ap (λ (s : Spec). is_sync s.kind) (sym c.spec.ensures.value) ∙ sym c.is_sync.ensures ∙ c.if-is_sync.false)
