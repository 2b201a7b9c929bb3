use Rattle.std.proofs.Common.{◌∙◌, sym, ap, true≢false}
use Rattle.sci_forms.specs.declared.spec.Spec.{Spec}
use Rattle.sci_forms.specs.Form.{is_sync}
use Rattle.sci_inherit.proofs.Sourced.{onward_none}
use Rattle.sci_inherit.proofs.gather.onward_of.Goals as goal

pub returns-else-is_sync-clause-onward : goal.returns-else-is_sync-clause-onward
returns-else-is_sync-clause-onward c =
    onward_none c.args.net.now c.args.block c.new.result.items
    (λ t. true≢false (sym t ∙ (sym (ap (λ (s : Spec). is_sync s.kind) c.spec.ensures.value) ∙ (sym c.is_sync.ensures ∙ c.if-is_sync.false)))) c.new.ensures.items
