use Rattle.std.proofs.Common.{sym, ap, ◌∙◌}
use Rattle.sci_forms.specs.declared.spec.Spec.{Spec}
use Rattle.sci_ranges_refined.specs.Choices.{compares}
use Rattle.sci_ranges_find.proofs.following.only_compared.Goals as goal

pub returns-then-compares : goal.returns-then-compares
returns-then-compares c =
    record { block = c.requires; comparing = ap (λ (s : Spec). compares s.kind) (sym c.spec.ensures.value) ∙ (sym c.compares.ensures ∙ c.if-compares.true) }
