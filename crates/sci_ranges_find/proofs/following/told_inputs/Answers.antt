use Rattle.std.proofs.Common.{sym, ap, ◌∙◌}
use Rattle.sci_forms.specs.declared.spec.Spec.{Spec}
use Rattle.sci_ranges_pass.specs.Taken.{is_choice}
use Rattle.sci_ranges_find.proofs.following.told_inputs.Goals as goal

pub taken_ranges-requires-clause-choice : goal.taken_ranges-requires-clause-choice
taken_ranges-requires-clause-choice c = ap (λ (s : Spec). is_choice s) (sym c.spec.ensures.value) ∙ (sym c.is_choice.ensures ∙ c.if-not-is_choice.false)
