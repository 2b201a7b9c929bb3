use Rattle.std.proofs.Common.{◌≡◌, true, sym, ap, ◌∙◌}
use Rattle.sci_forms.specs.declared.spec.Spec.{Spec}
use Rattle.sci_net.specs.Parts.{spec_of}
use Rattle.sci_ranges_pass.specs.Taken.{is_choice}
use Rattle.sci_ranges_find.proofs.Choices.{compared_block, added_block}
use Rattle.sci_ranges_find.proofs.following.choosing_of.Goals as goal
use Rattle.sci_ranges_find.proofs.following.choosing_of.Goals.{After-is_choice}

same : (c : After-is_choice) → c.is_choice.result ≡ is_choice (spec_of c.args.net.now c.args.block)
same c = c.is_choice.ensures ∙ ap (λ (s : Spec). is_choice s) c.spec.ensures.value

pub comparison-looked-requires-clause-choice : goal.comparison-looked-requires-clause-choice
comparison-looked-requires-clause-choice c = sym (same (goal.at.comparison-looked-requires-clause-choice c).After-is_choice) ∙ c.if-not-is_choice.false

pub addition-upper-requires-clause-choice : goal.addition-upper-requires-clause-choice
addition-upper-requires-clause-choice c = sym (same (goal.at.addition-upper-requires-clause-choice c).After-is_choice) ∙ c.if-not-is_choice.false

pub addition-lower-requires-clause-choice : goal.addition-lower-requires-clause-choice
addition-lower-requires-clause-choice c = sym (same (goal.at.addition-lower-requires-clause-choice c).After-is_choice) ∙ c.if-not-is_choice.false

pub following_of-requires-clause-block : goal.following_of-requires-clause-block
following_of-requires-clause-block c = compared_block c.args.net.now c.comparison-looked.result c.comparison-looked.ensures.lead

pub following_of-requires-2-clause-block : goal.following_of-requires-2-clause-block
following_of-requires-2-clause-block c = added_block c.args.net.now c.addition-upper.result c.addition-upper.ensures.lead

pub following_of-requires-3-clause-block : goal.following_of-requires-3-clause-block
following_of-requires-3-clause-block c = added_block c.args.net.now c.addition-lower.result c.addition-lower.ensures.lead
