use Rattle.std.proofs.Common.{ℕ, ◌+◌, true≢false, sym, subst, ◌∙◌}
use Rattle.sci_agree.specs.declared.verdict.Verdict.TheVariants.{Yes, No}
use Rattle.sci_agree.specs.Verdict.{IsVerdict}
use Rattle.sci_agree.proofs.Taking.{yes, no}
use Rattle.sci_agree.proofs.comparing.Comparing.verdict.Goals as goal

pub returns-then-is_whole : goal.returns-then-is_whole
returns-then-is_whole c = λ due given.
    let whole = c.is_whole.ensures.0 c.if-is_whole.true in
    subst (λ (n : ℕ). IsVerdict due c.args.self.now.text (Yes n)) (sym c.lines.ensures.lines)
    (yes c.args.self.now c.well_formed-2.ensures due given whole.0 whole.1)

pub returns-else-is_whole : goal.returns-else-is_whole
returns-else-is_whole c = λ due given.
    subst (λ (n : ℕ). IsVerdict due c.args.self.now.text (No (n + 1))) (sym c.lines-else-is_whole.ensures.lines)
    (no c.args.self.now c.well_formed-2.ensures due given (λ whole. true≢false (sym (c.is_whole.ensures.1 whole) ∙ c.if-is_whole.false)))
