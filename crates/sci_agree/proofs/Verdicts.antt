-- The laws of verdicts.
use Rattle.std.proofs.Common.{◌≡◌, ◌≢◌, ℕ, suc, ◌+◌, List, sym, ap, subst, ◌∙◌, ⊎_elim, arith}
use Rattle.sci_agree.specs.declared.verdict.Verdict.{Verdict}
use Rattle.sci_agree.specs.declared.verdict.Verdict.TheVariants.{Yes, No}
use Rattle.sci_agree.specs.Lines.{lines_of, AgreeOn, IsAgreement, line_behind}
use Rattle.sci_agree.specs.Verdict.{IsVerdict}
use Rattle.sci_agree.proofs.Lines.{own_agreement, one_agreement, next_line}

pub one_verdict : (due text : List ℕ) (v w : Verdict) → IsVerdict due text v → IsVerdict due text w → v ≡ w
one_verdict due text (Yes a) (Yes b) v w = ap Yes (one_agreement text due a b v.1 w.1)
one_verdict due text (Yes a) (No b) v w = absurd (w.0 v.0)
one_verdict due text (No a) (Yes b) v w = absurd (v.0 w.0)
one_verdict due text (No a) (No b) v w =
    ap No (v.1.2 ∙ (ap (λ (n : ℕ). n + 1) (one_agreement text due v.1.0 w.1.0 v.1.1 w.1.1) ∙ sym w.1.2))

pub yes_is_due : (due text : List ℕ) (lines : ℕ) → IsVerdict due text (Yes lines) → (text ≡ due) × (lines_of text ≡ lines)
yes_is_due due text lines v = (
  v.0,
  one_agreement text text (lines_of text) lines (own_agreement text) (subst (λ (d : List ℕ). IsAgreement text d lines) (sym v.0) v.1),
)

pub no_is_first : (due text : List ℕ) (line : ℕ) → IsVerdict due text (No line) →
    (before : ℕ) × (line ≡ before + 1) × AgreeOn before text due × (line_behind text before ≢ line_behind due before)
no_is_first due text line v = (
  v.1.0,
  v.1.2,
  v.1.1.agree,
  (λ same. ⊎_elim (λ equal. v.0 equal) (λ more. let l = v.1.1.most (suc v.1.0) more in omega (arith, l)) (next_line text due v.1.0 v.1.1.agree same)),
)
