use Rattle.std.proofs.Common.{◌≡◌, ◌<◌, length, true, false, inl, inr, sym, ◌∙◌, arith}
use Rattle.std.proofs.lemmas.List.{length-set, get_or-set_other}
use Rattle.std.proofs.lemmas.Grind.{get_or-set_at}
use Rattle.std.proofs.lemmas.Bool.{cases_eq}
use Rattle.sci_vcd.proofs.Kept.{both}
use Rattle.sci_vcd.proofs.pages.mark_pages.Goals as goal

pub loop-page-preserved : goal.loop-page-preserved
loop-page-preserved c =
    let here = c.loop-page.page in
    let long : here < length c.loop-page.marked = omega (arith, c.loop-page.invariant.len, c.requires.within, c.loop-page-test.true) in
    record {
      len = length-set c.loop-page.marked here true ∙ c.loop-page.invariant.len;
      marked = λ p low high. elim (cases_eq p here) [
        | inl e ↦ get_or-set_at c.loop-page.marked here p true false e long
        | inr e ↦ get_or-set_other c.loop-page.marked here p true false e ∙ c.loop-page.invariant.marked p low (omega (arith, high, e))
      ];
      kept = λ p off. elim (cases_eq p here) [
        | inl e ↦ absurd (both (sym (get_or-set_at c.loop-page.marked here p true false e long) ∙ off))
        | inr e ↦ c.loop-page.invariant.kept p (sym (get_or-set_other c.loop-page.marked here p true false e) ∙ off)
      ];
    }

pub returns-clause-marked : goal.returns-clause-marked
returns-clause-marked c = λ k low high. c.loop-page.invariant.marked _ (omega (arith, low)) (omega (arith, high, c.loop-page-test.false))
