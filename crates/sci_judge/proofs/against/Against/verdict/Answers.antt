use Rattle.std.proofs.Common.{ap, subst}
use Rattle.sci_agree.specs.Compared.{Compared, WasGiven}
use Rattle.sci_agree.specs.Verdict.{IsVerdict}
use Rattle.sci_judge.specs.Against.{Against}
use Rattle.sci_judge.proofs.against.Against.verdict.Goals as goal

pub returns : goal.returns
returns c due given =
    subst (λ (x : Compared). WasGiven due x → IsVerdict due x.text c.verdict.result) (ap (λ (a : Against). a.compared) c.self.view_is) (c.verdict.ensures due) given
