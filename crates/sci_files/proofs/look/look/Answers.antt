use Rattle.std.proofs.Common.{rules, ◌≤◌, List, ℕ, length, subst, inr}
use Rattle.sci_base.specs.Plain.{violation_of}
use Rattle.sci_files.proofs.look.look.Goals as goal

pub returns-in-Err-Refused-clause-looked : goal.returns-in-Err-Refused-clause-looked
returns-in-Err-Refused-clause-looked g c =
    let f = c.in-Ok.ensures.file in
    let h = rw c.in-Err-Refused.field-0-is at c.in-Err-Refused.ensures in
    let breaks = subst (λ (l : List ℕ). g.R.Rules.breaks c.args.rules.now l (violation_of c.in-Err-Refused.refusal)) c.deref.ensures.value h in
    let short : length c.in-Ok.bytes.items ≤ g.R.Rules.LONGEST = search rules in
    ((c.in-Ok.bytes.items, f.0, inr (short, breaks)), f.2)
