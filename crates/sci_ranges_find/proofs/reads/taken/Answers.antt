use Rattle.std.proofs.Common.{None, Option, refl, sym, subst, ◌∙◌}
use Rattle.sci_net.specs.declared.Feed.{Feed}
use Rattle.sci_ranges_marks.specs.View.{marks_of}
use Rattle.sci_ranges_find.specs.View.{IsTaken}
use Rattle.sci_ranges_find.proofs.reads.taken.Goals as goal

pub returns-in-Some : goal.returns-in-Some
returns-in-Some c =
    subst (λ (h : Option Feed). IsTaken c.args.net.now (marks_of c.args.marks.now) c.args.block c.args.port h c.taken_by.result) (sym (sym c.under.ensures ∙ c.in-Some.is)) c.taken_by.ensures

pub returns-in-None : goal.returns-in-None
returns-in-None c =
    subst (λ (h : Option Feed). IsTaken c.args.net.now (marks_of c.args.marks.now) c.args.block c.args.port h None) (sym (sym c.under.ensures ∙ c.in-None.is)) (λ o. refl)
