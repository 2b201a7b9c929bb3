use Rattle.std.proofs.Common.{rules, ◌≡◌, ap, ◌∙◌}
use Rattle.c_ast.specs.Syntax.{Exp, element}
use Rattle.c_ast.specs.View.{exp_of}
use Rattle.c_ast.specs.Events.{exp_events}
use Rattle.c_trim.specs.Candidates.{marked}
use Rattle.c_trim.proofs.Marking.{noted_array}
use Rattle.c_trim.proofs.texts.+expr.Goals as goal

pub returns-in-At : goal.returns-in-At
returns-in-At t c =
    let is : element c.in-At.x (exp_of c.deref.result.now) ≡ exp_of c.args.e.now = search rules in
    c.expr.ensures ∙ (ap (marked (exp_events (exp_of c.deref.result.now))) c.note-in-At.ensures
    ∙ (noted_array c.in-At.x (exp_events (exp_of c.deref.result.now)) c.args.candidates.now
    ∙ ap (λ (e : Exp). marked (exp_events e) c.args.candidates.now) is))
