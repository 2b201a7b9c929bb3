use Rattle.std.proofs.Common.{ap, ◌∙◌}
use Rattle.c_ast.specs.declared.Bound.TheVariants as bounds
use Rattle.c_ast.specs.Syntax.{call, loop, tell, finish, done, next}
use Rattle.c_ast.specs.View.{statements_of}
use Rattle.c_mean.specs.Texts.{joined}
use Rattle.sci_program.specs.Names.{limit_name, fired_name, event_name}
use Rattle.sci_program.specs.Program.{natural, one, halted_or}
use Rattle.sci_cgen_run.proofs.RunLemmas.{follows, behind}
use Rattle.sci_cgen_run.proofs.run_texts.push_run.Goals as goal

pub returns : goal.returns
returns c =
    let turns = follows (statements_of c.args.out.now.items) (one (loop fired_name (bounds.Var limit_name) (one (call event_name))))
    (c.in_ok-push.ensures ∙ ap (λ s. joined (statements_of c.args.out.now.items) (next s done)) c.in_ok-turns.ensures) in
    let ended = follows (statements_of c.push.new.out.items) (halted_or c.args.net.now (one (tell (finish (natural 1))))) c.in_ok-push_end.ensures in
    (behind turns ended).is
