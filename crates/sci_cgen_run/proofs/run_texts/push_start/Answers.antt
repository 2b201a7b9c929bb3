use Rattle.std.proofs.Common.{ap, ◌∙◌}
use Rattle.c_ast.specs.Syntax.{scalar, ask, limit, call, done, next}
use Rattle.c_ast.specs.View.{statements_of}
use Rattle.c_mean.specs.Texts.{joined}
use Rattle.sci_program.specs.Names.{limit_name, source_name}
use Rattle.sci_program.specs.Program.{one, first_text}
use Rattle.sci_cgen_run.proofs.RunLemmas.{follows, behind}
use Rattle.sci_cgen_run.proofs.run_texts.push_start.Goals as goal

pub returns : goal.returns
returns c =
    let bound = follows (statements_of c.args.out.now.items) (one (ask (scalar limit_name) limit))
    (c.in_ok-push.ensures ∙ ap (λ x. joined (statements_of c.args.out.now.items) (next (ask (scalar x) limit) done)) c.limit.ensures) in
    let start = follows (statements_of c.push.new.out.items) (one (call (source_name 0)))
    (c.in_ok-push-2.ensures ∙ ap (λ x. joined (statements_of c.push.new.out.items) (next (call x) done)) c.source_function.ensures) in
    let first = follows (statements_of c.push-2.new.out.items) (first_text c.args.net.now) c.in_ok-push_first.ensures in
    (behind bound (behind start first)).is
