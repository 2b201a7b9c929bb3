use Rattle.std.proofs.Common.{◌<◌, ◌≤◌, length, arith, ap, ◌∙◌}
use Rattle.std.proofs.lemmas.Result.{on_ok_weaker}
use Rattle.sci_net.specs.Sources.{sources_of}
use Rattle.c_ast.specs.Syntax.{scalar, ask, until}
use Rattle.c_ast.specs.View.{statements_of}
use Rattle.c_mean.specs.Texts.{joined}
use Rattle.sci_program.specs.Program.{one}
use Rattle.sci_cgen_run.proofs.OutsetLemmas.{behind_two, where_some, where_none}
use Rattle.sci_cgen_run.proofs.outset_texts.push_programmed.Goals as goal

pub returns-in_ok-push_count : goal.returns-in_ok-push_count
returns-in_ok-push_count c =
    let some : 1 < length (sources_of c.args.net.now) = omega arith in
    on_ok_weaker c.push.result (λ e.
    behind_two _ _ _ _ _ c.in_ok-push_count.ensures
    (e ∙ ap (λ x. joined (statements_of c.push_count.new.out.items) (one (ask (scalar x) until))) c.until.ensures)
    ∙ ap (joined (statements_of c.args.out.now.items)) (where_some (length (sources_of c.args.net.now)) _ some)) c.push.ensures

pub returns-else-source_count-gt1 : goal.returns-else-source_count-gt1
returns-else-source_count-gt1 c =
    let none : length (sources_of c.args.net.now) ≤ 1 = omega arith in
    where_none (length (sources_of c.args.net.now)) _ (statements_of c.args.out.now.items) none
