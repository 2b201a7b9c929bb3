use Rattle.std.proofs.Common.{ap, ◌∙◌}
use Rattle.std.proofs.lemmas.Result.{on_ok_weaker}
use Rattle.c_ast.specs.Syntax.{call}
use Rattle.c_ast.specs.View.{statements_of}
use Rattle.c_mean.specs.Texts.{joined}
use Rattle.sci_program.specs.Names.{block_name}
use Rattle.sci_program.specs.Program.{one}
use Rattle.sci_due_texts.proofs.TextLemmas.{joined_more}
use Rattle.sci_cgen_sources.proofs.row_texts.push_call.Goals as goal

pub returns : goal.returns
returns c =
    let first = c.in_ok-push.ensures ∙ ap (λ f. joined (statements_of c.args.out.now.items) (one (call f))) c.block_function.ensures in
    on_ok_weaker c.push_branch.result (joined_more _ _ _ (one (call (block_name c.args.block))) _ first) c.push_branch.ensures
