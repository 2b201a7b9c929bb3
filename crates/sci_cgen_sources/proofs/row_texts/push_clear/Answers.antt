use Rattle.std.proofs.Common.{◌-◌, Bool, ap, ◌∙◌}
use Rattle.std.proofs.lemmas.Result.{on_ok_weaker}
use Rattle.c_ast.specs.Syntax.{Block, set, cell}
use Rattle.c_ast.specs.View.{statements_of}
use Rattle.c_mean.specs.Texts.{joined}
use Rattle.sci_program.specs.Names.{actives}
use Rattle.sci_program.specs.Program.{natural, one, text_where}
use Rattle.sci_due_texts.proofs.TextLemmas.{joined_more}
use Rattle.sci_cgen_sources.proofs.row_texts.push_clear.Goals as goal

pub returns : goal.returns
returns c =
    let first : Block = one (set (cell actives (natural (c.args.entry.now.block - 1))) (natural 0)) in
    let cleared = c.in_ok-push_unmark.ensures ∙ ap (λ (t : Bool). joined (statements_of c.args.out.now.items) (text_where t first)) c.tests_mark.ensures in
    on_ok_weaker c.push_branchless.result (joined_more _ _ _ _ _ cleared) c.push_branchless.ensures
