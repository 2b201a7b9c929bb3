use Rattle.std.proofs.Common.{ap, ◌∙◌}
use Rattle.std.proofs.lemmas.Result.{on_ok_weaker}
use Rattle.c_ast.specs.View.{statements_of}
use Rattle.c_mean.specs.Texts.{joined}
use Rattle.sci_program.specs.Program.{text_where, mark}
use Rattle.sci_cgen_sources.proofs.RowLemmas.{joined_four}
use Rattle.sci_cgen_sources.proofs.row_texts.push_entry.Goals as goal

pub returns : goal.returns
returns c =
    let marked = c.in_ok-push_mark.ensures ∙ ap (λ t. joined (statements_of c.args.out.now.items) (text_where t (mark c.args.entry.now.block))) c.marks_first.ensures in
    on_ok_weaker c.push_values.result (joined_four _ _ _ _ _ _ _ _ _ marked c.in_ok-push_mask.ensures c.in_ok-push_all_guards.ensures) c.push_values.ensures
