use Rattle.std.proofs.Common.{ap, ◌∙◌}
use Rattle.c_ast.specs.View.{statements_of}
use Rattle.c_mean.specs.Texts.{joined}
use Rattle.sci_cgen_sources.proofs.RowLemmas.{joined_new}
use Rattle.sci_due_texts.proofs.TextLemmas.{joined_more}
use Rattle.sci_cgen_sources.proofs.row_texts.pass_text.Goals as goal

pub returns : goal.returns
returns c =
    joined_new _ _ _ _ _ c.new-out.ensures.items (c.in_ok-push.ensures ∙ ap (joined (statements_of c.new-out.result.items)) c.header.ensures)
    (joined_more _ _ _ _ _ c.in_ok-push_own_clears.ensures c.in_ok-push_entries.ensures)
