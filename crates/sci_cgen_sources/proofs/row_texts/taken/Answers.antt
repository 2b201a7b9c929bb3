use Rattle.sci_cgen_sources.proofs.RowLemmas.{joined_new}
use Rattle.sci_cgen_sources.proofs.row_texts.taken.Goals as goal

pub returns : goal.returns
returns c = joined_new _ _ _ _ _ c.new-out.ensures.items c.in_ok-push_mark.ensures c.in_ok-push_branch_mask.ensures
