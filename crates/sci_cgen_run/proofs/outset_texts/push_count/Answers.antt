use Rattle.std.proofs.Common.{sym, ◌∙◌}
use Rattle.sci_cgen_base.proofs.TextLemmas.{where_false}
use Rattle.sci_cgen_run.proofs.outset_texts.push_count.Goals as goal

pub returns-else-has_several : goal.returns-else-has_several
returns-else-has_several c = where_false _ _ _ (sym c.has_several.ensures ∙ c.if-has_several.false)
