use Rattle.std.proofs.Common.{sym, ◌∙◌}
use Rattle.sci_cgen_base.proofs.TextLemmas.{where_false}
use Rattle.sci_cgen_sources.proofs.row_texts.push_bit.Goals as goal

pub returns-else-has_bit : goal.returns-else-has_bit
returns-else-has_bit c = where_false _ _ _ (sym c.has_bit.ensures ∙ c.if-has_bit.false)
