use Rattle.sci_cgen_base.proofs.TextLemmas.{where_false}
use Rattle.sci_cgen_sources.proofs.row_texts.push_own_clears.Goals as goal

pub returns-else-own : goal.returns-else-own
returns-else-own c = where_false _ _ c.args.own c.if-own.false
