use Rattle.sci_cgen_base.proofs.TextLemmas.{where_false}
use Rattle.sci_cgen_sources.proofs.row_texts.push_mark.Goals as goal

pub returns-else-test : goal.returns-else-test
returns-else-test c = where_false _ _ c.args.test c.if-test.false
