use Rattle.std.proofs.Common.{sym, ◌∙◌}
use Rattle.sci_cgen_base.proofs.TextLemmas.{where_false}
use Rattle.sci_cgen_sources.proofs.row_texts.push_all_guards.Goals as goal

pub returns-else-wants_guards : goal.returns-else-wants_guards
returns-else-wants_guards c = where_false _ _ _ (sym c.wants_guards.ensures ∙ c.if-wants_guards.false)
