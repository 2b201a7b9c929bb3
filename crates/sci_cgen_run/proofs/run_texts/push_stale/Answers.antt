use Rattle.std.proofs.Common.{sym, ◌∙◌}
use Rattle.sci_due.specs.Due.{are_grouped}
use Rattle.sci_program.specs.Program.{port_count}
use Rattle.sci_cgen_base.proofs.TextLemmas.{where_false}
use Rattle.sci_cgen_run.proofs.run_texts.push_stale.Goals as goal

pub returns-else-has_groups : goal.returns-else-has_groups
returns-else-has_groups c = where_false _ _ (are_grouped (port_count c.args.net.now)) (sym c.has_groups.ensures ∙ c.if-has_groups.false)
