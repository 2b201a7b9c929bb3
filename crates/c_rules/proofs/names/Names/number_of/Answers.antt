use Rattle.std.proofs.Common.{◌∙◌, List, ap}
use Rattle.std.proofs.lemmas.Iterator.Adapters.{position_from-zero}
use Rattle.c_ast.specs.declared.Name.{Name}
use Rattle.c_ast.specs.Rules.{same_name}
use Rattle.c_rules.specs.Naming.{number_in}
use Rattle.c_rules.proofs.names.Names.number_of.Goals as goal

pub returns-clause-value : goal.returns-clause-value
returns-clause-value c = c.get_index_of.ensures.index ∙ position_from-zero (same_name c.args.name) c.self.inside.set.keys ∙ ap (λ (l : List Name). number_in l c.args.name) c.self.view_is
