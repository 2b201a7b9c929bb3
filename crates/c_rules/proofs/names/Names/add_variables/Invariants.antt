use Rattle.std.proofs.Common.{◌≡◌, map, drop}
use Rattle.indexmap.specs.IndexSet.{insert_all}
use Rattle.c_ast.specs.Rules.{same_name}
use Rattle.c_rules.specs.Naming.{declared_name}
use Rattle.c_ast.specs.View.{declared_of}
use Rattle.c_rules.proofs.names.Names.add_variables.Given as goal

abbrev pub invariant-loop-decl : goal.invariant-loop-decl
invariant-loop-decl l = insert_all same_name l.self (map declared_name (map declared_of (drop l.decl-index l.decls))) ≡ insert_all same_name l.fn.self (map declared_name (map declared_of l.decls))
