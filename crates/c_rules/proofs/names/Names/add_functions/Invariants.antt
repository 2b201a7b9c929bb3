use Rattle.std.proofs.Common.{◌≡◌, map, drop}
use Rattle.indexmap.specs.IndexSet.{insert_all}
use Rattle.c_ast.specs.Rules.{same_name}
use Rattle.c_rules.specs.Naming.{function_name}
use Rattle.c_ast.specs.View.{function_of}
use Rattle.c_rules.proofs.names.Names.add_functions.Given as goal

abbrev pub invariant-loop-func : goal.invariant-loop-func
invariant-loop-func l = insert_all same_name l.self (map function_name (map function_of (drop l.func-index l.funcs))) ≡ insert_all same_name l.fn.self (map function_name (map function_of l.funcs))
