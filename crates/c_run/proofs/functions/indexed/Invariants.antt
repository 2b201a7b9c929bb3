use Rattle.std.proofs.Common.{◌≡◌, take}
use Rattle.c_ast.specs.declared.Name.{Name}
use Rattle.c_rules.specs.Naming.{by_name}
use Rattle.c_run.specs.Calls.{latest}
use Rattle.c_run.proofs.functions.indexed.Given as goal

abbrev pub invariant-loop-k : goal.invariant-loop-k
invariant-loop-k l = (f : Name) → by_name l.names l.index.items f ≡ latest f 0 (take l.k l.routines.items)
