use Rattle.std.proofs.Common.{◌≡◌, drop, ◌++◌, map}
use Rattle.std.specs.List.{flat_map}
use Rattle.c_ast.specs.View.{function_of}
use Rattle.c_ast.specs.Events.{function_events}
use Rattle.c_rules.proofs.events.functions.Given as goal

abbrev pub invariant-loop-func : goal.invariant-loop-func
invariant-loop-func l = l.list.items ++ flat_map function_events (map function_of (drop l.func-index l.funcs)) ≡ l.initial.list.items ++ flat_map function_events (map function_of l.funcs)
