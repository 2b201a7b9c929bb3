use Rattle.std.proofs.Common.{◌≡◌, drop, ◌++◌, map}
use Rattle.c_ast.specs.View.{declared_of}
use Rattle.c_ast.specs.Events.{declared_event}
use Rattle.c_rules.proofs.events.declarations.Given as goal

abbrev pub invariant-loop-decl : goal.invariant-loop-decl
invariant-loop-decl l = l.list.items ++ map declared_event (map declared_of (drop l.decl-index l.decls)) ≡ l.initial.list.items ++ map declared_event (map declared_of l.decls)
