use Rattle.std.proofs.Common.{◌≡◌, take, map, replicate, pos}
use Rattle.c_ast.specs.declared.Name.{Name}
use Rattle.c_rules.specs.Naming.{by_name}
use Rattle.c_ast.specs.View.{declared_of}
use Rattle.c_run.specs.Spans.{span_of}
use Rattle.c_run.proofs.Elements.{total}
use Rattle.c_run.proofs.start.memory_of.Given as goal

abbrev pub invariant-loop-decl : goal.invariant-loop-decl
invariant-loop-decl l =
    ((q : Name) → by_name l.names l.spans.items q ≡ span_of (map declared_of (take l.decl-index l.decls)) q)
    × (l.cells.items ≡ replicate (total (map declared_of (take l.decl-index l.decls))) (pos 0))
