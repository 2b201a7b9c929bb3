use Rattle.std.proofs.Common.{◌≡◌, ◌++◌, drop, map}
use Rattle.c_ast.specs.View.{declared_of}
use Rattle.c_trim.specs.Candidates.{candidate_of}
use Rattle.c_trim.proofs.declarations.candidates.Given as goal

abbrev pub invariant-loop-decl : goal.invariant-loop-decl
invariant-loop-decl l = l.out.items ++ map candidate_of (map declared_of (drop l.decl-index l.decls)) ≡ map candidate_of (map declared_of l.decls)
