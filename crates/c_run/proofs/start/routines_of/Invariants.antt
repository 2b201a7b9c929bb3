use Rattle.std.proofs.Common.{◌≡◌, map, drop, reverse, []}
use Rattle.c_ast.specs.View.{function_of}
use Rattle.c_mean.specs.Meaning.{numbered}
use Rattle.c_run.specs.Running.{numbered_of}
use Rattle.c_run.proofs.start.routines_of.Given as goal

abbrev pub invariant-loop-func : goal.invariant-loop-func
invariant-loop-func l = numbered l.first (map function_of (drop l.func-index l.funcs)) (map numbered_of (reverse l.list.items)) ≡ numbered 1 (map function_of l.funcs) []
