use Rattle.std.proofs.Common.{◌≡◌, map, drop}
use Rattle.c_ast.specs.View.{function_of}
use Rattle.c_mean.specs.Meaning.{behind_functions}
use Rattle.c_run.proofs.start.number_behind.Given as goal

abbrev pub invariant-loop-func : goal.invariant-loop-func
invariant-loop-func l = behind_functions l.first (map function_of (drop l.func-index l.funcs)) ≡ behind_functions 1 (map function_of l.funcs)
