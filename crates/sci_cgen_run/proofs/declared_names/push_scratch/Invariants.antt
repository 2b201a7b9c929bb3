use Rattle.std.proofs.Common.{◌≡◌, ◌++◌, map}
use Rattle.c_ast.specs.View.{declared_of}
use Rattle.sci_program.specs.Program.{scratch_declared}
use Rattle.sci_cgen_run.proofs.declared_names.push_scratch.Given as goal

abbrev pub invariant-loop-n : goal.invariant-loop-n
invariant-loop-n l = map declared_of l.out.items ≡ map declared_of l.fn.out.items ++ scratch_declared l.n
