use Rattle.std.proofs.Common.{◌≡◌, ◌++◌, map, drop}
use Rattle.c_ast.specs.View.{declared_of}
use Rattle.sci_program.specs.Program.{a_scalar}
use Rattle.sci_cgen_run.proofs.declared_names.push_scalars.Given as goal

abbrev pub invariant-loop-name : goal.invariant-loop-name
invariant-loop-name l = map declared_of l.out.items ++ map a_scalar (drop l.name-index l.names) ≡ map declared_of l.fn.out.items ++ map a_scalar l.names
