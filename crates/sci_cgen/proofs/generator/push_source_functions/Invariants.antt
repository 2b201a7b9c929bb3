-- The functions so far: those of the first sources.
use Rattle.std.proofs.Common.{◌≡◌, ◌≤◌, ◌++◌, map, length}
use Rattle.c_ast.specs.View.{function_of}
use Rattle.sci_net.specs.Sources.{sources_of}
use Rattle.sci_sched.specs.Plain.{rows_of}
use Rattle.sci_program.specs.Program.{functions_upto, source_function}
use Rattle.sci_cgen.proofs.generator.push_source_functions.Given as goal

abbrev pub invariant-loop-source : goal.invariant-loop-source
invariant-loop-source l =
    (map function_of l.funcs.items ≡ map function_of l.fn.funcs.items ++ functions_upto (source_function l.net (rows_of l.schedule)) l.source)
    × (l.source ≤ length (sources_of l.net))
