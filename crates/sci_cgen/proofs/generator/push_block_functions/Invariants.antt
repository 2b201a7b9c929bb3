-- The functions so far: those of the first blocks.
use Rattle.std.proofs.Common.{◌≡◌, ◌≤◌, suc, ◌++◌, map, length, slice_index_or, false}
use Rattle.c_ast.specs.View.{function_of}
use Rattle.sci_program.specs.Program.{functions_upto}
use Rattle.sci_cgen.specs.Built.{marked_function}
use Rattle.sci_cgen.proofs.generator.push_block_functions.Given as goal

abbrev pub invariant-loop-at : goal.invariant-loop-at
invariant-loop-at l =
    (map function_of l.funcs.items
    ≡ map function_of l.fn.funcs.items ++ functions_upto (λ k. marked_function l.net (slice_index_or l.marks k false) (suc k)) l.at)
    × (l.at ≤ length l.net.specs)
