use Rattle.std.proofs.Common.{◌≡◌}
use Rattle.c_ast.specs.View.{statements_of}
use Rattle.c_mean.specs.Texts.{joined}
use Rattle.sci_program.specs.Program.{with_bits}
use Rattle.sci_cgen_sources.proofs.row_texts.push_bits.Given as goal

abbrev pub invariant-loop-bit : goal.invariant-loop-bit
invariant-loop-bit l = statements_of l.out.items ≡ joined (statements_of l.fn.out.items) (with_bits l.block l.mask l.bit)
