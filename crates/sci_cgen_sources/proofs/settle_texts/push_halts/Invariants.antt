-- The texts of the blocks so far.
use Rattle.std.proofs.Common.{◌≡◌, ◌≤◌, suc, length}
use Rattle.c_ast.specs.View.{statements_of}
use Rattle.c_mean.specs.Texts.{joined, upto}
use Rattle.sci_program.specs.Program.{halt_text}
use Rattle.sci_cgen_sources.specs.Taking.{takes}
use Rattle.sci_cgen_sources.proofs.settle_texts.push_halts.Given as goal

abbrev pub invariant-loop-at : goal.invariant-loop-at
invariant-loop-at l = record {
  so_far : statements_of l.out.items ≡ joined (statements_of l.fn.out.items) (upto (λ k. halt_text l.net (takes l.taking) (suc k)) l.at);
  within : l.at ≤ length l.net.specs;
}
