use Rattle.std.proofs.Common.{◌≡◌, ◌≤◌, suc, length}
use Rattle.c_ast.specs.View.{statements_of}
use Rattle.c_mean.specs.Texts.{joined, upto}
use Rattle.sci_program.specs.Program.{held_begun}
use Rattle.sci_cgen_run.proofs.outset_texts.push_all_held.Given as goal

abbrev pub invariant-loop-block : goal.invariant-loop-block
invariant-loop-block l =
    (statements_of l.out.items ≡ joined (statements_of l.fn.out.items) (upto (λ k. held_begun l.net (suc k)) l.block)) × (l.block ≤ length l.net.specs)
