use Rattle.std.proofs.Common.{◌≡◌, drop, ◌<◌, ◌^◌}
use Rattle.c_ast.specs.View.{statements_of}
use Rattle.c_mean.specs.Meaning.{block_count, later}
use Rattle.c_run.proofs.steps.+count.Given as goal

abbrev pub invariant-count_all-loop-s : goal.invariant-count_all-loop-s
invariant-count_all-loop-s l = (l.n < 2 ^ 64) × (later l.n (block_count (statements_of (drop l.s-index l.list))) ≡ block_count (statements_of l.list))
