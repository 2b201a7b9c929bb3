use Rattle.std.proofs.Common.{ℕ, take, drop, ◌-◌, ◌+◌, ◌*◌, ◌<◌, ◌^◌}
use Rattle.c_ast.specs.View.{statements_of}
use Rattle.c_ast.proofs.Sizes.{size_of, sizes_of}
use Rattle.c_mean.specs.Meaning.{run_block, block_count, later, one_turn, turns}
use Rattle.c_run.specs.Running.{world, earlier, surroundings}
use Rattle.c_run.proofs.Progress.{Progress}
use Rattle.c_run.proofs.Weights.{weight_of}
use Rattle.c_run.proofs.steps.+run.Given as goal

abbrev pub invariant-block-loop-i : goal.invariant-block-loop-i
invariant-block-loop-i g l = (n : ℕ) → n < 2 ^ 64 →
    Progress (g.S.Sink.state l.fn.out) (g.S.Sink.state l.out)
    (run_block (surroundings (earlier l.fn.functions l.fn.from) l.fn.limits) n (statements_of l.list) (world l.fn.memory l.fn.columns))
    (run_block (surroundings (earlier l.fn.functions l.fn.from) l.fn.limits) (later n (block_count (statements_of (take l.i l.list)))) (statements_of (drop l.i l.list)) (world l.memory l.columns))

abbrev pub invariant-repeat-loop : goal.invariant-repeat-loop
invariant-repeat-loop g l = (n : ℕ) → n < 2 ^ 64 →
    Progress (g.S.Sink.state l.fn.out) (g.S.Sink.state l.out)
    (turns l.times (one_turn (surroundings (earlier l.fn.functions l.fn.from) l.fn.limits) n l.fn.counter (statements_of l.body)) (world l.fn.memory l.fn.columns))
    (turns (l.times - l.counter) (one_turn (surroundings (earlier l.fn.functions l.fn.from) l.fn.limits) n l.fn.counter (statements_of l.body)) (world l.memory l.columns))

abbrev pub decreases-statement : goal.decreases-statement
decreases-statement g l = weight_of (earlier l.functions.now l.from) + 4 * size_of l.statement.now

abbrev pub decreases-choose : goal.decreases-choose
decreases-choose g l = weight_of (earlier l.functions.now l.from) + 4 * (sizes_of l.yes.now + sizes_of l.no.now) + 2

abbrev pub decreases-block : goal.decreases-block
decreases-block g l = weight_of (earlier l.functions.now l.from) + 4 * sizes_of l.list.now + 1

abbrev pub decreases-turn : goal.decreases-turn
decreases-turn g l = weight_of (earlier l.functions.now l.from) + 4 * sizes_of l.body.now + 2

abbrev pub decreases-repeat : goal.decreases-repeat
decreases-repeat g l = weight_of (earlier l.functions.now l.from) + 4 * sizes_of l.body.now + 3

abbrev pub decreases-call : goal.decreases-call
decreases-call g l = weight_of (earlier l.functions.now l.from)
