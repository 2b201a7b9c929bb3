use Rattle.std.proofs.Common.{◌<◌, ◌+◌, length, arith}
use Rattle.sci_save.specs.Reading.{befores}
use Rattle.sci_save.proofs.Sources.{sources_next, sources_small, before_next}
use Rattle.sci_save.proofs.events.sources_before.Goals as goal

pub overflow_add-count : goal.overflow_add-count
overflow_add-count c =
    let n = c.args.net.now in
    let k = c.loop-block.block in
    let l : k < length n.specs = omega (arith, c.loop-block-test.true, c.len-block-end.ensures) in
    let next = sources_next n k l in
    let small = sources_small n (k + 1) c.well_formed-2.ensures in
    let i = c.loop-block.invariant.counted in
    let count = c.source_count-count.ensures in
    omega (arith, next, small, i, count)

pub loop-block-preserved : goal.loop-block-preserved
loop-block-preserved c =
    let n = c.args.net.now in
    let k = c.loop-block.block in
    let l : k < length n.specs = omega (arith, c.loop-block-test.true, c.len-block-end.ensures) in
    let next = sources_next n k l in
    let i = c.loop-block.invariant.counted in
    let count = c.source_count-count.ensures in
    record {
      listed = rw (c.in_ok-push.ensures.items, c.source_count-count.ensures) (before_next n c.loop-block.counts.items c.loop-block.count k (befores 0 1 n.specs) l c.loop-block.invariant.listed);
      counted = omega (arith, next, i, count);
    }
