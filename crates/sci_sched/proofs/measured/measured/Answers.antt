use Rattle.std.proofs.Common.{arith}
use Rattle.sci_sched.specs.Measured.{outline_entries, outline_guards}
use Rattle.sci_sched.proofs.Counts.{part_fits}
use Rattle.sci_sched.proofs.Measuring.{entries_fit, guards_fit}
use Rattle.sci_sched.proofs.measured.measured.Goals as goal

pub overflow_add-entries : goal.overflow_add-entries
overflow_add-entries c =
    let fits = part_fits outline_entries c.args.outlines.now c.loop-outline.outline-index c.loop-outline.entries _ c.outline-item.result c.loop-outline-test.true c.outline-item.is c.loop-outline.invariant.0 (entries_fit c.args.outlines.now c.requires) in
    let long = c.outline-item.result.blocks.ok.0 in
    omega (arith, fits, long, c.len.ensures)

pub overflow_add-guards : goal.overflow_add-guards
overflow_add-guards c =
    let fits = part_fits outline_guards c.args.outlines.now c.loop-outline.outline-index c.loop-outline.guards _ c.outline-item.result c.loop-outline-test.true c.outline-item.is c.loop-outline.invariant.1 (guards_fit c.args.outlines.now c.requires) in
    omega (arith, fits)
