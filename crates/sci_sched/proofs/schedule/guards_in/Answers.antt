use Rattle.std.proofs.Common.{ℕ, ◌<◌, ◌^◌, vec_len, subst, sym, arith}
use Rattle.std.specs.List.{sum_by}
use Rattle.sci_reaction.specs.declared.entry.Entry.{Entry}
use Rattle.sci_sched.proofs.Counts.{guards_counted, part_fits}
use Rattle.sci_sched.proofs.schedule.guards_in.Goals as goal

pub overflow_add-count : goal.overflow_add-count
overflow_add-count c =
    let f : Entry → ℕ = λ e. vec_len e.guards in
    let small : sum_by f c.args.row.now < 2 ^ 63 = subst (λ m. m < 2 ^ 63) (sym (guards_counted c.args.row.now)) c.requires in
    let fits = part_fits f c.args.row.now c.loop-entry.entry-index c.loop-entry.count (2 ^ 63) c.entry-item.result c.loop-entry-test.true c.entry-item.is c.loop-entry.invariant small in
    omega (arith, fits, c.len.ensures)
