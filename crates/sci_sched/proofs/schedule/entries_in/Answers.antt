use Rattle.std.proofs.Common.{ℕ, ◌<◌, ◌^◌, vec_len, Vec, subst, sym, arith}
use Rattle.std.specs.List.{sum_by}
use Rattle.std.specs.declared.alloc.Global.{Global}
use Rattle.sci_reaction.specs.declared.entry.Entry.{Entry}
use Rattle.sci_sched.proofs.Counts.{entries_counted, part_fits}
use Rattle.sci_sched.proofs.schedule.entries_in.Goals as goal

pub overflow_add-count : goal.overflow_add-count
overflow_add-count c =
    let f : Vec Entry Global → ℕ = λ v. vec_len v in
    let small : sum_by f c.args.rows.now < 2 ^ 63 = subst (λ m. m < 2 ^ 63) (sym (entries_counted c.args.rows.now)) c.requires in
    let fits = part_fits f c.args.rows.now c.loop-row.row-index c.loop-row.count (2 ^ 63) c.row-item.result c.loop-row-test.true c.row-item.is c.loop-row.invariant small in
    omega (arith, fits, c.len.ensures)
