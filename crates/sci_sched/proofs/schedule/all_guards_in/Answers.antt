use Rattle.std.proofs.Common.{ℕ, ◌≡◌, ◌<◌, ◌^◌, Vec, ap, subst, sym, ◌∙◌, arith}
use Rattle.std.specs.List.{sum_by}
use Rattle.std.specs.declared.alloc.Global.{Global}
use Rattle.sci_reaction.specs.declared.entry.Entry.{Entry}
use Rattle.sci_sched.specs.Plain.{row_of}
use Rattle.sci_sched.specs.Size.{guards_in}
use Rattle.sci_sched.proofs.Counts.{all_guards_counted, part_fits}
use Rattle.sci_sched.proofs.schedule.all_guards_in.Goals as goal

pub guards_in-count-requires : goal.guards_in-count-requires
guards_in-count-requires c =
    let f : Vec Entry Global → ℕ = λ v. guards_in (row_of v.items) in
    let small : sum_by f c.args.rows.now < 2 ^ 63 = subst (λ m. m < 2 ^ 63) (sym (all_guards_counted c.args.rows.now)) c.requires in
    let fits = part_fits f c.args.rows.now c.loop-row.row-index c.loop-row.count (2 ^ 63) c.row-item.result c.loop-row-test.true c.row-item.is c.loop-row.invariant small in
    let one : f c.row-item.result < 2 ^ 63 = omega (arith, fits) in
    subst (λ xs. guards_in (row_of xs) < 2 ^ 63) (sym c.as_slice.ensures.value) one

pub overflow_add-count : goal.overflow_add-count
overflow_add-count c =
    let f : Vec Entry Global → ℕ = λ v. guards_in (row_of v.items) in
    let small : sum_by f c.args.rows.now < 2 ^ 63 = subst (λ m. m < 2 ^ 63) (sym (all_guards_counted c.args.rows.now)) c.requires in
    let fits = part_fits f c.args.rows.now c.loop-row.row-index c.loop-row.count (2 ^ 63) c.row-item.result c.loop-row-test.true c.row-item.is c.loop-row.invariant small in
    let same : c.guards_in-count.result ≡ f c.row-item.result = c.guards_in-count.ensures ∙ ap (λ xs. guards_in (row_of xs)) c.as_slice.ensures.value in
    omega (arith, fits, same)
