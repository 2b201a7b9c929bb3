use Rattle.std.proofs.Common.{◌≡◌, take, Vec}
use Rattle.std.specs.List.{sum_by}
use Rattle.std.specs.declared.alloc.Global.{Global}
use Rattle.sci_reaction.specs.declared.entry.Entry.{Entry}
use Rattle.sci_sched.specs.Plain.{row_of}
use Rattle.sci_sched.specs.Size.{guards_in}
use Rattle.sci_sched.proofs.schedule.all_guards_in.Given as goal

abbrev pub invariant-loop-row : goal.invariant-loop-row
invariant-loop-row l = l.count ≡ sum_by (λ (v : Vec Entry Global). guards_in (row_of v.items)) (take l.row-index l.rows)
