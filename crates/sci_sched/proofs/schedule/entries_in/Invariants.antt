use Rattle.std.proofs.Common.{◌≡◌, take, vec_len, Vec}
use Rattle.std.specs.List.{sum_by}
use Rattle.std.specs.declared.alloc.Global.{Global}
use Rattle.sci_reaction.specs.declared.entry.Entry.{Entry}
use Rattle.sci_sched.proofs.schedule.entries_in.Given as goal

abbrev pub invariant-loop-row : goal.invariant-loop-row
invariant-loop-row l = l.count ≡ sum_by (λ (v : Vec Entry Global). vec_len v) (take l.row-index l.rows)
