use Rattle.std.proofs.Common.{◌≡◌, take}
use Rattle.std.specs.List.{sum_by}
use Rattle.sci_sched.specs.Measured.{outline_entries, outline_guards}
use Rattle.sci_sched.proofs.measured.measured.Given as goal

abbrev pub invariant-loop-outline : goal.invariant-loop-outline
invariant-loop-outline l = (l.entries ≡ sum_by outline_entries (take l.outline-index l.outlines)) × (l.guards ≡ sum_by outline_guards (take l.outline-index l.outlines))
