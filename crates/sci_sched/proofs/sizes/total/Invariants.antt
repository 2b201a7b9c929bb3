use Rattle.std.proofs.Common.{◌≡◌, take}
use Rattle.std.specs.List.{sum_by}
use Rattle.sci_sched.specs.Outlines.{outline_size}
use Rattle.sci_sched.proofs.sizes.total.Given as goal

abbrev pub invariant-loop-outline : goal.invariant-loop-outline
invariant-loop-outline l = l.total ≡ sum_by outline_size (take l.outline-index l.outlines)
