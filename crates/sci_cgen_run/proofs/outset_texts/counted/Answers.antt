use Rattle.std.proofs.Common.{w64}
use Rattle.std.proofs.lemmas.Int.{to_z-of_z}
use Rattle.sci_cgen_run.proofs.OutsetLemmas.{counted_none, counted_some}
use Rattle.sci_cgen_run.proofs.outset_texts.counted.Goals as goal

pub returns-then-firing-lt0 : goal.returns-then-firing-lt0
returns-then-firing-lt0 c = counted_none c.args.count c.args.firing (rw (to_z-of_z w64 c.args.firing c.ranges.firing) at c.if-firing-lt0.true)

pub returns-else-firing-lt0 : goal.returns-else-firing-lt0
returns-else-firing-lt0 c = counted_some c.args.count c.args.firing (rw (to_z-of_z w64 c.args.firing c.ranges.firing) at c.if-firing-lt0.false)
