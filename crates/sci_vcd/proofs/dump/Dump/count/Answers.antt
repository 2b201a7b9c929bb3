use Rattle.std.proofs.Common.{arith}
use Rattle.sci_vcd.proofs.Eachs.{signals_few}
use Rattle.sci_vcd.proofs.dump.Dump.count.Goals as goal

pub overflow_cast-result : goal.overflow_cast-result
overflow_cast-result c = let few = signals_few c.self.inside.draft.signals.items c.self.invariant.dump.signals in omega (arith, few, c.len.ensures, c.self.inside.draft.signals.ok.0)
