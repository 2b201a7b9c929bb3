use Rattle.std.proofs.Common.{ℤ, List, length, ap, arith}
use Rattle.sci_vcd.proofs.Eachs.{signals_few}
use Rattle.sci_vcd.proofs.writer.VcdOut.close_tick.Goals as goal

pub settle-requires-clause-few : goal.settle-requires-clause-few
settle-requires-clause-few g c =
    let few = signals_few c.self.inside.signals c.self.invariant.writing.signals in
    let same = ap (λ (vs : List ℤ). length vs) c.deref_mut.ensures.value in
    let w = c.self.invariant.writing.written in
    omega (arith, few, same, w)
