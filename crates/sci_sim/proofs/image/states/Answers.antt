use Rattle.std.proofs.Common.{◌+◌, length, ap, arith}
use Rattle.sci_net.specs.Parts.{Parts}
use Rattle.sci_sim.proofs.Listed.{row_next}
use Rattle.sci_sim.proofs.image.states.Goals as goal

pub state-requires-clause-state : goal.state-requires-clause-state
state-requires-clause-state g c =
    let count = ap (λ (n : Parts). length n.specs) c.net-2.ensures in
    c.requires.states (c.loop-block.block + 1) (record { least = omega arith; most = omega (arith, c.loop-block-test.true, c.len-block-end.ensures, count) })

pub loop-block-preserved : goal.loop-block-preserved
loop-block-preserved g c =
    row_next _ c.loop-block.block c.loop-block.states.items c.push.new.self.items c.in_ok-state.field-0 c.in_ok-state.ensures c.in_ok-push.ensures.items c.loop-block.invariant
