use Rattle.std.proofs.Common.{rules, w64, ap, ◌∙◌, arith}
use Rattle.std.proofs.lemmas.Int.{to_z-of_z}
use Rattle.sci_kinds.specs.Table.{state_len}
use Rattle.sci_net.specs.Parts.{Parts, spec_of}
use Rattle.sci_store.specs.Frame.{seat_of}
use Rattle.sci_sim.proofs.Listed.{value_next, state_value}
use Rattle.sci_sim.proofs.image.state.Goals as goal

pub loop-at-preserved : goal.loop-at-preserved
loop-at-preserved g c =
    let is = c.state_len-count.ensures ∙ ap state_len (c.spec.ensures.value ∙ ap (λ (m : Parts). spec_of m c.args.block) c.net.ensures) in
    value_next _ c.loop-at.values.items c.push.new.self.items c.loop-at.at _ c.state_at.result (omega (arith, c.loop-at-test.true, is, c.requires.state.enough)) c.in_ok-push.ensures.items
    (to_z-of_z w64 c.state_at.result (search rules)) (state_value _ c.seat-seat.result (seat_of c.args.kept.now.fixed c.args.block) c.loop-at.at c.state_at.result c.state_at.ensures c.seat-seat.ensures) c.loop-at.invariant
