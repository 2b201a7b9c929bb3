use Rattle.std.proofs.Common.{◌≡◌, ◌∙◌, ap, take, w64, rules}
use Rattle.std.proofs.lemmas.Int.{to_z-of_z}
use Rattle.sci_net.specs.Parts.{spec_of}
use Rattle.sci_reaction.specs.Equations.{input_in, all_inputs}
use Rattle.sci_places.specs.Flat.{values_at}
use Rattle.sci_store.specs.Store.{Standing}
use Rattle.sci_store.proofs.Delaying.{bank_delays, filled, delay_small, delay_in}
use Rattle.sci_store.proofs.store.Store.delay.Goals.{After-deref}
use Rattle.sci_store.proofs.store.Store.delay.Goals as goal

-- what goes in
inputs : (g : _) (c : After-deref g)
    → take c.gather-count.result c.deref.result.now ≡ all_inputs (spec_of c.args.frame.now.net c.args.block)
    (input_in c.args.frame.now.net (values_at c.args.frame.now.net c.args.self.now.values) c.args.block)
inputs g c = ap (take c.gather-count.result) (c.deref.ensures.value ∙ ap (λ (s : Standing). s.room) c.self.view_is) ∙ c.gather-count.ensures.gathered

pub delay-requires-clause-filled : goal.delay-requires-clause-filled
delay-requires-clause-filled g c =
    rw c.seat-seat.ensures
    (filled c.args.frame.now c.well_formed-2.ensures c.args.block c.requires.block c.requires.delayed _ c.requires.seated _ _
    c.requires.values (inputs g (goal.at.delay-requires-clause-filled g c).After-deref))

pub delay-requires-clause-delayed : goal.delay-requires-clause-delayed
delay-requires-clause-delayed g c =
    rw c.seat-seat.ensures
    (bank_delays c.args.frame.now c.well_formed-2.ensures c.args.block c.requires.block c.requires.delayed _ c.requires.seated)

pub returns-clause-value : goal.returns-clause-value
returns-clause-value g c =
    rw (to_z-of_z w64 c.delay.result (search rules), c.delay.ensures, c.seat-seat.ensures)
    (delay_in c.args.frame.now c.well_formed-2.ensures c.args.block c.requires.block c.requires.delayed _ c.requires.seated
    c.args.self.now _ c.args.port c.requires.active (inputs g (goal.at.returns-clause-value g c).After-deref))

pub returns-clause-small : goal.returns-clause-small
returns-clause-small g c =
    rw (to_z-of_z w64 c.delay.result (search rules), c.delay.ensures, c.seat-seat.ensures)
    (delay_small c.args.frame.now c.well_formed-2.ensures c.args.block c.requires.block c.requires.delayed _ c.requires.seated
    c.args.port _)
