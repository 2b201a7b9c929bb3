use Rattle.std.proofs.Common.{◌∙◌, ℤ, List, ap}
use Rattle.std.specs.Prelude.{if◌then◌else◌}
use Rattle.sci_places.specs.Flat.{values_at}
use Rattle.sci_vcd.specs.Writing.{Writing}
use Rattle.sci_wave.proofs.Blockwise.{moved_noted}
use Rattle.sci_wave.proofs.driver.follow.Goals as goal

pub returns-clause-noted : goal.returns-clause-noted
returns-clause-noted g c banks st at b block =
    let n = c.args.ready.now.fixed.net in
    c.note_active.ensures.noted banks st at b block
    ∙ ap (λ (vs : List ℤ). if st.active b then st.memory.held b else values_at n vs b) (ap (λ (o : Writing). o.noted) c.in_ok-close_past.ensures.moved ∙ moved_noted c.args.dump.now c.args.date c.now.result)
