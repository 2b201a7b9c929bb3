use Rattle.std.proofs.Common.{◌≡◌, ◌==◌, not, List, ap, ◌∙◌}
use Rattle.sci_pending.specs.Pending.{Event, without}
use Rattle.sci_events.specs.Events.{events_of, Waiting}
use Rattle.sci_events.proofs.Listed.{kept_left, events_filter}
use Rattle.sci_events.proofs.events.Events.remove.Goals as goal
use Rattle.sci_events.proofs.events.Events.remove.Goals.{After-drop_order}

others : (c : After-drop_order) → events_of c.drop_order.new.events.items ≡ without c.args.event.order (events_of c.self.inside.events.items)
others c = ap events_of c.drop_order.ensures.others ∙ events_filter (λ (e : Event). not (e.order == c.args.event.order)) c.self.inside.events.items

pub invariant_of-self : goal.invariant_of-self
invariant_of-self c =
    let at = goal.at.invariant_of-self c in
    rw (others at.After-drop_order, c.drop_order.ensures.room)
    (kept_left (λ (e : Event). not (e.order == c.args.event.order)) _ _ (events_of c.self.inside.events.items) c.self.invariant)

pub returns : goal.returns
returns c =
    let at = goal.at.returns c in
    ap (λ (es : List Event). record { pending = record { events = es; programmed = c.self.inside.programmed }; sources = c.self.inside.sources }) (others at.After-drop_order)
    ∙ ap (λ (w : Waiting). record w { pending = record w.pending { events = without c.args.event.order w.pending.events } }) c.self.view_is
