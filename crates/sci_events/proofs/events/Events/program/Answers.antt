use Rattle.std.proofs.Common.{rules, ◌≡◌, ◌<◌, ◌+◌, List, [], ◌∷◌, ◌++◌, if◌then◌else◌, is_ok, refl, sym, ap, ◌∙◌, subst, arith}
use Rattle.sci_pending.specs.Pending.{Event, replaced, without_source}
use Rattle.sci_events.specs.declared.events.Event.{Event as Kept}
use Rattle.sci_events.specs.Events.{AreKept, event_of, events_of, Waiting}
use Rattle.sci_events.proofs.Listed.{room_for, programmed_events, programmed_kept}
use Rattle.sci_events.proofs.events.Events.program.Goals as goal
use Rattle.sci_events.proofs.events.Events.program.Goals.{After-unwrap}

pub unwrap-requires : goal.unwrap-requires
unwrap-requires c =
    let less = ap (λ (w : Waiting). w.sources) c.self.view_is in
    let room = room_for _ _ c.self.inside.events.items c.self.invariant c.args.source (omega (arith, less, c.requires.source)) in
    search (rules, room)

module _ (c : After-unwrap) where
  abbrev event : Kept
  event = record { date = c.args.date; order = c.self.inside.programmed; source = c.args.source }

  within : c.args.source < c.self.inside.sources
  within = let same = ap (λ (w : Waiting). w.sources) c.self.view_is in omega (arith, same, c.requires.source)

  pushed : c.push.new.self.items ≡ c.drop_source.new.events.items ++ event ∷ []
  pushed =
      subst (λ r. c.push.new.self.items ≡ (if is_ok r then c.drop_source.new.events.items ++ event ∷ [] else c.drop_source.new.events.items)) c.unwrap.ensures
      c.push.ensures.items

  events : events_of c.push.new.self.items ≡ event_of event ∷ without_source c.args.source (events_of c.self.inside.events.items)
  events =
      ap events_of (pushed ∙ ap (λ (es : List Kept). es ++ event ∷ []) c.drop_source.ensures.others)
      ∙ programmed_events _ _ c.self.inside.events.items c.self.invariant c.args.source within event refl

pub invariant_of-self : goal.invariant_of-self
invariant_of-self c =
    subst (AreKept _ _) (sym (events c))
    (programmed_kept _ _ c.self.inside.events.items c.self.invariant c.args.source (within c) (event c) refl _
    (omega (arith, c.push.ensures.capacity, c.drop_source.ensures.room)))

pub returns : goal.returns
returns c =
    ap
    (λ (es : List Event). record { pending = record { events = es; programmed = c.self.inside.programmed + 1 }; sources = c.self.inside.sources }) (events c)
    ∙ ap (λ (w : Waiting). record w { pending = replaced w.pending c.args.date c.args.source }) c.self.view_is
