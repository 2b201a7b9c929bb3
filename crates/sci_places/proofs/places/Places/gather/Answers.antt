use Rattle.std.proofs.Common.{◌≡◌, ◌≤◌, ◌∙◌, List, length, ap, subst, sym}
use Rattle.sci_span.specs.declared.span.Span.{Span}
use Rattle.sci_places.specs.Layout.{Layout, place_at}
use Rattle.sci_span.specs.declared.place.Place.{Place}
use Rattle.sci_span.specs.Values.{gathered, spans_length, AreWithin}
use Rattle.sci_places.proofs.Placed.{place_kept}
use Rattle.sci_places.proofs.places.Places.gather.Goals.{After-index}
use Rattle.sci_places.proofs.places.Places.gather.Goals as goal

-- what is copied are the spans of the block's place
ins_kept : (c : After-index) → (place_at c.args.self.now c.args.block).ins ≡ c.index.result.now.ins
ins_kept c =
    ap (λ (p : Place). p.ins)
    (place_kept c.self.inside.blocks.items c.args.self.now c.args.block c.index.result.now (ap (λ (l : Layout). l.blocks) c.self.view_is)
    c.requires.least c.requires.most c.index.ensures)

pub gather-requires-clause-within : goal.gather-requires-clause-within
gather-requires-clause-within c =
    subst (AreWithin c.args.values.now) (ins_kept (goal.at.gather-requires-clause-within c).After-index) c.requires.within

pub gather-requires-clause-room : goal.gather-requires-clause-room
gather-requires-clause-room c =
    subst (λ (ss : List Span). spans_length ss ≤ length c.args.ins.now) (ins_kept (goal.at.gather-requires-clause-room c).After-index) c.requires.room

pub returns-clause-count : goal.returns-clause-count
returns-clause-count c = c.gather.ensures.count ∙ ap spans_length (sym (ins_kept (goal.at.returns-clause-count c).After-index))

pub returns-clause-copied : goal.returns-clause-copied
returns-clause-copied c = c.gather.ensures.copied ∙ ap (gathered c.args.values.now) (sym (ins_kept (goal.at.returns-clause-copied c).After-index))
