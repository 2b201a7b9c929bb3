use Rattle.std.proofs.Common.{◌≡◌, ◌∙◌, List, ℕ, map, ap, sym, subst, arith}
use Rattle.sci_span.specs.Singles.{single, ArePlacesOf}
use Rattle.sci_span.proofs.Singles.{places_within, as_many, values_gathered}
use Rattle.sci_span.proofs.inputs.InputSpans.gather.Goals.{After-deref}
use Rattle.sci_span.proofs.inputs.InputSpans.gather.Goals as goal

-- the spans are those of the places that are kept
places_kept : (c : After-deref) → c.args.self.now ≡ map single c.deref.result.now
places_kept c =
    sym c.self.view_is ∙ (subst (ArePlacesOf c.self.inside.spans.items) c.in-Some.is c.self.invariant ∙ ap (λ (ks : List ℕ). map single ks) (sym c.deref.ensures.value))

pub copy_singles-requires-clause-from : goal.copy_singles-requires-clause-from
copy_singles-requires-clause-from c =
    places_within c.args.values.now c.args.self.now c.deref.result.now (places_kept (goal.at.copy_singles-requires-clause-from c).After-deref) c.requires.within

pub copy_singles-requires-clause-to : goal.copy_singles-requires-clause-to
copy_singles-requires-clause-to c =
    let many = as_many c.args.values.now c.args.self.now c.deref.result.now (places_kept (goal.at.copy_singles-requires-clause-to c).After-deref) in
    omega (arith, many, c.requires.room)

pub returns-in-Some-clause-count : goal.returns-in-Some-clause-count
returns-in-Some-clause-count c =
    c.copy_singles.ensures.count
    ∙ sym (as_many c.args.values.now c.args.self.now c.deref.result.now (places_kept (goal.at.returns-in-Some-clause-count c).After-deref))

pub returns-in-Some-clause-copied : goal.returns-in-Some-clause-copied
returns-in-Some-clause-copied c =
    c.copy_singles.ensures.copied
    ∙ sym (values_gathered c.args.values.now c.args.self.now c.deref.result.now (places_kept (goal.at.returns-in-Some-clause-copied c).After-deref) c.requires.within)
