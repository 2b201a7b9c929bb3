use Rattle.std.proofs.Common.{◌≡◌, Some, ◌∙◌, sym, subst, option_map}
use Rattle.sci_json.specs.View.{view, items_view, NextItem}
use Rattle.sci_json.proofs.Fields.{item_found}
use Rattle.sci_json.proofs.document.value.Items.next.Goals as goal
use Rattle.sci_json.proofs.document.value.Items.next.Goals.{in-Some, in-None}

pub invariant_of-result : goal.invariant_of-result
invariant_of-result c = (item_found c.self.inside.items c.self.invariant (Some c.in-Some.element) c.next.new.self c.in-Some.ensures.value c.in-Some.ensures.stays).1

pub invariant_of-self : goal.invariant_of-self
invariant_of-self c = (item_found c.self.inside.items c.self.invariant c.next.result c.next.new.self c.next.ensures.value c.next.ensures.stays).0

pub returns-clause-value : goal.returns-clause-value
returns-clause-value c =
    let same : c.match-next.result ≡ c.next.result = elim c.match-next.branch [ in-Some w ↦ w.result-is ∙ sym w.in-Some.is | in-None w ↦ w.result-is ∙ sym w.in-None.is ] in
    let next = (item_found c.self.inside.items c.self.invariant c.next.result c.next.new.self c.next.ensures.value c.next.ensures.stays).2 in
    subst (λ ts. NextItem (items_view ts) (option_map view c.match-next.result) (items_view c.next.new.self)) c.self.view_is
    (subst (λ o. NextItem (items_view c.self.inside.items) (option_map view o) (items_view c.next.new.self)) (sym same) next)
