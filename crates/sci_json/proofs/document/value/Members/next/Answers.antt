use Rattle.std.proofs.Common.{◌≡◌, Some, ◌∙◌, sym, subst, option_map}
use Rattle.sci_json.specs.View.{view, members_view, NextMember}
use Rattle.sci_json.proofs.Fields.{member_found}
use Rattle.sci_json.proofs.document.value.Members.next.Goals as goal
use Rattle.sci_json.proofs.document.value.Members.next.Goals.{in-Some, in-None}

pub invariant_of-result : goal.invariant_of-result
invariant_of-result c = (member_found (Some (c.in-Some.name, c.in-Some.element)) (λ s. s.now) c.self.inside.members c.self.invariant c.next.new.self c.in-Some.ensures.value c.in-Some.ensures.stays).1

pub invariant_of-self : goal.invariant_of-self
invariant_of-self c = (member_found c.next.result (λ s. s.now) c.self.inside.members c.self.invariant c.next.new.self c.next.ensures.value c.next.ensures.stays).0

pub returns-clause-value : goal.returns-clause-value
returns-clause-value c =
    let same : c.match-next.result ≡ c.next.result = elim c.match-next.branch [ in-Some w ↦ w.result-is ∙ sym w.in-Some.is | in-None w ↦ w.result-is ∙ sym w.in-None.is ] in
    let next = (member_found c.next.result (λ s. s.now) c.self.inside.members c.self.invariant c.next.new.self c.next.ensures.value c.next.ensures.stays).2 in
    subst (λ ts. NextMember (members_view ts) (option_map (λ m. (m.0.now, view m.1)) c.match-next.result) (members_view c.next.new.self)) c.self.view_is
    (subst (λ o. NextMember (members_view c.self.inside.members) (option_map (λ m. (m.0.now, view m.1)) o) (members_view c.next.new.self)) (sym same) next)
