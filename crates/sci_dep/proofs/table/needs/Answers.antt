use Rattle.std.proofs.Common.{◌∙◌, ℕ, List, ◌∷◌, [], Vec, ap, subst, get_or}
use Rattle.std.specs.declared.alloc.Global.{Global}
use Rattle.std.proofs.lemmas.List.{map-append}
use Rattle.sci_loop.specs.Lists.{plain}
use Rattle.sci_dep.specs.Building.{KeepsFound}
use Rattle.sci_dep.proofs.Tabled.{needs_next, waits_inside}
use Rattle.sci_dep.proofs.table.needs.Goals as goal

pub needs_of-requires-clause-within : goal.needs_of-requires-clause-within
needs_of-requires-clause-within c =
    waits_inside c.args.net.now c.args.waits.now (get_or c.args.members.now c.loop-member.member-index 0) c.args.walk.now.count c.of.result.now c.requires.waits c.well_formed-2.ensures
    c.of.ensures c.requires.count

pub loop-member-preserved : goal.loop-member-preserved
loop-member-preserved c =
    let v = c.in_ok-needs_of.field-0 in
    let found = c.args.walk.now.found in
    needs_next c.args.waits.now found c.args.members.now c.loop-member.member-index (plain c.loop-member.needs.items) (plain c.push.new.self.items) v.items
    (ap plain c.in_ok-push.ensures.items ∙ map-append (λ (u : Vec ℕ Global). u.items) c.loop-member.needs.items (v ∷ []))
    (subst (λ (l : List ℕ). KeepsFound found l v.items) c.of.ensures c.in_ok-needs_of.ensures) c.loop-member.invariant
