use Rattle.std.proofs.Common.{◌≡◌, ◌∙◌, ◌++◌, ◌<◌, ℕ, List, length, map, refl, sym, ap, subst}
use Rattle.std.specs.Prelude.{All}
use Rattle.sci_diagram.specs.Objects.{diagram_view}
use Rattle.sci_blocks.specs.Blocks.{Placed}
use Rattle.sci_goto.specs.declared.serving.Serving.{Serving}
use Rattle.sci_flat.specs.declared.steps.numbered.Numbered.{Numbered}
use Rattle.sci_flat.specs.Ports.{tree_steps}
use Rattle.sci_flat.specs.Tagged.{all_steps}
use Rattle.sci_flat.specs.Numbered.{serving_step, IsNumbered}
use Rattle.sci_flat.proofs.Joining.{joined, givers_there, takers_there}
use Rattle.sci_flat.proofs.flat.flatten.Goals as goal

pub join_tags-requires-clause-givers : goal.join_tags-requires-clause-givers
join_tags-requires-clause-givers c =
    let t = diagram_view c.args.d.now in
    let served = c.in_ok-servings.ensures in
    let there = givers_there t _ (tree_steps t) served.0 c.in_ok-servings.servings.items c.in_ok-numbered.numbered (c.in_ok-numbered.ensures _ c.in_ok-parts.ensures.ok c.in_ok-links.ensures.ok) served.2 in
    subst (λ (v : List Serving). All (λ s. s.giver < length c.deref.result.now) v) (sym c.deref-2.ensures.value)
    (subst (λ (tags : List ℕ). All (λ (s : Serving). s.giver < length tags) c.in_ok-servings.servings.items) (sym c.deref.ensures.value) there)

pub join_tags-requires-clause-takers : goal.join_tags-requires-clause-takers
join_tags-requires-clause-takers c =
    let t = diagram_view c.args.d.now in
    let served = c.in_ok-servings.ensures in
    let there = takers_there t _ (tree_steps t) served.0 c.in_ok-servings.servings.items c.in_ok-numbered.numbered (c.in_ok-numbered.ensures _ c.in_ok-parts.ensures.ok c.in_ok-links.ensures.ok) served.2 in
    subst (λ (v : List Serving). All (λ s. s.taker < length c.deref.result.now) v) (sym c.deref-2.ensures.value)
    (subst (λ (tags : List ℕ). All (λ (s : Serving). s.taker < length tags) c.in_ok-servings.servings.items) (sym c.deref.ensures.value) there)

pub net_of-requires-clause-numbered : goal.net_of-requires-clause-numbered
net_of-requires-clause-numbered c =
    let t = diagram_view c.args.d.now in
    let n = c.in_ok-numbered.numbered in
    let v = c.in_ok-servings.servings.items in
    let served = c.in_ok-servings.ensures in
    let drawn = c.in_ok-numbered.ensures _ c.in_ok-parts.ensures.ok c.in_ok-links.ensures.ok in
    let steps : c.join_tags.new.steps.items ≡ n.steps.items ++ map (serving_step n.tags.items) v =
    c.in_ok-join_tags.ensures ∙ (ap (λ (tags : List ℕ). n.steps.items ++ map (serving_step tags) c.deref-2.result.now) c.deref.ensures.value
    ∙ ap (λ (x : List Serving). n.steps.items ++ map (serving_step n.tags.items) x) c.deref-2.ensures.value) in
    let m : Numbered = record { ports = n.ports; steps = c.join_tags.new.steps; blocks = n.blocks; tags = n.tags } in
    subst (λ (ps : List Placed). IsNumbered t ps (all_steps t) m) (sym c.in_ok-found.ensures.same) (joined t _ served.0 v n m drawn served.1 served.2 refl steps refl refl)
