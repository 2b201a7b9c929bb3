use Rattle.std.proofs.Common.{◌≡◌, Bool, List, false, replicate, sym, ap, subst, ◌∙◌, rules}
use Rattle.sci_ranges_rows.specs.Marks.{Marks}
use Rattle.sci_ranges_marks.specs.View.{marks_of, with_live}
use Rattle.sci_ranges_find.specs.Live.{AreSound}
use Rattle.sci_ranges_find.proofs.Living.{none_sound}
use Rattle.sci_ranges_find.proofs.live.mark_live.Goals as goal

pub mark_in_order-requires-clause-sound : goal.mark_in_order-requires-clause-sound
mark_in_order-requires-clause-sound c =
    let m = marks_of c.args.marks.now in
    let none : c.in_ok-none.none.items ≡ replicate c.source_count.result false = c.in_ok-none.ensures.items_if_clones_equal (search rules) in
    subst (λ (k : Marks). AreSound c.args.net.now k) (sym (c.set_live.ensures.changed ∙ ap (λ (l : List Bool). with_live m l) none))
    (none_sound c.args.net.now m c.source_count.result c.source_count.ensures c.requires.marked)

pub returns-clause-dead : goal.returns-clause-dead
returns-clause-dead c = c.mark_rest.ensures.dead ∙ (c.mark_in_order.ensures.dead ∙ ap (λ (m : Marks). m.dead) c.set_live.ensures.changed)
