use Rattle.std.proofs.Common.{Bool, List, ◌||◌, sym, ap, ◌∙◌}
use Rattle.std.specs.List.{list_any}
use Rattle.sci_net.specs.Parts.{rows_of}
use Rattle.sci_reaction.specs.Kept.{guard_of, guards_of}
use Rattle.sci_reaction.specs.declared.entry.Guard.{Guard}
use Rattle.sci_ranges_rows.specs.Marks.{dead_of, lets}
use Rattle.sci_ranges_marks.proofs.Rowed.{any_mapped}
use Rattle.sci_ranges_marks.proofs.marking.is_let.Goals as goal

pub returns-else-entry : goal.returns-else-entry
returns-else-entry c =
    let f = lets (dead_of (rows_of c.args.dead.now)) c.args.acts.now in
    let gs = c.args.entry.now.guards.items in
    c.lets_some.ensures
    ∙ (ap (λ (hs : List Guard). list_any (λ g. f (guard_of g)) hs) c.deref.ensures.value
    ∙ (sym (any_mapped f guard_of gs) ∙ ap (λ (b : Bool). b || list_any f (guards_of gs)) (sym c.if-entry.false)))
