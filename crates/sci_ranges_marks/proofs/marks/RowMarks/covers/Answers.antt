use Rattle.std.proofs.Common.{Bool, ◌||◌, not, sym, ap, ◌∙◌}
use Rattle.std.specs.List.{list_any}
use Rattle.sci_reaction.specs.Kept.{guard_of, guards_of}
use Rattle.sci_ranges_rows.specs.Tests.{same_branch}
use Rattle.sci_ranges_marks.proofs.Rowed.{any_mapped}
use Rattle.sci_ranges_marks.proofs.marks.RowMarks.covers.Goals as goal

pub returns-else-not-lets : goal.returns-else-not-lets
returns-else-not-lets c =
    let f = same_branch (guard_of c.args.guard.now) in
    c.has_branch.ensures
    ∙ (sym (any_mapped f guard_of c.args.guards.now) ∙ ap (λ (b : Bool). not b || list_any f (guards_of c.args.guards.now)) (sym c.if-not-lets.false ∙ c.lets.ensures))
