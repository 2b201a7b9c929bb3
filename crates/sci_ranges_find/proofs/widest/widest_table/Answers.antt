use Rattle.std.proofs.Common.{◌+◌, replicate, true, ap, ◌∙◌, ℕ, rules}
use Rattle.sci_ranges_pass.specs.Ranges.{Ranges}
use Rattle.sci_net.specs.Parts.{rows_of}
use Rattle.sci_ranges_find.proofs.Wholes.{are_widest}
use Rattle.sci_ranges_find.proofs.widest.widest_table.Goals as goal

pub returns : goal.returns
returns c =
    let r : Ranges =
    record { shows = rows_of c.in_ok-shows.shows.items; states = rows_of c.in_ok-states.states.items; overflows = c.in_ok-overflows.overflows.items; zeros = c.in_ok-zeros.zeros.items } in
    are_widest c.args.net.now r c.in_ok-shows.ensures c.in_ok-states.ensures
    (c.in_ok-overflows.ensures.items_if_clones_equal (search rules) ∙ ap (λ (k : ℕ). replicate (k + 1) true) c.len.ensures)
    (c.in_ok-zeros.ensures.items_if_clones_equal (search rules) ∙ ap (λ (k : ℕ). replicate (k + 1) true) c.len.ensures)
