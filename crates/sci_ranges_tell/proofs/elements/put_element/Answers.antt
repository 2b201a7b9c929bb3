use Rattle.std.proofs.Common.{rules, ◌∷◌, [], pos, ℤ, List, Option, ap, ◌∙◌}
use Rattle.sci_io.proofs.Advance.{then_writes, stopped, same_text}
use Rattle.sci_ranges_base.specs.declared.interval.Interval.{Interval}
use Rattle.sci_ranges_base.specs.Intervals.{range_at}
use Rattle.sci_ranges.specs.Table.{held_range}
use Rattle.sci_ranges_text.specs.Text.{shown_text, held_text}
use Rattle.sci_ranges_find.specs.View.{ranges_of}
use Rattle.sci_ranges_tell.specs.Told.{plain_table}
use Rattle.sci_ranges_tell.proofs.elements.put_element.Goals as goal

pub held-requires-clause-block : goal.held-requires-clause-block
held-requires-clause-block g c = record { least = c.requires.least; most = c.requires.most }

pub returns-in_err-put_shown : goal.returns-in_err-put_shown
returns-in_err-put_shown g c =
    let p = c.args.place in
    let at : List ℤ = pos p.block ∷ pos p.port ∷ pos p.element ∷ [] in
    let n = c.args.net.now in
    let t = plain_table n (ranges_of c.args.table.now) in
    let shown = range_at (t.shows p.block) c.args.at in
    stopped (shown_text at shown) (held_text at shown (held_range n t p.block c.args.at)) c.put_shown.result c.from_residual.result _ _ c.in_err-put_shown.was (search rules)
    (same_text (ap (shown_text at) c.shown-shown.ensures) c.put_shown.ensures)

pub returns : goal.returns
returns g c =
    let p = c.args.place in
    let at : List ℤ = pos p.block ∷ pos p.port ∷ pos p.element ∷ [] in
    let n = c.args.net.now in
    let t = plain_table n (ranges_of c.args.table.now) in
    let shown = range_at (t.shows p.block) c.args.at in
    then_writes (shown_text at shown) (held_text at shown (held_range n t p.block c.args.at)) c.put_shown.result c.put_held.result _ c.in_ok-put_shown.was
    (same_text (ap (shown_text at) c.shown-shown.ensures) c.put_shown.ensures)
    (same_text (ap (λ (o : Option Interval). held_text at o c.held.result) c.shown-shown.ensures ∙ ap (held_text at shown) c.held.ensures) c.put_held.ensures)
