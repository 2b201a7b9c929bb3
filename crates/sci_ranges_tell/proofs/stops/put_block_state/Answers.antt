use Rattle.std.proofs.Common.{◌≤◌, ◌-◌, ℕ, List, ap, sym, codes, pos, ◌∷◌, [], arith, ◌∙◌}
use Rattle.sci_io.proofs.Advance.{same_text, nothing_due}
use Rattle.sci_ranges_base.specs.declared.interval.Interval.{Interval}
use Rattle.sci_kinds.specs.Table.{state_len}
use Rattle.sci_ranges_text.specs.Text.{interval_line, state_hull, state_text}
use Rattle.sci_ranges_find.specs.View.{ranges_of}
use Rattle.sci_ranges_tell.specs.Told.{plain_table}
use Rattle.sci_ranges_tell.proofs.Pieces.{state-some}
use Rattle.sci_ranges_tell.proofs.stops.put_block_state.Goals as goal

pub returns-then-count-eq0 : goal.returns-then-count-eq0
returns-then-count-eq0 g c =
    let t = plain_table c.args.net.now (ranges_of c.args.table.now) in
    same_text (ap (state_text t c.args.block) (sym c.if-count-eq0.true ∙ (c.state_len-count.ensures ∙ ap state_len c.spec.ensures.value))) (nothing_due _ _)

pub returns : goal.returns
returns g c =
    let t = plain_table c.args.net.now (ranges_of c.args.table.now) in
    let some : 1 ≤ c.state_len-count.result = omega (arith, c.if-count-eq0.false) in
    let line : List Interval → List ℕ = λ (xs : List Interval). interval_line (codes "state") (pos c.args.block ∷ []) (state_hull xs (c.state_len-count.result - 1)) in
    same_text (ap line c.state.ensures ∙ (state-some t c.args.block c.state_len-count.result some ∙ ap (state_text t c.args.block) (c.state_len-count.ensures ∙ ap state_len c.spec.ensures.value))) c.put_state.ensures
