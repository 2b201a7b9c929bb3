use Rattle.std.proofs.Common.{rules, ◌+◌, ◌-◌, subst, List, ℕ, length, arith}
use Rattle.sci_io.specs.Taken.{UnderWay}
use Rattle.sci_io.proofs.Advance.{cut_off, next_front}
use Rattle.sci_ranges_text.specs.Text.{states_text, block_state, of_each}
use Rattle.sci_ranges_find.specs.View.{ranges_of}
use Rattle.sci_ranges_tell.specs.Told.{plain_table}
use Rattle.sci_ranges_tell.proofs.Pieces.{next_each}
use Rattle.sci_ranges_tell.proofs.table.put_states.Goals as goal

pub returns-in_err-put_block_state : goal.returns-in_err-put_block_state
returns-in_err-put_block_state g c =
    let i = c.loop-at.at in
    let n = c.args.net.now in
    let f : ℕ → List ℕ = (block_state n (plain_table n (ranges_of c.args.table.now))) in
    let due = subst (λ (l : List ℕ). UnderWay (g.S.Sink.state c.args.out.now) (g.S.Sink.state c.loop-at.out) (states_text n (plain_table n (ranges_of c.args.table.now))) l) (next_each f i (length n.specs) (omega arith)) c.loop-at.invariant in
    cut_off (f (i + 1)) (of_each f (i + 1 + 1) (length n.specs - (i + 1))) c.put_block_state.result c.from_residual.result _ _ c.in_err-put_block_state.was (search rules) due c.put_block_state.ensures

pub loop-at-preserved : goal.loop-at-preserved
loop-at-preserved g c =
    let i = c.loop-at.at in
    let n = c.args.net.now in
    let f : ℕ → List ℕ = (block_state n (plain_table n (ranges_of c.args.table.now))) in
    let due = subst (λ (l : List ℕ). UnderWay (g.S.Sink.state c.args.out.now) (g.S.Sink.state c.loop-at.out) (states_text n (plain_table n (ranges_of c.args.table.now))) l) (next_each f i (length n.specs) (omega arith)) c.loop-at.invariant in
    next_front (f (i + 1)) (of_each f (i + 1 + 1) (length n.specs - (i + 1))) c.put_block_state.result _ c.in_ok-put_block_state.was due c.put_block_state.ensures
