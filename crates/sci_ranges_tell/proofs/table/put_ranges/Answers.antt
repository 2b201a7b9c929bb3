use Rattle.std.proofs.Common.{rules, ◌+◌, ◌-◌, subst, List, ℕ, length, arith}
use Rattle.sci_io.specs.Taken.{UnderWay}
use Rattle.sci_io.proofs.Advance.{cut_off, next_front}
use Rattle.sci_ranges_text.specs.Text.{ranges_text, block_text, of_each}
use Rattle.sci_ranges_find.specs.View.{ranges_of}
use Rattle.sci_ranges_tell.specs.Told.{plain_table}
use Rattle.sci_net.specs.Parts.{IsBlock}
use Rattle.sci_ranges_tell.proofs.Pieces.{next_each, few_outs, outs_small}
use Rattle.sci_ranges_tell.proofs.table.put_ranges.Goals as goal

pub put_outputs-requires-clause-few : goal.put_outputs-requires-clause-few
put_outputs-requires-clause-few g c =
    let block : IsBlock c.args.net.now (c.loop-at.at + 1) = record { least = omega arith; most = omega arith } in
    few_outs c.args.net.now (c.loop-at.at + 1) c.well_formed-2.ensures block

pub put_outputs-requires-clause-small : goal.put_outputs-requires-clause-small
put_outputs-requires-clause-small g c =
    let block : IsBlock c.args.net.now (c.loop-at.at + 1) = record { least = omega arith; most = omega arith } in
    outs_small c.args.net.now (c.loop-at.at + 1) c.well_formed-2.ensures block

pub returns-in_err-put_outputs : goal.returns-in_err-put_outputs
returns-in_err-put_outputs g c =
    let i = c.loop-at.at in
    let n = c.args.net.now in
    let f : ℕ → List ℕ = (block_text n (plain_table n (ranges_of c.args.table.now))) in
    let due = subst (λ (l : List ℕ). UnderWay (g.S.Sink.state c.args.out.now) (g.S.Sink.state c.loop-at.out) (ranges_text n (plain_table n (ranges_of c.args.table.now))) l) (next_each f i (length n.specs) (omega arith)) c.loop-at.invariant in
    cut_off (f (i + 1)) (of_each f (i + 1 + 1) (length n.specs - (i + 1))) c.put_outputs.result c.from_residual.result _ _ c.in_err-put_outputs.was (search rules) due c.put_outputs.ensures

pub loop-at-preserved : goal.loop-at-preserved
loop-at-preserved g c =
    let i = c.loop-at.at in
    let n = c.args.net.now in
    let f : ℕ → List ℕ = (block_text n (plain_table n (ranges_of c.args.table.now))) in
    let due = subst (λ (l : List ℕ). UnderWay (g.S.Sink.state c.args.out.now) (g.S.Sink.state c.loop-at.out) (ranges_text n (plain_table n (ranges_of c.args.table.now))) l) (next_each f i (length n.specs) (omega arith)) c.loop-at.invariant in
    next_front (f (i + 1)) (of_each f (i + 1 + 1) (length n.specs - (i + 1))) c.put_outputs.result _ c.in_ok-put_outputs.was due c.put_outputs.ensures
