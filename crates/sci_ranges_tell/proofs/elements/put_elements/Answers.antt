use Rattle.std.proofs.Common.{rules, ◌+◌, ◌-◌, subst, List, ℕ, arith}
use Rattle.sci_io.specs.Taken.{UnderWay}
use Rattle.sci_io.proofs.Advance.{cut_off, next_front}
use Rattle.sci_ranges_text.specs.Text.{element_text, elements_text}
use Rattle.sci_ranges_find.specs.View.{ranges_of}
use Rattle.sci_ranges_tell.specs.Told.{plain_table}
use Rattle.sci_ranges_tell.proofs.Pieces.{next_element}
use Rattle.sci_ranges_tell.proofs.elements.put_elements.Goals as goal

pub returns-in_err-put_element : goal.returns-in_err-put_element
returns-in_err-put_element g c =
    let i = c.loop-e.e in
    let n = c.args.net.now in
    let t = plain_table n (ranges_of c.args.table.now) in
    let due = subst (λ (l : List ℕ). UnderWay (g.S.Sink.state c.args.out.now) (g.S.Sink.state c.loop-e.out) (elements_text n t c.args.block c.args.port 1 c.args.at c.args.count) l) (next_element n t c.args.block c.args.port c.args.at i c.args.count (omega arith)) c.loop-e.invariant in
    cut_off (element_text n t c.args.block c.args.port (i + 1) (c.args.at + i)) (elements_text n t c.args.block c.args.port (i + 1 + 1) (c.args.at + (i + 1)) (c.args.count - (i + 1))) c.put_element.result c.from_residual.result _ _ c.in_err-put_element.was (search rules) due c.put_element.ensures

pub loop-e-preserved : goal.loop-e-preserved
loop-e-preserved g c =
    let i = c.loop-e.e in
    let n = c.args.net.now in
    let t = plain_table n (ranges_of c.args.table.now) in
    let due = subst (λ (l : List ℕ). UnderWay (g.S.Sink.state c.args.out.now) (g.S.Sink.state c.loop-e.out) (elements_text n t c.args.block c.args.port 1 c.args.at c.args.count) l) (next_element n t c.args.block c.args.port c.args.at i c.args.count (omega arith)) c.loop-e.invariant in
    next_front (element_text n t c.args.block c.args.port (i + 1) (c.args.at + i)) (elements_text n t c.args.block c.args.port (i + 1 + 1) (c.args.at + (i + 1)) (c.args.count - (i + 1))) c.put_element.result _ c.in_ok-put_element.was due c.put_element.ensures
