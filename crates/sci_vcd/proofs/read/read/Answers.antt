use Rattle.std.proofs.Common.{◌≡◌, false, rules}
use Rattle.sci_text.specs.Lines.{has_lf}
use Rattle.sci_vcd.proofs.Reading.{at_next, blamed_line, finished}
use Rattle.sci_vcd.proofs.read.read.Goals as goal

pub returns-in-Err : goal.returns-in-Err
returns-in-Err c =
    blamed_line c.args.bytes.now c.loop-line.rest.now c.in-Some.line.now c.in-Some.more.now c.loop-line.reader c.loop-line.count c.in-Err.stop c.blame.result c.loop-line.invariant c.in-Some.ensures.clear c.in-Some.ensures.split c.in-Err.ensures.gives c.blame.ensures

pub loop-line-preserved : goal.loop-line-preserved
loop-line-preserved c =
    at_next c.args.bytes.now c.loop-line.rest.now c.in-Some.line.now c.in-Some.more.now c.loop-line.reader c.in-Ok.reader c.loop-line.count c.loop-line.invariant c.in-Some.ensures.clear c.in-Some.ensures.split c.in-Ok.ensures.gives c.in-Ok.ensures.linked

pub returns : goal.returns
returns c =
    let clear : has_lf c.loop-line.rest.now ≡ false = search rules in
    finished c.args.bytes.now c.loop-line.rest.now c.loop-line.reader c.loop-line.count c.finish.result c.loop-line.invariant clear c.finish.ensures.none c.finish.ensures.over c.finish.ensures.blamed c.finish.ensures.missing
