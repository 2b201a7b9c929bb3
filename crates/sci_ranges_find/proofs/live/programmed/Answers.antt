use Rattle.std.proofs.Common.{arith}
use Rattle.sci_net.specs.Parts.{IsBlock}
use Rattle.sci_ranges_find.proofs.Passing.{port_block}
use Rattle.sci_ranges_find.proofs.live.programmed.Goals as goal
use Rattle.sci_ranges_find.proofs.live.programmed.Goals.{In-Port}

block : (c : In-Port) → IsBlock c.args.net.now c.in-Port.q.block
block c = port_block c.args.net.now c.loop-place.place c.in-Port.q (omega (arith, c.loop-place-test.true, c.source_count-place-end.ensures)) c.in-Port.ensures

pub spec-requires-clause-least : goal.spec-requires-clause-least
spec-requires-clause-least c = (block (goal.at.spec-requires-clause-least c).In-Port).least

pub spec-requires-clause-most : goal.spec-requires-clause-most
spec-requires-clause-most c = (block (goal.at.spec-requires-clause-most c).In-Port).most
