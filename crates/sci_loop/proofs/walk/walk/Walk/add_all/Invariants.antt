use Rattle.std.proofs.Common.{take}
use Rattle.sci_loop.specs.Walk.{AddsNumbers}
use Rattle.sci_loop.proofs.walk.walk.Walk.add_all.Given as goal

abbrev pub invariant-loop-number : goal.invariant-loop-number
invariant-loop-number l = AddsNumbers (take l.number-index l.numbers) l.fn.self l.self
