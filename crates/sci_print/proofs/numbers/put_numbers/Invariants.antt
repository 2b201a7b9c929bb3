use Rattle.std.proofs.Common.{drop}
use Rattle.sci_io.specs.Taken.{UnderWay}
use Rattle.sci_print.specs.Numbers.{all_spaced}
use Rattle.sci_print.proofs.numbers.put_numbers.Given as goal

-- the numbers so far are handed on, and the others are due still
abbrev pub invariant-loop-number : goal.invariant-loop-number
invariant-loop-number g l = UnderWay (g.S.Sink.state l.fn.out) (g.S.Sink.state l.out) (all_spaced l.numbers) (all_spaced (drop l.number-index l.numbers))
