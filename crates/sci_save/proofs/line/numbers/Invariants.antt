use Rattle.std.proofs.Common.{◌≡◌, drop}
use Rattle.sci_save.specs.Numbers.{numbers_at}
use Rattle.sci_save.proofs.NumberLoops.{front_numbers}
use Rattle.sci_save.proofs.line.numbers.Given as goal

abbrev pub invariant-loop-bound : goal.invariant-loop-bound
invariant-loop-bound l = front_numbers l.numbers.items (numbers_at (drop l.bound-index l.bounds) l.rest) ≡ numbers_at l.bounds l.bytes
