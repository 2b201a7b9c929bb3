use Rattle.std.proofs.Common.{◌≡◌, ◌++◌, take}
use Rattle.sci_sched.specs.Answer.{numbers_of}
use Rattle.sci_sched.proofs.refusals.push_numbers.Given as goal

abbrev pub invariant-loop-number : goal.invariant-loop-number
invariant-loop-number l = l.detail.items ≡ l.fn.detail.items ++ numbers_of (take l.number-index l.numbers)
