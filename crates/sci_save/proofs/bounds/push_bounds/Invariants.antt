use Rattle.std.proofs.Common.{◌≡◌, ◌++◌, replicate}
use Rattle.sci_save.proofs.bounds.push_bounds.Given as goal

abbrev pub invariant-loop : goal.invariant-loop
invariant-loop l = l.bounds.items ≡ l.initial.bounds.items ++ replicate l.counter l.more
