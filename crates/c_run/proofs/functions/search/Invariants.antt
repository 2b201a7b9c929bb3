use Rattle.std.proofs.Common.{◌≡◌}
use Rattle.c_run.specs.Calls.{latest}
use Rattle.c_run.proofs.functions.search.Given as goal

abbrev pub invariant-loop-k : goal.invariant-loop-k
invariant-loop-k l = latest l.name l.k l.routines ≡ latest l.name l.fn.from l.routines
