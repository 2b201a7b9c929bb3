use Rattle.std.proofs.Common.{◌≡◌, ◌-◌}
use Rattle.sci_ranges_rules.specs.Words.{allows}
use Rattle.sci_ranges_kinds.proofs.truths.allows.Given as goal

abbrev pub invariant-loop-k : goal.invariant-loop-k
invariant-loop-k l = allows l.ins l.n l.row ≡ allows l.ins (l.n - l.k) l.digits
