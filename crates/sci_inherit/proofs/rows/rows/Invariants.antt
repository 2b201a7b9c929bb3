use Rattle.std.proofs.Common.{◌+◌}
use Rattle.sci_inherit.specs.Followers.{plain_rows, AreFilled, ComeBefore}
use Rattle.sci_inherit.proofs.rows.rows.Given as goal

abbrev pub invariant-loop-at : goal.invariant-loop-at
invariant-loop-at l = record {
  filled : AreFilled l.net l.wanted l.at (plain_rows l.rows.items);
  before : ComeBefore (record { block = l.at + 1; input = 1 }) (plain_rows l.rows.items);
}
