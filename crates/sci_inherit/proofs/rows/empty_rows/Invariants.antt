use Rattle.sci_inherit.specs.Followers.{plain_rows, AreEmptyRows}
use Rattle.sci_inherit.proofs.rows.empty_rows.Given as goal

abbrev pub invariant-loop-at : goal.invariant-loop-at
invariant-loop-at l = AreEmptyRows l.net l.at (plain_rows l.rows.items)
