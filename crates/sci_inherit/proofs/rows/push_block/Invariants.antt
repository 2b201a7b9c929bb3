use Rattle.std.proofs.Common.{◌+◌}
use Rattle.sci_inherit.specs.Followers.{Upto, plain_rows, Fills, InputFed, ComeBefore}
use Rattle.sci_inherit.proofs.rows.push_block.Given as goal

abbrev pub invariant-loop-at : goal.invariant-loop-at
invariant-loop-at l = record {
  fills : Fills (Upto (InputFed l.net l.wanted l.block) l.at) (plain_rows l.initial.rows.items) (plain_rows l.rows.items);
  before : ComeBefore (record { block = l.block; input = l.at + 1 }) (plain_rows l.rows.items);
}
