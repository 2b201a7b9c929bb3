use Rattle.sci_bank_table.specs.Instances.{IsInstance}
use Rattle.sci_bank_table.proofs.show_turns.Given as goal

abbrev pub invariant-loop-ins : goal.invariant-loop-ins
invariant-loop-ins g l = IsInstance l.lib l.fn.row.spec l.slot
