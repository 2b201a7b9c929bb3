use Rattle.sci_bank.specs.Library.{IsFull}
use Rattle.sci_bank_table.proofs.run.Given as goal

abbrev pub invariant-loop-line : goal.invariant-loop-line
invariant-loop-line g l =
    (goal.iterator-loop-line g).can_next l.line-iterator × (goal.iterator-loop-line g).is_finite l.line-iterator × IsFull l.lib
