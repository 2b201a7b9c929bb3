use Rattle.std.proofs.Common.{◌≡◌, ℕ, ◌≤◌, take}
use Rattle.sci_base.specs.Lists.{at}
use Rattle.sci_kinds.specs.Table.{gathered, cell, Values}
use Rattle.sci_kind_bank.proofs.kind_bank.fill.Given as goal

abbrev pub invariant-loop-at : goal.invariant-loop-at
invariant-loop-at g l = record {
  cells : gathered (cell l.spec l.state l.mask l.ins) l.at ≡ Values (take l.at l.outs);
  rest : (e : ℕ) → l.at ≤ e → at l.outs e ≡ at l.initial.outs e;
}
