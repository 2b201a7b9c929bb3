use Rattle.sci_kind_bank.proofs.BankLemmas.{IsStepped}
use Rattle.sci_kind_bank.proofs.kind_bank.advance.Given as goal

abbrev pub invariant-loop-at : goal.invariant-loop-at
invariant-loop-at g l = IsStepped l.spec l.initial.state l.state l.mask l.ins l.at
