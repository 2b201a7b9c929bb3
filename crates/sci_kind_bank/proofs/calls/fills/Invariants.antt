use Rattle.sci_kind_bank.proofs.CallLemmas.{FirstFit}
use Rattle.sci_kind_bank.proofs.calls.fills.Given as goal

abbrev pub invariant-loop-k : goal.invariant-loop-k
invariant-loop-k l = FirstFit l.ports l.values l.k l.start
