use Rattle.sci_kind_bank.proofs.RunLemmas.{IsRanTo}
use Rattle.sci_kind_bank.proofs.kind_bank.KindBank.fill_run.Given as goal

abbrev pub invariant-loop-at : goal.invariant-loop-at
invariant-loop-at g l =
    IsRanTo (record { kind = g.R.Rule.kind; rows = l.self.rows; outs = l.self.outs }) l.places l.calls l.initial.values l.at l.values
