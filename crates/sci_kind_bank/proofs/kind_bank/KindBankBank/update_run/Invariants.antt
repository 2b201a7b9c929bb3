use Rattle.sci_kind_bank.proofs.RunLemmas.{IsSteppedTo}
use Rattle.sci_kind_bank.proofs.kind_bank.KindBankBank.update_run.Given as goal

abbrev pub invariant-loop-call : goal.invariant-loop-call
invariant-loop-call g l =
    IsSteppedTo (record { kind = g.R.Rule.kind; rows = l.fn.self.rows; outs = l.fn.self.outs }) l.places l.values l.calls l.call-index
    (record { kind = g.R.Rule.kind; rows = l.self-inside.rows.items; outs = l.self-inside.outs })
