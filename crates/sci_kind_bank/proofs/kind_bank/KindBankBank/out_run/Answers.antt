use Rattle.std.proofs.Common.{refl}
use Rattle.sci_bank.specs.Bank.{Meaning}
use Rattle.sci_kind_bank.proofs.RunLemmas.{counted_calls}
use Rattle.sci_kind_bank.proofs.kind_bank.KindBankBank.out_run.Goals as goal

pub returns-clause-counted : goal.returns-clause-counted
returns-clause-counted g c =
    let b : Meaning = record { kind = g.R.Rule.kind; rows = c.args.self.now.rows; outs = c.args.self.now.outs } in
    let next : Meaning = record { kind = g.R.Rule.kind; rows = c.count_calls.new.self.rows; outs = c.count_calls.new.self.outs } in
    counted_calls b next _ _ refl c.count_calls.ensures.rows c.count_calls.ensures.outs c.fill_run-made.ensures.made
