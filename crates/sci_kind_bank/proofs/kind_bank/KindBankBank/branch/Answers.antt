use Rattle.std.proofs.Common.{ap}
use Rattle.sci_bank.specs.Bank.{Held}
use Rattle.sci_kind_bank.proofs.BankLemmas.{kind_of_read}
use Rattle.sci_kind_bank.proofs.kind_bank.KindBankBank.branch.Goals as goal

pub branch-self-requires-clause-typed : goal.branch-self-requires-clause-typed
branch-self-requires-clause-typed g c =
    kind_of_read g.R.Rule.kind c.self.inside.rows.items c.args.self.now.rows c.args.slot c.index.result.now (ap (λ (h : Held). h.rows) c.self.view_is) c.self.invariant c.requires.known c.index.ensures
