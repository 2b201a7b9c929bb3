use Rattle.std.proofs.Common.{ap}
use Rattle.sci_bank.specs.Bank.{Held}
use Rattle.sci_kind_bank.proofs.BankLemmas.{kind_of_read}
use Rattle.sci_kind_bank.proofs.kind_bank.KindBankBank.out.Goals as goal

pub fill-fate-requires-clause-typed : goal.fill-fate-requires-clause-typed
fill-fate-requires-clause-typed g c =
    kind_of_read g.R.Rule.kind c.self.inside.rows.items c.args.self.now.rows c.args.slot c.index-row.result.now (ap (λ (h : Held). h.rows) c.self.view_is) c.self.invariant c.requires.call.known c.index-row.ensures
