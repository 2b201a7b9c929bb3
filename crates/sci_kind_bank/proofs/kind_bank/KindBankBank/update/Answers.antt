use Rattle.std.proofs.Common.{◌≡◌, ap, subst}
use Rattle.sci_bank.specs.Bank.{Held, AreRows}
use Rattle.sci_kind_bank.proofs.BankLemmas.{AreRows-step, kind_of_read}
use Rattle.sci_kind_bank.proofs.kind_bank.KindBankBank.update.Goals as goal

pub advance-requires-clause-typed : goal.advance-requires-clause-typed
advance-requires-clause-typed g c =
    kind_of_read g.R.Rule.kind c.self.inside.rows.items c.args.self.now.rows c.args.slot c.index_mut-row.result.now (ap (λ (h : Held). h.rows) c.self.view_is) c.self.invariant c.requires.call.known c.index_mut-row.ensures.value

pub invariant_of-self : goal.invariant_of-self
invariant_of-self g c =
    let e : c.self.inside.rows.items ≡ c.args.self.now.rows = ap (λ (h : Held). h.rows) c.self.view_is in
    let a = subst (AreRows g.R.Rule.kind) e c.self.invariant in
    rw (e, c.advance.ensures, c.of.ensures)
    (AreRows-step g.R.Rule.kind c.args.self.now.rows c.args.slot c.args.mask c.args.ins.now c.index_mut-row.result.now a c.requires.call.known c.requires.call.filled (rw e at c.index_mut-row.ensures.value))
