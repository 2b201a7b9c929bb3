use Rattle.std.proofs.Common.{sym, subst, ◌≡◌, length, Some}
use Rattle.sci_bank.specs.Library.{next_of}
use Rattle.sci_bank.proofs.LibraryLemmas.{in_order_after_put}
use Rattle.sci_bank.proofs.library.Library.put.Goals.{in-Ok, in-Err}
use Rattle.sci_bank.proofs.library.Library.put.Goals as goal

pub invariant_of-self : goal.invariant_of-self
invariant_of-self g c =
    let next = subst (λ v. next_of (length v) ≡ Some (g.B.Bank.meaning c.args.bank).kind) (sym c.self.view_is) c.requires in
    elim c.match-push.branch [
      | in-Ok w ↦ in_order_after_put g.B.Bank.meaning c.self.inside.banks.items c.push.new.self.items c.args.bank w.in-Ok.ensures.items c.self.invariant next
      | in-Err w ↦ rw w.in-Err.ensures.items c.self.invariant
    ]
