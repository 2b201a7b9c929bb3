use Rattle.std.proofs.Common.{refl, sym, subst}
use Rattle.sci_bank.specs.Bank.{after_reset}
use Rattle.sci_bank.specs.Library.{Holds}
use Rattle.sci_bank.proofs.LibraryLemmas.{bank_changed, stays_in_order, stays_full}
use Rattle.sci_bank.proofs.library.Library.reset.Goals as goal

pub invariant_of-self : goal.invariant_of-self
invariant_of-self g c =
    let known = subst (λ v. Holds v c.args.kind) (sym c.self.view_is) c.requires.known in
    stays_in_order _ after_reset _ _ _ _ _ c.place.ensures known c.index_mut.ensures.value c.reset.ensures (λ b. refl) c.self.invariant

pub returns-clause-changed : goal.returns-clause-changed
returns-clause-changed g c = rw (← c.self.view_is) (
    let known = subst (λ v. Holds v c.args.kind) (sym c.self.view_is) c.requires.known in
    bank_changed _ after_reset _ _ _ _ _ c.place.ensures known c.index_mut.ensures.value c.reset.ensures)

pub returns-clause-full : goal.returns-clause-full
returns-clause-full g c = rw (← c.self.view_is) (stays_full _ _ _ _)
