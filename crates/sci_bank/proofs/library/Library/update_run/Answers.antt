use Rattle.std.proofs.Common.{sym, subst}
use Rattle.sci_bank.specs.Bank.{Meaning}
use Rattle.sci_bank.specs.Library.{Holds}
use Rattle.sci_bank.specs.Runs.{after_updates}
use Rattle.sci_bank.proofs.LibraryLemmas.{bank_changed, kind_kept, stays_in_order}
use Rattle.sci_bank.proofs.library.Library.update_run.Goals as goal

pub invariant_of-self : goal.invariant_of-self
invariant_of-self g c =
    let known = subst (λ v. Holds v c.args.kind) (sym c.self.view_is) c.requires.known in
    stays_in_order _ (λ (b : Meaning). after_updates b c.args.places.now c.args.values.now c.args.calls.now)
    _ _ _ _ _ c.place.ensures known c.index_mut.ensures.value c.update_run.ensures (λ b. kind_kept b c.args.places.now c.args.values.now c.args.calls.now) c.self.invariant

pub returns-clause-changed : goal.returns-clause-changed
returns-clause-changed g c = rw (← c.self.view_is) (
    let known = subst (λ v. Holds v c.args.kind) (sym c.self.view_is) c.requires.known in
    bank_changed _ (λ (b : Meaning). after_updates b c.args.places.now c.args.values.now c.args.calls.now)
    _ _ _ _ _ c.place.ensures known c.index_mut.ensures.value c.update_run.ensures)
