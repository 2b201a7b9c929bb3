use Rattle.std.proofs.Common.{refl, sym, subst, length}
use Rattle.sci_bank.specs.Bank.{Meaning, no_bank}
use Rattle.sci_bank.specs.Library.{Holds}
use Rattle.sci_bank.specs.Runs.{after_outs, calls_made, run_of, ArePlaced}
use Rattle.sci_bank.proofs.LibraryLemmas.{bank_changed, stays_in_order, view_of}
use Rattle.sci_bank.proofs.library.Library.out_run.Goals as goal

pub invariant_of-self : goal.invariant_of-self
invariant_of-self g c =
    let known = subst (λ v. Holds v c.args.kind) (sym c.self.view_is) c.requires.known in
    stays_in_order _ (λ (b : Meaning). after_outs b (calls_made (length c.args.calls.now) (run_of b c.args.places.now c.args.calls.now c.args.values.now)))
    _ _ _ _ _ c.place.ensures known c.index_mut.ensures.value c.out_run.ensures.counted (λ b. refl) c.self.invariant

pub returns-clause-changed : goal.returns-clause-changed
returns-clause-changed g c = rw (← c.self.view_is) (
    let known = subst (λ v. Holds v c.args.kind) (sym c.self.view_is) c.requires.known in
    bank_changed _ (λ (b : Meaning). after_outs b (calls_made (length c.args.calls.now) (run_of b c.args.places.now c.args.calls.now c.args.values.now)))
    _ _ _ _ _ c.place.ensures known c.index_mut.ensures.value c.out_run.ensures.counted)

pub returns-clause-in_range : goal.returns-clause-in_range
returns-clause-in_range g c = rw (← c.self.view_is) (
    let known = subst (λ v. Holds v c.args.kind) (sym c.self.view_is) c.requires.known in
    λ types a p. c.out_run.ensures.in_range types a
    (subst (λ (b : Meaning). ArePlaced b c.args.places.now types c.args.calls.now) (sym (view_of g.B.Bank.meaning _ _ _ _ no_bank c.place.ensures known c.index_mut.ensures.value)) p))
