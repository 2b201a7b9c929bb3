use Rattle.std.proofs.Common.{◌≡◌, ap, subst, [], ◌∷◌}
use Rattle.std.specs.Prelude.{OnOk, OnErr}
use Rattle.sci_store.specs.Written.{tallied}
use Rattle.sci_kept.specs.Kept.{Kept}
use Rattle.sci_kept.proofs.Fitting.{observed_fits}
use Rattle.sci_kept.proofs.kept.Kept.observe.Goals as goal

pub invariant_of-self : goal.invariant_of-self
invariant_of-self g c =
    observed_fits c.self.inside.frame c.self.inside.store c.observe.new.self c.args.o.now c.observe.result c.observe.ensures.counted c.observe.ensures.kept c.self.invariant

pub returns-clause-counted : goal.returns-clause-counted
returns-clause-counted g c =
    subst (λ (k : Kept). OnOk c.observe.result (c.observe.new.self ≡ tallied k.store (c.args.o.now ∷ []))) c.self.view_is c.observe.ensures.counted

pub returns-clause-kept : goal.returns-clause-kept
returns-clause-kept g c = subst (λ (k : Kept). OnErr c.observe.result (c.observe.new.self ≡ k.store)) c.self.view_is c.observe.ensures.kept

pub returns-clause-fixed : goal.returns-clause-fixed
returns-clause-fixed g c = ap (λ (k : Kept). k.fixed) c.self.view_is
