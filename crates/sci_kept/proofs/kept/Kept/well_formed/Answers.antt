use Rattle.std.proofs.Common.{subst}
use Rattle.sci_store.specs.Frame.{IsFrame}
use Rattle.sci_store.specs.Store.{IsStore}
use Rattle.sci_kept.specs.Kept.{Kept}
use Rattle.sci_kept.proofs.kept.Kept.well_formed.Goals as goal

pub returns-clause-frame : goal.returns-clause-frame
returns-clause-frame c = subst (λ (k : Kept). IsFrame k.fixed) c.self.view_is c.well_formed-2.ensures

pub returns-clause-store : goal.returns-clause-store
returns-clause-store c = subst (λ (k : Kept). IsStore k.fixed k.store) c.self.view_is c.self.invariant
