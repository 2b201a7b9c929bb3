use Rattle.std.proofs.Common.{ap, subst}
use Rattle.sci_net.specs.Parts.{Parts}
use Rattle.sci_net.specs.Net.{IsNet}
use Rattle.sci_net.proofs.TypedSpecs.{spec_typed}
use Rattle.sci_net.proofs.net.Net.spec.Goals as goal

pub returns-clause-is_typed : goal.returns-clause-is_typed
returns-clause-is_typed c =
    spec_typed c.self.inside.specs.items c.args.self.now (ap (λ (n : Parts). n.specs) c.self.view_is) (subst IsNet c.self.view_is c.self.invariant.well_formed)
    c.args.block c.index.result.now c.requires.least c.requires.most c.index.ensures
