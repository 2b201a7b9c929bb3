use Rattle.std.proofs.Common.{ap}
use Rattle.sci_net.specs.Parts.{Parts}
use Rattle.sci_net.proofs.ReadRows.{path_read}
use Rattle.sci_net.proofs.wiring.Wiring.path.Goals as goal

pub returns : goal.returns
returns c =
    path_read c.self.inside.paths.items c.args.self.now (ap (λ (n : Parts). n.paths) c.self.view_is)
    c.args.block c.index.result.now c.requires.least c.requires.most c.index.ensures
