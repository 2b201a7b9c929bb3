use Rattle.std.proofs.Common.{ap, arith, length}
use Rattle.sci_net.proofs.TypedSpecs.{all_typed, sources_few}
use Rattle.sci_net.proofs.net.Net.source_count.Goals as goal

pub overflow_cast-result : goal.overflow_cast-result
overflow_cast-result c =
    let net = c.self.invariant.well_formed in
    let few = sources_few 1 c.self.inside.specs.items (all_typed _ net) in
    let order = ap length c.self.invariant.in_order in
    omega (arith, few, order, net.wired.few, c.len.ensures, c.self.inside.sources.ok.0)
