use Rattle.std.proofs.Common.{◌≡◌, length, [], ap, arith}
use Rattle.sci_net.specs.Parts.{Parts, numbered}
use Rattle.sci_net.proofs.ReadRows.{row_read, wire_read}
use Rattle.sci_net.proofs.wiring.Wiring.wire.Goals as goal

pub index-requires-2 : goal.index-requires-2
index-requires-2 c =
    let l : length c.index.result.now.items ≡ length (numbered [] c.args.self.now.wires c.args.block) =
    ap length (row_read c.self.inside.wires.items c.args.self.now.wires (ap (λ (n : Parts). n.wires) c.self.view_is)
    c.args.block c.index.result.now c.requires.block_least c.requires.block_most c.index.ensures) in
    omega (arith, c.requires.port_most, c.requires.port_least, l, c.index.result.now.ok.0)

pub returns : goal.returns
returns c =
    wire_read c.self.inside.wires.items c.args.self.now (ap (λ (n : Parts). n.wires) c.self.view_is)
    c.args.block c.args.port c.index.result.now c.index-2.result.now c.requires.block_least c.requires.block_most c.requires.port_least c.requires.port_most
    c.index.ensures c.index-2.ensures
