use Rattle.std.proofs.Common.{subst, sym}
use Rattle.sci_net.specs.declared.Wire.{Wire}
use Rattle.sci_net.specs.Parts.{IsOutput}
use Rattle.sci_infer.specs.Typing.{IsAt}
use Rattle.sci_infer.specs.PortParts.{parts_in}
use Rattle.sci_infer.proofs.Places.{input_here}
use Rattle.sci_infer.proofs.Wires.{part_at, wire_tie_is, no_wire_tie}
use Rattle.sci_infer.proofs.ties.wire_tie.Goals as goal

pub wire-wire-requires-clause-block_least : goal.wire-wire-requires-clause-block_least
wire-wire-requires-clause-block_least c =
    let p = c.index-part.result.now in
    let at : IsAt (parts_in c.args.flat.now) c.args.at p = part_at c.args.flat.now c.args.layout.now c.args.at p c.requires.layout c.requires.within c.index-part.ensures in
    (input_here c.args.flat.now c.args.at p at c.in-Input.is).block.least

pub wire-wire-requires-clause-block_most : goal.wire-wire-requires-clause-block_most
wire-wire-requires-clause-block_most c =
    let p = c.index-part.result.now in
    let at : IsAt (parts_in c.args.flat.now) c.args.at p = part_at c.args.flat.now c.args.layout.now c.args.at p c.requires.layout c.requires.within c.index-part.ensures in
    (input_here c.args.flat.now c.args.at p at c.in-Input.is).block.most

pub wire-wire-requires-clause-port_least : goal.wire-wire-requires-clause-port_least
wire-wire-requires-clause-port_least c =
    let p = c.index-part.result.now in
    let at : IsAt (parts_in c.args.flat.now) c.args.at p = part_at c.args.flat.now c.args.layout.now c.args.at p c.requires.layout c.requires.within c.index-part.ensures in
    (input_here c.args.flat.now c.args.at p at c.in-Input.is).least

pub wire-wire-requires-clause-port_most : goal.wire-wire-requires-clause-port_most
wire-wire-requires-clause-port_most c =
    let p = c.index-part.result.now in
    let at : IsAt (parts_in c.args.flat.now) c.args.at p = part_at c.args.flat.now c.args.layout.now c.args.at p c.requires.layout c.requires.within c.index-part.ensures in
    (input_here c.args.flat.now c.args.at p at c.in-Input.is).most

pub output_place-right-requires-clause-wire : goal.output_place-right-requires-clause-wire
output_place-right-requires-clause-wire c =
    let p = c.index-part.result.now in
    let at : IsAt (parts_in c.args.flat.now) c.args.at p = part_at c.args.flat.now c.args.layout.now c.args.at p c.requires.layout c.requires.within c.index-part.ensures in
    subst (λ (w : Wire). IsOutput c.args.flat.now w.block w.port) (sym c.wire-wire.ensures)
    (c.well_formed-2.ensures.wired.wires_lead p.block p.port (input_here c.args.flat.now c.args.at p at c.in-Input.is))

pub returns-in-Input-clause-some : goal.returns-in-Input-clause-some
returns-in-Input-clause-some c =
    let p = c.index-part.result.now in
    let at : IsAt (parts_in c.args.flat.now) c.args.at p = part_at c.args.flat.now c.args.layout.now c.args.at p c.requires.layout c.requires.within c.index-part.ensures in
    wire_tie_is c.args.flat.now c.args.at p c.wire-wire.result c.output_place-right.result at c.in-Input.is c.wire-wire.ensures c.output_place-right.ensures

pub returns-in-Output-clause-none : goal.returns-in-Output-clause-none
returns-in-Output-clause-none c =
    let p = c.index-part.result.now in
    let at : IsAt (parts_in c.args.flat.now) c.args.at p = part_at c.args.flat.now c.args.layout.now c.args.at p c.requires.layout c.requires.within c.index-part.ensures in
    no_wire_tie c.args.flat.now c.args.at p at c.in-Output.is
