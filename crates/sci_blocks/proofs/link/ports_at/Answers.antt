use Rattle.std.proofs.Common.{◌≡◌, ◌∙◌, sym, ap, w64, to_z, of_z, arith}
use Rattle.std.proofs.lemmas.Int.{to_z-of_z}
use Rattle.sci_diagram.specs.Objects.{diagram_view}
use Rattle.sci_blocks.specs.Wiring.{ports_of}
use Rattle.sci_blocks.proofs.Walks.{no_position, position_past, position_at}
use Rattle.sci_blocks.proofs.link.ports_at.Goals as goal

pub returns-in-None-clause-value : goal.returns-in-None-clause-value
returns-in-None-clause-value c =
    let position : to_z w64 (of_z w64 c.args.position) ≡ c.args.position = grind (arith, to_z-of_z) in
    ap (ports_of c.args.class) (sym (no_position (diagram_view c.args.d.now) c.args.position (rw position at c.in-None.ensures)))

pub returns-then-at-len-clause-value : goal.returns-then-at-len-clause-value
returns-then-at-len-clause-value c =
    let position : to_z w64 (of_z w64 c.args.position) ≡ c.args.position = grind (arith, to_z-of_z) in
    c.object_ports.ensures.value ∙ ap (ports_of c.args.class) (sym (position_at c.args.d.now c.args.position c.in-Some.at c.index.result.now (rw position at c.in-Some.ensures) (omega arith) c.index.ensures))

pub returns-else-at-len-clause-value : goal.returns-else-at-len-clause-value
returns-else-at-len-clause-value c =
    let position : to_z w64 (of_z w64 c.args.position) ≡ c.args.position = grind (arith, to_z-of_z) in
    ap (ports_of c.args.class) (sym (position_past c.args.d.now c.args.position c.in-Some.at (rw position at c.in-Some.ensures) (omega arith)))
