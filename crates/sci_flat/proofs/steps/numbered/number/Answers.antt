use Rattle.std.proofs.Common.{◌∙◌, ◌++◌, ℕ, List, ap, arith}
use Rattle.sci_diagram.specs.Objects.{diagram_view}
use Rattle.sci_flat.specs.declared.steps.port_numbers.PortNumbers.{PortNumbers}
use Rattle.sci_flat.specs.Numbers.{Steps, seats, own_past, steps_by, blocks_by, tags_by}
use Rattle.sci_flat.proofs.StepsWhole.{whole_numbered}
use Rattle.sci_flat.proofs.Room.{all_ports}
use Rattle.sci_flat.proofs.steps.numbered.number.Goals as goal

pub returns : goal.returns
returns c = λ ps h l.
    let t = diagram_view c.args.d.now in
    let steps = c.in_ok-diagram.ensures.steps
    ∙ (ap (λ (es : Steps). es ++ steps_by (seats 0 t) c.empty.result (seats 0 t) (own_past 0 t) t) c.new.ensures.items
    ∙ ap (λ (s : PortNumbers). steps_by (seats 0 t) s (seats 0 t) (own_past 0 t) t) c.empty.ensures) in
    let blocks = c.in_ok-diagram.ensures.blocks ∙ ap (λ (ss : List PortNumbers). ss ++ blocks_by (seats 0 t) (own_past 0 t) t) c.new-2.ensures.items in
    let tags = c.in_ok-diagram.ensures.tags ∙ ap (λ (ns : List ℕ). ns ++ tags_by (seats 0 t) (own_past 0 t) t) c.new-3.ensures.items in
    whole_numbered t ps _ h l c.in_ok-diagram.ensures.next steps blocks tags

pub diagram-requires-clause-room : goal.diagram-requires-clause-room
diagram-requires-clause-room c = let all = all_ports (diagram_view c.args.d.now) in omega (arith, all, c.requires)
