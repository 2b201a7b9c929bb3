use Rattle.std.proofs.Common.{◌≡◌, List, Some, map, length, ap, sym, ◌∙◌, arith}
use Rattle.sci_diagram.specs.Objects.{objects_of, object_view, diagram_view, listed}
use Rattle.sci_diagram.specs.declared.diagram.Diagram.{out-Diagram}
use Rattle.sci_diagram.specs.declared.diagram.Obj.{Obj}
use Rattle.sci_blocks.specs.Counts.{count_in}
use Rattle.sci_blocks.specs.Ports.{numbers, first_broken, unless_broken}
use Rattle.sci_base.proofs.Stopping.{stops_violation}
use Rattle.sci_blocks.proofs.Walks.{diagram_opens, listed_length}
use Rattle.sci_blocks.proofs.superblock.class_matched.Goals as goal

pub first_broken-requires : goal.first_broken-requires
first_broken-requires c =
    let opens : length (listed (diagram_view c.args.d.now)) ≡ length (out-Diagram c.args.d.now).objs.items = rw (diagram_opens c.args.d.now) (listed_length (out-Diagram c.args.d.now).objs.items) in
    omega (arith, c.requires, opens, ap length c.as_slice.ensures.value)

pub returns-in-Some-clause-stop : goal.returns-in-Some-clause-stop
returns-in-Some-clause-stop c =
    let whole = ap (λ (xs : List Obj). objects_of (map object_view xs)) c.as_slice.ensures.value ∙ sym (diagram_opens c.args.d.now) in
    let found : first_broken (count_in c.args.count c.args.class) (numbers c.args.class (diagram_view c.args.d.now)) ≡ Some c.in-Some.n = rw (c.get.ensures, whole) at (sym c.in_ok-first_broken.ensures.value ∙ c.in-Some.is) in
    stops_violation _ _ _ (ap (unless_broken c.args.at.now c.args.class) found) c.unmatched.ensures
