use Rattle.std.proofs.Common.{◌≡◌, ◌∙◌, ◌++◌, ◌<◌, ◌^◌, List, [], length, map, refl, sym, ap, subst, arith}
use Rattle.std.specs.Prelude.{All}
use Rattle.sci_diagram.specs.Objects.{Objects, objects_of, object_view, diagram_view, listed}
use Rattle.sci_diagram.specs.declared.diagram.Obj.{Obj}
use Rattle.sci_flat.specs.declared.steps.port_numbers.PortNumbers.{PortNumbers}
use Rattle.sci_flat.specs.PortNumbers.{past}
use Rattle.sci_flat.specs.Numbers.{seats, own_past}
use Rattle.sci_flat.proofs.Walking.{diagram_opens, objects_long}
use Rattle.sci_flat.proofs.Room.{past_room}
use Rattle.sci_flat.proofs.steps.numberer.PortNumberer.seats.Goals as goal

pub loop-obj-init : goal.loop-obj-init
loop-obj-init c =
    let none : c.in_ok-seats.seats.items ≡ [] = c.in_ok-seats.ensures.items in
    let same : objects_of (map object_view c.deref-obj-items.result.now) ≡ diagram_view c.args.d.now = ap (λ (l : List Obj). objects_of (map object_view l)) c.deref-obj-items.ensures.value ∙ sym (diagram_opens c.args.d.now) in
    let Fit : List PortNumbers → Type 0 = All (λ s. past s < 2 ^ 32) in
    record {
      items = ap (λ (l : List PortNumbers). l ++ seats c.args.self.now.next (objects_of (map object_view c.deref-obj-items.result.now))) none ∙ ap (seats c.args.self.now.next) same;
      next = ap (own_past c.args.self.now.next) same;
      fit = subst Fit (sym none) (λ k d h. absurd (omega arith));
      long = let a = ap length none in let b = ap (λ (os : Objects). length (listed os)) same in omega (arith, a, b, objects_long c.deref-obj-items.result.now);
      steps = refl;
      blocks = refl;
      tags = refl;
    }

pub seat_of-seat-requires : goal.seat_of-seat-requires
seat_of-seat-requires c =
    past_room c.deref-obj-items.result.now c.loop-obj.obj-index c.obj-item.result (omega arith) c.obj-item.is c.loop-obj.self.next _ c.loop-obj.invariant.next c.requires

pub past-self-requires : goal.past-self-requires
past-self-requires c =
    let Low : PortNumbers → Type 0 = λ s. past s < 2 ^ 32 in
    subst Low (sym c.seat_of-seat.ensures)
    (past_room c.deref-obj-items.result.now c.loop-obj.obj-index c.obj-item.result (omega arith) c.obj-item.is c.loop-obj.self.next _ c.loop-obj.invariant.next c.requires)
