use Rattle.std.proofs.Common.{◌≡◌, ◌++◌, ◌+◌, ◌<◌, ◌^◌, map, drop, length}
use Rattle.std.specs.Prelude.{All}
use Rattle.sci_diagram.specs.Objects.{objects_of, object_view, diagram_view, listed}
use Rattle.sci_flat.specs.PortNumbers.{past}
use Rattle.sci_flat.specs.Numbers.{seats, own_past}
use Rattle.sci_flat.proofs.steps.numberer.PortNumberer.seats.Given as goal

abbrev pub invariant-loop-obj : goal.invariant-loop-obj
invariant-loop-obj l = record {
  items : l.seats.items ++ seats l.self.next (objects_of (map object_view (drop l.obj-index l.obj-items))) ≡ seats l.fn.self.next (diagram_view l.d);
  next : own_past l.self.next (objects_of (map object_view (drop l.obj-index l.obj-items))) ≡ own_past l.fn.self.next (diagram_view l.d);
  fit : All (λ s. past s < 2 ^ 32) l.seats.items;
  long : length l.seats.items + length (drop l.obj-index l.obj-items) ≡ length (listed (diagram_view l.d));
  steps : l.self.steps ≡ l.fn.self.steps;
  blocks : l.self.blocks ≡ l.fn.self.blocks;
  tags : l.self.tags ≡ l.fn.self.tags;
}
