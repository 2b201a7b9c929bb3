use Rattle.std.proofs.Common.{◌≡◌, map, length}
use Rattle.sci_blocks.specs.Blocks.{part_view}
use Rattle.sci_flat.specs.Placed.{placed_all}
use Rattle.sci_flat.proofs.blocks.Blocks.of.Given as goal

abbrev pub invariant-loop-part : goal.invariant-loop-part
invariant-loop-part l = record {
  same : placed_all l.specs.items l.places.items ≡ map part_view l.yielded;
  long : length l.places.items ≡ length l.specs.items;
}
