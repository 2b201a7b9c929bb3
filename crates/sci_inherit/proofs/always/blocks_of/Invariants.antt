use Rattle.std.proofs.Common.{◌≡◌, length, map, take}
use Rattle.sci_inherit.proofs.always.blocks_of.Given as goal

abbrev pub invariant-loop-at : goal.invariant-loop-at
invariant-loop-at l = record {
  len : length l.blocks.items ≡ length l.fed;
  done : take l.at l.blocks.items ≡ map (λ f. f.block) (take l.at l.fed);
}
