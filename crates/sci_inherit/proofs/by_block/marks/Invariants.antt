use Rattle.sci_inherit.specs.ByBlock.{AreMarksOf}
use Rattle.sci_inherit.proofs.by_block.marks.Given as goal

abbrev pub invariant-loop-at : goal.invariant-loop-at
invariant-loop-at l = AreMarksOf l.walk.found l.at l.marks.items
