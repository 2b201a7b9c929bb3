use Rattle.sci_inherit.proofs.Viewed.{marks_next}
use Rattle.sci_inherit.proofs.by_block.marks.Goals as goal

pub loop-at-preserved : goal.loop-at-preserved
loop-at-preserved c = marks_next c.args.walk.now.found c.loop-at.at c.has.result c.loop-at.marks.items c.push.new.self.items c.has.ensures c.in_ok-push.ensures.items c.loop-at.invariant
