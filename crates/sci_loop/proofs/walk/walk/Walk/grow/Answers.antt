use Rattle.sci_loop.proofs.Walking.{are_marks_grown}
use Rattle.sci_loop.proofs.walk.walk.Walk.grow.Goals as goal

pub invariant_of-self-2 : goal.invariant_of-self-2
invariant_of-self-2 c = are_marks_grown c.self.inside.marks.items c.push.new.self.items c.self.inside.found.items c.in_ok-push.ensures.items c.self.invariant
