use Rattle.std.proofs.Common.{◌≡◌, replicate, false, rules}
use Rattle.sci_loop.proofs.Walking.{are_marks_new}
use Rattle.sci_loop.proofs.walk.walk.Walk.new.Goals as goal

pub invariant_of-result : goal.invariant_of-result
invariant_of-result c =
    let off : c.in_ok-marks.marks.items ≡ replicate c.args.count false = search rules in
    are_marks_new c.in_ok-marks.marks.items c.new-found.result.items c.args.count off c.new-found.ensures.items
