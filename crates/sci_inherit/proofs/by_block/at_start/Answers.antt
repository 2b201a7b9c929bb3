use Rattle.std.proofs.Common.{length}
use Rattle.std.proofs.lemmas.Result.{IfOk-weaker}
use Rattle.sci_inherit.specs.ByBlock.{AreMarksOf, AreAtStart}
use Rattle.sci_inherit.proofs.Viewed.{at_start_are}
use Rattle.sci_inherit.proofs.by_block.at_start.Goals as goal

pub returns : goal.returns
returns c =
    let n = c.args.net.now in
    let found = c.find_always.new.walk.found in
    IfOk-weaker c.marks.result (λ v. AreMarksOf found (length n.specs) v.items) (λ v. AreAtStart n v.items) (λ v m. at_start_are n found v.items c.in_ok-find_always.ensures.always m) c.marks.ensures
