use Rattle.std.proofs.Common.{ap, ◌∙◌}
use Rattle.sci_ranges_pass.specs.Told.{step_back}
use Rattle.sci_ranges_marks.specs.View.{marks_of}
use Rattle.sci_ranges_sums.proofs.following.stepped_back.Goals as goal

pub returns-clause-value : goal.returns-clause-value
returns-clause-value c =
    let step = step_back c.args.net.now (marks_of c.args.marks.now) c.args.block in
    c.step_back.ensures.value ∙ ap step (c.step_back-second.ensures.value ∙ ap step c.step_back-first.ensures.value)
