use Rattle.sci_ranges_pass.proofs.Passing.{closed_by_test}
use Rattle.sci_ranges_marks.specs.View.{marks_of}
use Rattle.sci_ranges_find.specs.View.{ranges_of}
use Rattle.sci_ranges_find.proofs.finding.find.Goals as goal

pub returns-clause-closed : goal.returns-clause-closed
returns-clause-closed c =
    closed_by_test c.args.net.now c.args.inputs.now (marks_of c.in_ok-found.found.marks) (ranges_of c.in_ok-found.found.table) c.well_formed-2.ensures c.requires.free
    c.in_ok-found.ensures.marks c.in_ok-found.ensures.closed

pub returns-clause-live : goal.returns-clause-live
returns-clause-live c = c.in_ok-found.ensures.live
