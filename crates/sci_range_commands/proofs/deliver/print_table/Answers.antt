use Rattle.sci_ranges_marks.specs.View.{marks_of}
use Rattle.sci_ranges_find.specs.View.{ranges_of}
use Rattle.sci_range_commands.specs.Prepared.{ranged_text}
use Rattle.sci_range_commands.proofs.Giving.{told_some, told_written, told_cut}
use Rattle.sci_range_commands.proofs.deliver.print_table.Goals as goal

pub returns-in-Ok : goal.returns-in-Ok
returns-in-Ok g c =
    let r = c.args.ranged.now in
    told_written (ranged_text r) _ _ _ (told_some r.net (marks_of r.found.marks) (ranges_of r.found.table)) c.in-Ok.ensures

pub returns-in-Err : goal.returns-in-Err
returns-in-Err g c =
    let r = c.args.ranged.now in
    told_cut (ranged_text r) _ _ _ _ _ (told_some r.net (marks_of r.found.marks) (ranges_of r.found.table)) c.in-Err.ensures c.say_write_fault.ensures
