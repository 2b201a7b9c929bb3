use Rattle.std.proofs.Common.{rules}
use Rattle.sci_files.specs.declared.look.LookStop.TheVariants.{Memory}
use Rattle.sci_files.proofs.RunFiles.{run_stops, run_lacks, passed_free, passed_columns}
use Rattle.sci_ranges_marks.specs.View.{marks_of}
use Rattle.sci_ranges_find.specs.View.{ranges_of}
use Rattle.sci_range_commands.specs.Due.{gives_ranges}
use Rattle.sci_range_commands.proofs.Looked.{passed_rows, stopped_looks, ranged_due}
use Rattle.sci_range_commands.proofs.prepare.for_files.Goals as goal

pub returns-in_err-files-clause-looks : goal.returns-in_err-files-clause-looks
returns-in_err-files-clause-looks g c =
    let old = g.F.Folder.state c.args.folder.now in
    let new = g.F.Folder.state c.look_at_run.new.folder in
    stopped_looks old new c.args.file.now c.args.inputs_file.now c.from_residual.result _ (search rules)
    (run_stops c.args.file.now c.args.inputs_file.now gives_ranges old new c.look_at_run.result _ c.in_err-files.was c.look_at_run.ensures.looked)

pub find-requires-clause-rows : goal.find-requires-clause-rows
find-requires-clause-rows g c =
    passed_rows (g.F.Folder.state c.args.folder.now) (g.F.Folder.state c.look_at_run.new.folder) c.args.file.now c.args.inputs_file.now c.in_ok-files.files c.in_ok-files.ensures.looked

pub find-requires-clause-free : goal.find-requires-clause-free
find-requires-clause-free g c =
    passed_free (g.F.Folder.state c.args.folder.now) (g.F.Folder.state c.look_at_run.new.folder) c.args.file.now c.args.inputs_file.now c.in_ok-files.files c.in_ok-files.ensures.looked

pub returns-in_err-found-clause-looks : goal.returns-in_err-found-clause-looks
returns-in_err-found-clause-looks g c =
    let old = g.F.Folder.state c.args.folder.now in
    let new = g.F.Folder.state c.look_at_run.new.folder in
    stopped_looks old new c.args.file.now c.args.inputs_file.now c.from_residual-in_err-found.result Memory (search rules)
    (run_lacks c.args.file.now c.args.inputs_file.now gives_ranges old new _ c.in_ok-files.ensures.looked)

pub find-requires-clause-columns : goal.find-requires-clause-columns
find-requires-clause-columns g c =
    passed_columns (g.F.Folder.state c.args.folder.now) (g.F.Folder.state c.look_at_run.new.folder) c.args.file.now c.args.inputs_file.now c.in_ok-files.files c.in_ok-files.ensures.looked

pub returns-clause-looks : goal.returns-clause-looks
returns-clause-looks g c = λ a is.
    let old = g.F.Folder.state c.args.folder.now in
    let new = g.F.Folder.state c.look_at_run.new.folder in
    let found = c.in_ok-found.found in
    ranged_due c.args.file.now c.args.inputs_file.now old new c.in_ok-files.files (marks_of found.marks) (ranges_of found.table) a c.in_ok-files.ensures.looked c.in_ok-found.ensures.marks c.in_ok-found.ensures.live c.in_ok-found.ensures.closed is
