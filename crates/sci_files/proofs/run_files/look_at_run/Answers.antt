use Rattle.std.proofs.Common.{rules, List, map}
use Rattle.sci_trace.specs.Columns.{Needed, needed_of}
use Rattle.sci_files.specs.declared.run_files.RunFiles.{RunFiles}
use Rattle.sci_files.proofs.RunFiles.{diagram_stops, diagram_passes, needs_stop, inputs_stop, both_pass}
use Rattle.sci_files.proofs.run_files.look_at_run.Goals as goal

pub returns-in_err-checked-clause-looked : goal.returns-in_err-checked-clause-looked
returns-in_err-checked-clause-looked g c =
    let old = g.F.Folder.state c.args.folder.now in
    let mid = g.F.Folder.state c.look.new.folder in
    diagram_stops old mid c.args.file.now c.args.inputs_file.now c.look.result c.from_residual.result _ c.in_err-checked.was (search rules) c.look.ensures.looked

pub returns-in_err-needs-clause-looked : goal.returns-in_err-needs-clause-looked
returns-in_err-needs-clause-looked g c =
    let old = g.F.Folder.state c.args.folder.now in
    let mid = g.F.Folder.state c.look.new.folder in
    needs_stop old mid c.args.file.now c.args.inputs_file.now c.in_ok-checked.checked c.from_residual-in_err-needs.result (search rules)
    (diagram_passes old mid c.args.file.now c.look.result c.in_ok-checked.checked c.in_ok-checked.was c.look.ensures.looked c.look.ensures.kept)

pub returns-in_err-inputs-clause-looked : goal.returns-in_err-inputs-clause-looked
returns-in_err-inputs-clause-looked g c =
    let old = g.F.Folder.state c.args.folder.now in
    let mid = g.F.Folder.state c.look.new.folder in
    let new = g.F.Folder.state c.look-2.new.folder in
    let needs : List Needed = map needed_of c.in_ok-needs.needs.items in
    inputs_stop old mid new c.args.file.now c.args.inputs_file.now c.in_ok-checked.checked needs c.look-2.result c.from_residual-in_err-inputs.result _ c.in_err-inputs.was (search rules)
    (diagram_passes old mid c.args.file.now c.look.result c.in_ok-checked.checked c.in_ok-checked.was c.look.ensures.looked c.look.ensures.kept) c.in_ok-needs.ensures.in_order c.look-2.ensures.looked

pub returns-clause-looked : goal.returns-clause-looked
returns-clause-looked g c =
    let old = g.F.Folder.state c.args.folder.now in
    let mid = g.F.Folder.state c.look.new.folder in
    let new = g.F.Folder.state c.look-2.new.folder in
    let needs : List Needed = map needed_of c.in_ok-needs.needs.items in
    let files : RunFiles = record { checked = c.in_ok-checked.checked; inputs = c.in_ok-inputs.inputs } in
    both_pass old mid new c.args.file.now c.args.inputs_file.now files needs c.look-2.result c.in_ok-inputs.was
    (diagram_passes old mid c.args.file.now c.look.result c.in_ok-checked.checked c.in_ok-checked.was c.look.ensures.looked c.look.ensures.kept) c.in_ok-needs.ensures.in_order c.look-2.ensures.looked c.look-2.ensures.kept
