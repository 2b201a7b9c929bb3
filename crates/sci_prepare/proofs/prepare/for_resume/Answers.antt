use Rattle.std.proofs.Common.{rules}
use Rattle.sci_answers.specs.Resume.{reads_saved}
use Rattle.sci_words.specs.Words.{resume}
use Rattle.sci_files.specs.declared.look.LookStop.TheVariants.{Memory}
use Rattle.sci_prepare.proofs.Looked.{stopped_looks}
use Rattle.sci_files.proofs.RunFiles.{run_stops}
use Rattle.sci_prepare.proofs.Saving.{saved_stops, lacks_resume, resumed_looks}
use Rattle.sci_prepare.proofs.prepare.for_resume.Goals as goal

pub returns-in_err-files-clause-looks : goal.returns-in_err-files-clause-looks
returns-in_err-files-clause-looks g c =
    let old = g.F.Folder.state c.args.folder.now in
    let new = g.F.Folder.state c.look_at_run.new.folder in
    stopped_looks old new _ (resume c.args.run.file.now c.args.run.inputs_file.now c.args.saved_file.now c.args.run.until c.args.run.limit) c.from_residual.result _ (search rules)
    (run_stops c.args.run.file.now c.args.run.inputs_file.now (reads_saved c.args.saved_file.now c.args.run.until c.args.run.limit) old new c.look_at_run.result _ c.in_err-files.was c.look_at_run.ensures.looked)

pub returns-in_err-image-clause-looks : goal.returns-in_err-image-clause-looks
returns-in_err-image-clause-looks g c =
    let old = g.F.Folder.state c.args.folder.now in
    let mid = g.F.Folder.state c.look_at_run.new.folder in
    let new = g.F.Folder.state c.look.new.folder in
    stopped_looks old new _ (resume c.args.run.file.now c.args.run.inputs_file.now c.args.saved_file.now c.args.run.until c.args.run.limit) c.from_residual-in_err-image.result _ (search rules)
    (saved_stops c.args.run.file.now c.args.run.inputs_file.now c.args.saved_file.now c.args.run.until c.args.run.limit old mid c.in_ok-files.files c.in_ok-files.ensures.looked new c.look.result _ c.in_err-image.was c.look.ensures.looked)

pub returns-in_err-ready-clause-looks : goal.returns-in_err-ready-clause-looks
returns-in_err-ready-clause-looks g c =
    let old = g.F.Folder.state c.args.folder.now in
    let mid = g.F.Folder.state c.look_at_run.new.folder in
    let new = g.F.Folder.state c.look.new.folder in
    stopped_looks old new _ (resume c.args.run.file.now c.args.run.inputs_file.now c.args.saved_file.now c.args.run.until c.args.run.limit) c.from_residual-in_err-ready.result Memory (search rules)
    (lacks_resume c.args.run.file.now c.args.run.inputs_file.now c.args.saved_file.now c.args.run.until c.args.run.limit old mid c.in_ok-files.files c.in_ok-files.ensures.looked new c.in_ok-image.image c.in_ok-image.ensures.looked c.look.ensures.kept)

pub returns-clause-looks : goal.returns-clause-looks
returns-clause-looks g c =
    let old = g.F.Folder.state c.args.folder.now in
    let mid = g.F.Folder.state c.look_at_run.new.folder in
    let new = g.F.Folder.state c.look.new.folder in
    resumed_looks c.args.run.file.now c.args.run.inputs_file.now c.args.saved_file.now c.args.run.until c.args.run.limit old mid c.in_ok-files.files c.in_ok-files.ensures.looked new c.in_ok-image.image c.in_ok-image.ensures.looked c.look.ensures.kept
    _ c.in_ok-ready.ready c.in_ok-ready.ensures.restored c.requires.until c.requires.limit
