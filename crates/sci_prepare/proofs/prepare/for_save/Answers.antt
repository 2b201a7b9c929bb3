use Rattle.std.proofs.Common.{rules, refl, ◌∙◌, sym, subst, ap}
use Rattle.sci_net.specs.Parts.{Parts}
use Rattle.sci_reaction.specs.Memory.{AreColumns}
use Rattle.sci_store.specs.Frame.{Fixed}
use Rattle.sci_save.specs.Saved.{saved_of}
use Rattle.sci_resume.specs.Behind.{IsSavedBehind, HasEnded, IsReached}
use Rattle.sci_resume.specs.declared.Reached.{Reached}
use Rattle.sci_answers.specs.Save.{gives_save}
use Rattle.sci_words.specs.Words.{save}
use Rattle.sci_files.specs.declared.look.LookStop.TheVariants.{Memory}
use Rattle.sci_prepare.proofs.Looked.{stopped_looks}
use Rattle.sci_files.proofs.RunFiles.{run_stops, run_lacks, passed_columns}
use Rattle.sci_prepare.proofs.Saving.{saved_looks, ended_looks}
use Rattle.sci_prepare.proofs.prepare.for_save.Goals as goal

pub returns-in_err-files-clause-looks : goal.returns-in_err-files-clause-looks
returns-in_err-files-clause-looks g c =
    let old = g.F.Folder.state c.args.folder.now in
    let new = g.F.Folder.state c.look_at_run.new.folder in
    stopped_looks old new _ (save c.args.run.file.now c.args.run.inputs_file.now c.args.run.until c.args.run.limit c.args.reaction) c.from_residual.result _ (search rules)
    (run_stops c.args.run.file.now c.args.run.inputs_file.now (gives_save c.args.run.until c.args.run.limit c.args.reaction) old new c.look_at_run.result _ c.in_err-files.was c.look_at_run.ensures.looked)

pub returns-in_err-ready-clause-looks : goal.returns-in_err-ready-clause-looks
returns-in_err-ready-clause-looks g c =
    let old = g.F.Folder.state c.args.folder.now in
    let new = g.F.Folder.state c.look_at_run.new.folder in
    stopped_looks old new _ (save c.args.run.file.now c.args.run.inputs_file.now c.args.run.until c.args.run.limit c.args.reaction) c.from_residual-in_err-ready.result Memory (search rules)
    (run_lacks c.args.run.file.now c.args.run.inputs_file.now (gives_save c.args.run.until c.args.run.limit c.args.reaction) old new _ c.in_ok-files.ensures.looked)

pub run_to-requires-clause-columns : goal.run_to-requires-clause-columns
run_to-requires-clause-columns g c =
    subst (λ (n : Parts). AreColumns n c.in_ok-files.files.inputs) (sym c.in_ok-ready.ensures.start.net)
    (passed_columns (g.F.Folder.state c.args.folder.now) (g.F.Folder.state c.look_at_run.new.folder) c.args.run.file.now c.args.run.inputs_file.now c.in_ok-files.files c.in_ok-files.ensures.looked)

pub returns-clause-looks : goal.returns-clause-looks
returns-clause-looks g c =
    let old = g.F.Folder.state c.args.folder.now in
    let new = g.F.Folder.state c.look_at_run.new.folder in
    stopped_looks old new _ (save c.args.run.file.now c.args.run.inputs_file.now c.args.run.until c.args.run.limit c.args.reaction) _ Memory refl
    (run_lacks c.args.run.file.now c.args.run.inputs_file.now (gives_save c.args.run.until c.args.run.limit c.args.reaction) old new _ c.in_ok-files.ensures.looked)

pub returns-in-Ok-Saved-clause-looks : goal.returns-in-Ok-Saved-clause-looks
returns-in-Ok-Saved-clause-looks g c =
    let old = g.F.Folder.state c.args.folder.now in
    let new = g.F.Folder.state c.look_at_run.new.folder in
    let same = c.in_ok-ready.ensures.start.net in
    let reached = subst (λ (x : Reached). IsReached c.in_ok-ready.ready.fixed.net c.in_ok-files.files.inputs c.args.run.until c.args.run.limit c.args.reaction x) c.in-Ok-Saved.field-0-is c.in-Ok-Saved.ensures.reached in
    let behind = subst (λ (n : Parts). IsSavedBehind n c.in_ok-files.files.inputs c.args.run.until c.args.run.limit c.args.reaction (saved_of c.in-Ok-Saved.image)) same reached in
    saved_looks c.args.run.file.now c.args.run.inputs_file.now c.args.run.until c.args.run.limit c.args.reaction old new _ c.in_ok-files.files c.in_ok-files.ensures.looked c.run_to.new.ready c.in-Ok-Saved.image
    (ap (λ (f : Fixed). f.net) c.run_to.ensures.net ∙ same) behind

pub returns-in-Ok-Ended-clause-looks : goal.returns-in-Ok-Ended-clause-looks
returns-in-Ok-Ended-clause-looks g c =
    let old = g.F.Folder.state c.args.folder.now in
    let new = g.F.Folder.state c.look_at_run.new.folder in
    let reached = subst (λ (x : Reached). IsReached c.in_ok-ready.ready.fixed.net c.in_ok-files.files.inputs c.args.run.until c.args.run.limit c.args.reaction x) c.in-Ok-Ended.field-0-is c.in-Ok-Ended.ensures.reached in
    let ended = subst (λ (n : Parts). HasEnded n c.in_ok-files.files.inputs c.args.run.until c.args.run.limit c.args.reaction c.in-Ok-Ended.count) c.in_ok-ready.ensures.start.net reached in
    ended_looks c.args.run.file.now c.args.run.inputs_file.now c.args.run.until c.args.run.limit c.args.reaction old new _ c.in_ok-files.files c.in_ok-files.ensures.looked c.in-Ok-Ended.count c.ended_by.result ended c.ended_by.ensures
