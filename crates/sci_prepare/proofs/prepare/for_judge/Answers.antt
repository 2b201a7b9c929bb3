use Rattle.std.proofs.Common.{rules}
use Rattle.sci_answers.specs.Judge.{reads_trace}
use Rattle.sci_words.specs.Words.{judge}
use Rattle.sci_files.specs.declared.look.LookStop.TheVariants.{Memory}
use Rattle.sci_prepare.proofs.Judging.{trace_stops, lacks_judge, judged_looks}
use Rattle.sci_prepare.proofs.Looked.{stopped_looks}
use Rattle.sci_files.proofs.RunFiles.{run_stops, passed_columns}
use Rattle.sci_prepare.proofs.prepare.for_judge.Goals as goal

pub returns-in_err-files-clause-looks : goal.returns-in_err-files-clause-looks
returns-in_err-files-clause-looks g c =
    let old = g.F.Folder.state c.args.folder.now in
    let new = g.F.Folder.state c.look_at_run.new.folder in
    stopped_looks old new _ (judge c.args.run.file.now c.args.run.inputs_file.now c.args.trace_file.now c.args.run.until c.args.run.limit) c.from_residual.result _ (search rules)
    (run_stops c.args.run.file.now c.args.run.inputs_file.now (reads_trace c.args.trace_file.now c.args.run.until c.args.run.limit) old new c.look_at_run.result _ c.in_err-files.was c.look_at_run.ensures.looked)

pub returns-in_err-trace-clause-looks : goal.returns-in_err-trace-clause-looks
returns-in_err-trace-clause-looks g c =
    let old = g.F.Folder.state c.args.folder.now in
    let mid = g.F.Folder.state c.look_at_run.new.folder in
    let new = g.F.Folder.state c.look_text.new.folder in
    stopped_looks old new _ (judge c.args.run.file.now c.args.run.inputs_file.now c.args.trace_file.now c.args.run.until c.args.run.limit) c.from_residual-in_err-trace.result _ (search rules)
    (trace_stops c.args.run.file.now c.args.run.inputs_file.now c.args.trace_file.now c.args.run.until c.args.run.limit old mid c.in_ok-files.files c.in_ok-files.ensures.looked new c.look_text.result _ c.in_err-trace.was c.look_text.ensures.looked)

pub judge_trace-requires-clause-columns : goal.judge_trace-requires-clause-columns
judge_trace-requires-clause-columns g c =
    passed_columns (g.F.Folder.state c.args.folder.now) (g.F.Folder.state c.look_at_run.new.folder) c.args.run.file.now c.args.run.inputs_file.now c.in_ok-files.files c.in_ok-files.ensures.looked

pub returns-in_err-verdict-clause-looks : goal.returns-in_err-verdict-clause-looks
returns-in_err-verdict-clause-looks g c =
    let old = g.F.Folder.state c.args.folder.now in
    let mid = g.F.Folder.state c.look_at_run.new.folder in
    let new = g.F.Folder.state c.look_text.new.folder in
    stopped_looks old new _ (judge c.args.run.file.now c.args.run.inputs_file.now c.args.trace_file.now c.args.run.until c.args.run.limit) c.from_residual-in_err-verdict.result Memory (search rules)
    (lacks_judge c.args.run.file.now c.args.run.inputs_file.now c.args.trace_file.now c.args.run.until c.args.run.limit old mid c.in_ok-files.files c.in_ok-files.ensures.looked new c.in_ok-trace.trace c.in_ok-trace.ensures.looked c.look_text.ensures.kept)

pub returns-clause-looks : goal.returns-clause-looks
returns-clause-looks g c =
    let old = g.F.Folder.state c.args.folder.now in
    let mid = g.F.Folder.state c.look_at_run.new.folder in
    let new = g.F.Folder.state c.look_text.new.folder in
    judged_looks c.args.run.file.now c.args.run.inputs_file.now c.args.trace_file.now c.args.run.until c.args.run.limit old mid c.in_ok-files.files c.in_ok-files.ensures.looked new c.in_ok-trace.trace c.in_ok-trace.ensures.looked c.look_text.ensures.kept
    _ c.in_ok-verdict.verdict (let told = c.in_ok-verdict.ensures.verdict in (told.0, told.1, rw c.deref.ensures.value at told.2))
