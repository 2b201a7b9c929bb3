use Rattle.std.proofs.Common.{rules, List, sym, subst}
use Rattle.sci_bank.specs.Bank.{Meaning}
use Rattle.sci_net.specs.Parts.{Parts}
use Rattle.sci_run.specs.Laws.{AreLoopFree}
use Rattle.sci_vcd.specs.Writing.{IsOutset}
use Rattle.sci_answers.specs.Counts.{CountsRun}
use Rattle.sci_answers.specs.Dump.{gives_dump}
use Rattle.sci_words.specs.Words.{dump}
use Rattle.sci_files.specs.declared.look.LookStop.TheVariants.{Memory}
use Rattle.sci_prepare.proofs.Looked.{stopped_looks}
use Rattle.sci_files.proofs.RunFiles.{run_stops, run_lacks, passed_free}
use Rattle.sci_prepare.proofs.Simulated.{dump_due, ready_to_run}
use Rattle.sci_prepare.proofs.prepare.for_dump.Goals as goal

pub returns-in_err-files-clause-looks : goal.returns-in_err-files-clause-looks
returns-in_err-files-clause-looks g c =
    let old = g.F.Folder.state c.args.folder.now in
    let new = g.F.Folder.state c.look_at_run.new.folder in
    stopped_looks old new _ (dump c.args.run.file.now c.args.run.inputs_file.now c.args.run.until c.args.run.limit) c.from_residual.result _ (search rules)
    (run_stops c.args.run.file.now c.args.run.inputs_file.now (gives_dump c.args.run.until c.args.run.limit) old new c.look_at_run.result _ c.in_err-files.was c.look_at_run.ensures.looked)

pub returns-in_err-dump-clause-looks : goal.returns-in_err-dump-clause-looks
returns-in_err-dump-clause-looks g c =
    let old = g.F.Folder.state c.args.folder.now in
    let new = g.F.Folder.state c.look_at_run.new.folder in
    stopped_looks old new _ (dump c.args.run.file.now c.args.run.inputs_file.now c.args.run.until c.args.run.limit) c.from_residual-in_err-dump.result Memory (search rules)
    (run_lacks c.args.run.file.now c.args.run.inputs_file.now (gives_dump c.args.run.until c.args.run.limit) old new _ c.in_ok-files.ensures.looked)

pub returns-in_err-ready-clause-looks : goal.returns-in_err-ready-clause-looks
returns-in_err-ready-clause-looks g c =
    let old = g.F.Folder.state c.args.folder.now in
    let new = g.F.Folder.state c.look_at_run.new.folder in
    stopped_looks old new _ (dump c.args.run.file.now c.args.run.inputs_file.now c.args.run.until c.args.run.limit) c.from_residual-in_err-ready.result Memory (search rules)
    (run_lacks c.args.run.file.now c.args.run.inputs_file.now (gives_dump c.args.run.until c.args.run.limit) old new _ c.in_ok-files.ensures.looked)

pub returns-clause-looks : goal.returns-clause-looks
returns-clause-looks g c =
    let old = g.F.Folder.state c.args.folder.now in
    let new = g.F.Folder.state c.look_at_run.new.folder in
    let ready = c.in_ok-ready.ready in
    let files = c.in_ok-files.files in
    let counted : List Meaning → Type 0 = λ after. CountsRun ready.fixed.net files.inputs c.args.run.until c.args.run.limit after in
    record {
      reaches = λ a is.
          dump_due c.args.run.file.now c.args.run.inputs_file.now c.args.run.until c.args.run.limit old new files ready.fixed.net a counted c.in_ok-files.ensures.looked c.in_ok-ready.ensures.start.net is (λ after left. left);
      prepared = record {
        run = ready_to_run old new c.args.run.file.now c.args.run.inputs_file.now files _ ready c.args.run.until c.args.run.limit c.in_ok-files.ensures.looked c.in_ok-ready.ensures.start c.requires.until c.requires.limit;
        free = subst AreLoopFree (sym c.in_ok-ready.ensures.start.net) (passed_free old new c.args.run.file.now c.args.run.inputs_file.now files c.in_ok-files.ensures.looked);
        outset = subst (λ (n : Parts). IsOutset n c.in_ok-dump.dump) (sym c.in_ok-ready.ensures.start.net) c.in_ok-dump.ensures.outset;
      };
      lacks = λ may. absurd may;
    }
