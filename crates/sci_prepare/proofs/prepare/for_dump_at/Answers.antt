use Rattle.std.proofs.Common.{rules, ◌≡◌}
use Rattle.sci_vcd.specs.Waveforms.{Waveforms}
use Rattle.sci_answers.specs.Answer.{Answer, prints}
use Rattle.sci_answers.specs.Course.{dump_slot, gives}
use Rattle.sci_answers.specs.DumpAt.{AcceptsDump, BreaksDump}
use Rattle.sci_print.specs.Values.{values_text}
use Rattle.sci_words.specs.Words.{dump_at}
use Rattle.sci_files.proofs.Courses.{due_now, of_files}
use Rattle.sci_answers.specs.declared.prepared.Prepared.TheVariants.{DumpAt}
use Rattle.sci_prepare.proofs.Looked.{stopped_without, passed_without}
use Rattle.sci_files.proofs.Looking.{first_stops, first_passes}
use Rattle.sci_prepare.proofs.prepare.for_dump_at.Goals as goal

pub returns-in_err-dump-clause-looks : goal.returns-in_err-dump-clause-looks
returns-in_err-dump-clause-looks g c =
    let old = g.F.Folder.state c.args.folder.now in
    let new = g.F.Folder.state c.look.new.folder in
    stopped_without old new (dump_at c.args.file.now c.args.tick) c.from_residual.result _ (search rules)
    (first_stops Waveforms dump_slot c.args.file.now AcceptsDump BreaksDump (λ w. gives (λ a. a ≡ prints (values_text w c.args.tick))) Waveforms AcceptsDump old new c.look.result _ c.in_err-dump.was c.look.ensures.looked)

pub returns-clause-looks : goal.returns-clause-looks
returns-clause-looks g c =
    let old = g.F.Folder.state c.args.folder.now in
    let new = g.F.Folder.state c.look.new.folder in
    let dump = c.in_ok-dump.dump in
    let due : Waveforms → Answer → Type 0 = λ w a. a ≡ prints (values_text w c.args.tick) in
    let reaches = λ (a : Answer) (is : due dump a).
    of_files old new Waveforms dump_slot c.args.file.now AcceptsDump BreaksDump (λ w. gives (due w)) a
    (first_passes Waveforms dump_slot c.args.file.now AcceptsDump BreaksDump (λ w. gives (due w)) Waveforms AcceptsDump old new new c.look.result dump a c.in_ok-dump.was c.look.ensures.looked c.look.ensures.kept
    (λ b t. (dump, t, due_now new (due dump) a is))) in
    passed_without old new (dump_at c.args.file.now c.args.tick) (DumpAt dump c.args.tick) (λ bytes banks. tt) reaches (λ banks. tt) (λ may. may)
