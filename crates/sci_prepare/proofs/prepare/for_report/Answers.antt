use Rattle.std.proofs.Common.{rules, ◌≡◌, sym, ap, ◌∙◌}
use Rattle.sci_verdict.specs.Verdict.{Plan, Accepts, Breaks}
use Rattle.sci_answers.specs.Answer.{Answer, prints}
use Rattle.sci_answers.specs.Report.{report_text}
use Rattle.sci_answers.specs.Course.{diagram_slot, gives}
use Rattle.sci_files.specs.Judged.{AcceptsTold}
use Rattle.sci_answers.specs.Prepared.{told_text}
use Rattle.sci_answers.specs.declared.told.Told.{Told}
use Rattle.sci_files.proofs.Courses.{due_now, of_files}
use Rattle.sci_words.specs.Words.{report}
use Rattle.sci_answers.specs.declared.prepared.Prepared.TheVariants.{Report as Tell}
use Rattle.sci_prepare.proofs.Looked.{stopped_without, passed_without}
use Rattle.sci_files.proofs.Looking.{first_stops, first_passes}
use Rattle.sci_prepare.proofs.prepare.for_report.Goals as goal

pub returns-in_err-told-clause-looks : goal.returns-in_err-told-clause-looks
returns-in_err-told-clause-looks g c =
    let old = g.F.Folder.state c.args.folder.now in
    let new = g.F.Folder.state c.look.new.folder in
    stopped_without old new (report c.args.report c.args.file.now) c.from_residual.result _ (search rules)
    (first_stops Plan diagram_slot c.args.file.now Accepts Breaks (λ p. gives (λ a. a ≡ prints (report_text c.args.report p))) Told (AcceptsTold c.args.report) old new c.look.result _ c.in_err-told.was c.look.ensures.looked)

pub returns-clause-looks : goal.returns-clause-looks
returns-clause-looks g c =
    let old = g.F.Folder.state c.args.folder.now in
    let new = g.F.Folder.state c.look.new.folder in
    let due : Plan → Answer → Type 0 = λ p a. a ≡ prints (report_text c.args.report p) in
    let reaches = λ (a : Answer) (is : a ≡ prints (told_text c.in_ok-told.told)).
    of_files old new Plan diagram_slot c.args.file.now Accepts Breaks (λ p. gives (due p)) a
    (first_passes Plan diagram_slot c.args.file.now Accepts Breaks (λ p. gives (due p)) Told (AcceptsTold c.args.report) old new new c.look.result c.in_ok-told.told a c.in_ok-told.was c.look.ensures.looked c.look.ensures.kept
    (λ b t. (t.0, t.1, due_now new (due t.0) a (is ∙ sym (ap prints t.2.0))))) in
    passed_without old new (report c.args.report c.args.file.now) (Tell c.in_ok-told.told) (λ bytes banks. tt) reaches (λ banks. c.in_ok-told.ensures.looked.0.2.1.2.1) (λ may. may)
