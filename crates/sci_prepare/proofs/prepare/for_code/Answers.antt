use Rattle.std.proofs.Common.{rules, ◌≡◌}
use Rattle.c_ast.specs.View.{whole_of}
use Rattle.c_ast.specs.Spelling.{spelling}
use Rattle.sci_verdict.specs.Verdict.{Plan, Accepts, Breaks}
use Rattle.sci_verdict.specs.declared.checked.Checked.{Checked}
use Rattle.sci_answers.specs.Answer.{Answer, prints}
use Rattle.sci_answers.specs.Course.{diagram_slot, gives}
use Rattle.sci_answers.specs.Code.{IsCodeOf}
use Rattle.sci_answers.specs.Defined.{IsDefinedCode}
use Rattle.sci_files.specs.Judged.{AcceptsChecked}
use Rattle.sci_files.specs.declared.look.LookStop.TheVariants.{Memory}
use Rattle.sci_words.specs.Words.{code}
use Rattle.sci_answers.specs.declared.prepared.Prepared.TheVariants.{Code}
use Rattle.sci_prepare.proofs.Looked.{stopped_without, passed_without}
use Rattle.sci_files.proofs.Looking.{first_stops}
use Rattle.sci_prepare.proofs.Coded.{is_code, lacks_code, gives_code, gives_defined, lacks_defined}
use Rattle.sci_prepare.proofs.Defined.{stopped_code}
use Rattle.sci_prepare.proofs.prepare.for_code.Goals as goal

pub returns-in_err-checked-clause-looks : goal.returns-in_err-checked-clause-looks
returns-in_err-checked-clause-looks g c =
    let old = g.F.Folder.state c.args.folder.now in
    let mid = g.F.Folder.state c.look.new.folder in
    stopped_without old mid (code c.args.file.now) c.from_residual.result _ (search rules)
    (first_stops Plan diagram_slot c.args.file.now Accepts Breaks (λ p. gives (IsCodeOf p)) Checked AcceptsChecked old mid c.look.result _ c.in_err-checked.was c.look.ensures.looked)

pub returns-in_err-program-clause-looks : goal.returns-in_err-program-clause-looks
returns-in_err-program-clause-looks g c =
    let old = g.F.Folder.state c.args.folder.now in
    let mid = g.F.Folder.state c.look.new.folder in
    stopped_without old mid (code c.args.file.now) c.from_residual-in_err-program.result Memory (search rules)
    (lacks_code c.args.file.now old mid c.in_ok-checked.checked c.look.result c.in_ok-checked.was c.look.ensures.looked c.look.ensures.kept)

pub returns-clause-looks : goal.returns-clause-looks
returns-clause-looks g c =
    let old = g.F.Folder.state c.args.folder.now in
    let mid = g.F.Folder.state c.look.new.folder in
    let made = is_code _ c.in_ok-checked.checked (whole_of c.in_ok-program.program) c.in_ok-checked.ensures.looked.0.2.1 c.in_ok-program.ensures in
    let reaches = λ (a : Answer) (is : a ≡ prints (spelling (whole_of c.in_ok-program.program))).
    gives_code c.args.file.now old mid c.in_ok-checked.checked c.look.result c.in_ok-checked.was c.look.ensures.looked c.look.ensures.kept (whole_of c.in_ok-program.program) a c.in_ok-program.ensures is in
    passed_without old mid (code c.args.file.now) (Code c.in_ok-program.program) (λ bytes banks. tt) reaches (λ banks. made.whole) (λ may. may)

pub returns-in_err-checked-clause-coded : goal.returns-in_err-checked-clause-coded
returns-in_err-checked-clause-coded g c =
    let old = g.F.Folder.state c.args.folder.now in
    let mid = g.F.Folder.state c.look.new.folder in
    stopped_code old mid c.args.file.now c.from_residual.result _ (search rules)
    (first_stops Plan diagram_slot c.args.file.now Accepts Breaks (λ p. gives (IsDefinedCode p)) Checked AcceptsChecked old mid c.look.result _
    c.in_err-checked.was c.look.ensures.looked)

pub returns-in_err-program-clause-coded : goal.returns-in_err-program-clause-coded
returns-in_err-program-clause-coded g c =
    let old = g.F.Folder.state c.args.folder.now in
    let mid = g.F.Folder.state c.look.new.folder in
    stopped_code old mid c.args.file.now c.from_residual-in_err-program.result Memory (search rules)
    (lacks_defined c.args.file.now old mid c.in_ok-checked.checked c.look.result c.in_ok-checked.was c.look.ensures.looked c.look.ensures.kept)

pub returns-clause-coded : goal.returns-clause-coded
returns-clause-coded g c =
    let old = g.F.Folder.state c.args.folder.now in
    let mid = g.F.Folder.state c.look.new.folder in
    record {
      reaches = λ a is. gives_defined c.args.file.now old mid c.in_ok-checked.checked c.look.result c.in_ok-checked.was c.look.ensures.looked
          c.look.ensures.kept (whole_of c.in_ok-program.program) a c.in_ok-program.ensures is;
      lacks = λ may. absurd may;
    }
