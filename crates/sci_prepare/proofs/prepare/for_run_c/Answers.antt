use Rattle.std.proofs.Common.{rules, ◌≡◌, List, [], ℤ, pos, ap, map}
use Rattle.sci_trace.specs.Columns.{needed_of}
use Rattle.c_ast.specs.Syntax.{Whole}
use Rattle.c_ast.specs.View.{whole_of}
use Rattle.c_ast.specs.declared.Program.{Program}
use Rattle.c_mean.specs.Meaning.{meaning}
use Rattle.sci_answers.specs.Answer.{Answer, no_memory}
use Rattle.sci_answers.specs.RunC.{c_ran, AcceptsC, BreaksC, behind_program}
use Rattle.sci_answers.specs.Course.{c_slot, inputs_slot, Course, gives}
use Rattle.sci_answers.specs.Inputs.{AcceptsColumns, BreaksColumns}
use Rattle.sci_files.specs.Judged.{AcceptsProgram}
use Rattle.sci_answers.specs.Coming.{ComesTo}
use Rattle.sci_files.proofs.Courses.{due_now, lacks_now, of_files}
use Rattle.sci_words.specs.Words.{run_c}
use Rattle.sci_prepare.proofs.Looked.{stopped_without, without_run}
use Rattle.sci_files.proofs.Looking.{first_stops, first_passes, next_stops, looked_for}
use Rattle.sci_prepare.proofs.prepare.for_run_c.Goals as goal

pub returns-in_err-program-clause-looks : goal.returns-in_err-program-clause-looks
returns-in_err-program-clause-looks g c =
    let old = g.F.Folder.state c.args.folder.now in
    let mid = g.F.Folder.state c.look.new.folder in
    stopped_without old mid (run_c c.args.run.file.now c.args.run.inputs_file.now c.args.run.until c.args.run.limit) c.from_residual.result _ (search rules)
    (first_stops Whole c_slot c.args.run.file.now AcceptsC BreaksC (behind_program c.args.run.inputs_file.now c.args.run.until c.args.run.limit) Program AcceptsProgram old mid c.look.result _ c.in_err-program.was c.look.ensures.looked)

pub returns-in_err-inputs-clause-looks : goal.returns-in_err-inputs-clause-looks
returns-in_err-inputs-clause-looks g c =
    let old = g.F.Folder.state c.args.folder.now in
    let mid = g.F.Folder.state c.look.new.folder in
    let new = g.F.Folder.state c.look-2.new.folder in
    let program = whole_of c.in_ok-program.program in
    let none : c.new.result.items ≡ [] = search rules in
    let next : Whole → Course = behind_program c.args.run.inputs_file.now c.args.run.until c.args.run.limit in
    stopped_without old new (run_c c.args.run.file.now c.args.run.inputs_file.now c.args.run.until c.args.run.limit) c.from_residual-in_err-inputs.result _ (search rules)
    (of_files old new Whole c_slot c.args.run.file.now AcceptsC BreaksC next _
    (first_passes Whole c_slot c.args.run.file.now AcceptsC BreaksC next Program AcceptsProgram old mid new c.look.result c.in_ok-program.program _ c.in_ok-program.was c.look.ensures.looked c.look.ensures.kept
    (λ b h. (program, h, next_stops (List (List ℤ)) inputs_slot c.args.run.inputs_file.now (AcceptsColumns []) (BreaksColumns []) (λ columns. gives (λ a. a ≡ c_ran (meaning program columns (pos c.args.run.until) (pos c.args.run.limit)))) (List (List ℤ)) (AcceptsColumns []) mid new c.look-2.result _ c.in_err-inputs.was (looked_for _ [] mid new _ _ (ap (map needed_of) none) c.look-2.ensures.looked)))))

pub returns-clause-looks : goal.returns-clause-looks
returns-clause-looks g c =
    let old = g.F.Folder.state c.args.folder.now in
    let mid = g.F.Folder.state c.look.new.folder in
    let new = g.F.Folder.state c.look-2.new.folder in
    let program = whole_of c.in_ok-program.program in
    let none : c.new.result.items ≡ [] = search rules in
    let columns = c.in_ok-inputs.inputs in
    let next : Whole → Course = behind_program c.args.run.inputs_file.now c.args.run.until c.args.run.limit in
    let due : List (List ℤ) → Answer → Type 0 = λ columns a. a ≡ c_ran (meaning program columns (pos c.args.run.until) (pos c.args.run.limit)) in
    let both = λ (a : Answer) (end : ComesTo new new (gives (due columns)) a).
    of_files old new Whole c_slot c.args.run.file.now AcceptsC BreaksC next a
    (first_passes Whole c_slot c.args.run.file.now AcceptsC BreaksC next Program AcceptsProgram old mid new c.look.result c.in_ok-program.program a c.in_ok-program.was c.look.ensures.looked c.look.ensures.kept
    (λ b h. (
      program,
      h,
      first_passes (List (List ℤ)) inputs_slot c.args.run.inputs_file.now (AcceptsColumns []) (BreaksColumns []) (λ cs. gives (due cs)) (List (List ℤ)) (AcceptsColumns []) mid new new c.look-2.result columns a c.in_ok-inputs.was (looked_for _ [] mid new _ _ (ap (map needed_of) none) c.look-2.ensures.looked) c.look-2.ensures.kept
          (λ b i. (columns, i, end)),
    ))) in
    record {
      each = λ banks. record {
        reaches = λ a is. without_run old new (run_c c.args.run.file.now c.args.run.inputs_file.now c.args.run.until c.args.run.limit) a _ (λ bytes after. tt) (both a (due_now new (due columns) a is));
        prepared = (c.requires.until, c.requires.limit);
        lacks = λ may. both no_memory (lacks_now new (gives (due columns)));
      };
    }
