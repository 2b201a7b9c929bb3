-- From looks at two files, and a table that was found, to what the words come to.
use Rattle.std.proofs.Common.{◌≡◌, [], ℕ, List, refl, sym, subst, inl, inr, Result, Err}
use Rattle.sci_io.specs.Files.{FolderState}
use Rattle.sci_reaction.specs.Schedule.{IsSchedule}
use Rattle.sci_sched.specs.Plain.{rows_of}
use Rattle.sci_answers.specs.Answer.{Answer, prints}
use Rattle.sci_answers.specs.Coming.{ReachesTo}
use Rattle.sci_files.specs.Look.{stop_answer}
use Rattle.sci_files.specs.RunFiles.{PassRun}
use Rattle.sci_files.specs.declared.look.LookStop.{LookStop}
use Rattle.sci_files.specs.declared.run_files.RunFiles.{RunFiles}
use Rattle.sci_files.proofs.Courses.{due_now}
use Rattle.sci_files.proofs.RunFiles.{run_goes_on, passed_net, passed_free}
use Rattle.sci_ranges.specs.Closed.{IsClosed}
use Rattle.sci_ranges_rows.specs.Marks.{Marks, AreMarks}
use Rattle.sci_ranges_pass.specs.Pass.{is_possible}
use Rattle.sci_ranges_pass.specs.Ranges.{Ranges, table_of}
use Rattle.sci_ranges_pass.proofs.Passing.{possible_by_test}
use Rattle.sci_ranges_find.specs.Live.{AreLive}
use Rattle.sci_ranges_find.proofs.Living.{possible_only}
use Rattle.sci_ranges_tell.specs.Told.{told}
use Rattle.sci_range_commands.specs.Due.{usage, IsRangesOf, gives_ranges, course_of, Spells, NoCommand}
use Rattle.sci_range_commands.specs.Prepared.{LooksAt, Reaches}
use Rattle.sci_range_commands.specs.declared.prepare.Prepared.{Prepared}

-- ---- the files

-- the schedule of a diagram that passes is that of its net
pub passed_rows : (old new : FolderState) (d i : List ℕ) (f : RunFiles) → PassRun old new d i f → IsSchedule f.checked.net (rows_of f.checked.schedule)
passed_rows old new d i f h = h.first.looked.0.2.1.planned.schedule

-- a file gives nothing
pub stopped_looks : (old new : FolderState) (d i : List ℕ) (s : Result Prepared LookStop) (e : LookStop) → s ≡ Err e → ReachesTo old new (course_of d i) (stop_answer e) → LooksAt old new d i s
stopped_looks old new d i s e is h =
    subst (λ (q : Result Prepared LookStop). LooksAt old new d i q) (sym is) (λ a same. subst (λ (b : Answer). ReachesTo old new (course_of d i) b) (sym same) h)

-- ---- the table

-- a table that no rule widens is due
pub ranged_due : (d i : List ℕ) (old new : FolderState) (f : RunFiles) (m : Marks) (r : Ranges) (a : Answer) → PassRun old new d i f → AreMarks f.checked.net m → AreLive f.checked.net m
    → IsClosed f.checked.net f.inputs (table_of f.checked.net m.dead r)
    → a ≡ prints (told f.checked.net m r) → ReachesTo old new (course_of d i) a
ranged_due d i old new f m r a pass marks live closed is =
    let n = f.checked.net in
    let due : IsRangesOf n f.inputs a = record {
      table = table_of n m.dead r;
      closed = closed;
      acts = is_possible m;
      idle = λ b. (
        (λ may. possible_by_test n m b (passed_net old new d i f pass) (passed_free old new d i f pass) marks may),
        (λ on. possible_only n m b (passed_net old new d i f pass) (passed_free old new d i f pass) marks.acts live on),
      );
      told = is;
    } in
    run_goes_on d i gives_ranges old new new f a pass (due_now new (IsRangesOf n f.inputs) a due)

-- ---- of a whole call

pub spelled_reaches : (words : List (List ℕ)) (d i : List ℕ) (old new : FolderState) (a : Answer) → Spells words d i → ReachesTo old new (course_of d i) a → Reaches words old new a
spelled_reaches words d i old new a spells h = (h.0, inr (d, i, spells, h.1))

pub usage_reaches : (words : List (List ℕ)) (s : FolderState) (a : Answer) → NoCommand words → a ≡ usage → Reaches words s s a
usage_reaches words s a never is = ([], inl (never, is, refl, refl))
