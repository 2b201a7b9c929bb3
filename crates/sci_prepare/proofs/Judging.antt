-- What `judge` comes to, where its diagram and its input file pass.
use Rattle.std.proofs.Common.{◌≡◌, ℕ, List, subst, Result, Ok, Err}
use Rattle.std.specs.Prelude.{Vec}
use Rattle.std.specs.declared.alloc.Global.{Global}
use Rattle.sci_base.specs.declared.observation.Obs.{Obs}
use Rattle.sci_io.specs.Files.{FolderState}
use Rattle.sci_trace.specs.Lines.{text}
use Rattle.sci_agree.specs.declared.verdict.Verdict.{Verdict}
use Rattle.sci_agree.specs.Verdict.{IsVerdict}
use Rattle.sci_run.specs.Run.{IsRun}
use Rattle.sci_bank.specs.Bank.{Meaning}
use Rattle.sci_answers.specs.Answer.{Answer, no_memory}
use Rattle.sci_answers.specs.Course.{third_slot, gives}
use Rattle.sci_answers.specs.Judge.{IsJudgementOf, IsText, BreaksNothing, reads_trace}
use Rattle.sci_files.specs.Judged.{IsBytes}
use Rattle.sci_files.specs.Look.{IsLooked, stop_answer}
use Rattle.sci_prepare.specs.Prepare.{LooksAt}
use Rattle.sci_answers.specs.Coming.{ComesTo, ReachesTo}
use Rattle.sci_files.specs.RunFiles.{PassRun}
use Rattle.sci_answers.specs.Due.{course_of}
use Rattle.sci_words.specs.Words.{judge}
use Rattle.sci_files.specs.declared.look.LookStop.{LookStop}
use Rattle.sci_answers.specs.declared.prepared.Prepared.TheVariants.{Judge}
use Rattle.sci_files.specs.declared.run_files.RunFiles.{RunFiles}
use Rattle.sci_files.proofs.Courses.{stops, goes_on, due_now, lacks_now}
use Rattle.sci_prepare.proofs.Looked.{without_run}
use Rattle.sci_files.proofs.RunFiles.{run_goes_on}

module _ (d i v : List ℕ) (until limit : ℕ) (old mid : FolderState) (f : RunFiles) (pass : PassRun old mid d i f) where
  -- the file that is judged gives nothing
  pub trace_stops : (new : FolderState) (r : Result (Vec ℕ Global) LookStop) (e : LookStop) → r ≡ Err e → IsLooked IsBytes BreaksNothing third_slot mid new v r → ReachesTo old new (course_of (judge d i v until limit)) (stop_answer e)
  trace_stops new r e is h =
      let looked = subst (λ (q : Result (Vec ℕ Global) LookStop). IsLooked IsBytes BreaksNothing third_slot mid new v q) is h in
      run_goes_on d i (reads_trace v until limit) old mid new f (stop_answer e) pass
      (stops (List ℕ) third_slot v IsText BreaksNothing (λ file. gives (IsJudgementOf f.checked.net f.inputs until limit file)) IsBytes mid new e looked)

  module _ (new : FolderState) (file : Vec ℕ Global) (looked : IsLooked IsBytes BreaksNothing third_slot mid new v (Ok file)) (same : new.files ≡ mid.files) where
    text_passes : (a : Answer) → ComesTo new new (gives (IsJudgementOf f.checked.net f.inputs until limit file.items)) a → ReachesTo old new (course_of (judge d i v until limit)) a
    text_passes a comes =
        run_goes_on d i (reads_trace v until limit) old mid new f a pass
        (goes_on (List ℕ) third_slot v IsText BreaksNothing (λ text. gives (IsJudgementOf f.checked.net f.inputs until limit text)) IsBytes file mid new new a looked same (λ b is. (file.items, is, comes)))

    pub lacks_judge : ReachesTo old new (course_of (judge d i v until limit)) no_memory
    lacks_judge = text_passes no_memory (lacks_now new (gives (IsJudgementOf f.checked.net f.inputs until limit file.items)))

    pub judged_looks : (banks : List Meaning) (verdict : Verdict) → ((os : List Obs) × IsRun f.checked.net f.inputs until limit os × IsVerdict (text os) file.items verdict) → LooksAt old new banks (judge d i v until limit) (Ok (Judge verdict))
    judged_looks banks verdict is = record {
      reaches = λ a told. without_run old new (judge d i v until limit) a _ (λ bytes after. tt)
          (text_passes a (due_now new (IsJudgementOf f.checked.net f.inputs until limit file.items) a (is.0, is.1, verdict, is.2, told)));
      prepared = tt;
      lacks = λ may. absurd may;
    }
