-- What `save` and `resume` come to, where their files pass.
use Rattle.std.proofs.Common.{◌≡◌, ◌≤◌, ◌^◌, ℕ, List, refl, sym, ◌∙◌, ap, subst, Result, Ok, Err}
use Rattle.sci_base.specs.Plain.{violation_of}
use Rattle.sci_base.specs.declared.observation.Obs.{Obs}
use Rattle.sci_io.specs.Files.{FolderState}
use Rattle.sci_net.specs.Parts.{Parts}
use Rattle.sci_reaction.specs.Memory.{AreColumns}
use Rattle.sci_run.specs.Run.{IsRest}
use Rattle.sci_run.proofs.Traces.{some_rest}
use Rattle.sci_bank.specs.Bank.{Meaning}
use Rattle.sci_save.specs.declared.image.Image.{Image}
use Rattle.sci_save.specs.Saved.{Saved, saved_of}
use Rattle.sci_save.specs.Text.{saved_text}
use Rattle.sci_save.specs.Valid.{IsShaped}
use Rattle.sci_save.specs.Resumed.{state_of}
use Rattle.sci_resume.specs.Behind.{IsSavedBehind, HasEnded}
use Rattle.sci_sim.specs.At.{Running}
use Rattle.sci_sim.specs.Restored.{IsRestored}
use Rattle.sci_answers.specs.Answer.{Answer, no_memory, prints, refused}
use Rattle.sci_answers.specs.Course.{third_slot, gives}
use Rattle.sci_answers.specs.Due.{course_of}
use Rattle.sci_files.specs.Look.{IsLooked, IsRefusal, stop_answer}
use Rattle.sci_prepare.specs.Prepare.{LooksAt}
use Rattle.sci_answers.specs.Coming.{ComesTo, ReachesTo}
use Rattle.sci_files.specs.RunFiles.{PassRun}
use Rattle.sci_answers.specs.Save.{run_ended, IsSaveOf, saves, ended, gives_save}
use Rattle.sci_files.specs.Judged.{AcceptsImage}
use Rattle.sci_answers.specs.Resume.{AcceptsSaved, BreaksSaved, IsRestOf, reads_saved}
use Rattle.sci_words.specs.Words.{save, resume}
use Rattle.sci_files.specs.declared.look.LookStop.{LookStop}
use Rattle.sci_files.specs.declared.look.LookStop.TheVariants.{Refused, Fault, Memory}
use Rattle.sci_answers.specs.declared.prepared.Prepared.TheVariants.{Save, Resume}
use Rattle.sci_files.specs.declared.run_files.RunFiles.{RunFiles}
use Rattle.sci_files.proofs.Courses.{stops as file_stops, goes_on, due_now, lacks_now}
use Rattle.sci_prepare.proofs.Looked.{stopped_looks, without_run}
use Rattle.sci_files.proofs.RunFiles.{run_goes_on, run_lacks, passed_net, passed_free, passed_columns}

-- ---- what `save` comes to, where its files pass

module _ (d i : List ℕ) (until limit k : ℕ) (old new : FolderState) (banks : List Meaning) (f : RunFiles) (pass : PassRun old new d i f) where
  save_is : (a : Answer) → IsSaveOf f.checked.net f.inputs until limit k a → ReachesTo old new (course_of (save d i until limit k)) a
  save_is a h = run_goes_on d i (gives_save until limit k) old new new f a pass (due_now new (IsSaveOf f.checked.net f.inputs until limit k) a h)

  pub saved_looks : (r : Running) (m : Image) → r.fixed.net ≡ f.checked.net → IsSavedBehind f.checked.net f.inputs until limit k (saved_of m) → LooksAt old new banks (save d i until limit k) (Ok (Save (record { ready = r; image = m })))
  saved_looks r m same h = record {
    reaches = λ a told. without_run old new (save d i until limit k) a _ (λ bytes after. tt)
        (save_is a (saves (saved_of m) h (told ∙ ap (λ (n : Parts). prints (saved_text n (saved_of m))) same)));
    prepared = subst (λ (n : Parts). IsShaped n (saved_of m)) (sym same) h.saved.shaped;
    lacks = λ may. absurd may;
  }

  refused_so : (count : ℕ) (e : LookStop) → HasEnded f.checked.net f.inputs until limit k count → IsRefusal (run_ended k count) e → ReachesTo old new (course_of (save d i until limit k)) (stop_answer e)
  refused_so count (Refused r) h is = save_is (refused (violation_of r)) (ended count h (ap refused is))
  refused_so count Fault h is = absurd is
  refused_so count Memory h is = run_lacks d i (gives_save until limit k) old new f pass

  pub ended_looks : (count : ℕ) (e : LookStop) → HasEnded f.checked.net f.inputs until limit k count → IsRefusal (run_ended k count) e → LooksAt old new banks (save d i until limit k) (Err e)
  ended_looks count e h is = stopped_looks old new banks (save d i until limit k) (Err e) e refl (refused_so count e h is)

-- ---- what `resume` comes to, where its diagram and its input file pass

module _ (d i s : List ℕ) (until limit : ℕ) (old mid : FolderState) (f : RunFiles) (pass : PassRun old mid d i f) where
  -- the file of what was saved gives nothing
  pub saved_stops : (new : FolderState) (r : Result Image LookStop) (e : LookStop) → r ≡ Err e → IsLooked (AcceptsImage f.checked.net f.inputs) (BreaksSaved f.checked.net f.inputs) third_slot mid new s r
      → ReachesTo old new (course_of (resume d i s until limit)) (stop_answer e)
  saved_stops new r e is h =
      let n = f.checked.net in
      let looked = subst (λ (q : Result Image LookStop). IsLooked (AcceptsImage n f.inputs) (BreaksSaved n f.inputs) third_slot mid new s q) is h in
      run_goes_on d i (reads_saved s until limit) old mid new f (stop_answer e) pass
      (file_stops Saved third_slot s (AcceptsSaved n f.inputs) (BreaksSaved n f.inputs) (λ m. gives (IsRestOf n f.inputs until limit m)) (AcceptsImage n f.inputs) mid new e looked)

  module _ (new : FolderState) (m : Image) (looked : IsLooked (AcceptsImage f.checked.net f.inputs) (BreaksSaved f.checked.net f.inputs) third_slot mid new s (Ok m)) (same : new.files ≡ mid.files) where
    saved_passes : (a : Answer) → ComesTo new new (gives (IsRestOf f.checked.net f.inputs until limit (saved_of m))) a → ReachesTo old new (course_of (resume d i s until limit)) a
    saved_passes a comes =
        let n = f.checked.net in
        run_goes_on d i (reads_saved s until limit) old mid new f a pass
        (goes_on Saved third_slot s (AcceptsSaved n f.inputs) (BreaksSaved n f.inputs) (λ o. gives (IsRestOf n f.inputs until limit o)) (AcceptsImage n f.inputs) m mid new new a looked same (λ b is. (saved_of m, is, comes)))

    pub lacks_resume : ReachesTo old new (course_of (resume d i s until limit)) no_memory
    lacks_resume = saved_passes no_memory (lacks_now new (gives (IsRestOf f.checked.net f.inputs until limit (saved_of m))))

    pub resumed_looks : (banks : List Meaning) (r : Running) → IsRestored f.checked.net r banks (saved_of m) → until ≤ 2 ^ 62 → limit ≤ 1000000
        → LooksAt old new banks (resume d i s until limit) (Ok (Resume (record { image = m; run = record { ready = r; inputs = f.inputs; until = until; limit = limit } })))
    resumed_looks banks r restored late most =
        let n = f.checked.net in
        let rest = some_rest n f.inputs (passed_net old mid d i f pass) (passed_free old mid d i f pass) until limit (state_of (saved_of m)) in
        record {
          reaches = λ a told. without_run old new (resume d i s until limit) a _ (λ bytes after. tt)
              (saved_passes a (due_now new (IsRestOf n f.inputs until limit (saved_of m)) a (subst (λ (p : Parts). IsRestOf p f.inputs until limit (saved_of m) a) restored.net told)));
          prepared = record {
            at = restored.at;
            started = restored.started;
            columns = subst (λ (p : Parts). AreColumns p f.inputs) (sym restored.net) (passed_columns old mid d i f pass);
            until = late;
            limit = most;
            rest = subst (λ (p : Parts). (os : List Obs) × IsRest p f.inputs until limit (state_of (saved_of m)) os) (sym restored.net) rest;
          };
          lacks = λ may. absurd may;
        }
