-- From looks at a diagram and its input file to what a command comes to.
use Rattle.std.proofs.Common.{◌≡◌, ◌≤◌, ◌^◌, ℕ, ℤ, List, [], ◌∷◌, inl, inr, refl, sym, subst, Result, Ok, Err}
use Rattle.sci_base.specs.declared.observation.Obs.{Obs}
use Rattle.sci_io.specs.Files.{FolderState}
use Rattle.sci_trace.specs.Columns.{Needed}
use Rattle.sci_net.specs.Parts.{Parts}
use Rattle.sci_net.specs.Net.{IsNet}
use Rattle.sci_needs.specs.Needs.{needs_of}
use Rattle.sci_needs.proofs.Sensors.{needs_exact}
use Rattle.sci_needs.proofs.Columns.{columns_in_range}
use Rattle.sci_reaction.specs.Memory.{AreColumns}
use Rattle.sci_run.specs.Laws.{AreLoopFree}
use Rattle.sci_verdict.specs.Verdict.{Plan, Accepts, Breaks, plan_of}
use Rattle.sci_verdict.specs.declared.checked.Checked.{Checked}
use Rattle.sci_verdict.proofs.Verdicts.{given_is_net}
use Rattle.sci_answers.specs.Answer.{Answer, no_memory}
use Rattle.sci_answers.specs.Course.{diagram_slot, inputs_slot, Course}
use Rattle.sci_answers.specs.Inputs.{AcceptsColumns, BreaksColumns, behind_inputs, reads_run}
use Rattle.sci_files.specs.Judged.{AcceptsChecked}
use Rattle.sci_files.specs.Look.{IsLooked, stop_answer}
use Rattle.sci_answers.specs.Reached.{ReachesOf}
use Rattle.sci_answers.specs.Coming.{ComesBy, ComesTo, ReachesTo}
use Rattle.sci_files.specs.RunFiles.{LooksAtDiagram, LooksAtInputs, PassesDiagram, PassRun, StopsAtInputs, LooksAtRun}
use Rattle.sci_files.specs.declared.look.LookStop.{LookStop}
use Rattle.sci_files.specs.declared.look.LookStop.TheVariants.{Memory}
use Rattle.sci_files.specs.declared.run_files.RunFiles.{RunFiles}
use Rattle.sci_files.proofs.Courses.{stops, passes_by, goes_on, lacks_now, reaches_by, of_files}
use Rattle.sci_files.proofs.Looking.{looked_for}

-- ---- from two looks

pub diagram_stops : (old new : FolderState) (d i : List ℕ) (r : Result Checked LookStop) (s : Result RunFiles LookStop) (e : LookStop) → r ≡ Err e → s ≡ Err e → LooksAtDiagram old new d r → LooksAtRun old new d i s
diagram_stops old new d i r s e is was h =
    subst (λ (x : Result RunFiles LookStop). LooksAtRun old new d i x) (sym was) (inl (subst (λ (x : Result Checked LookStop). LooksAtDiagram old new d x) is h))

pub diagram_passes : (old mid : FolderState) (d : List ℕ) (r : Result Checked LookStop) (c : Checked) → r ≡ Ok c → LooksAtDiagram old mid d r → mid.files ≡ old.files → PassesDiagram old mid d c
diagram_passes old mid d r c is h same = record { looked = subst (λ (x : Result Checked LookStop). LooksAtDiagram old mid d x) is h; kept = same }

-- memory lacks for what is needed of the input file
pub needs_stop : (old mid : FolderState) (d i : List ℕ) (c : Checked) (s : Result RunFiles LookStop) → s ≡ Err Memory → PassesDiagram old mid d c → LooksAtRun old mid d i s
needs_stop old mid d i c s was first =
    subst (λ (x : Result RunFiles LookStop). LooksAtRun old mid d i x) (sym was) (inr (record { mid = mid; checked = c; first = first; looked = (inl refl, refl) }))

pub inputs_stop : (old mid new : FolderState) (d i : List ℕ) (c : Checked) (needs : List Needed) (r : Result (List (List ℤ)) LookStop) (s : Result RunFiles LookStop) (e : LookStop) → r ≡ Err e → s ≡ Err e → PassesDiagram old mid d c
    → needs ≡ needs_of c.net → IsLooked (AcceptsColumns needs) (BreaksColumns needs) inputs_slot mid new i r → LooksAtRun old new d i s
inputs_stop old mid new d i c needs r s e is was first of_net h =
    let looked = subst (λ (x : Result (List (List ℤ)) LookStop). LooksAtInputs c.net mid new i x) is (looked_for needs (needs_of c.net) mid new i r of_net h) in
    subst (λ (x : Result RunFiles LookStop). LooksAtRun old new d i x) (sym was) (inr (record { mid = mid; checked = c; first = first; looked = looked }))

pub both_pass : (old mid new : FolderState) (d i : List ℕ) (f : RunFiles) (needs : List Needed) (r : Result (List (List ℤ)) LookStop) → r ≡ Ok f.inputs → PassesDiagram old mid d f.checked
    → needs ≡ needs_of f.checked.net → IsLooked (AcceptsColumns needs) (BreaksColumns needs) inputs_slot mid new i r → new.files ≡ mid.files → PassRun old new d i f
both_pass old mid new d i f needs r is first of_net h same =
    record { mid = mid; first = first; looked = subst (λ (x : Result (List (List ℤ)) LookStop). LooksAtInputs f.checked.net mid new i x) is (looked_for needs (needs_of f.checked.net) mid new i r of_net h); kept = same }

-- ---- to what comes behind both

module _ (d i : List ℕ) (next : Plan → List (List ℤ) → Course) (old new : FolderState) where
  -- either gives nothing
  stops_so : (e : LookStop) → LooksAtRun old new d i (Err e) → ReachesTo old new (reads_run d i next) (stop_answer e)
  stops_so e (inl h) =
      of_files old new Plan diagram_slot d Accepts Breaks (λ p. behind_inputs i (needs_of p.net) (next p)) (stop_answer e)
      (stops Plan diagram_slot d Accepts Breaks (λ p. behind_inputs i (needs_of p.net) (next p)) AcceptsChecked old new e h)
  stops_so e (inr h) =
      let n = h.checked.net in
      of_files old new Plan diagram_slot d Accepts Breaks (λ p. behind_inputs i (needs_of p.net) (next p)) (stop_answer e)
      (goes_on Plan diagram_slot d Accepts Breaks (λ p. behind_inputs i (needs_of p.net) (next p)) AcceptsChecked h.checked old h.mid new (stop_answer e) h.first.looked h.first.kept
      (λ b accepted. (plan_of h.checked, accepted, stops (List (List ℤ)) inputs_slot i (AcceptsColumns (needs_of n)) (BreaksColumns (needs_of n)) (next (plan_of h.checked)) (AcceptsColumns (needs_of n)) h.mid new e h.looked)))

  pub run_stops : (r : Result RunFiles LookStop) (e : LookStop) → r ≡ Err e → LooksAtRun old new d i r → ReachesTo old new (reads_run d i next) (stop_answer e)
  run_stops r e is h = stops_so e (subst (λ (x : Result RunFiles LookStop). LooksAtRun old new d i x) is h)

  -- both pass, with these bytes
  pub run_passes : (last : FolderState) (f : RunFiles) (more : List (List ℕ)) (a : Answer) → PassRun old new d i f → ComesBy new last (next (plan_of f.checked) f.inputs) more a
      → (x : List ℕ) × (y : List ℕ) × AcceptsChecked x f.checked × AcceptsColumns (needs_of f.checked.net) y f.inputs × ReachesOf old last (reads_run d i next) (x ∷ y ∷ more) a
  run_passes last f more a h end =
      let n = f.checked.net in
      let one = h.first.looked in
      let two = h.looked in
      let behind =
      passes_by (List (List ℤ)) inputs_slot i (AcceptsColumns (needs_of n)) (BreaksColumns (needs_of n)) (next (plan_of f.checked)) h.mid new last more a two.0.0 f.inputs two.0.1 two.0.2 two.1 h.kept end in
      let whole =
      passes_by Plan diagram_slot d Accepts Breaks (λ p. behind_inputs i (needs_of p.net) (next p)) old h.mid last (two.0.0 ∷ more) a one.0.0 (plan_of f.checked) one.0.1 one.0.2 one.1 h.first.kept behind in
      (one.0.0, two.0.0, one.0.2.1, two.0.2.1, reaches_by old last (reads_run d i next) (one.0.0 ∷ two.0.0 ∷ more) a tt whole)

  pub run_goes_on : (last : FolderState) (f : RunFiles) (a : Answer) → PassRun old new d i f → ComesTo new last (next (plan_of f.checked) f.inputs) a → ReachesTo old last (reads_run d i next) a
  run_goes_on last f a h end =
      let p = run_passes last f end.0 a h end.1 in
      (p.0 ∷ p.1 ∷ end.0, p.4)

  pub run_lacks : (f : RunFiles) → PassRun old new d i f → ReachesTo old new (reads_run d i next) no_memory
  run_lacks f h = run_goes_on new f no_memory h (lacks_now new (next (plan_of f.checked) f.inputs))

-- ---- the net of a diagram that passes, and its input file

pub passed_net : (old new : FolderState) (d i : List ℕ) (f : RunFiles) → PassRun old new d i f → IsNet f.checked.net
passed_net old new d i f h = given_is_net h.first.looked.0.0 f.checked.net h.first.looked.0.2.1.given

pub passed_free : (old new : FolderState) (d i : List ℕ) (f : RunFiles) → PassRun old new d i f → AreLoopFree f.checked.net
passed_free old new d i f h = h.first.looked.0.2.1.planned.free

pub passed_columns : (old new : FolderState) (d i : List ℕ) (f : RunFiles) → PassRun old new d i f → AreColumns f.checked.net f.inputs
passed_columns old new d i f h = columns_in_range f.checked.net h.looked.0.0 f.inputs (needs_exact f.checked.net) h.looked.0.2.1
