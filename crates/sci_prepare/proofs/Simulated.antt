-- What a simulation comes to, of which a trace or a dump is due, and that its net can run.
use Rattle.std.proofs.Common.{◌≡◌, ◌≤◌, ◌^◌, ℕ, List, [], ◌∷◌, sym, subst}
use Rattle.sci_base.specs.declared.observation.Obs.{Obs}
use Rattle.sci_io.specs.Files.{FolderState}
use Rattle.sci_net.specs.Parts.{Parts}
use Rattle.sci_net.specs.Net.{IsNet}
use Rattle.sci_reaction.specs.Memory.{AreColumns}
use Rattle.sci_run.specs.Run.{IsRun}
use Rattle.sci_run.proofs.Traces.{some_trace}
use Rattle.sci_bank.specs.Bank.{Meaning}
use Rattle.sci_sim.specs.At.{Running, IsAtStart}
use Rattle.sci_verdict.specs.Verdict.{plan_of}
use Rattle.sci_answers.specs.Answer.{Answer}
use Rattle.sci_answers.specs.Simulate.{IsTraceOf, gives_trace}
use Rattle.sci_words.specs.Words.{simulate, dump}
use Rattle.sci_answers.specs.Counts.{CountsRun}
use Rattle.sci_answers.specs.Dump.{IsDumpAnswer, gives_dump}
use Rattle.sci_answers.specs.Coming.{ReachesCounting}
use Rattle.sci_files.specs.RunFiles.{PassRun}
use Rattle.sci_answers.specs.Prepared.{IsReadyToRun}
use Rattle.sci_files.specs.declared.run_files.RunFiles.{RunFiles}
use Rattle.sci_answers.specs.declared.prepared.Simulation.{Simulation}
use Rattle.sci_files.proofs.Courses.{due_by}
use Rattle.sci_files.proofs.RunFiles.{run_passes, passed_net, passed_free, passed_columns}

-- its trace is due, and its run is counted in the banks that are left
pub traced : (d i : List ℕ) (until limit : ℕ) (old new : FolderState) (f : RunFiles) (net : Parts) (a : Answer) (Left : List Meaning → Type 0) → PassRun old new d i f → net ≡ f.checked.net → IsTraceOf net f.inputs until limit a
    → ((banks : List Meaning) → Left banks → CountsRun net f.inputs until limit banks) → ReachesCounting old new (simulate d i until limit) a Left
traced d i until limit old new f net a Left pass of h counts =
    let end = due_by new (λ (b : Answer). IsTraceOf f.checked.net f.inputs until limit b) a (subst (λ (n : Parts). IsTraceOf n f.inputs until limit a) of h) in
    let both = run_passes d i (gives_trace until limit) old new new f [] a pass end in (
      both.0 ∷ both.1 ∷ [],
      both.4,
      λ banks done left. (plan_of f.checked, both.2, f.inputs, both.3, subst (λ (n : Parts). CountsRun n f.inputs until limit banks) of (counts banks left)),
    )

-- or its dump is
pub dump_due : (d i : List ℕ) (until limit : ℕ) (old new : FolderState) (f : RunFiles) (net : Parts) (a : Answer) (Left : List Meaning → Type 0) → PassRun old new d i f → net ≡ f.checked.net → IsDumpAnswer net f.inputs until limit a
    → ((banks : List Meaning) → Left banks → CountsRun net f.inputs until limit banks) → ReachesCounting old new (dump d i until limit) a Left
dump_due d i until limit old new f net a Left pass of h counts =
    let end = due_by new (λ (b : Answer). IsDumpAnswer f.checked.net f.inputs until limit b) a (subst (λ (n : Parts). IsDumpAnswer n f.inputs until limit a) of h) in
    let both = run_passes d i (gives_dump until limit) old new new f [] a pass end in (
      both.0 ∷ both.1 ∷ [],
      both.4,
      λ banks done left. (plan_of f.checked, both.2, f.inputs, both.3, subst (λ (n : Parts). CountsRun n f.inputs until limit banks) of (counts banks left)),
    )

-- ---- its net can run

ready_for : (n : Parts) (banks : List Meaning) (s : Simulation) → IsAtStart n s.ready banks → IsNet n → AreColumns n s.inputs → s.until ≤ 2 ^ 62 → s.limit ≤ 1000000
    → (os : List Obs) × IsRun n s.inputs s.until s.limit os → IsReadyToRun banks s
ready_for n banks s start net columns until limit trace =
    let same = sym start.net in
    record {
      start = subst (λ (m : Parts). IsAtStart m s.ready banks) same start;
      net = subst IsNet same net;
      columns = subst (λ (m : Parts). AreColumns m s.inputs) same columns;
      until = until;
      limit = limit;
      trace = subst (λ (m : Parts). (os : List Obs) × IsRun m s.inputs s.until s.limit os) same trace;
    }

abbrev pub simulation : RunFiles → Running → (until limit : ℕ) → Simulation
simulation f ready until limit = record { ready = ready; inputs = f.inputs; until = until; limit = limit }

pub ready_to_run : (old new : FolderState) (d i : List ℕ) (f : RunFiles) (banks : List Meaning) (ready : Running) (until limit : ℕ) → PassRun old new d i f → IsAtStart f.checked.net ready banks → until ≤ 2 ^ 62 → limit ≤ 1000000
    → IsReadyToRun banks (simulation f ready until limit)
ready_to_run old new d i f banks ready until limit pass start early few =
    let n = f.checked.net in
    let net = passed_net old new d i f pass in
    ready_for n banks (simulation f ready until limit) start net (passed_columns old new d i f pass) early few (some_trace n f.inputs net (passed_free old new d i f pass) until limit)
