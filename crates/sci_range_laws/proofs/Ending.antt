-- Runs of a net with a safe table end well.
use Rattle.std.proofs.Common.{◌≡◌, ℕ, List, ◌++◌, refl, inl, inr}
use Rattle.sci_base.specs.declared.observation.Obs.{Obs}
use Rattle.sci_base.specs.declared.observation.StopWord.{StopWord}
use Rattle.sci_base.specs.declared.observation.StopWord.TheVariants.{Overflow, Zero, Input, Conflict}
use Rattle.sci_net.specs.Parts.{Parts}
use Rattle.sci_reaction.specs.Memory.{Columns}
use Rattle.sci_run.specs.Finish.{Ending, ByEnd, ByStop, Finish}
use Rattle.sci_run.specs.Run.{State}
use Rattle.sci_run.proofs.Conflicts.{never}
use Rattle.sci_run.proofs.Finish.{run_is_over}
use Rattle.sci_run.proofs.Traces.{some_trace, run_goes_on}
use Rattle.sci_program_laws.proofs.Run.{program_means_run}
use Rattle.sci_ranges.specs.Table.{Table}
use Rattle.sci_ranges_text.proofs.Safe.{safe_never_stops}
use Rattle.sci_range_laws.specs.Laws.{IsSafe, SafeRunsEndWell, SafeRestsEndWell, SafeCodeEndsWell}

only_input : (n : Parts) (i j : Columns) (t : Table) (until limit : ℕ) (st : State) (b : ℕ) (word : StopWord) (os : List Obs) → IsSafe n i j t
    → Finish n j until limit st (ByStop b word) os → word ≡ Input
only_input n i j t until limit st b Overflow os s f = absurd (safe_never_stops n i j t until limit st b Overflow os s.net s.free s.columns s.closed s.safe s.keeps f (inl refl))
only_input n i j t until limit st b Zero os s f = absurd (safe_never_stops n i j t until limit st b Zero os s.net s.free s.columns s.closed s.safe s.keeps f (inr refl))
only_input n i j t until limit st b Input os s f = refl
only_input n i j t until limit st b Conflict os s f = absurd (never n j until limit f)

pub runs_end_well : SafeRunsEndWell
runs_end_well n i j t until limit st (ByEnd word) os s f = tt
runs_end_well n i j t until limit st (ByStop b word) os s f = only_input n i j t until limit st b word os s f

pub rests_end_well : SafeRestsEndWell
rests_end_well n i j t until limit st seen os s reached rest =
    let over = (run_is_over n j until limit (seen ++ os)).0 (run_goes_on n j until limit st seen os reached rest) in
    (over.0, over.1, over.2, runs_end_well n i j t until limit over.0 over.1 (seen ++ os) s over.2)

pub code_ends_well : SafeCodeEndsWell
code_ends_well n rows i j t until limit s schedule columns late most =
    let trace = some_trace n j s.net s.free until limit in
    let over = (run_is_over n j until limit trace.0).0 trace.1 in (
      over.0,
      over.1,
      trace.0,
      over.2,
      runs_end_well n i j t until limit over.0 over.1 trace.0 s over.2,
      program_means_run n rows j until limit over.0 over.1 trace.0 s.net s.free schedule columns late most over.2,
    )
