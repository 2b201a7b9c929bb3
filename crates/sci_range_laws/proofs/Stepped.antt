-- Programs of nets with a safe table end well where their host steps them.
use Rattle.std.proofs.Common.{◌≡◌, ℕ, ◌≤◌, ◌^◌, pos, List, ◌∷◌, [], ◌++◌, ◌⊎◌, inl, inr, arith}
use Rattle.std.proofs.lemmas.Bool.{cases_lt}
use Rattle.sci_base.specs.declared.limits.TheConstants.{TICKS}
use Rattle.sci_base.specs.declared.observation.Obs.{Obs}
use Rattle.sci_base.specs.declared.observation.Obs.TheVariants.{End}
use Rattle.sci_net.specs.Parts.{Parts}
use Rattle.sci_net.specs.Sources.{source_of}
use Rattle.sci_net.specs.declared.Source.TheVariants.{Start}
use Rattle.sci_reaction.specs.Memory.{Columns, AreColumns}
use Rattle.sci_run.specs.Finish.{Ending, ByEnd, ByStop, Finish, ended, stopped, stopped_at_start}
use Rattle.sci_run.specs.Observed.{stop_seen}
use Rattle.sci_run.specs.Run.{State, first_state}
use Rattle.sci_run.proofs.Finish.{run_is_over}
use Rattle.sci_run.proofs.Ranges.{fired_within}
use Rattle.sci_run.proofs.Traces.{some_trace}
use Rattle.c_ast.specs.Syntax.{Whole}
use Rattle.c_mean.specs.Meaning.{Ran}
use Rattle.sci_program.specs.Program.{program}
use Rattle.sci_program.specs.Stepping.{stepped, IsToldBy, Steps}
use Rattle.sci_program_laws.proofs.Run.{program_can_step}
use Rattle.sci_ranges.specs.Table.{Table}
use Rattle.sci_range_laws.specs.Laws.{IsSafe, WaitsOn, IsOverWell, StepsWell, SafeStepsEndWell}
use Rattle.sci_range_laws.proofs.Ending.{runs_end_well}

module _ (n : Parts) (p : Whole) (s : Steps n p) (i j : Columns) (t : Table) (until most k : ℕ) (safe : IsSafe n i j t) (columns : AreColumns n j)
    (late : until ≤ TICKS) (few : k ≤ 2 ^ 51) where
  abbrev ran : Ran
  ran = stepped p s.begin j (pos until) (pos most) k

  over_well : (st : State) (how : Ending) (os : List Obs) → Finish n j until k st how os → IsToldBy k st how → IsOverWell n j until k ran
  over_well st how os finish told =
      (st, how, os, finish, runs_end_well n i j t until k st how os safe finish, s.ends j until most k st how os columns late few finish told)

  -- where k events have fired it isn't told that the bound is reached, as the host may ask for more
  waits_or_over : {st : State} {how : Ending} {os : List Obs} → Finish n j until k st how os → WaitsOn n j until k ran ⊎ IsOverWell n j until k ran
  waits_or_over (ended st word seen reached is) = elim (cases_lt st.fired k) [
    | inl less ↦ inr (over_well st (ByEnd word) (seen ++ End word ∷ []) (ended st word seen reached is) less)
    | inr most_fired ↦
        let within = fired_within n j until k st seen reached in
        let all : st.fired ≡ k = omega (arith, most_fired, within) in
        inl (st, seen, reached, all, s.waits j until most k st seen columns late few reached all)
  ]
  waits_or_over (stopped st e block word seen reached fires h) =
      inr (over_well st (ByStop block word) (seen ++ stop_seen e.date (source_of n e.source) block word) (stopped st e block word seen reached fires h) tt)
  waits_or_over (stopped_at_start block word h) =
      inr (over_well (first_state n) (ByStop block word) (stop_seen 0 Start block word) (stopped_at_start block word h) tt)

steps_well : (n : Parts) (p : Whole) → Steps n p → StepsWell n p
steps_well n p s = record {
  steps = s;
  well = λ i j t until most k safe columns late few.
      let trace = some_trace n j safe.net safe.free until k in
      let over = (run_is_over n j until k trace.0).0 trace.1 in
      waits_or_over n p s i j t until most k safe columns late few over.2;
}

pub steps_end_well : SafeStepsEndWell
steps_end_well n rows net free schedule = steps_well n (program n rows) (program_can_step n rows net free schedule)
