-- What is due of a run, wherever simulate is due to do it.
use Rattle.std.proofs.Common.{◌≡◌, ◌<◌, ◌≤◌, ◌⊎◌, ℕ, ℤ, List, [], ◌∷◌, length, inl, inr, refl, sym, ◌∙◌, ap, arith}
use Rattle.sci_base.specs.declared.observation.Obs.{Obs}
use Rattle.sci_io.specs.Files.{Files}
use Rattle.sci_needs.specs.Needs.{needs_of}
use Rattle.sci_needs.proofs.Sensors.{needs_exact}
use Rattle.sci_needs.proofs.Columns.{columns_in_range}
use Rattle.sci_net.specs.Net.{IsNet}
use Rattle.sci_reaction.specs.Memory.{AreColumns}
use Rattle.sci_run.specs.Observed.{reactions}
use Rattle.sci_run.specs.Run.{IsRun}
use Rattle.sci_run.proofs.Unique.{one_trace}
use Rattle.sci_save.specs.Saved.{Saved}
use Rattle.sci_save.specs.Text.{saved_text}
use Rattle.sci_resume.specs.Behind.{IsSavedBehind, HasEnded}
use Rattle.sci_resume.proofs.SomeReached.{some_reached}
use Rattle.sci_wave.proofs.SomeDump.{some_run_dump}
use Rattle.sci_verdict.specs.Verdict.{Plan, Accepts}
use Rattle.sci_verdict.proofs.Verdicts.{given_is_net}
use Rattle.sci_answers.specs.Inputs.{AcceptsColumns, behind_inputs}
use Rattle.sci_answers.specs.Answer.{Answer, IsDone, prints, refused}
use Rattle.sci_answers.specs.Simulate.{IsTraceOf, gives_trace}
use Rattle.sci_answers.specs.Course.{Holds, DueOn}
use Rattle.sci_words.specs.Words.{simulate, save, dump, spelled}
use Rattle.sci_answers.specs.Due.{course_of, Due}
use Rattle.sci_answers.specs.Save.{IsSaveOf, saves, ended, run_ended}
use Rattle.sci_answers.specs.Dump.{dumped}
use Rattle.sci_command_laws.specs.RunsDue.{IsSimulatedRun, IsDueBehind, SaveIsDue, DumpIsDue}
use Rattle.sci_answers.proofs.Ends.{status-is}
use Rattle.sci_command_laws.proofs.RunsAlike.{due_course, no_refusal}

-- the files hold these bytes, which pass, and this is the trace
record IsRead (files : Files) (d i : List ℕ) (until limit : ℕ) (diagram inputs : List ℕ) (a : Answer) : Type 0 where
  plan : Plan
  diagram_there : Holds files d diagram
  diagram_short : length diagram ≤ 16777216
  accepted : Accepts diagram plan
  columns : List (List ℤ)
  inputs_there : Holds files i inputs
  inputs_short : length inputs ≤ 16777216
  read : AcceptsColumns (needs_of plan.net) inputs columns
  trace : IsTraceOf plan.net columns until limit a

read_on : (files : Files) (d i : List ℕ) (until limit : ℕ) (diagram inputs : List ℕ) (names : List (List ℕ)) (a : Answer) (p : Plan) → Holds files d diagram → length diagram ≤ 16777216 → Accepts diagram p
    → IsDone a.status → DueOn files (behind_inputs i (needs_of p.net) (gives_trace until limit p)) (inputs ∷ []) names a → IsRead files d i until limit diagram inputs a
read_on files d i until limit diagram inputs names a p there short accepted done (holds, inl h) = absurd (no_refusal a h.0 done h.2)
read_on files d i until limit diagram inputs names a p there short accepted done (holds, inr h) = record {
  plan = p;
  diagram_there = there;
  diagram_short = short;
  accepted = accepted;
  columns = h.0;
  inputs_there = holds;
  inputs_short = h.1.0;
  read = h.1.1;
  trace = h.4.0;
}

read_by : (files : Files) (d i : List ℕ) (until limit : ℕ) (diagram inputs : List ℕ) (names : List (List ℕ)) (a : Answer) → IsDone a.status
    → DueOn files (course_of (simulate d i until limit)) (diagram ∷ inputs ∷ []) names a → IsRead files d i until limit diagram inputs a
read_by files d i until limit diagram inputs names a done (holds, inl h) = absurd (no_refusal a h.0 done h.2)
read_by files d i until limit diagram inputs names a done (holds, inr h) = read_on files d i until limit diagram inputs h.2 a h.0 holds h.1.0 h.1.1 done h.4

is_read : (files : Files) (d i : List ℕ) (until limit : ℕ) (diagram inputs : List ℕ) (a : Answer) → IsSimulatedRun files d i until limit diagram inputs a → IsRead files d i until limit diagram inputs a
is_read files d i until limit diagram inputs a h =
    read_by files d i until limit diagram inputs h.names a h.done (due_course files (simulate d i until limit) _ h.names a (h.until_within, h.limit_within) h.due)

module _ (files : Files) (d i : List ℕ) (until limit : ℕ) (diagram inputs : List ℕ) (a : Answer) (h : IsSimulatedRun files d i until limit diagram inputs a) (r : IsRead files d i until limit diagram inputs a) where
  its_net : IsNet r.plan.net
  its_net = given_is_net diagram r.plan.net r.accepted.given

  its_columns : AreColumns r.plan.net r.columns
  its_columns = columns_in_range r.plan.net inputs r.columns (needs_exact r.plan.net) r.read

  -- ---- what is saved

  -- an answer of this run is due
  saved_so : (k : ℕ) (b : Answer) → 1 ≤ k → k ≤ 1000001 → IsSaveOf r.plan.net r.columns until limit k b → (k < reactions r.trace.0 → b.status ≡ 0)
      → (reactions r.trace.0 ≤ k → b ≡ refused (run_ended k (reactions r.trace.0))) → IsDueBehind k files d i until limit diagram inputs a b
  saved_so k b some most is written over = record {
    due = inr (
      save d i until limit k,
      (refl, (h.until_within, h.limit_within, some, most)),
      (
        r.diagram_there,
        inr (r.plan, (r.diagram_short, r.accepted), i ∷ [], refl, (r.inputs_there, inr (r.columns, (r.inputs_short, r.read), [], refl, (is, refl)))),
      ),
    );
    observed = r.trace.0;
    told = r.trace.2;
    written = written;
    over = over;
  }

  same_run : (os : List Obs) → IsRun r.plan.net r.columns until limit os → reactions os ≡ reactions r.trace.0
  same_run os run = ap reactions (one_trace r.plan.net r.columns its_net r.accepted.planned.free until limit os r.trace.0 run r.trace.1)

  by_reached : (k : ℕ) → 1 ≤ k → k ≤ 1000001 → ((m : Saved) × IsSavedBehind r.plan.net r.columns until limit k m) ⊎ ((count : ℕ) × HasEnded r.plan.net r.columns until limit k count)
      → (b : Answer) × IsDueBehind k files d i until limit diagram inputs a b
  by_reached k some most (inl (m, g)) =
      let same = same_run g.observed g.run in
      (prints (saved_text r.plan.net m), saved_so k (prints (saved_text r.plan.net m)) some most (saves m g refl) (λ more. refl) (λ all. absurd (let more = g.more in omega (arith, same, all, more))))
  by_reached k some most (inr (count, g)) =
      let same = same_run g.observed g.run in (
        refused (run_ended k count),
        saved_so k (refused (run_ended k count)) some most (ended count g refl) (λ more. absurd (let few = g.few in omega (arith, same, few, more)))
            (λ all. ap (λ (c : ℕ). refused (run_ended k c)) (g.counted ∙ same)),
      )

  save_due : (k : ℕ) → 1 ≤ k → k ≤ 1000001 → (b : Answer) × IsDueBehind k files d i until limit diagram inputs a b
  save_due k some most =
      by_reached k some most (some_reached r.plan.net r.columns until limit k its_net r.accepted.planned.free its_columns h.until_within h.limit_within some)

  -- ---- the dump

  dump_due : (b : Answer) × Due files (spelled (dump d i until limit)) (diagram ∷ inputs ∷ []) (d ∷ i ∷ []) b × (b.status ≡ a.status)
  dump_due =
      let w = some_run_dump r.plan.net r.columns until limit its_net r.accepted.planned.free its_columns h.until_within in (
        dumped w.0 r.trace.0,
        inr (
          dump d i until limit,
          (refl, (h.until_within, h.limit_within)),
          (
            r.diagram_there,
            inr (
              r.plan,
              (r.diagram_short, r.accepted),
              i ∷ [],
              refl,
              (r.inputs_there, inr (r.columns, (r.inputs_short, r.read), [], refl, ((w.0, w.1, r.trace.0, r.trace.1, refl), refl))),
            ),
          ),
        ),
        sym (status-is r.trace.2),
      )

pub save_is_due : SaveIsDue
save_is_due files d i until limit k diagram inputs a h some most = save_due files d i until limit diagram inputs a h (is_read files d i until limit diagram inputs a h) k some most

pub dump_is_due : DumpIsDue
dump_is_due files d i until limit diagram inputs a h = dump_due files d i until limit diagram inputs a h (is_read files d i until limit diagram inputs a h)
