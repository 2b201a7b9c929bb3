-- What a bulk diagram comes to.
use Rattle.std.proofs.Common.{◌≡◌, ◌<◌, ◌≤◌, ◌^◌, min, ℕ, zero, suc, ℤ, List, [], length, Contains, refl, sym, ◌∙◌, subst, arith, Result, Ok, Err, false}
use Rattle.std.specs.Prelude.{IfOk, None}
use Rattle.sci_base.specs.Plain.{Violation, violation_of}
use Rattle.sci_base.specs.declared.stop.Stop.{Stop}
use Rattle.sci_base.specs.declared.stop.Stop.TheVariants as base
use Rattle.sci_base.specs.declared.observation.Obs.{Obs}
use Rattle.sci_io.specs.Files.{FolderState}
use Rattle.sci_io.specs.Taken.{Writes, direct}
use Rattle.sci_io.specs.declared.sink.Failed.{Failed}
use Rattle.sci_trace.specs.Lines.{text}
use Rattle.sci_diagram.specs.Objects.{Objects}
use Rattle.sci_flat.specs.Ready.{IsReady}
use Rattle.sci_net.specs.Parts.{Parts, numbered}
use Rattle.sci_net.specs.Net.{IsNet}
use Rattle.sci_net.specs.Sources.{sources_of}
use Rattle.sci_reaction.specs.Memory.{Columns, AreColumns}
use Rattle.sci_reaction.specs.Schedule.{Entry}
use Rattle.sci_sched.specs.Plain.{rows_of}
use Rattle.sci_sched.specs.Answer.{IsPlan}
use Rattle.sci_sched.specs.Size.{entry_count, guard_count}
use Rattle.sci_run.specs.Run.{IsRun}
use Rattle.sci_run.proofs.Traces.{some_trace}
use Rattle.sci_bank.specs.Bank.{Meaning}
use Rattle.sci_sim.specs.At.{Running, IsAtStart, IsTallied}
use Rattle.sci_store.specs.Tally.{lines_after}
use Rattle.sci_sim.specs.Steps.{IsFinished}
use Rattle.sci_sim.specs.declared.end.RunEnd.{RunEnd}
use Rattle.sci_sim.specs.declared.end.RunEnd.TheVariants.{End as Ended, Stop as Stopped}
use Rattle.sci_bulk.specs.Bulk.{bulk as bulk_tree}
use Rattle.sci_bulk.proofs.Ready.{bulk_is_ready}
use Rattle.sci_bulk.proofs.Accepting.{bulk_is_accepted}
use Rattle.sci_verdict.specs.Verdict.{plan_of, TreeAccepts, TreeBreaks, tree_not_flat, tree_not_typed, tree_no_net, tree_no_plan, IsTreeChecked}
use Rattle.sci_verdict.specs.declared.checked.Checked.{Checked}
use Rattle.sci_verdict.proofs.Verdicts.{tree_given_is_net}
use Rattle.sci_answers.specs.Counts.{CountsRun, CountsBulk}
use Rattle.sci_answers.specs.Bulk.{bulk_line, IsBulkLine, IsBulkAnswer}
use Rattle.sci_answers.specs.Prepared.{counted_line}
use Rattle.sci_prepare.specs.BulkCounted.{IsCounted}
use Rattle.sci_words.specs.Words.{bulk}
use Rattle.sci_prepare.specs.Prepare.{LooksAt}
use Rattle.sci_answers.specs.declared.prepared.BulkCounts.{BulkCounts}
use Rattle.sci_files.specs.declared.look.LookStop.TheVariants as stops
use Rattle.sci_answers.specs.declared.prepared.Prepared.TheVariants.{Bulk}
use Rattle.sci_prepare.proofs.Lengths.{run_short}
use Rattle.sci_answers.proofs.Counting.{run_counts}
use Rattle.sci_files.proofs.Courses.{of_made, lacks_made}
use Rattle.sci_prepare.proofs.Looked.{stopped_looks}

-- ---- the verdict

pub made_ready : (t : Objects) (seed size : ℕ) → t ≡ bulk_tree seed size → 1 ≤ size → size ≤ 2000 → IsReady t
made_ready t seed size is least most = subst IsReady (sym is) (bulk_is_ready seed size least most)

pub made_judged : (t : Objects) (seed size : ℕ) (r : Result Checked Stop) → t ≡ bulk_tree seed size → IsTreeChecked t r → IsTreeChecked (bulk_tree seed size) r
made_judged t seed size r is h = subst (λ (u : Objects). IsTreeChecked u r) is h

never_broken : (seed size : ℕ) → 1 ≤ size → size ≤ 2000 → (v : Violation) → TreeBreaks (bulk_tree seed size) v → ⊥
never_broken seed size least most v (tree_no_net (tree_not_flat h)) = (bulk_is_accepted seed size least most).flat v h
never_broken seed size least most v (tree_no_net (tree_not_typed n flat h)) = (bulk_is_accepted seed size least most).typed n v flat h
never_broken seed size least most v (tree_no_plan n given h) = (bulk_is_accepted seed size least most).planned given.declared n v given.flat given.inferred h

broken : (seed size : ℕ) → 1 ≤ size → size ≤ 2000 → (e : Stop) → IsTreeChecked (bulk_tree seed size) (Err e) → IsCounted seed size (Err e)
broken seed size least most (base.Refused r) h = never_broken seed size least most (violation_of r) h
broken seed size least most base.Memory h = tt

pub stopped_judging : (seed size : ℕ) → 1 ≤ size → size ≤ 2000 → (e : Stop) (r : Result Checked Stop) (s : Result BulkCounts Stop) → r ≡ Err e → s ≡ Err e → IsTreeChecked (bulk_tree seed size) r → IsCounted seed size s
stopped_judging seed size least most e r s is was h =
    subst (λ (q : Result BulkCounts Stop). IsCounted seed size q) (sym was) (broken seed size least most e (subst (λ (q : Result Checked Stop). IsTreeChecked (bulk_tree seed size) q) is h))

pub was_accepted : (seed size : ℕ) (c : Checked) (r : Result Checked Stop) → r ≡ Ok c → IsTreeChecked (bulk_tree seed size) r → TreeAccepts (bulk_tree seed size) (plan_of c)
was_accepted seed size c r is h = subst (λ (q : Result Checked Stop). IsTreeChecked (bulk_tree seed size) q) is h

-- ---- the run

no_value : (k : ℕ) (v : ℤ) → Contains (numbered [] [] k) v → ⊥
no_value zero v h = omega (arith, h.1)
no_value (suc k) v h = omega (arith, h.1)

empty_in_range : (n : Parts) → AreColumns n []
empty_in_range n b sensor v h = absurd (no_value _ v h)

-- an input file without columns is in range
pub no_columns : (n : Parts) (i : Columns) → i ≡ [] → AreColumns n i
no_columns n i none = subst (λ (cs : Columns). AreColumns n cs) (sym none) (empty_in_range n)

pub stands_there : (n : Parts) (r : Running) (banks : List Meaning) → IsAtStart n r banks → IsAtStart r.fixed.net r banks
stands_there n r banks start = subst (λ (m : Parts). IsAtStart m r banks) (sym start.net) start

tallied_at_end : (r : Running) (banks : List Meaning) (os : List Obs) (end : RunEnd) → IsFinished [] (2 ^ 62) 1000 r banks os end → IsTallied r.store os
tallied_at_end r banks os (Ended word) h = h.3
tallied_at_end r banks os (Stopped word) h = h.3

-- what a run counts that is written to a sink that never fails
abbrev pub HasRun : Parts → Running → Type 0
HasRun n r = (os : List Obs) × IsRun n [] (2 ^ 62) 1000 os × IsTallied r.store os

abbrev WritesRun : Parts → Columns → Result RunEnd Failed → Type 0
WritesRun n i q = (os : List Obs) → IsRun n i (2 ^ 62) 1000 os → Writes (direct None 0 false) (direct None 0 false) (text os) q

abbrev FinishesRun : Parts → Columns → Running → List Meaning → Result RunEnd Failed → Type 0
FinishesRun n i r banks q = IfOk q (λ e. (os : List Obs) × IsRun n i (2 ^ 62) 1000 os × IsFinished i (2 ^ 62) 1000 r banks os e)

ran_to : (n : Parts) (r : Running) (banks : List Meaning) (os : List Obs) (q : Result RunEnd Failed) → Writes (direct None 0 false) (direct None 0 false) (text os) q → FinishesRun n [] r banks q → HasRun n r
ran_to n r banks os (Ok e) w h = (h.0, h.1, tallied_at_end r banks h.0 e h.2)
ran_to n r banks os (Err e) w h = absurd (omega (arith, w.cause))

ran_sure : (n m : Parts) (rows : List (List Entry)) (r : Running) (banks : List Meaning) (q : Result RunEnd Failed) → m ≡ n → IsNet n → IsPlan n rows → WritesRun m [] q → FinishesRun m [] r banks q → HasRun n r
ran_sure n m rows r banks q same net plan written finished =
    let trace = some_trace n [] net plan.free (2 ^ 62) 1000 in
    let os = trace.0 in
    let run = subst (λ (k : Parts). IsRun k [] (2 ^ 62) 1000 os) (sym same) trace.1 in
    subst (λ (k : Parts). HasRun k r) same (ran_to m r banks os q (written os run) finished)

pub has_run : (n m : Parts) (i : Columns) (rows : List (List Entry)) (r : Running) (banks : List Meaning) (q : Result RunEnd Failed) → i ≡ [] → m ≡ n → IsNet n → IsPlan n rows
    → ((os : List Obs) → IsRun m i (2 ^ 62) 1000 os → Writes (direct None 0 false) (direct None 0 false) (text os) q)
    → IfOk q (λ e. (os : List Obs) × IsRun m i (2 ^ 62) 1000 os × IsFinished i (2 ^ 62) 1000 r banks os e) → HasRun n r
has_run n m i rows r banks q none same net plan written finished =
    ran_sure n m rows r banks q same net plan (subst (λ (cs : Columns). WritesRun m cs q) none written) (subst (λ (cs : Columns). FinishesRun m cs r banks q) none finished)

-- ---- the counts of the banks

counts_to : (n m : Parts) (r : Running) (banks : List Meaning) (os : List Obs) (q : Result RunEnd Failed) → r.fixed.net ≡ n → IsNet n → Writes (direct None 0 false) (direct None 0 false) (text os) q → FinishesRun m [] r banks q
    → CountsRun n [] (2 ^ 62) 1000 banks
counts_to n m r banks os (Ok e) same net w h = run_counts n [] (2 ^ 62) 1000 r banks h.0 e h.2 same net (omega arith)
counts_to n m r banks os (Err e) same net w h = absurd (omega (arith, w.cause))

counts_sure : (n m : Parts) (rows : List (List Entry)) (r : Running) (banks : List Meaning) (q : Result RunEnd Failed) → m ≡ n → IsNet n → IsPlan n rows → WritesRun m [] q → FinishesRun m [] r banks q → r.fixed.net ≡ m
    → CountsRun n [] (2 ^ 62) 1000 banks
counts_sure n m rows r banks q same net plan written finished stays =
    let trace = some_trace n [] net plan.free (2 ^ 62) 1000 in
    let os = trace.0 in
    let run = subst (λ (k : Parts). IsRun k [] (2 ^ 62) 1000 os) (sym same) trace.1 in
    counts_to n m r banks os q (stays ∙ same) net (written os run) finished

pub has_counts : (n m : Parts) (i : Columns) (rows : List (List Entry)) (r : Running) (banks : List Meaning) (q : Result RunEnd Failed) → i ≡ [] → m ≡ n → IsNet n → IsPlan n rows
    → ((os : List Obs) → IsRun m i (2 ^ 62) 1000 os → Writes (direct None 0 false) (direct None 0 false) (text os) q)
    → IfOk q (λ e. (os : List Obs) × IsRun m i (2 ^ 62) 1000 os × IsFinished i (2 ^ 62) 1000 r banks os e) → r.fixed.net ≡ m → CountsRun n [] (2 ^ 62) 1000 banks
has_counts n m i rows r banks q none same net plan written finished stays =
    counts_sure n m rows r banks q same net plan (subst (λ (cs : Columns). WritesRun m cs q) none written) (subst (λ (cs : Columns). FinishesRun m cs r banks q) none finished) stays

pub bulk_counts : (seed size : ℕ) (c : Checked) (banks : List Meaning) → TreeAccepts (bulk_tree seed size) (plan_of c) → CountsRun c.net [] (2 ^ 62) 1000 banks → CountsBulk seed size banks
bulk_counts seed size c banks accepted counts = (plan_of c, accepted, counts)

-- ---- the counts

lines_counted : (n : ℕ) → lines_after 0 n ≡ min n 18446744073709551615
lines_counted zero = refl
lines_counted (suc n) = let before = lines_counted n in omega (arith, before)

-- fewer than the count can tell
all_told : (n : Parts) (os : List Obs) → IsNet n → IsRun n [] (2 ^ 62) 1000 os → lines_after 0 (length os) ≡ length os
all_told n os net run =
    let short = run_short n [] (2 ^ 62) net.small 1000 os run in
    let counted = lines_counted (length os) in
    omega (arith, short, counted)

same_line : (b b2 s s2 e e2 g g2 l l2 v v2 : ℕ) → b ≡ b2 → s ≡ s2 → e ≡ e2 → g ≡ g2 → l ≡ l2 → v ≡ v2 → bulk_line b s e g l v ≡ bulk_line b2 s2 e2 g2 l2 v2
same_line b b2 s s2 e e2 g g2 l l2 v v2 hb hs he hg hl hv = cc (hb, hs, he, hg, hl, hv)

-- a plan has few entries and few guards
pub few_entries : (n : Parts) (rows : List (List Entry)) → IsPlan n rows → entry_count rows < 2 ^ 63
few_entries n rows plan = omega (arith, plan.short)

pub few_guards : (n : Parts) (rows : List (List Entry)) → IsPlan n rows → guard_count rows < 2 ^ 63
few_guards n rows plan = omega (arith, plan.short)

pub all_counted : (seed size : ℕ) (c : Checked) (r : Running) (counts : BulkCounts) → TreeAccepts (bulk_tree seed size) (plan_of c) → HasRun c.net r
    → counts.blocks ≡ length c.net.specs → counts.sources ≡ length (sources_of c.net) → counts.entries ≡ entry_count (rows_of c.schedule)
    → counts.guards ≡ guard_count (rows_of c.schedule) → counts.lines ≡ r.store.lines → counts.sum ≡ r.store.sum → IsBulkLine seed size (counted_line counts)
all_counted seed size c r counts accepted ran blocks sources entries guards lines sum =
    let net = tree_given_is_net (bulk_tree seed size) c.net accepted.given in
    record {
      plan = plan_of c;
      accepted = accepted;
      observed = ran.0;
      run = ran.1;
      told = same_line _ _ _ _ _ _ _ _ _ _ _ _ blocks sources entries guards (lines ∙ (ran.2.lines ∙ all_told c.net ran.0 net ran.1)) (sum ∙ ran.2.sum);
    }

-- ---- what the command comes to

pub counted_looks : (seed size : ℕ) (s : FolderState) (banks : List Meaning) (counts : BulkCounts) → IsBulkLine seed size (counted_line counts) → CountsBulk seed size banks → LooksAt s s banks (bulk seed size) (Ok (Bulk counts))
counted_looks seed size s banks counts h active =
    record {
      reaches = λ a is.
          let reached = of_made s (IsBulkAnswer seed size) a (counted_line counts, h, is) in
          (reached.0, reached.1, λ after done left. subst (λ (l : List Meaning). CountsBulk seed size l) (sym left) active);
      prepared = tt;
      lacks = λ may. absurd may;
    }

pub lacks_looks : (seed size : ℕ) (s : FolderState) (banks : List Meaning) → LooksAt s s banks (bulk seed size) (Err stops.Memory)
lacks_looks seed size s banks = stopped_looks s s banks (bulk seed size) (Err stops.Memory) stops.Memory refl (lacks_made s (IsBulkAnswer seed size))
