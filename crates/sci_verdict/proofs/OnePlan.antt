-- A net has at most one schedule, and what forbids one is alike.
use Rattle.std.proofs.Common.{◌≡◌, ◌<◌, ◌++◌, inl, inr, refl, sym, ◌∙◌, ap, arith, ℕ, ℤ, List, length, take}
use Rattle.std.proofs.lemmas.Bool.{cases_lt}
use Rattle.sci_base.specs.Plain.{Violation}
use Rattle.sci_net.specs.declared.Source.{Source}
use Rattle.sci_net.specs.declared.Source.TheVariants.{Start, Port}
use Rattle.sci_net.specs.Parts.{Parts}
use Rattle.sci_net.specs.Net.{IsNet}
use Rattle.sci_net.specs.Sources.{sources_of, source_of}
use Rattle.sci_reaction.specs.Schedule.{Entry}
use Rattle.sci_reaction.proofs.Schedules.{one_schedule}
use Rattle.sci_sched.specs.Answer.{AreLoopFree, IsPlan, IsPlanBreak, BreaksLoops, BreaksLength, TellsLoop, source_numbers, numbers_of, length_violation}
use Rattle.sci_sched.specs.Size.{size_of}
use Rattle.sci_verdict.specs.Laws.{AreLoops, AreAlike}

pub one_plan : (n : Parts) (p q : List (List Entry)) → IsNet n → IsPlan n p → IsPlan n q → p ≡ q
one_plan n p q net h k = one_schedule n net.wired h.free p q h.schedule k.schedule

-- a loop at a source that is free is none
no_loop_there : (n : Parts) (v : Violation) (k : ℕ) (h : BreaksLoops n v) → AreLoopFree n k → h.at < k → ⊥
no_loop_there n v k h free less = free h.at less h.tells.found h.tells.is_loop

first_two : (s : Source) (xs : List ℤ) → take 2 (source_numbers s ++ xs) ≡ source_numbers s
first_two Start xs = refl
first_two (Port q) xs = refl

told_source : (n : Parts) (s : Source) (v : Violation) → TellsLoop n s v → take 2 v.detail ≡ source_numbers s
told_source n s v h = ap (λ (w : Violation). take 2 w.detail) h.told ∙ first_two s (numbers_of h.found)

same_at : (n : Parts) (v w : Violation) (h : BreaksLoops n v) (k : BreaksLoops n w) → h.at ≡ k.at
same_at n v w h k = elim (cases_lt h.at k.at) [
  | inl less ↦ absurd (no_loop_there n v k.at h k.before less)
  | inr not ↦ elim (cases_lt k.at h.at) [
    | inl less ↦ absurd (no_loop_there n w h.at k h.before less)
    | inr nor ↦ omega (arith, not, nor)
  ]
]

loops_alike : (n : Parts) (v w : Violation) → BreaksLoops n v → BreaksLoops n w → AreLoops v w
loops_alike n v w h k =
    let at = same_at n v w h k in
    record {
      one = ap (λ (x : Violation). x.rule) h.tells.told;
      other = ap (λ (x : Violation). x.rule) k.tells.told;
      source = told_source n (source_of n h.at) v h.tells ∙ (ap (λ (i : ℕ). source_numbers (source_of n i)) at ∙ sym (told_source n (source_of n k.at) w k.tells));
    }

lengths_alike : (n : Parts) (v w : Violation) → IsNet n → BreaksLength n v → BreaksLength n w → v ≡ w
lengths_alike n v w net h k =
    let rows = one_schedule n net.wired k.free h.rows k.rows h.schedule k.schedule in
    h.told ∙ (ap (λ (r : List (List Entry)). length_violation (size_of r)) rows ∙ sym k.told)

pub one_plan_break : (n : Parts) (v w : Violation) → IsNet n → IsPlanBreak n v → IsPlanBreak n w → AreAlike v w
one_plan_break n v w net (inl h) (inl k) = inr (loops_alike n v w h k)
one_plan_break n v w net (inl h) (inr k) = absurd (no_loop_there n v (length (sources_of n)) h k.free h.within)
one_plan_break n v w net (inr h) (inl k) = absurd (no_loop_there n w (length (sources_of n)) k h.free k.within)
one_plan_break n v w net (inr h) (inr k) = inl (lengths_alike n v w net h k)

pub plan_or_not : (n : Parts) (rows : List (List Entry)) (v : Violation) → IsNet n → IsPlan n rows → IsPlanBreak n v → ⊥
plan_or_not n rows v net h (inl k) = no_loop_there n v (length (sources_of n)) k h.free k.within
plan_or_not n rows v net h (inr k) =
    let same = ap size_of (one_schedule n net.wired h.free rows k.rows h.schedule k.schedule) in
    omega (arith, same, h.short, k.long)
