-- From the sources of a net to its schedule, or to the rule that it breaks.
use Rattle.std.proofs.Common.{◌≡◌, ℕ, ◌+◌, ◌^◌, ◌<◌, ◌≤◌, inl, inr, ⊎_elim, List, [], ◌∷◌, ◌++◌, length, sym, ap, subst, ◌∙◌, arith, length-append}
use Rattle.std.specs.Prelude.{Result, Err, IfErr}
use Rattle.std.specs.List.{sum_by}
use Rattle.std.proofs.lemmas.Bool.{cases_lt}
use Rattle.std.proofs.lemmas.List.{get_or_append_left, get_or_push}
use Rattle.sci_net.specs.declared.Source.{Source}
use Rattle.sci_net.specs.Parts.{Parts}
use Rattle.sci_net.specs.Net.{IsNet}
use Rattle.sci_net.specs.Sources.{sources_of, source_of}
use Rattle.sci_net.proofs.TypedSpecs.{sources_few, all_typed}
use Rattle.sci_reaction.specs.Schedule.{Entry as PlainEntry, IsSchedule}
use Rattle.sci_reaction.proofs.Schedules.{some_schedule}
use Rattle.sci_sched.specs.declared.outline.Outline.{Outline}
use Rattle.sci_base.specs.declared.stop.Stop.{Stop}
use Rattle.sci_base.specs.declared.stop.Stop.TheVariants.{Refused, Memory}
use Rattle.sci_sched.specs.Size.{size_of}
use Rattle.sci_sched.specs.Answer.{AreLoopFree, IsPlan, BreaksLength, length_violation, IsPlanStop, IsLoopStop, IsFirstLoopStop}
use Rattle.sci_base.specs.Stops.{IsViolation}
use Rattle.sci_sched.specs.Outlines.{IsOutline, AreOutlines, outline_size}
use Rattle.sci_sched.proofs.Outlining.{first_told}
use Rattle.sci_sched.proofs.Sized.{schedule_sized, total_small}

-- ---- outlines, one source after the other

pub one_more : (n : Parts) (k : ℕ) (os : List Outline) (o : Outline) → AreOutlines n k os → IsOutline n (source_of n k) o → AreOutlines n (k + 1) (os ++ o ∷ [])
one_more n k os o are is =
    let more = length-append os (o ∷ []) in
    record {
      long = let e = are.long in omega (arith, more, e);
      each = λ i d h.
          ⊎_elim
          (λ l. let low : i < length os = let e = are.long in omega (arith, l, e) in subst (IsOutline n (source_of n i)) (sym (get_or_append_left os (o ∷ []) d i low)) (are.each i d l))
          (λ ge.
          let same : k ≡ i = omega (arith, h, ge) in let last : length os ≡ i = are.long ∙ same in
          subst (IsOutline n (source_of n i)) (sym (get_or_push os o d i last)) (subst (λ m. IsOutline n (source_of n m) o) same is))
          (cases_lt i k);
    }

some_at : {X : Type 0} (xs : List X) (i : ℕ) → i < length xs → X
some_at [] i h = absurd (omega (arith, h))
some_at (x ∷ xs) i h = x

pub outlines_free : (n : Parts) (k : ℕ) (os : List Outline) → AreOutlines n k os → AreLoopFree n k
outlines_free n k os are i h =
    let d = some_at os i (let e = are.long in omega (arith, h, e)) in
    let o = are.each i d h in o.blocks.free

-- the first source that has a loop stops them
pub first_stopped : {T U : Type 0} (n : Parts) (s : Source) (at : ℕ) (os : List Outline) (r : Result T Stop) (q : Result U Stop) (e : Stop) → r ≡ Err e → q ≡ Err e → at < length (sources_of n) → AreOutlines n at os →
    s ≡ source_of n at → IfErr r (λ x. IsLoopStop n s x) → IfErr q (λ x. IsFirstLoopStop n x)
first_stopped n s at os r q e failed given within are is stop =
    let told : IsLoopStop n s e = subst (λ v. IfErr v (λ x. IsLoopStop n s x)) failed stop in
    subst (λ v. IfErr v (λ x. IsFirstLoopStop n x)) (sym given) (first_told n s at e within (outlines_free n at os are) is told)

-- ---- the answer

-- a refusal of a loop, or want of memory, is an answer
pub first_is_stop : (n : Parts) (e : Stop) → IsFirstLoopStop n e → IsPlanStop n e
first_is_stop n (Refused r) h = inl h
first_is_stop n Memory h = tt

length_is_stop : (n : Parts) (count : ℕ) (e : Stop) → BreaksLength n (length_violation count) → IsViolation (length_violation count) e → IsPlanStop n e
length_is_stop n count (Refused r) breaks told = inr (subst (BreaksLength n) (sym told) breaks)
length_is_stop n count Memory breaks told = tt

module _ (n : Parts) (net : IsNet n) (os : List Outline) (are : AreOutlines n (length (sources_of n)) os) where
  pub sources_small : length (sources_of n) < 2 ^ 32
  sources_small = let few = sources_few 1 n.specs (all_typed n net) in let most = net.wired.few in omega (arith, few, most)

  pub total_fits : sum_by outline_size os < 2 ^ 63
  total_fits = total_small n net os are sources_small

  -- all rows together are too long
  pub too_long : (count : ℕ) (e : Stop) → count ≡ sum_by outline_size os → 262144 < count → IsViolation (length_violation count) e → IsPlanStop n e
  too_long count e is long told =
      let free = outlines_free n (length (sources_of n)) os are in
      let some = some_schedule n net.wired free in
      let size : count ≡ size_of some.0 = is ∙ sym (schedule_sized n net os some.0 are some.1) in
      length_is_stop n count e
      (record { free = free; rows = some.0; schedule = some.1; long = subst (λ m. 262144 < m) size long; told = ap length_violation size }) told

  -- they aren't
  pub planned : (count : ℕ) (rows : List (List PlainEntry)) → count ≡ sum_by outline_size os → count ≤ 262144 → IsSchedule n rows → IsPlan n rows
  planned count rows is short ok =
      let size = schedule_sized n net os rows are ok in
      record { free = outlines_free n (length (sources_of n)) os are; schedule = ok; short = omega (arith, size, is, short) }
