-- The first events of sources.
use Rattle.std.proofs.Common.{◌≡◌, true, ℕ, ◌+◌, ◌-◌, ◌<◌, ◌≤◌, zero, suc, get_or, ℤ, pos, List, [], ◌∷◌, ◌++◌, length, take, length-take-le, take_all, Option, Some, None, refl, sym, ◌∙◌, ap, arith}
use Rattle.std.proofs.lemmas.Int.{ints}
use Rattle.std.proofs.lemmas.List.{get_or_default, take_more}
use Rattle.std.specs.Prelude.{negsuc, ◌<ℤ◌, option_map}
use Rattle.sci_forms.specs.Typed.{typed}
use Rattle.sci_net.specs.declared.Feed.{Feed}
use Rattle.sci_net.specs.declared.Source.{Source}
use Rattle.sci_net.specs.declared.Source.TheVariants.{Start, Port}
use Rattle.sci_net.specs.Parts.{Parts, IsActivationOutput, numbered, spec_of}
use Rattle.sci_net.specs.Sources.{sources_of, source_of}
use Rattle.sci_reaction.proofs.Sources.{sources_are}
use Rattle.sci_pending.specs.Pending.{Pending, next}
use Rattle.sci_run.specs.Programs.{firing_of, first_pending, with_delay, with_delays}
use Rattle.sci_run.proofs.Ordered.{typed_firing}
use Rattle.sci_events.specs.declared.events.Event.{Event}
use Rattle.sci_events.specs.Events.{event_of}
use Rattle.sci_ranges_marks.specs.First.{firing_at}
use Rattle.sci_ranges_marks.specs.View.{IsFirstPlace}

pub port_at : (n : Parts) (k : ℕ) (q : Feed) → k < length (sources_of n) → Port q ≡ source_of n k → IsActivationOutput n q.block q.port
port_at n k q h e = ((sources_are n (Port q)).0 (k, h, get_or_default (sources_of n) k (Port q) Start h ∙ sym e)).0

pub numbered_is : {A : Type 0} (d e : A) (xs : List A) (p : ℕ) → 1 ≤ p → p ≤ length xs → get_or xs (p - 1) d ≡ numbered e xs p
numbered_is d e xs zero least most = absurd (omega arith)
numbered_is d e xs (suc p) least most = ap (λ (k : ℕ). get_or xs k d) (let same : suc p - 1 ≡ p = omega arith in same) ∙ get_or_default xs p d e (omega arith)

pub firing_small : (n : Parts) (q : Feed) → typed (spec_of n q.block) ≡ true → firing_of n q <ℤ pos 2147483648
firing_small n q h = let small = typed_firing (spec_of n q.block) q.port h in omega (arith, ints, small)

with_more : (f : Feed → ℤ) (k : ℕ) (xs ys : List Source) (p : Pending) → with_delays 0 f k (xs ++ ys) p ≡ with_delays 0 f (k + length xs) ys (with_delays 0 f k xs p)
with_more f k [] ys p = ap (λ (j : ℕ). with_delays 0 f j ys p) (let same : k ≡ k + 0 = omega arith in same)
with_more f k (Start ∷ xs) ys p =
    with_more f (k + 1) xs ys p ∙ ap (λ (j : ℕ). with_delays 0 f j ys (with_delays 0 f (k + 1) xs p)) (let same : k + 1 + length xs ≡ k + suc (length xs) = omega arith in same)
with_more f k (Port q ∷ xs) ys p =
    let r = with_delay 0 k (f q) p in
    with_more f (k + 1) xs ys r ∙ ap (λ (j : ℕ). with_delays 0 f j ys (with_delays 0 f (k + 1) xs r)) (let same : k + 1 + length xs ≡ k + suc (length xs) = omega arith in same)

first_one : (n : Parts) (k : ℕ) (s : Source) (p : Pending) → with_delays 0 (firing_of n) k (s ∷ []) p ≡ with_delay 0 k (firing_at n s) p
first_one n k Start p = refl
first_one n k (Port q) p = refl

-- the sources up to k have programmed their first events
abbrev pub first_to : Parts → ℕ → Pending
first_to n k = with_delays 0 (firing_of n) 0 (take k (sources_of n)) (record { events = []; programmed = 0 })

pub first_more : (n : Parts) (k : ℕ) → k < length (sources_of n) → with_delay 0 k (firing_at n (source_of n k)) (first_to n k) ≡ first_to n (k + 1)
first_more n k h =
    let none : Pending = record { events = []; programmed = 0 } in
    let len : length (take k (sources_of n)) ≡ k = length-take-le k (sources_of n) (omega arith) in
    sym (ap (λ (ss : List Source). with_delays 0 (firing_of n) 0 ss none) (take_more (sources_of n) k Start h)
    ∙ (with_more (firing_of n) 0 (take k (sources_of n)) (source_of n k ∷ []) none
    ∙ (ap (λ (j : ℕ). with_delays 0 (firing_of n) j (source_of n k ∷ []) (first_to n k)) (let same : 0 + length (take k (sources_of n)) ≡ k = omega arith in same)
    ∙ first_one n k (source_of n k) (first_to n k))))

pub first_all : (n : Parts) (k : ℕ) → length (sources_of n) ≤ k → first_to n k ≡ first_pending n
first_all n k h = ap (λ (ss : List Source). with_delays 0 (firing_of n) 0 ss (record { events = []; programmed = 0 })) (take_all k (sources_of n) h)

one_more : (source : ℕ) (d : ℤ) (p : Pending) → (with_delay 0 source d p).programmed ≤ p.programmed + 1
one_more source (pos d) p = omega arith
one_more source (negsuc d) p = omega arith

pub first_few : (n : Parts) (k : ℕ) → k < length (sources_of n) → (first_to n k).programmed ≤ k → (first_to n (k + 1)).programmed ≤ k + 1
first_few n k l few =
    let step = one_more k (firing_at n (source_of n k)) (first_to n k) in
    let same = ap (λ (p : Pending). p.programmed) (first_more n k l) in
    omega (arith, few, step, same)

-- ---- the next one

pub next_place : (n : Parts) (o : Option Event) (e : Event) → option_map event_of o ≡ next (first_pending n).events → o ≡ Some e → IsFirstPlace n (Some e.source)
next_place n o e is some k same =
    (event_of e, sym is ∙ ap (option_map event_of) some, source_same e.source k same)
  where
    source_same : (a b : ℕ) → Some a ≡ Some b → a ≡ b
    source_same a b h = cc

pub no_place : (n : Parts) → IsFirstPlace n None
no_place n k e = cc
