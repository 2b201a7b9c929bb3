-- Sources that program their events: first events, and one source after another.
use Rattle.std.proofs.Common.{◌≡◌, ℕ, ◌+◌, ◌-◌, ◌<◌, ◌≤◌, zero, suc, get_or, true, false, ℤ, pos, List, [], ◌∷◌, ◌++◌, length, take, length-take-le, take_all, refl, sym, ◌∙◌, ap, arith}
use Rattle.std.proofs.lemmas.Int.{ints}
use Rattle.std.proofs.lemmas.List.{get_or_default, take_more}
use Rattle.std.specs.Prelude.{negsuc, ◌<ℤ◌}
use Rattle.sci_forms.specs.Form.{is_sync}
use Rattle.sci_forms.specs.Typed.{typed}
use Rattle.sci_net.specs.declared.Feed.{Feed}
use Rattle.sci_net.specs.declared.Source.{Source}
use Rattle.sci_net.specs.declared.Source.TheVariants.{Start, Port}
use Rattle.sci_net.specs.Parts.{Parts, IsActivationOutput, numbered, spec_of}
use Rattle.sci_net.specs.Sources.{sources_of, source_of}
use Rattle.sci_reaction.proofs.Sources.{sources_are}
use Rattle.sci_pending.specs.Pending.{Pending}
use Rattle.sci_run.specs.Programs.{firing_of, first_pending, with_delay, with_delays}
use Rattle.sci_run.proofs.Ordered.{typed_firing}
use Rattle.sci_judge.specs.Programming.{firing_at, with_delay_of, with_source, with_sources}

-- ---- the first events

pub port_at : (n : Parts) (k : ℕ) (q : Feed) → k < length (sources_of n) → Port q ≡ source_of n k
    → IsActivationOutput n q.block q.port × (is_sync (spec_of n q.block).kind ≡ false)
port_at n k q h e = (sources_are n (Port q)).0 (k, h, get_or_default (sources_of n) k (Port q) Start h ∙ sym e)

pub numbered_is : {A : Type 0} (d e : A) (xs : List A) (p : ℕ) → 1 ≤ p → p ≤ length xs → get_or xs (p - 1) d ≡ numbered e xs p
numbered_is d e xs zero least most = absurd (omega arith)
numbered_is d e xs (suc p) least most = ap (λ (k : ℕ). get_or xs k d) (let same : suc p - 1 ≡ p = omega arith in same) ∙ get_or_default xs p d e (omega arith)

pub firing_small : (n : Parts) (q : Feed) → typed (spec_of n q.block) ≡ true → firing_of n q <ℤ pos 2147483648
firing_small n q h = let small = typed_firing (spec_of n q.block) q.port h in omega (arith, ints, small)

pub with_more : (date : ℕ) (f : Feed → ℤ) (k : ℕ) (xs ys : List Source) (p : Pending)
    → with_delays date f k (xs ++ ys) p ≡ with_delays date f (k + length xs) ys (with_delays date f k xs p)
with_more date f k [] ys p = ap (λ (j : ℕ). with_delays date f j ys p) (let same : k ≡ k + 0 = omega arith in same)
with_more date f k (Start ∷ xs) ys p =
    with_more date f (k + 1) xs ys p
    ∙ ap (λ (j : ℕ). with_delays date f j ys (with_delays date f (k + 1) xs p)) (let same : k + 1 + length xs ≡ k + suc (length xs) = omega arith in same)
with_more date f k (Port q ∷ xs) ys p =
    let r = with_delay date k (f q) p in
    with_more date f (k + 1) xs ys r
    ∙ ap (λ (j : ℕ). with_delays date f j ys (with_delays date f (k + 1) xs r)) (let same : k + 1 + length xs ≡ k + suc (length xs) = omega arith in same)

first_one : (n : Parts) (date k : ℕ) (s : Source) (p : Pending) → with_delays date (firing_of n) k (s ∷ []) p ≡ with_delay date k (firing_at n s) p
first_one n date k Start p = refl
first_one n date k (Port q) p = refl

-- the sources up to k have programmed their first events
abbrev pub first_to : Parts → ℕ → Pending
first_to n k = with_delays 0 (firing_of n) 0 (take k (sources_of n)) (record { events = []; programmed = 0 })

pub first_more : (n : Parts) (k : ℕ) → k < length (sources_of n) → with_delay 0 k (firing_at n (source_of n k)) (first_to n k) ≡ first_to n (k + 1)
first_more n k h =
    let none : Pending = record { events = []; programmed = 0 } in
    let len : length (take k (sources_of n)) ≡ k = length-take-le k (sources_of n) (omega arith) in
    sym (ap (λ (ss : List Source). with_delays 0 (firing_of n) 0 ss none) (take_more (sources_of n) k Start h)
    ∙ (with_more 0 (firing_of n) 0 (take k (sources_of n)) (source_of n k ∷ []) none
    ∙ (ap (λ (j : ℕ). with_delays 0 (firing_of n) j (source_of n k ∷ []) (first_to n k))
    (let same : 0 + length (take k (sources_of n)) ≡ k = omega arith in same)
    ∙ first_one n 0 k (source_of n k) (first_to n k))))

pub first_all : (n : Parts) (k : ℕ) → length (sources_of n) ≤ k → first_to n k ≡ first_pending n
first_all n k h = ap (λ (ss : List Source). with_delays 0 (firing_of n) 0 ss (record { events = []; programmed = 0 })) (take_all k (sources_of n) h)

-- ---- one source after another

one_more : (date source : ℕ) (d : ℤ) (p : Pending) → (with_delay date source d p).programmed ≤ p.programmed + 1
one_more date source (pos d) p = omega arith
one_more date source (negsuc d) p = omega arith

one_more_of : (date k : ℕ) (f : Feed → ℤ) (s : Source) (p : Pending) → (with_delay_of date f k s p).programmed ≤ p.programmed + 1
one_more_of date k f Start p = omega arith
one_more_of date k f (Port q) p = one_more date k (f q) p

pub source_few : (n : Parts) (date k : ℕ) (f : Feed → ℤ) (p : Pending) → (with_source n date f k p).programmed ≤ p.programmed + 1
source_few n date k f p = one_more_of date k f (source_of n k) p

pub first_few : (n : Parts) (k : ℕ) → k < length (sources_of n) → (first_to n k).programmed ≤ k → (first_to n (k + 1)).programmed ≤ k + 1
first_few n k l few =
    let step = one_more 0 k (firing_at n (source_of n k)) (first_to n k) in
    let same = ap (λ (p : Pending). p.programmed) (first_more n k l) in
    omega (arith, few, step, same)

pub sources_append : (n : Parts) (date : ℕ) (f : Feed → ℤ) (xs ys : List ℕ) (p : Pending) → with_sources n date f (xs ++ ys) p ≡ with_sources n date f ys (with_sources n date f xs p)
sources_append n date f [] ys p = refl
sources_append n date f (x ∷ xs) ys p = sources_append n date f xs ys (with_source n date f x p)

pub sources_more : (n : Parts) (date : ℕ) (f : Feed → ℤ) (ks : List ℕ) (i : ℕ) (p : Pending) → i < length ks
    → with_source n date f (get_or ks i 0) (with_sources n date f (take i ks) p) ≡ with_sources n date f (take (i + 1) ks) p
sources_more n date f ks i p l =
    sym (ap (λ (l : List ℕ). with_sources n date f l p) (take_more ks i 0 l) ∙ sources_append n date f (take i ks) (get_or ks i 0 ∷ []) p)
