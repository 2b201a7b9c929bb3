-- Ports and blocks one behind the other, and runs of lists.
use Rattle.std.proofs.Common.{◌≡◌, ℕ, zero, suc, ◌+◌, ◌-◌, ◌<◌, ◌≤◌, List, [], ◌∷◌, ◌++◌, length, take, drop, refl, ap, sym, ◌∙◌, arith, zero-add}
use Rattle.std.proofs.lemmas.List.{drop-take, take-take, drop-drop, take_at, drop_at, take-append-le, drop-append-le, length-take-le, length-append, length-drop}
use Rattle.std.specs.Prelude.{slice_index_or}
use Rattle.sci_forms.specs.declared.ports.Port.{Port}
use Rattle.sci_forms.specs.declared.spec.Spec.{Spec}
use Rattle.sci_forms.specs.Ports.{port_at, elements, total, before}
use Rattle.sci_net.specs.Parts.{no_spec}
use Rattle.sci_net.specs.Net.{all_elements}
use Rattle.sci_places.specs.Flat.{start_in}

-- ---- ports

pub before_more : (ps : List Port) (k : ℕ) → k < length ps → before ps (suc k) ≡ before ps k + elements (port_at ps k)
before_more [] k h = absurd (omega arith)
before_more (p ∷ ps) zero h = omega arith
before_more (p ∷ ps) (suc k) h = ap (λ n. elements p + n) (before_more ps k (omega arith)) ∙ omega arith

pub before_next : (ps : List Port) (k : ℕ) → k < length ps → before ps (k + 1) ≡ before ps k + elements (port_at ps k)
before_next ps k h = let e : k + 1 ≡ suc k = omega arith in rw e (before_more ps k h)

pub up_to : (ps : List Port) (k : ℕ) → k < length ps → before ps k + elements (port_at ps k) ≤ total ps
up_to [] k h = absurd (omega arith)
up_to (p ∷ ps) zero h = omega arith
up_to (p ∷ ps) (suc k) h = let rest : before ps k + elements (port_at ps k) ≤ total ps = up_to ps k (omega arith) in omega (arith, rest)

pub before_all : (ps : List Port) → before ps (length ps) ≡ total ps
before_all [] = refl
before_all (p ∷ ps) = ap (λ n. elements p + n) (before_all ps)

-- ---- blocks

abbrev pub outs_in : List Spec → ℕ → ℕ
outs_in ss k = total (slice_index_or ss k no_spec).outs

pub start_more : (ss : List Spec) (k : ℕ) → k < length ss → start_in ss (suc k) ≡ start_in ss k + outs_in ss k
start_more [] k h = absurd (omega arith)
start_more (s ∷ ss) zero h = omega arith
start_more (s ∷ ss) (suc k) h = ap (λ n. total s.outs + n) (start_more ss k (omega arith)) ∙ omega arith

pub start_within : (ss : List Spec) (k : ℕ) → k < length ss → start_in ss k + outs_in ss k ≤ all_elements ss
start_within [] k h = absurd (omega arith)
start_within (s ∷ ss) zero h = omega arith
start_within (s ∷ ss) (suc k) h = let rest : start_in ss k + outs_in ss k ≤ all_elements ss = start_within ss k (omega arith) in omega (arith, rest)

pub start_next : (ss : List Spec) (k : ℕ) → k < length ss → start_in ss (k + 1) ≡ start_in ss k + outs_in ss k
start_next ss k h = let e : k + 1 ≡ suc k = omega arith in rw e (start_more ss k h)

-- a block ends before the next begins
pub start_apart : (ss : List Spec) (i k : ℕ) → i < k → k < length ss → start_in ss i + outs_in ss i ≤ start_in ss k
start_apart [] i k l h = absurd (omega arith)
start_apart (s ∷ ss) i zero l h = absurd (omega arith)
start_apart (s ∷ ss) zero (suc k) l h = omega arith
start_apart (s ∷ ss) (suc i) (suc k) l h =
    let rest : start_in ss i + outs_in ss i ≤ start_in ss k = start_apart ss i k (omega arith) (omega arith) in omega (arith, rest)

-- ---- runs

-- a run of a run
pub read_within : {A : Type 0} (xs : List A) (start whole from n : ℕ) → from + n ≤ whole
    → take n (drop from (take whole (drop start xs))) ≡ take n (drop (start + from) xs)
read_within xs start whole from n h =
    let e : whole ≡ from + (whole - from) = omega (arith, h) in
    let fits : n ≤ whole - from = omega (arith, h) in
    ap (λ t. take n (drop from (take t (drop start xs)))) e
    ∙ (ap (take n) (drop-take from (whole - from) (drop start xs))
    ∙ (take-take n (whole - from) (drop from (drop start xs)) fits
    ∙ ap (take n) (drop-drop from start xs)))

-- what is written at a place stands there
pub written_at : {A : Type 0} (xs vs : List A) (start n : ℕ) → length vs ≡ n → start + n ≤ length xs
    → take n (drop start (take start xs ++ (vs ++ drop (start + length vs) xs))) ≡ vs
written_at xs vs start n e h =
    let front = length-take-le start xs (omega (arith, h)) in
    ap (take n) (drop_at (take start xs) (vs ++ drop (start + length vs) xs) start front) ∙ take_at vs (drop (start + length vs) xs) n e

pub written_length : {A : Type 0} (xs vs : List A) (start n : ℕ) → length vs ≡ n → start + n ≤ length xs
    → length (take start xs ++ (vs ++ drop (start + length vs) xs)) ≡ length xs
written_length xs vs start n e h =
    let front = length-take-le start xs (omega (arith, h)) in
    let back = length-drop (start + length vs) xs in
    length-append (take start xs) (vs ++ drop (start + length vs) xs)
    ∙ (ap (λ k. length (take start xs) + k) (length-append vs (drop (start + length vs) xs)) ∙ omega (arith, front, back, e, h))

-- what stands before it stays
pub kept_before : {A : Type 0} (xs vs : List A) (start from n : ℕ) → from + n ≤ start → start ≤ length xs
    → take n (drop from (take start xs ++ vs)) ≡ take n (drop from xs)
kept_before xs vs start from n h l =
    let front = length-take-le start xs l in
    let long = length-drop from (take start xs) in
    ap (take n) (drop-append-le from (take start xs) vs (omega (arith, h, front)))
    ∙ (take-append-le n (drop from (take start xs)) vs (omega (arith, h, front, long)) ∙ (read_within xs 0 start from n h ∙ ap (λ k. take n (drop k xs)) (zero-add from)))

-- and what stands behind it
pub kept_behind : {A : Type 0} (xs vs : List A) (start n from : ℕ) → length vs ≡ n → start + n ≤ from → start + n ≤ length xs
    → drop from (take start xs ++ (vs ++ drop (start + length vs) xs)) ≡ drop from xs
kept_behind xs vs start n from e h l =
    let front = length-take-le start xs (omega (arith, l)) in
    let split : from ≡ start + (length vs + (from - start - length vs)) = omega (arith, h, e) in
    let whole = take start xs ++ (vs ++ drop (start + length vs) xs) in
    ap (λ k. drop k whole) split
    ∙ (sym (drop-drop (length vs + (from - start - length vs)) start whole)
    ∙ (ap (drop (length vs + (from - start - length vs))) (drop_at (take start xs) (vs ++ drop (start + length vs) xs) start front)
    ∙ (sym (drop-drop (from - start - length vs) (length vs) (vs ++ drop (start + length vs) xs))
    ∙ (ap (drop (from - start - length vs)) (drop_at vs (drop (start + length vs) xs) (length vs) refl)
    ∙ (drop-drop (from - start - length vs) (start + length vs) xs
    ∙ ap (λ k. drop k xs) (let back : start + length vs + (from - start - length vs) ≡ from = omega (arith, h, e) in back))))))
