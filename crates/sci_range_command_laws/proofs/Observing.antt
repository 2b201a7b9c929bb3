-- What is observed of a reaction is told by a table that holds behind it.
use Rattle.std.proofs.Common.{◌≡◌, ℕ, zero, suc, ◌+◌, ◌-◌, ◌<◌, ◌≤◌, Bool, true, false, if◌then◌else◌, ℤ, List, [], ◌∷◌, ◌++◌, length, take, drop, get_or, Option, refl, sym, ap, subst, ◌∙◌, arith, ⊎_elim}
use Rattle.sci_base.specs.declared.observation.Obs.{Obs}
use Rattle.sci_base.specs.Lists.{at}
use Rattle.sci_forms.specs.declared.ports.Port.{Port as Output}
use Rattle.sci_forms.specs.declared.spec.Spec.{Spec}
use Rattle.sci_forms.specs.Ports.{elements, before}
use Rattle.sci_net.specs.declared.Source.{Source}
use Rattle.sci_net.specs.declared.Source.TheVariants.{Start, Port}
use Rattle.sci_net.specs.Parts.{Parts, IsBlock, no_spec, spec_of}
use Rattle.sci_reaction.specs.Equations.{Signals}
use Rattle.sci_reaction.specs.Memory.{Columns}
use Rattle.sci_run.specs.Activity.{Activity}
use Rattle.sci_run.specs.Observed.{header, elements_seen, outputs_seen, blocks_seen}
use Rattle.sci_run.specs.Run.{State, after_reaction, Reacts}
use Rattle.sci_ranges_base.specs.declared.interval.Interval.{Interval}
use Rattle.sci_ranges_base.specs.Intervals.{IsInSome, range_at}
use Rattle.sci_ranges_reads.specs.Live.{IsPossible}
use Rattle.sci_ranges.specs.Table.{Table}
use Rattle.sci_ranges.proofs.Following.{Follows}
use Rattle.sci_range_command_laws.specs.Told.{IsTold, told_header, told_value, AreTold}

-- ---- lists

pub joined : (n : Parts) (t : Table) (xs ys : List Obs) → AreTold n t xs → AreTold n t ys → AreTold n t (xs ++ ys)
joined n t [] ys h k = k
joined n t (o ∷ xs) ys h k = (h.0, joined n t xs ys h.1 k)

-- these are values of elements from one on
abbrev pub AreIn : List (Option Interval) → ℕ → List ℤ → Type 0
AreIn us k [] = Unit {0}
AreIn us k (v ∷ vs) = IsInSome (range_at us k) v × AreIn us (k + 1) vs

are_in : (us : List (Option Interval)) (k : ℕ) (vs : List ℤ) → ((e : ℕ) → e < length vs → IsInSome (range_at us (k + e)) (at vs e)) → AreIn us k vs
are_in us k [] h = tt
are_in us k (v ∷ vs) h =
    let here : k + 0 ≡ k = omega arith in (
      subst (λ (c : ℕ). IsInSome (range_at us c) v) here (h 0 (omega arith)),
      are_in us (k + 1) vs (λ e l.
          let there : k + suc e ≡ k + 1 + e = omega arith in
          subst (λ (c : ℕ). IsInSome (range_at us c) (at vs e)) there (h (suc e) (omega (arith, l)))),
    )

taken_in : (us : List (Option Interval)) (k c : ℕ) (vs : List ℤ) → AreIn us k vs → AreIn us k (take c vs)
taken_in us k zero vs h = tt
taken_in us k (suc c) [] h = tt
taken_in us k (suc c) (v ∷ vs) h = (h.0, taken_in us (k + 1) c vs h.1)

dropped_in : (us : List (Option Interval)) (k c : ℕ) (vs : List ℤ) → AreIn us k vs → AreIn us (k + c) (drop c vs)
dropped_in us k zero vs h = let same : k ≡ k + 0 = omega arith in subst (λ (m : ℕ). AreIn us m vs) same h
dropped_in us k (suc c) [] h = tt
dropped_in us k (suc c) (v ∷ vs) h =
    let same : k + 1 + c ≡ k + suc c = omega arith in subst (λ (m : ℕ). AreIn us m (drop c vs)) same (dropped_in us (k + 1) c vs h.1)

-- ---- the outputs of a block

first_place : (x z k : ℕ) → x ≡ z → z ≡ k + 0 → x + (1 - 1) ≡ k
first_place x z k h g = omega (arith, h, g)

next_place : (x k e : ℕ) → 1 ≤ e → x + (e - 1) ≡ k → x + (e + 1 - 1) ≡ k + 1
next_place x k e some h = omega (arith, some, h)

later_place : (x y k m r : ℕ) → x ≡ y → y ≡ k + (m + r) → x ≡ k + m + r
later_place x y k m r h g = omega (arith, h, g)

module _ (n : Parts) (t : Table) (b : ℕ) (possible : IsPossible n t.dead b) where
  elements_told : (p e k : ℕ) (vs : List ℤ) → 1 ≤ e → before (spec_of n b).outs (p - 1) + (e - 1) ≡ k → AreIn (t.shows b) k vs → AreTold n t (elements_seen b p e vs)
  elements_told p e k [] some place h = tt
  elements_told p e k (v ∷ vs) some place h = (
    told_value b p e v possible (subst (λ (c : ℕ). IsInSome (range_at (t.shows b) c) v) (sym place) h.0),
    elements_told p (e + 1) (k + 1) vs (omega arith) (next_place (before (spec_of n b).outs (p - 1)) k e some place) h.1,
  )

  -- from output p on, whose elements are among all from k on
  outputs_told : (p k : ℕ) (os : List Output) (vs : List ℤ) → 1 ≤ p → ((j : ℕ) → before (spec_of n b).outs (p - 1 + j) ≡ k + before os j) → AreIn (t.shows b) k vs
      → AreTold n t (outputs_seen b p os vs)
  outputs_told p k [] vs some place h = tt
  outputs_told p k (o ∷ os) vs some place h =
      joined n t (elements_seen b p 1 (take (elements o) vs)) (outputs_seen b (p + 1) os (drop (elements o) vs))
      (elements_told p 1 k (take (elements o) vs) (omega arith) here (taken_in (t.shows b) k (elements o) vs h))
      (outputs_told (p + 1) (k + elements o) os (drop (elements o) vs) (omega arith) later (dropped_in (t.shows b) k (elements o) vs h))
    where
      here : before (spec_of n b).outs (p - 1) + (1 - 1) ≡ k
      here =
          let same : p - 1 ≡ p - 1 + 0 = omega arith in
          first_place (before (spec_of n b).outs (p - 1)) (before (spec_of n b).outs (p - 1 + 0)) k (ap (before (spec_of n b).outs) same) (place 0)

      later : (j : ℕ) → before (spec_of n b).outs (p + 1 - 1 + j) ≡ k + elements o + before os j
      later j =
          let same : p + 1 - 1 + j ≡ p - 1 + suc j = omega (arith, some) in
          later_place (before (spec_of n b).outs (p + 1 - 1 + j)) (before (spec_of n b).outs (p - 1 + suc j)) k (elements o) (before os j) (ap (before (spec_of n b).outs) same) (place (suc j))

-- ---- all blocks

-- the specs of the blocks from k on
abbrev AreSpecsFrom : (ℕ → Spec) → ℕ → List Spec → Type 0
AreSpecsFrom spec k ss = (j : ℕ) → j < length ss → spec (k + j) ≡ get_or ss j no_spec

later_specs : (spec : ℕ → Spec) (k : ℕ) (s : Spec) (ss : List Spec) → AreSpecsFrom spec k (s ∷ ss) → AreSpecsFrom spec (k + 1) ss
later_specs spec k s ss h j l = let e : k + 1 + j ≡ k + suc j = omega arith in ap spec e ∙ h (suc j) (omega (arith, l))

first_spec : (spec : ℕ → Spec) (k : ℕ) (s : Spec) (ss : List Spec) → AreSpecsFrom spec k (s ∷ ss) → spec k ≡ s
first_spec spec k s ss h = let e : k ≡ k + 0 = omega arith in ap spec e ∙ h 0 (omega arith)

specs_from_first : (n : Parts) → AreSpecsFrom (spec_of n) 1 n.specs
specs_from_first n j l = let e : 1 + j ≡ suc j = omega arith in ap (spec_of n) e

blocks_told : (n : Parts) (t : Table) (y : Signals) (active : Activity) (b : ℕ) (ss : List Spec) → AreSpecsFrom (spec_of n) b ss
    → ((c : ℕ) → b ≤ c → c < b + length ss → active c ≡ true → AreTold n t (outputs_seen c 1 (spec_of n c).outs (y c))) → AreTold n t (blocks_seen b ss y active)
blocks_told n t y active b [] specs each = tt
blocks_told n t y active b (s ∷ ss) specs each =
    joined n t (if active b then outputs_seen b 1 s.outs (y b) else []) (blocks_seen (b + 1) ss y active) (first (active b) refl)
    (blocks_told n t y active (b + 1) ss (later_specs (spec_of n) b s ss specs) (λ c l m on. each c (omega (arith, l)) (omega (arith, m)) on))
  where
    first : (on : Bool) → active b ≡ on → AreTold n t (if on then outputs_seen b 1 s.outs (y b) else [])
    first true is = subst (λ (x : Spec). AreTold n t (outputs_seen b 1 x.outs (y b))) (first_spec (spec_of n) b s ss specs) (each b (omega arith) (omega arith) is)
    first false is = tt

-- ---- a reaction

pub header_is_told : (n : Parts) (t : Table) (date : ℕ) (s : Source) → IsTold n t (header date s)
header_is_told n t date Start = told_header (header date Start) refl
header_is_told n t date (Port q) = told_header (header date (Port q)) refl

pub reaction_is_told : (n : Parts) (j : Columns) (t : Table) (date : ℕ) (s : Source) (st after : State) (seen : List Obs) → Follows n t s st after → Reacts n j date s st after seen
    → AreTold n t seen
reaction_is_told n j t date s st after seen follows h =
    subst (AreTold n t) (sym h.observed)
    (header_is_told n t date s, blocks_told n t h.values h.active 1 n.specs (specs_from_first n) (λ b l m on. block_told b (record { least = l; most = omega (arith, m) }) on))
  where
    f : Follows n t s st (after_reaction n date st h.values h.active h.memory)
    f = subst (Follows n t s st) h.leads follows

    block_told : (b : ℕ) → IsBlock n b → h.active b ≡ true → AreTold n t (outputs_seen b 1 (spec_of n b).outs (h.values b))
    block_told b block on =
        let acts = f.active b block on in
        let same : h.memory.held b ≡ h.values b = ⊎_elim (λ up. up.held) (λ off. absurd (off.idle ((h.active_are b block).0 on))) (h.next b block) in
        let long = (f.stands.memory.held b block).enough in
        let value : (e : ℕ) → e < length (h.values b) → IsInSome (range_at (t.shows b) (0 + e)) (at (h.values b) e) = λ e l.
        let place : e ≡ 0 + e = omega arith in
        subst (λ (c : ℕ). IsInSome (range_at (t.shows b) c) (at (h.values b) e)) place
        (subst (λ (vs : List ℤ). IsInSome (range_at (t.shows b) e) (at vs e)) same (f.stands.acted b e acts.1 block (omega (arith, l, long, ap length same)))) in
        outputs_told n t b acts.0 1 0 (spec_of n b).outs (h.values b) (omega arith)
        (λ k. let from : 1 - 1 + k ≡ k = omega arith in let whole : before (spec_of n b).outs k ≡ 0 + before (spec_of n b).outs k = omega arith in ap (before (spec_of n b).outs) from ∙ whole)
        (are_in (t.shows b) 0 (h.values b) value)
