-- Marking exactly the sources that may ever react, and the blocks that may act.
use Rattle.std.proofs.Common.{◌≡◌, ℕ, zero, suc, ◌+◌, ◌<◌, Bool, true, false, not, ◌&&◌, ◌||◌, cond, pos, List, [], ◌∷◌, length, set, replicate, get_or, ◌⊎◌, inl, inr, refl, sym, subst, ◌∙◌, arith, true≢false}
use Rattle.std.proofs.lemmas.Bool.{cases_lt, cases_eq, and_cases, not-true, not-false}
use Rattle.std.proofs.lemmas.List.{get_or_default, get_or_past, get_or-replicate, get_or-set_other, length-set, length-replicate}
use Rattle.std.specs.Prelude.{int_le}
use Rattle.sci_base.specs.Lists.{truth_at}
use Rattle.sci_forms.proofs.TestLemmas.{int_le_told}
use Rattle.sci_net.specs.declared.Feed.{Feed}
use Rattle.sci_net.specs.declared.Source.{Source}
use Rattle.sci_net.specs.declared.Source.TheVariants.{Start, Port}
use Rattle.sci_net.specs.Net.{IsNet}
use Rattle.sci_net.specs.Parts.{Parts, spec_of}
use Rattle.sci_net.specs.Sources.{sources_of, source_of}
use Rattle.sci_reaction.specs.Links.{IsSource}
use Rattle.sci_reaction.proofs.Lists.{and_both}
use Rattle.sci_reaction.proofs.Sources.{sources_are}
use Rattle.sci_run.specs.Laws.{AreLoopFree}
use Rattle.sci_run.specs.Programs.{firing_of}
use Rattle.sci_ranges_reads.specs.Live.{IsLive, IsPossible, begins, dated, programmed, may_program}
use Rattle.sci_ranges_rows.specs.Marks.{Marks, AreActs, dead_of, acts_at, may_act}
use Rattle.sci_ranges_rows.specs.Tests.{all_below}
use Rattle.sci_ranges_rows.proofs.Placed.{acts_is}
use Rattle.sci_ranges_pass.specs.Pass.{is_possible, marks_dated, marks_programmed}
use Rattle.sci_ranges_marks.specs.View.{with_live, AreMarked}
use Rattle.sci_ranges_find.specs.Live.{AreLive, AreSound, IsMissing}
use Rattle.sci_ranges_find.specs.View.{marked_by_all}

-- ---- tests that fail

some_fails : (f : ℕ → Bool) (count : ℕ) → all_below f count ≡ false → (k : ℕ) × (k < count) × (f k ≡ false)
some_fails f zero h = absurd (true≢false h)
some_fails f (suc count) h = elim (and_cases (all_below f count) (f count) h) [
  | inl p ↦ let r = some_fails f count p in (r.0, omega (arith, r.1), r.2)
  | inr p ↦ (count, omega arith, p)
]

unless_fails : (a b : Bool) → (not a || b) ≡ false → (a ≡ true) × (b ≡ false)
unless_fails true b h = (refl, h)
unless_fails false b h = absurd (true≢false h)

-- ---- a source that is missing

-- the source of a place isn't marked, and has a first event, or that of another place programs it
abbrev Fails : Parts → Marks → ℕ → Source → Type 0
Fails n m j s = (marks_dated n m j s ≡ false) ⊎ ((k : ℕ) × (k < length m.rows) × (marks_programmed n m k j s ≡ false))

module _ (n : Parts) (m : Marks) (j : ℕ) (h : IsMissing n m j) where
  fails : Fails n m j (source_of n j)
  fails = elim (and_cases (marks_dated n m j (source_of n j)) (marked_by_all n m j) h.missing) [
    | inl p ↦ inl p
    | inr p ↦ inr (some_fails (λ k. marks_programmed n m k j (source_of n j)) (length m.rows) p)
  ]

  unmarked : (s : Source) → Fails n m j s → truth_at m.live j ≡ false
  unmarked Start (inl p) = p
  unmarked Start (inr p) = p.2
  unmarked (Port q) (inl p) = (unless_fails (int_le (pos 0) (firing_of n q)) (truth_at m.live j) p).1
  unmarked (Port q) (inr p) = (unless_fails (may_act m p.0 q.block && may_program (spec_of n q.block)) (truth_at m.live j) p.2).1

  pub missing_unmarked : truth_at m.live j ≡ false
  missing_unmarked = unmarked (source_of n j) fails

  is_source : (q : Feed) → source_of n j ≡ Port q → IsSource n (Port q)
  is_source q e = (sources_are n (Port q)).0 (j, h.within, get_or_default (sources_of n) j (Port q) Start h.within ∙ e)

  -- it may ever react
  module _ (net : IsNet n) (free : AreLoopFree n) (acts : AreActs n m) (live : AreLive n m) where
    lives : (s : Source) → source_of n j ≡ s → Fails n m j s → IsLive n (dead_of m.dead) s
    lives Start e f = begins
    lives (Port q) e (inl p) = dated q (is_source q e) (int_le_told (pos 0) (firing_of n q) (unless_fails (int_le (pos 0) (firing_of n q)) (truth_at m.live j) p).0)
    lives (Port q) e (inr p) =
        let may = (unless_fails (may_act m p.0 q.block && may_program (spec_of n q.block)) (truth_at m.live j) p.2).0 in
        let both = and_both (may_act m p.0 q.block) (may_program (spec_of n q.block)) may in
        let on = and_both (truth_at m.live p.0) (truth_at (acts_at m p.0) q.block) both.0 in
        programmed (source_of n p.0) q (live.each p.0 on.0) (is_source q e) ((acts_is n m net free acts p.0 p.1 q.block).0 on.1) both.1

    pub missing_live : IsLive n (dead_of m.dead) (source_of n j)
    missing_live = lives (source_of n j) refl fails

-- ---- one more is marked

kept_marked : (n : Parts) (m : Marks) (live : List Bool) → AreMarked n m → AreMarked n (with_live m live)
kept_marked n m live h = record { acts = record { rows = h.acts.rows; marks = h.acts.marks }; quiet = h.quiet; first = h.first }

added_live : (n : Parts) (m : Marks) (j : ℕ) → IsLive n (dead_of m.dead) (source_of n j) → AreLive n m → AreLive n (with_live m (set m.live j true))
added_live n m j here live = record {
  each = λ k on. elim (cases_eq k j) [
    | inl same ↦ subst (λ (i : ℕ). IsLive n (dead_of m.dead) (source_of n i)) (sym same) here
    | inr other ↦ live.each k (sym (get_or-set_other m.live j k true false other) ∙ on)
  ];
}

pub added_sound : (n : Parts) (m : Marks) (j : ℕ) → IsNet n → AreLoopFree n → IsMissing n m j → AreSound n m → AreSound n (with_live m (set m.live j true))
added_sound n m j net free missing s = record {
  marked = kept_marked n m (set m.live j true) s.marked;
  live = added_live n m j (missing_live n m j missing net free s.marked.acts s.live) s.live;
  enough = length-set m.live j true ∙ s.enough;
}

-- ---- none is marked

none_on : (count k : ℕ) → get_or (replicate count false) k false ≡ false
none_on count k = elim (cases_lt k count) [
  | inl l ↦ get_or-replicate count k false false l
  | inr l ↦ let same = length-replicate count false in get_or_past (replicate count false) k false (omega (arith, l, same))
]

pub none_sound : (n : Parts) (m : Marks) (count : ℕ) → count ≡ length (sources_of n) → AreMarked n m → AreSound n (with_live m (replicate count false))
none_sound n m count many marked = record {
  marked = kept_marked n m (replicate count false) marked;
  live = record { each = λ k on. absurd (true≢false (sym on ∙ none_on count k)) };
  enough = length-replicate count false ∙ many;
}

-- ---- how many aren't marked

abbrev pub off_count : List Bool → ℕ
off_count [] = 0
off_count (b ∷ bs) = cond b 0 1 + off_count bs

pub fewer_off : (bs : List Bool) (k : ℕ) → k < length bs → get_or bs k false ≡ false → off_count (set bs k true) < off_count bs
fewer_off [] k l h = absurd (omega (arith, l))
fewer_off (true ∷ bs) zero l h = absurd (true≢false h)
fewer_off (false ∷ bs) zero l h = omega arith
fewer_off (b ∷ bs) (suc k) l h = let r = fewer_off bs k (omega (arith, l)) h in omega (arith, r)

-- ---- a block that passes the test

-- some live source may activate it
pub possible_only : (n : Parts) (m : Marks) (c : ℕ) → IsNet n → AreLoopFree n → AreActs n m → AreLive n m → is_possible m c ≡ true → IsPossible n (dead_of m.dead) c
possible_only n m c net free acts live h =
    let k = some_fails (λ k. not (may_act m k c)) (length m.rows) (not-true (all_below (λ k. not (may_act m k c)) (length m.rows)) h) in
    let on = and_both (truth_at m.live k.0) (truth_at (acts_at m k.0) c) (not-false (may_act m k.0 c) k.2) in
    record { source = source_of n k.0; live = live.each k.0 on.0; acts = (acts_is n m net free acts k.0 k.1 c).0 on.1 }
