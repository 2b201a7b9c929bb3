-- The rows, the marks and the entries of a live source.
use Rattle.std.proofs.Common.{◌≡◌, ℕ, zero, suc, ◌<◌, Bool, true, false, ⊎_elim, ◌↔◌, List, [], ◌∷◌, length, map, nat_eq, slice_index_or, Contains, Option, Some, None, refl, sym, ap, subst, ◌∙◌, arith, true≢false, cond}
use Rattle.std.proofs.lemmas.Bool.Decides.{nat_tests}
use Rattle.std.proofs.lemmas.List.{get_or_default}
use Rattle.sci_base.specs.Lists.{truth_at}
use Rattle.sci_forms.proofs.TestLemmas.{nat_same}
use Rattle.sci_net.specs.declared.Source.{Source}
use Rattle.sci_net.specs.declared.Source.TheVariants.{Start}
use Rattle.sci_net.specs.Net.{IsNet}
use Rattle.sci_net.specs.Parts.{Parts}
use Rattle.sci_net.specs.Sources.{sources_of, source_of}
use Rattle.sci_reaction.specs.Active.{IsAlways, Possible}
use Rattle.sci_reaction.specs.Links.{IsSource}
use Rattle.sci_reaction.specs.Schedule.{Entry, blocks_of}
use Rattle.sci_reaction.proofs.Lists.{Has, cons-Contains}
use Rattle.sci_reaction.proofs.Rows.{Has-cons, IsFit, IsPlan, row_plan}
use Rattle.sci_reaction.proofs.Sources.{sources_are}
use Rattle.sci_run.specs.Laws.{AreLoopFree}
use Rattle.sci_ranges_reads.specs.Live.{Dead, MayAct, IsLive, begins, dated, programmed}
use Rattle.sci_ranges_rows.specs.Marks.{Marks, AreActs, AreMarks, dead_of, acts_in, entry_of, row_at, acts_at, entry_at}
use Rattle.sci_ranges_rows.specs.Tests.{is_always}
use Rattle.sci_ranges_rows.proofs.Marking.{marked_may_act}

-- ---- entries by their blocks

pub entry_found : (es : List Entry) (b : ℕ) (e : Entry) → entry_of es b ≡ Some e → Contains es e × (e.block ≡ b)
entry_found [] b e h = cc
entry_found (d ∷ es) b e h = by_block (λ q. entry_found es b e q) (nat_eq d.block b) refl h
  where
    by_block : (entry_of es b ≡ Some e → Contains es e × (e.block ≡ b)) → (t : Bool) → nat_eq d.block b ≡ t → cond t (Some d) (entry_of es b) ≡ Some e → Contains (d ∷ es) e × (e.block ≡ b)
    by_block rest true p q = let same : d ≡ e = cc in ((0, omega arith, same), subst (λ (x : Entry). x.block ≡ b) same (nat_same d.block b p))
    by_block rest false p q = let r = rest q in (cons-Contains d es e r.0, r.1)

pub entry_there : (es : List Entry) (b : ℕ) → Has (blocks_of es) b → (e : Entry) × (entry_of es b ≡ Some e)
entry_there [] b h = absurd (true≢false (sym h))
entry_there (d ∷ es) b h = by_block (λ there. entry_there es b there) (nat_eq d.block b) refl
  where
    by_block : (Has (blocks_of es) b → (e : Entry) × (entry_of es b ≡ Some e)) → (t : Bool) → nat_eq d.block b ≡ t → (e : Entry) × (cond t (Some d) (entry_of es b) ≡ Some e)
    by_block rest true p = (d, refl)
    by_block rest false p =
        ⊎_elim (λ here. absurd (other p (sym here))) (λ there. rest there) ((Has-cons d.block (blocks_of es) b).0 h)
      where
        other : nat_eq d.block b ≡ false → d.block ≡ b → ⊥
        other p e = let t : nat_eq d.block b ≡ true = grind (arith, nat_tests) in true≢false (sym t ∙ p)

-- ---- sources by their places

pub live_source : (n : Parts) (dead : Dead) {s : Source} → IsLive n dead s → IsSource n s
live_source n dead begins = tt
live_source n dead (dated q source fires) = source
live_source n dead (programmed s q live source acts may) = source

mapped : (f : List Entry → List Bool) (rows : List (List Entry)) (k : ℕ) → k < length rows → slice_index_or (map f rows) k [] ≡ f (slice_index_or rows k [])
mapped f [] k l = absurd (omega (arith, l))
mapped f (r ∷ rows) zero l = refl
mapped f (r ∷ rows) (suc k) l = mapped f rows k (omega (arith, l))

-- a source has a place
pub source_place : (n : Parts) (s : Source) → IsSource n s → (k : ℕ) × (k < length (sources_of n)) × (source_of n k ≡ s)
source_place n s source =
    let c = (sources_are n s).1 source in (c.0, c.1, get_or_default (sources_of n) c.0 Start s c.1 ∙ c.2)

-- that of a live one
pub place_of : (n : Parts) (m : Marks) → AreMarks n m → {s : Source} → IsLive n (dead_of m.dead) s
    → (k : ℕ) × (k < length m.rows) × (source_of n k ≡ s) × (truth_at m.live k ≡ true)
place_of n m marks {s} live =
    let p = source_place n s (live_source n (dead_of m.dead) live) in
    let within : p.0 < length m.rows = omega (arith, p.1, marks.acts.rows.enough) in
    (p.0, within, p.2, marks.live p.0 (subst (IsLive n (dead_of m.dead)) (sym p.2) live) within)

-- ---- the row of a place

module _ (n : Parts) (m : Marks) (net : IsNet n) (free : AreLoopFree n) (marks : AreActs n m) (k : ℕ) (within : k < length m.rows) where
  pub plan : IsPlan n (source_of n k) (row_at m k)
  plan = row_plan n (source_of n k) net.wired (row_at m k) (marks.rows.each k within)

  free_here : k < length (sources_of n)
  free_here = omega (arith, within, marks.rows.enough)

  pub acts_is : (b : ℕ) → (truth_at (acts_at m k) b ≡ true) ↔ MayAct n (dead_of m.dead) (source_of n k) b
  acts_is b =
      let row : acts_at m k ≡ acts_in (dead_of m.dead) (length n.specs) (row_at m k) =
      ap (λ rows. slice_index_or rows k []) marks.marks ∙ mapped (acts_in (dead_of m.dead) (length n.specs)) m.rows k within in
      subst (λ acts. (truth_at acts b ≡ true) ↔ MayAct n (dead_of m.dead) (source_of n k) b) (sym row)
      (marked_may_act n (dead_of m.dead) (source_of n k) (row_at m k) b net (free k free_here) (marks.rows.each k within))

  -- the entry of a block that may act
  pub entry_here : (b : ℕ) → Possible n (source_of n k) b → (e : Entry) × (entry_at m k b ≡ Some e)
  entry_here b may = entry_there (row_at m k) b ((plan.complete b).1 may)

  pub entry_fit : (b : ℕ) (e : Entry) → entry_at m k b ≡ Some e → IsFit n (source_of n k) e × (e.block ≡ b)
  entry_fit b e h = let r = entry_found (row_at m k) b e h in (plan.entries e r.0, r.1)

  -- what is always activated
  pub always_here : (b : ℕ) → is_always (entry_at m k b) ≡ true → IsAlways n (source_of n k) b
  always_here b h = by_entry (entry_at m k b) refl h
    where
      by_entry : (o : Option Entry) → entry_at m k b ≡ o → is_always o ≡ true → IsAlways n (source_of n k) b
      by_entry None p q = absurd (true≢false (sym q))
      by_entry (Some e) p q = let f = entry_fit b e p in subst (IsAlways n (source_of n k)) f.1 (f.0.always_is.0 q)
