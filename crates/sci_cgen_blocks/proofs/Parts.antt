-- The kinds that hand on what they are given: Const, Mux, Demux and Extractor.
use Rattle.std.proofs.Common.{◌≡◌, ℕ, suc, ◌+◌, ◌-◌, ◌<◌, ◌≤◌, ◌≤ℤ◌, Some, Bool, true, false, if◌then◌else◌, nat_eq, inl, inr, refl, ap, ◌∙◌, subst, arith, ℤ, pos, negsuc, List, [], ◌∷◌, length}
use Rattle.std.specs.Prelude.{unsigned_abs}
use Rattle.std.proofs.lemmas.Int.{ints}
use Rattle.std.proofs.lemmas.Bool.{cases_lt}
use Rattle.sci_base.specs.Lists.{at, spread}
use Rattle.sci_forms.specs.declared.Kind.TheVariants.{Const, Mux, Demux, Extractor}
use Rattle.sci_forms.specs.declared.ports.Port.{Port}
use Rattle.sci_forms.specs.declared.spec.Spec.{Spec}
use Rattle.sci_forms.specs.Ports.{elements, total, port_at, before}
use Rattle.sci_forms.specs.Words.{param, out_type, size}
use Rattle.sci_kinds.specs.declared.Cell.TheVariants.{Value}
use Rattle.sci_kinds.specs.Table.{cell_of}
use Rattle.sci_kinds.specs.Asks.{Asks}
use Rattle.sci_kinds.proofs.Elements.{nat_lt_yes, nat_lt_no}
use Rattle.sci_kinds.proofs.Ranges.{spread_in_range}
use Rattle.sci_kinds.proofs.TypedLemmas.{only_total}
use Rattle.sci_cgen_blocks.specs.Terms.{Given, value, Scratch, Gives, each, all, WayGives, IsSpelled, Readable, TermFits, RecipeFits, WayFits}
use Rattle.sci_cgen_blocks.specs.Recipes.{plain, flat_from, recipe_of, part_of, way_of, given}
use Rattle.sci_cgen_blocks.proofs.Working.{done_gives}
use Rattle.sci_cgen_blocks.proofs.Inputs.{given_for, given_first, in_size, spelled_in, fed_of, fed_for, fed_part, way_reads, IsFed}

-- ---- all inputs together

-- element e of the inputs from input k on, where b elements are before
flat_is : (g : Given) (s : Scratch) (u : List ℤ) (ps : List Port) (k b e : ℕ) → ((i j : ℕ) → i < length ps → g.input (k + i) j ≡ at u (b + before ps i + j))
    → e < total ps
    → value g s (flat_from ps k e) ≡ Some (at u (b + e))
flat_is g s u [] k b e h l = absurd (omega (arith, l))
flat_is g s u (p ∷ ps) k b e h l = elim (cases_lt e (elements p)) [
  | inl q ↦ rw (nat_lt_yes e (elements p) q) (ap Some (here (k + 0) (b + 0 + e) (omega arith) (omega arith) (h 0 e (omega arith))))
  | inr q ↦
      let rest : value g s (flat_from ps (suc k) (e - elements p)) ≡ Some (at u ((b + elements p) + (e - elements p))) =
      flat_is g s u ps (suc k) (b + elements p) (e - elements p)
      (λ i j d. later (k + suc i) (b + (elements p + before ps i) + j) (suc k + i) (b + elements p + before ps i + j) j (omega arith) (omega arith)
      (h (suc i) j (omega (arith, d))))
      (omega (arith, l, q)) in
      let same : (b + elements p) + (e - elements p) ≡ b + e = omega (arith, q) in
      rw (nat_lt_no e (elements p) q) (rest ∙ ap (λ (n : ℕ). Some (at u n)) same)
]
  where
    here : (i n : ℕ) → i ≡ k → n ≡ b + e → g.input i e ≡ at u n → g.input k e ≡ at u (b + e)
    here i n p q f = rw (← p, ← q) f

    later : (i n i' n' j : ℕ) → i ≡ i' → n ≡ n' → g.input i j ≡ at u n → g.input i' j ≡ at u n'
    later i n i' n' j p q f = rw (← p, ← q) f

flat_read : (r : Readable) (ps : List Port) (k e : ℕ) → ((i j : ℕ) → i < length ps → j < elements (port_at ps i) → r.input (k + i) j) → e < total ps
    → TermFits r 32 (flat_from ps k e)
flat_read r [] k e h l = absurd (omega (arith, l))
flat_read r (p ∷ ps) k e h l = elim (cases_lt e (elements p)) [
  | inl q ↦ rw (nat_lt_yes e (elements p) q) (subst (λ (i : ℕ). r.input i e) (omega arith) (h 0 e (omega arith) q))
  | inr q ↦ rw (nat_lt_no e (elements p) q) (flat_read r ps (suc k) (e - elements p)
      (λ i j d b. subst (λ (n : ℕ). r.input n j) (omega arith) (h (suc i) j (omega (arith, d)) b)) (omega (arith, l, q)))
]

-- ---- the kinds

-- one number for all elements, or one for each
module _ (s : Spec) where
  pub const_gives : (x : List ℤ) (m : ℕ) (u : List ℤ) → WayGives (given s x m u) (total s.outs) (cell_of Const s x m u) (way_of Const s)
  const_gives x m u = by_one (nat_eq (length s.params) 1)
    where
      by_one : (b : Bool) → WayGives (given s x m u) (total s.outs) (λ e. Value (if b then param s 0 else param s e))
          (if b then all 0 (recipe_of Const s) else each (λ e. plain (part_of Const s e)))
      by_one true = λ e h t. (done_gives {s = t} {z = param s 0} refl).gives
      by_one false = λ e h t. (done_gives {s = t} {z = param s e} refl).gives

  pub const_reads : Asks Const s → WayFits (fed_of Const s) (total s.outs) (way_of Const s) 8
  const_reads a = by_one (nat_eq (length s.params) 1) refl
    where
      number : (b : Bool) → nat_eq (length s.params) 1 ≡ b → (e : ℕ) → e < total s.outs → IsSpelled (if b then param s 0 else param s e)
      number b q e h =
          subst (λ (c : Bool). IsSpelled (if c then param s 0 else param s e)) q
          (spelled_in (out_type s) (spread s.params e) (spread_in_range (out_type s) (size s) s.params a.2 e (in_size s a.0.outs_alike a.0.one e h)))

      by_one : (b : Bool) → nat_eq (length s.params) 1 ≡ b
          → WayFits (fed_of Const s) (total s.outs) (if b then all 0 (recipe_of Const s) else each (λ e. plain (part_of Const s e))) 8
      by_one true q = way_reads Const s 8 q (λ e h. (tt, number true q e h))
      by_one false q = λ e h. (tt, number false q e h)

module _ (s : Spec) (x : List ℤ) (m : ℕ) (u : List ℤ) (e : ℕ) (h : e < total s.outs) (t : Scratch) where
  pub mux_gives : Asks Mux s → Gives (given_for s x m u e) (plain (part_of Mux s e)) t (cell_of Mux s x m u e)
  mux_gives a =
      (done_gives (flat_is (given_for s x m u e) t u s.ins 0 0 e (λ i j l. ap (at u) (before_is i j)) (omega (arith, h, a.0.totals)) ∙ ap
      (λ (n : ℕ). Some (at u n)) (omega arith))).gives
    where
      before_is : (i j : ℕ) → before s.ins (0 + i) + j ≡ 0 + before s.ins i + j
      before_is i j = let z : 0 + i ≡ i = omega arith in rw z (omega arith)

  pub demux_gives : Gives (given_for s x m u e) (recipe_of Demux s) t (cell_of Demux s x m u e)
  demux_gives = (done_gives (ap Some (given_first s x m u e))).gives

  pub extractor_gives : Gives (given_for s x m u e) (plain (part_of Extractor s e)) t (cell_of Extractor s x m u e)
  extractor_gives = (done_gives (ap Some (given_first s x m u (unsigned_abs (param s e) - 1)))).gives

-- ---- what they read

module _ (s : Spec) (e : ℕ) (h : e < total s.outs) where
  pub mux_reads : Asks Mux s → IsFed Mux s → RecipeFits (fed_part Mux s e) (plain (part_of Mux s e))
  mux_reads a f = (
    tt,
    flat_read (fed_part Mux s e) s.ins 0 e (λ i j l d. subst (λ (n : ℕ). (fed_part Mux s e).input n j) (omega arith) ((l, d), f i l refl))
        (omega (arith, h, a.0.totals)),
  )

  pub demux_reads : Asks Demux s → IsFed Demux s → RecipeFits (fed_for Demux s e) (recipe_of Demux s)
  demux_reads a f = (tt, ((omega (arith, a.1), omega (arith, h, a.0.totals, only_total s.ins a.1)), f 0 (omega (arith, a.1)) refl))

  pub extractor_reads : Asks Extractor s → IsFed Extractor s → RecipeFits (fed_part Extractor s e) (plain (part_of Extractor s e))
  extractor_reads a f =
      let n = in_size s a.0.outs_alike a.0.one e h in
      let b = a.4 e (omega (arith, n, a.3)) in
      (tt, ((omega (arith, a.1), one_below (param s e) (elements (port_at s.ins 0)) b.0 b.1), f 0 (omega (arith, a.1)) refl))
    where
      one_below : (p : ℤ) (n : ℕ) → pos 1 ≤ℤ p → unsigned_abs p ≤ n → unsigned_abs p - 1 < n
      one_below (pos p) n h k = omega (arith, ints)
      one_below (negsuc p) n h k = absurd (omega (arith, ints))
