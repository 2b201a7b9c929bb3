-- Before the run: lists of numbers at their places in an array, where all was 0.
use Rattle.std.proofs.Common.{◌≡◌, ℕ, zero, suc, ◌+◌, ◌<◌, ◌≤◌, List, [], ◌∷◌, length, Bool, true, false, Some, inl, inr, refl, ◌∙◌, subst, arith, ℤ, pos}
use Rattle.std.proofs.lemmas.Bool.{cases_lt}
use Rattle.sci_base.specs.Lists.{at}
use Rattle.c_ast.specs.declared.Name.{Name}
use Rattle.c_mean.specs.Meaning.{World, Around, run_block, same_name}
use Rattle.c_mean.specs.Places.{get, Puts, Keeps}
use Rattle.c_mean.specs.Texts.{assigns_only, upto}
use Rattle.c_mean.specs.Runs.{Leads, LeftAlone}
use Rattle.c_mean.specs.Laws.{Within}
use Rattle.c_mean.proofs.Memory.{put_there, put_apart, keeps_all, keeps_then, keeps_cell, keeps_wider}
use Rattle.c_mean.proofs.Steps.{done_leads, joined_leads, leads_as}
use Rattle.c_mean.proofs.Frames.{alone_all, alone_then}
use Rattle.sci_program.specs.Program.{begun_text, list_begun}
use Rattle.sci_program.proofs.Firings.{begun_leads}

abbrev pub nothing_spare : Name → Bool
nothing_spare x = false

-- ---- one list

pub record ListBegun (a : Name) (o : ℕ) (zs : List ℤ) (w w' : World) : Type 0 where
  pub there : (j : ℕ) → j < length zs → get w' a (o + j) ≡ Some (at zs j)
  pub rest : Keeps nothing_spare a o (length zs) w w'

module _ (env : Around) (a : Name) where
  pub list_leads : (o : ℕ) (zs : List ℤ) (k : ℕ) (w : World) → ((j : ℕ) → j < length zs → get w a (o + j) ≡ Some (pos 0))
      → ((j : ℕ) → j < length zs → Within (at zs j))
      → Leads (run_block env k (list_begun a o zs) w) (ListBegun a o zs w)
  list_leads o [] k w free fits = done_leads env k w (record { there = λ j l. absurd (omega (arith, l)); rest = keeps_all nothing_spare a o 0 w })
  list_leads o (z ∷ zs) k w free fits =
      joined_leads (λ r. Leads r (ListBegun a o (z ∷ zs) w)) env k (begun_text a o z) (list_begun a (o + 1) zs) w
      (begun_leads env a o z k w (subst (λ (i : ℕ). get w a i ≡ Some (pos 0)) (let e : o + 0 ≡ o = omega arith in e) (free 0 (omega arith)))
      (fits 0 (omega arith)))
      (λ k1 w1 p.
      leads_as (run_block env k1 (list_begun a (o + 1) zs) w1) (λ w2 h. both w1 w2 p h)
      (list_leads (o + 1) zs k1 w1
      (λ j l. put_apart w w1 a o z a (o + 1 + j) p (λ e. omega (arith, e))
      ∙ subst (λ (i : ℕ). get w a i ≡ Some (pos 0)) (let e : o + suc j ≡ o + 1 + j = omega arith in e) (free (suc j) (omega (arith, l))))
      (λ j l. fits (suc j) (omega (arith, l)))))
    where
      both : (w1 w2 : World) → Puts w a o z w1 → ListBegun a (o + 1) zs w1 w2 → ListBegun a o (z ∷ zs) w w2
      both w1 w2 p h = record {
        there = at_place;
        rest =
            keeps_then (keeps_cell nothing_spare a o (suc (length zs)) w w1 o z (omega arith) (omega arith) p)
            (keeps_wider nothing_spare a o (suc (length zs)) (o + 1) (length zs) w1 w2 (omega arith) (omega arith) h.rest);
      }
        where
          at_place : (j : ℕ) → j < suc (length zs) → get w2 a (o + j) ≡ Some (at (z ∷ zs) j)
          at_place zero l =
              subst (λ (i : ℕ). get w2 a i ≡ Some z) (let e : o ≡ o + 0 = omega arith in e)
              (h.rest.same a o (record { kept = refl; apart = λ s. inl (omega arith) }) ∙ put_there w w1 a o z p)
          at_place (suc j) l =
              subst (λ (i : ℕ). get w2 a i ≡ Some (at zs j)) (let e : o + 1 + j ≡ o + suc j = omega arith in e) (h.there j (omega (arith, l)))

-- ---- one list for each block, one behind the other

-- the first m lists are there, and behind them all is 0
pub record AllBegun (a : Name) (start : ℕ → ℕ) (vals : ℕ → List ℤ) (count m : ℕ) (w w' : World) : Type 0 where
  pub there : (b j : ℕ) → b < m → j < length (vals b) → get w' a (start b + j) ≡ Some (at (vals b) j)
  pub free : (j : ℕ) → start m ≤ j → j < start count → get w' a j ≡ Some (pos 0)
  pub rest : LeftAlone (assigns_only (same_name a)) w w'

-- a list is written in its array alone
keeps_alone : (a : Name) (o n : ℕ) (w w' : World) → Keeps nothing_spare a o n w w' → LeftAlone (assigns_only (same_name a)) w w'
keeps_alone a o n w w' h = record {
  same = λ y j q. h.same y j (record { kept = refl; apart = λ s. absurd (both_ways (same_name a y) s q) });
  there = h.there;
  left = λ q. h.left;
}
  where
    both_ways : (t : Bool) → t ≡ true → t ≡ false → ⊥
    both_ways true p q = cc
    both_ways false p q = cc

module _ (env : Around) (a : Name) (start : ℕ → ℕ) (vals : ℕ → List ℤ) (count : ℕ) (w0 : World)
    (follows : (m : ℕ) → m < count → start (suc m) ≡ start m + length (vals m)) (fits : (b j : ℕ) → b < count → j < length (vals b) → Within (at (vals b) j))
    (zero_all : (j : ℕ) → start 0 ≤ j → j < start count → get w0 a j ≡ Some (pos 0)) where
  rises : (b m : ℕ) → b ≤ m → m ≤ count → start b ≤ start m
  rises b zero l h = let same : b ≡ 0 = omega (arith, l) in subst (λ (i : ℕ). start b ≤ start i) same (omega arith)
  rises b (suc m) l h = elim (cases_lt b (suc m)) [
    | inl q ↦ let before = rises b m (omega (arith, q)) (omega (arith, h)) in let e = follows m (omega (arith, h)) in omega (arith, before, e)
    | inr q ↦ let same : b ≡ suc m = omega (arith, q, l) in subst (λ (i : ℕ). start b ≤ start i) same (omega arith)
  ]

  begun_upto : (m : ℕ) → m ≤ count → (k : ℕ) → Leads (run_block env k (upto (λ b. list_begun a (start b) (vals b)) m) w0) (AllBegun a start vals count m w0)
  begun_upto zero l k = done_leads env k w0 (record {
    there = λ b j q r. absurd (omega (arith, q));
    free = zero_all;
    rest = alone_all
        (assigns_only (same_name a)) w0;
  })
  begun_upto (suc m) l k =
      joined_leads (λ r. Leads r (AllBegun a start vals count (suc m) w0)) env k (upto (λ b. list_begun a (start b) (vals b)) m)
      (list_begun a (start m) (vals m)) w0
      (begun_upto m (omega (arith, l)) k) (λ k1 w1 h.
      leads_as (run_block env k1 (list_begun a (start m) (vals m)) w1) (λ w2 g. more w1 w2 h g)
      (list_leads env a (start m) (vals m) k1 w1 (λ j q. h.free (start m + j) (omega arith) (omega (arith, q, own_end, to_end)))
      (λ j q. fits m j (omega (arith, l)) q)))
    where
      own_end : start (suc m) ≡ start m + length (vals m)
      own_end = follows m (omega (arith, l))

      to_end : start (suc m) ≤ start count
      to_end = rises (suc m) count l (omega arith)

      more : (w1 w2 : World) → AllBegun a start vals count m w0 w1 → ListBegun a (start m) (vals m) w1 w2 → AllBegun a start vals count (suc m) w0 w2
      more w1 w2 h g = record {
        there = at_block;
        free = λ j lo hi. g.rest.same a j (record { kept = refl; apart = λ s. inr (omega (arith, lo, own_end)) }) ∙ h.free j (omega (arith, lo, own_end)) hi;
        rest = alone_then (assigns_only (same_name a)) w0 w1 w2 h.rest (keeps_alone a (start m) (length (vals m)) w1 w2 g.rest);
      }
        where
          at_block : (b j : ℕ) → b < suc m → j < length (vals b) → get w2 a (start b + j) ≡ Some (at (vals b) j)
          at_block b j q r = elim (cases_lt b m) [
            | inl s ↦ let e = follows b (omega (arith, s, l)) in let up = rises (suc b) m (omega (arith, s)) (omega (arith, l)) in
                g.rest.same a (start b + j) (record { kept = refl; apart = λ t. inl (omega (arith, r, e, up)) }) ∙ h.there b j s r
            | inr s ↦ let same : m ≡ b = omega (arith, s, q) in
                subst (λ (i : ℕ). j < length (vals i) → get w2 a (start i + j) ≡ Some (at (vals i) j)) same (λ r'. g.there j r') r
          ]

  -- All lists are there.
  pub begun_all : (k : ℕ) → Leads (run_block env k (upto (λ b. list_begun a (start b) (vals b)) count) w0) (AllBegun a start vals count count w0)
  begun_all k = begun_upto count (omega arith) k
