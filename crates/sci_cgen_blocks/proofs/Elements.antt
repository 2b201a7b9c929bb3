-- The text of one element, and of all elements together.
use Rattle.std.proofs.Common.{◌≡◌, ℕ, zero, suc, ◌+◌, ◌^◌, ◌<◌, ◌≤◌, inl, inr, List, [], ◌∷◌, length, Some, refl, sym, ap, ◌∙◌, subst, arith, ℤ, pos, length-append}
use Rattle.std.proofs.lemmas.Bool.{cases_lt}
use Rattle.std.proofs.lemmas.List.{get_or_append_left, get_or_push}
use Rattle.sci_base.specs.declared.observation.StopWord.TheVariants as stops
use Rattle.sci_base.specs.Lists.{at}
use Rattle.sci_kinds.specs.declared.Cell.{Cell}
use Rattle.sci_kinds.specs.declared.Cell.TheVariants.{Value, Overflow, Zero}
use Rattle.sci_kinds.specs.Table.{Answer, Values, NoFit, NoQuotient, then_cell, gathered}
use Rattle.c_ast.specs.Syntax.{cell, set, Block, done, next}
use Rattle.c_mean.specs.Meaning.{World, Ran, then_run, Around, run_block}
use Rattle.c_mean.specs.Places.{get, Has, Puts, Keeps, is_scratch}
use Rattle.c_mean.specs.Texts.{upto}
use Rattle.c_mean.specs.Runs.{Leads, Stops}
use Rattle.c_mean.proofs.Memory.{put_there, put_other, keeps_all, keeps_then, keeps_cell, keeps_wider}
use Rattle.c_mean.proofs.Steps.{number_after, run_joined, then_going, then_stops, element_runs, run_done, done_leads, leads_as}
use Rattle.sci_cgen_blocks.specs.Terms.{Given, Scratch, value, Recipe, Gives, Readable, RecipeFits}
use Rattle.sci_cgen_blocks.specs.Texts.{Which, fixed, counted_by, Places, written, values, scratch_name, element_place, expression, recipe_text}
use Rattle.sci_cgen_blocks.proofs.Shown.{IsFor, ShowsGiven, place_is, expression_is, IsWorked}
use Rattle.sci_cgen_blocks.proofs.Steps.{After, steps_run}

-- What a run does with a cell: its value is at the place of element e, and nothing else changed but scratch; or the run ends by the stop.
abbrev pub DoesCell : Places → ℕ → World → Cell → Ran → Type 0
DoesCell p e w (Value v) r = Leads r (λ w'. Keeps is_scratch values (p.outs + e) 1 w w' × (get w' values (p.outs + e) ≡ Some v))
DoesCell p e w Overflow r = Stops r stops.Overflow p.number
DoesCell p e w Zero r = Stops r stops.Zero p.number

-- a counter is still at this element
abbrev pub Still : Which → ℕ → World → Type 0
Still (fixed i) e w = Unit {0}
Still (counted_by c) e w = get w (scratch_name c) 0 ≡ Some (pos e)

-- The same, and a counter is left alone.
abbrev pub DoesTurn : Which → Places → ℕ → World → Cell → Ran → Type 0
DoesTurn q p e w (Value v) r =
    Leads r (λ w'. Keeps is_scratch values (p.outs + e) 1 w w' × (get w' values (p.outs + e) ≡ Some v) × Still q e w')
DoesTurn q p e w Overflow r = Stops r stops.Overflow p.number
DoesTurn q p e w Zero r = Stops r stops.Zero p.number

-- ---- one element

module _ (env : Around) (p : Places) (r : Readable) (g : Given) (w : World) (there : Has w values (p.outs + g.element)) (small : p.outs + g.element < 2 ^ 63) where
  abbrev place : ℕ
  place = p.outs + g.element

  abbrev Behind : ℤ → World → Type 0
  Behind v w' = Keeps is_scratch values place 1 w w' × (get w' values place ≡ Some v) × Still p.which g.element w'

  still : (q : Which) (v : ℤ) (w' w'' : World) → IsFor q p r g.element w' → Puts w' values place v w'' → Still q g.element w''
  still (fixed i) v w' w'' h q = tt
  still (counted_by c) v w' w'' h q = put_other w' w'' values place v (scratch_name c) 0 q refl ∙ h.is

  -- the value behind the steps is put at the place
  put_leads : (x : Recipe) (k : ℕ) (s : Scratch) (v : ℤ) (w' : World) → RecipeFits r x → IsWorked p r g place 1 w s w' → value g s x.value ≡ Some v
      → Leads (run_block env k (next (set (cell values (element_place p.which p.outs)) (expression p x.value)) done) w') (Behind v)
  put_leads x k s v w' f h is =
      element_runs (λ q. Leads q (Behind v)) env k values (element_place p.which p.outs) (expression p x.value) done w' place v
      (place_is p.which p r g.element p.outs w' h.shows.which (λ c n. small)) (expression_is p r g s w' h.shows 32 x.value f.1 ∙ is)
      (h.keeps.there values place there)
      (λ k'' w'' q. done_leads env k'' w'' (
        keeps_then h.keeps (keeps_cell is_scratch values place 1 w' w'' place v (omega arith) (omega arith) q),
        put_there w' w'' values place v q,
        still p.which v w' w'' h.shows.which q,
      ))

  before : (s : Scratch) → ShowsGiven p r g s w → IsWorked p r g place 1 w s w
  before s h = record { keeps = keeps_all is_scratch values place 1 w; shows = h }

  -- A recipe that gives a cell: its text does it.
  pub recipe_does : (x : Recipe) (c : Cell) (k : ℕ) (s : Scratch) → RecipeFits r x → ShowsGiven p r g s w → Gives g x s c
      → DoesTurn p.which p g.element w c (run_block env k (recipe_text p x) w)
  recipe_does x (Value v) k s f h gives =
      steps_run env p r g place 1 w (DoesTurn p.which p g.element w (Value v)) x.steps _ k w s f.0 (before s h)
      (subst (After env p r g place 1 w (DoesTurn p.which p g.element w (Value v)) _) (sym gives.works)
      (λ k' w' h'. put_leads x k' gives.behind v w' f h' gives.is))
  recipe_does x Overflow k s f h gives =
      steps_run env p r g place 1 w (DoesTurn p.which p g.element w Overflow) x.steps _ k w s f.0 (before s h)
      (subst (After env p r g place 1 w (DoesTurn p.which p g.element w Overflow) _) (sym gives) (λ ran q. q))
  recipe_does x Zero k s f h gives =
      steps_run env p r g place 1 w (DoesTurn p.which p g.element w Zero) x.steps _ k w s f.0 (before s h)
      (subst (After env p r g place 1 w (DoesTurn p.which p g.element w Zero) _) (sym gives) (λ ran q. q))

-- the places of a block are the same, whichever element is written for
pub as_turn : (q : Which) (p : Places) (e : ℕ) (w : World) (c : Cell) (r : Ran) → DoesTurn q (written p q) e w c r → DoesTurn q p e w c r
as_turn q p e w (Value v) r l = l
as_turn q p e w Overflow r l = l
as_turn q p e w Zero r l = l

-- what is done of a cell where no counter is asked about
pub as_cell : (q : Which) (p : Places) (e : ℕ) (w : World) (c : Cell) (r : Ran) → DoesTurn q (written p q) e w c r → DoesCell p e w c r
as_cell q p e w (Value v) r l = leads_as r (λ w' h. (h.0, h.1)) l
as_cell q p e w Overflow r l = l
as_cell q p e w Zero r l = l

-- ---- all elements

-- the first m of n values, or the stop
abbrev pub DoesPart : Places → ℕ → ℕ → World → Answer → Ran → Type 0
DoesPart p n m w (Values vs) r = Leads r (λ w'.
    Keeps is_scratch values p.outs n w w' × (length vs ≡ m) × ((e : ℕ) → e < m → get w' values (p.outs + e) ≡ Some (at vs e)))
DoesPart p n m w NoFit r = Stops r stops.Overflow p.number
DoesPart p n m w NoQuotient r = Stops r stops.Zero p.number

abbrev pub DoesAll : Places → ℕ → World → Answer → Ran → Type 0
DoesAll p n w (Values vs) r = Leads r (λ w'. Keeps is_scratch values p.outs n w w' × ((e : ℕ) → e < n → get w' values (p.outs + e) ≡ Some (at vs e)))
DoesAll p n w NoFit r = Stops r stops.Overflow p.number
DoesAll p n w NoQuotient r = Stops r stops.Zero p.number

module _ (env : Around) (p : Places) (n : ℕ) (f : ℕ → Block) (cells : ℕ → Cell) (I : World → Type 0)
    (stable : (w w' : World) → I w → Keeps is_scratch values p.outs n w w' → I w')
    (does : (e : ℕ) → e < n → (k : ℕ) (w : World) → I w → DoesCell p e w (cells e) (run_block env k (f e) w)) where
  one_more : (m k : ℕ) (w : World) (r : Ran) (vs : List ℤ) (c : Cell) → m < n → I w → DoesPart p n m w (Values vs) r
      → ((w : World) → I w → DoesCell p m w c (run_block env k (f m) w))
      → DoesPart p n (suc m) w (then_cell (Values vs) c) (then_run r (run_block env k (f m)))
  one_more m k w r vs (Value v) h i l go =
      let goes = go l.to (stable w l.to i l.holds.0) in
      let whole : Keeps is_scratch values p.outs n l.to goes.to =
      keeps_wider is_scratch values p.outs n (p.outs + m) 1 l.to goes.to (omega arith) (omega (arith, h)) goes.holds.0 in record {
        to = goes.to;
        is = then_going r l.to (run_block env k (f m)) l.is ∙ goes.is;
        holds = (
          keeps_then l.holds.0 whole,
          simp length-append (omega (arith, l.holds.1)),
          λ e q. elim (cases_lt e m) [
            | inl s ↦ goes.holds.0.same values (p.outs + e) (record { kept = refl; apart = λ x. inl (omega (arith, s)) })
                ∙ (l.holds.2 e s ∙ ap Some (sym (get_or_append_left vs (v ∷ []) (pos 0) e (omega (arith, s, l.holds.1)))))
            | inr s ↦ let d : e ≡ m = omega (arith, q, s) in rw d (goes.holds.1 ∙ ap Some (sym (get_or_push vs v (pos 0) m l.holds.1)))
          ],
        );
      }
  one_more m k w r vs Overflow h i l go = then_going r l.to (run_block env k (f m)) l.is ∙ go l.to (stable w l.to i l.holds.0)
  one_more m k w r vs Zero h i l go = then_going r l.to (run_block env k (f m)) l.is ∙ go l.to (stable w l.to i l.holds.0)

  one_step : (m k : ℕ) (w : World) (r : Ran) (a : Answer) (c : Cell) → m < n → I w → DoesPart p n m w a r
      → ((w : World) → I w → DoesCell p m w c (run_block env k (f m) w)) → DoesPart p n (suc m) w (then_cell a c) (then_run r (run_block env k (f m)))
  one_step m k w r (Values vs) c h i l go = one_more m k w r vs c h i l go
  one_step m k w r NoFit c h i l go = then_stops r (run_block env k (f m)) stops.Overflow p.number l
  one_step m k w r NoQuotient c h i l go = then_stops r (run_block env k (f m)) stops.Zero p.number l

  partly : (m : ℕ) → m ≤ n → (k : ℕ) (w : World) → I w → DoesPart p n m w (gathered cells m) (run_block env k (upto f m) w)
  partly zero h k w i = done_leads env k w (keeps_all is_scratch values p.outs n w, refl, λ e q. absurd (omega (arith, q)))
  partly (suc m) h k w i =
      subst (DoesPart p n (suc m) w (gathered cells (suc m))) (sym (run_joined env (upto f m) (f m) k w))
      (one_step m (number_after (upto f m) k) w (run_block env k (upto f m) w) (gathered cells m) (cells m) (omega (arith, h)) i
      (partly m (omega (arith, h)) k w i) (does m (omega (arith, h)) (number_after (upto f m) k)))

  as_all : (w : World) (a : Answer) (r : Ran) → DoesPart p n n w a r → DoesAll p n w a r
  as_all w (Values vs) r l = record { to = l.to; is = l.is; holds = (l.holds.0, l.holds.2) }
  as_all w NoFit r l = l
  as_all w NoQuotient r l = l

  -- Where the text of each element does its cell, the whole text does the answer.
  pub all_elements : (k : ℕ) (w : World) → I w → DoesAll p n w (gathered cells n) (run_block env k (upto f n) w)
  all_elements k w i = as_all w (gathered cells n) (run_block env k (upto f n) w) (partly n (omega arith) k w i)

-- behind all elements nothing is left to do
pub done_does : (p : Places) (n : ℕ) (w : World) (a : Answer) (r : Ran) (env : Around) (k : ℕ) → DoesAll p n w a r
    → DoesAll p n w a (then_run r (run_block env k done))
done_does p n w (Values vs) r env k h = record { to = h.to; is = then_going r h.to (run_block env k done) h.is ∙ run_done env k h.to; holds = h.holds }
done_does p n w NoFit r env k h = then_stops r (run_block env k done) stops.Overflow p.number h
done_does p n w NoQuotient r env k h = then_stops r (run_block env k done) stops.Zero p.number h
