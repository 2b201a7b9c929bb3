-- The text of a block's values, where its way is right.
use Rattle.std.proofs.Common.{◌≡◌, ℕ, zero, suc, ◌+◌, ◌<◌, ◌≤◌, Option, Some, None, Bool, true, false, refl, sym, ap, ◌∙◌, subst, arith, ℤ, pos, List, true≢false, if◌then◌else◌}
use Rattle.std.specs.Prelude.{◌≢◌, unwrap_or}
use Rattle.sci_forms.specs.declared.Kind.{Kind}
use Rattle.sci_forms.specs.declared.Kind.TheVariants.{Sensor}
use Rattle.sci_forms.specs.declared.spec.Spec.{Spec}
use Rattle.sci_forms.specs.Ports.{total, Fills}
use Rattle.sci_forms.specs.Typed.{typed}
use Rattle.sci_kinds.specs.Asks.{IsState, IsMask}
use Rattle.sci_kinds.specs.Table.{Answer, Values, NoFit, NoQuotient, cell, out}
use Rattle.c_ast.specs.Syntax.{Block, done}
use Rattle.c_mean.specs.Meaning.{World, Ran, then_run, is_zero, Around, run_block}
use Rattle.c_mean.specs.Places.{get, Has, Keeps, is_scratch}
use Rattle.c_mean.specs.Texts.{upto}
use Rattle.sci_cgen_blocks.specs.Terms.{Scratch, value, Recipe, Gives, Way, each, all, decide, Under, WayGives, is_looped, RecipeFits, WayFits}
use Rattle.sci_cgen_blocks.specs.Recipes.{way_of, scratch_of, given, fed}
use Rattle.sci_cgen_blocks.specs.Laws.{CellLaw, CellReadsLaw}
use Rattle.sci_cgen_blocks.specs.Texts.{fixed, counted_by, Places, written, values, states, masks, scratch_name, input_place, expression, recipe_text, looped_text, way_text, values_text, body_text}
use Rattle.sci_cgen_blocks.specs.Meant.{Holds, HasScratch, IsFed, IsApart, Answers, AreInBounds}
use Rattle.sci_cgen_blocks.proofs.Shown.{ShowsGiven, expression_is}
use Rattle.sci_cgen_blocks.proofs.Steps.{choice_runs}
use Rattle.sci_cgen_blocks.proofs.Elements.{DoesAll, recipe_does, as_turn, as_cell, all_elements, done_does}
use Rattle.sci_cgen_blocks.proofs.Looped.{loop_does}

-- ---- what is held

-- the scratch numbers of a memory
abbrev pub scratch_in : World → Scratch
scratch_in w n = unwrap_or (get w (scratch_name n) 0) (pos 0)

pub there_is : (w : World) (n : ℕ) → Has w (scratch_name n) 0 → get w (scratch_name n) 0 ≡ Some (scratch_in w n)
there_is w n h = h.is ∙ ap (λ (o : Option ℤ). Some (unwrap_or o (pos 0))) (sym h.is)

-- what is held, for texts that are written for an element by its number
pub shows_fed : (s : Spec) (p : Places) (x : List ℤ) (m : ℕ) (u : List ℤ) (w : World) → Holds s p (IsFed s) x m u w → HasScratch s w → (j e : ℕ)
    → j ≤ scratch_of s.kind s
    → ShowsGiven (written p (fixed e)) (record (fed s) { scratch = j; element = e }) (record (given s x m u) { element = e }) (scratch_in w) w
shows_fed s p x m u w h room j e few = record {
  input = λ k i f. h.ins k i f.0.0 f.0.1 f.1;
  state = λ i f. h.state i f;
  mask = h.mask;
  scratch = λ n l r. there_is w n (room n l (omega (arith, r, few)));
  which = refl;
  same = refl;
}

-- and for one that a scratch number counts
pub shows_counted : (s : Spec) (p : Places) (x : List ℤ) (m : ℕ) (u : List ℤ) (w : World) → Holds s p (IsFed s) x m u w → HasScratch s w → AreInBounds s p
    → (j e : ℕ) → e < total s.outs → suc j ≤ scratch_of s.kind s → get w (scratch_name (suc j)) 0 ≡ Some (pos e)
    → ShowsGiven (written p (counted_by (suc j))) (record (fed s) { scratch = j; element = e }) (record (given s x m u) { element = e }) (scratch_in w) w
shows_counted s p x m u w h room bounds j e l few here = record {
  input = λ k i f. h.ins k i f.0.0 f.0.1 f.1;
  state = λ i f. h.state i f;
  mask = h.mask;
  scratch = λ n a r. there_is w n (room n a (omega (arith, r, few)));
  which = record {
    behind = omega arith;
    is = here;
    input = λ k f. bounds.ins k e f.0;
    state = λ f. omega (arith, f, bounds.state);
    next = λ f. omega (arith, f, bounds.state);
  };
  same = refl;
}

-- what is held stays while the outputs are worked out
pub holds_on : (s : Spec) (p : Places) (x : List ℤ) (m : ℕ) (u : List ℤ) (w w' : World) → IsApart s p → Holds s p (IsFed s) x m u w
    → Keeps is_scratch values p.outs (total s.outs) w w' → Holds s p (IsFed s) x m u w'
holds_on s p x m u w w' apart h k = record {
  ins = λ i e a b f. k.same values (input_place p i e) (record { kept = refl; apart = λ q. apart i e a b f }) ∙ h.ins i e a b f;
  state = λ i l. k.same states (p.state + i) (record { kept = refl; apart = λ q. absurd (true≢false (sym q)) }) ∙ h.state i l;
  mask = λ f. k.same masks p.mask (record { kept = refl; apart = λ q. absurd (true≢false (sym q)) }) ∙ h.mask f;
  outs = λ e l. k.there values (p.outs + e) (h.outs e l);
}

-- ---- the answer

answers_of : (s : Spec) (p : Places) (w : World) (a : Answer) (r : Ran) → DoesAll p (total s.outs) w a r → Answers s p w a r
answers_of s p w (Values vs) r h = h
answers_of s p w NoFit r h = h
answers_of s p w NoQuotient r h = h

pub values_are : (c : Kind) (s : Spec) (p : Places) → c ≢ Sensor → values_text c s p ≡ way_text p (total s.outs) (way_of c s)
values_are Sensor s p h = absurd (h refl)
values_are _ s p h = refl

module _ (env : Around) (s : Spec) (p : Places) (x : List ℤ) (m : ℕ) (u : List ℤ) (apart : IsApart s p) (bounds : AreInBounds s p) where
  abbrev Does : World → Ran → Type 0
  Does w r = DoesAll p (total s.outs) w (out s x m u) r

  abbrev IsRight : Way → Type 0
  IsRight y = WayGives (given s x m u) (total s.outs) (cell s x m u) y

  abbrev DoesWay : World → Way → Type 0
  DoesWay w y = (i : ℕ) → IsRight y → Does w (run_block env i (way_text p (total s.outs) y) w)

  -- what the text stands on, which stays while it runs
  record Stands (w : World) : Type 0 where
    pub holds : Holds s p (IsFed s) x m u w
    pub room : HasScratch s w

  stands_on : (w w' : World) → Stands w → Keeps is_scratch values p.outs (total s.outs) w w' → Stands w'
  stands_on w w' h k = record {
    holds = holds_on s p x m u w w' apart h.holds k;
    room = λ n l r. k.there (scratch_name n) 0 (h.room n l r);
  }

  -- element by element
  each_does : (f : ℕ → Recipe) (j k : ℕ) (w : World) → j ≤ scratch_of s.kind s
      → ((e : ℕ) → e < total s.outs → RecipeFits (record (fed s) { scratch = j; element = e }) (f e))
      → ((e : ℕ) → e < total s.outs → (t : Scratch) → Gives (record (given s x m u) { element = e }) (f e) t (cell s x m u e)) → Stands w
      → Does w (run_block env k (upto (λ e. recipe_text (written p (fixed e)) (f e)) (total s.outs)) w)
  each_does f j k w few fits gives h =
      all_elements env p (total s.outs) (λ e. recipe_text (written p (fixed e)) (f e)) (cell s x m u) Stands stands_on
      (λ e l k' v i. as_cell (fixed e) p e v (cell s x m u e) (run_block env k' (recipe_text (written p (fixed e)) (f e)) v)
      (recipe_does env (written p (fixed e)) (record (fed s) { scratch = j; element = e }) (record (given s x m u) { element = e }) v (i.holds.outs e l)
      (omega (arith, l, bounds.outs)) (f e)
      (cell s x m u e) k' (scratch_in v) (fits e l) (shows_fed s p x m u v i.holds i.room j e few) (gives e l (scratch_in v)))) k w h

  -- in a loop
  counted_does : (r : Recipe) (j k : ℕ) (w : World) → suc j ≤ scratch_of s.kind s
      → ((e : ℕ) → e < total s.outs → RecipeFits (record (fed s) { scratch = j; element = e }) r)
      → ((e : ℕ) → e < total s.outs → (t : Scratch) → Gives (record (given s x m u) { element = e }) r t (cell s x m u e)) → Stands w
      → Does w (run_block env k (looped_text p (total s.outs) (suc j) r) w)
  counted_does r j k w few fits gives h =
      loop_does env p (total s.outs) (suc j) (recipe_text (written p (counted_by (suc j))) r) (cell s x m u) Stands bounds.count stands_on
      (λ e l k' v i here. as_turn (counted_by (suc j)) p e v (cell s x m u e) (run_block env k' (recipe_text (written p (counted_by (suc j))) r) v)
      (recipe_does env (written p (counted_by (suc j))) (record (fed s) { scratch = j; element = e }) (record (given s x m u) { element = e }) v
      (i.holds.outs e l) (omega (arith, l, bounds.outs)) r (cell s x m u e) k' (scratch_in v) (fits e l) (shows_counted s p x m u v i.holds i.room bounds j e l few here)
      (gives e l (scratch_in v)))) k w (h.room (suc j) (omega arith) few) h

  -- The text of a way that gives the cells does so.
  way_does : (y : Way) (d k : ℕ) (w : World) → WayFits (fed s) (total s.outs) y d → IsRight y → Stands w → Does w (run_block env k (way_text p (total s.outs) y) w)
  way_does (each f) d k w fits gives h = each_does f (scratch_of s.kind s) k w (omega arith) fits gives h
  way_does (all j r) d k w fits gives h = by_size (is_looped (total s.outs)) fits.1
    where
      by_size : (b : Bool) → (b ≡ true → suc j ≤ scratch_of s.kind s)
          → Does w (run_block env k (if b then looped_text p (total s.outs) (suc j) r else upto (λ e. recipe_text (written p (fixed e)) r) (total s.outs)) w)
      by_size true room = counted_does r j k w (room refl) fits.2 gives h
      by_size false room = each_does (λ e. r) j k w fits.0 fits.2 gives h
  way_does (decide c a b) zero k w fits gives h = absurd fits
  way_does (decide c a b) (suc d) k w fits gives h =
      by_value (value (given s x m u) (scratch_in w) c) refl (gives (scratch_in w)) (λ i g. way_does a d i w fits.1 g h) (λ j g. way_does b d j w fits.2 g h)
    where
      by_test : (i j l : ℕ) (z : ℤ) (t : Bool) → is_zero z ≡ t → Under (Some z) (IsRight a) (IsRight b) → DoesWay w a → DoesWay w b
          → Does w (then_run (if t then run_block env j (way_text p (total s.outs) b) w else run_block env i (way_text p (total s.outs) a) w)
          (run_block env l done))
      by_test i j l z true e g first second =
          done_does p (total s.outs) w (out s x m u) (run_block env j (way_text p (total s.outs) b) w) env l (second j (g.1 e))
      by_test i j l z false e g first second =
          done_does p (total s.outs) w (out s x m u) (run_block env i (way_text p (total s.outs) a) w) env l (first i (g.0 e))

      by_value : (o : Option ℤ) → value (given s x m u) (scratch_in w) c ≡ o → Under o (IsRight a) (IsRight b) → DoesWay w a → DoesWay w b
          → Does w (run_block env k (way_text p (total s.outs) (decide c a b)) w)
      by_value None e g first second = absurd g
      by_value (Some z) e g first second =
          choice_runs (Does w) env k (expression (written p (fixed 0)) c) (way_text p (total s.outs) a) (way_text p (total s.outs) b) done w z
          (expression_is (written p (fixed 0)) (fed s) (given s x m u) (scratch_in w) w
          (shows_fed s p x m u w h.holds h.room (scratch_of s.kind s) 0 (omega arith)) 32 c fits.0 ∙ e)
          (λ i j l. by_test i j l z (is_zero z) refl g first second)

-- The text of a block's values gives what the table of kinds says.
pub body_answers : CellLaw → CellReadsLaw → (env : Around) (s : Spec) (p : Places) (x : List ℤ) (m : ℕ) (u : List ℤ) (k : ℕ) (w : World) → typed s ≡ true
    → s.kind ≢ Sensor → IsState s x → IsMask s m → Fills s.ins u → Holds s p (IsFed s) x m u w → HasScratch s w → AreInBounds s p → IsApart s p
    → Answers s p w (out s x m u) (run_block env k (body_text s p) w)
body_answers gives reads env s p x m u k w is_typed other st mk fills h room bounds apart =
    subst (λ (b : Block). Answers s p w (out s x m u) (run_block env k b w)) (sym (values_are s.kind s p other))
    (answers_of s p w (out s x m u) (run_block env k (way_text p (total s.outs) (way_of s.kind s)) w)
    (way_does env s p x m u apart bounds (way_of s.kind s) 8 k w (reads s is_typed other) (gives s x m u is_typed other st mk fills)
    (record { holds = h; room = room })))
