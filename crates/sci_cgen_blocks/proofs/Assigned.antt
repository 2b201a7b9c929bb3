-- What the texts of a block may do.
use Rattle.std.proofs.Common.{◌≡◌, ℕ, suc, ◌+◌, ◌-◌, Bool, true, false, if◌then◌else◌, ◌||◌, ◌⊎◌, inl, inr, refl, sym, subst, List, [], ◌∷◌}
use Rattle.std.specs.Prelude.{◌≢◌}
use Rattle.std.proofs.lemmas.Bool.{and_from}
use Rattle.sci_forms.specs.declared.Kind.{Kind}
use Rattle.sci_forms.specs.declared.Kind.TheVariants.{Sensor}
use Rattle.sci_forms.specs.declared.spec.Spec.{Spec}
use Rattle.sci_forms.specs.Ports.{total}
use Rattle.sci_forms.specs.Words.{state_len_of}
use Rattle.c_ast.specs.Syntax.{Block, next}
use Rattle.c_mean.specs.Meaning.{same_name}
use Rattle.c_mean.specs.Places.{is_scratch}
use Rattle.c_mean.specs.Texts.{May, upto, statement_within, block_within}
use Rattle.c_mean.proofs.Texts.{upto_within}
use Rattle.sci_cgen_blocks.specs.Terms.{Work, assign, assign_if, Step, change, stop_if, repeat, Recipe, Way, each, all, decide, is_looped}
use Rattle.sci_cgen_blocks.specs.Recipes.{way_of, next_alike}
use Rattle.sci_cgen_blocks.specs.Texts.{fixed, counted_by, Places, written, values, work_statement, works_text, step_text, steps_text, recipe_text, looped_text, way_text, values_text, body_text, next_value_text, next_loop, next_text}
use Rattle.sci_cgen_blocks.proofs.Bodies.{values_are}
use Rattle.sci_cgen_blocks.proofs.Sensing.{is_kind}
use Rattle.sci_cgen_blocks.specs.Meant.{takes_input, body_may, next_may}

-- assign scratch and values, and take input or not
abbrev may_values : Bool → May
may_values takes = record { assign = λ x. is_scratch x || same_name values x; call = λ f. false; take = takes; show = false }

module _ (takes : Bool) (p : Places) where
  work_within : (x : Work) → statement_within (may_values takes) (work_statement p x) ≡ true
  work_within (assign n t) = refl
  work_within (assign_if c n t) = refl

  works_within : (ws : List Work) → block_within (may_values takes) (works_text p ws) ≡ true
  works_within [] = refl
  works_within (x ∷ ws) = and_from _ _ (work_within x) (works_within ws)

  step_within : (x : Step) (rest : Block) → block_within (may_values takes) rest ≡ true → block_within (may_values takes) (step_text p x rest) ≡ true
  step_within (change x) rest h = and_from _ _ (work_within x) h
  step_within (stop_if c word) rest h = and_from _ _ (and_from _ _ refl h) refl
  step_within (repeat n k ws) rest h = and_from _ _ (works_within ws) h

  steps_within : (xs : List Step) (rest : Block) → block_within (may_values takes) rest ≡ true → block_within (may_values takes) (steps_text p xs rest) ≡ true
  steps_within [] rest h = h
  steps_within (x ∷ xs) rest h = step_within x (steps_text p xs rest) (steps_within xs rest h)

  recipe_within : (x : Recipe) → block_within (may_values takes) (recipe_text p x) ≡ true
  recipe_within x = steps_within x.steps _ refl

module _ (takes : Bool) (p : Places) (n : ℕ) where
  each_within : (f : ℕ → Recipe) → block_within (may_values takes) (upto (λ e. recipe_text (written p (fixed e)) (f e)) n) ≡ true
  each_within f = upto_within (may_values takes) (λ e. recipe_text (written p (fixed e)) (f e)) n (λ e h. recipe_within takes (written p (fixed e)) (f e))

  way_within : (y : Way) → block_within (may_values takes) (way_text p n y) ≡ true
  way_within (each f) = each_within f
  way_within (all j x) = by_size (is_looped n)
    where
      by_size : (b : Bool) → block_within (may_values takes)
          (if b then looped_text p n (suc j) x else upto (λ e. recipe_text (written p (fixed e)) x) n) ≡ true
      by_size true = and_from _ _ (recipe_within takes (written p (counted_by (suc j))) x) refl
      by_size false = each_within (λ e. x)
  way_within (decide c a b) = and_from _ _ (and_from _ _ (way_within a) (way_within b)) refl

values_within : (c : Kind) (s : Spec) (p : Places) → (c ≡ Sensor) ⊎ (c ≢ Sensor) → block_within (may_values (takes_input c)) (values_text c s p) ≡ true
values_within c s p (inl e) = subst (λ (c : Kind). block_within (may_values (takes_input c)) (values_text c s p) ≡ true) (sym e) refl
values_within c s p (inr n) =
    subst (λ (b : Block). block_within (may_values (takes_input c)) b ≡ true) (sym (values_are c s p n))
    (way_within (takes_input c) p (total s.outs) (way_of c s))

-- The text of the values assigns scratch and values alone, calls nothing and shows nothing; a SENSOR's alone takes input.
pub body_within : (s : Spec) (p : Places) → block_within (body_may s) (body_text s p) ≡ true
body_within s p = values_within s.kind s p (is_kind s.kind)

-- That of the next state assigns scratch and states alone.
pub next_within : (s : Spec) (p : Places) → block_within next_may (next_text s p) ≡ true
next_within s p = by_size (is_looped (next_alike s.kind s))
  where
    by_size : (t : Bool) → block_within next_may (
        if t then next (next_loop s p (next_alike s.kind s)) (upto (λ i. next_value_text s p (next_alike s.kind s + i)) (state_len_of s.kind s - next_alike s.kind s))
        else upto (next_value_text s p) (state_len_of s.kind s)) ≡ true
    by_size true =
        upto_within next_may (λ i. next_value_text s p (next_alike s.kind s + i)) (state_len_of s.kind s - next_alike s.kind s) (λ i h. refl)
    by_size false = upto_within next_may (next_value_text s p) (state_len_of s.kind s) (λ i h. refl)
