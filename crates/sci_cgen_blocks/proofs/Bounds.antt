-- The texts of a block are within the bounds of the subset.
use Rattle.std.proofs.Common.{◌≡◌, ℕ, zero, suc, ◌+◌, ◌-◌, ◌<◌, ◌≤◌, ◌^◌, true, refl, sym, ap, ◌∙◌, subst, arith, inl, inr, ◌⊎◌, pos, negsuc, List, [], ◌∷◌, Bool, false, ◌&&◌, if◌then◌else◌, ltb-true}
use Rattle.std.specs.Prelude.{◌≢◌}
use Rattle.std.proofs.lemmas.Int.{ints}
use Rattle.sci_forms.specs.declared.Kind.{Kind}
use Rattle.sci_forms.specs.declared.Kind.TheVariants.{Sensor, LogicalOp, Shift}
use Rattle.sci_forms.specs.declared.spec.Spec.{Spec}
use Rattle.sci_base.specs.Fit.{InRange}
use Rattle.sci_base.specs.Lists.{listed}
use Rattle.sci_forms.specs.declared.ports.Port.{Port}
use Rattle.sci_forms.specs.Ports.{total, type_at, Fills}
use Rattle.sci_forms.specs.Form.{is_sync, has_delay}
use Rattle.sci_kinds.proofs.Elements.{listed_at}
use Rattle.sci_kinds.proofs.Ranges.{zero_in_range}
use Rattle.sci_forms.specs.Words.{state_len_of}
use Rattle.sci_forms.specs.Typed.{typed}
use Rattle.c_ast.specs.Syntax.{Exp, num, var, element, neg, not, bin, Block, done, next}
use Rattle.c_ast.specs.Bounds.{Fits, IsExp, StatementFits, BlockFits, IsName}
use Rattle.c_mean.specs.Texts.{joined, upto}
use Rattle.sci_cgen_blocks.specs.Terms.{Term, constant, input, along, state, state_along, state_behind, mask, scratch, both, Work, assign, assign_if, Step, change, stop_if, repeat, Recipe, Way, each, all, decide, is_looped, Readable, TermFits, WorkFits, WorksFit, StepsFit, RecipeFits, WayFits}
use Rattle.sci_cgen_blocks.specs.Recipes.{way_of, next_term, next_alike, next_along, delay_term, branch_term, worked_of, is_alike, scratch_of, fed, from_value, inputs}
use Rattle.sci_cgen_blocks.specs.Laws.{CellReadsLaw, NextReadsLaw, NextAlongReadsLaw}
use Rattle.sci_cgen_blocks.specs.Texts.{Which, fixed, counted_by, Places, written, scratch_name, input_start, input_place, element_place, expression, work_statement, works_text, steps_text, recipe_text, looped_text, way_text, sensor_text, body_text, next_value_text, next_loop, next_text, delay_expression, branch_expression}
use Rattle.sci_cgen_blocks.specs.Meant.{AreInBounds}
use Rattle.sci_cgen_blocks.proofs.Effects.{delay_term_law, branch_term_law}
use Rattle.sci_cgen_blocks.proofs.Bodies.{values_are}
use Rattle.sci_cgen_blocks.proofs.Shallow.{deepened, deepened_sum, AreShallow, way_shallow}
use Rattle.sci_cgen_blocks.proofs.Sensing.{sensor_values, sensor_column, sensor_out, is_kind}

-- ---- expressions

-- what fits fits where more do
pub fits_more : (d d' : ℕ) (e : Exp) → Fits d e → d ≤ d' → Fits d' e
fits_more zero d' e f l = absurd f
fits_more (suc d) zero e f l = absurd (omega (arith, l))
fits_more (suc d) (suc d') (num z) f l = f
fits_more (suc d) (suc d') (var x) f l = f
fits_more (suc d) (suc d') (element x e) f l = (f.0, fits_more d d' e f.1 (omega (arith, l)))
fits_more (suc d) (suc d') (neg e) f l = fits_more d d' e f (omega (arith, l))
fits_more (suc d) (suc d') (not e) f l = fits_more d d' e f (omega (arith, l))
fits_more (suc d) (suc d') (bin op a b) f l = (fits_more d d' a f.0 (omega (arith, l)), fits_more d d' b f.1 (omega (arith, l)))

-- the element that is written for is there, or it is counted by a scratch number that can be spelled
abbrev IsNumbered : Which → ℕ → Type 0
IsNumbered (fixed i) e = i ≡ e
IsNumbered (counted_by c) e = c < 2 ^ 32

-- what may be read lies at places that can be spelled
record HasBounds (p : Places) (r : Readable) : Type 0 where
  pub input : (k e : ℕ) → r.input k e → input_place p k e < 2 ^ 63
  pub state : (i : ℕ) → r.state i → p.state + i < 2 ^ 63
  pub mask : p.mask < 2 ^ 63
  pub number : p.number < 2 ^ 63
  pub scratch : r.scratch < 2 ^ 32
  pub which : IsNumbered p.which r.element

is_number : (n : ℕ) → n < 2 ^ 63 → (d : ℕ) → Fits (suc d) (num (pos n))
is_number n h d = h

scratch_is_name : (p : Places) (r : Readable) (n : ℕ) → HasBounds p r → n ≤ r.scratch → IsName (scratch_name n)
scratch_is_name p r n h l = (refl, omega (arith, l, h.scratch))

place_fits : (q : Which) (e o d : ℕ) → IsNumbered q e → o + e < 2 ^ 63 → Fits (suc (suc d)) (element_place q o)
place_fits (fixed i) e o d h l = omega (arith, h, l)
place_fits (counted_by c) e o d h l = ((refl, h), omega (arith, l))

expression_fits : (p : Places) (r : Readable) → HasBounds p r → (d : ℕ) (t : Term) → TermFits r d t → Fits (suc (suc d)) (expression p t)
expression_fits p r h zero t f = absurd f
expression_fits p r h (suc d) (constant (pos n)) f = omega (arith, ints, f.1)
expression_fits p r h (suc d) (constant (negsuc n)) f = omega (arith, ints, f.0)
expression_fits p r h (suc d) (input k e) f = ((refl, omega arith), h.input k e f)
expression_fits p r h (suc d) (along k) f = ((refl, omega arith), place_fits p.which r.element (input_start p k) d h.which (h.input k r.element f))
expression_fits p r h (suc d) (state i) f = ((refl, omega arith), h.state i f)
expression_fits p r h (suc d) state_along f = ((refl, omega arith), place_fits p.which r.element p.state d h.which (h.state r.element f))
expression_fits p r h (suc d) state_behind f =
    ((refl, omega arith), place_fits p.which r.element (suc p.state) d h.which (omega (arith, h.state (suc r.element) f)))
expression_fits p r h (suc d) mask f = ((refl, omega arith), h.mask)
expression_fits p r h (suc d) (scratch n) f = scratch_is_name p r n h f.1
expression_fits p r h (suc d) (both op a b) f = (expression_fits p r h d a f.0, expression_fits p r h d b f.1)

is_exp : (p : Places) (r : Readable) → HasBounds p r → (t : Term) → TermFits r 32 t → IsExp (expression p t)
unfolding IsExp
is_exp p r h t f = fits_more 34 64 (expression p t) (expression_fits p r h 32 t f) (omega arith)

number_is_exp : (n : ℕ) → n < 2 ^ 63 → IsExp (num (pos n))
unfolding IsExp
number_is_exp n h = h

place_is_exp : (q : Which) (e o : ℕ) → IsNumbered q e → o + e < 2 ^ 63 → IsExp (element_place q o)
unfolding IsExp
place_is_exp q e o h l = place_fits q e o 62 h l

first_is_exp : IsExp (var (scratch_name 1))
unfolding IsExp
first_is_exp = (refl, omega arith)

-- ---- statements

module _ (p : Places) (r : Readable) (h : HasBounds p r) where
  work_fits : (d : ℕ) (x : Work) → WorkFits r x → StatementFits (suc (suc d)) (work_statement p x)
  work_fits d (assign n t) f = (scratch_is_name p r n h f.0.1, is_exp p r h t f.1)
  work_fits d (assign_if c n t) f = (is_exp p r h c f.1, ((scratch_is_name p r n h f.0.1, is_exp p r h t f.2), tt), tt)

  works_fit : (d : ℕ) (ws : List Work) → WorksFit r ws → BlockFits (suc (suc d)) (works_text p ws)
  works_fit d [] f = tt
  works_fit d (x ∷ ws) f = (work_fits d x f.0, works_fit d ws f.1)

  steps_fit : (d : ℕ) (xs : List Step) (rest : Block) → StepsFit r xs → BlockFits (suc (suc (suc d))) rest
      → BlockFits (suc (suc (suc (deepened xs d)))) (steps_text p xs rest)
  steps_fit d [] rest f q = q
  steps_fit d (change x ∷ xs) rest f q = (work_fits (suc (deepened xs d)) x f.0, steps_fit d xs rest f.1 q)
  steps_fit d (stop_if c word ∷ xs) rest f q = (
    (
      is_exp p r h c f.0.0,
      ((number_is_exp word (omega (arith, f.0.1)), number_is_exp p.number h.number, number_is_exp 0 (omega arith)), tt),
      steps_fit d xs rest f.1 q,
    ),
    tt,
  )
  steps_fit d (repeat n k ws ∷ xs) rest f q =
      ((scratch_is_name p r n h f.0.0.1, omega (arith, f.0.1), works_fit (deepened xs d) ws f.0.2), steps_fit d xs rest f.1 q)

  recipe_fits : (d : ℕ) (x : Recipe) → RecipeFits r x → deepened x.steps 0 ≤ 2 → p.outs + r.element < 2 ^ 63
      → BlockFits (suc (suc (suc (suc (suc d))))) (recipe_text p x)
  recipe_fits d x f few q =
      let left : ℕ = (2 - deepened x.steps 0) + d in
      let deep : deepened x.steps left ≡ suc (suc d) = omega (arith, few, deepened_sum x.steps left) in
      subst (λ (i : ℕ). BlockFits (suc (suc (suc i))) (recipe_text p x)) deep
      (steps_fit left x.steps _ f.0 ((((refl, omega arith), place_is_exp p.which r.element p.outs h.which q), is_exp p r h x.value f.1), tt))

pub joined_fits : (d : ℕ) (a b : Block) → BlockFits d a → BlockFits d b → BlockFits d (joined a b)
joined_fits d done b p q = q
joined_fits d (next s a) b p q = (p.0, joined_fits d a b p.1 q)

pub upto_fits : (d : ℕ) (f : ℕ → Block) (n : ℕ) → ((e : ℕ) → e < n → BlockFits d (f e)) → BlockFits d (upto f n)
upto_fits d f zero go = tt
upto_fits d f (suc n) go = joined_fits d (upto f n) (f n) (upto_fits d f n (λ e h. go e (omega (arith, h)))) (go n (omega arith))

-- what may be read with so many scratch numbers, where this element is worked out
abbrev pub works_on : Readable → ℕ → ℕ → Readable
works_on r j e = record r { scratch = j; element = e }

numbered_bounds : (p : Places) (r : Readable) (q : Which) (j e : ℕ) → HasBounds (written p (fixed 0)) r → j ≤ r.scratch → IsNumbered q e
    → HasBounds (written p q) (works_on r j e)
numbered_bounds p r q j e h few is = record {
  input = h.input;
  state = h.state;
  mask = h.mask;
  number = h.number;
  scratch = omega (arith, few, h.scratch);
  which = is;
}

-- a loop has elements
pub some_looped : (n : ℕ) → is_looped n ≡ true → 0 < n
some_looped n h = let more : 2 < n = ltb-true 2 n h in omega (arith, more)

-- decisions nest as deep as they are one in the other, and a loop stands in the innermost
module _ (p : Places) (r : Readable) (h : HasBounds (written p (fixed 0)) r) (n : ℕ) (places : p.outs + n ≤ 2 ^ 63) (count : n < 2 ^ 63) where
  each_fits : (f : ℕ → Recipe) (j d : ℕ) → j ≤ r.scratch → ((e : ℕ) → e < n → RecipeFits (works_on r j e) (f e))
      → ((e : ℕ) → e < n → deepened (f e).steps 0 ≤ 2) → BlockFits (suc (suc (suc (suc (suc d))))) (upto (λ e. recipe_text (written p (fixed e)) (f e)) n)
  each_fits f j d few fits shallow =
      upto_fits (suc (suc (suc (suc (suc d))))) _ n (λ e l.
      recipe_fits (written p (fixed e)) (works_on r j e) (numbered_bounds p r (fixed e) j e h few refl) d (f e) (fits e l) (shallow e l) (omega (arith, l, places)))

  -- one element of the loop stands for all
  looped_fits : (x : Recipe) (j d : ℕ) → suc j ≤ r.scratch → 0 < n → RecipeFits (works_on r j 0) x → deepened x.steps 0 ≤ 2
      → BlockFits (suc (suc (suc (suc (suc (suc d)))))) (looped_text p n (suc j) x)
  looped_fits x j d few some fits shallow =
      let small : suc j < 2 ^ 32 = omega (arith, few, h.scratch) in (
        (
          (refl, small),
          count,
          recipe_fits (written p (counted_by (suc j))) (works_on r j 0) (numbered_bounds p r (counted_by (suc j)) j 0 h (omega (arith, few)) small) d x fits shallow
              (omega (arith, some, places)),
        ),
        tt,
      )

  way_fits : (y : Way) (k d : ℕ) → WayFits r n y k → AreShallow n y → BlockFits (k + (6 + d)) (way_text p n y)
  way_fits (each f) k d fits shallow =
      let deep : suc (suc (suc (suc (suc (suc (k + d)))))) ≡ k + (6 + d) = omega arith in
      subst (λ (i : ℕ). BlockFits i (way_text p n (each f))) deep (each_fits f r.scratch (suc (k + d)) (omega arith) fits shallow)
  way_fits (all j x) k d fits shallow =
      let deep : suc (suc (suc (suc (suc (suc (k + d)))))) ≡ k + (6 + d) = omega arith in
      subst (λ (i : ℕ). BlockFits i (way_text p n (all j x))) deep (by_size (is_looped n) refl fits.1)
    where
      by_size : (b : Bool) → is_looped n ≡ b → (b ≡ true → suc j ≤ r.scratch)
          → BlockFits (suc (suc (suc (suc (suc (suc (k + d))))))) (if b then looped_text p n (suc j) x else upto (λ e. recipe_text (written p (fixed e)) x) n)
      by_size true is room = let some : 0 < n = some_looped n is in looped_fits x j (k + d) (room refl) some (fits.2 0 some) shallow
      by_size false is room = each_fits (λ e. x) j (suc (k + d)) fits.0 fits.2 (λ e l. shallow)
  way_fits (decide c a b) zero d fits shallow = absurd fits
  way_fits (decide c a b) (suc k) d fits shallow =
      let deep : suc (k + (6 + d)) ≡ suc k + (6 + d) = omega arith in
      subst (λ (i : ℕ). BlockFits i (way_text p n (decide c a b))) deep
      ((is_exp (written p (fixed 0)) r h c fits.0, way_fits a k d fits.1 shallow.0, way_fits b k d fits.2 shallow.1), tt)

-- ---- blocks

pub worked_few : (c : Kind) (s : Spec) → worked_of c s ≤ 4
worked_few LogicalOp s = by_tests _ _
  where
    by_tests : (b more : Bool) → (if b then 1 else if more then 3 else 1) ≤ 4
    by_tests true more = omega arith
    by_tests false true = omega arith
    by_tests false false = omega arith
worked_few Shift s = by_test _
  where
    by_test : (b : Bool) → (if b then 0 else 1) ≤ 4
    by_test true = omega arith
    by_test false = omega arith
worked_few _ s = omega arith

pub scratch_few : (c : Kind) (s : Spec) → scratch_of c s ≤ 5
scratch_few c s = by_test (is_alike c s && is_looped (total s.outs)) (worked_few c s)
  where
    by_test : (b : Bool) → worked_of c s ≤ 4 → (if b then suc (worked_of c s) else worked_of c s) ≤ 5
    by_test true h = omega (arith, h)
    by_test false h = omega (arith, h)

module _ (s : Spec) (p : Places) (places : AreInBounds s p) where
  fed_bounds : HasBounds (written p (fixed 0)) (fed s)
  fed_bounds = record {
    input = λ k e f. places.ins k e f.0;
    state = λ i f. omega (arith, f, places.state);
    mask = places.mask;
    number = places.number;
    scratch = omega (arith, scratch_few s.kind s);
    which = refl;
  }

  from_bounds : (n : ℕ) → HasBounds (written p (fixed 0)) (from_value s n)
  from_bounds n = record {
    input = λ k e f. places.ins k e f;
    state = λ i f. omega (arith, f.1, places.state);
    mask = places.mask;
    number = places.number;
    scratch = omega arith;
    which = refl;
  }

  input_bounds : HasBounds (written p (fixed 0)) (inputs s)
  input_bounds = record {
    input = λ k e f. places.ins k e f;
    state = λ i f. absurd f;
    mask = places.mask;
    number = places.number;
    scratch = omega arith;
    which = refl;
  }

  sensor_fits : (d c : ℕ) → c < 2 ^ 63 → p.outs < 2 ^ 63 → BlockFits (suc (suc d)) (sensor_text p (pos c))
  sensor_fits d c q o = (
    ((refl, omega arith), number_is_exp c q),
    (
      (
        first_is_exp,
        ((((refl, omega arith), number_is_exp p.outs o), number_is_exp c q), tt),
        ((number_is_exp 2 (omega arith), number_is_exp p.number places.number, number_is_exp 0 (omega arith)), tt),
      ),
      tt,
    ),
  )

  next_value_fits : NextReadsLaw → typed s ≡ true → (d i : ℕ) → i < state_len_of s.kind s → BlockFits (suc d) (next_value_text s p i)
  next_value_fits reads is_typed d i l = (
    (
      ((refl, omega arith), number_is_exp (p.state + i) (omega (arith, l, places.state))),
      is_exp (written p (fixed 0)) (from_value s i) (from_bounds i) (next_term s.kind s i) (reads s is_typed i l),
    ),
    tt,
  )

  next_loop_fits : TermFits (record (from_value s 0) { element = 0 }) 32 (next_along s.kind s) → (d n : ℕ) → 0 < n → n ≤ state_len_of s.kind s
      → StatementFits (suc (suc d)) (next_loop s p n)
  next_loop_fits reads d n some few = (
    (refl, omega arith),
    omega (arith, few, places.steps),
    (
      (
        ((refl, omega arith), place_is_exp (counted_by 1) 0 p.state (omega arith) (omega (arith, some, few, places.state))),
        is_exp (written p (counted_by 1)) (works_on (from_value s 0) 0 0)
            (numbered_bounds p (from_value s 0) (counted_by 1) 0 0 (from_bounds 0) (omega arith) (omega arith)) (next_along s.kind s) reads,
      ),
      tt,
    ),
  )

  pub next_fits : NextReadsLaw → NextAlongReadsLaw → typed s ≡ true → (d : ℕ) → BlockFits (suc (suc d)) (next_text s p)
  next_fits reads alike_reads is_typed d = by_size (is_looped (next_alike s.kind s)) refl
    where
      by_size : (t : Bool) → is_looped (next_alike s.kind s) ≡ t → BlockFits (suc (suc d)) (
          if t then next (next_loop s p (next_alike s.kind s)) (upto (λ i. next_value_text s p (next_alike s.kind s + i)) (state_len_of s.kind s - next_alike s.kind s))
          else upto (next_value_text s p) (state_len_of s.kind s))
      by_size true e =
          let few = (alike_reads s is_typed).0 in
          let some = some_looped (next_alike s.kind s) e in (
            next_loop_fits ((alike_reads s is_typed).1 0 some) d (next_alike s.kind s) some few,
            upto_fits (suc (suc d)) (λ i. next_value_text s p (next_alike s.kind s + i)) (state_len_of s.kind s - next_alike s.kind s)
                (λ i l. next_value_fits reads is_typed (suc d) (next_alike s.kind s + i) (omega (arith, l, few))),
          )
      by_size false e = upto_fits (suc (suc d)) (next_value_text s p) (state_len_of s.kind s) (λ i l. next_value_fits reads is_typed (suc d) i l)

  pub values_fit : CellReadsLaw → typed s ≡ true → s.kind ≢ Sensor → (d : ℕ) → BlockFits (14 + d) (body_text s p)
  values_fit reads is_typed other d =
      let deep : 8 + (6 + d) ≡ 14 + d = omega arith in
      subst (BlockFits (14 + d)) (sym (values_are s.kind s p other))
      (subst (λ (i : ℕ). BlockFits i (way_text p (total s.outs) (way_of s.kind s))) deep
      (way_fits p (fed s) fed_bounds (total s.outs) places.outs places.count (way_of s.kind s) 8 d (reads s is_typed other)
      (way_shallow (total s.outs) s.kind s)))

  pub senses_fit : typed s ≡ true → s.kind ≡ Sensor → (d : ℕ) → BlockFits (suc (suc d)) (body_text s p)
  senses_fit is_typed kind d =
      let c = sensor_column s is_typed kind in
      let one = sensor_out s is_typed kind in
      subst (BlockFits (suc (suc d))) (sym (sensor_values s.kind s p kind ∙ ap (sensor_text p) c.1.0))
      (sensor_fits d (suc c.0) (omega (arith, c.1.1)) (omega (arith, one, places.outs)))

  -- The text of the values is nested at most fourteen deep.
  pub body_fits : CellReadsLaw → typed s ≡ true → (d : ℕ) → BlockFits (14 + d) (body_text s p)
  body_fits reads is_typed d = by_kind (is_kind s.kind)
    where
      by_kind : ((s.kind ≡ Sensor) ⊎ (s.kind ≢ Sensor)) → BlockFits (14 + d) (body_text s p)
      by_kind (inl e) =
          let deep : suc (suc (12 + d)) ≡ 14 + d = omega arith in subst (λ (i : ℕ). BlockFits i (body_text s p)) deep (senses_fit is_typed e (12 + d))
      by_kind (inr n) = values_fit reads is_typed n d

  pub delay_fits : TermFits (inputs s) 32 (delay_term s.kind s) → IsExp (delay_expression s p)
  delay_fits f = is_exp (written p (fixed 0)) (inputs s) input_bounds (delay_term s.kind s) f

  pub branch_fits : TermFits (inputs s) 32 (branch_term s.kind s) → IsExp (branch_expression s p)
  branch_fits f = is_exp (written p (fixed 0)) (inputs s) input_bounds (branch_term s.kind s) f

-- inputs that are all 0
some_inputs : (ps : List Port) → Fills ps (listed (λ e. pos 0) (total ps))
some_inputs ps =
    let l = listed_at (λ e. pos 0) (total ps) in
    record { enough = l.0; in_range = λ e h. subst (InRange (type_at ps e)) (sym (l.1 e h)) (zero_in_range (type_at ps e)) }

pub delay_reads : (s : Spec) → typed s ≡ true → has_delay s.kind ≡ true → TermFits (inputs s) 32 (delay_term s.kind s)
delay_reads s is_typed has = (delay_term_law s [] 0 0 (listed (λ e. pos 0) (total s.ins)) is_typed has (some_inputs s.ins) (λ n. pos 0)).1

pub branch_reads : (s : Spec) → typed s ≡ true → is_sync s.kind ≡ true → TermFits (inputs s) 32 (branch_term s.kind s)
branch_reads s is_typed sync = (branch_term_law s [] 0 (listed (λ e. pos 0) (total s.ins)) is_typed sync (some_inputs s.ins) (λ n. pos 0)).1

pub delay_fits_all : (s : Spec) (p : Places) → typed s ≡ true → has_delay s.kind ≡ true → AreInBounds s p → IsExp (delay_expression s p)
delay_fits_all s p is_typed has places = delay_fits s p places (delay_reads s is_typed has)

pub branch_fits_all : (s : Spec) (p : Places) → typed s ≡ true → is_sync s.kind ≡ true → AreInBounds s p → IsExp (branch_expression s p)
branch_fits_all s p is_typed sync places = branch_fits s p places (branch_reads s is_typed sync)
