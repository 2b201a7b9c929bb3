-- The texts of a block keep the static rules, wherever its names are declared.
use Rattle.std.proofs.Common.{◌≡◌, ℕ, zero, suc, ◌+◌, ◌-◌, ◌<◌, ◌≤◌, ◌⊎◌, inl, inr, List, [], ◌∷◌, ◌++◌, Bool, true, false, if◌then◌else◌, refl, sym, ◌∙◌, subst, arith, ℤ, pos, negsuc}
use Rattle.std.specs.Prelude.{◌≢◌}
use Rattle.std.proofs.lemmas.List.Folds.{list_any-append}
use Rattle.sci_forms.specs.declared.Kind.TheVariants.{Sensor}
use Rattle.sci_forms.specs.declared.spec.Spec.{Spec}
use Rattle.sci_forms.specs.Ports.{total}
use Rattle.sci_forms.specs.Words.{param, state_len_of}
use Rattle.sci_forms.specs.Form.{is_sync, has_delay, reads_mask}
use Rattle.sci_forms.specs.Typed.{typed}
use Rattle.c_ast.specs.declared.Name.{Name}
use Rattle.c_ast.specs.declared.Bound.TheVariants as bounds
use Rattle.c_ast.specs.declared.events.Opened.{Opened}
use Rattle.c_ast.specs.declared.events.Opened.TheVariants.{Branch, Turn}
use Rattle.c_ast.specs.Syntax.{Block, done, next}
use Rattle.c_ast.specs.Rules.{same_name, is_hit, is_guarded}
use Rattle.c_mean.specs.Texts.{joined, upto}
use Rattle.c_mean.proofs.Memory.{other_number}
use Rattle.sci_cgen_blocks.specs.Terms.{Term, constant, input, along, state, state_along, state_behind, mask, scratch, both, Work, assign, assign_if, changes, Step, change, stop_if, repeat, Recipe, Way, each, all, decide, is_looped, Readable, TermFits, WorkFits, WorksFit, Spares, StepFits, StepsFit, RecipeFits, WayFits}
use Rattle.sci_cgen_blocks.specs.Recipes.{way_of, next_term, next_alike, next_along, delay_term, branch_term, scratch_of, next_scratch, fed, from_value, inputs}
use Rattle.sci_cgen_blocks.specs.Texts.{Which, fixed, counted_by, Places, written, values, states, scratch_name, input_start, element_place, expression, work_statement, works_text, step_text, steps_text, recipe_text, looped_text, way_text, sensor_text, body_text, next_value_text, next_loop, next_text, delay_expression, branch_expression}
use Rattle.sci_cgen_blocks.specs.Keeping.{Scene, IsScalar, ReadsWell, MayAssign, StatementKeeps, BlockKeeps, HasBlockNames, MayWork, MayStep}
use Rattle.sci_cgen_blocks.proofs.Bodies.{values_are}
use Rattle.sci_cgen_blocks.proofs.Sensing.{sensor_takes, sensor_values, is_kind}
use Rattle.sci_cgen_blocks.proofs.Bounds.{works_on, some_looped, delay_reads, branch_reads}
use Rattle.sci_cgen_blocks.proofs.KindLaws.{cell_reads_law}
use Rattle.sci_cgen_blocks.proofs.NextStates.{next_reads_law, next_along_reads_law}

-- ---- one more open block

guarded_more : (opens : List Opened) (b : Opened) (x : Name) → is_guarded opens x ≡ false → is_hit (same_name x) b ≡ false
    → is_guarded (opens ++ b ∷ []) x ≡ false
guarded_more opens b x h k = list_any-append (is_hit (same_name x)) opens (b ∷ []) ∙ rw (h, k) refl

branch_more : (c : Scene) (opens : List Opened) (x : Name) → MayAssign c opens x → MayAssign c (opens ++ Branch ∷ []) x
branch_more c opens x h = (h.0, guarded_more opens Branch x h.1 refl)

work_more : (c : Scene) (opens : List Opened) (k : ℕ) → MayWork c opens k → MayWork c (opens ++ Branch ∷ []) k
work_more c opens k may = record {
  values = branch_more c opens values may.values;
  scratch = λ n l m. branch_more c opens (scratch_name n) (may.scratch n l m);
}

-- in a loop whose counter is another
turn_more : (c : Scene) (opens : List Opened) (x y : Name) (z : ℤ) → MayAssign c opens x → same_name x y ≡ false
    → MayAssign c (opens ++ Turn y (bounds.Num z) ∷ []) x
turn_more c opens x y z h d = (h.0, guarded_more opens (Turn y (bounds.Num z)) x h.1 (rw d refl))

-- ---- recipes

-- what counts the element that is written for is a scalar
abbrev IsNamed : Scene → Which → Type 0
IsNamed c (fixed e) = Unit {0}
IsNamed c (counted_by n) = IsScalar c (scratch_name n)

place_reads : (c : Scene) (q : Which) (o : ℕ) → IsNamed c q → ReadsWell c (element_place q o)
place_reads c (fixed e) o h = tt
place_reads c (counted_by n) o h = (h, tt)

module _ (c : Scene) (p : Places) (r : Readable) (names : HasBlockNames c r.mask r.scratch) (named : IsNamed c p.which) where
  reads_well : (d : ℕ) (t : Term) → TermFits r d t → ReadsWell c (expression p t)
  reads_well zero t f = absurd f
  reads_well (suc d) (constant (pos n)) f = tt
  reads_well (suc d) (constant (negsuc n)) f = tt
  reads_well (suc d) (input k e) f = (names.values, tt)
  reads_well (suc d) (along k) f = (names.values, place_reads c p.which (input_start p k) named)
  reads_well (suc d) (state i) f = (names.states, tt)
  reads_well (suc d) state_along f = (names.states, place_reads c p.which p.state named)
  reads_well (suc d) state_behind f = (names.states, place_reads c p.which (suc p.state) named)
  reads_well (suc d) mask f = (names.masks f, tt)
  reads_well (suc d) (scratch n) f = names.scratch n f.0 f.1
  reads_well (suc d) (both op a b) f = (reads_well d a f.0, reads_well d b f.1)

  work_keeps : (opens : List Opened) (x : Work) → WorkFits r x → MayAssign c opens (scratch_name (changes x)) → StatementKeeps c opens (work_statement p x)
  work_keeps opens (assign n t) f may = ((names.scratch n f.0.0 f.0.1, may), reads_well 32 t f.1)
  work_keeps opens (assign_if e n t) f may =
      (reads_well 32 e f.1, (((names.scratch n f.0.0 f.0.1, branch_more c opens (scratch_name n) may), reads_well 32 t f.2), tt), tt)

  is_scratch_work : (x : Work) → WorkFits r x → (1 ≤ changes x) × (changes x ≤ r.scratch)
  is_scratch_work (assign n t) f = f.0
  is_scratch_work (assign_if e n t) f = f.0

  -- in a loop that spares its counter
  works_keep : (opens : List Opened) (n : ℕ) (z : ℤ) (ws : List Work) → MayWork c opens r.scratch → WorksFit r ws → Spares n ws
      → BlockKeeps c (opens ++ Turn (scratch_name n) (bounds.Num z) ∷ []) (works_text p ws)
  works_keep opens n z [] may f spares = tt
  works_keep opens n z (x ∷ ws) may f spares =
      let is = is_scratch_work x f.0 in (
        work_keeps (opens ++ Turn (scratch_name n) (bounds.Num z) ∷ []) x f.0
            (turn_more c opens (scratch_name (changes x)) (scratch_name n) z (may.scratch (changes x) is.0 is.1) spares.0),
        works_keep opens n z ws may f.1 spares.1,
      )

  -- a text keeps the rules wherever scratch and values may be assigned
  abbrev Keeps : Block → Type 0
  Keeps b = (opens : List Opened) → MayWork c opens r.scratch → BlockKeeps c opens b

  step_keeps : (opens : List Opened) (x : Step) (rest : Block) → MayWork c opens r.scratch → StepFits r x → Keeps rest → BlockKeeps c opens (step_text p x rest)
  step_keeps opens (change x) rest may f h =
      let is = is_scratch_work x f in (work_keeps opens x f (may.scratch (changes x) is.0 is.1), h opens may)
  step_keeps opens (stop_if e word) rest may f h =
      ((reads_well 32 e f.0, ((tt, tt, tt), tt), h (opens ++ Branch ∷ []) (work_more c opens r.scratch may)), tt)
  step_keeps opens (repeat n k ws) rest may f h =
      ((names.scratch n f.0.0 f.0.1, may.scratch n f.0.0 f.0.1, tt, works_keep opens n (pos k) ws may f.2 f.3), h opens may)

  steps_keep : (opens : List Opened) (xs : List Step) (rest : Block) → MayWork c opens r.scratch → StepsFit r xs → Keeps rest
      → BlockKeeps c opens (steps_text p xs rest)
  steps_keep opens [] rest may f h = h opens may
  steps_keep opens (x ∷ xs) rest may f h =
      step_keeps opens x (steps_text p xs rest) may f.0 (λ others more. steps_keep others xs rest more f.1 h)

  recipe_keeps : (opens : List Opened) (x : Recipe) → MayWork c opens r.scratch → RecipeFits r x → BlockKeeps c opens (recipe_text p x)
  recipe_keeps opens x may f =
      steps_keep opens x.steps _ may f.0
      (λ others more. (((names.values, more.values, place_reads c p.which p.outs named), reads_well 32 x.value f.1), tt))

-- ---- blocks

pub joined_keep : (c : Scene) (opens : List Opened) (a b : Block) → BlockKeeps c opens a → BlockKeeps c opens b → BlockKeeps c opens (joined a b)
joined_keep c opens done b p q = q
joined_keep c opens (next s a) b p q = (p.0, joined_keep c opens a b p.1 q)

pub upto_keeps : (c : Scene) (opens : List Opened) (f : ℕ → Block) (n : ℕ) → ((e : ℕ) → e < n → BlockKeeps c opens (f e)) → BlockKeeps c opens (upto f n)
upto_keeps c opens f zero go = tt
upto_keeps c opens f (suc n) go =
    joined_keep c opens (upto f n) (f n) (upto_keeps c opens f n (λ e h. go e (omega (arith, h)))) (go n (omega arith))

-- fewer scratch numbers
fewer_names : (c : Scene) (looks : Bool) (j k : ℕ) → j ≤ k → HasBlockNames c looks k → HasBlockNames c looks j
fewer_names c looks j k l h =
    record { values = h.values; states = h.states; masks = h.masks; scratch = λ n a b. h.scratch n a (omega (arith, b, l)) }

fewer_works : (c : Scene) (opens : List Opened) (j k : ℕ) → j ≤ k → MayWork c opens k → MayWork c opens j
fewer_works c opens j k l h = record { values = h.values; scratch = λ n a b. h.scratch n a (omega (arith, b, l)) }

-- in a loop that a scratch number behind them counts
turn_works : (c : Scene) (opens : List Opened) (j : ℕ) (z : ℤ) → MayWork c opens j
    → MayWork c (opens ++ Turn (scratch_name (suc j)) (bounds.Num z) ∷ []) j
turn_works c opens j z h = record {
  values = turn_more c opens values (scratch_name (suc j)) z h.values refl;
  scratch = λ n a b. turn_more c opens (scratch_name n) (scratch_name (suc j)) z (h.scratch n a b) (other_number 116 n (suc j) (λ e. omega (arith, e, b)));
}

module _ (c : Scene) (p : Places) (r : Readable) (names : HasBlockNames c r.mask r.scratch) (n : ℕ) where
  each_keeps : (f : ℕ → Recipe) (j : ℕ) (opens : List Opened) → j ≤ r.scratch → MayWork c opens r.scratch
      → ((e : ℕ) → e < n → RecipeFits (works_on r j e) (f e)) → BlockKeeps c opens (upto (λ e. recipe_text (written p (fixed e)) (f e)) n)
  each_keeps f j opens few may fits =
      upto_keeps c opens (λ e. recipe_text (written p (fixed e)) (f e)) n (λ e l.
      recipe_keeps c (written p (fixed e)) (works_on r j e) (fewer_names c r.mask j r.scratch few names) tt opens (f e)
      (fewer_works c opens j r.scratch few may) (fits e l))

  looped_keeps : (x : Recipe) (j : ℕ) (opens : List Opened) → suc j ≤ r.scratch → MayWork c opens r.scratch → RecipeFits (works_on r j 0) x
      → BlockKeeps c opens (looped_text p n (suc j) x)
  looped_keeps x j opens few may fits =
      let counter : IsScalar c (scratch_name (suc j)) = names.scratch (suc j) (omega arith) few in
      let less : j ≤ r.scratch = omega (arith, few) in (
        (
          counter,
          may.scratch (suc j) (omega arith) few,
          tt,
          recipe_keeps c (written p (counted_by (suc j))) (works_on r j 0) (fewer_names c r.mask j r.scratch less names) counter
              (opens ++ Turn (scratch_name (suc j)) (bounds.Num (pos n)) ∷ []) x
              (turn_works c opens j (pos n) (fewer_works c opens j r.scratch less may)) fits,
        ),
        tt,
      )

  way_keeps : (y : Way) (d : ℕ) (opens : List Opened) → MayWork c opens r.scratch → WayFits r n y d → BlockKeeps c opens (way_text p n y)
  way_keeps (each f) d opens may fits = each_keeps f r.scratch opens (omega arith) may fits
  way_keeps (all j x) d opens may fits = by_size (is_looped n) refl fits.1
    where
      by_size : (b : Bool) → is_looped n ≡ b → (b ≡ true → suc j ≤ r.scratch)
          → BlockKeeps c opens (if b then looped_text p n (suc j) x else upto (λ e. recipe_text (written p (fixed e)) x) n)
      by_size true is room = looped_keeps x j opens (room refl) may (fits.2 0 (some_looped n is))
      by_size false is room = each_keeps (λ e. x) j opens fits.0 may fits.2
  way_keeps (decide e a b) zero opens may fits = absurd fits
  way_keeps (decide e a b) (suc d) opens may fits =
      let more = work_more c opens r.scratch may in (
        (
          reads_well c (written p (fixed 0)) r names tt 32 e fits.0,
          way_keeps a d (opens ++ Branch ∷ []) more fits.1,
          way_keeps b d (opens ++ Branch ∷ []) more fits.2,
        ),
        tt,
      )

module _ (c : Scene) (s : Spec) (p : Places) (is_typed : typed s ≡ true) (names : HasBlockNames c (reads_mask s.kind) (scratch_of s.kind s)) where
  sensor_keeps : (opens : List Opened) (z : ℤ) → s.kind ≡ Sensor → MayWork c opens (scratch_of s.kind s) → BlockKeeps c opens (sensor_text p z)
  sensor_keeps opens z kind may =
      let one = sensor_takes s.kind s kind in
      let t = names.scratch 1 (omega arith) one in
      let m = may.scratch 1 (omega arith) one in
      (((t, m), tt), ((t, (((names.values, branch_more c opens values may.values, tt), tt), tt), ((tt, tt, tt), tt)), tt))

  -- The text of the values.
  pub body_keeps : (opens : List Opened) → MayWork c opens (scratch_of s.kind s) → BlockKeeps c opens (body_text s p)
  body_keeps opens may = by_kind (is_kind s.kind)
    where
      by_kind : ((s.kind ≡ Sensor) ⊎ (s.kind ≢ Sensor)) → BlockKeeps c opens (body_text s p)
      by_kind (inl e) = subst (BlockKeeps c opens) (sym (sensor_values s.kind s p e)) (sensor_keeps opens (param s 0) e may)
      by_kind (inr n) =
          subst (BlockKeeps c opens) (sym (values_are s.kind s p n))
          (way_keeps c p (fed s) names (total s.outs) (way_of s.kind s) 8 opens may (cell_reads_law s is_typed n))

module _ (c : Scene) (s : Spec) (p : Places) (is_typed : typed s ≡ true) (names : HasBlockNames c false (next_scratch s.kind s)) where
  no_scratch : HasBlockNames c false 0
  no_scratch = fewer_names c false 0 (next_scratch s.kind s) (omega arith) names

  next_value_keeps : (opens : List Opened) (i : ℕ) → i < state_len_of s.kind s → MayAssign c opens states → BlockKeeps c opens (next_value_text s p i)
  next_value_keeps opens i l may = (
    (
      (names.states, may, tt),
      reads_well c (written p (fixed 0)) (from_value s i) no_scratch tt 32 (next_term s.kind s i) (next_reads_law s is_typed i l),
    ),
    tt,
  )

  next_loop_keeps : (opens : List Opened) (n : ℕ) → 1 ≤ next_scratch s.kind s → MayStep c opens (next_scratch s.kind s)
      → TermFits (works_on (from_value s 0) 0 0) 32 (next_along s.kind s) → StatementKeeps c opens (next_loop s p n)
  next_loop_keeps opens n some may fits =
      let counter : IsScalar c (scratch_name 1) = names.scratch 1 (omega arith) some in (
        counter,
        may.scratch 1 (omega arith) some,
        tt,
        (
          (
            (names.states, turn_more c opens states (scratch_name 1) (pos n) may.states refl, (counter, tt)),
            reads_well c (written p (counted_by 1)) (works_on (from_value s 0) 0 0) no_scratch counter 32 (next_along s.kind s) fits,
          ),
          tt,
        ),
      )

  pub next_keeps : (opens : List Opened) → MayStep c opens (next_scratch s.kind s) → BlockKeeps c opens (next_text s p)
  next_keeps opens may = by_size (is_looped (next_alike s.kind s)) refl
    where
      by_size : (t : Bool) → is_looped (next_alike s.kind s) ≡ t → BlockKeeps c opens (
          if t then next (next_loop s p (next_alike s.kind s)) (upto (λ i. next_value_text s p (next_alike s.kind s + i)) (state_len_of s.kind s - next_alike s.kind s))
          else upto (next_value_text s p) (state_len_of s.kind s))
      by_size true e =
          let reads = next_along_reads_law s is_typed in
          let few = reads.0 in
          let room : 1 ≤ next_scratch s.kind s = subst (λ (t : Bool). 1 ≤ (if t then 1 else 0)) (sym e) (omega arith) in (
            next_loop_keeps opens (next_alike s.kind s) room may (reads.1 0 (some_looped (next_alike s.kind s) e)),
            upto_keeps c opens (λ i. next_value_text s p (next_alike s.kind s + i)) (state_len_of s.kind s - next_alike s.kind s)
                (λ i l. next_value_keeps opens (next_alike s.kind s + i) (omega (arith, l, few)) may.states),
          )
      by_size false e = upto_keeps c opens (next_value_text s p) (state_len_of s.kind s) (λ i l. next_value_keeps opens i l may.states)

module _ (c : Scene) (s : Spec) (p : Places) (is_typed : typed s ≡ true) (names : HasBlockNames c false 0) where
  pub delay_keeps : has_delay s.kind ≡ true → ReadsWell c (delay_expression s p)
  delay_keeps has = reads_well c (written p (fixed 0)) (inputs s) names tt 32 (delay_term s.kind s) (delay_reads s is_typed has)

  pub branch_keeps : is_sync s.kind ≡ true → ReadsWell c (branch_expression s p)
  branch_keeps sync = reads_well c (written p (fixed 0)) (inputs s) names tt 32 (branch_term s.kind s) (branch_reads s is_typed sync)
