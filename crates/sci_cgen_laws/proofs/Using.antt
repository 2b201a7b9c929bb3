-- What the text of a block's values uses: the arrays in which the block has values, a state, or a mask that it looks at, and its scratch numbers.
use Rattle.std.proofs.Common.{◌≡◌, ◌≢◌, ℕ, zero, suc, ◌-◌, ◌<◌, ◌≤◌, lit≤, ◌≤ℤ◌, inl, inr, List, [], ◌∷◌, ◌++◌, length, Bool, true, false, ◌||◌, ◌&&◌, nat_eq, if◌then◌else◌, refl, sym, ap, ◌∙◌, subst, arith, ℤ, pos, negsuc, true≢false}
use Rattle.std.specs.Prelude.{int_le, nat_lt, unsigned_abs}
use Rattle.std.specs.List.{list_any}
use Rattle.std.specs.Int.{int_rem_euclid}
use Rattle.std.proofs.Math.Nat.{mul-le-mul_left}
use Rattle.std.proofs.lemmas.Bool.{cases_lt, eqb-true}
use Rattle.std.proofs.lemmas.Int.{ints}
use Rattle.sci_base.specs.declared.Ty.{Ty}
use Rattle.sci_base.specs.declared.Ty.TheVariants.{U32}
use Rattle.sci_base.specs.declared.Mode.{Mode}
use Rattle.sci_base.specs.declared.Mode.TheVariants.{Wrap, Saturate, Stop}
use Rattle.sci_base.specs.Fit.{int_eq, width}
use Rattle.sci_forms.specs.declared.Kind.{Kind}
use Rattle.sci_forms.specs.declared.Kind.TheVariants.{Const, GainBlk, Product, Mux, Extractor, LogicalOp, Shift, Switch2, Select, Logic, AndLog, Dollar, Register, ModuloCount, GatedDelay, Sensor, EvtDly, EvtVarDly, IfThEl, ESelect, Halt}
use Rattle.sci_forms.specs.declared.ports.Port.{Port}
use Rattle.sci_forms.specs.declared.spec.Spec.{Spec}
use Rattle.sci_forms.specs.Form.{reads_mask}
use Rattle.sci_forms.specs.Forms.{counts_of, between}
use Rattle.sci_forms.specs.Ports.{port_at, elements, total}
use Rattle.sci_forms.specs.Typed.{typed, is_known}
use Rattle.sci_forms.specs.Words.{param, out_type, state_len_of}
use Rattle.sci_forms.proofs.TestLemmas.{both_true, int_le_told, nat_lt_told}
use Rattle.sci_kinds.specs.Table.{mode_of}
use Rattle.sci_kinds.proofs.TypedLemmas.{tests}
use Rattle.c_ast.specs.declared.Name.{Name}
use Rattle.c_ast.specs.declared.Bound.TheVariants as bounds
use Rattle.c_ast.specs.declared.Op.TheVariants.{Sub, Mul, Gt, Eq}
use Rattle.c_ast.specs.declared.events.TextEvent.TheVariants as events
use Rattle.c_ast.specs.Syntax.{Exp, scalar, cell, Statement, set, choice, loop, Block, done, next}
use Rattle.c_ast.specs.Events.{exp_events, place_events, statement_events, block_events}
use Rattle.c_mean.specs.Texts.{upto}
use Rattle.c_trim.proofs.Named.{KeepsEvents, keeps_first, keeps_second, joined_second}
use Rattle.sci_cgen_blocks.specs.Terms.{Term, constant, input, along, state, state_along, mask, both, Work, assign, assign_if, changes, Step, change, stop_if, repeat, Recipe, Way, each, all, decide, is_looped}
use Rattle.sci_cgen_blocks.specs.Recipes.{natural, plain, bit, set as set_first, pattern, product, quotient, logical_truths, join_of, patterns_joined, logical_bits, shifted, turned, recipe_of, worked_of, part_of, is_alike, copied, switches, first_activated, way_of, scratch_of}
use Rattle.sci_cgen_blocks.specs.Texts.{fixed, counted_by, Places, written, values, states, masks, scratch_name, element_place, expression, work_statement, works_text, stop_text, step_text, steps_text, assigned_text, recipe_text, looped_text, way_text, sensor_text, body_text}
use Rattle.sci_cgen_blocks.proofs.Bodies.{values_are}
use Rattle.sci_cgen_blocks.proofs.Bounds.{some_looped}
use Rattle.sci_cgen_blocks.proofs.KindBounds.{some_selected}
use Rattle.sci_cgen_blocks.proofs.Sensing.{is_kind, sensor_out, sensor_values}

-- ---- which scratch numbers the steps of a recipe change, or count with

abbrev sets_by : ℕ → Work → Bool
sets_by k w = nat_eq (changes w) k

abbrev sets : ℕ → Step → Bool
sets k (change w) = sets_by k w
sets k (stop_if c word) = false
sets k (repeat n m ws) = nat_eq n k || list_any (sets_by k) ws

abbrev Sets : ℕ → Recipe → Type 0
Sets k r = list_any (sets k) r.steps ≡ true

at_one : (r : Recipe) (k : ℕ) → 1 ≤ k → k ≤ 1 → Sets 1 r → Sets k r
at_one r k lo hi h = let same : 1 ≡ k = omega (arith, lo, hi) in subst (λ (j : ℕ). Sets j r) same h

product_sets : (t : Ty) (m : Mode) (a b : Term) → Sets 1 (product t m a b)
product_sets U32 Wrap a b = refl
product_sets U32 Saturate a b = refl
product_sets U32 Stop a b = refl
product_sets _ m a b = refl

product_block_sets : (s : Spec) → Sets 1 (recipe_of Product s)
product_block_sets s = by_sign (int_eq (param s 1) (pos 1))
  where
    by_sign : (t : Bool) → Sets 1 (if t then product (out_type s) (mode_of (param s 0)) (along 0) (along 1)
        else quotient (out_type s) (mode_of (param s 0)) (along 0) (along 1))
    by_sign true = product_sets (out_type s) (mode_of (param s 0)) (along 0) (along 1)
    by_sign false = refl

-- the bits of two inputs or more
bits_set : (t : Ty) (op : ℤ) (n k : ℕ) → 1 < n → 1 ≤ k → k ≤ 3 → Sets k (logical_bits t op n)
bits_set t op n k many lo hi =
    let more : suc (n - 2) ≡ n - 1 = omega (arith, many) in
    subst (λ (m : ℕ). list_any (sets k) (set_first (pattern t (along 0)) ∷ patterns_joined t (join_of op) 1 m) ≡ true) more (at k (n - 2) lo hi)
  where
    at : (k m : ℕ) → 1 ≤ k → k ≤ 3 → list_any (sets k) (set_first (pattern t (along 0)) ∷ patterns_joined t (join_of op) 1 (suc m)) ≡ true
    at zero m lo hi = absurd (omega (arith, lo))
    at (suc zero) m lo hi = refl
    at (suc (suc zero)) m lo hi = refl
    at (suc (suc (suc zero))) m lo hi = refl
    at (suc (suc (suc (suc k)))) m lo hi = absurd (omega (arith, hi))

logical_sets : (s : Spec) (k : ℕ) → 1 ≤ k → k ≤ worked_of LogicalOp s → Sets k (recipe_of LogicalOp s)
logical_sets s k lo hi = by_bits (int_eq (param s 1) (pos 0)) hi
  where
    by_count : (more : Bool) → nat_lt 1 (length s.ins) ≡ more → k ≤ (if more then 3 else 1) → Sets k (logical_bits (out_type s) (param s 0) (length s.ins))
    by_count true e l = bits_set (out_type s) (param s 0) (length s.ins) k (nat_lt_told 1 (length s.ins) e) lo l
    by_count false e l = at_one (logical_bits (out_type s) (param s 0) (length s.ins)) k lo l refl

    by_bits : (t : Bool) → k ≤ (if t then 1 else if nat_lt 1 (length s.ins) then 3 else 1)
        → Sets k (if t then logical_truths (param s 0) (length s.ins) else logical_bits (out_type s) (param s 0) (length s.ins))
    by_bits true l = at_one (logical_truths (param s 0) (length s.ins)) k lo l refl
    by_bits false l = by_count (nat_lt 1 (length s.ins)) refl l

shift_sets : (s : Spec) (k : ℕ) → 1 ≤ k → k ≤ worked_of Shift s → Sets k (recipe_of Shift s)
shift_sets s k lo hi = by_turn (int_eq (param s 1) (pos 0)) hi
  where
    places : ℕ
    places = unsigned_abs (int_rem_euclid (param s 0) (pos (width (out_type s))))

    by_turn : (t : Bool) → k ≤ (if t then 0 else 1) → Sets k (if t then shifted (out_type s) (param s 0) (along 0) else turned (out_type s) places (along 0))
    by_turn true l = absurd (omega (arith, lo, l))
    by_turn false l = at_one (turned (out_type s) places (along 0)) k lo l refl

-- The kinds whose recipes take one number at most, which the first step of the recipe changes.
abbrev sets_one : Kind → Bool
sets_one LogicalOp = false
sets_one Shift = false
sets_one Sensor = false
sets_one _ = true

one_taken : (c : Kind) (s : Spec) → sets_one c ≡ true → worked_of c s ≤ 1
one_taken LogicalOp s one = absurd (true≢false (sym one))
one_taken Shift s one = absurd (true≢false (sym one))
one_taken Sensor s one = absurd (true≢false (sym one))
one_taken _ s one = lit≤ tt

one_set : (c : Kind) (s : Spec) → sets_one c ≡ true → (nat_eq (worked_of c s) 0 || list_any (sets 1) (recipe_of c s).steps) ≡ true
one_set GainBlk s one = product_sets (out_type s) (mode_of (param s 0)) (constant (param s 1)) (along 0)
one_set Product s one = product_block_sets s
one_set LogicalOp s one = absurd (true≢false (sym one))
one_set Shift s one = absurd (true≢false (sym one))
one_set Sensor s one = absurd (true≢false (sym one))
one_set _ s one = refl

set_if_taken : (n : ℕ) (r : Recipe) (k : ℕ) → n ≤ 1 → (nat_eq n 0 || list_any (sets 1) r.steps) ≡ true → 1 ≤ k → k ≤ n → Sets k r
set_if_taken zero r k few h lo hi = absurd (omega (arith, lo, hi))
set_if_taken (suc zero) r k few h lo hi = at_one r k lo hi h
set_if_taken (suc (suc n)) r k few h lo hi = absurd (omega (arith, few))

several_set : (c : Kind) (s : Spec) (k : ℕ) → sets_one c ≡ false → c ≢ Sensor → 1 ≤ k → k ≤ worked_of c s → Sets k (recipe_of c s)
several_set LogicalOp s k more other lo hi = logical_sets s k lo hi
several_set Shift s k more other lo hi = shift_sets s k lo hi
several_set Sensor s k more other lo hi = absurd (other refl)
several_set _ s k more other lo hi = absurd (true≢false more)

-- A recipe changes each scratch number that it takes.
recipe_sets : (c : Kind) (s : Spec) (k : ℕ) → c ≢ Sensor → 1 ≤ k → k ≤ worked_of c s → Sets k (recipe_of c s)
recipe_sets c s k other lo hi = by_number (sets_one c) refl
  where
    by_number : (t : Bool) → sets_one c ≡ t → Sets k (recipe_of c s)
    by_number true one = set_if_taken (worked_of c s) (recipe_of c s) k (one_taken c s one) (one_set c s one) lo hi
    by_number false more = several_set c s k more other lo hi

-- ---- a block that takes scratch, has a state or looks at its mask has a value

-- a kind whose elements are worked out apart takes none
none_apart : (c : Kind) (s : Spec) → is_alike c s ≡ false → worked_of c s ≡ 0
none_apart Const s h = refl
none_apart Mux s h = refl
none_apart Extractor s h = refl
none_apart Logic s h = refl
none_apart _ s h = absurd (true≢false h)

-- kinds without outputs take none
one_out : (c : Kind) (s : Spec) → 1 ≤ worked_of c s → 1 ≤ (counts_of c (length s.ins)).outs_least
one_out EvtDly s h = let none : 1 ≤ 0 = h in absurd (omega (arith, none))
one_out EvtVarDly s h = let none : 1 ≤ 0 = h in absurd (omega (arith, none))
one_out IfThEl s h = let none : 1 ≤ 0 = h in absurd (omega (arith, none))
one_out ESelect s h = let none : 1 ≤ 0 = h in absurd (omega (arith, none))
one_out Halt s h = let none : 1 ≤ 0 = h in absurd (omega (arith, none))
one_out _ s h = lit≤ tt

state_out : (c : Kind) (s : Spec) → 1 ≤ state_len_of c s → 1 ≤ (counts_of c (length s.ins)).outs_least
state_out Dollar s h = lit≤ tt
state_out Register s h = lit≤ tt
state_out ModuloCount s h = lit≤ tt
state_out GatedDelay s h = lit≤ tt
state_out _ s h = let none : 1 ≤ 0 = h in absurd (omega (arith, none))

mask_out : (c : Kind) (s : Spec) → reads_mask c ≡ true → 1 ≤ (counts_of c (length s.ins)).outs_least
mask_out Select s h = lit≤ tt
mask_out AndLog s h = lit≤ tt
mask_out _ s h = absurd (true≢false (sym h))

one_element : (p : Port) → is_known p ≡ true → 1 ≤ elements p
one_element p h =
    let size = both_true (int_le (pos 1) p.rows && int_le (pos 1) p.cols) (between (pos 3) (pos 8) p.ty) h in
    let sides = both_true (int_le (pos 1) p.rows) (int_le (pos 1) p.cols) size.0 in
    let rows = at_least p.rows (int_le_told (pos 1) p.rows sides.0) in
    let cols = at_least p.cols (int_le_told (pos 1) p.cols sides.1) in
    omega (arith, rows, mul-le-mul_left (unsigned_abs p.rows) cols)
  where
    at_least : (z : ℤ) → pos 1 ≤ℤ z → 1 ≤ unsigned_abs z
    at_least (pos n) l = omega (arith, ints, l)
    at_least (negsuc n) l = absurd (omega (arith, ints, l))

some_total : (ps : List Port) → 1 ≤ length ps → is_known (port_at ps 0) ≡ true → 1 ≤ total ps
some_total [] l h = absurd (omega (arith, l))
some_total (p ∷ ps) l h = let first = one_element p h in omega (arith, first)

out_total : (s : Spec) → typed s ≡ true → 1 ≤ (counts_of s.kind (length s.ins)).outs_least → 1 ≤ total s.outs
out_total s h least =
    let t = tests s.kind s h in
    let enough = t.outs_least in
    let one : 1 ≤ length s.outs = omega (arith, least, enough) in
    some_total s.outs one (t.known_outs 0 (omega (arith, one)))

-- so has one that is worked out in a loop
looped_some : (n : ℕ) → is_looped n ≡ true → 1 ≤ n
looped_some n h = let some = some_looped n h in omega (arith, some)

-- ---- the variables that a text names are kept

module _ (keep : Name → Bool) where
  abbrev pub Keeps : Block → Type 0
  Keeps b = KeepsEvents keep (block_events b)

  abbrev KeepsOne : Statement → Type 0
  KeepsOne s = KeepsEvents keep (statement_events s)

  statement_kept : (s : Statement) (b : Block) → Keeps (next s b) → KeepsOne s
  statement_kept s b h = keeps_first keep (statement_events s) (block_events b) h

  rest_kept : (s : Statement) (b : Block) → Keeps (next s b) → Keeps b
  rest_kept s b h = keeps_second keep (statement_events s) (block_events b) h

  -- of a choice
  choice_kept : (e : Exp) (a b : Block) → KeepsOne (choice e a b) → Keeps a × Keeps b
  choice_kept e a b h =
      let branches = keeps_second keep (exp_events e) (events.If ∷ (block_events a ++ (block_events b ++ events.Close ∷ []))) h in
      let second = keeps_second keep (block_events a) (block_events b ++ events.Close ∷ []) branches.1 in
      (keeps_first keep (block_events a) (block_events b ++ events.Close ∷ []) branches.1, keeps_first keep (block_events b) (events.Close ∷ []) second)

  -- of a loop
  loop_kept : (x : Name) (z : ℤ) (s : Block) → KeepsOne (loop x (bounds.Num z) s) → (keep x ≡ true) × Keeps s
  loop_kept x z s h = (h.0, keeps_first keep (block_events s) (events.Close ∷ []) h.1)

  -- of texts one behind the other, the last
  last_kept : (f : ℕ → Block) (n : ℕ) → 1 ≤ n → Keeps (upto f n) → Keeps (f (n - 1))
  last_kept f zero l h = absurd (omega (arith, l))
  last_kept f (suc n) l h =
      let last : n ≡ suc n - 1 = omega arith in
      subst (λ (i : ℕ). Keeps (f i)) last (joined_second keep (upto f n) (f n) h)

  -- ---- recipes

  module _ (p : Places) where
    -- behind a step
    step_rest : (x : Step) (rest : Block) → Keeps (step_text p x rest) → Keeps rest
    step_rest (change w) rest h = rest_kept (work_statement p w) rest h
    step_rest (stop_if c word) rest h =
        (choice_kept (expression p c) (stop_text word p.number) rest (statement_kept (choice (expression p c) (stop_text word p.number) rest) done h)).1
    step_rest (repeat n k ws) rest h = rest_kept (loop (scratch_name n) (bounds.Num (pos k)) (works_text p ws)) rest h

    steps_rest : (xs : List Step) (rest : Block) → Keeps (steps_text p xs rest) → Keeps rest
    steps_rest [] rest h = h
    steps_rest (x ∷ xs) rest h = steps_rest xs rest (step_rest x (steps_text p xs rest) h)

    -- a recipe assigns a value
    value_kept : (r : Recipe) → Keeps (recipe_text p r) → keep values ≡ true
    value_kept r h = let last = steps_rest r.steps (assigned_text p r.value) h in last.0

    -- the value that is assigned, of a recipe without steps
    read_kept : (t : Term) → Keeps (recipe_text p (plain t)) → KeepsEvents keep (exp_events (expression p t))
    read_kept t h =
        keeps_second keep (place_events (cell values (element_place p.which p.outs))) (exp_events (expression p t))
        (statement_kept (set (cell values (element_place p.which p.outs)) (expression p t)) done h)

    same_scratch : (n k : ℕ) → nat_eq n k ≡ true → keep (scratch_name n) ≡ true → keep (scratch_name k) ≡ true
    same_scratch n k e h = subst (λ (j : ℕ). keep (scratch_name j) ≡ true) (eqb-true n k e) h

    work_kept : (k : ℕ) (w : Work) → sets_by k w ≡ true → KeepsOne (work_statement p w) → keep (scratch_name k) ≡ true
    work_kept k (assign n t) e h = same_scratch n k e h.0
    work_kept k (assign_if c n t) e h =
        let inner = (choice_kept (expression p c) (next (set (scalar (scratch_name n)) (expression p t)) done) done h).0 in
        same_scratch n k e inner.0

    works_kept : (k : ℕ) (ws : List Work) → list_any (sets_by k) ws ≡ true → Keeps (works_text p ws) → keep (scratch_name k) ≡ true
    works_kept k [] e h = absurd (true≢false (sym e))
    works_kept k (w ∷ ws) e h = by_first (λ q. works_kept k ws q (rest_kept (work_statement p w) (works_text p ws) h)) (sets_by k w) refl e
      where
        by_first : (list_any (sets_by k) ws ≡ true → keep (scratch_name k) ≡ true) → (t : Bool) → sets_by k w ≡ t → t || list_any (sets_by k) ws ≡ true
            → keep (scratch_name k) ≡ true
        by_first go true q e = work_kept k w q (statement_kept (work_statement p w) (works_text p ws) h)
        by_first go false q e = go e

    step_kept : (k : ℕ) (x : Step) (rest : Block) → sets k x ≡ true → Keeps (step_text p x rest) → keep (scratch_name k) ≡ true
    step_kept k (change w) rest e h = work_kept k w e (statement_kept (work_statement p w) rest h)
    step_kept k (stop_if c word) rest e h = absurd (true≢false (sym e))
    step_kept k (repeat n m ws) rest e h = by_counter (nat_eq n k) refl e
      where
        turns : (keep (scratch_name n) ≡ true) × Keeps (works_text p ws)
        turns = loop_kept (scratch_name n) (pos m) (works_text p ws) (statement_kept (loop (scratch_name n) (bounds.Num (pos m)) (works_text p ws)) rest h)

        by_counter : (t : Bool) → nat_eq n k ≡ t → t || list_any (sets_by k) ws ≡ true → keep (scratch_name k) ≡ true
        by_counter true q e = same_scratch n k q turns.0
        by_counter false q e = works_kept k ws e turns.1

    steps_kept : (k : ℕ) (xs : List Step) (rest : Block) → list_any (sets k) xs ≡ true → Keeps (steps_text p xs rest) → keep (scratch_name k) ≡ true
    steps_kept k [] rest e h = absurd (true≢false (sym e))
    steps_kept k (x ∷ xs) rest e h = by_first (λ q. steps_kept k xs rest q (step_rest x (steps_text p xs rest) h)) (sets k x) refl e
      where
        by_first : (list_any (sets k) xs ≡ true → keep (scratch_name k) ≡ true) → (t : Bool) → sets k x ≡ t → t || list_any (sets k) xs ≡ true
            → keep (scratch_name k) ≡ true
        by_first go true q e = step_kept k x (steps_text p xs rest) q h
        by_first go false q e = go e

    recipe_kept : (k : ℕ) (r : Recipe) → Sets k r → Keeps (recipe_text p r) → keep (scratch_name k) ≡ true
    recipe_kept k r e h = steps_kept k r.steps (assigned_text p r.value) e h

  -- ---- ways, for one element or more

  module _ (p : Places) (n : ℕ) (some : 1 ≤ n) where
    -- of what is the same for all elements
    all_kept : (m : ℕ) (r : Recipe) (x : Name) → ((q : Places) → Keeps (recipe_text q r) → keep x ≡ true) → Keeps (way_text p n (all m r)) → keep x ≡ true
    all_kept m r x go h = by_size (is_looped n) h
      where
        by_size : (t : Bool) → Keeps (if t then looped_text p n (suc m) r else upto (λ e. recipe_text (written p (fixed e)) r) n) → keep x ≡ true
        by_size true h =
            let turns = loop_kept (scratch_name (suc m)) (pos n) (recipe_text (written p (counted_by (suc m))) r)
            (statement_kept (loop (scratch_name (suc m)) (bounds.Num (pos n)) (recipe_text (written p (counted_by (suc m))) r)) done h) in
            go (written p (counted_by (suc m))) turns.1
        by_size false h = go (written p (fixed (n - 1))) (last_kept (λ e. recipe_text (written p (fixed e)) r) n some h)

    -- and of its counter
    counter_kept : (m : ℕ) (r : Recipe) → is_looped n ≡ true → Keeps (way_text p n (all m r)) → keep (scratch_name (suc m)) ≡ true
    counter_kept m r looped h = by_size (is_looped n) looped h
      where
        by_size : (t : Bool) → t ≡ true → Keeps (if t then looped_text p n (suc m) r else upto (λ e. recipe_text (written p (fixed e)) r) n)
            → keep (scratch_name (suc m)) ≡ true
        by_size true e h =
            (loop_kept (scratch_name (suc m)) (pos n) (recipe_text (written p (counted_by (suc m))) r)
            (statement_kept (loop (scratch_name (suc m)) (bounds.Num (pos n)) (recipe_text (written p (counted_by (suc m))) r)) done h)).0
        by_size false e h = absurd (true≢false (sym e))

    first_way : (c : Term) (a b : Way) → Keeps (way_text p n (decide c a b)) → Keeps (way_text p n a)
    first_way c a b h =
        (choice_kept (expression (written p (fixed 0)) c) (way_text p n a) (way_text p n b)
        (statement_kept (choice (expression (written p (fixed 0)) c) (way_text p n a) (way_text p n b)) done h)).0

    way_values : (y : Way) → Keeps (way_text p n y) → keep values ≡ true
    way_values (each f) h =
        value_kept (written p (fixed (n - 1))) (f (n - 1)) (last_kept (λ e. recipe_text (written p (fixed e)) (f e)) n some h)
    way_values (all m r) h = all_kept m r values (λ q g. value_kept q r g) h
    way_values (decide c a b) h = way_values a (first_way c a b h)

    -- the inputs of a choice are copied
    chosen_kept : (i j : ℕ) → is_looped n ≡ true → Keeps (way_text p n (first_activated i j)) → keep (scratch_name 1) ≡ true
    chosen_kept i zero looped h = counter_kept 0 (plain (along i)) looped h
    chosen_kept i (suc j) looped h =
        counter_kept 0 (plain (along i)) looped (first_way (bit mask i) (copied i) (first_activated (suc i) j) h)

    -- the first test of a choice looks at the mask
    chosen_masks : (j : ℕ) → 1 ≤ j → Keeps (way_text p n (first_activated 0 j)) → keep masks ≡ true
    chosen_masks zero l h = absurd (omega (arith, l))
    chosen_masks (suc j) l h =
        let first = statement_kept
        (choice (expression (written p (fixed 0)) (bit mask 0)) (way_text p n (copied 0)) (way_text p n (first_activated 1 j))) done h in first.0

  -- ---- blocks

  module _ (s : Spec) (p : Places) where
    way_states : (c : Kind) → 1 ≤ total s.outs → 1 ≤ state_len_of c s → Keeps (way_text p (total s.outs) (way_of c s)) → keep states ≡ true
    way_states Dollar some l h = all_kept p (total s.outs) some 0 (plain state_along) states (λ q g. (read_kept q state_along g).0) h
    way_states Register some l h = all_kept p (total s.outs) some 0 (plain (state 0)) states (λ q g. (read_kept q (state 0) g).0) h
    way_states ModuloCount some l h = all_kept p (total s.outs) some 0 (plain (state 0)) states (λ q g. (read_kept q (state 0) g).0) h
    way_states GatedDelay some l h =
        let gate : Term = both Gt (input 1 0) (natural 0) in
        all_kept p (total s.outs) some 0 (plain (both Mul gate state_along)) states
        (λ q g. (keeps_second keep (exp_events (expression q gate)) (exp_events (expression q state_along)) (read_kept q (both Mul gate state_along) g)).0) h
    way_states _ some l h = let none : 1 ≤ 0 = l in absurd (omega (arith, none))

    way_masks : (c : Kind) → (c ≡ Select → 2 ≤ s.evtin) → 1 ≤ total s.outs → reads_mask c ≡ true → Keeps (way_text p (total s.outs) (way_of c s))
        → keep masks ≡ true
    way_masks Select several some looks h =
        let two = several refl in chosen_masks p (total s.outs) some (s.evtin - 1) (omega (arith, two)) h
    way_masks AndLog several some looks h =
        let both_activated : Term = both Sub (both Mul (natural 2) (both Eq mask (natural 3))) (natural 1) in
        all_kept p (total s.outs) some 0 (plain both_activated) masks (λ q g. (read_kept q both_activated g).0) h
    way_masks _ several some looks h = absurd (true≢false (sym looks))

    -- of kinds that decide once for all elements
    copies_scratch : (y : Way) (k : ℕ) → 1 ≤ k → k ≤ (if is_looped (total s.outs) then 1 else 0)
        → (1 ≤ total s.outs → is_looped (total s.outs) ≡ true → Keeps (way_text p (total s.outs) y) → keep (scratch_name 1) ≡ true)
        → Keeps (way_text p (total s.outs) y) → keep (scratch_name k) ≡ true
    copies_scratch y k lo hi go h = by_size (is_looped (total s.outs)) refl hi
      where
        by_size : (t : Bool) → is_looped (total s.outs) ≡ t → k ≤ (if t then 1 else 0) → keep (scratch_name k) ≡ true
        by_size true e l =
            let same : 1 ≡ k = omega (arith, lo, l) in
            subst (λ (j : ℕ). keep (scratch_name j) ≡ true) same (go (looped_some (total s.outs) e) e h)
        by_size false e l = absurd (omega (arith, lo, l))

    -- of the other kinds
    alike_scratch : (c : Kind) → c ≢ Sensor → (1 ≤ worked_of c s → 1 ≤ total s.outs)
        → Keeps (way_text p (total s.outs) (if is_alike c s then all (worked_of c s) (recipe_of c s) else each (λ e. plain (part_of c s e))))
        → (k : ℕ) → 1 ≤ k → k ≤ scratch_of c s → keep (scratch_name k) ≡ true
    alike_scratch c other some h k lo hi = by_tests (is_alike c s) refl (is_looped (total s.outs)) refl h hi
      where
        worked : 1 ≤ k → k ≤ worked_of c s → Keeps (way_text p (total s.outs) (all (worked_of c s) (recipe_of c s))) → keep (scratch_name k) ≡ true
        worked lo l h =
            all_kept p (total s.outs) (some (omega (arith, lo, l))) (worked_of c s) (recipe_of c s) (scratch_name k)
            (λ q g. recipe_kept q k (recipe_of c s) (recipe_sets c s k other lo l) g) h

        by_tests : (a : Bool) → is_alike c s ≡ a → (t : Bool) → is_looped (total s.outs) ≡ t
            → Keeps (way_text p (total s.outs) (if a then all (worked_of c s) (recipe_of c s) else each (λ e. plain (part_of c s e))))
            → k ≤ (if a && t then suc (worked_of c s) else worked_of c s) → keep (scratch_name k) ≡ true
        by_tests false d t e h l = let none = none_apart c s d in absurd (omega (arith, lo, l, none))
        by_tests true d false e h l = worked lo l h
        by_tests true d true e h l = elim (cases_lt k (suc (worked_of c s))) [
          | inl q ↦ worked lo (omega (arith, q)) h
          | inr q ↦
              let same : suc (worked_of c s) ≡ k = omega (arith, l, q) in
              subst (λ (j : ℕ). keep (scratch_name j) ≡ true) same
              (counter_kept p (total s.outs) (looped_some (total s.outs) e) (worked_of c s) (recipe_of c s) e h)
        ]

    way_scratch : (c : Kind) → c ≢ Sensor → (1 ≤ worked_of c s → 1 ≤ total s.outs) → Keeps (way_text p (total s.outs) (way_of c s))
        → (k : ℕ) → 1 ≤ k → k ≤ scratch_of c s → keep (scratch_name k) ≡ true
    way_scratch Switch2 other some h k lo hi =
        copies_scratch (way_of Switch2 s) k lo hi
        (λ one looped g. counter_kept p (total s.outs) one 0 (plain (along 0)) looped
        (first_way p (total s.outs) one (switches (param s 0) (param s 1) (input 1 0)) (copied 0) (copied 2) g)) h
    way_scratch Select other some h k lo hi =
        copies_scratch (way_of Select s) k lo hi (λ one looped g. chosen_kept p (total s.outs) one 0 (s.evtin - 1) looped g) h
    way_scratch Logic other some h k lo hi = let none : k ≤ 0 = hi in absurd (omega (arith, lo, none))
    way_scratch c other some h k lo hi = alike_scratch c other some h k lo hi

    sensor_kept : (z : ℤ) → Keeps (sensor_text p z) → (keep (scratch_name 1) ≡ true) × (keep values ≡ true)
    sensor_kept z h = (h.0, h.1.1.1.0)

    -- The array of values is kept where a block has any.
    pub values_kept : 1 ≤ total s.outs → Keeps (body_text s p) → keep values ≡ true
    values_kept some h = elim (is_kind s.kind) [
      | inl kind ↦ (sensor_kept (param s 0) (subst Keeps (sensor_values s.kind s p kind) h)).1
      | inr other ↦ way_values p (total s.outs) some (way_of s.kind s) (subst Keeps (values_are s.kind s p other) h)
    ]

    -- So is that of states where it has one,
    pub states_kept : typed s ≡ true → 1 ≤ state_len_of s.kind s → Keeps (body_text s p) → keep states ≡ true
    states_kept is_typed l h = elim (is_kind s.kind) [
      | inl kind ↦ let none : 1 ≤ 0 = subst (λ (c : Kind). 1 ≤ state_len_of c s) kind l in absurd (omega (arith, none))
      | inr other ↦ way_states s.kind (out_total s is_typed (state_out s.kind s l)) l (subst Keeps (values_are s.kind s p other) h)
    ]

    -- that of masks where it looks at its own,
    pub masks_kept : typed s ≡ true → reads_mask s.kind ≡ true → Keeps (body_text s p) → keep masks ≡ true
    masks_kept is_typed looks h = elim (is_kind s.kind) [
      | inl kind ↦ absurd (true≢false (sym looks ∙ ap reads_mask kind))
      | inr other ↦
          way_masks s.kind (some_selected s is_typed) (out_total s is_typed (mask_out s.kind s looks)) looks
          (subst Keeps (values_are s.kind s p other) h)
    ]

    -- and its scratch numbers.
    pub scratch_kept : typed s ≡ true → Keeps (body_text s p) → (k : ℕ) → 1 ≤ k → k ≤ scratch_of s.kind s → keep (scratch_name k) ≡ true
    scratch_kept is_typed h k lo hi = elim (is_kind s.kind) [
      | inl kind ↦
          let one : scratch_of s.kind s ≡ 1 = ap (λ (c : Kind). scratch_of c s) kind
          ∙ ap (λ (t : ℕ). if is_looped t then 2 else 1) (sensor_out s is_typed kind) in
          let same : 1 ≡ k = omega (arith, lo, hi, one) in
          subst (λ (j : ℕ). keep (scratch_name j) ≡ true) same (sensor_kept (param s 0) (subst Keeps (sensor_values s.kind s p kind) h)).0
      | inr other ↦ way_scratch s.kind other (λ takes. out_total s is_typed (one_out s.kind s takes)) (subst Keeps (values_are s.kind s p other) h) k lo hi
    ]
