-- The texts of a generated program keep the static rules.
use Rattle.std.proofs.Common.{◌≡◌, ℕ, zero, suc, ◌+◌, ◌-◌, ◌*◌, ◌<◌, ◌≤◌, List, [], ◌∷◌, ◌++◌, append_assoc, length, slice_index_or, Contains, Option, Bool, true, false, ◌||◌, ◌&&◌, not, nat_eq, nat_lt, if◌then◌else◌, refl, sym, ap, ◌∙◌, arith, pos, ltb-true, subst}
use Rattle.std.specs.Int.{bit_at}
use Rattle.std.specs.List.{list_any}
use Rattle.std.proofs.lemmas.List.Elements.{All-contains, Contains-get_or}
use Rattle.std.proofs.lemmas.List.Folds.{list_any-append}
use Rattle.sci_forms.specs.declared.ports.Port.{Port as Output}
use Rattle.sci_forms.specs.Ports.{elements}
use Rattle.sci_forms.specs.Form.{is_sync, has_state}
use Rattle.sci_net.specs.declared.Feed.{Feed}
use Rattle.sci_net.specs.declared.Source.{Source}
use Rattle.sci_net.specs.declared.Source.TheVariants.{Start, Port}
use Rattle.sci_net.specs.Parts.{Parts, IsBlock, spec_of}
use Rattle.sci_net.specs.Sources.{sources_of, source_of}
use Rattle.sci_net.specs.Net.{IsNet}
use Rattle.sci_places.specs.Flat.{start_of}
use Rattle.sci_reaction.specs.Depends.{IsLoopFree}
use Rattle.sci_reaction.specs.Links.{IsSource}
use Rattle.sci_reaction.proofs.Sources.{sources_are}
use Rattle.sci_reaction.proofs.Spreading.{Spread-block}
use Rattle.sci_reaction.specs.Schedule.{Guard, Entry, IsGuard, IsEntry, IsSchedule, IsRow}
use Rattle.sci_forms.specs.Form.{is_halt, reads_mask}
use Rattle.sci_run.specs.Laws.{AreLoopFree}
use Rattle.c_ast.specs.declared.Name.{Name}
use Rattle.c_ast.specs.declared.Bound.TheVariants as bounds
use Rattle.c_ast.specs.declared.events.NameKind.{NameKind}
use Rattle.c_ast.specs.declared.events.Opened.{Opened}
use Rattle.c_ast.specs.declared.events.Opened.TheVariants.{Branch, Turn}
use Rattle.c_ast.specs.Syntax.{var, element, scalar, cell, set, Block, done, Function, Exp, num, loop, next}
use Rattle.c_ast.specs.Rules.{Routine, same_name, is_guarded, is_hit}
use Rattle.c_mean.specs.Texts.{place, joined, upto}
use Rattle.sci_cgen_blocks.specs.Terms.{is_looped}
use Rattle.sci_cgen_blocks.specs.Recipes.{next_scratch, scratch_of}
use Rattle.sci_cgen_blocks.specs.Texts.{values, states, masks, scratch_name, body_text, next_text, delay_expression, branch_expression}
use Rattle.sci_cgen_blocks.specs.Keeping.{Scene, IsScalar, IsArray, ReadsWell, BlockKeeps, HasBlockNames}
use Rattle.sci_cgen_blocks.proofs.TextRules.{joined_keep, upto_keeps, body_keeps, next_keeps, delay_keeps, branch_keeps}
use Rattle.sci_cgen_blocks.proofs.WholeRules.{IsKnown, AreKnown, calls_well}
use Rattle.sci_due.specs.Due.{dates, orders, fresh, firsts, are_grouped, due_table, keeps_groups, keeps_orders, group_count, best as chosen_name, scan as scan_name, now as now_name, last as programmed_name, delay as delay_name}
use Rattle.sci_due.proofs.Keeping.{orders_kept, groups_kept}
use Rattle.sci_due.specs.Texts.{choose_text as choose_of, order_text, stale_text, program_text, delayed_text, counted_from, choose_turn, turns_text, span_text, others_in, group_text, first_of, groups_text}
use Rattle.sci_due.proofs.Pending.{delayed_form}
use Rattle.sci_program.specs.declared.part.Part.{Part}
use Rattle.sci_program.specs.declared.part.Part.TheVariants.{Absent, Sure, Marked, Taken}
use Rattle.sci_program.specs.Names.{actives, branches, limit_name, until_name, fired_name, next_date, halt_name, block_name, settle_name}
use Rattle.sci_program.specs.Program.{natural, one, texts, text_where, has_own, part_in, port_count, places_of, is_scheduled, block_function, source_function, is_active, where_part, mark, with_bit, with_bits, guard_text, call_text, entry_text, cleared_text, header_text, pass_text, following_text, has_sync, has_halt, clear_text, choose_text, elements_shown, outputs_shown, values_shown, delay_text, state_text, halt_text, settle_text, is_any_looped, counts_behind, has_loop, looped_shown, output_shown, part_by, entry_part, is_marked, has_taken, is_taken}
use Rattle.sci_program.proofs.Parted.{reads, masked, guarded, called, by_entry, by_call, by_row, all_shown, all_delays, all_states, all_halts}
use Rattle.sci_program.proofs.Marks.{IsGuarding}
use Rattle.sci_program.proofs.Entries.{block_here, guarding}
use Rattle.sci_program.proofs.Sizes.{first_any, other_any, some_block, port_has_delay, next_enough}

-- what the program's texts find declared
pub record Finds (n : Parts) (scratch : ℕ) (c : Scene) : Type 0 where
  pub values : IsArray c values
  pub states : IsArray c states
  pub masks : IsArray c masks
  pub actives : 1 ≤ length n.specs → IsArray c actives
  pub branches : has_sync n ≡ true → IsArray c branches
  pub dates : 1 ≤ port_count n → IsArray c dates
  pub orders : 2 ≤ port_count n → IsArray c orders
  pub fresh : 17 ≤ port_count n → IsArray c fresh
  pub firsts : 17 ≤ port_count n → IsArray c firsts
  pub scratch_names : (k : ℕ) → 1 ≤ k → k ≤ scratch → IsScalar c (scratch_name k)
  pub limit : IsScalar c limit_name
  pub fired : IsScalar c fired_name
  pub next_date : IsScalar c next_date
  pub until : 1 ≤ port_count n → IsScalar c until_name
  pub now : 1 ≤ port_count n → IsScalar c now_name
  pub programmed : 2 ≤ port_count n → IsScalar c programmed_name
  pub chosen : 1 ≤ port_count n → IsScalar c chosen_name
  pub delay : 1 ≤ port_count n → IsScalar c delay_name
  pub scan : 1 ≤ port_count n → IsScalar c scan_name
  pub halt : has_halt n ≡ true → IsScalar c halt_name

-- functions assign neither how many events have fired nor how many may
abbrev pub may_assign : Name → Bool
may_assign x = not (same_name fired_name x || same_name limit_name x)

-- what a function's body finds
abbrev pub in_functions : (Name → Option NameKind) → (Name → Option Routine) → ℕ → Scene
in_functions kinds routines depth = record { kinds = kinds; routines = routines; may = may_assign; depth = depth }

-- ---- texts

pub where_keeps : (c : Scene) (opens : List Opened) (test : Bool) (t : Block) → (test ≡ true → BlockKeeps c opens t) → BlockKeeps c opens (text_where test t)
where_keeps c opens true t h = h refl
where_keeps c opens false t h = tt

texts_keep : {A : Type 0} (c : Scene) (opens : List Opened) (t : A → Block) (xs : List A) → ((x : A) → Contains xs x → BlockKeeps c opens (t x))
    → BlockKeeps c opens (texts t xs)
texts_keep c opens t [] h = tt
texts_keep c opens t (x ∷ xs) h =
    joined_keep c opens (t x) (texts t xs) (h x (0, omega arith, refl))
    (texts_keep c opens t xs (λ y i. h y (suc i.0, omega (arith, i.1), i.2)))

texts_split : {A : Type 0} (c : Scene) (opens : List Opened) (t : A → Block) (all pre xs : List A) → all ≡ pre ++ xs
    → ((pre post : List A) (x : A) → all ≡ pre ++ x ∷ post → BlockKeeps c opens (t x)) → BlockKeeps c opens (texts t xs)
texts_split c opens t all pre [] e h = tt
texts_split c opens t all pre (x ∷ xs) e h =
    joined_keep c opens (t x) (texts t xs) (h pre xs x e)
    (texts_split c opens t all (pre ++ x ∷ []) xs (e ∙ sym (append_assoc pre (x ∷ []) xs)) h)

-- ---- functions

known_left : (may : Name → Bool) (d : ℕ) (routines : Name → Option Routine) (xs ys : List Function) → AreKnown may d routines (xs ++ ys)
    → AreKnown may d routines xs × AreKnown may d routines ys
known_left may d routines [] ys h = (tt, h)
known_left may d routines (x ∷ xs) ys h = let r = known_left may d routines xs ys h.1 in ((h.0, r.0), r.1)

abbrev one_open : List Opened
one_open = Branch ∷ []

abbrev two_open : List Opened
two_open = Branch ∷ Branch ∷ []

module _ (n : Parts) (net : IsNet n) (scratch : ℕ) (kinds : Name → Option NameKind) (routines : Name → Option Routine) (depth : ℕ) where
  abbrev c : Scene
  c = in_functions kinds routines depth

  module _ (finds : Finds n scratch c) where
    some : (b : ℕ) → IsBlock n b → 1 ≤ length n.specs
    some b is = omega (arith, is.least, is.most)

    names : (looks : Bool) (k : ℕ) → k ≤ scratch → HasBlockNames c looks k
    names looks k l = record {
      values = finds.values;
      states = finds.states;
      masks = λ q. finds.masks;
      scratch = λ j lo hi. finds.scratch_names j lo (omega (arith, hi, l));
    }

    pub block_keeps : (rows : List (List Entry)) (b : ℕ) → IsBlock n b
        → (is_scheduled rows b ≡ true → scratch_of (spec_of n b).kind (spec_of n b) ≤ scratch) → BlockKeeps c one_open (block_function n rows b).body
    block_keeps rows b is enough =
        where_keeps c one_open (is_scheduled rows b) (body_text (spec_of n b) (places_of n b)) (λ q.
        body_keeps c (spec_of n b) (places_of n b) (net.typed_specs b is)
        (names (reads_mask (spec_of n b).kind) (scratch_of (spec_of n b).kind (spec_of n b)) (enough q)) one_open
        (record { values = (refl, refl); scratch = λ j lo hi. (refl, refl) }))

    -- ---- behind a reaction

    elements_keep : (opens : List Opened) (b p e o m : ℕ) → BlockKeeps c opens (elements_shown b p e o m)
    elements_keep opens b p e o zero = tt
    elements_keep opens b p e o (suc m) = ((tt, tt, tt, (finds.values, tt)), elements_keep opens b p (e + 1) (o + 1) m)

    -- a scratch number counts in a loop
    output_keeps : (opens : List Opened) → ((x : Name) → is_guarded opens x ≡ false) → (b p o m : ℕ) → (is_looped m ≡ true → 1 ≤ scratch)
        → BlockKeeps c opens (output_shown b p o m)
    output_keeps opens free b p o m enough = by_size (is_looped m) refl
      where
        by_size : (t : Bool) → is_looped m ≡ t → BlockKeeps c opens (if t then one (looped_shown b p o m) else elements_shown b p 1 o m)
        by_size true e =
            let t = finds.scratch_names 1 (omega arith) (enough e) in
            ((t, (refl, free (scratch_name 1)), tt, ((tt, tt, (t, tt), (finds.values, (t, tt))), tt)), tt)
        by_size false e = elements_keep opens b p 1 o m

    outputs_keep : (opens : List Opened) → ((x : Name) → is_guarded opens x ≡ false) → (b p o : ℕ) (qs : List Output)
        → (is_any_looped qs ≡ true → 1 ≤ scratch) → BlockKeeps c opens (outputs_shown b p o qs)
    outputs_keep opens free b p o [] enough = tt
    outputs_keep opens free b p o (q ∷ qs) enough =
        joined_keep c opens (output_shown b p o (elements q)) (outputs_shown b (p + 1) (o + elements q) qs)
        (output_keeps opens free b p o (elements q) (λ h. enough (first_any (is_looped (elements q)) (is_any_looped qs) h)))
        (outputs_keep opens free b (p + 1) (o + elements q) qs (λ h. enough (other_any (is_looped (elements q)) (is_any_looped qs) h)))

    active_reads : (b : ℕ) → IsBlock n b → ReadsWell c (is_active b)
    active_reads b is = (finds.actives (some b is), tt)

    sync_there : (b : ℕ) → IsBlock n b → is_sync (spec_of n b).kind ≡ true → has_sync n ≡ true
    sync_there b is h = some_block n (λ s. is_sync s.kind) b is h

    taken_reads : (g : Guard) → IsBlock n g.block → is_sync (spec_of n g.block).kind ≡ true → ReadsWell c (is_taken g)
    taken_reads g is sync = ((finds.branches (sync_there g.block is sync), tt), tt)

    -- the test of a block that takes part so
    abbrev TestReads : Part → Type 0
    TestReads (Taken q) = ReadsWell c (has_taken q)
    TestReads _ = Unit {0}

    -- a text that keeps the rules under a test and without
    part_keeps : (p : Part) → TestReads p → (b : ℕ) → IsBlock n b → (t : Block) → BlockKeeps c one_open t → BlockKeeps c two_open t
        → BlockKeeps c one_open (where_part p b t)
    part_keeps Absent test b is t h k = tt
    part_keeps Sure test b is t h k = h
    part_keeps Marked test b is t h k = ((active_reads b is, k, tt), tt)
    part_keeps (Taken q) test b is t h k = ((test, k, tt), tt)

    module _ (part : ℕ → Part) (tests : (b : ℕ) → TestReads (part b)) where
      values_keep : (has_loop n ≡ true → 1 ≤ scratch) → (b : ℕ) → IsBlock n b → BlockKeeps c one_open (values_shown n part b)
      values_keep loops b is =
          let looped = λ (h : is_any_looped (spec_of n b).outs ≡ true). loops (some_block n counts_behind b is (first_any (is_any_looped (spec_of n b).outs) _ h)) in
          let shown = outputs_shown b 1 (start_of n b) (spec_of n b).outs in
          where_keeps c one_open (nat_lt 0 (length (spec_of n b).outs)) (where_part (part b) b shown) (λ q.
          part_keeps (part b) (tests b) b is shown (outputs_keep one_open (λ x. refl) b 1 (start_of n b) (spec_of n b).outs looped)
          (outputs_keep two_open (λ x. refl) b 1 (start_of n b) (spec_of n b).outs looped))

      -- the order of an event
      order_keeps : (opens : List Opened) → ((x : Name) → is_guarded opens x ≡ false) → (i : ℕ)
          → BlockKeeps c opens (if nat_lt 1 (port_count n) then order_text i else done)
      order_keeps opens free i = by_count (nat_lt 1 (port_count n)) refl
        where
          by_count : (t : Bool) → nat_lt 1 (port_count n) ≡ t → BlockKeeps c opens (if t then order_text i else done)
          by_count true q =
              let m : 2 ≤ port_count n = ltb-true 1 (port_count n) q in (
                ((finds.orders m, (refl, free orders), tt), finds.programmed m),
                (((finds.programmed m, (refl, free programmed_name)), (finds.programmed m, tt)), tt),
              )
          by_count false q = tt

      -- the flag of its port's group
      stale_keeps : (opens : List Opened) → ((x : Name) → is_guarded opens x ≡ false) → (i : ℕ)
          → BlockKeeps c opens (if are_grouped (port_count n) then stale_text i else done)
      stale_keeps opens free i = by_count (are_grouped (port_count n)) refl
        where
          by_count : (t : Bool) → are_grouped (port_count n) ≡ t → BlockKeeps c opens (if t then stale_text i else done)
          by_count true q = (((finds.fresh (ltb-true 16 (port_count n) q), (refl, free fresh), tt), tt), tt)
          by_count false q = tt

      behind_keeps : (opens : List Opened) → ((x : Name) → is_guarded opens x ≡ false) → (i : ℕ) → BlockKeeps c opens
          (joined (if keeps_orders (due_table (port_count n)) then order_text i else done) (if keeps_groups (due_table (port_count n)) then stale_text i else done))
      behind_keeps opens free i =
          joined_keep c opens (if keeps_orders (due_table (port_count n)) then order_text i else done)
          (if keeps_groups (due_table (port_count n)) then stale_text i else done)
          (subst (λ (t : Bool). BlockKeeps c opens (if t then order_text i else done)) (sym (orders_kept (port_count n))) (order_keeps opens free i))
          (subst (λ (t : Bool). BlockKeeps c opens (if t then stale_text i else done)) (sym (groups_kept (port_count n))) (stale_keeps opens free i))

      -- the text that programs a port
      programs_keep : (opens : List Opened) → ((x : Name) → is_guarded opens x ≡ false) → (i : ℕ) (q : Feed) → 1 ≤ port_count n → IsSource n (Port q)
          → BlockKeeps c opens (program_text (due_table (port_count n)) i (delay_expression (spec_of n q.block) (places_of n q.block)) done)
      programs_keep opens free i q l is =
          let inner : (x : Name) → is_guarded (opens ++ Branch ∷ []) x ≡ false
          = λ x. list_any-append (is_hit (same_name x)) opens (Branch ∷ []) ∙ ap (λ (t : Bool). t || false) (free x) in
          let reads = delay_keeps c (spec_of n q.block) (places_of n q.block) (net.typed_specs q.block is.0.block) (names false 0 (omega arith))
          (port_has_delay n net q is) in (
            ((finds.delay l, (refl, free delay_name)), reads),
            (
              (
                (finds.delay l, tt),
                (((finds.dates l, (refl, inner dates), tt), (finds.now l, finds.delay l)), behind_keeps (opens ++ Branch ∷ []) inner i),
                tt,
              ),
              tt,
            ),
          )

      delayed_keeps : (opens : List Opened) → ((x : Name) → is_guarded opens x ≡ false) → (i : ℕ) (q : Feed) → 1 ≤ port_count n → IsSource n (Port q)
          → BlockKeeps c opens (delayed_text (due_table (port_count n)) i (delay_expression (spec_of n q.block) (places_of n q.block)))
      delayed_keeps opens free i q l is =
          delayed_form (BlockKeeps c opens) (due_table (port_count n)) i (delay_expression (spec_of n q.block) (places_of n q.block))
          (λ d e. (((finds.dates l, (refl, free dates), tt), (finds.now l, tt)), behind_keeps opens free i)) (programs_keep opens free i q l is)

      delay_text_keeps : (i : ℕ) (s : Source) → 1 ≤ port_count n → IsSource n s → BlockKeeps c one_open (delay_text n part i s)
      delay_text_keeps i Start l is = tt
      delay_text_keeps i (Port q) l is =
          part_keeps (part q.block) (tests q.block) q.block is.0.block
          (delayed_text (due_table (port_count n)) (i - 1) (delay_expression (spec_of n q.block) (places_of n q.block)))
          (delayed_keeps one_open (λ x. refl) (i - 1) q l is) (delayed_keeps two_open (λ x. refl) (i - 1) q l is)

      state_keeps : (has_loop n ≡ true → 1 ≤ scratch) → (b : ℕ) → IsBlock n b → BlockKeeps c one_open (state_text n part b)
      state_keeps loops b is =
          let t = next_text (spec_of n b) (places_of n b) in
          let found = names false (next_scratch (spec_of n b).kind (spec_of n b)) (next_enough n scratch b is loops) in
          where_keeps c one_open (has_state (spec_of n b).kind) (where_part (part b) b t) (λ q.
          part_keeps (part b) (tests b) b is t (next_keeps c (spec_of n b) (places_of n b) (net.typed_specs b is) found one_open
          (record { states = (refl, refl); scratch = λ j lo hi. (refl, refl) }))
          (next_keeps c (spec_of n b) (places_of n b) (net.typed_specs b is) found two_open
          (record { states = (refl, refl); scratch = λ j lo hi. (refl, refl) })))

      halt_keeps : (b : ℕ) → IsBlock n b → BlockKeeps c one_open (halt_text n part b)
      halt_keeps b is =
          let t = one (set (scalar halt_name) (natural 1)) in
          where_keeps c one_open (is_halt (spec_of n b).kind) (where_part (part b) b t) (λ q.
          let flag = finds.halt (some_block n (λ s. is_halt s.kind) b is q) in
          part_keeps (part b) (tests b) b is t (((flag, (refl, refl)), tt), tt) (((flag, (refl, refl)), tt), tt))

    inside : (k : ℕ) → k < length n.specs → IsBlock n (suc k)
    inside k l = record { least = omega arith; most = omega (arith, l) }

    source_is : (i : ℕ) → i < length (sources_of n) → IsSource n (source_of n i)
    source_is i l = (sources_are n (source_of n i)).0 (Contains-get_or (sources_of n) i Start l)

    pub settle_keeps : (has_loop n ≡ true → 1 ≤ scratch) → (part : ℕ → Part) → ((b : ℕ) → TestReads (part b)) → BlockKeeps c one_open (settle_text n part)
    settle_keeps loops part tests =
        joined_keep c one_open (all_shown n part) (joined (all_delays n part) (joined (all_states n part) (all_halts n part)))
        (upto_keeps c one_open (λ k. values_shown n part (suc k)) (length n.specs) (λ k l. values_keep part tests loops (suc k) (inside k l)))
        (joined_keep c one_open (all_delays n part) (joined (all_states n part) (all_halts n part))
        (upto_keeps c one_open (λ k. delay_text n part (suc k) (source_of n (suc k))) (port_count n) (λ k l.
        delay_text_keeps part tests (suc k) (source_of n (suc k)) (omega (arith, l)) (source_is (suc k) (omega (arith, l)))))
        (joined_keep c one_open (all_states n part) (all_halts n part)
        (upto_keeps c one_open (λ k. state_text n part (suc k)) (length n.specs) (λ k l. state_keeps part tests loops (suc k) (inside k l)))
        (upto_keeps c one_open (λ k. halt_text n part (suc k)) (length n.specs) (λ k l. halt_keeps part tests (suc k) (inside k l)))))

    -- ---- before a reaction

    pub clear_keeps : 1 ≤ port_count n → 1 ≤ length n.specs → BlockKeeps c one_open (clear_text n)
    clear_keeps l some = (
      (
        finds.scan l,
        (refl, refl),
        tt,
        (
          ((finds.actives some, (refl, refl), finds.scan l), tt),
          where_keeps c (Branch ∷ Turn scan_name (bounds.Num (pos (length n.specs))) ∷ []) (has_sync n)
              (one (set (cell branches (var scan_name)) (natural 0))) (λ q. (((finds.branches q, (refl, refl), finds.scan l), tt), tt)),
        ),
      ),
      tt,
    )

    -- a source that comes first so far is chosen
    turn_keeps : 2 ≤ port_count n → (opens : List Opened) → is_guarded (opens ++ Branch ∷ []) chosen_name ≡ false
        → is_guarded (opens ++ Branch ∷ []) next_date ≡ false → (at : Exp) → ReadsWell c at → BlockKeeps c opens (choose_turn at)
    turn_keeps m opens fb ft at r =
        let l : 1 ≤ port_count n = omega (arith, m) in
        let d = finds.dates l in
        let o = finds.orders m in
        let b = finds.chosen l in
        let t = finds.next_date in (
          (
            (((t, tt), ((d, r), t)), (((d, r), tt), (((d, r), t), ((o, r), (o, b))))),
            (((b, (refl, fb)), r), (((t, (refl, ft)), (d, r)), tt)),
            tt,
          ),
          tt,
        )

    -- what a choice assigns isn't guarded
    record IsFree (opens : List Opened) : Type 0 where
      pub chosen : is_guarded opens chosen_name ≡ false
      pub date : is_guarded opens next_date ≡ false
      pub scan : is_guarded opens scan_name ≡ false
      pub inner_chosen : is_guarded (opens ++ Branch ∷ []) chosen_name ≡ false
      pub inner_date : is_guarded (opens ++ Branch ∷ []) next_date ≡ false
      pub looped_chosen : (m : ℕ) → is_guarded ((opens ++ Turn scan_name (bounds.Num (pos m)) ∷ []) ++ Branch ∷ []) chosen_name ≡ false
      pub looped_date : (m : ℕ) → is_guarded ((opens ++ Turn scan_name (bounds.Num (pos m)) ∷ []) ++ Branch ∷ []) next_date ≡ false

    one_free : IsFree one_open
    one_free = record { chosen = refl; date = refl; scan = refl; inner_chosen = refl; inner_date = refl; looped_chosen = λ m. refl; looped_date = λ m. refl }

    two_free : IsFree two_open
    two_free = record { chosen = refl; date = refl; scan = refl; inner_chosen = refl; inner_date = refl; looped_chosen = λ m. refl; looped_date = λ m. refl }

    turns_keep : 2 ≤ port_count n → (opens : List Opened) → IsFree opens → (at : Exp → Exp) → ((e : Exp) → ReadsWell c e → ReadsWell c (at e)) → (k m : ℕ)
        → BlockKeeps c opens (turns_text at k m)
    turns_keep several opens free at reads k m = by_size (nat_lt 7 m)
      where
        by_size : (many : Bool)
            → BlockKeeps c opens (if many then next (loop scan_name (bounds.Num (pos m)) (choose_turn (at (counted_from k)))) done
            else upto (λ j. choose_turn (at (num (pos (k + j))))) m)
        by_size true =
            let s = finds.scan (omega (arith, several)) in (
              (
                s,
                (refl, free.scan),
                tt,
                turn_keeps several (opens ++ Turn scan_name (bounds.Num (pos m)) ∷ []) (free.looped_chosen m) (free.looped_date m) (at (counted_from k))
                    (reads (counted_from k) (s, tt)),
              ),
              tt,
            )
        by_size false =
            upto_keeps c opens (λ j. choose_turn (at (num (pos (k + j))))) m (λ j q.
            turn_keeps several opens free.inner_chosen free.inner_date (at (num (pos (k + j)))) (reads (num (pos (k + j))) tt))

    span_keeps : 2 ≤ port_count n → (opens : List Opened) → IsFree opens → (k m : ℕ) → BlockKeeps c opens (span_text k m)
    span_keeps several opens free k m =
        let l : 1 ≤ port_count n = omega (arith, several) in (
          ((finds.chosen l, (refl, free.chosen)), tt),
          (
            ((finds.next_date, (refl, free.date)), (finds.dates l, tt)),
            turns_keep several opens free (λ e. e) (λ e r. r) (suc k) m,
          ),
        )

    group_keeps : 17 ≤ port_count n → (g : ℕ) → BlockKeeps c one_open (group_text (port_count n) g)
    group_keeps many g =
        let known = next (set (cell firsts (num (pos g))) (var chosen_name)) (one (set (cell fresh (num (pos g))) (num (pos 1)))) in (
          (
            ((finds.fresh many, tt), tt),
            joined_keep c two_open (span_text (16 * g) (others_in (port_count n) g)) known
                (span_keeps (omega (arith, many)) two_open two_free (16 * g) (others_in (port_count n) g)) (
                  ((finds.firsts many, (refl, refl), tt), finds.chosen (omega (arith, many))),
                  (((finds.fresh many, (refl, refl), tt), tt), tt),
                ),
            tt,
          ),
          tt,
        )

    groups_keep : 17 ≤ port_count n → BlockKeeps c one_open (groups_text (port_count n))
    groups_keep many =
        let l : 1 ≤ port_count n = omega (arith, many) in
        joined_keep c one_open (upto (group_text (port_count n)) (group_count (port_count n)))
        (next (set (scalar chosen_name) (first_of (num (pos 0)))) (next (set (scalar next_date) (element dates (var chosen_name)))
        (turns_text first_of 1 (group_count (port_count n) - 1))))
        (upto_keeps c one_open (group_text (port_count n)) (group_count (port_count n)) (λ g q. group_keeps many g)) (
          ((finds.chosen l, (refl, refl)), (finds.firsts many, tt)),
          (
            ((finds.next_date, (refl, refl)), (finds.dates l, finds.chosen l)),
            turns_keep (omega (arith, many)) one_open one_free first_of (λ e r. (finds.firsts many, r)) 1 (group_count (port_count n) - 1),
          ),
        )

    pub choose_keeps : 1 ≤ port_count n → BlockKeeps c one_open (choose_text n)
    choose_keeps l = by_count (nat_lt 1 (port_count n)) refl
      where
        by_size : 2 ≤ port_count n → (t : Bool) → are_grouped (port_count n) ≡ t
            → BlockKeeps c one_open (if t then groups_text (port_count n) else span_text 0 (port_count n - 1))
        by_size several true q = groups_keep (ltb-true 16 (port_count n) q)
        by_size several false q = span_keeps several one_open one_free 0 (port_count n - 1)

        by_count : (t : Bool) → nat_lt 1 (port_count n) ≡ t
            → BlockKeeps c one_open (if t then choose_of (port_count n) else one (set (scalar next_date) (place dates 0)))
        by_count true q = by_size (ltb-true 1 (port_count n) q) (are_grouped (port_count n)) refl
        by_count false q = (((finds.next_date, (refl, refl)), (finds.dates l, tt)), tt)

    -- ---- a source's row

    mark_keeps : (opens : List Opened) (b : ℕ) → IsBlock n b → ((x : Name) → is_guarded opens x ≡ false) → BlockKeeps c opens (mark b)
    mark_keeps opens b is free = (((finds.actives (some b is), (refl, free actives), tt), tt), tt)

    bits_keep : (opens : List Opened) (b m k : ℕ) → ((x : Name) → is_guarded opens x ≡ false) → BlockKeeps c opens (with_bits b m k)
    bits_keep opens b m k free =
        let r = finds.masks in
        upto_keeps c opens (λ p. text_where (nat_eq (bit_at m p) 1) (with_bit b p)) k (λ p l.
        where_keeps c opens (nat_eq (bit_at m p) 1) (with_bit b p) (λ q.
        (((r, (refl, free masks), tt), ((r, tt), ((tt, (((r, tt), tt), tt)), tt))), tt)))

    guard_keeps : (e : Entry) (g : Guard) → IsBlock n e.block → IsGuarding n e.block g → BlockKeeps c one_open (guard_text n e g)
    guard_keeps e g is guards =
        let bits = with_bits e.block g.mask (spec_of n e.block).evtin in (
          (
            taken_reads g guards.block guards.sync,
            joined_keep c two_open (text_where (not e.always) (mark e.block)) (text_where (reads n e) bits)
                (where_keeps c two_open (not e.always) (mark e.block) (λ q. mark_keeps two_open e.block is (λ x. refl)))
                (where_keeps c two_open (reads n e) bits (λ q. bits_keep two_open e.block g.mask (spec_of n e.block).evtin (λ x. refl))),
            tt,
          ),
          tt,
        )

    module _ (known : (b : ℕ) → IsBlock n b → IsKnown may_assign 1 routines (block_name b)) (deep : 1 < depth) where
      call_keeps : (opens : List Opened) (b : ℕ) → IsBlock n b → ((x : Name) → is_guarded opens x ≡ false) → list_any (is_hit may_assign) opens ≡ false
          → BlockKeeps c opens (call_text n b)
      call_keeps opens b is free apart =
          let e = branch_expression (spec_of n b) (places_of n b) in (
            calls_well c opens may_assign 1 (block_name b) (known b is) deep (λ x h. h) apart,
            where_keeps c opens (is_sync (spec_of n b).kind) (one (set (cell branches (natural (b - 1))) e)) (λ q. (
              (
                (finds.branches (sync_there b is q), (refl, free branches), tt),
                branch_keeps c (spec_of n b) (places_of n b) (net.typed_specs b is) (names false 0 (omega arith)) q,
              ),
              tt,
            )),
          )

      cleared_keeps : (e : Entry) → IsBlock n e.block → BlockKeeps c one_open (cleared_text n e)
      cleared_keeps e is =
          let active = one (set (cell actives (natural (e.block - 1))) (natural 0)) in
          let branch = one (set (cell branches (natural (e.block - 1))) (natural 0)) in
          joined_keep c one_open (text_where (is_marked (part_by n e)) active) (text_where (is_sync (spec_of n e.block).kind) branch)
          (where_keeps c one_open (is_marked (part_by n e)) active (λ q. (((finds.actives (some e.block is), (refl, refl), tt), tt), tt)))
          (where_keeps c one_open (is_sync (spec_of n e.block).kind) branch (λ q. (((finds.branches (sync_there e.block is q), (refl, refl), tt), tt), tt)))

      module _ (own : Bool) (s : Source) (free : IsLoopFree n s) (row : List Entry) (is : IsRow n s row) where
        entry_keeps : (pre post : List Entry) (e : Entry) → row ≡ pre ++ e ∷ post → BlockKeeps c one_open (entry_text own n e)
        entry_keeps pre post e split =
            let block : IsBlock n e.block = block_here n s net free row is pre post e split in
            joined_keep c one_open (text_where (not own && e.always) (mark e.block)) (joined (masked n e) (joined (guarded own n e) (called own n e)))
            (where_keeps c one_open (not own && e.always) (mark e.block) (λ q. mark_keeps one_open e.block block (λ x. refl)))
            (joined_keep c one_open (masked n e) (joined (guarded own n e) (called own n e))
            (where_keeps c one_open (reads n e) (one (set (cell masks (natural (e.block - 1))) (natural e.mask))) (λ q.
            (((finds.masks, (refl, refl), tt), tt), tt)))
            (joined_keep c one_open (guarded own n e) (called own n e)
            (where_keeps c one_open (is_marked (entry_part own n e) || reads n e) (texts (guard_text n e) e.guards) (λ q.
            texts_keep c one_open (guard_text n e) e.guards (λ g i. guard_keeps e g block (guarding n s net free row is pre post e split g i))))
            (part_keeps (entry_part own n e)
            (by_call own n e TestReads tt tt (λ g i.
            let h = guarding n s net free row is pre post e split g i in taken_reads g h.block h.sync)) e.block block (call_text n e.block)
            (call_keeps one_open e.block block (λ x. refl) refl) (call_keeps two_open e.block block (λ x. refl) refl))))

        parts_read : (b : ℕ) → TestReads (part_in n row b)
        parts_read b =
            by_row n row b TestReads tt (λ e k.
            by_entry n e TestReads tt tt (λ g i.
            let h : IsGuard n s e.block g = ((All-contains (IsEntry n s) row e is.entries k).guards_are g).0 i in
            taken_reads g (Spread-block n s _ h.possible) h.sync))

        row_keeps : BlockKeeps c one_open (joined (text_where own (texts (cleared_text n) row)) (texts (entry_text own n) row))
        row_keeps =
            joined_keep c one_open (text_where own (texts (cleared_text n) row)) (texts (entry_text own n) row)
            (where_keeps c one_open own (texts (cleared_text n) row) (λ q.
            texts_split c one_open (cleared_text n) row [] row refl (λ pre post e split.
            cleared_keeps e (block_here n s net free row is pre post e split))))
            (texts_split c one_open (entry_text own n) row [] row refl entry_keeps)

      header_keeps : (i : ℕ) → i < length (sources_of n) → BlockKeeps c one_open (header_text (source_of n i))
      header_keeps zero l = (tt, tt)
      header_keeps (suc i) l = by_source (source_of n (suc i))
        where
          by_source : (s : Source) → BlockKeeps c one_open (header_text s)
          by_source Start = (tt, tt)
          by_source (Port q) = ((finds.now (omega (arith, l)), tt, tt), tt)

      following_keeps : (has_loop n ≡ true → 1 ≤ scratch) → (own : Bool) (row : List Entry) → ((b : ℕ) → TestReads (part_in n row b))
          → (own ≡ false → IsKnown may_assign 1 routines settle_name) → BlockKeeps c one_open (following_text own n row)
      following_keeps loops true row tests h = settle_keeps loops (part_in n row) tests
      following_keeps loops false row tests h = (calls_well c one_open may_assign 1 settle_name (h refl) deep (λ x h. h) refl, tt)

      pub source_keeps : (has_loop n ≡ true → 1 ≤ scratch) → (rows : List (List Entry)) → AreLoopFree n → IsSchedule n rows
          → (has_own n rows ≡ false → IsKnown may_assign 1 routines settle_name) → (i : ℕ) → i < length (sources_of n)
          → BlockKeeps c one_open (source_function n rows i).body
      source_keeps loops rows free schedule settles i l =
          let own = has_own n rows in
          let row = slice_index_or rows i [] in
          let is = schedule.each i (omega (arith, l, schedule.enough)) in
          let behind = joined (text_where own (texts (cleared_text n) row)) (texts (entry_text own n) row) in
          joined_keep c one_open (pass_text own n (source_of n i) row) (following_text own n row)
          (joined_keep c one_open (header_text (source_of n i)) behind (header_keeps i l)
          (row_keeps own (source_of n i) (free i l) row is)) (following_keeps loops own row (parts_read own (source_of n i) (free i l) row is) settles)
