-- The generated program is a program of the subset: it keeps the bounds and the static rules.
use Rattle.std.proofs.Common.{◌≡◌, ℕ, zero, suc, ◌+◌, ◌-◌, ◌<◌, ◌≤◌, ◌^◌, ◌⊎◌, inl, inr, List, [], ◌∷◌, ◌++◌, length, Option, Some, None, Bool, true, false, not, nat_lt, if◌then◌else◌, refl, sym, ap, ◌∙◌, subst, arith, ℤ, pos, negsuc, true≢false, ltb-true}
use Rattle.std.proofs.lemmas.Bool.{cases_eq, cond-true}
use Rattle.std.proofs.lemmas.Bool.Decides.{nat_tests}
use Rattle.std.specs.List.{list_any}
use Rattle.std.proofs.lemmas.List.Folds.{list_any-append}
use Rattle.sci_base.specs.Fit.{int_eq}
use Rattle.sci_kinds.specs.Table.{first_state, first_held}
use Rattle.sci_kinds.proofs.Elements.{nat_lt_yes}
use Rattle.sci_net.specs.Parts.{Parts, IsBlock, spec_of}
use Rattle.sci_net.specs.Net.{IsNet, all_elements}
use Rattle.sci_net.specs.Sources.{sources_of, source_of}
use Rattle.sci_net.proofs.TypedSpecs.{all_typed, sources_few}
use Rattle.sci_places.specs.Flat.{start_of}
use Rattle.sci_reaction.specs.Schedule.{Entry, IsSchedule}
use Rattle.sci_run.specs.Laws.{AreLoopFree}
use Rattle.c_ast.specs.declared.Name.{Name}
use Rattle.c_ast.specs.declared.Bound.TheVariants as bounds
use Rattle.c_ast.specs.declared.events.NameKind.{NameKind}
use Rattle.c_ast.specs.declared.events.Opened.{Opened}
use Rattle.c_ast.specs.declared.events.Opened.TheVariants.{Branch, Turn}
use Rattle.c_ast.specs.Syntax.{bin, var, scalar, cell, set, call, tell, finish, Statement, next, Declared, Function}
use Rattle.c_ast.specs.declared.Op.TheVariants.{Div, Lt, Gt}
use Rattle.c_ast.specs.Rules.{Routine, same_name, kind_in, kind_of, is_scalar, is_array, is_guarded, is_hit, KeepsRules}
use Rattle.c_mean.specs.Texts.{number, joined}
use Rattle.c_mean.proofs.Memory.{name_eq, name_same}
use Rattle.sci_cgen_blocks.specs.Texts.{values, states, masks, scratch_name}
use Rattle.sci_cgen_blocks.specs.Keeping.{Scene, ReadsWell, BlockKeeps, CallsWell}
use Rattle.sci_cgen_blocks.proofs.TextRules.{joined_keep, upto_keeps}
use Rattle.sci_cgen_blocks.proofs.WholeRules.{declaring, AreNew, IsKnown, AreKnown, AllKeep, calls_well}
use Rattle.sci_due.specs.Due.{dates, orders, fresh, firsts, are_grouped, group_count, best as chosen_name, scan as scan_name, now as now_name, last as programmed_name, delay as delay_name}
use Rattle.sci_program.specs.declared.part.Part.TheVariants.{Marked}
use Rattle.sci_base.specs.declared.observation.EndWord.TheVariants as ends
use Rattle.sci_program.specs.Names.{actives, branches, limit_name, until_name, fired_name, next_date, halt_name, block_name, source_name, clear_name, settle_name, choose_name, event_name}
use Rattle.sci_program.specs.Program.{natural, one, text_where, chosen_place, has_own, port_count, places_of, has_sync, has_halt, states_before, array, a_scalar, declared_where, due_arrays, event_scalars, scratch_declared, scratch_count, declarations, functions_upto, functions_where, other_functions, source_function, end_or, react_step, react_deep, fire_text, event_text, turn_text, first_text, begin_text, event_function, begun_text, list_begun, held_begun, state_begun, firing_at, programmed_before, firing_begun, source_begun, clock_begun, outset_text, main_text, full_program}
use Rattle.sci_program.specs.Laws.{ProgramIsWhole}
use Rattle.c_trim.proofs.Whole.{whole_stays}
use Rattle.c_trim.proofs.Rules.{rules_stay}
use Rattle.sci_program.proofs.Parted.{value_arrays, active_array, branch_array, limit_scalars, halt_scalar, all_held, first_states, all_begun, count_begun, until_asked, where_ports, starting, ending, running, own, blocks, sources, clear_function, choose_function, shared, chooses}
use Rattle.sci_program.proofs.Firings.{first_order}
use Rattle.sci_program.proofs.Halves.{in_first, react_last, react_more}
use Rattle.sci_program_laws.proofs.Layers.{program_keeps}
use Rattle.sci_program.proofs.Sizes.{loop_enough, scratch_enough}
use Rattle.sci_program_laws.proofs.Bounded.{is_whole}
use Rattle.sci_program_laws.proofs.Declared.{variables_new, sizes_few, first_new, second_new, third_new}
use Rattle.sci_program_laws.proofs.Ruled.{Finds, may_assign, in_functions, where_keeps, block_keeps, settle_keeps, clear_keeps, choose_keeps, source_keeps}

-- ---- what is declared

-- one of these
abbrev Among : Declared → List Declared → Type 0
Among d [] = ⊥
Among d (x ∷ xs) = (x ≡ d) ⊎ Among d xs

among_left : (d : Declared) (xs ys : List Declared) → Among d xs → Among d (xs ++ ys)
among_left d [] ys h = absurd h
among_left d (x ∷ xs) ys (inl e) = inl e
among_left d (x ∷ xs) ys (inr h) = inr (among_left d xs ys h)

among_right : (d : Declared) (xs ys : List Declared) → Among d ys → Among d (xs ++ ys)
among_right d [] ys h = h
among_right d (x ∷ xs) ys h = inr (among_right d xs ys h)

among_where : (test : Bool) (d : Declared) (ds : List Declared) → test ≡ true → Among d ds → Among d (declared_where test ds)
among_where true d ds e h = h
among_where false d ds e h = absurd (true≢false (sym e))

kind_stays : (ds : List Declared) (ks : List (Name × NameKind)) (x : Name) (k : NameKind) → AreNew ds ks → kind_in ks x ≡ Some k
    → kind_in (declaring ds ks) x ≡ Some k
kind_stays [] ks x k new h = h
kind_stays (d ∷ ds) ks x k new h = kind_stays ds ((d.name, kind_of d.size) ∷ ks) x k new.1 (by_name (same_name d.name x) refl)
  where
    none_some : None ≡ Some k → ⊥
    none_some e = cc

    by_name : (t : Bool) → same_name d.name x ≡ t → (if t then Some (kind_of d.size) else kind_in ks x) ≡ Some k
    by_name true e = absurd (none_some (sym (subst (λ (y : Name). kind_in ks y ≡ None) (name_eq d.name x e) new.0) ∙ h))
    by_name false e = h

kind_is : (ds : List Declared) (ks : List (Name × NameKind)) (d : Declared) → AreNew ds ks → Among d ds → kind_in (declaring ds ks) d.name ≡ Some (kind_of d.size)
kind_is [] ks d new h = absurd h
kind_is (x ∷ ds) ks d new (inl e) =
    kind_stays ds ((x.name, kind_of x.size) ∷ ks) d.name (kind_of d.size) new.1
    (subst (λ (y : Declared). kind_in ((y.name, kind_of y.size) ∷ ks) d.name ≡ Some (kind_of d.size)) (sym e)
    (cond-true (same_name d.name d.name) (Some (kind_of d.size)) (kind_in ks d.name) (name_same d.name)))
kind_is (x ∷ ds) ks d new (inr h) = kind_is ds ((x.name, kind_of x.size) ∷ ks) d new.1 h

among_scratch : (k m : ℕ) → 1 ≤ k → k ≤ m → Among (a_scalar (scratch_name k)) (scratch_declared m)
among_scratch k zero lo hi = absurd (omega (arith, lo, hi))
among_scratch k (suc m) lo hi = elim (cases_eq (suc m) k) [
  | inl e ↦ among_right (a_scalar (scratch_name k)) (scratch_declared m) (a_scalar (scratch_name (suc m)) ∷ [])
      (inl (ap (λ (j : ℕ). a_scalar (scratch_name j)) e))
  | inr q ↦ among_left (a_scalar (scratch_name k)) (scratch_declared m) (a_scalar (scratch_name (suc m)) ∷ [])
      (among_scratch k m lo (omega (arith, hi, q)))
]

module _ (n : Parts) (rows : List (List Entry)) where
  abbrev ports : Bool
  ports = nat_lt 0 (port_count n)

  abbrev scratch : ℕ
  scratch = scratch_count n rows (length n.specs)

  abbrev p2 : List Declared
  p2 = value_arrays n ++ declared_where (nat_lt 0 (length n.specs)) (active_array n)

  abbrev p3 : List Declared
  p3 = p2 ++ declared_where (has_sync n) (branch_array n)

  abbrev p4 : List Declared
  p4 = p3 ++ declared_where ports (due_arrays (port_count n))

  abbrev p5 : List Declared
  p5 = p4 ++ scratch_declared scratch

  abbrev p6 : List Declared
  p6 = p5 ++ limit_scalars

  abbrev p7 : List Declared
  p7 = p6 ++ declared_where ports (event_scalars (port_count n))

  from7 : (d : Declared) → Among d p7 → Among d (declarations n rows)
  from7 d h = among_left d p7 (declared_where (has_halt n) halt_scalar) h

  from6 : (d : Declared) → Among d p6 → Among d (declarations n rows)
  from6 d h = from7 d (among_left d p6 (declared_where ports (event_scalars (port_count n))) h)

  from5 : (d : Declared) → Among d p5 → Among d (declarations n rows)
  from5 d h = from6 d (among_left d p5 limit_scalars h)

  from4 : (d : Declared) → Among d p4 → Among d (declarations n rows)
  from4 d h = from5 d (among_left d p4 (scratch_declared scratch) h)

  from3 : (d : Declared) → Among d p3 → Among d (declarations n rows)
  from3 d h = from4 d (among_left d p3 (declared_where ports (due_arrays (port_count n))) h)

  from2 : (d : Declared) → Among d p2 → Among d (declarations n rows)
  from2 d h = from3 d (among_left d p2 (declared_where (has_sync n) (branch_array n)) h)

  from1 : (d : Declared) → Among d (value_arrays n) → Among d (declarations n rows)
  from1 d h = from2 d (among_left d (value_arrays n) (declared_where (nat_lt 0 (length n.specs)) (active_array n)) h)

  is_kind : (d : Declared) → Among d (declarations n rows) → kind_in (declaring (declarations n rows) []) d.name ≡ Some (kind_of d.size)
  is_kind d h = kind_is (declarations n rows) [] d (variables_new n rows) h

  an_array : (x : Name) (k : ℕ) → Among (array x k) (declarations n rows) → is_array (kind_in (declaring (declarations n rows) []) x) ≡ true
  an_array x k h = ap is_array (is_kind (array x k) h)

  a_number : (x : Name) → Among (a_scalar x) (declarations n rows) → is_scalar (kind_in (declaring (declarations n rows) []) x) ≡ true
  a_number x h = ap is_scalar (is_kind (a_scalar x) h)

  due_there : (d : Declared) → 1 ≤ port_count n → Among d (due_arrays (port_count n)) → Among d (declarations n rows)
  due_there d l h = from4 d (among_right d p3 (declared_where ports (due_arrays (port_count n))) (among_where ports d (due_arrays (port_count n)) (nat_lt_yes 0 (port_count n) l) h))

  abbrev of_orders : List Declared
  of_orders = declared_where (nat_lt 1 (port_count n)) (array orders (port_count n) ∷ [])

  abbrev group_arrays : List Declared
  group_arrays = array fresh (group_count (port_count n)) ∷ array firsts (group_count (port_count n)) ∷ []

  abbrev of_groups : List Declared
  of_groups = declared_where (are_grouped (port_count n)) group_arrays

  group_there : (d : Declared) → 17 ≤ port_count n → Among d group_arrays → Among d (declarations n rows)
  group_there d m h =
      due_there d (omega (arith, m)) (inr (among_right d of_orders of_groups
      (among_where (are_grouped (port_count n)) d group_arrays (nat_lt_yes 16 (port_count n) m) h)))

  event_there : (x : Name) → 1 ≤ port_count n → Among (a_scalar x) (event_scalars (port_count n)) → Among (a_scalar x) (declarations n rows)
  event_there x l h =
      from7 (a_scalar x) (among_right (a_scalar x) p6 (declared_where ports (event_scalars (port_count n)))
      (among_where ports (a_scalar x) (event_scalars (port_count n)) (nat_lt_yes 0 (port_count n) l) h))

  finds : (routines : Name → Option Routine) (may : Name → Bool) (depth : ℕ)
      → Finds n scratch (record { kinds = kind_in (declaring (declarations n rows) []); routines = routines; may = may; depth = depth })
  finds routines may depth = record {
    values = an_array values (all_elements n.specs) (from1 (array values (all_elements n.specs)) (inl refl));
    states = an_array states (states_before n.specs (length n.specs))
        (from1 (array states (states_before n.specs (length n.specs))) (inr (inl refl)));
    masks = an_array masks (length n.specs) (from1 (array masks (length n.specs)) (inr (inr (inl refl))));
    actives = λ l. an_array actives (length n.specs) (from2 (array actives (length n.specs))
        (among_right (array actives (length n.specs)) (value_arrays n) (declared_where (nat_lt 0 (length n.specs)) (active_array n))
        (among_where (nat_lt 0 (length n.specs)) (array actives (length n.specs)) (active_array n) (nat_lt_yes 0 (length n.specs) l) (inl refl))));
    branches = λ q. an_array branches (length n.specs) (from3 (array branches (length n.specs))
        (among_right (array branches (length n.specs)) p2 (declared_where (has_sync n) (branch_array n))
        (among_where (has_sync n) (array branches (length n.specs)) (branch_array n) q (inl refl))));
    dates = λ l. an_array dates (port_count n) (due_there (array dates (port_count n)) l (inl refl));
    orders = λ m. an_array orders (port_count n) (due_there (array orders (port_count n)) (omega (arith, m)) (inr
        (among_left (array orders (port_count n)) of_orders of_groups
        (among_where (nat_lt 1 (port_count n)) (array orders (port_count n)) (array orders (port_count n) ∷ []) (nat_lt_yes 1 (port_count n) m) (inl refl)))));
    fresh = λ m. an_array fresh (group_count (port_count n)) (group_there (array fresh (group_count (port_count n))) m (inl refl));
    firsts = λ m. an_array firsts (group_count (port_count n)) (group_there (array firsts (group_count (port_count n))) m (inr (inl refl)));
    scratch_names = λ k lo hi. a_number (scratch_name k) (from5 (a_scalar (scratch_name k))
        (among_right (a_scalar (scratch_name k)) p4 (scratch_declared scratch) (among_scratch k scratch lo hi)));
    limit = a_number limit_name (from6 (a_scalar limit_name) (among_right (a_scalar limit_name) p5 limit_scalars (inl refl)));
    fired = a_number fired_name (from6 (a_scalar fired_name) (among_right (a_scalar fired_name) p5 limit_scalars (inr (inl refl))));
    next_date = a_number next_date (from6 (a_scalar next_date) (among_right (a_scalar next_date) p5 limit_scalars (inr (inr (inl refl)))));
    until = λ l. a_number until_name (event_there until_name l (inl refl));
    now = λ l. a_number now_name (event_there now_name l (inr (inl refl)));
    chosen = λ l. a_number chosen_name (event_there chosen_name l (inr (inr (inl refl))));
    delay = λ l. a_number delay_name (event_there delay_name l (inr (inr (inr (inl refl)))));
    scan = λ l. a_number scan_name (event_there scan_name l (inr (inr (inr (inr (inl refl))))));
    programmed = λ m. a_number programmed_name (event_there programmed_name (omega (arith, m)) (inr (inr (inr (inr (inr
        (among_where (nat_lt 1 (port_count n)) (a_scalar programmed_name) (a_scalar programmed_name ∷ []) (nat_lt_yes 1 (port_count n) m) (inl refl))))))));
    halt = λ q. a_number halt_name (among_right (a_scalar halt_name) p7 (declared_where (has_halt n) halt_scalar)
        (among_where (has_halt n) (a_scalar halt_name) halt_scalar q (inl refl)));
  }

-- ---- known functions

known_both : (may : Name → Bool) (d : ℕ) (routines : Name → Option Routine) (xs ys : List Function) → AreKnown may d routines (xs ++ ys)
    → AreKnown may d routines xs × AreKnown may d routines ys
known_both may d routines [] ys h = (tt, h)
known_both may d routines (x ∷ xs) ys h = let r = known_both may d routines xs ys h.1 in ((h.0, r.0), r.1)

known_upto : (may : Name → Bool) (d : ℕ) (routines : Name → Option Routine) (f : ℕ → Function) (m k : ℕ) → k < m
    → AreKnown may d routines (functions_upto f m) → IsKnown may d routines (f k).name
known_upto may d routines f zero k l h = absurd (omega (arith, l))
known_upto may d routines f (suc m) k l h =
    let r = known_both may d routines (functions_upto f m) (f m ∷ []) h in
    elim (cases_eq k m) [
      | inl e ↦ subst (λ (j : ℕ). IsKnown may d routines (f j).name) (sym e) r.1.0
      | inr q ↦ known_upto may d routines f m k (omega (arith, l, q)) r.0
    ]

known_where : (may : Name → Bool) (d : ℕ) (routines : Name → Option Routine) (test : Bool) (fs : List Function) → test ≡ true
    → AreKnown may d routines (functions_where test fs) → AreKnown may d routines fs
known_where may d routines true fs e h = h
known_where may d routines false fs e h = absurd (true≢false (sym e))

keep_both : (c : Scene) (xs ys : List Function) → AllKeep c xs → AllKeep c ys → AllKeep c (xs ++ ys)
keep_both c [] ys p q = q
keep_both c (x ∷ xs) ys p q = (p.0, keep_both c xs ys p.1 q)

keep_upto : (c : Scene) (f : ℕ → Function) (m : ℕ) → ((k : ℕ) → k < m → BlockKeeps c (Branch ∷ []) (f k).body) → AllKeep c (functions_upto f m)
keep_upto c f zero h = tt
keep_upto c f (suc m) h =
    keep_both c (functions_upto f m) (f m ∷ []) (keep_upto c f m (λ k l. h k (omega (arith, l)))) (h m (omega arith), tt)

-- ---- sci_main

module _ (n : Parts) (net : IsNet n) (scratch : ℕ) (kinds : Name → Option NameKind) (routines : Name → Option Routine) where
  abbrev c : Scene
  c = record { kinds = kinds; routines = routines; may = λ x. true; depth = 64 }

  abbrev top : List Opened
  top = Branch ∷ []

  abbrev turning : List Opened
  turning = Branch ∷ Turn fired_name (bounds.Var limit_name) ∷ []

  number_reads : (z : ℤ) → ReadsWell c (number z)
  number_reads (pos d) = tt
  number_reads (negsuc d) = tt

  module _ (finds : Finds n scratch c) where
    begun_keeps : (a : Name) (k : ℕ) (z : ℤ) → is_array (kinds a) ≡ true → BlockKeeps c top (begun_text a k z)
    begun_keeps a k z h =
        where_keeps c top (not (int_eq z (pos 0))) (one (set (cell a (natural k)) (number z))) (λ q. (((h, (refl, refl), tt), number_reads z), tt))

    list_keeps : (a : Name) (k : ℕ) (zs : List ℤ) → is_array (kinds a) ≡ true → BlockKeeps c top (list_begun a k zs)
    list_keeps a k [] h = tt
    list_keeps a k (z ∷ zs) h =
        joined_keep c top (begun_text a k z) (list_begun a (k + 1) zs) (begun_keeps a k z h) (list_keeps a (k + 1) zs h)

    -- an order of 0 isn't written
    order_keeps : (i o : ℕ) → (2 ≤ port_count n) ⊎ (o ≡ 0) → BlockKeeps c top (begun_text orders (i - 1) (pos o))
    order_keeps i o (inl m) = begun_keeps orders (i - 1) (pos o) (finds.orders m)
    order_keeps i o (inr e) = subst (λ (j : ℕ). BlockKeeps c top (begun_text orders (i - 1) (pos j))) (sym e) tt

    firing_keeps : (i o : ℕ) (z : ℤ) → 1 ≤ port_count n → (2 ≤ port_count n) ⊎ (o ≡ 0) → BlockKeeps c top (firing_begun i o z)
    firing_keeps i o (pos d) l m =
        joined_keep c top (begun_text dates (i - 1) (pos d)) (begun_text orders (i - 1) (pos o)) (begun_keeps dates (i - 1) (pos d) (finds.dates l))
        (order_keeps i o m)
    firing_keeps i o (negsuc d) l m = (((finds.dates l, (refl, refl), tt), tt), tt)

    some_ports : nat_lt 0 (port_count n) ≡ true → 1 ≤ port_count n
    some_ports h = by_count (port_count n) h
      where
        by_count : (m : ℕ) → nat_lt 0 m ≡ true → 1 ≤ m
        by_count m h = grind (arith, nat_tests)

    outset_keeps : BlockKeeps c top (outset_text n)
    outset_keeps =
        joined_keep c top (all_held n) (joined (first_states n) (joined (all_begun n) (where_ports n)))
        (upto_keeps c top (λ k. held_begun n (suc k)) (length n.specs) (λ k l.
        list_keeps values (start_of n (suc k)) (first_held (spec_of n (suc k))) finds.values))
        (joined_keep c top (first_states n) (joined (all_begun n) (where_ports n))
        (upto_keeps c top (λ k. state_begun n (suc k)) (length n.specs) (λ k l.
        list_keeps states (places_of n (suc k)).state (first_state (spec_of n (suc k))) finds.states))
        (joined_keep c top (all_begun n) (where_ports n)
        (upto_keeps c top (λ k. source_begun n (suc k)) (port_count n) (λ k l.
        firing_keeps (suc k) (programmed_before n (suc k)) (firing_at n (source_of n (suc k))) (omega (arith, l)) (first_order n k l)))
        (where_keeps c top (nat_lt 0 (port_count n)) (clock_begun n) (λ q.
        joined_keep c top (text_where (nat_lt 1 (port_count n)) (count_begun n)) until_asked
        (where_keeps c top (nat_lt 1 (port_count n)) (count_begun n) (λ m.
        (((finds.programmed (ltb-true 1 (port_count n) m), (refl, refl)), tt), tt)))
        (((finds.until (some_ports q), (refl, refl)), tt), tt)))))

    ending_keeps : BlockKeeps c top (ending n)
    ending_keeps = by_halt (has_halt n) refl
      where
        by_halt : (t : Bool) → has_halt n ≡ t
            → BlockKeeps c top (if t then end_or (var halt_name) ends.Halt (one (tell (finish (natural 1)))) else one (tell (finish (natural 1))))
        by_halt true q = ((finds.halt q, (tt, tt), (tt, tt)), tt)
        by_halt false q = (tt, tt)

    module _ (choose : 1 ≤ port_count n → IsKnown may_assign 1 routines choose_name)
        (source : IsKnown may_assign 2 routines (source_name 0)) (event : IsKnown may_assign 3 routines event_name) where
      call_keeps : (opens : List Opened) (d : ℕ) (f : Name) → IsKnown may_assign d routines f → d < 64 → list_any (is_hit may_assign) opens ≡ false
          → CallsWell c opens f
      call_keeps opens d f known deep apart = calls_well c opens may_assign d f known deep (λ x h. refl) apart

      first_keeps : BlockKeeps c top (first_text n)
      first_keeps = by_ports (nat_lt 0 (port_count n)) some_ports
        where
          by_ports : (t : Bool) → (t ≡ true → 1 ≤ port_count n)
              → BlockKeeps c top (if t then one (call choose_name) else one (set (scalar next_date) (number (negsuc 0))))
          by_ports true some = (call_keeps top 1 choose_name (choose (some refl)) (omega arith) refl, tt)
          by_ports false some = (((finds.next_date, (refl, refl)), tt), tt)

      begin_keeps : BlockKeeps c top (begin_text n)
      begin_keeps =
          joined_keep c top (outset_text n) (starting n) outset_keeps (
            ((finds.limit, (refl, refl)), tt),
            (call_keeps top 2 (source_name 0) source (omega arith) refl, first_keeps),
          )

      main_text_keeps : BlockKeeps c top (main_text n)
      main_text_keeps =
          joined_keep c top (begin_text n) (running n) begin_keeps (
            (finds.fired, (refl, refl), (finds.limit, refl), (call_keeps turning 3 event_name event (omega arith) refl, tt)),
            ending_keeps,
          )

-- ---- one event

module _ (n : Parts) (own : Bool) (scratch : ℕ) (kinds : Name → Option NameKind) (routines : Name → Option Routine)
    (finds : Finds n scratch (in_functions kinds routines 3))
    (clear : 1 ≤ port_count n → own ≡ false → IsKnown may_assign 1 routines clear_name)
    (choose : 1 ≤ port_count n → IsKnown may_assign 1 routines choose_name)
    (source : (i : ℕ) → i < length (sources_of n) → IsKnown may_assign 2 routines (source_name i)) where
  abbrev here : Scene
  here = in_functions kinds routines 3

  abbrev body : List Opened
  body = Branch ∷ []

  -- within so many decisions in the function's body
  abbrev within : ℕ → List Opened
  within zero = Branch ∷ []
  within (suc k) = within k ++ Branch ∷ []

  routine_keeps : (opens : List Opened) (d : ℕ) (f : Name) → IsKnown may_assign d routines f → d < 3 → list_any (is_hit may_assign) opens ≡ false
      → CallsWell here opens f
  routine_keeps opens d f known deep apart = calls_well here opens may_assign d f known deep (λ x h. h) apart

  more_open : (opens : List Opened) → list_any (is_hit may_assign) opens ≡ false → list_any (is_hit may_assign) (opens ++ Branch ∷ []) ≡ false
  more_open opens apart = list_any-append (is_hit may_assign) opens (Branch ∷ []) ∙ rw apart refl

  abbrev Keep : ℕ → Type 0
  Keep d = (i c : ℕ) (opens : List Opened) → list_any (is_hit may_assign) opens ≡ false → i < port_count n → i + c ≤ port_count n
      → BlockKeeps here opens (one (react_step d i c))

  react_keeps : (d : ℕ) → Keep d
  react_keeps zero i c opens apart l m =
      subst (λ (s : Statement). BlockKeeps here opens (one s)) (sym (react_last i c))
      (routine_keeps opens 2 (source_name (suc i)) (source (suc i) (omega (arith, l))) (omega arith) apart, tt)
  react_keeps (suc d) i c opens apart l m =
      subst (λ (s : Statement). BlockKeeps here opens (one s)) (sym (react_more d i c)) (by_count (react_keeps d) (nat_lt (2 ^ d) c) refl)
    where
      by_count : Keep d → (t : Bool) → nat_lt (2 ^ d) c ≡ t
          → BlockKeeps here opens (one (if t then in_first i (2 ^ d) (react_step d i (2 ^ d)) (react_step d (i + 2 ^ d) (c - 2 ^ d)) else react_step d i c))
      by_count go true q =
          let more = ltb-true (2 ^ d) c q in
          let inner = more_open opens apart in (
            (
              (finds.chosen (omega (arith, l)), tt),
              go i (2 ^ d) (opens ++ Branch ∷ []) inner l (omega (arith, more, m)),
              go (i + 2 ^ d) (c - 2 ^ d) (opens ++ Branch ∷ []) inner (omega (arith, more, m)) (omega (arith, more, m)),
            ),
            tt,
          )
      by_count go false q = go i c opens apart l m

  -- the place of the chosen source is read
  place_reads : 1 ≤ port_count n → (k : ℕ) → ReadsWell here (chosen_place k)
  place_reads l k = by_count (nat_lt 1 k)
    where
      by_count : (t : Bool) → ReadsWell here (if t then var chosen_name else natural 0)
      by_count true = finds.chosen l
      by_count false = tt

  fire_keeps : (opens : List Opened) → ((x : Name) → is_guarded opens x ≡ false) → list_any (is_hit may_assign) opens ≡ false
      → 1 ≤ port_count n → BlockKeeps here opens (fire_text own n)
  fire_keeps opens free apart l =
      let stale = one (set (cell fresh (bin Div (chosen_place (port_count n)) (natural 16))) (natural 0)) in
      let reacts = next (react_step react_deep 0 (port_count n)) (one (call choose_name)) in (
        ((finds.now l, (refl, free now_name)), (finds.dates l, place_reads l (port_count n))),
        (
          ((finds.dates l, (refl, free dates), place_reads l (port_count n)), tt),
          joined_keep here opens (text_where (are_grouped (port_count n)) stale) (joined (text_where (not own) (one (call clear_name))) reacts)
              (where_keeps here opens (are_grouped (port_count n)) stale (λ q.
              (((finds.fresh (ltb-true 16 (port_count n) q), (refl, free fresh), (place_reads l (port_count n), tt)), tt), tt)))
              (joined_keep here opens (text_where (not own) (one (call clear_name))) reacts (cleared own refl) (
                (react_keeps react_deep 0 (port_count n) opens apart (omega (arith, l)) (omega arith)).0,
                (routine_keeps opens 1 choose_name (choose l) (omega arith) apart, tt),
              )),
        ),
      )
    where
      cleared : (o : Bool) → own ≡ o → BlockKeeps here opens (text_where (not o) (one (call clear_name)))
      cleared true q = tt
      cleared false q = (routine_keeps opens 1 clear_name (clear l q) (omega arith) apart, tt)

  -- k decisions stand around it
  event_keeps : (k : ℕ) → ((x : Name) → is_guarded (within (suc (suc k))) x ≡ false) → list_any (is_hit may_assign) (within (suc (suc k))) ≡ false
      → BlockKeeps here (within k) (event_text own n)
  event_keeps k free apart = by_ports (nat_lt 0 (port_count n)) some_ports
    where
      some_ports : nat_lt 0 (port_count n) ≡ true → 1 ≤ port_count n
      some_ports h = grind (arith, nat_tests)

      by_ports : (t : Bool) → (t ≡ true → 1 ≤ port_count n)
          → BlockKeeps here (within k) (if t then end_or (bin Lt (var next_date) (natural 0)) ends.Empty
          (end_or (bin Gt (var next_date) (var until_name)) ends.Until (fire_text own n)) else one (tell (finish (natural 2))))
      by_ports true some =
          let l = some refl in
          (((finds.next_date, tt), (tt, tt), (((finds.next_date, finds.until l), (tt, tt), fire_keeps (within (suc (suc k))) free apart l), tt)), tt)
      by_ports false some = (tt, tt)

  turn_keeps : BlockKeeps here body (turn_text own n)
  turn_keeps = by_halt (has_halt n) refl
    where
      by_halt : (t : Bool) → has_halt n ≡ t → BlockKeeps here body (if t then end_or (var halt_name) ends.Halt (event_text own n) else event_text own n)
      by_halt true q = ((finds.halt q, (tt, tt), event_keeps 1 (λ x. refl) refl), tt)
      by_halt false q = event_keeps 0 (λ x. refl) refl

-- ---- the program

module _ (n : Parts) (rows : List (List Entry)) (net : IsNet n) (free : AreLoopFree n) (schedule : IsSchedule n rows) where
  abbrev variables : Name → Option NameKind
  variables = kind_in (declaring (declarations n rows) [])

  abbrev count : ℕ
  count = scratch_count n rows (length n.specs)

  inside : (k : ℕ) → k < length n.specs → IsBlock n (suc k)
  inside k l = record { least = omega arith; most = omega (arith, l) }

  some_specs : 1 ≤ port_count n → 1 ≤ length n.specs
  some_specs l = let few = sources_few 1 n.specs (all_typed n net) in omega (arith, l, few)

  abbrev own_texts : Bool
  own_texts = has_own n rows

  abbrev others : List Function
  others = other_functions own_texts n

  abbrev some_where : Bool
  some_where = nat_lt 0 (port_count n)

  some_ports_there : nat_lt 0 (port_count n) ≡ true → 1 ≤ port_count n
  some_ports_there h = grind (arith, nat_tests)

  first_keep : (routines : Name → Option Routine) → AllKeep (in_functions variables routines 1) (blocks n rows ++ others)
  first_keep routines =
      let f = finds n rows routines may_assign 1 in
      keep_both (in_functions variables routines 1) (blocks n rows) others
      (keep_upto (in_functions variables routines 1) (own n rows) (length n.specs) (λ k l.
      block_keeps n net count variables routines 1 f rows (suc k) (inside k l)
      (λ q. scratch_enough n rows (suc k) (length n.specs) (omega arith) (omega (arith, l)) q)))
      (keep_both (in_functions variables routines 1) (functions_where (not own_texts) (shared n)) (chooses n) (by_own own_texts)
      (by_choice some_where some_ports_there))
    where
      by_clear : (t : Bool) → (t ≡ true → 1 ≤ port_count n) → AllKeep (in_functions variables routines 1) (functions_where t (clear_function n ∷ []))
      by_clear true some =
          let l = some refl in (clear_keeps n net count variables routines 1 (finds n rows routines may_assign 1) l (some_specs l), tt)
      by_clear false some = tt

      by_own : (o : Bool) → AllKeep (in_functions variables routines 1) (functions_where (not o) (shared n))
      by_own true = tt
      by_own false =
          (settle_keeps n net count variables routines 1 (finds n rows routines may_assign 1) (loop_enough n rows (length n.specs)) (λ b. Marked) (λ b. tt), by_clear some_where some_ports_there)

      by_choice : (t : Bool) → (t ≡ true → 1 ≤ port_count n) → AllKeep (in_functions variables routines 1) (functions_where t (choose_function n ∷ []))
      by_choice true some = (choose_keeps n net count variables routines 1 (finds n rows routines may_assign 1) (some refl), tt)
      by_choice false some = tt

  known_block : (routines : Name → Option Routine) → AreKnown may_assign 1 routines (blocks n rows ++ others) → (b : ℕ) → IsBlock n b
      → IsKnown may_assign 1 routines (block_name b)
  known_block routines known zero is = absurd (omega (arith, is.least))
  known_block routines known (suc k) is =
      known_upto may_assign 1 routines (own n rows) (length n.specs) k (omega (arith, is.most)) (known_both may_assign 1 routines (blocks n rows) others known).0

  -- the functions for all sources
  shared_known : (routines : Name → Option Routine) → AreKnown may_assign 1 routines (blocks n rows ++ others) → own_texts ≡ false
      → AreKnown may_assign 1 routines (shared n)
  shared_known routines known q =
      known_where may_assign 1 routines (not own_texts) (shared n) (ap not q)
      (known_both may_assign 1 routines (functions_where (not own_texts) (shared n)) (chooses n)
      (known_both may_assign 1 routines (blocks n rows) others known).1).0

  settle_known : (routines : Name → Option Routine) → AreKnown may_assign 1 routines (blocks n rows ++ others) → own_texts ≡ false
      → IsKnown may_assign 1 routines settle_name
  settle_known routines known q = (shared_known routines known q).0

  clear_known : (routines : Name → Option Routine) → AreKnown may_assign 1 routines (blocks n rows ++ others) → 1 ≤ port_count n → own_texts ≡ false
      → IsKnown may_assign 1 routines clear_name
  clear_known routines known l q =
      (known_where may_assign 1 routines some_where (clear_function n ∷ []) (nat_lt_yes 0 (port_count n) l) (shared_known routines known q).1).0

  choose_known : (routines : Name → Option Routine) → AreKnown may_assign 1 routines (blocks n rows ++ others) → 1 ≤ port_count n
      → IsKnown may_assign 1 routines choose_name
  choose_known routines known l =
      (known_where may_assign 1 routines some_where (choose_function n ∷ []) (nat_lt_yes 0 (port_count n) l)
      (known_both may_assign 1 routines (functions_where (not own_texts) (shared n)) (chooses n)
      (known_both may_assign 1 routines (blocks n rows) others known).1).1).0

  second_keep : (routines : Name → Option Routine) → AreKnown may_assign 1 routines (blocks n rows ++ others)
      → AllKeep (in_functions variables routines 2) (sources n rows)
  second_keep routines known =
      keep_upto (in_functions variables routines 2) (source_function n rows) (length (sources_of n)) (λ i l.
      source_keeps n net count variables routines 2 (finds n rows routines may_assign 2) (known_block routines known) (omega arith) (loop_enough n rows (length n.specs)) rows free schedule
      (settle_known routines known) i l)

  source_known : (routines : Name → Option Routine) → AreKnown may_assign 2 routines (sources n rows) → (i : ℕ) → i < length (sources_of n)
      → IsKnown may_assign 2 routines (source_name i)
  source_known routines second i l = known_upto may_assign 2 routines (source_function n rows) (length (sources_of n)) i l second

  third_keep : (routines : Name → Option Routine) → AreKnown may_assign 1 routines (blocks n rows ++ others)
      → AreKnown may_assign 2 routines (sources n rows) → AllKeep (in_functions variables routines 3) (event_function own_texts n ∷ [])
  third_keep routines first second = (
    turn_keeps n own_texts count variables routines (finds n rows routines may_assign 3) (clear_known routines first) (choose_known routines first)
        (source_known routines second),
    tt,
  )

  main_keeps : (routines : Name → Option Routine) → AreKnown may_assign 1 routines (blocks n rows ++ others)
      → AreKnown may_assign 2 routines (sources n rows) → AreKnown may_assign 3 routines (event_function own_texts n ∷ [])
      → BlockKeeps (record { kinds = variables; routines = routines; may = λ x. true; depth = 64 }) (Branch ∷ []) (main_text n)
  main_keeps routines first second third =
      main_text_keeps n net count variables routines (finds n rows routines (λ x. true) 64) (choose_known routines first)
      (source_known routines second 0 (omega arith)) third.0

  keeps_rules : KeepsRules (full_program n rows)
  keeps_rules =
      program_keeps (declarations n rows) (blocks n rows ++ others) (sources n rows) (event_function own_texts n ∷ []) (main_text n) may_assign
      (variables_new n rows) (sizes_few n net rows) (first_new n rows) (second_new n rows) (third_new n rows) first_keep second_keep third_keep main_keeps

-- and so is what is left of it without variables that no text names
pub program_is_whole : ProgramIsWhole
program_is_whole n rows net free schedule = (
  whole_stays (full_program n rows) (is_whole n net rows free schedule),
  rules_stay (full_program n rows) (keeps_rules n rows net free schedule),
)
