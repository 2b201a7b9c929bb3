-- The memory that the program begins with: all that it declares is 0.
use Rattle.std.proofs.Common.{◌≡◌, ℕ, zero, suc, ◌<◌, ◌≤◌, List, [], ◌∷◌, ◌++◌, length, max, Some, Bool, true, false, ◌||◌, nat_lt, inl, inr, refl, sym, ap, ◌∙◌, subst, arith, pos, lt-ltb, append_assoc, true≢false}
use Rattle.std.proofs.Math.Nat.{le-max_left}
use Rattle.std.proofs.lemmas.Bool.{cases_lt, cond-true, cond-false, or_parts}
use Rattle.sci_net.specs.Parts.{Parts}
use Rattle.sci_net.specs.Net.{all_elements}
use Rattle.sci_reaction.specs.Memory.{Columns}
use Rattle.sci_reaction.specs.Schedule.{Entry}
use Rattle.c_ast.specs.declared.Name.{Name}
use Rattle.c_ast.specs.Syntax.{Declared}
use Rattle.c_mean.specs.Meaning.{World, same_name, elements_of, first_world}
use Rattle.c_mean.specs.Places.{get, is_scratch}
use Rattle.c_mean.specs.Programs.{places}
use Rattle.c_mean.proofs.Memory.{name_same, other_name, other_number}
use Rattle.c_mean.proofs.Programs.{first_there}
use Rattle.sci_cgen_blocks.specs.Texts.{values, states, masks, scratch_name}
use Rattle.sci_due.specs.Due.{dates, orders, fresh, firsts, are_grouped, group_count, best as chosen_name, scan as scan_name, now as now_name, last as programmed_name, delay as delay_name}
use Rattle.sci_program.specs.Names.{actives, branches, limit_name, until_name, fired_name, next_date, halt_name}
use Rattle.sci_program.specs.Program.{has_sync, has_halt, port_count, states_before, array, a_scalar, declared_where, due_arrays, event_scalars, scratch_declared, scratch_count, declarations, full_program}

pub record IsBlank (n : Parts) (scratch : ℕ) (i : Columns) (w : World) : Type 0 where
  pub values : (j : ℕ) → j < all_elements n.specs → get w values j ≡ Some (pos 0)
  pub states : (j : ℕ) → j < states_before n.specs (length n.specs) → get w states j ≡ Some (pos 0)
  pub masks : (j : ℕ) → j < length n.specs → get w masks j ≡ Some (pos 0)
  pub actives : (j : ℕ) → j < length n.specs → get w actives j ≡ Some (pos 0)
  pub branches : has_sync n ≡ true → (j : ℕ) → j < length n.specs → get w branches j ≡ Some (pos 0)
  pub dates : (j : ℕ) → j < port_count n → get w dates j ≡ Some (pos 0)
  pub orders : 2 ≤ port_count n → (j : ℕ) → j < port_count n → get w orders j ≡ Some (pos 0)
  pub fresh : 17 ≤ port_count n → (j : ℕ) → j < group_count (port_count n) → get w fresh j ≡ Some (pos 0)
  pub firsts : 17 ≤ port_count n → (j : ℕ) → j < group_count (port_count n) → get w firsts j ≡ Some (pos 0)
  pub scratch_names : (k : ℕ) → 1 ≤ k → k ≤ scratch → get w (scratch_name k) 0 ≡ Some (pos 0)
  pub limit : get w limit_name 0 ≡ Some (pos 0)
  pub fired : get w fired_name 0 ≡ Some (pos 0)
  pub coming : get w next_date 0 ≡ Some (pos 0)
  pub until : 1 ≤ port_count n → get w until_name 0 ≡ Some (pos 0)
  pub now : 1 ≤ port_count n → get w now_name 0 ≡ Some (pos 0)
  pub programmed : 2 ≤ port_count n → get w programmed_name 0 ≡ Some (pos 0)
  pub chosen : 1 ≤ port_count n → get w chosen_name 0 ≡ Some (pos 0)
  pub delay : 1 ≤ port_count n → get w delay_name 0 ≡ Some (pos 0)
  pub scan : 1 ≤ port_count n → get w scan_name 0 ≡ Some (pos 0)
  pub halt : has_halt n ≡ true → get w halt_name 0 ≡ Some (pos 0)
  pub left : w.left ≡ i

-- ---- what is declared

-- one of these has the name
abbrev is_in : Name → List Declared → Bool
is_in x [] = false
is_in x (d ∷ ds) = same_name d.name x || is_in x ds

skip : (x : Name) (ds rest : List Declared) → is_in x ds ≡ false → places (ds ++ rest) x ≡ places rest x
skip x [] rest h = refl
skip x (d ∷ ds) rest h =
    let both = or_parts (same_name d.name x) (is_in x ds) h in
    cond-false (same_name d.name x) (elements_of d) (places (ds ++ rest) x) both.0 ∙ skip x ds rest both.1

skip_where : (t : Bool) (x : Name) (ds rest : List Declared) → is_in x ds ≡ false → places (declared_where t ds ++ rest) x ≡ places rest x
skip_where true x ds rest h = skip x ds rest h
skip_where false x ds rest h = refl

take_where : (t : Bool) (x : Name) (ds rest : List Declared) → t ≡ true → places (declared_where t ds ++ rest) x ≡ places (ds ++ rest) x
take_where t x ds rest e = ap (λ (t : Bool). places (declared_where t ds ++ rest) x) e

not_where : (t : Bool) (x : Name) (ds : List Declared) → is_in x ds ≡ false → is_in x (declared_where t ds) ≡ false
not_where true x ds h = h
not_where false x ds h = refl

both_not : (a b : Bool) → a ≡ false → b ≡ false → a || b ≡ false
both_not true b p q = absurd (true≢false p)
both_not false b p q = q

in_joined : (x : Name) (xs bs : List Declared) → is_in x xs ≡ false → is_in x bs ≡ false → is_in x (xs ++ bs) ≡ false
in_joined x [] bs p q = q
in_joined x (a ∷ xs) bs p q = by_first (same_name a.name x) p (λ r. in_joined x xs bs r q)
  where
    by_first : (t : Bool) → t || is_in x xs ≡ false → (is_in x xs ≡ false → is_in x (xs ++ bs) ≡ false) → t || is_in x (xs ++ bs) ≡ false
    by_first true h go = absurd (true≢false h)
    by_first false h go = go h

one_not : (x : Name) (d : Declared) → same_name d.name x ≡ false → is_in x (d ∷ []) ≡ false
one_not x d h = ap (λ (t : Bool). t || false) h

-- other names than those of scratch
not_scratch : (x : Name) (m : ℕ) → is_scratch x ≡ false → is_in x (scratch_declared m) ≡ false
not_scratch x zero h = refl
not_scratch x (suc m) h =
    in_joined x (scratch_declared m) (a_scalar (scratch_name (suc m)) ∷ []) (not_scratch x m h)
    (one_not x (a_scalar (scratch_name (suc m))) (other_name is_scratch (scratch_name (suc m)) x refl h))

scratch_beyond : (k m : ℕ) → m < k → is_in (scratch_name k) (scratch_declared m) ≡ false
scratch_beyond k zero l = refl
scratch_beyond k (suc m) l =
    in_joined (scratch_name k) (scratch_declared m) (a_scalar (scratch_name (suc m)) ∷ []) (scratch_beyond k m (omega (arith, l)))
    (one_not (scratch_name k) (a_scalar (scratch_name (suc m))) (other_number 116 (suc m) k (λ e. omega (arith, e, l))))

scratch_there : (k m : ℕ) (rest : List Declared) → 1 ≤ k → k ≤ m → places (scratch_declared m ++ rest) (scratch_name k) ≡ 1
scratch_there k zero rest lo hi = absurd (omega (arith, lo, hi))
scratch_there k (suc m) rest lo hi =
    ap (λ (ds : List Declared). places ds (scratch_name k)) (append_assoc (scratch_declared m) (a_scalar (scratch_name (suc m)) ∷ []) rest)
    ∙ elim (cases_lt k (suc m)) [
      | inl q ↦ scratch_there k m (a_scalar (scratch_name (suc m)) ∷ rest) lo (omega (arith, q))
      | inr q ↦ let same : suc m ≡ k = omega (arith, q, hi) in
          skip (scratch_name k) (scratch_declared m) (a_scalar (scratch_name (suc m)) ∷ rest) (scratch_beyond k m (omega (arith, same)))
          ∙ cond-true (same_name (scratch_name (suc m)) (scratch_name k)) 1 (places rest (scratch_name k))
          (subst (λ (j : ℕ). same_name (scratch_name (suc m)) (scratch_name j) ≡ true) same (name_same (scratch_name (suc m))))
    ]

-- ---- the declarations from each place on

regrouped : (p a b t s l c h : List Declared) → ((((((p ++ a) ++ b) ++ t) ++ s) ++ l) ++ c) ++ h ≡ p ++ (a ++ (b ++ (t ++ (s ++ (l ++ (c ++ h))))))
regrouped p a b t s l c h =
    append_assoc (((((p ++ a) ++ b) ++ t) ++ s) ++ l) c h
    ∙ (append_assoc ((((p ++ a) ++ b) ++ t) ++ s) l (c ++ h)
    ∙ (append_assoc (((p ++ a) ++ b) ++ t) s (l ++ (c ++ h))
    ∙ (append_assoc ((p ++ a) ++ b) t (s ++ (l ++ (c ++ h)))
    ∙ (append_assoc (p ++ a) b (t ++ (s ++ (l ++ (c ++ h)))) ∙ append_assoc p a (b ++ (t ++ (s ++ (l ++ (c ++ h)))))))))

module _ (n : Parts) (rows : List (List Entry)) where
  abbrev from_halt : List Declared
  from_halt = declared_where (has_halt n) (a_scalar halt_name ∷ [])

  abbrev scalars : List Declared
  scalars = event_scalars (port_count n)

  abbrev from_scalars : List Declared
  from_scalars = declared_where (nat_lt 0 (port_count n)) scalars ++ from_halt

  abbrev from_limit : List Declared
  from_limit = a_scalar limit_name ∷ a_scalar fired_name ∷ a_scalar next_date ∷ from_scalars

  abbrev from_scratch : List Declared
  from_scratch = scratch_declared (scratch_count n rows (length n.specs)) ++ from_limit

  abbrev table : List Declared
  table = due_arrays (port_count n)

  abbrev of_orders : List Declared
  of_orders = declared_where (nat_lt 1 (port_count n)) (array orders (port_count n) ∷ [])

  abbrev group_arrays : List Declared
  group_arrays = array fresh (group_count (port_count n)) ∷ array firsts (group_count (port_count n)) ∷ []

  abbrev of_groups : List Declared
  of_groups = declared_where (are_grouped (port_count n)) group_arrays

  no_table : (x : Name) → same_name dates x || (same_name orders x || (same_name fresh x || same_name firsts x)) ≡ false → is_in x table ≡ false
  no_table x h =
      let a = or_parts (same_name dates x) (same_name orders x || (same_name fresh x || same_name firsts x)) h in
      let b = or_parts (same_name orders x) (same_name fresh x || same_name firsts x) a.1 in
      let c = or_parts (same_name fresh x) (same_name firsts x) b.1 in
      both_not (same_name dates x) (is_in x (of_orders ++ of_groups)) a.0
      (in_joined x of_orders of_groups
      (not_where (nat_lt 1 (port_count n)) x (array orders (port_count n) ∷ []) (one_not x (array orders (port_count n)) b.0))
      (not_where (are_grouped (port_count n)) x group_arrays
      (both_not (same_name fresh x) (is_in x (array firsts (group_count (port_count n)) ∷ [])) c.0 (one_not x (array firsts (group_count (port_count n))) c.1))))

  abbrev from_table : List Declared
  from_table = declared_where (nat_lt 0 (port_count n)) table ++ from_scratch

  abbrev from_branches : List Declared
  from_branches = declared_where (has_sync n) (array branches (length n.specs) ∷ []) ++ from_table

  abbrev from_actives : List Declared
  from_actives = declared_where (nat_lt 0 (length n.specs)) (array actives (length n.specs) ∷ []) ++ from_branches

  abbrev from_values : List Declared
  from_values = array values (all_elements n.specs) ∷ array states (states_before n.specs (length n.specs)) ∷ array masks (length n.specs) ∷ from_actives

  declared_are : declarations n rows ≡ from_values
  declared_are =
      regrouped (array values (all_elements n.specs) ∷ array states (states_before n.specs (length n.specs)) ∷ array masks (length n.specs) ∷ [])
      (declared_where (nat_lt 0 (length n.specs)) (array actives (length n.specs) ∷ [])) (declared_where (has_sync n) (array branches (length n.specs) ∷ []))
      (declared_where (nat_lt 0 (port_count n)) table) (scratch_declared (scratch_count n rows (length n.specs)))
      (a_scalar limit_name ∷ a_scalar fired_name ∷ a_scalar next_date ∷ [])
      (declared_where (nat_lt 0 (port_count n)) scalars) from_halt

  -- a name that isn't declared before the table, before scratch, or before the scalars
  to_table : (x : Name) → same_name values x || (same_name states x || (same_name masks x || (same_name actives x || same_name branches x))) ≡ false
      → places from_values x ≡ places from_table x
  to_table x h =
      let a = or_parts (same_name values x) _ h in
      let b = or_parts (same_name states x) _ a.1 in
      let c = or_parts (same_name masks x) _ b.1 in
      let d = or_parts (same_name actives x) (same_name branches x) c.1 in
      cond-false (same_name values x) _ _ a.0 ∙ (cond-false (same_name states x) _ _ b.0 ∙ (cond-false (same_name masks x) _ _ c.0
      ∙ (skip_where (nat_lt 0 (length n.specs)) x (array actives (length n.specs) ∷ []) from_branches (one_not x (array actives (length n.specs)) d.0)
      ∙ skip_where (has_sync n) x (array branches (length n.specs) ∷ []) from_table (one_not x (array branches (length n.specs)) d.1))))

  -- a name that is declared behind the dates
  behind_dates : (x : Name) → same_name values x || (same_name states x || (same_name masks x || (same_name actives x || same_name branches x))) ≡ false
      → same_name dates x ≡ false → nat_lt 0 (port_count n) ≡ true → places from_values x ≡ places (of_orders ++ (of_groups ++ from_scratch)) x
  behind_dates x h d some =
      to_table x h ∙ (take_where (nat_lt 0 (port_count n)) x table from_scratch some
      ∙ (cond-false (same_name dates x) _ _ d ∙ ap (λ (ds : List Declared). places ds x) (append_assoc of_orders of_groups from_scratch)))

  -- or behind the orders
  to_groups : (x : Name) → same_name values x || (same_name states x || (same_name masks x || (same_name actives x || same_name branches x))) ≡ false
      → same_name dates x ≡ false → same_name orders x ≡ false → 17 ≤ port_count n → places from_values x ≡ places (group_arrays ++ from_scratch) x
  to_groups x h d o many =
      behind_dates x h d (lt-ltb 0 (port_count n) (omega (arith, many)))
      ∙ (skip_where (nat_lt 1 (port_count n)) x (array orders (port_count n) ∷ []) (of_groups ++ from_scratch) (one_not x (array orders (port_count n)) o)
      ∙ take_where (are_grouped (port_count n)) x group_arrays from_scratch (lt-ltb 16 (port_count n) many))

  to_limit : (x : Name) → same_name values x || (same_name states x || (same_name masks x || (same_name actives x || same_name branches x))) ≡ false
      → is_in x table ≡ false → is_scratch x ≡ false → places from_values x ≡ places from_limit x
  to_limit x h t s =
      to_table x h ∙ (skip_where (nat_lt 0 (port_count n)) x table from_scratch t
      ∙ skip x (scratch_declared (scratch_count n rows (length n.specs))) from_limit (not_scratch x (scratch_count n rows (length n.specs)) s))

  to_scalars : (x : Name) → same_name values x || (same_name states x || (same_name masks x || (same_name actives x || same_name branches x))) ≡ false
      → is_in x table ≡ false → is_scratch x ≡ false → is_in x (a_scalar limit_name ∷ a_scalar fired_name ∷ a_scalar next_date ∷ []) ≡ false → nat_lt 0 (port_count n) ≡ true
      → places from_values x ≡ places (scalars ++ from_halt) x
  to_scalars x h t s f some =
      to_limit x h t s ∙ (skip x (a_scalar limit_name ∷ a_scalar fired_name ∷ a_scalar next_date ∷ []) from_scalars f
      ∙ take_where (nat_lt 0 (port_count n)) x scalars from_halt some)

  -- ---- all is 0

  zero_at : (i : Columns) (x : Name) (j size : ℕ) → places from_values x ≡ size → j < size → get (first_world (full_program n rows) i) x j ≡ Some (pos 0)
  zero_at i x j size e l = first_there (full_program n rows) i x j (subst (λ (k : ℕ). j < k) (sym (ap (λ (ds : List Declared). places ds x) declared_are ∙ e)) l)

  in_array : (j size : ℕ) → j < size → j < max size 1
  in_array j size l = let more = le-max_left size 1 in omega (arith, l, more)

  scalar_zero : (i : Columns) (x : Name) → same_name values x ||
      (same_name states x || (same_name masks x || (same_name actives x || same_name branches x))) ≡ false
      → is_in x table ≡ false → is_scratch x ≡ false → is_in x (a_scalar limit_name ∷ a_scalar fired_name ∷ a_scalar next_date ∷ []) ≡ false → places (scalars ++ from_halt) x ≡ 1
      → 1 ≤ port_count n → get (first_world (full_program n rows) i) x 0 ≡ Some (pos 0)
  scalar_zero i x h t s f one some =
      zero_at i x 0 1 (to_scalars x h t s f (lt-ltb 0 (port_count n) (omega (arith, some))) ∙ one) (omega arith)

  pub blank_first : (i : Columns) → IsBlank n (scratch_count n rows (length n.specs)) i (first_world (full_program n rows) i)
  blank_first i = record {
    values = λ j l. zero_at i values j (max (all_elements n.specs) 1) refl (in_array j (all_elements n.specs) l);
    states = λ j l. zero_at i states j (max (states_before n.specs (length n.specs)) 1) refl (in_array j (states_before n.specs (length n.specs)) l);
    masks = λ j l. zero_at i masks j (max (length n.specs) 1) refl (in_array j (length n.specs) l);
    actives = λ j l. zero_at i actives j (max (length n.specs) 1)
        (take_where (nat_lt 0 (length n.specs)) actives (array actives (length n.specs) ∷ []) from_branches (lt-ltb 0 (length n.specs) (omega (arith, l))))
        (in_array j (length n.specs) l);
    branches = λ h j l. zero_at i branches j (max (length n.specs) 1)
        (skip_where (nat_lt 0 (length n.specs)) branches (array actives (length n.specs) ∷ []) from_branches refl
        ∙ take_where (has_sync n) branches (array branches (length n.specs) ∷ []) from_table h)
        (in_array j (length n.specs) l);
    dates = λ j l. zero_at i dates j (max (port_count n) 1)
        (to_table dates refl ∙ take_where (nat_lt 0 (port_count n)) dates table from_scratch (lt-ltb 0 (port_count n) (omega (arith, l))))
        (in_array j (port_count n) l);
    orders = λ m j l. zero_at i orders j (max (port_count n) 1)
        (behind_dates orders refl refl (lt-ltb 0 (port_count n) (omega (arith, l)))
        ∙ take_where (nat_lt 1 (port_count n)) orders (array orders (port_count n) ∷ []) (of_groups ++ from_scratch) (lt-ltb 1 (port_count n) m))
        (in_array j (port_count n) l);
    fresh = λ m j l. zero_at i fresh j (max (group_count (port_count n)) 1) (to_groups fresh refl refl refl m) (in_array j (group_count (port_count n)) l);
    firsts = λ m j l. zero_at i firsts j (max (group_count (port_count n)) 1) (to_groups firsts refl refl refl m) (in_array j (group_count (port_count n)) l);
    scratch_names = λ k lo hi. zero_at i (scratch_name k) 0 1
        (to_table (scratch_name k) refl ∙ (skip_where (nat_lt 0 (port_count n)) (scratch_name k) table from_scratch (no_table (scratch_name k) refl)
        ∙ scratch_there k (scratch_count n rows (length n.specs)) from_limit lo hi)) (omega arith);
    limit = zero_at i limit_name 0 1 (to_limit limit_name refl (no_table limit_name refl) refl) (omega arith);
    fired = zero_at i fired_name 0 1 (to_limit fired_name refl (no_table fired_name refl) refl) (omega arith);
    coming = zero_at i next_date 0 1 (to_limit next_date refl (no_table next_date refl) refl) (omega arith);
    until = scalar_zero i until_name refl (no_table until_name refl) refl refl refl;
    now = scalar_zero i now_name refl (no_table now_name refl) refl refl refl;
    programmed = λ m. scalar_zero i programmed_name refl (no_table programmed_name refl) refl refl
        (take_where (nat_lt 1 (port_count n)) programmed_name (a_scalar programmed_name ∷ []) from_halt (lt-ltb 1 (port_count n) m)) (omega (arith, m));
    chosen = scalar_zero i chosen_name refl (no_table chosen_name refl) refl refl refl;
    delay = scalar_zero i delay_name refl (no_table delay_name refl) refl refl refl;
    scan = scalar_zero i scan_name refl (no_table scan_name refl) refl refl refl;
    halt = λ h. zero_at i halt_name 0 1
        (to_limit halt_name refl (no_table halt_name refl) refl ∙ (skip halt_name (a_scalar limit_name ∷ a_scalar fired_name ∷ a_scalar next_date ∷ []) from_scalars refl
        ∙ (skip_where (nat_lt 0 (port_count n)) halt_name scalars from_halt
        (not_where (nat_lt 1 (port_count n)) halt_name (a_scalar programmed_name ∷ []) refl)
        ∙ ap (λ (t : Bool). places (declared_where t (a_scalar halt_name ∷ [])) halt_name) h))) (omega arith);
    left = refl;
  }
