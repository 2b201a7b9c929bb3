-- The variables and the functions of a generated program have different names, and its arrays are small.
use Rattle.std.proofs.Common.{◌≡◌, ℕ, zero, suc, ◌+◌, ◌<◌, ◌≤◌, inl, inr, List, [], ◌∷◌, ◌++◌, length, max, Some, None, Bool, true, false, not, nat_eq, nat_lt, if◌then◌else◌, refl, ◌∙◌, subst, arith}
use Rattle.std.proofs.lemmas.Bool.{cases_eq, cond-false}
use Rattle.sci_net.specs.Parts.{Parts}
use Rattle.sci_net.specs.Sources.{sources_of}
use Rattle.sci_net.specs.Net.{IsNet, all_elements}
use Rattle.sci_reaction.specs.Schedule.{Entry}
use Rattle.c_ast.specs.declared.Name.{Name}
use Rattle.c_ast.specs.declared.events.NameKind.{NameKind}
use Rattle.c_ast.specs.declared.events.NameKind.TheVariants as kinds
use Rattle.c_ast.specs.Syntax.{Declared, Function}
use Rattle.c_ast.specs.Rules.{same_name, kind_in, kind_of}
use Rattle.c_mean.proofs.Memory.{other_name, other_number, not_same}
use Rattle.sci_cgen_blocks.specs.Texts.{scratch_name}
use Rattle.sci_cgen_blocks.proofs.WholeRules.{declaring, AreNew, sizes, AreNewFunctions, declaring_functions}
use Rattle.sci_due.specs.Due.{dates, orders, fresh, firsts, are_grouped, group_count, best as chosen_name, scan as scan_name, now as now_name, last as programmed_name, delay as delay_name}
use Rattle.sci_program.specs.Names.{until_name, block_name, source_name, settle_name, clear_name, choose_name, event_name}
use Rattle.sci_program.specs.Program.{has_own, has_sync, has_halt, port_count, states_before, array, a_scalar, declared_where, due_arrays, event_scalars, scratch_declared, scratch_count, declarations, functions_upto, functions_where, other_functions, source_function, event_function}
use Rattle.sci_program.proofs.Parted.{value_arrays, active_array, branch_array, limit_scalars, halt_scalar, own, blocks, sources, settle_function, clear_function, choose_function}
use Rattle.sci_program.proofs.Sizes.{few_ports, few_all_states, scratch_few}

-- ---- fewer variables

abbrev all_due : ℕ → List Declared
all_due c = array dates c ∷ array orders c ∷ array fresh (group_count c) ∷ array firsts (group_count c) ∷ []

abbrev all_event : List Declared
all_event = a_scalar until_name ∷ a_scalar now_name ∷ a_scalar chosen_name ∷ a_scalar delay_name ∷ a_scalar scan_name ∷ a_scalar programmed_name ∷ []

-- some of these variables, in their order
data Fewer : List Declared → List Declared → Type 0 where
  nothing : Fewer [] []
  keep : (d : Declared) (ds es : List Declared) → Fewer ds es → Fewer (d ∷ ds) (d ∷ es)
  skip : (d : Declared) (ds es : List Declared) → Fewer ds es → Fewer ds (d ∷ es)

all_of : (ds : List Declared) → Fewer ds ds
all_of [] = nothing
all_of (d ∷ ds) = keep d ds ds (all_of ds)

none_of : (ds : List Declared) → Fewer [] ds
none_of [] = nothing
none_of (d ∷ ds) = skip d [] ds (none_of ds)

where_of : (test : Bool) (ds : List Declared) → Fewer (declared_where test ds) ds
where_of true ds = all_of ds
where_of false ds = none_of ds

where_some : (test : Bool) {ds es : List Declared} → Fewer ds es → Fewer (declared_where test ds) es
where_some true f = f
where_some false {ds} {es} f = none_of es

both_of : {a b c d : List Declared} → Fewer a b → Fewer c d → Fewer (a ++ c) (b ++ d)
both_of nothing g = g
both_of (keep x a b f) g = keep x _ _ (both_of f g)
both_of (skip x a b f) g = skip x _ _ (both_of f g)

skip_last : {ds es : List Declared} (d : Declared) → Fewer ds es → Fewer ds (es ++ d ∷ [])
skip_last d nothing = skip d [] [] nothing
skip_last d (keep x ds es f) = keep x _ _ (skip_last d f)
skip_last d (skip x ds es f) = skip x _ _ (skip_last d f)

-- a few variables, and others where a test holds
due_of : (c : ℕ) → Fewer (due_arrays c) (all_due c)
due_of c =
    keep (array dates c) _ _
    (both_of (where_of (nat_lt 1 c) (array orders c ∷ [])) (where_of (are_grouped c) (array fresh (group_count c) ∷ array firsts (group_count c) ∷ [])))

event_of : (c : ℕ) → Fewer (event_scalars c) all_event
event_of c =
    keep (a_scalar until_name) _ _ (keep (a_scalar now_name) _ _ (keep (a_scalar chosen_name) _ _ (keep (a_scalar delay_name) _ _ (keep (a_scalar scan_name) _ _
    (where_of (nat_lt 1 c) (a_scalar programmed_name ∷ []))))))

scratch_of_more : (k m : ℕ) → k ≤ m → Fewer (scratch_declared k) (scratch_declared m)
scratch_of_more k zero l = subst (λ (j : ℕ). Fewer (scratch_declared k) (scratch_declared j)) (let e : k ≡ 0 = omega (arith, l) in e)
    (all_of (scratch_declared k))
scratch_of_more k (suc m) l = elim (cases_eq k (suc m)) [
  | inl e ↦ subst (λ (j : ℕ). Fewer (scratch_declared k) (scratch_declared j)) e (all_of (scratch_declared k))
  | inr q ↦ skip_last (a_scalar (scratch_name (suc m))) (scratch_of_more k m (omega (arith, l, q)))
]

-- ---- new names

behind_one : (x y : Name) (k : NameKind) (ks ls : List (Name × NameKind)) → (kind_in ls y ≡ None → kind_in ks y ≡ None)
    → kind_in ((x, k) ∷ ls) y ≡ None → kind_in ((x, k) ∷ ks) y ≡ None
behind_one x y k ks ls h = by_name (same_name x y) h
  where
    by_name : (t : Bool) → (kind_in ls y ≡ None → kind_in ks y ≡ None) → (if t then Some k else kind_in ls y) ≡ None
        → (if t then Some k else kind_in ks y) ≡ None
    by_name true h e = e
    by_name false h e = h e

without_one : (x y : Name) (k : NameKind) (ls : List (Name × NameKind)) → kind_in ((x, k) ∷ ls) y ≡ None → kind_in ls y ≡ None
without_one x y k ls = by_name (same_name x y)
  where
    none_some : (q : NameKind) → Some q ≡ None → ⊥
    none_some q e = cc

    by_name : (t : Bool) → (if t then Some k else kind_in ls y) ≡ None → kind_in ls y ≡ None
    by_name true e = absurd (none_some k e)
    by_name false e = e

fewer_new : {ds es : List Declared} → Fewer ds es → (ks ls : List (Name × NameKind)) → ((x : Name) → kind_in ls x ≡ None → kind_in ks x ≡ None)
    → AreNew es ls → AreNew ds ks
fewer_new nothing ks ls h new = tt
fewer_new (keep d ds es f) ks ls h new = (
  h d.name new.0,
  fewer_new f ((d.name, kind_of d.size) ∷ ks) ((d.name, kind_of d.size) ∷ ls) (λ x. behind_one d.name x (kind_of d.size) ks ls (h x))
      new.1,
)
fewer_new (skip d ds es f) ks ls h new =
    fewer_new f ks ((d.name, kind_of d.size) ∷ ls) (λ x e. h x (without_one d.name x (kind_of d.size) ls e)) new.1

-- ---- the program's variables

module _ (n : Parts) where
  abbrev most : List Declared
  most =
      value_arrays n ++ active_array n ++ branch_array n ++ all_due (port_count n) ++ scratch_declared 5 ++ limit_scalars ++ all_event ++ halt_scalar

  most_new : AreNew most []
  most_new = (
    refl,
    (
      refl,
      (
        refl,
        (
          refl,
          (
            refl,
            (
              refl,
              (refl, (refl, (refl, (refl, (refl, (refl, (refl, (refl, (refl, (refl, (refl, (refl, (refl, (refl, (refl, (refl, (refl, (refl, tt)))))))))))))))))),
            ),
          ),
        ),
      ),
    ),
  )

  fewer_declared : (rows : List (List Entry)) → Fewer (declarations n rows) most
  fewer_declared rows =
      both_of (both_of (both_of (both_of (both_of (both_of (both_of (all_of (value_arrays n)) (where_of (nat_lt 0 (length n.specs)) (active_array n)))
      (where_of (has_sync n) (branch_array n)))
      (where_some (nat_lt 0 (port_count n)) (due_of (port_count n))))
      (scratch_of_more (scratch_count n rows (length n.specs)) 5 (scratch_few n rows (length n.specs))))
      (all_of limit_scalars))
      (where_some (nat_lt 0 (port_count n)) (event_of (port_count n))))
      (where_of (has_halt n) halt_scalar)

  pub variables_new : (rows : List (List Entry)) → AreNew (declarations n rows) []
  variables_new rows = fewer_new (fewer_declared rows) [] [] (λ x e. e) most_new

  -- ---- their sizes

  sizes_both : (xs ys : List Declared) → sizes (xs ++ ys) ≡ sizes xs + sizes ys
  sizes_both [] ys = omega arith
  sizes_both (x ∷ xs) ys = omega (arith, sizes_both xs ys)

  fewer_sizes : {ds es : List Declared} → Fewer ds es → sizes ds ≤ sizes es
  fewer_sizes nothing = omega arith
  fewer_sizes (keep d ds es f) = omega (arith, fewer_sizes f)
  fewer_sizes (skip d ds es f) = omega (arith, fewer_sizes f)

  max_sum : (a : ℕ) → max a 1 ≤ a + 1
  max_sum a = omega arith

  pub sizes_few : IsNet n → (rows : List (List Entry)) → sizes (declarations n rows) ≤ 16777216
  sizes_few net rows =
      omega (
        arith,
        fewer_sizes (fewer_declared rows),
        net.small,
        net.wired.few,
        few_ports n net,
        few_all_states n net,
        max_sum (all_elements n.specs),
        max_sum (states_before n.specs (length n.specs)),
        max_sum (length n.specs),
        max_sum (port_count n),
        max_sum (group_count (port_count n)),
      )

-- ---- functions

-- none of these has the name
abbrev AreOther : Name → List Function → Type 0
AreOther x [] = Unit {0}
AreOther x (f ∷ fs) = (same_name f.name x ≡ false) × AreOther x fs

other_both : (x : Name) (fs gs : List Function) → AreOther x fs → AreOther x gs → AreOther x (fs ++ gs)
other_both x [] gs p q = q
other_both x (f ∷ fs) gs p q = (p.0, other_both x fs gs p.1 q)

other_upto : (x : Name) (f : ℕ → Function) (k : ℕ) → ((j : ℕ) → j < k → same_name (f j).name x ≡ false) → AreOther x (functions_upto f k)
other_upto x f zero h = tt
other_upto x f (suc k) h = other_both x (functions_upto f k) (f k ∷ []) (other_upto x f k (λ j l. h j (omega (arith, l)))) (h k (omega arith), tt)

none_behind : (fs : List Function) (ks : List (Name × NameKind)) (x : Name) → AreOther x fs → kind_in ks x ≡ None → kind_in (declaring_functions fs ks) x ≡ None
none_behind [] ks x h e = e
none_behind (f ∷ fs) ks x h e =
    none_behind fs ((f.name, kinds.Function) ∷ ks) x h.1 (cond-false (same_name f.name x) (Some kinds.Function) (kind_in ks x) h.0 ∙ e)

declaring_both : (fs gs : List Function) (ks : List (Name × NameKind)) → declaring_functions (fs ++ gs) ks ≡ declaring_functions gs (declaring_functions fs ks)
declaring_both [] gs ks = refl
declaring_both (f ∷ fs) gs ks = declaring_both fs gs ((f.name, kinds.Function) ∷ ks)

new_both : (fs gs : List Function) (ks : List (Name × NameKind)) → AreNewFunctions fs ks → AreNewFunctions gs (declaring_functions fs ks)
    → AreNewFunctions (fs ++ gs) ks
new_both [] gs ks p q = q
new_both (f ∷ fs) gs ks p q = (p.0, new_both fs gs ((f.name, kinds.Function) ∷ ks) p.1 q)

-- numbered functions of one letter, none of which is declared
new_upto : (f : ℕ → Function) (k : ℕ) (ks : List (Name × NameKind)) → ((j : ℕ) → kind_in ks (f j).name ≡ None)
    → ((i j : ℕ) → i < j → same_name (f i).name (f j).name ≡ false) → AreNewFunctions (functions_upto f k) ks
new_upto f zero ks fresh apart = tt
new_upto f (suc k) ks fresh apart =
    new_both (functions_upto f k) (f k ∷ []) ks (new_upto f k ks fresh apart)
    (none_behind (functions_upto f k) ks (f k).name (other_upto (f k).name f k (λ j l. apart j k l)) (fresh k), tt)

-- ---- variables are no functions

abbrev is_function : Name → Bool
is_function x = if nat_eq x.letter 102 then true else if nat_eq x.letter 103 then true else nat_eq x.letter 115

abbrev AreVariables : List Declared → Type 0
AreVariables [] = Unit {0}
AreVariables (d ∷ ds) = (is_function d.name ≡ false) × AreVariables ds

fewer_variables : {ds es : List Declared} → Fewer ds es → AreVariables es → AreVariables ds
fewer_variables nothing h = tt
fewer_variables (keep d ds es f) h = (h.0, fewer_variables f h.1)
fewer_variables (skip d ds es f) h = fewer_variables f h.1

not_declared : (ds : List Declared) (ks : List (Name × NameKind)) (x : Name) → is_function x ≡ true → AreVariables ds → kind_in ks x ≡ None
    → kind_in (declaring ds ks) x ≡ None
not_declared [] ks x h v e = e
not_declared (d ∷ ds) ks x h v e =
    not_declared ds ((d.name, kind_of d.size) ∷ ks) x h v.1
    (cond-false (same_name d.name x) (Some (kind_of d.size)) (kind_in ks x) (not_same x d.name (other_name is_function x d.name h v.0)) ∙ e)

module _ (n : Parts) (rows : List (List Entry)) where
  most_variables : AreVariables (most n)
  most_variables = (
    refl,
    (
      refl,
      (
        refl,
        (
          refl,
          (
            refl,
            (refl, (refl, (refl, (refl, (refl, (refl, (refl, (refl, (refl, (refl, (refl, (refl, (refl, (refl, (refl, (refl, (refl, (refl, (refl, tt))))))))))))))))))),
          ),
        ),
      ),
    ),
  )

  no_variable : (x : Name) → is_function x ≡ true → kind_in (declaring (declarations n rows) []) x ≡ None
  no_variable x h = not_declared (declarations n rows) [] x h (fewer_variables (fewer_declared n rows) most_variables) refl

  abbrev variables : List (Name × NameKind)
  variables = declaring (declarations n rows) []

  abbrev others : List Function
  others = other_functions (has_own n rows) n

  others_new : (ks : List (Name × NameKind)) → ((k : ℕ) → kind_in ks (record { letter = 103; number = k }) ≡ None) → AreNewFunctions others ks
  others_new ks h = by_tests (has_own n rows) (nat_lt 0 (port_count n))
    where
      by_tests : (o t : Bool) → AreNewFunctions (functions_where (not o) (settle_function n ∷ functions_where t (clear_function n ∷ []))
          ++ functions_where t (choose_function n ∷ [])) ks
      by_tests true true = (h 3, tt)
      by_tests true false = tt
      by_tests false true = (h 2, (h 1, (h 3, tt)))
      by_tests false false = (h 2, tt)

  -- none of them has the name of a function with another letter or number
  others_other : (x : Name) → same_name settle_name x ≡ false → same_name clear_name x ≡ false → same_name choose_name x ≡ false → AreOther x others
  others_other x s c d = by_tests (has_own n rows) (nat_lt 0 (port_count n))
    where
      by_tests : (o t : Bool) → AreOther x (functions_where (not o) (settle_function n ∷ functions_where t (clear_function n ∷ []))
          ++ functions_where t (choose_function n ∷ []))
      by_tests true true = (d, tt)
      by_tests true false = tt
      by_tests false true = (s, (c, (d, tt)))
      by_tests false false = (s, tt)

  pub first_new : AreNewFunctions (blocks n rows ++ others) variables
  first_new =
      new_both (blocks n rows) others variables
      (new_upto (own n rows) (length n.specs) variables (λ j. no_variable (block_name (suc j)) refl)
      (λ i j l. other_number 102 (suc i) (suc j) (λ e. omega (arith, e, l))))
      (others_new (declaring_functions (blocks n rows) variables) (λ k.
      none_behind (blocks n rows) variables (record { letter = 103; number = k })
      (other_upto (record { letter = 103; number = k }) (own n rows) (length n.specs) (λ j l. refl))
      (no_variable (record { letter = 103; number = k }) refl)))

  pub second_new : AreNewFunctions (sources n rows) (declaring_functions (blocks n rows ++ others) variables)
  second_new =
      new_upto (source_function n rows) (length (sources_of n)) (declaring_functions (blocks n rows ++ others) variables) (λ j.
      none_behind (blocks n rows ++ others) variables (source_name j)
      (other_both (source_name j) (blocks n rows) others
      (other_upto (source_name j) (own n rows) (length n.specs) (λ i l. refl)) (others_other (source_name j) refl refl refl))
      (no_variable (source_name j) refl))
      (λ i j l. other_number 115 i j (λ e. omega (arith, e, l)))

  pub third_new : AreNewFunctions (event_function (has_own n rows) n ∷ [])
      (declaring_functions (sources n rows) (declaring_functions (blocks n rows ++ others) variables))
  third_new = (
    none_behind (sources n rows) (declaring_functions (blocks n rows ++ others) variables) event_name
        (other_upto event_name (source_function n rows) (length (sources_of n)) (λ j l. refl))
        (none_behind (blocks n rows ++ others) variables event_name
        (other_both event_name (blocks n rows) others (other_upto event_name (own n rows) (length n.specs) (λ j l. refl))
        (others_other event_name refl refl refl))
        (no_variable event_name refl)),
    tt,
  )
