-- Finding the function that a call means.
use Rattle.std.proofs.Common.{◌≡◌, ℕ, zero, suc, ◌+◌, ◌*◌, ◌<◌, ◌≤◌, List, [], ◌∷◌, ◌++◌, length, get_or, take, drop, map, Bool, true, false, cond, Option, Some, None, refl, sym, ap, ◌∙◌, subst, arith, ℤ}
use Rattle.std.proofs.lemmas.Bool.{cond-true, cond-false}
use Rattle.std.proofs.lemmas.List.{get_or-drop, drop-drop, length-take, take_more, drop_more, drop_all}
use Rattle.std.specs.List.{position_from}
use Rattle.c_ast.specs.declared.Name.{Name}
use Rattle.c_ast.specs.declared.Func.{Func}
use Rattle.c_rules.specs.Naming.{by_name, at_number, number_in}
use Rattle.c_ast.specs.Syntax.{Function}
use Rattle.c_ast.specs.View.{statements_of, function_of}
use Rattle.c_ast.proofs.Sizes.{sizes_of}
use Rattle.c_run.specs.declared.machine.Routine.{Routine}
use Rattle.c_mean.specs.Meaning.{same_name, run_block, around, calls_of, Numbered, numbered, later, block_count}
use Rattle.std.specs.Prelude.{if◌then◌else◌, All, IsTrue}
use Rattle.std.specs.Option.{option_or}
use Rattle.c_run.specs.Calls.{is_named, latest}
use Rattle.c_run.specs.Running.{numbered_of}
use Rattle.c_run.proofs.Weights.{weight_of}

-- the first that passes, further on
later_some : (t : Routine → Bool) (i n k : ℕ) (gs : List Routine) → position_from t i gs ≡ Some k → i + n ≤ k → position_from t (i + n) (drop n gs) ≡ Some k
later_some t i zero k gs e h = let z : i + zero ≡ i = omega arith in ap (λ j. position_from t j gs) z ∙ e
later_some t i (suc n) k [] e h = e
later_some t i (suc n) k (g ∷ gs) e h = let less : (i + 1) + n ≤ k = omega arith in step (t g) (λ e. later_some t (i + 1) n k gs e less) e
  where
    step : (b : Bool) → (position_from t (i + 1) gs ≡ Some k → position_from t ((i + 1) + n) (drop n gs) ≡ Some k) → cond b (Some i) (position_from t (i + 1) gs) ≡ Some k → position_from t (i + suc n) (drop n gs) ≡ Some k
    step true again e = let same : i ≡ k = cc in absurd (omega arith)
    step false again e = let on : (i + 1) + n ≡ i + suc n = omega arith in ap (λ j. position_from t j (drop n gs)) (sym on) ∙ again e

later_none : (t : Routine → Bool) (i n : ℕ) (gs : List Routine) → position_from t i gs ≡ None → position_from t (i + n) (drop n gs) ≡ None
later_none t i zero gs e = let z : i + zero ≡ i = omega arith in ap (λ j. position_from t j gs) z ∙ e
later_none t i (suc n) [] e = e
later_none t i (suc n) (g ∷ gs) e = step (t g) (later_none t (i + 1) n gs) e
  where
    step : (b : Bool) → (position_from t (i + 1) gs ≡ None → position_from t ((i + 1) + n) (drop n gs) ≡ None) → cond b (Some i) (position_from t (i + 1) gs) ≡ None → position_from t (i + suc n) (drop n gs) ≡ None
    step true again e = cc
    step false again e = let on : (i + 1) + n ≡ i + suc n = omega arith in ap (λ j. position_from t j (drop n gs)) (sym on) ∙ again e

pub latest_same : (f : Name) (from k : ℕ) (gs : List Routine) → latest f 0 gs ≡ Some k → from ≤ k → latest f from gs ≡ Some k
latest_same f from k gs e h =
    let z : 0 + from ≡ from = omega arith in
    ap (λ j. position_from (is_named f) j (drop from gs)) (sym z) ∙ later_some (is_named f) 0 from k gs e (omega arith)

pub latest_none : (f : Name) (from : ℕ) (gs : List Routine) → latest f 0 gs ≡ None → latest f from gs ≡ None
latest_none f from gs e =
    let z : 0 + from ≡ from = omega arith in
    ap (λ j. position_from (is_named f) j (drop from gs)) (sym z) ∙ later_none (is_named f) 0 from gs e

found_within : (t : Routine → Bool) (i k : ℕ) (gs : List Routine) → position_from t i gs ≡ Some k → k < i + length gs
found_within t i k [] e = cc
found_within t i k (g ∷ gs) e = step (t g) (found_within t (i + 1) k gs) e
  where
    step : (b : Bool) → (position_from t (i + 1) gs ≡ Some k → k < (i + 1) + length gs) → cond b (Some i) (position_from t (i + 1) gs) ≡ Some k → k < i + suc (length gs)
    step true again e = let same : i ≡ k = cc in omega arith
    step false again e = omega (arith, again e)

pub latest_within : (f : Name) (k : ℕ) (gs : List Routine) → latest f 0 gs ≡ Some k → k < length gs
latest_within f k gs e = omega (arith, found_within (is_named f) 0 k gs e)

-- one place after the other
pub latest_step : (f : Name) (k : ℕ) (gs : List Routine) (d : Routine) → k < length gs → latest f k gs ≡ cond (same_name (get_or gs k d).name f) (Some k) (latest f (k + 1) gs)
latest_step f k gs d h = ap (position_from (is_named f) k) (drop_more gs k d h)

pub latest_end : (f : Name) (k : ℕ) (gs : List Routine) → length gs ≤ k → latest f k gs ≡ None
latest_end f k gs h = ap (position_from (is_named f) k) (drop_all k gs h)

-- A call among gs runs g, which calls those of the rest.
pub record IsCalled (f : Name) (gs : List Routine) (g : Routine) (rest : List Routine) : Type 0 where
  pub calls : (last most : ℤ) → calls_of (map numbered_of gs) last most f ≡ Some (run_block (around (calls_of (map numbered_of rest) last most) last most) g.first (statements_of g.body.now))
  pub weighs : 4 * sizes_of g.body.now + 4 + weight_of rest ≤ weight_of gs

called_at : (f : Name) (i k : ℕ) (gs : List Routine) (d : Routine) → position_from (is_named f) i gs ≡ Some k → (j : ℕ) × (k ≡ i + j) × IsCalled f gs (get_or gs j d) (drop (suc j) gs)
called_at f i k [] d e = cc
called_at f i k (g ∷ gs) d e = step (is_named f g) refl (called_at f (i + 1) k gs d) e
  where
    step : (b : Bool) → is_named f g ≡ b → (position_from (is_named f) (i + 1) gs ≡ Some k → (j : ℕ) × (k ≡ (i + 1) + j) × IsCalled f gs (get_or gs j d) (drop (suc j) gs)) → cond b (Some i) (position_from (is_named f) (i + 1) gs) ≡ Some k → (j : ℕ) × (k ≡ i + j) × IsCalled f (g ∷ gs) (get_or (g ∷ gs) j d) (drop (suc j) (g ∷ gs))
    step true is again e =
        let same : i ≡ k = cc in
        (zero, omega arith, record { calls = λ last most. cond-true (same_name g.name f) _ _ is; weighs = omega arith })
    step false is again e =
        let w = again e in
        (suc w.0, omega arith, record { calls = λ last most. cond-false (same_name g.name f) _ _ is ∙ (w.2).calls last most; weighs = omega (arith, (w.2).weighs) })

-- the function that is found, and the functions that it may call
pub call_found : (f : Name) (n k : ℕ) (gs : List Routine) (d : Routine) → latest f n gs ≡ Some k → IsCalled f (drop n gs) (get_or gs k d) (drop (k + 1) gs)
call_found f n k gs d e =
    let w = called_at f n k (drop n gs) d e in
    let on : n + suc w.0 ≡ k + 1 = omega (arith, w.1) in
    let here : get_or (drop n gs) w.0 d ≡ get_or gs k d = get_or-drop n gs w.0 d ∙ ap (λ j. get_or gs j d) (sym w.1) in
    let rest : drop (suc w.0) (drop n gs) ≡ drop (k + 1) gs = drop-drop (suc w.0) n gs ∙ ap (λ m. drop m gs) on in
    subst (λ (g : Routine). IsCalled f (drop n gs) g (drop (k + 1) gs)) here (subst (λ (l : List Routine). IsCalled f (drop n gs) (get_or (drop n gs) w.0 d) l) rest w.2)

missing : (f : Name) (i : ℕ) (gs : List Routine) (last most : ℤ) → position_from (is_named f) i gs ≡ None → calls_of (map numbered_of gs) last most f ≡ None
missing f i [] last most e = refl
missing f i (g ∷ gs) last most e = step (is_named f g) refl (missing f (i + 1) gs last most) e
  where
    step : (b : Bool) → is_named f g ≡ b → (position_from (is_named f) (i + 1) gs ≡ None → calls_of (map numbered_of gs) last most f ≡ None) → cond b (Some i) (position_from (is_named f) (i + 1) gs) ≡ None → calls_of (map numbered_of (g ∷ gs)) last most f ≡ None
    step true is again e = cc
    step false is again e = cond-false (same_name g.name f) _ _ is ∙ again e

pub call_missing : (f : Name) (n : ℕ) (gs : List Routine) (last most : ℤ) → latest f n gs ≡ None → calls_of (map numbered_of (drop n gs)) last most f ≡ None
call_missing f n gs last most e = missing f n (drop n gs) last most e

-- ---- the index

-- one more place
pub latest_push : (f : Name) (i : ℕ) (gs : List Routine) (g : Routine) → position_from (is_named f) i (gs ++ g ∷ []) ≡ option_or (position_from (is_named f) i gs) (if same_name g.name f then Some (i + length gs) else None)
latest_push f i [] g = let z : i + 0 ≡ i = omega arith in ap (λ j. cond (is_named f g) (Some j) None) (sym z) ∙ none_first (is_named f g)
  where
    none_first : (b : Bool) → cond b (Some (i + 0)) None ≡ option_or None (cond b (Some (i + 0)) None)
    none_first b = refl
latest_push f i (h ∷ gs) g =
    let on : (i + 1) + length gs ≡ i + suc (length gs) = omega arith in
    ap (λ o. cond (is_named f h) (Some i) o) (latest_push f (i + 1) gs g ∙ ap (λ n. option_or (position_from (is_named f) (i + 1) gs) (cond (is_named f g) (Some n) None)) on) ∙ by_name (is_named f h)
  where
    by_name : (b : Bool) → cond b (Some i) (option_or (position_from (is_named f) (i + 1) gs) (cond (is_named f g) (Some (i + suc (length gs))) None)) ≡ option_or (cond b (Some i) (position_from (is_named f) (i + 1) gs)) (cond (is_named f g) (Some (i + suc (length gs))) None)
    by_name true = refl
    by_name false = refl

-- the index after place k
pub index_more : (f : Name) (k : ℕ) (gs : List Routine) (d : Routine) (old new : Option ℕ) → k < length gs → old ≡ latest f 0 (take k gs) → new ≡ option_or old (if same_name (get_or gs k d).name f then Some k else None) → new ≡ latest f 0 (take (k + 1) gs)
index_more f k gs d old new h is next =
    let z : 0 + length (take k gs) ≡ k = omega (arith, length-take k gs) in
    next
    ∙ ap (λ o. option_or o (cond (same_name (get_or gs k d).name f) (Some k) None)) is
    ∙ ap (λ n. option_or (latest f 0 (take k gs)) (cond (same_name (get_or gs k d).name f) (Some n) None)) (sym z)
    ∙ sym (latest_push f 0 (take k gs) (get_or gs k d))
    ∙ ap (position_from (is_named f) 0) (sym (take_more gs k d h))

-- an index in which nothing stands
pub nothing_there : {A : Type 0} (names : List Name) (x : Name) → by_name {A = A} names [] x ≡ None
nothing_there {A} names x = at (number_in names x)
  where
    at : (o : Option ℕ) → at_number {A = Option A} None [] o ≡ None
    at None = refl
    at (Some n) = refl

-- ---- what holds of the names of functions

module _ (test : Name → Bool) where
  all_cons : (g : Numbered) (gs : List Numbered) → IsTrue (test g.name) → All (λ (g : Numbered). IsTrue (test g.name)) gs → All (λ (g : Numbered). IsTrue (test g.name)) (g ∷ gs)
  all_cons g gs one all zero d h = one
  all_cons g gs one all (suc k) d h = let less : k < length gs = omega arith in all k d less

  all_numbered : (n : ℕ) (fs : List Function) (before : List Numbered) → All (λ (f : Function). IsTrue (test f.name)) fs → All (λ (g : Numbered). IsTrue (test g.name)) before → All (λ (g : Numbered). IsTrue (test g.name)) (numbered n fs before)
  all_numbered n [] before h known = known
  all_numbered n (f ∷ fs) before h known =
      let g : Numbered = record { name = f.name; first = n; body = f.body } in
      all_numbered (later n (block_count f.body)) fs (g ∷ before) (λ k d w. h (suc k) d (omega arith)) (all_cons g before (h zero f (omega arith)) known)

  all_functions : (funcs : List Func) → All (λ (f : Func). IsTrue (test f.name)) funcs → All (λ (f : Function). IsTrue (test f.name)) (map function_of funcs)
  all_functions [] h k d w = absurd (omega arith)
  all_functions (f ∷ funcs) h zero d w = h zero f (omega arith)
  all_functions (f ∷ funcs) h (suc k) d w = let less : k < length (map function_of funcs) = omega arith in all_functions funcs (λ j e v. h (suc j) e (omega arith)) k d less

  all_routines : (gs : List Routine) → All (λ (g : Numbered). IsTrue (test g.name)) (map numbered_of gs) → All (λ (g : Routine). IsTrue (test g.name)) gs
  all_routines [] h k d w = absurd (omega arith)
  all_routines (g ∷ gs) h zero d w = h zero (numbered_of d) (omega arith)
  all_routines (g ∷ gs) h (suc k) d w = let less : k < length gs = omega arith in all_routines gs (λ j e v. h (suc j) e (omega arith)) k d less

  pub routines_all : (funcs : List Func) (gs : List Routine) → map numbered_of gs ≡ numbered 1 (map function_of funcs) [] → All (λ (f : Func). IsTrue (test f.name)) funcs → All (λ (g : Routine). IsTrue (test g.name)) gs
  routines_all funcs gs is h = all_routines gs (subst (λ (l : List Numbered). All (λ (g : Numbered). IsTrue (test g.name)) l) (sym is) (all_numbered 1 (map function_of funcs) [] (all_functions funcs h) (λ k d w. absurd (omega arith))))
