-- Looking up a name in memory, and storing there.
use Rattle.std.proofs.Common.{◌≡◌, ℕ, zero, suc, ◌+◌, ◌-◌, ◌<◌, ◌≤◌, List, [], ◌∷◌, ◌++◌, length, get_or, drop, take, map, replicate, Bool, true, false, cond, Option, Some, None, option_map, refl, sym, ap, ◌∙◌, arith, ℤ, pos}
use Rattle.std.specs.Prelude.{slice_get, slice_set, nat_lt, if◌then◌else◌}
use Rattle.std.specs.Option.{option_or}
use Rattle.std.proofs.lemmas.Bool.{cond-true, cond-false, lt-ltb, le-ltb, ltb-true, ltb-false}
use Rattle.std.proofs.lemmas.List.{take-replicate, drop-replicate, length-take, length-drop, take_all, map_more, replicate-append-replicate}
use Rattle.c_ast.specs.declared.Name.{Name}
use Rattle.c_ast.specs.declared.Decl.{Decl}
use Rattle.c_ast.specs.Syntax.{Declared}
use Rattle.c_ast.specs.View.{declared_of}
use Rattle.c_run.specs.declared.machine.VariableSpan.{VariableSpan}
use Rattle.c_mean.specs.Meaning.{Slot, same_name, lookup, store, elements_of, first_slot, ◌>>=◌}
use Rattle.c_run.specs.Spans.{cut, further, span_of, element_at}

-- a choice under a bind
chosen : {A B : Type 0} (b : Bool) (p q : Option B) (s : A) (r : Option A) (f : A → Option B) → p ≡ f s → q ≡ (r >>= f) → cond b p q ≡ (cond b (Some s) r >>= f)
chosen true p q s r f e h = e
chosen false p q s r f e h = h

bind_map : {A B C : Type 0} (g : A → B) (f : B → Option C) (o : Option A) → (o >>= λ a. f (g a)) ≡ (option_map g o >>= f)
bind_map g f None = refl
bind_map g f (Some a) = refl

bind_same : {A B : Type 0} (o : Option A) (f g : A → Option B) → ((a : A) → f a ≡ g a) → (o >>= f) ≡ (o >>= g)
bind_same None f g h = refl
bind_same (Some a) f g h = h a

bind_bind : {A B C : Type 0} (o : Option A) (f : A → Option B) (g : B → Option C) → ((o >>= f) >>= g) ≡ (o >>= λ a. f a >>= g)
bind_bind None f g = refl
bind_bind (Some a) f g = refl

-- ---- reading an element

get_far : (l : List ℤ) (i : ℕ) → length l ≤ i → slice_get l i ≡ None
get_far [] i h = refl
get_far (x ∷ l) zero h = absurd (omega arith)
get_far (x ∷ l) (suc i) h = let less : length l ≤ i = omega arith in get_far l i less

get_drop : (n : ℕ) (l : List ℤ) (i : ℕ) → slice_get (drop n l) i ≡ slice_get l (n + i)
get_drop zero l i = let e : zero + i ≡ i = omega arith in ap (slice_get l) (sym e)
get_drop (suc n) [] i = refl
get_drop (suc n) (x ∷ l) i = let e : suc n + i ≡ suc (n + i) = omega arith in get_drop n l i ∙ ap (slice_get (x ∷ l)) (sym e)

get_take : (n : ℕ) (l : List ℤ) (i : ℕ) → i < n → slice_get (take n l) i ≡ slice_get l i
get_take zero l i h = absurd (omega arith)
get_take (suc n) [] i h = refl
get_take (suc n) (x ∷ l) zero h = refl
get_take (suc n) (x ∷ l) (suc i) h = let less : i < n = omega arith in get_take n l i less

short : (n : ℕ) (l : List ℤ) → length (take n l) ≤ n
short zero l = omega arith
short (suc n) [] = omega arith
short (suc n) (x ∷ l) = omega (arith, short n l)

got_first : (n : ℕ) (l : List ℤ) (i : ℕ) (b : Bool) → nat_lt i n ≡ b → slice_get (take n l) i ≡ (cond b (Some i) None >>= slice_get l)
got_first n l i true e = get_take n l i (ltb-true _ _ e)
got_first n l i false e = let far : n ≤ i = ltb-false _ _ e in get_far (take n l) i (omega (arith, short n l))

got_there : (n : ℕ) (l : List ℤ) (i j : ℕ) → (slice_get (drop n l) (j + i)) ≡ slice_get l ((n + j) + i)
got_there n l i j = let e : n + (j + i) ≡ (n + j) + i = omega arith in get_drop n l (j + i) ∙ ap (slice_get l) e

-- where element i of a span stands
abbrev standing : ℕ → VariableSpan → Option ℕ
standing i s = if nat_lt i s.size then Some (s.first + i) else None

behind_first : (n : ℕ) (l : List ℤ) (i : ℕ) (s : VariableSpan) → (standing i s >>= slice_get (drop n l)) ≡ (standing i (further n s) >>= slice_get l)
behind_first n l i s = by_size (nat_lt i s.size)
  where
    by_size : (b : Bool) → (cond b (Some (s.first + i)) None >>= slice_get (drop n l)) ≡ (cond b (Some ((n + s.first) + i)) None >>= slice_get l)
    by_size true = got_there n l i s.first
    by_size false = refl

lookup_span : (ds : List Declared) (cells : List ℤ) (x : Name) (i : ℕ) → lookup (cut ds cells) x i ≡ (span_of ds x >>= λ s. standing i s >>= slice_get cells)
lookup_span [] cells x i = refl
lookup_span (d ∷ ds) cells x i =
    let n = elements_of d in
    let zero_more : 0 + i ≡ i = omega arith in
    let here : slice_get (take n cells) i ≡ (standing i (record { first = 0; size = n }) >>= slice_get cells) =
    got_first n cells i (nat_lt i n) refl ∙ ap (λ k. cond (nat_lt i n) (Some k) None >>= slice_get cells) (sym zero_more) in
    let there = lookup_span ds (drop n cells) x i ∙ bind_same (span_of ds x) _ _ (behind_first n cells i) ∙ bind_map (further n) (λ s. standing i s >>= slice_get cells) (span_of ds x) in
    chosen (same_name d.name x) _ _ (record { first = 0; size = n }) (option_map (further n) (span_of ds x)) (λ s. standing i s >>= slice_get cells) here there

bounded : (l : List ℤ) (o : Option ℕ) → (o >>= slice_get l) ≡ ((o >>= λ k. if nat_lt k (length l) then Some k else None) >>= slice_get l)
bounded l None = refl
bounded l (Some k) = by_place (nat_lt k (length l)) refl
  where
    by_place : (b : Bool) → nat_lt k (length l) ≡ b → slice_get l k ≡ (cond b (Some k) None >>= slice_get l)
    by_place true e = refl
    by_place false e = get_far l k (ltb-false _ _ e)

-- looking up is reading the element there
pub lookup_is : (ds : List Declared) (cells : List ℤ) (x : Name) (i : ℕ) → lookup (cut ds cells) x i ≡ (element_at (length cells) ds x i >>= slice_get cells)
lookup_is ds cells x i =
    lookup_span ds cells x i ∙ sym (bind_bind (span_of ds x) (standing i) (slice_get cells)) ∙ bounded cells (span_of ds x >>= standing i)

pub get_here : (l : List ℤ) (k : ℕ) (d : ℤ) → k < length l → Some (get_or l k d) ≡ slice_get l k
get_here [] k d h = absurd (omega arith)
get_here (x ∷ l) zero d h = refl
get_here (x ∷ l) (suc k) d h = let less : k < length l = omega arith in get_here l k d less

-- ---- writing an element

take_set : (n : ℕ) (l : List ℤ) (i : ℕ) (v : ℤ) → take n (slice_set l i v) ≡ slice_set (take n l) i v
take_set zero l i v = refl
take_set (suc n) [] i v = refl
take_set (suc n) (x ∷ l) zero v = refl
take_set (suc n) (x ∷ l) (suc i) v = ap (λ k. x ∷ k) (take_set n l i v)

drop_set : (n : ℕ) (l : List ℤ) (i : ℕ) (v : ℤ) → i < n → drop n (slice_set l i v) ≡ drop n l
drop_set zero l i v h = absurd (omega arith)
drop_set (suc n) [] i v h = refl
drop_set (suc n) (x ∷ l) zero v h = refl
drop_set (suc n) (x ∷ l) (suc i) v h = let less : i < n = omega arith in drop_set n l i v less

take_set_behind : (n : ℕ) (l : List ℤ) (j : ℕ) (v : ℤ) → take n (slice_set l (n + j) v) ≡ take n l
take_set_behind zero l j v = refl
take_set_behind (suc n) [] j v = refl
take_set_behind (suc n) (x ∷ l) j v = let e : suc n + j ≡ suc (n + j) = omega arith in ap (λ k. take (suc n) (slice_set (x ∷ l) k v)) e ∙ ap (λ k. x ∷ k) (take_set_behind n l j v)

drop_set_behind : (n : ℕ) (l : List ℤ) (j : ℕ) (v : ℤ) → drop n (slice_set l (n + j) v) ≡ slice_set (drop n l) j v
drop_set_behind zero l j v = let e : zero + j ≡ j = omega arith in ap (λ k. slice_set l k v) e
drop_set_behind (suc n) [] j v = refl
drop_set_behind (suc n) (x ∷ l) j v = let e : suc n + j ≡ suc (n + j) = omega arith in ap (λ k. drop (suc n) (slice_set (x ∷ l) k v)) e ∙ drop_set_behind n l j v

-- the variables after element k among all is set
abbrev set_at : List Declared → List ℤ → ℤ → ℕ → Option (List Slot)
set_at ds cells v k = if nat_lt k (length cells) then Some (cut ds (slice_set cells k v)) else None

module _ (d : Declared) (ds : List Declared) (cells : List ℤ) (i : ℕ) (v : ℤ) where
  set_first : (b c : Bool) → nat_lt i (elements_of d) ≡ b → nat_lt (0 + i) (length cells) ≡ c
      → cond (nat_lt i (length (take (elements_of d) cells))) (Some (record { name = d.name; cells = slice_set (take (elements_of d) cells) i v } ∷ cut ds (drop (elements_of d) cells))) None
      ≡ (cond b (Some (0 + i)) None >>= λ k. set_at (d ∷ ds) cells v k)
  set_first false c e f =
      let far : length (take (elements_of d) cells) ≤ i = omega (arith, short (elements_of d) cells, ltb-false i (elements_of d) e) in
      cond-false (nat_lt i (length (take (elements_of d) cells))) _ _ (le-ltb _ _ far)
  set_first true false e f =
      let far : length (take (elements_of d) cells) ≤ i = omega (arith, length-take (elements_of d) cells, ltb-false (0 + i) (length cells) f) in
      cond-false (nat_lt i (length (take (elements_of d) cells))) _ _ (le-ltb _ _ far) ∙ sym (cond-false (nat_lt (0 + i) (length cells)) _ _ f)
  set_first true true e f =
      let zero_more : 0 + i ≡ i = omega arith in
      let less : i < elements_of d = ltb-true _ _ e in
      let same : cut (d ∷ ds) (slice_set cells (0 + i) v) ≡ record { name = d.name; cells = slice_set (take (elements_of d) cells) i v } ∷ cut ds (drop (elements_of d) cells) =
      ap (λ k. cut (d ∷ ds) (slice_set cells k v)) zero_more
      ∙ ap (λ l. let w : Slot = record { name = d.name; cells = l } in w ∷ cut ds (drop (elements_of d) (slice_set cells i v))) (take_set (elements_of d) cells i v)
      ∙ ap (λ l. let w : Slot = record { name = d.name; cells = slice_set (take (elements_of d) cells) i v } in w ∷ cut ds l) (drop_set (elements_of d) cells i v less) in
      let near : i < length (take (elements_of d) cells) = omega (arith, length-take (elements_of d) cells, ltb-true i (elements_of d) e, ltb-true (0 + i) (length cells) f) in
      cond-true (nat_lt i (length (take (elements_of d) cells))) _ _ (lt-ltb _ _ near) ∙ ap Some (sym same) ∙ sym (cond-true (nat_lt (0 + i) (length cells)) _ _ f)

  abbrev slot : Slot
  slot = record { name = d.name; cells = take (elements_of d) cells }

  set_later : (j : ℕ) (c : Bool) → nat_lt (j + i) (length (drop (elements_of d) cells)) ≡ c
      → (cond c (Some (cut ds (slice_set (drop (elements_of d) cells) (j + i) v))) None >>= λ rest. Some (slot ∷ rest)) ≡ set_at (d ∷ ds) cells v ((elements_of d + j) + i)
  set_later j false e =
      let far : length cells ≤ (elements_of d + j) + i = omega (arith, length-drop (elements_of d) cells, ltb-false (j + i) (length (drop (elements_of d) cells)) e) in
      sym (cond-false (nat_lt ((elements_of d + j) + i) (length cells)) _ _ (le-ltb _ _ far))
  set_later j true e =
      let n = elements_of d in
      let on : (n + j) + i ≡ n + (j + i) = omega arith in
      let same : cut (d ∷ ds) (slice_set cells ((n + j) + i) v) ≡ slot ∷ cut ds (slice_set (drop n cells) (j + i) v) =
      ap (λ k. cut (d ∷ ds) (slice_set cells k v)) on
      ∙ ap (λ l. let w : Slot = record { name = d.name; cells = l } in w ∷ cut ds (drop n (slice_set cells (n + (j + i)) v))) (take_set_behind n cells (j + i) v)
      ∙ ap (λ l. slot ∷ cut ds l) (drop_set_behind n cells (j + i) v) in
      let near : (n + j) + i < length cells = omega (arith, length-drop n cells, ltb-true (j + i) (length (drop n cells)) e) in
      ap Some (sym same) ∙ sym (cond-true (nat_lt ((n + j) + i) (length cells)) _ _ (lt-ltb _ _ near))

  set_span : (s : VariableSpan) → ((standing i s >>= set_at ds (drop (elements_of d) cells) v) >>= λ rest. Some (slot ∷ rest)) ≡ (standing i (further (elements_of d) s) >>= set_at (d ∷ ds) cells v)
  set_span s = by_size (nat_lt i s.size)
    where
      by_size : (b : Bool) → ((cond b (Some (s.first + i)) None >>= set_at ds (drop (elements_of d) cells) v) >>= λ rest. Some (slot ∷ rest)) ≡ (cond b (Some ((elements_of d + s.first) + i)) None >>= set_at (d ∷ ds) cells v)
      by_size true = set_later s.first (nat_lt (s.first + i) (length (drop (elements_of d) cells))) refl
      by_size false = refl

store_span : (ds : List Declared) (cells : List ℤ) (x : Name) (i : ℕ) (v : ℤ) → store (cut ds cells) x i v ≡ (span_of ds x >>= λ s. standing i s >>= set_at ds cells v)
store_span [] cells x i v = refl
store_span (d ∷ ds) cells x i v =
    let n = elements_of d in
    let f : VariableSpan → Option (List Slot) = λ s. standing i s >>= set_at ds (drop n cells) v in
    let here = set_first d ds cells i v (nat_lt i n) (nat_lt (0 + i) (length cells)) refl refl in
    let there = ap (λ o. o >>= λ rest. Some (slot d ds cells i v ∷ rest)) (store_span ds (drop n cells) x i v) ∙ bind_bind (span_of ds x) f (λ rest. Some (slot d ds cells i v ∷ rest))
    ∙ bind_same (span_of ds x) _ _ (set_span d ds cells i v) ∙ bind_map (further n) (λ s. standing i s >>= set_at (d ∷ ds) cells v) (span_of ds x) in
    chosen (same_name d.name x) _ _ (record { first = 0; size = n }) (option_map (further n) (span_of ds x)) (λ s. standing i s >>= set_at (d ∷ ds) cells v) here there

within_bounds : (ds : List Declared) (cells : List ℤ) (v : ℤ) (o : Option ℕ) → (o >>= set_at ds cells v) ≡ ((o >>= λ k. if nat_lt k (length cells) then Some k else None) >>= λ k. Some (cut ds (slice_set cells k v)))
within_bounds ds cells v None = refl
within_bounds ds cells v (Some k) = by_place (nat_lt k (length cells))
  where
    by_place : (b : Bool) → cond b (Some (cut ds (slice_set cells k v))) None ≡ (cond b (Some k) None >>= λ k. Some (cut ds (slice_set cells k v)))
    by_place true = refl
    by_place false = refl

-- storing is writing the element there
pub store_is : (ds : List Declared) (cells : List ℤ) (x : Name) (i : ℕ) (v : ℤ) → store (cut ds cells) x i v ≡ (element_at (length cells) ds x i >>= λ k. Some (cut ds (slice_set cells k v)))
store_is ds cells x i v =
    store_span ds cells x i v ∙ sym (bind_bind (span_of ds x) (standing i) (set_at ds cells v)) ∙ within_bounds ds cells v (span_of ds x >>= standing i)

-- ---- laying out

abbrev pub total : List Declared → ℕ
total [] = 0
total (d ∷ ds) = elements_of d + total ds

pub total_push : (ds : List Declared) (d : Declared) → total (ds ++ d ∷ []) ≡ total ds + elements_of d
total_push [] d = omega arith
total_push (e ∷ ds) d = omega (arith, total_push ds d)

pub span_push : (ds : List Declared) (d : Declared) (x : Name) → span_of (ds ++ d ∷ []) x ≡ option_or (span_of ds x) (if same_name d.name x then Some (record { first = total ds; size = elements_of d }) else None)
span_push [] d x = by_name (same_name d.name x)
  where
    by_name : (b : Bool) → cond b (Some (let s : VariableSpan = record { first = 0; size = elements_of d } in s)) None ≡ option_or None (cond b (Some (record { first = 0; size = elements_of d })) None)
    by_name true = refl
    by_name false = refl
span_push (e ∷ ds) d x = ap (λ o. cond (same_name e.name x) (Some (record { first = 0; size = elements_of e })) (option_map (further (elements_of e)) o)) (span_push ds d x) ∙ by_name (same_name e.name x) (span_of ds x) (same_name d.name x)
  where
    by_name : (b : Bool) (o : Option VariableSpan) (c : Bool) → cond b (Some (let s : VariableSpan = record { first = 0; size = elements_of e } in s)) (option_map (further (elements_of e)) (option_or o (cond c (Some (record { first = total ds; size = elements_of d })) None)))
        ≡ option_or (cond b (Some (record { first = 0; size = elements_of e })) (option_map (further (elements_of e)) o)) (cond c (Some (record { first = elements_of e + total ds; size = elements_of d })) None)
    by_name true o c = refl
    by_name false (Some s) c = refl
    by_name false None true = refl
    by_name false None false = refl

-- all elements are 0 at the beginning
pub cut_zeros : (ds : List Declared) → cut ds (replicate (total ds) (pos 0)) ≡ map first_slot ds
cut_zeros [] = refl
cut_zeros (d ∷ ds) =
    let n = elements_of d in
    let t = total ds in
    let back : (n + t) - n ≡ t = omega arith in
    ap (λ l. let w : Slot = record { name = d.name; cells = l } in w ∷ cut ds (drop n (replicate (n + t) (pos 0)))) (take-replicate n (n + t) (pos 0) (omega arith))
    ∙ ap (λ l. first_slot d ∷ cut ds l) (drop-replicate n (n + t) (pos 0) ∙ ap (λ k. replicate k (pos 0)) back)
    ∙ ap (λ l. first_slot d ∷ l) (cut_zeros ds)

module _ (decls : List Decl) (k : ℕ) (d : Decl) (within_list : k < length decls) where
  abbrev before : List Declared
  before = map declared_of (take k decls)

  one_more : map declared_of (take (k + 1) decls) ≡ before ++ declared_of (get_or decls k d) ∷ []
  one_more = map_more declared_of decls k d within_list

  -- the place of one more name
  pub laid_span : (q : Name) (n m : ℕ) (old new : Option VariableSpan) → n ≡ total before → m ≡ elements_of (declared_of (get_or decls k d)) → old ≡ span_of before q
      → new ≡ option_or old (if same_name (get_or decls k d).name q then Some (record { first = n; size = m }) else None) → new ≡ span_of (map declared_of (take (k + 1) decls)) q
  laid_span q n m old new at size is next =
      let last = declared_of (get_or decls k d) in
      next
      ∙ ap (λ o. option_or o (if same_name last.name q then Some (record { first = n; size = m }) else None)) is
      ∙ ap (λ n. option_or (span_of before q) (if same_name last.name q then Some (let s : VariableSpan = record { first = n; size = m } in s) else None)) at
      ∙ ap (λ m. option_or (span_of before q) (if same_name last.name q then Some (let s : VariableSpan = record { first = total before; size = m } in s) else None)) size
      ∙ sym (span_push before last q)
      ∙ ap (λ ds. span_of ds q) (sym one_more)

  -- the elements of one more variable
  pub laid_cells : (n m : ℕ) (old new : List ℤ) → old ≡ replicate (total before) (pos 0) → n ≡ length old → m ≡ elements_of (declared_of (get_or decls k d))
      → new ≡ take (n + m) old ++ replicate ((n + m) - n) (pos 0) → new ≡ replicate (total (map declared_of (take (k + 1) decls))) (pos 0)
  laid_cells n m old new is long size next =
      let last = declared_of (get_or decls k d) in
      let more : (n + m) - n ≡ m = omega arith in
      let sum : total before + m ≡ total (map declared_of (take (k + 1) decls)) = ap (λ m. total before + m) size ∙ sym (total_push before last) ∙ ap total (sym one_more) in
      next
      ∙ ap (λ l. l ++ replicate ((n + m) - n) (pos 0)) (take_all (n + m) old (omega arith))
      ∙ ap (λ m. old ++ replicate m (pos 0)) more
      ∙ ap (λ l. l ++ replicate m (pos 0)) is
      ∙ replicate-append-replicate (total before) m (pos 0)
      ∙ ap (λ n. replicate n (pos 0)) sum

-- all are laid out
pub laid_out : (decls : List Decl) (k : ℕ) (cells : List ℤ) → length decls ≤ k → cells ≡ replicate (total (map declared_of (take k decls))) (pos 0) → cut (map declared_of decls) cells ≡ map first_slot (map declared_of decls)
laid_out decls k cells far is =
    ap (cut (map declared_of decls)) (is ∙ ap (λ l. replicate (total (map declared_of l)) (pos 0)) (take_all k decls far)) ∙ cut_zeros (map declared_of decls)
