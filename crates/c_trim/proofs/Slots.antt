-- Reading and writing where some variables are left out.
use Rattle.std.proofs.Common.{◌≡◌, ℕ, List, [], ◌∷◌, ◌++◌, length, filter, Option, Some, None, Bool, true, false, refl, sym, ap, ap₂, ◌∙◌, ℤ, pos, negsuc, nat_lt, slice_get, slice_set, if◌then◌else◌, true≢false}
use Rattle.std.specs.Prelude.{◌+ℤ◌, neg_ℤ}
use Rattle.c_ast.specs.declared.Name.{Name}
use Rattle.c_ast.specs.Syntax.{Exp, num, var, element, neg, not, bin, Place, scalar, cell, Told, start, event, value, finish, stop}
use Rattle.c_ast.specs.Events.{exp_events, place_events, told_events}
use Rattle.c_mean.specs.Meaning.{Slot, same_name, lookup, store, index, in_word, operate, evaluate, assign, counted, told, is_zero, truth, ◌>>=◌}
use Rattle.c_mean.proofs.Memory.{name_eq}
use Rattle.c_trim.proofs.Named.{KeepsEvents, keeps_first, keeps_second}

module _ (keep : Name → Bool) where
  abbrev pub kept : List Slot → List Slot
  kept m = filter (λ (s : Slot). keep s.name) m

  -- where there are variables
  abbrev pub kept_some : Option (List Slot) → Option (List Slot)
  kept_some o = o >>= λ m. Some (kept m)

  -- a name that is kept isn't that of one left out
  apart : (x y : Name) → keep x ≡ false → keep y ≡ true → same_name x y ≡ true → ⊥
  apart x y p q h = true≢false (sym q ∙ (ap keep (sym (name_eq x y h)) ∙ p))

  pub lookup_kept : (m : List Slot) (x : Name) (i : ℕ) → keep x ≡ true → lookup (kept m) x i ≡ lookup m x i
  lookup_kept [] x i h = refl
  lookup_kept (s ∷ ss) x i h = by_tests (lookup_kept ss x i h) (keep s.name) refl (same_name s.name x) refl
    where
      by_tests : lookup (kept ss) x i ≡ lookup ss x i → (t : Bool) → keep s.name ≡ t → (u : Bool) → same_name s.name x ≡ u
          → lookup (if t then s ∷ kept ss else kept ss) x i ≡ (if u then slice_get s.cells i else lookup ss x i)
      by_tests go true p u q =
          ap (λ (o : Option ℤ). if same_name s.name x then slice_get s.cells i else o) go
          ∙ ap (λ (t : Bool). if t then slice_get s.cells i else lookup ss x i) q
      by_tests go false p true q = absurd (apart s.name x p h q)
      by_tests go false p false q = go

  pub store_kept : (m : List Slot) (x : Name) (i : ℕ) (v : ℤ) → keep x ≡ true → store (kept m) x i v ≡ kept_some (store m x i v)
  store_kept [] x i v h = refl
  store_kept (s ∷ ss) x i v h = by_tests (store_kept ss x i v h) (keep s.name) refl (same_name s.name x) refl
    where
      written : Slot
      written = record { name = s.name; cells = slice_set s.cells i v }

      -- the slot itself, kept or not
      front : (t : Bool) → keep s.name ≡ t → (r : Slot) → r.name ≡ s.name → (rest : List Slot) → kept (r ∷ rest) ≡ (if t then r ∷ kept rest else kept rest)
      front t p r same rest = ap (λ (b : Bool). if b then r ∷ kept rest else kept rest) (ap keep same ∙ p)

      in_slot : (b : Bool) → keep s.name ≡ true
          → (if b then Some (written ∷ kept ss) else None) ≡ kept_some (if b then Some (written ∷ ss) else None)
      in_slot true p = ap (λ (m : List Slot). Some m) (sym (front true p written refl ss))
      in_slot false p = refl

      behind : (o : Option (List Slot)) → keep s.name ≡ true
          → (kept_some o >>= λ rest. Some (s ∷ rest)) ≡ kept_some (o >>= λ rest. Some (s ∷ rest))
      behind None p = refl
      behind (Some rest) p = ap (λ (m : List Slot). Some m) (sym (front true p s refl rest))

      beside : (o : Option (List Slot)) → keep s.name ≡ false → kept_some o ≡ kept_some (o >>= λ rest. Some (s ∷ rest))
      beside None p = refl
      beside (Some rest) p = ap (λ (m : List Slot). Some m) (sym (front false p s refl rest))

      by_tests : store (kept ss) x i v ≡ kept_some (store ss x i v) → (t : Bool) → keep s.name ≡ t → (u : Bool) → same_name s.name x ≡ u
          → store (if t then s ∷ kept ss else kept ss) x i v
          ≡ kept_some (if u then (if nat_lt i (length s.cells) then Some (written ∷ ss) else None) else (store ss x i v >>= λ rest. Some (s ∷ rest)))
      by_tests go true p true q =
          ap (λ (t : Bool). if t then (if nat_lt i (length s.cells) then Some (written ∷ kept ss) else None) else
          (store (kept ss) x i v >>= λ rest. Some (s ∷ rest))) q
          ∙ in_slot (nat_lt i (length s.cells)) p
      by_tests go true p false q =
          ap (λ (t : Bool). if t then (if nat_lt i (length s.cells) then Some (written ∷ kept ss) else None) else
          (store (kept ss) x i v >>= λ rest. Some (s ∷ rest))) q
          ∙ (ap (λ (o : Option (List Slot)). o >>= λ rest. Some (s ∷ rest)) go ∙ behind (store ss x i v) p)
      by_tests go false p true q = absurd (apart s.name x p h q)
      by_tests go false p false q = go ∙ beside (store ss x i v) p

  -- ---- expressions

  bind_alike : {A B : Type 0} (o p : Option A) (f g : A → Option B) → o ≡ p → ((a : A) → f a ≡ g a) → (o >>= f) ≡ (p >>= g)
  bind_alike o None f g e h = ap (λ q. q >>= f) e
  bind_alike o (Some a) f g e h = ap (λ q. q >>= f) e ∙ h a

  module _ (m : List Slot) where
    pub evaluate_kept : (e : Exp) → KeepsEvents keep (exp_events e) → evaluate e (kept m) ≡ evaluate e m
    evaluate_kept (num z) h = refl
    evaluate_kept (var x) h = lookup_kept m x 0 h.0
    evaluate_kept (element x e) h =
        bind_alike (evaluate e (kept m)) (evaluate e m) (λ v. index v >>= λ i. lookup (kept m) x i) (λ v. index v >>= λ i. lookup m x i)
        (evaluate_kept e h.1) (λ v. by_index v)
      where
        by_index : (v : ℤ) → (index v >>= λ i. lookup (kept m) x i) ≡ (index v >>= λ i. lookup m x i)
        by_index (pos i) = lookup_kept m x i h.0
        by_index (negsuc i) = refl
    evaluate_kept (neg e) h = ap (λ (o : Option ℤ). o >>= λ v. in_word (neg_ℤ v)) (evaluate_kept e h)
    evaluate_kept (not e) h = ap (λ (o : Option ℤ). o >>= λ v. Some (truth (is_zero v))) (evaluate_kept e h)
    evaluate_kept (bin op a b) h =
        ap₂ (operate op) (evaluate_kept a (keeps_first keep (exp_events a) (exp_events b) h))
        (evaluate_kept b (keeps_second keep (exp_events a) (exp_events b) h))

    pub assign_kept : (p : Place) (v : ℤ) → KeepsEvents keep (place_events p) → assign p v (kept m) ≡ kept_some (assign p v m)
    assign_kept (scalar x) v h = store_kept m x 0 v h.0
    assign_kept (cell x e) v h =
        ap (λ (o : Option ℤ). o >>= λ z. index z >>= λ i. store (kept m) x i v) (evaluate_kept e h.1) ∙ by_place (evaluate e m)
      where
        by_place : (o : Option ℤ) → (o >>= λ z. index z >>= λ i. store (kept m) x i v) ≡ kept_some (o >>= λ z. index z >>= λ i. store m x i v)
        by_place None = refl
        by_place (Some (pos i)) = store_kept m x i v h.0
        by_place (Some (negsuc i)) = refl

    -- what is assigned goes by a value
    pub assigned_kept : (p : Place) (o : Option ℤ) (f : ℤ → ℤ) → KeepsEvents keep (place_events p)
        → (o >>= λ v. assign p (f v) (kept m)) ≡ kept_some (o >>= λ v. assign p (f v) m)
    assigned_kept p None f h = refl
    assigned_kept p (Some v) f h = assign_kept p (f v) h

    pub counted_kept : (x : Name) → keep x ≡ true → counted x (kept m) ≡ kept_some (counted x m)
    counted_kept x h =
        ap (λ (o : Option ℤ). o >>= λ v. in_word (v +ℤ pos 1) >>= λ u. store (kept m) x 0 u) (lookup_kept m x 0 h) ∙ by_value (lookup m x 0)
      where
        by_next : (o : Option ℤ) → (o >>= λ u. store (kept m) x 0 u) ≡ kept_some (o >>= λ u. store m x 0 u)
        by_next None = refl
        by_next (Some u) = store_kept m x 0 u h

        by_value : (o : Option ℤ) → (o >>= λ v. in_word (v +ℤ pos 1) >>= λ u. store (kept m) x 0 u)
            ≡ kept_some (o >>= λ v. in_word (v +ℤ pos 1) >>= λ u. store m x 0 u)
        by_value None = refl
        by_value (Some v) = by_next (in_word (v +ℤ pos 1))

    pub told_kept : (t : Told) → KeepsEvents keep (told_events t) → told t (kept m) ≡ told t m
    told_kept start h = refl
    told_kept (event a b c) h =
        let r = keeps_second keep (exp_events a) (exp_events b ++ exp_events c) h in
        rw (evaluate_kept a (keeps_first keep (exp_events a) (exp_events b ++ exp_events c) h), evaluate_kept b (keeps_first keep (exp_events b) (exp_events c) r), evaluate_kept c (keeps_second keep (exp_events b) (exp_events c) r)) refl
    told_kept (value a b c d) h =
        let r = keeps_second keep (exp_events a) (exp_events b ++ (exp_events c ++ exp_events d)) h in
        let s = keeps_second keep (exp_events b) (exp_events c ++ exp_events d) r in
        rw (evaluate_kept a (keeps_first keep (exp_events a) (exp_events b ++ (exp_events c ++ exp_events d)) h), evaluate_kept b (keeps_first keep (exp_events b) (exp_events c ++ exp_events d) r), evaluate_kept c (keeps_first keep (exp_events c) (exp_events d) s), evaluate_kept d (keeps_second keep (exp_events c) (exp_events d) s)) refl
    told_kept (finish a) h = rw (evaluate_kept a h) refl
    told_kept (stop a b c) h =
        let r = keeps_second keep (exp_events a) (exp_events b ++ exp_events c) h in
        rw (evaluate_kept a (keeps_first keep (exp_events a) (exp_events b ++ exp_events c) h), evaluate_kept b (keeps_first keep (exp_events b) (exp_events c) r), evaluate_kept c (keeps_second keep (exp_events b) (exp_events c) r)) refl
