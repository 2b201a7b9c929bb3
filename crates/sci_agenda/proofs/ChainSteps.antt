-- The calls of the chain.
use Rattle.std.proofs.Common.{◌≡◌, ◌<◌, ◌≤◌, ◌+◌, ◌==◌, ◌||◌, ◌⊎◌, inl, inr, not, ℕ, Bool, true, false, List, [], ◌∷◌, ◌++◌, length, Option, Some, None, refl, sym, ◌∙◌, ap, subst, arith, get_or-set_same, set}
use Rattle.std.specs.Prelude.{IsTrue, ◌↔◌}
use Rattle.sci_links.specs.Table.{Table, chain, list_of, has, changed, inserted, inserted_in, pushed, removed, removed_in, popped, put_before, without as without_node, first as first_node, rest}
use Rattle.sci_links.proofs.TestLemmas.{known, eq_true, has_here}
use Rattle.sci_agenda.specs.Firing.{Meaning, put_behind, is_pending, without, first, first_date, after_put, after_take, after_remove}
use Rattle.sci_agenda.specs.Chained.{date_at, events_of, first_later, IsChain}
use Rattle.sci_agenda.proofs.Chains.{events_set, put_none, put_some, later_has, pending_is, without_is}

pub option_cases : {A : Type 0} (o : Option A) → (o ≡ None) ⊎ ((x : A) × (o ≡ Some x))
option_cases None = inl refl
option_cases (Some x) = inr (x, refl)

pub pending_port : (ds xs : List ℕ) (s : ℕ) → is_pending s (events_of ds xs) ≡ true → 1 ≤ s
pending_port ds [] s h = absurd (cc)
pending_port ds (x ∷ xs) s h = elim (known (s == (x + 1))) [
  | inl t ↦ (let e : s ≡ x + 1 = eq_true s (x + 1) t in omega arith)
  | inr t ↦ pending_port ds xs s (sym (ap (λ (b : Bool). b || is_pending s (events_of ds xs)) t) ∙ h)
]

abbrev pub seen : Table → List ℕ → ℕ → ℕ → Meaning
seen t ds now ports = record { events = events_of ds (chain t 0); now = now; ports = ports }

pub same_events : (es fs : List (ℕ × ℕ)) (now ports : ℕ) → es ≡ fs → (let m : Meaning = record { events = es; now = now; ports = ports } in m) ≡ record { events = fs; now = now; ports = ports }
same_events es fs now ports e = ap (λ (v : List (ℕ × ℕ)). let m : Meaning = record { events = v; now = now; ports = ports } in m) e

pub chain_changed : (t : Table) (l : ℕ) (xs : List ℕ) → l < length t.lists → chain (changed t l xs) l ≡ xs
chain_changed t l xs h = get_or-set_same t.lists l xs [] h

module _ (t : Table) (ds : List ℕ) (now ports : ℕ) (k : IsChain t ds ports) where
  pub in_first : (x l : ℕ) → list_of t x ≡ Some l → l ≡ 0
  in_first x l e = let b = (k.table.held l x e).1 in let c = k.lists in omega arith

  pub lacks_free : (x : ℕ) → list_of t x ≡ None → has x (chain t 0) ≡ false
  lacks_free x e = elim (known (has x (chain t 0))) [
    | inl h ↦ (let f : ◌≡◌ {A = Option ℕ} None (Some 0) = sym e ∙ (k.table.holds 0 x h).0 in let g : true ≡ false = cc in absurd (cc))
    | inr h ↦ h
  ]

  pub free_of : (x source : ℕ) → source ≡ x + 1 → is_pending source (events_of ds (chain t 0)) ≡ false → list_of t x ≡ None
  free_of x source s h =
      let no : has x (chain t 0) ≡ false = sym (pending_is ds (chain t 0) x) ∙ (ap (λ (v : ℕ). is_pending v (events_of ds (chain t 0))) (sym s) ∙ h) in
      elim (option_cases (list_of t x)) [
        | inl e ↦ e
        | inr e ↦ (let z : e.0 ≡ 0 = in_first x e.0 e.1 in
            let yes_ : has x (chain t 0) ≡ true = subst (λ (l : ℕ). has x (chain t l) ≡ true) z (k.table.held e.0 x e.1).0 in absurd (cc))
      ]

  pub held_of : (x source : ℕ) → source ≡ x + 1 → is_pending source (events_of ds (chain t 0)) ≡ true → list_of t x ≡ Some 0
  held_of x source s h =
      (k.table.holds 0 x (sym (pending_is ds (chain t 0) x) ∙ (ap (λ (v : ℕ). is_pending v (events_of ds (chain t 0))) (sym s) ∙ h))).0

  pub pending_of : (x source : ℕ) (b : Bool) → source ≡ x + 1 → (IsTrue b ↔ (list_of t x ≡ None)) → not b ≡ is_pending source (events_of ds (chain t 0))
  pending_of x source true s h =
      sym (ap (λ (v : ℕ). is_pending v (events_of ds (chain t 0))) s ∙ (pending_is ds (chain t 0) x ∙ lacks_free x (h.0 refl)))
  pending_of x source false s h = elim (option_cases (list_of t x)) [
    | inl e ↦ (let f : false ≡ true = h.1 e in absurd (cc))
    | inr e ↦ (let z : e.0 ≡ 0 = in_first x e.0 e.1 in
        let yes_ : has x (chain t 0) ≡ true = subst (λ (l : ℕ). has x (chain t l) ≡ true) z (k.table.held e.0 x e.1).0 in
        sym (ap (λ (v : ℕ). is_pending v (events_of ds (chain t 0))) s ∙ (pending_is ds (chain t 0) x ∙ yes_)))
  ]

  pub later_held : (es : List ℕ) (date at : ℕ) → first_later es date (chain t 0) ≡ Some at → list_of t at ≡ Some 0
  later_held es date at e = (k.table.holds 0 at (later_has es date at (chain t 0) e)).0

  pub put_before_view : (x source date at : ℕ) (u : Table) → source ≡ x + 1 → x < ports → list_of t x ≡ None
      → first_later (set ds x date) date (chain t 0) ≡ Some at → u ≡ inserted t at x → seen u (set ds x date) now ports ≡ after_put (seen t ds now ports) date source
  put_before_view x source date at u s hx free la e =
      let xs : List ℕ = chain t 0 in
      let hl : 0 < length t.lists = let c = k.lists in omega arith in
      let here : u ≡ changed t 0 (put_before at x xs) = e ∙ ap (λ (o : Option ℕ). inserted_in t o at x) (later_held (set ds x date) date at la) in
      let c : chain u 0 ≡ put_before at x xs = ap (λ (v : Table). chain v 0) here ∙ chain_changed t 0 (put_before at x xs) hl in
      let d : date_at (set ds x date) x ≡ date = get_or-set_same ds x date 0 (let g = k.dated in omega arith) in
      same_events _ _ now ports
      (ap (events_of (set ds x date)) c ∙ (put_some (set ds x date) date x at xs (k.table.distinct 0) la d
      ∙ (ap (put_behind (date, x + 1)) (events_set ds x date xs (lacks_free x free)) ∙ ap (λ (v : ℕ). put_behind (date, v) (events_of ds xs)) (sym s))))

  pub push_view : (x source date : ℕ) (u : Table) → source ≡ x + 1 → x < ports → list_of t x ≡ None
      → first_later (set ds x date) date (chain t 0) ≡ None → u ≡ pushed t 0 x → seen u (set ds x date) now ports ≡ after_put (seen t ds now ports) date source
  push_view x source date u s hx free la e =
      let xs : List ℕ = chain t 0 in
      let hl : 0 < length t.lists = let c = k.lists in omega arith in
      let c : chain u 0 ≡ xs ++ x ∷ [] = ap (λ (v : Table). chain v 0) e ∙ chain_changed t 0 (xs ++ x ∷ []) hl in
      let d : date_at (set ds x date) x ≡ date = get_or-set_same ds x date 0 (let g = k.dated in omega arith) in
      same_events _ _ now ports
      (ap (events_of (set ds x date)) c ∙ (put_none (set ds x date) date x xs la d
      ∙ (ap (put_behind (date, x + 1)) (events_set ds x date xs (lacks_free x free)) ∙ ap (λ (v : ℕ). put_behind (date, v) (events_of ds xs)) (sym s))))

  pub remove_view : (x source : ℕ) (u : Table) → source ≡ x + 1 → list_of t x ≡ Some 0 → u ≡ removed t x → seen u ds now ports ≡ after_remove (seen t ds now ports) source
  remove_view x source u s here e =
      let xs : List ℕ = chain t 0 in
      let hl : 0 < length t.lists = let c = k.lists in omega arith in
      let c : chain u 0 ≡ without_node x xs = ap (λ (v : Table). chain v 0) (e ∙ ap (λ (o : Option ℕ). removed_in t o x) here) ∙ chain_changed t 0 (without_node x xs) hl in
      same_events _ _ now ports (ap (events_of ds) c ∙ (sym (without_is ds xs x) ∙ ap (λ (v : ℕ). without v (events_of ds xs)) (sym s)))

  first_cons : (xs : List ℕ) (x : ℕ) → first_node xs ≡ Some x → events_of ds xs ≡ (date_at ds x, x + 1) ∷ events_of ds (rest xs)
  first_cons [] x e = absurd (cc)
  first_cons (y ∷ ys) x e = let f : y ≡ x = cc in ap (λ (v : ℕ). (date_at ds v, v + 1) ∷ events_of ds ys) f

  pub first_bound : (x : ℕ) → first_node (chain t 0) ≡ Some x → x < ports
  first_bound x e = let h = (k.table.holds 0 x (first_has (chain t 0) x e)).1 in let n = k.nodes in omega arith
    where
      first_has : (xs : List ℕ) (x : ℕ) → first_node xs ≡ Some x → has x xs ≡ true
      first_has [] x e = absurd (cc)
      first_has (y ∷ ys) x e = let f : x ≡ y = cc in has_here x y ys f

  pub first_view : (x v : ℕ) → first_node (chain t 0) ≡ Some x → v ≡ date_at ds x → (Some (v, x + 1) ≡ first (seen t ds now ports).events) × (Some v ≡ first_date (seen t ds now ports).events)
  first_view x v e d = (ap (λ (w : ℕ). Some (w, x + 1)) d ∙ sym (ap first (first_cons (chain t 0) x e)), ap Some d ∙ sym (ap first_date (first_cons (chain t 0) x e)))

  pub take_view : (x v : ℕ) (u : Table) → first_node (chain t 0) ≡ Some x → v ≡ date_at ds x → u ≡ popped t 0 → seen u ds v ports ≡ after_take (seen t ds now ports)
  take_view x v u e d p =
      let hl : 0 < length t.lists = let c = k.lists in omega arith in
      let c : chain u 0 ≡ rest (chain t 0) = ap (λ (w : Table). chain w 0) p ∙ chain_changed t 0 (rest (chain t 0)) hl in
      taken (events_of ds (chain t 0)) (first_cons (chain t 0) x e) (ap (events_of ds) c)
    where
      taken : (es : List (ℕ × ℕ)) → es ≡ (date_at ds x, x + 1) ∷ events_of ds (rest (chain t 0)) → events_of ds (chain u 0) ≡ events_of ds (rest (chain t 0))
          → seen u ds v ports ≡ after_take (record { events = es; now = now; ports = ports })
      taken es f g = ap (λ (w : List (ℕ × ℕ)). let m : Meaning = record { events = w; now = v; ports = ports } in m) g
          ∙ (ap (λ (w : ℕ). let m : Meaning = record { events = events_of ds (rest (chain t 0)); now = w; ports = ports } in m) d
          ∙ sym (ap (λ (w : List (ℕ × ℕ)). after_take (record { events = w; now = now; ports = ports })) f))
