-- What the code of a bank is proved by: the outputs, the state and the instances.
use Rattle.std.proofs.Common.{◌≡◌, ◌≢◌, ℕ, zero, suc, ◌+◌, ◌<◌, ◌≤◌, ℤ, pos, List, [], ◌∷◌, ◌++◌, length, true, refl, ap, sym, ◌∙◌, arith, subst, inl, inr, set, take, get_or, add-one}
use Rattle.std.proofs.lemmas.List.{get_or_default, get_or_append_left, get_or_push, length-append, length-set, get_or-set_same, get_or-set_other, take_more_set, get_or-take}
use Rattle.std.proofs.lemmas.Bool.{cases_lt, cases_eq}
use Rattle.std.proofs.lemmas.Grind.{get_or-set_at}
use Rattle.sci_base.specs.Fit.{InRange}
use Rattle.sci_base.specs.Lists.{at}
use Rattle.sci_forms.specs.declared.Kind.{Kind}
use Rattle.sci_forms.specs.declared.spec.Spec.{Spec}
use Rattle.sci_forms.specs.Ports.{total, type_at, Fills}
use Rattle.sci_forms.specs.Typed.{typed}
use Rattle.sci_forms.specs.Words.{out_type, state_len_of}
use Rattle.sci_forms.specs.declared.Kind.TheVariants.{Dollar, GatedDelay, Register, ModuloCount}
use Rattle.sci_forms.proofs.TestLemmas.{size_small, nat_same}
use Rattle.sci_kinds.proofs.TypedLemmas.{Tests, tests}
use Rattle.sci_kinds.specs.declared.Cell.{Cell}
use Rattle.sci_kinds.specs.declared.Cell.TheVariants.{Value, Overflow, Zero}
use Rattle.sci_kinds.specs.Asks.{Asks, IsState, IsMask, entering_of, entering}
use Rattle.sci_kinds.specs.Table.{gathered, then_cell, cell, cell_of, out, Answer, Values, NoFit, NoQuotient, next, next_of, state_len}
use Rattle.sci_kinds.proofs.Elements.{gathered_values, listed_is}
use Rattle.sci_kinds.proofs.Ranges.{cell_in_range}
use Rattle.sci_kinds.proofs.LawLemmas.{next_ahead, next_in_range, IsState-next, IsState-first_state}
use Rattle.sci_kinds.proofs.LawProofs.{asks}
use Rattle.sci_bank.specs.declared.instance.Instance.{Instance}
use Rattle.sci_bank.specs.Bank.{row_in, no_row, AreRows, IsOfKind, first_row, row_after_update, Tells}
use Rattle.sci_bank.specs.declared.Fate.TheVariants as Fate

-- ---- the outputs, element by element

-- one more element has a value
pub gathered_more : (f : ℕ → Cell) (outs : List ℤ) (i : ℕ) (v : ℤ) → gathered f i ≡ Values (take i outs) → f i ≡ Value v → i < length outs → gathered f (i + 1) ≡ Values (take (i + 1) (set outs i v))
gathered_more f outs i v h e p = rw (take_more_set outs i v p, add-one, h, e) refl

gathered_stays : (f : ℕ → Cell) (a : Answer) (i n : ℕ) → ((c : Cell) → then_cell a c ≡ a) → gathered f i ≡ a → i ≤ n → gathered f n ≡ a
gathered_stays f a i zero stop h p = let z : i ≡ 0 = omega (arith, p) in rw z at h
gathered_stays f a i (suc n) stop h p = elim (cases_lt n i) [
  | inl l ↦ let z : i ≡ suc n = omega (arith, p, l) in rw z at h
  | inr r ↦ rw (gathered_stays f a i n stop h r) (stop (f n))
]

-- an element without a value stops the rest
pub gathered_overflow : (f : ℕ → Cell) (ws : List ℤ) (i n : ℕ) → gathered f i ≡ Values ws → f i ≡ Overflow → i < n → gathered f n ≡ NoFit
gathered_overflow f ws i n h e p = gathered_stays f NoFit (suc i) n (λ c. refl) (rw (h, e) refl) (omega (arith, p))

pub gathered_zero : (f : ℕ → Cell) (ws : List ℤ) (i n : ℕ) → gathered f i ≡ Values ws → f i ≡ Zero → i < n → gathered f n ≡ NoQuotient
gathered_zero f ws i n h e p = gathered_stays f NoQuotient (suc i) n (λ c. refl) (rw (h, e) refl) (omega (arith, p))

-- what is told where a cell has no value
pub tells_overflow : (k : Kind) (s : Spec) (x : List ℤ) (m : ℕ) (u : List ℤ) (i : ℕ) (ws outs : List ℤ) → s.kind ≡ k → gathered (cell s x m u) i ≡ Values ws → Overflow ≡ cell_of k s x m u i → i < total s.outs → Tells (out s x m u) Fate.Overflow outs
tells_overflow k s x m u i ws outs e h c p =
    rw (gathered_overflow (cell s x m u) ws i (total s.outs) h (subst (λ q. cell_of q s x m u i ≡ Overflow) (sym e) (sym c)) p) refl

pub tells_zero : (k : Kind) (s : Spec) (x : List ℤ) (m : ℕ) (u : List ℤ) (i : ℕ) (ws outs : List ℤ) → s.kind ≡ k → gathered (cell s x m u) i ≡ Values ws → Zero ≡ cell_of k s x m u i → i < total s.outs → Tells (out s x m u) Fate.Zero outs
tells_zero k s x m u i ws outs e h c p =
    rw (gathered_zero (cell s x m u) ws i (total s.outs) h (subst (λ q. cell_of q s x m u i ≡ Zero) (sym e) (sym c)) p) refl

pub cell_more : (k : Kind) (s : Spec) (x : List ℤ) (m : ℕ) (u : List ℤ) (i : ℕ) (outs : List ℤ) (v : ℤ) → s.kind ≡ k → gathered (cell s x m u) i ≡ Values (take i outs) → Value v ≡ cell_of k s x m u i → i < length outs → gathered (cell s x m u) (i + 1) ≡ Values (take (i + 1) (set outs i v))
cell_more k s x m u i outs v e h c p = gathered_more (cell s x m u) outs i v h (subst (λ q. cell_of q s x m u i ≡ Value v) (sym e) (sym c)) p

-- the numbers in range, of which the first i are the cells' and the others as before
pub filled_so_far : (k : Kind) (s : Spec) (x : List ℤ) (m : ℕ) (u : List ℤ) (old new : List ℤ) (i : ℕ) → IsOfKind k s → IsState s x → IsMask s m → Fills (entering_of k s) u
    → length new ≡ total s.outs → i ≤ length new → gathered (cell s x m u) i ≡ Values (take i new) → ((e : ℕ) → i ≤ e → at new e ≡ at old e) → Fills s.outs old → Fills s.outs new
filled_so_far k s x m u old new i t st mk f len few h rest before =
    let g = gathered_values (cell s x m u) i (take i new) h in
    record {
      enough = len;
      in_range = λ e p. elim (cases_lt e i) [
        | inl l ↦ cell_in_range s.kind s x m u refl (subst (λ q. Asks q s) (sym t.kind_is) t.asks) st mk (subst (λ q. Fills (entering_of q s) u) (sym t.kind_is) f) e (at new e) p
            (g.1 e l ∙ ap Value (get_or-take i new e (pos 0) l))
        | inr r ↦ subst (InRange (type_at s.outs e)) (sym (rest e r)) (before.in_range e p)
      ];
    }

-- ---- the state, number by number

-- y is the state x of which the first n numbers are stepped
pub record IsStepped (s : Spec) (x y : List ℤ) (m : ℕ) (u : List ℤ) (n : ℕ) : Type 0 where
  pub len : length y ≡ length x
  pub done : (i : ℕ) → i < n → at y i ≡ next_of s.kind s x m u i
  pub ahead : (i : ℕ) → n ≤ i → at y i ≡ at x i

pub IsState-stepped : (k : Kind) (s : Spec) (x y : List ℤ) (m : ℕ) (u : List ℤ) (n : ℕ) → IsOfKind k s → IsState s x → Fills (entering_of k s) u → IsStepped s x y m u n → IsState s y
IsState-stepped k s x y m u n t st f p = record {
  enough = p.len ∙ st.enough;
  in_range = λ i h. elim (cases_lt i n) [
    | inl l ↦ subst (InRange (out_type s)) (sym (p.done i l))
        (next_in_range s.kind s x m u refl (subst (λ q. Asks q s) (sym t.kind_is) t.asks) st (subst (λ q. Fills (entering_of q s) u) (sym t.kind_is) f) i h)
    | inr r ↦ subst (InRange (out_type s)) (sym (p.ahead i r)) (st.in_range i h)
  ];
}

-- one more number is stepped, from the numbers at it and after alone
pub step_more : (k : Kind) (s : Spec) (x y : List ℤ) (m : ℕ) (u : List ℤ) (n : ℕ) (v : ℤ) → s.kind ≡ k → IsState s x → n < length y → IsStepped s x y m u n → v ≡ next_of k s y m u n → IsStepped s x (set y n v) m u (n + 1)
step_more k s x y m u n v e st l p h =
    let lies : n < state_len_of s.kind s = omega (arith, l, p.len, st.enough) in
    let is_next : v ≡ next_of s.kind s x m u n = h ∙ ap (λ q. next_of q s y m u n) (sym e) ∙ next_ahead s.kind s y x m u n lies p.ahead in
    record {
      len = length-set y n v ∙ p.len;
      done = λ i q. elim (cases_lt i n) [
        | inl b ↦ get_or-set_other y n i v (pos 0) (λ d. absurd (omega (arith, b, d))) ∙ p.done i b
        | inr b ↦ let same : i ≡ n = omega (arith, q, b) in rw same (get_or-set_same y n v (pos 0) l ∙ is_next)
      ];
      ahead = λ i q. get_or-set_other y n i v (pos 0) (λ d. absurd (omega (arith, q, d))) ∙ p.ahead i (omega (arith, q));
    }

pub stepped_all : (s : Spec) (x y : List ℤ) (m : ℕ) (u : List ℤ) (n : ℕ) → IsState s x → length y ≤ n → IsStepped s x y m u n → y ≡ next s x m u
stepped_all s x y m u n st l p =
    listed_is (next_of s.kind s x m u) y (state_len s) (p.len ∙ st.enough) (λ i h. p.done i (omega (arith, h, l, p.len, st.enough)))

-- ---- the rows

each_push : {X : Type 0} (P : X → Type 0) (xs : List X) (x d : X) → ((k : ℕ) → k < length xs → P (get_or xs k d)) → P x → (k : ℕ) → k < length (xs ++ x ∷ []) → P (get_or (xs ++ x ∷ []) k d)
each_push P xs x d h p k q =
    let len : length (xs ++ x ∷ []) ≡ length xs + 1 = length-append xs (x ∷ []) in
    elim (cases_lt k (length xs)) [
      | inl l ↦ subst P (sym (get_or_append_left xs (x ∷ []) d k l)) (h k l)
      | inr r ↦ subst P (sym (get_or_push xs x d k (omega (arith, q, len, r)))) p
    ]

each_set : {X : Type 0} (P : X → Type 0) (xs : List X) (i : ℕ) (y d : X) → i < length xs → ((k : ℕ) → k < length xs → P (get_or xs k d)) → P y → (k : ℕ) → k < length (set xs i y) → P (get_or (set xs i y) k d)
each_set P xs i y d b h p k q = elim (cases_eq k i) [
  | inl l ↦ subst P (sym (get_or-set_at xs i k y d l b)) p
  | inr r ↦ subst P (sym (get_or-set_other xs i k y d r)) (h k (subst (λ n. k < n) (length-set xs i y) q))
]

pub AreRows-push : (k : Kind) (rows : List Instance) (s : Spec) → AreRows k rows → typed s ≡ true → s.kind ≡ k → AreRows k (rows ++ first_row s ∷ [])
AreRows-push k rows s a t e = record {
  typed_specs = each_push (λ (r : Instance). typed r.spec ≡ true) rows (first_row s) no_row a.typed_specs t;
  of_kind = each_push (λ (r : Instance). r.spec.kind ≡ k) rows (first_row s) no_row a.of_kind e;
  states = each_push (λ (r : Instance). IsState r.spec r.state) rows (first_row s) no_row a.states (IsState-first_state s (asks s t));
}

pub AreRows-set : (k : Kind) (rows : List Instance) (slot m : ℕ) (u : List ℤ) → AreRows k rows → slot < length rows → Fills (entering (row_in rows slot).spec) u → AreRows k (set rows slot (row_after_update (row_in rows slot) m u))
AreRows-set k rows slot m u a p f =
    let r = row_in rows slot in
    let y = row_after_update r m u in
    record {
      typed_specs = each_set (λ (r : Instance). typed r.spec ≡ true) rows slot y no_row p a.typed_specs (a.typed_specs slot p);
      of_kind = each_set (λ (r : Instance). r.spec.kind ≡ k) rows slot y no_row p a.of_kind (a.of_kind slot p);
      states = each_set (λ (r : Instance). IsState r.spec r.state) rows slot y no_row p a.states (IsState-next r.spec (asks r.spec (a.typed_specs slot p)) r.state m u (a.states slot p) f);
    }

-- a typed spec of a kind has what the kind asks
pub IsOfKind-spec : (k : Kind) (s : Spec) → typed s ≡ true → s.kind ≡ k → IsOfKind k s
IsOfKind-spec k s t e = record { kind_is = e; is_typed = t; asks = subst (λ q. Asks q s) e (asks s t); small = size_small s t }

-- the spec of a row is of the bank's kind
pub IsOfKind-row : (k : Kind) (rows : List Instance) (slot : ℕ) → AreRows k rows → slot < length rows → IsOfKind k (row_in rows slot).spec
IsOfKind-row k rows slot a p = IsOfKind-spec k (row_in rows slot).spec (a.typed_specs slot p) (a.of_kind slot p)

-- the same, of a row that was read
pub kind_of_read : (k : Kind) (rows held : List Instance) (slot : ℕ) (r : Instance) → rows ≡ held → AreRows k rows → slot < length held → r ≡ get_or rows slot r → IsOfKind k r.spec
kind_of_read k rows held slot r e a p q =
    let l : slot < length rows = subst (λ (xs : List Instance). slot < length xs) (sym e) p in
    subst (λ (x : Instance). IsOfKind k x.spec) (sym (q ∙ get_or_default rows slot r no_row l)) (IsOfKind-row k rows slot a l)

-- the numbers that a state begins with are one for each value, or one for all
starts : (k : Kind) (s : Spec) → Tests k s → Asks k s → length s.state ≢ 1 → length s.state ≡ state_len_of k s
starts Dollar s t a n = elim a.2.0 [ inl e ↦ absurd (n e) | inr e ↦ e ]
starts GatedDelay s t a n = elim a.2.0 [ inl e ↦ absurd (n e) | inr e ↦ e ]
starts Register s t a n = refl
starts ModuloCount s t a n = absurd (n a.6)
starts _ s t a n = nat_same (length s.state) 0 t.state_len

pub starts_of : (s : Spec) → typed s ≡ true → length s.state ≢ 1 → length s.state ≡ state_len s
starts_of s h n = starts s.kind s (tests s.kind s h) (asks s h) n

-- a row that was read is stepped
pub AreRows-step : (k : Kind) (rows : List Instance) (slot m : ℕ) (u : List ℤ) (r : Instance) → AreRows k rows → slot < length rows → Fills (entering (row_in rows slot).spec) u → r ≡ get_or rows slot r → AreRows k (set rows slot (row_after_update r m u))
AreRows-step k rows slot m u r a p f e =
    subst (λ (q : Instance). AreRows k (set rows slot (row_after_update q m u))) (sym (e ∙ get_or_default rows slot r no_row p)) (AreRows-set k rows slot m u a p f)
