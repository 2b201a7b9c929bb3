-- The pending events that memory shows, as a table.
use Rattle.std.proofs.Common.{◌≡◌, ℕ, suc, ◌-◌, ◌<◌, ◌≤◌, ◌⊎◌, inl, inr, List, [], ◌∷◌, Option, Some, Bool, true, false, ◌||◌, refl, sym, ap, ◌∙◌, subst, arith, ℤ, pos, negsuc, nat_eq, nat_lt, if◌then◌else◌, eqb-true, eq-eqb, lt-ltb, ltb-true, ltb-false, true≢false, Contains}
use Rattle.std.proofs.lemmas.Bool.{cond-true}
use Rattle.c_mean.specs.Meaning.{World}
use Rattle.c_mean.specs.Places.{get, Has}
use Rattle.sci_pending.specs.Pending.{Event, Pending, is_pending}
use Rattle.c_mean.specs.Texts.{assigns_only}
use Rattle.c_mean.specs.Runs.{LeftAlone}
use Rattle.c_ast.specs.declared.Name.{Name}
use Rattle.sci_due.specs.Due.{Table, IsTable, ShowsTable, dates, orders, last, fresh, firsts}
use Rattle.sci_due.specs.Laws.{held, shown_table, ShowsPending, AreOfPorts}
use Rattle.sci_due.proofs.Scanning.{group_alike, group_stays}
use Rattle.sci_due.proofs.Lists.{has_first, has_more, has_cases, has_none}

-- Memory shows the pending events by a table of n ports.
pub record ShowsByTable (n : ℕ) (p : Pending) (w : World) : Type 0 where
  pub table : Table
  pub shows : ShowsTable table n w
  pub is : IsTable table n p.events
  pub programmed : 2 ≤ n → get w last 0 ≡ Some (pos p.programmed)
  pub single : n ≤ 1 → (e f : Event) → Contains p.events e → Contains p.events f → e ≡ f

pub pending_has : (k : ℕ) (es : List Event) → is_pending k es ≡ true → (e : Event) × (Contains es e × (e.source ≡ k))
pending_has k [] h = cc
pending_has k (x ∷ es) h = by_first (pending_has k es) (nat_eq x.source k) refl h
  where
    by_first : (is_pending k es ≡ true → (e : Event) × (Contains es e × (e.source ≡ k))) → (t : Bool) → nat_eq x.source k ≡ t → t || is_pending k es ≡ true
        → (e : Event) × (Contains (x ∷ es) e × (e.source ≡ k))
    by_first go true q h = (x, (has_first x es, eqb-true x.source k q))
    by_first go false q h = let r = go h in (r.0, (has_more x r.0 es r.1.0, r.1.1))

pub has_pending : (k : ℕ) (es : List Event) (e : Event) → Contains es e → e.source ≡ k → is_pending k es ≡ true
has_pending k [] e c q = absurd (has_none e c)
has_pending k (x ∷ es) e c q = by_first (λ d. has_pending k es e d q) (nat_eq x.source k) refl (has_cases x e es c)
  where
    by_first : (Contains es e → is_pending k es ≡ true) → (t : Bool) → nat_eq x.source k ≡ t → (x ≡ e) ⊎ Contains es e → t || is_pending k es ≡ true
    by_first go true r d = refl
    by_first go false r (inl same) = absurd (true≢false (sym (eq-eqb x.source k (ap (λ (y : Event). y.source) same ∙ q)) ∙ r))
    by_first go false r (inr d) = go d

held_is : (o : Option ℤ) (z : ℤ) → o ≡ Some z → o ≡ Some (held o)
held_is o z h = h ∙ ap (λ (o : Option ℤ). Some (held o)) (sym h)

-- the order of the first of some events
abbrev first_order : List Event → ℤ
first_order [] = pos 0
first_order (e ∷ es) = pos e.order

-- that of each, where there is one
only_order : (es : List Event) (e : Event) → ((e f : Event) → Contains es e → Contains es f → e ≡ f) → Contains es e → first_order es ≡ pos e.order
only_order [] e h c = absurd (has_none e c)
only_order (x ∷ es) e h c = ap (λ (y : Event). pos y.order) (h x e (has_first x es) c)

module _ (n : ℕ) (p : Pending) (w : World) (s : ShowsPending n p w) where
  -- where there is one port, the order is its event's
  abbrev shown : Table
  shown = record { date = λ i. held (get w dates i); order = λ i. if nat_lt 1 n then held (get w orders i) else first_order p.events }

  -- at a port there is an event or none
  at_port : (i : ℕ) → i < n → (get w dates i ≡ Some (negsuc 0)) ⊎
      ((e : Event) × (Contains p.events e × ((e.source ≡ suc i) × (get w dates i ≡ Some (pos e.date)))))
  at_port i h = by_pending (is_pending (suc i) p.events) refl
    where
      same : suc i - 1 ≡ i
      same = omega arith

      by_pending : (t : Bool) → is_pending (suc i) p.events ≡ t
          → (get w dates i ≡ Some (negsuc 0)) ⊎ ((e : Event) × (Contains p.events e × ((e.source ≡ suc i) × (get w dates i ≡ Some (pos e.date)))))
      by_pending true q =
          let e = pending_has (suc i) p.events q in
          let port : e.0.source - 1 ≡ i = omega (arith, e.1.1) in
          inr (e.0, (e.1.0, (e.1.1, subst (λ (j : ℕ). get w dates j ≡ Some (pos e.0.date)) port (s.there e.0 e.1.0).0)))
      by_pending false q = inl (subst (λ (j : ℕ). get w dates j ≡ Some (negsuc 0)) same (s.free (suc i) (omega arith) (omega (arith, h)) q))

  date_there : (i : ℕ) → i < n → get w dates i ≡ Some (held (get w dates i))
  date_there i h = elim (at_port i h) [ inl d ↦ held_is (get w dates i) (negsuc 0) d | inr e ↦ held_is (get w dates i) (pos e.0.date) e.1.1.1 ]

  order_there : 2 ≤ n → (i : ℕ) → i < n → get w orders i ≡ Some (if nat_lt 1 n then held (get w orders i) else first_order p.events)
  order_there m i h =
      let same : suc i - 1 ≡ i = omega arith in
      let o = subst (λ (j : ℕ). Has w orders j) same (s.orders_there m (suc i) (omega arith) (omega (arith, h))) in
      held_is (get w orders i) o.holds o.is
      ∙ ap (λ (z : ℤ). Some z) (sym (cond-true (nat_lt 1 n) (held (get w orders i)) (first_order p.events) (lt-ltb 1 n m)))

  order_is : (e : Event) → Contains p.events e → (if nat_lt 1 n then held (get w orders (e.source - 1)) else first_order p.events) ≡ pos e.order
  order_is e c = by_count (nat_lt 1 n) refl
    where
      by_count : (t : Bool) → nat_lt 1 n ≡ t → (if t then held (get w orders (e.source - 1)) else first_order p.events) ≡ pos e.order
      by_count true q = ap held ((s.there e c).1 (ltb-true 1 n q))
      by_count false q = only_order p.events e (s.single (ltb-false 1 n q)) c

  pub by_table : AreOfPorts n p.events → ShowsByTable n p w
  by_table ports = record {
    table = shown;
    shows = record {
      date = date_there;
      order = order_there;
      group = λ m g l. group_alike (shown_table w) shown n g w (λ i h. refl)
          (λ i h. cond-true (nat_lt 1 n) (held (get w orders i)) (first_order p.events) (lt-ltb 1 n (omega (arith, m)))) (s.groups m g l);
    };
    is = record {
      there =
          λ e c. let within = ports e c in record {
            port = e.source - 1;
            is = omega (arith, within.0);
            within = omega (arith, within.0, within.1);
            date = ap held (s.there e c).0;
            order = order_is e c;
          };
      free = λ i h. elim (at_port i h) [ inl d ↦ inl (ap held d) | inr e ↦ inr (e.0, (e.1.0, e.1.1.0)) ];
    };
    programmed = s.programmed;
    single = s.single;
  }

pub from_table : (n : ℕ) (p : Pending) (w : World) → ShowsByTable n p w → ShowsPending n p w
from_table n p w s = record {
  there = λ e c.
      let at = s.is.there e c in
      let port : at.port ≡ e.source - 1 = omega (arith, at.is) in (
        subst (λ (j : ℕ). get w dates j ≡ Some (pos e.date)) port (s.shows.date at.port at.within ∙ ap Some at.date),
        λ m. subst
            (λ (j : ℕ). get w orders j ≡ Some (pos e.order)) port (s.shows.order m at.port at.within ∙ ap Some at.order),
      );
  free = λ k a b f. elim (s.is.free (k - 1) (omega (arith, a, b))) [
    | inl d ↦ s.shows.date (k - 1) (omega (arith, a, b)) ∙ ap Some d
    | inr e ↦ absurd (true≢false (sym (has_pending k p.events e.0 e.1.0 (let own = e.1.1 in omega (arith, own, a))) ∙ f))
  ];
  orders_there = λ m k a b. record { holds = s.table.order (k - 1); is = s.shows.order m (k - 1) (omega (arith, a, b)) };
  programmed = s.programmed;
  groups = λ m g l. group_alike s.table (shown_table w) n g w (λ i h. ap held (s.shows.date i h.within))
      (λ i h. ap held (s.shows.order (omega (arith, m)) i h.within)) (s.shows.group m g l);
  single = s.single;
}

-- where memory holds the same of their names, it shows the same
pub pending_same : (n : ℕ) (p : Pending) (w w' : World) → ((i : ℕ) → get w' dates i ≡ get w dates i) → ((i : ℕ) → get w' orders i ≡ get w orders i)
    → get w' last 0 ≡ get w last 0 → ((g : ℕ) → get w' fresh g ≡ get w fresh g) → ((g : ℕ) → get w' firsts g ≡ get w firsts g)
    → ShowsPending n p w → ShowsPending n p w'
pending_same n p w w' d o l f q s = record {
  there = λ e c. (d (e.source - 1) ∙ (s.there e c).0, λ m. o (e.source - 1) ∙ (s.there e c).1 m);
  free = λ k a b h. d (k - 1) ∙ s.free k a b h;
  orders_there = λ m k a b. let h = s.orders_there m k a b in record { holds = h.holds; is = o (k - 1) ∙ h.is };
  programmed = λ m. l ∙ s.programmed m;
  groups = λ m g h. group_alike (shown_table w) (shown_table w') n g w' (λ i _. ap held (d i)) (λ i _. ap held (o i))
      (group_stays (shown_table w) n g w w' (f g) (q g) (s.groups m g h));
  single = s.single;
}

-- what assigns none of their names leaves them
pub pending_alone : (names : Name → Bool) (n : ℕ) (p : Pending) (w w' : World) → LeftAlone (assigns_only names) w w' → names dates ≡ false → names orders ≡ false
    → names last ≡ false → names fresh ≡ false → names firsts ≡ false → ShowsPending n p w → ShowsPending n p w'
pending_alone names n p w w' alone d o l f q =
    pending_same n p w w' (λ i. alone.same dates i d) (λ i. alone.same orders i o) (alone.same last 0 l)
    (λ g. alone.same fresh g f) (λ g. alone.same firsts g q)
