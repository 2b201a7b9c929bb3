-- A port that is programmed, or whose event is taken, in the table and among the events.
use Rattle.std.proofs.Common.{◌≡◌, ℕ, suc, ◌<◌, ◌≤◌, ◌⊎◌, inl, inr, List, [], ◌∷◌, Bool, true, false, not, refl, sym, ap, ◌∙◌, subst, arith, ℤ, pos, negsuc, nat_eq, if◌then◌else◌, true≢false, eqb-true, eq-eqb, ne_eqb, Contains}
use Rattle.std.proofs.lemmas.Bool.{cond-true, cond-false}
use Rattle.sci_pending.specs.Pending.{Event, Pending, without, without_source, replaced}
use Rattle.sci_pending.specs.Order.{Falls}
use Rattle.sci_due.specs.Due.{Table, with_date, with_event, freed, Stands, HasEvent, IsTable}
use Rattle.sci_due.specs.Laws.{AreOfPorts}
use Rattle.sci_due.proofs.Lists.{has_none, has_first, has_more, has_cases, kept_there, was_there, same_order}

not_false : (b : Bool) → not b ≡ true → b ≡ false
not_false true h = cc
not_false false h = refl

not_true : (b : Bool) → b ≡ false → not b ≡ true
not_true b h = ap not h

apart : (i j : ℕ) → nat_eq i j ≡ false → i ≡ j → ⊥
apart i j h e = true≢false (sym (eq-eqb i j e) ∙ h)

-- an event of another port stands where it stood
stands_date : (t : Table) (n i : ℕ) (date : ℤ) (e : Event) (s : Stands t n e) → (i ≡ s.port → ⊥) → Stands (with_date t i date) n e
stands_date t n i date e s other =
    record {
      port = s.port;
      is = s.is;
      within = s.within;
      date = cond-false (nat_eq i s.port) date (t.date s.port) (ne_eqb i s.port other) ∙ s.date;
      order = s.order;
    }

stands_event : (t : Table) (n i date order : ℕ) (e : Event) (s : Stands t n e) → (i ≡ s.port → ⊥) → Stands (with_event t i date order) n e
stands_event t n i date order e s other =
    record {
      port = s.port;
      is = s.is;
      within = s.within;
      date = cond-false (nat_eq i s.port) (pos date) (t.date s.port) (ne_eqb i s.port other) ∙ s.date;
      order = cond-false (nat_eq i s.port) (pos order) (t.order s.port) (ne_eqb i s.port other) ∙ s.order;
    }

-- Programming a source anew replaces its event, and overwrites its port's entry.
module _ (t : Table) (n i date : ℕ) (p : Pending) (within : i < n) (is : IsTable t n p.events) where
  abbrev new : Event
  new = record { date = date; order = p.programmed; source = suc i }

  abbrev others : List Event
  others = without_source (suc i) p.events

  then_there : (e : Event) → (new ≡ e) ⊎ Contains others e → Stands (with_event t i date p.programmed) n e
  then_there e (inl same) = subst (λ (e : Event). Stands (with_event t i date p.programmed) n e) same (record {
    port = i;
    is = refl;
    within = within;
    date = cond-true (nat_eq i i) (pos date) (t.date i) (eq-eqb i i refl);
    order = cond-true (nat_eq i i) (pos p.programmed) (t.order i) (eq-eqb i i refl);
  })
  then_there e (inr c) =
      let d = was_there (λ (e : Event). not (nat_eq e.source (suc i))) p.events e c in
      let s = is.there e d.0 in
      stands_event t n i date p.programmed e s (λ q. apart e.source (suc i) (not_false (nat_eq e.source (suc i)) d.1) (s.is ∙ ap suc (sym q)))

  then_free : (j : ℕ) (u : Bool) → nat_eq i j ≡ u → (t.date j ≡ negsuc 0) ⊎ HasEvent p.events j
      → ((if u then pos date else t.date j) ≡ negsuc 0) ⊎ HasEvent (new ∷ others) j
  then_free j true q f = inr (new, (has_first new others, ap suc (eqb-true i j q)))
  then_free j false q (inl d) = inl d
  then_free j false q (inr c) =
      let other : nat_eq c.0.source (suc i) ≡ false = ne_eqb c.0.source (suc i) (λ e. apart i j q (let own = c.1.1 in omega (arith, e, own))) in
      inr (
        c.0,
        (
          has_more new c.0 others (kept_there (λ (e : Event). not (nat_eq e.source (suc i))) p.events c.0
              (not_true (nat_eq c.0.source (suc i)) other) c.1.0),
          c.1.1,
        ),
      )

  pub replaced_is : IsTable (with_event t i date p.programmed) n (replaced p date (suc i)).events
  replaced_is = record { there = λ e c. then_there e (has_cases new e others c); free = λ j h. then_free j (nat_eq i j) refl (is.free j h) }

-- A taken event leaves the others, and its port's entry is free.
module _ (t : Table) (n k i : ℕ) (es : List Event) (e : Event) (falls : Falls k es) (is : IsTable t n es) (here : Contains es e)
    (own : e.source ≡ suc i) where
  port_is : (f : Event) (s : Stands t n f) (r : Stands t n e) → i ≡ s.port → f.order ≡ e.order
  port_is f s r q =
      let same : s.port ≡ r.port = omega (arith, q, own, r.is) in
      injective f.order e.order (sym s.order ∙ (ap t.order same ∙ r.order))
    where
      injective : (a b : ℕ) → pos a ≡ pos b → a ≡ b
      injective a b h = cc

  taken_there : (f : Event) → Contains (without e.order es) f → Stands (freed t i) n f
  taken_there f c =
      let d = was_there (λ (f : Event). not (nat_eq f.order e.order)) es f c in
      let s = is.there f d.0 in
      stands_date t n i (negsuc 0) f s (λ q. apart f.order e.order (not_false (nat_eq f.order e.order) d.1) (port_is f s (is.there e here) q))

  taken_free : (j : ℕ) (u : Bool) → nat_eq i j ≡ u → (t.date j ≡ negsuc 0) ⊎ HasEvent es j
      → ((if u then negsuc 0 else t.date j) ≡ negsuc 0) ⊎ HasEvent (without e.order es) j
  taken_free j true q f = inl refl
  taken_free j false q (inl d) = inl d
  taken_free j false q (inr c) =
      let other : nat_eq c.0.order e.order ≡ false = ne_eqb c.0.order e.order (λ h.
      let same : c.0 ≡ e = same_order k es c.0 e falls c.1.0 here h in
      let source : c.0.source ≡ e.source = ap (λ (x : Event). x.source) same in
      let is_j = c.1.1 in
      apart i j q (omega (arith, source, own, is_j))) in
      inr (c.0, (kept_there (λ (f : Event). not (nat_eq f.order e.order)) es c.0 (not_true (nat_eq c.0.order e.order) other) c.1.0, c.1.1))

  pub taken_is : IsTable (freed t i) n (without e.order es)
  taken_is = record { there = taken_there; free = λ j h. taken_free j (nat_eq i j) refl (is.free j h) }

-- Where there is one port, an event that is programmed there is the only one.
module _ (n i date : ℕ) (p : Pending) (within : i < n) (ports : AreOfPorts n p.events) (few : n ≤ 1) where
  abbrev only : Event
  only = record { date = date; order = p.programmed; source = suc i }

  is_only : (e : Event) → (only ≡ e) ⊎ Contains (without_source (suc i) p.events) e → only ≡ e
  is_only e (inl same) = same
  is_only e (inr c) =
      let d = was_there (λ (e : Event). not (nat_eq e.source (suc i))) p.events e c in
      let source = ports e d.0 in
      let here : e.source ≡ suc i = omega (arith, within, few, source.0, source.1) in
      absurd (apart e.source (suc i) (not_false (nat_eq e.source (suc i)) d.1) here)

  pub replaced_single : (e f : Event) → Contains (replaced p date (suc i)).events e → Contains (replaced p date (suc i)).events f → e ≡ f
  replaced_single e f c d =
      sym (is_only e (has_cases only e (without_source (suc i) p.events) c)) ∙ is_only f (has_cases only f (without_source (suc i) p.events) d)

-- A table without a date has no event.
pub empty_is : (t : Table) (n : ℕ) → ((i : ℕ) → i < n → t.date i ≡ negsuc 0) → IsTable t n []
empty_is t n h = record { there = λ e c. absurd (has_none e c); free = λ i l. inl (h i l) }
