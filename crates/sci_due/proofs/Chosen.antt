-- The chosen port of the table is that of the next pending event.
use Rattle.std.proofs.Common.{◌≡◌, ℕ, suc, ◌<◌, ◌≤◌, ◌<ℤ◌, ◌≤ℤ◌, ◌⊎◌, inl, inr, List, Some, None, Bool, true, false, ◌&&◌, ◌||◌, refl, sym, ap, ◌∙◌, subst, arith, ℤ, pos, negsuc, if◌then◌else◌}
use Rattle.std.specs.Prelude.{int_lt, int_le}
use Rattle.std.proofs.lemmas.Int.{ints}
use Rattle.sci_pending.specs.Pending.{Event, next}
use Rattle.sci_pending.specs.Order.{Falls}
use Rattle.sci_base.specs.Fit.{int_eq}
use Rattle.sci_due.specs.Due.{Table, sooner, better, AtMost, IsFirstOf, Stands, HasEvent, IsTable}
use Rattle.sci_due.proofs.Lists.{IsFirst, first_next, nothing_next}

same_true : (a b : ℤ) → int_eq a b ≡ true → a ≡ b
same_true a b h = both (int_le a b) (int_le b a) refl refl h
  where
    both : (x y : Bool) → int_le a b ≡ x → int_le b a ≡ y → x && y ≡ true → a ≡ b
    both true true p q h = grind (arith, ints)
    both true false p q h = cc
    both false y p q h = cc

same_false : (a b : ℤ) → int_lt a b ≡ false → int_eq a b ≡ false → b <ℤ a
same_false a b l h = both (int_le a b) (int_le b a) refl refl h
  where
    both : (x y : Bool) → int_le a b ≡ x → int_le b a ≡ y → x && y ≡ false → b <ℤ a
    both true true p q h = cc
    both true false p q h = grind (arith, ints)
    both false y p q h = grind (arith, ints)

first_then : (a b c d : ℤ) → int_lt a b || (int_eq a b && int_lt c d) ≡ true → (a <ℤ b) ⊎ ((a ≡ b) × (c ≤ℤ d))
first_then a b c d h = by_first (int_lt a b) refl (int_eq a b) refl (int_lt c d) refl h
  where
    by_first : (x : Bool) → int_lt a b ≡ x → (y : Bool) → int_eq a b ≡ y → (z : Bool) → int_lt c d ≡ z → x || (y && z) ≡ true
        → (a <ℤ b) ⊎ ((a ≡ b) × (c ≤ℤ d))
    by_first true p y q z r h = inl (grind (arith, ints))
    by_first false p true q true r h = inr (same_true a b q, grind (arith, ints))
    by_first false p true q false r h = cc
    by_first false p false q z r h = cc

not_first : (a b c d : ℤ) → int_lt a b || (int_eq a b && int_lt c d) ≡ false → (b <ℤ a) ⊎ ((b ≡ a) × (d ≤ℤ c))
not_first a b c d h = by_first (int_lt a b) refl (int_eq a b) refl (int_lt c d) refl h
  where
    by_first : (x : Bool) → int_lt a b ≡ x → (y : Bool) → int_eq a b ≡ y → (z : Bool) → int_lt c d ≡ z → x || (y && z) ≡ false
        → (b <ℤ a) ⊎ ((b ≡ a) × (d ≤ℤ c))
    by_first true p y q z r h = cc
    by_first false p true q true r h = cc
    by_first false p true q false r h = inr (sym (same_true a b q), grind (arith, ints))
    by_first false p false q z r h = inl (same_false a b p q)

sooner_true : (t : Table) (i b : ℕ) → sooner t i b ≡ true → AtMost t i b
sooner_true t i b h = first_then (t.date i) (t.date b) (t.order i) (t.order b) h

sooner_false : (t : Table) (i b : ℕ) → sooner t i b ≡ false → AtMost t b i
sooner_false t i b h = not_first (t.date i) (t.date b) (t.order i) (t.order b) h

at_most_then : (t : Table) (a b c : ℕ) → AtMost t a b → AtMost t b c → AtMost t a c
at_most_then t a b c (inl p) (inl q) = inl (omega (arith, ints, p, q))
at_most_then t a b c (inl p) (inr q) = inl (omega (arith, ints, p, q.0))
at_most_then t a b c (inr p) (inl q) = inl (omega (arith, ints, p.0, q))
at_most_then t a b c (inr p) (inr q) = inr (p.0 ∙ q.0, omega (arith, ints, p.1, q.1))

not_there : (z : ℤ) → int_le (pos 0) z ≡ false → z <ℤ pos 0
not_there z h = grind (arith, ints)

is_there : (z : ℤ) → int_le (pos 0) z ≡ true → pos 0 ≤ℤ z
is_there z h = grind (arith, ints)

yes_there : (z : ℤ) → pos 0 ≤ℤ z → int_le (pos 0) z ≡ true
yes_there z h = grind (arith, ints)

not_below : (z : ℤ) → int_lt z (pos 0) ≡ false → pos 0 ≤ℤ z
not_below z h = grind (arith, ints)

is_below : (z : ℤ) → int_lt z (pos 0) ≡ true → pos 0 ≤ℤ z → ⊥
is_below z h l = grind (arith, ints)

both_left : (a b : Bool) → a && b ≡ true → a ≡ true
both_left true b h = refl
both_left false b h = h

both_right : (a b : Bool) → a && b ≡ true → b ≡ true
both_right true b h = h
both_right false b h = cc

rest_fails : (a b : Bool) → a ≡ true → a && b ≡ false → b ≡ false
rest_fails true b p h = h
rest_fails false b p h = cc

-- one of two sets of ports
abbrev pub Either : (ℕ → Type 0) → (ℕ → Type 0) → ℕ → Type 0
Either S U i = S i ⊎ U i

-- the first of two sets, from the first of each
module _ (t : Table) (S U : ℕ → Type 0) (b u : ℕ) (f : IsFirstOf t S b) (g : IsFirstOf t U u) where
  before : (i : ℕ) → pos 0 ≤ℤ t.date i → better t u b ≡ true → (pos 0 ≤ℤ t.date b) × AtMost t b i → AtMost t u i
  before i p e h = by_tests (int_lt (t.date b) (pos 0)) refl (sooner t u b) refl (both_right (int_le (pos 0) (t.date u)) _ e)
    where
      by_tests : (x : Bool) → int_lt (t.date b) (pos 0) ≡ x → (y : Bool) → sooner t u b ≡ y → x || y ≡ true → AtMost t u i
      by_tests true q y r s = absurd (is_below (t.date b) q h.0)
      by_tests false q true r s = at_most_then t u b i (sooner_true t u b r) h.1
      by_tests false q false r s = cc

  after : (i : ℕ) → better t u b ≡ false → (pos 0 ≤ℤ t.date u) × AtMost t u i → (pos 0 ≤ℤ t.date b) × AtMost t b i
  after i e h =
      by_tests (int_lt (t.date b) (pos 0)) refl (sooner t u b) refl (rest_fails (int_le (pos 0) (t.date u)) _ (yes_there (t.date u) h.0) e)
    where
      by_tests : (x : Bool) → int_lt (t.date b) (pos 0) ≡ x → (y : Bool) → sooner t u b ≡ y → x || y ≡ false
          → (pos 0 ≤ℤ t.date b) × AtMost t b i
      by_tests true q y r s = cc
      by_tests false q true r s = cc
      by_tests false q false r s = (not_below (t.date b) q, at_most_then t b u i (sooner_false t u b r) h.1)

  pub first_of_both : (r : Bool) → better t u b ≡ r → IsFirstOf t (Either S U) (if r then u else b)
  first_of_both true e = record {
    among = inr g.among;
    first = λ i s p. elim s [
      | inl q ↦ (is_there (t.date u) (both_left (int_le (pos 0) (t.date u)) _ e), before i p e (f.first i q p))
      | inr q ↦ g.first i q p
    ];
  }
  first_of_both false e = record {
    among = inl f.among;
    first = λ i s p. elim s [ inl q ↦ f.first i q p | inr q ↦ after i e (g.first i q p) ];
  }

-- the first of one port
pub first_of_one : (t : Table) (u : ℕ) → IsFirstOf t (λ i. u ≡ i) u
first_of_one t u = record {
  among = refl;
  first = λ i s p. subst (λ (j : ℕ). (pos 0 ≤ℤ t.date u) × AtMost t u j) s (subst (λ (j : ℕ). pos 0 ≤ℤ t.date j) (sym s) p, inr (refl, omega (arith, ints)));
}

-- of the same ports
pub first_among : (t : Table) (S U : ℕ → Type 0) (b : ℕ) → ((i : ℕ) → S i → U i) → ((i : ℕ) → U i → S i) → IsFirstOf t S b → IsFirstOf t U b
first_among t S U b more less f = record { among = more b f.among; first = λ i s p. f.first i (less i s) p }

-- in a table with the same dates and orders there
pub first_alike : (t t' : Table) (S : ℕ → Type 0) (b : ℕ) → ((i : ℕ) → S i → t'.date i ≡ t.date i) → ((i : ℕ) → S i → t'.order i ≡ t.order i)
    → IsFirstOf t S b → IsFirstOf t' S b
first_alike t t' S b date order f = record { among = f.among; first = λ i s p. there i s (f.first i s (subst (λ (z : ℤ). pos 0 ≤ℤ z) (date i s) p)) }
  where
    at_most : (i : ℕ) → S i → AtMost t b i → AtMost t' b i
    at_most i s (inl l) = inl (omega (arith, ints, l, date b f.among, date i s))
    at_most i s (inr q) = inr (date b f.among ∙ (q.0 ∙ sym (date i s)), omega (arith, ints, q.1, order b f.among, order i s))

    there : (i : ℕ) → S i → (pos 0 ≤ℤ t.date b) × AtMost t b i → (pos 0 ≤ℤ t'.date b) × AtMost t' b i
    there i s h = (subst (λ (z : ℤ). pos 0 ≤ℤ z) (sym (date b f.among)) h.0, at_most i s h.1)

nonneg : (z : ℤ) (k : ℕ) → z ≡ pos k → pos 0 ≤ℤ z
nonneg z k e = omega (arith, ints, e)

below : (z : ℤ) → z ≡ negsuc 0 → pos 0 ≤ℤ z → ⊥
below z e l = omega (arith, ints, e, l)

-- ---- the next event

abbrev pub Below : ℕ → ℕ → Type 0
Below n i = i < n

module _ (t : Table) (n : ℕ) (es : List Event) (b : ℕ) (is : IsTable t n es) (found : IsFirstOf t (Below n) b) where
  first_is : pos 0 ≤ℤ t.date b → (e : Event) × (IsFirst es e × (e.source ≡ suc b))
  first_is has = by_free (is.free b found.among)
    where
      compare : (e : Event) → e.source ≡ suc b → Stands t n e → (f : Event) → Stands t n f → (e.date < f.date) ⊎ ((e.date ≡ f.date) × (e.order ≤ f.order))
      compare e own s f r =
          let port : s.port ≡ b = omega (arith, own, s.is) in
          let date : t.date b ≡ pos e.date = ap t.date (sym port) ∙ s.date in
          let order : t.order b ≡ pos e.order = ap t.order (sym port) ∙ s.order in
          elim ((found.first r.port r.within (nonneg (t.date r.port) f.date r.date)).1) [
            | inl l ↦ inl (omega (arith, ints, l, date, r.date))
            | inr q ↦ inr (omega (arith, ints, q.0, date, r.date), omega (arith, ints, q.1, order, r.order))
          ]

      by_free : (t.date b ≡ negsuc 0) ⊎ HasEvent es b → (e : Event) × (IsFirst es e × (e.source ≡ suc b))
      by_free (inl e) = absurd (below (t.date b) e has)
      by_free (inr h) = (h.0, ((h.1.0, λ f c. compare h.0 h.1.1 (is.there h.0 h.1.0) f (is.there f c)), h.1.1))

  -- a port that has an event has the next one; else nothing is pending
  pub found_next : (k : ℕ) → Falls k es → pos 0 ≤ℤ t.date b → (e : Event) × ((next es ≡ Some e) × (e.source ≡ suc b))
  found_next k falls has = let e = first_is has in (e.0, (first_next k es e.0 falls e.1.0, e.1.1))

  pub found_none : t.date b <ℤ pos 0 → next es ≡ None
  found_none none =
      nothing_next es (λ e c. let s = is.there e c in
      no_sign (t.date b) none (found.first s.port s.within (nonneg (t.date s.port) e.date s.date)).0)
    where
      no_sign : (z : ℤ) → z <ℤ pos 0 → pos 0 ≤ℤ z → ⊥
      no_sign z l m = omega (arith, ints, l, m)
