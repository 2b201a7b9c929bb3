-- Lists of events: what they contain, and which is next.
use Rattle.std.proofs.Common.{◌≡◌, ℕ, zero, suc, ◌<◌, ◌≤◌, ◌⊎◌, inl, inr, List, [], ◌∷◌, length, get_or, filter, Option, Some, None, Bool, true, false, ◌&&◌, ◌||◌, refl, sym, ap, ◌∙◌, subst, arith, nat_eq, nat_lt, if◌then◌else◌, true≢false, eqb-true, ltb-true, ltb-false, Contains}
use Rattle.std.proofs.lemmas.Bool.{eqb-false}
use Rattle.sci_pending.specs.Pending.{Event, is_earlier, earlier, next}
use Rattle.sci_pending.specs.Order.{Falls}

pub has_first : (e : Event) (es : List Event) → Contains (e ∷ es) e
has_first e es = (0, omega arith, refl)

pub has_more : (e f : Event) (es : List Event) → Contains es f → Contains (e ∷ es) f
has_more e f es h = (suc h.0, omega (arith, h.1), h.2)

pub has_cases : (e f : Event) (es : List Event) → Contains (e ∷ es) f → (e ≡ f) ⊎ Contains es f
has_cases e f es h = by_index h.0 h.1 h.2
  where
    by_index : (k : ℕ) → k < length (e ∷ es) → get_or (e ∷ es) k f ≡ f → (e ≡ f) ⊎ Contains es f
    by_index zero l q = inl q
    by_index (suc k) l q = inr (k, omega (arith, l), q)

pub has_none : (f : Event) → Contains [] f → ⊥
has_none f h = absurd (omega (arith, h.1))

-- ---- what a test keeps

pub kept_there : (keep : Event → Bool) (es : List Event) (f : Event) → keep f ≡ true → Contains es f → Contains (filter keep es) f
kept_there keep [] f q h = absurd (has_none f h)
kept_there keep (e ∷ es) f q h = by_test (kept_there keep es f q) (keep e) refl (has_cases e f es h)
  where
    by_test : (Contains es f → Contains (filter keep es) f) → (t : Bool) → keep e ≡ t → (e ≡ f) ⊎ Contains es f
        → Contains (if t then e ∷ filter keep es else filter keep es) f
    by_test go true r (inl same) = subst (λ (x : Event). Contains (e ∷ filter keep es) x) same (has_first e (filter keep es))
    by_test go true r (inr c) = has_more e f (filter keep es) (go c)
    by_test go false r (inl same) = absurd (true≢false (sym q ∙ (ap keep (sym same) ∙ r)))
    by_test go false r (inr c) = go c

pub was_there : (keep : Event → Bool) (es : List Event) (f : Event) → Contains (filter keep es) f → Contains es f × (keep f ≡ true)
was_there keep [] f h = absurd (has_none f h)
was_there keep (e ∷ es) f h = by_test (was_there keep es f) (keep e) refl h
  where
    by_test : (Contains (filter keep es) f → Contains es f × (keep f ≡ true)) → (t : Bool) → keep e ≡ t
        → Contains (if t then e ∷ filter keep es else filter keep es) f → Contains (e ∷ es) f × (keep f ≡ true)
    by_test go false r c = let d = go c in (has_more e f es d.0, d.1)
    by_test go true r c = elim (has_cases e f (filter keep es) c) [
      | inl same ↦ (subst (λ (x : Event). Contains (e ∷ es) x) same (has_first e es), ap keep (sym same) ∙ r)
      | inr d ↦ let k = go d in (has_more e f es k.0, k.1)
    ]

-- ---- orders

pub falls_below : (n : ℕ) (es : List Event) (f : Event) → Falls n es → Contains es f → f.order < n
falls_below n [] f h c = absurd (has_none f c)
falls_below n (e ∷ es) f h c = by_case (λ d. falls_below e.order es f h.1 d) (has_cases e f es c)
  where
    by_case : (Contains es f → f.order < e.order) → (e ≡ f) ⊎ Contains es f → f.order < n
    by_case go (inl same) = subst (λ (x : Event). x.order < n) same h.0
    by_case go (inr d) = omega (arith, go d, h.0)

-- an order is an event's own
pub same_order : (n : ℕ) (es : List Event) (e f : Event) → Falls n es → Contains es e → Contains es f → e.order ≡ f.order → e ≡ f
same_order n [] e f h c d q = absurd (has_none e c)
same_order n (x ∷ es) e f h c d q = by_case (same_order x.order es e f h.1) (has_cases x e es c) (has_cases x f es d)
  where
    by_case : (Contains es e → Contains es f → e.order ≡ f.order → e ≡ f) → (x ≡ e) ⊎ Contains es e → (x ≡ f) ⊎ Contains es f → e ≡ f
    by_case go (inl a) (inl b) = sym a ∙ b
    by_case go (inl a) (inr b) =
        let l = falls_below x.order es f h.1 b in let s : x.order ≡ e.order = ap (λ (y : Event). y.order) a in absurd (omega (arith, l, s, q))
    by_case go (inr a) (inl b) =
        let l = falls_below x.order es e h.1 a in let s : x.order ≡ f.order = ap (λ (y : Event). y.order) b in absurd (omega (arith, l, s, q))
    by_case go (inr a) (inr b) = go a b q

-- ---- the next event

-- a comes before b, or they have the same date and order
abbrev pub AtMost : Event → Event → Type 0
AtMost a b = (a.date < b.date) ⊎ ((a.date ≡ b.date) × (a.order ≤ b.order))

at_most_self : (a : Event) → AtMost a a
at_most_self a = inr (refl, omega arith)

at_most_then : (a b c : Event) → AtMost a b → AtMost b c → AtMost a c
at_most_then a b c (inl p) (inl q) = inl (omega (arith, p, q))
at_most_then a b c (inl p) (inr q) = inl (omega (arith, p, q.0))
at_most_then a b c (inr p) (inl q) = inl (omega (arith, p.0, q))
at_most_then a b c (inr p) (inr q) = inr (p.0 ∙ q.0, omega (arith, p.1, q.1))

earlier_true : (a b : Event) → is_earlier a b ≡ true → AtMost a b
earlier_true a b h = by_date (nat_lt a.date b.date) refl (nat_eq a.date b.date) refl (nat_lt a.order b.order) refl h
  where
    by_date : (x : Bool) → nat_lt a.date b.date ≡ x → (y : Bool) → nat_eq a.date b.date ≡ y → (z : Bool) → nat_lt a.order b.order ≡ z → x || (y && z) ≡ true
        → AtMost a b
    by_date true p y q z r h = inl (ltb-true a.date b.date p)
    by_date false p true q true r h = inr (eqb-true a.date b.date q, (let l = ltb-true a.order b.order r in omega (arith, l)))
    by_date false p true q false r h = cc
    by_date false p false q z r h = cc

earlier_false : (a b : Event) → is_earlier a b ≡ false → AtMost b a
earlier_false a b h = by_date (nat_lt a.date b.date) refl (nat_eq a.date b.date) refl (nat_lt a.order b.order) refl h
  where
    by_date : (x : Bool) → nat_lt a.date b.date ≡ x → (y : Bool) → nat_eq a.date b.date ≡ y → (z : Bool) → nat_lt a.order b.order ≡ z
        → x || (y && z) ≡ false → AtMost b a
    by_date true p y q z r h = cc
    by_date false p true q true r h = cc
    by_date false p true q false r h = inr (sym (eqb-true a.date b.date q), (let l = ltb-false a.order b.order r in omega (arith, l)))
    by_date false p false q z r h = inl (let l = ltb-false a.date b.date p in let d = eqb-false a.date b.date q in omega (arith, l, d))

-- it is pending, and no other comes before it
abbrev pub IsFirst : List Event → Event → Type 0
IsFirst es e = Contains es e × ((f : Event) → Contains es f → AtMost e f)

abbrev IsNext : List Event → Option Event → Type 0
IsNext es None = (f : Event) → Contains es f → ⊥
IsNext es (Some m) = IsFirst es m

first_more : (e : Event) (es : List Event) (o : Option Event) → IsNext es o → IsFirst (e ∷ es) (earlier e o)
first_more e es None h =
    (has_first e es, λ f c. elim (has_cases e f es c) [ inl same ↦ subst (λ (x : Event). AtMost e x) same (at_most_self e) | inr d ↦ absurd (h f d) ])
first_more e es (Some m) h = by_case (is_earlier e m) refl
  where
    by_case : (t : Bool) → is_earlier e m ≡ t → IsFirst (e ∷ es) (if t then e else m)
    by_case true q = (
      has_first e es,
      λ f c. elim (has_cases e f es c) [
        | inl same ↦ subst (λ (x : Event). AtMost e x) same (at_most_self e)
        | inr d ↦ at_most_then e m f (earlier_true e m q) (h.1 f d)
      ],
    )
    by_case false q = (
      has_more e m es h.0,
      λ f c. elim (has_cases e f es c) [
        | inl same ↦ subst (λ (x : Event). AtMost m x) same (earlier_false e m q)
        | inr d ↦ h.1 f d
      ],
    )

next_is : (es : List Event) → IsNext es (next es)
next_is [] = λ f c. has_none f c
next_is (e ∷ es) = first_more e es (next es) (next_is es)

-- where orders are events' own, the first is the next
pub first_next : (n : ℕ) (es : List Event) (e : Event) → Falls n es → IsFirst es e → next es ≡ Some e
first_next n es e falls first = by_next (next es) refl (next_is es)
  where
    least : (m : Event) → IsFirst es m → AtMost e m → AtMost m e → m ≡ e
    least m h (inl a) (inl b) = absurd (omega (arith, a, b))
    least m h (inl a) (inr b) = absurd (omega (arith, a, b.0))
    least m h (inr a) (inl b) = absurd (omega (arith, a.0, b))
    least m h (inr a) (inr b) = same_order n es m e falls h.0 first.0 (omega (arith, a.1, b.1))

    by_next : (o : Option Event) → next es ≡ o → IsNext es o → o ≡ Some e
    by_next None q h = absurd (h e first.0)
    by_next (Some m) q h = ap Some (least m h (first.1 m h.0) (h.1 e first.0))

pub nothing_next : (es : List Event) → ((f : Event) → Contains es f → ⊥) → next es ≡ None
nothing_next [] h = refl
nothing_next (e ∷ es) h = absurd (h e (has_first e es))

pub next_none : (es : List Event) → next es ≡ None → (f : Event) → Contains es f → ⊥
next_none es h = subst (IsNext es) h (next_is es)

pub next_first : (es : List Event) (e : Event) → next es ≡ Some e → Contains es e
next_first es e h = here (subst (IsNext es) h (next_is es))
  where
    here : IsFirst es e → Contains es e
    here f = f.0
