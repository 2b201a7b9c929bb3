-- A chain in the order of firing.
use Rattle.std.proofs.Common.{◌≡◌, ◌≢◌, ◌<◌, ◌≤◌, ◌+◌, ◌==◌, ◌||◌, inl, inr, nat_lt, ℕ, Bool, true, false, List, [], ◌∷◌, ◌++◌, length, Option, Some, None, if◌then◌else◌, refl, sym, ◌∙◌, ap, arith, get_or-set_other, set}
use Rattle.std.proofs.lemmas.Bool.Decides.{nat_tests}
use Rattle.sci_links.specs.Table.{Distinct, has, behind, put_before, without as without_node, first as first_node, rest}
use Rattle.sci_links.proofs.TestLemmas.{by_cases, when, unless, known, eq_true, eq_false, same, differ, has_here, has_there, has_cases, apart}
use Rattle.sci_agenda.specs.Firing.{put_behind, is_pending, without}
use Rattle.sci_agenda.specs.Chained.{date_at, events_of, first_later, from_node, from}

-- dates of other nodes don't matter
pub events_same : (ds es : List ℕ) (xs : List ℕ) → ((x : ℕ) → has x xs ≡ true → date_at ds x ≡ date_at es x) → events_of ds xs ≡ events_of es xs
events_same ds es [] f = refl
events_same ds es (x ∷ xs) f =
    ap (λ (d : ℕ). (d, x + 1) ∷ events_of ds xs) (f x (has_here x x xs refl))
    ∙ ap (λ (l : List (ℕ × ℕ)). (date_at es x, x + 1) ∷ l) (events_same ds es xs (λ z h. f z (has_there z x xs h)))

pub events_set : (ds : List ℕ) (x d : ℕ) (xs : List ℕ) → has x xs ≡ false → events_of (set ds x d) xs ≡ events_of ds xs
events_set ds x d xs h = events_same (set ds x d) ds xs (λ z k. get_or-set_other ds x z d 0 (apart z x xs k h))

pub events_push : (ds xs ys : List ℕ) → events_of ds (xs ++ ys) ≡ events_of ds xs ++ events_of ds ys
events_push ds [] ys = refl
events_push ds (x ∷ xs) ys = ap (λ (l : List (ℕ × ℕ)). (date_at ds x, x + 1) ∷ l) (events_push ds xs ys)

later_in : (ds : List ℕ) (d at : ℕ) (xs : List ℕ) → first_later ds d xs ≡ Some at → has at xs ≡ true
later_in ds d at [] h = absurd (cc)
later_in ds d at (x ∷ xs) h = (by_cases (nat_lt d (date_at ds x)) (λ o. o ≡ Some at → has at (x ∷ xs) ≡ true) (Some x) (first_later ds d xs)
    (λ _ e. let f : at ≡ x = cc in has_here at x xs f)
    (λ _ e. has_there at x xs (later_in ds d at xs e))) h

pub later_has : (ds : List ℕ) (d at : ℕ) (xs : List ℕ) → first_later ds d xs ≡ Some at → has at xs ≡ true
later_has ds d at xs h = later_in ds d at xs h

-- the events with a new one behind all of the same or a lesser date
pub put_none : (ds : List ℕ) (d x : ℕ) (xs : List ℕ) → first_later ds d xs ≡ None → date_at ds x ≡ d → events_of ds (xs ++ x ∷ []) ≡ put_behind (d, x + 1) (events_of ds xs)
put_none ds d x [] h e = ap (λ (v : ℕ). (v, x + 1) ∷ []) e
put_none ds d x (y ∷ ys) h e = elim (known (nat_lt d (date_at ds y))) [
  | inl t ↦ (let f : Some y ≡ None = sym (when (nat_lt d (date_at ds y)) (Some y) (first_later ds d ys) t) ∙ h in absurd (cc))
  | inr t ↦ (let f : first_later ds d ys ≡ None = sym (unless (nat_lt d (date_at ds y)) (Some y) (first_later ds d ys) t) ∙ h in
      ap (λ (l : List (ℕ × ℕ)). (date_at ds y, y + 1) ∷ l) (put_none ds d x ys f e)
      ∙ sym (unless (nat_lt d (date_at ds y)) ((d, x + 1) ∷ (date_at ds y, y + 1) ∷ events_of ds ys) ((date_at ds y, y + 1) ∷ put_behind (d, x + 1) (events_of ds ys)) t))
]

pub put_some : (ds : List ℕ) (d x at : ℕ) (xs : List ℕ) → Distinct xs → first_later ds d xs ≡ Some at → date_at ds x ≡ d → events_of ds (put_before at x xs) ≡ put_behind (d, x + 1) (events_of ds xs)
put_some ds d x at [] u h e = absurd (cc)
put_some ds d x at (y ∷ ys) u h e = elim (known (nat_lt d (date_at ds y))) [
  | inl t ↦ (let f : Some y ≡ Some at = sym (when (nat_lt d (date_at ds y)) (Some y) (first_later ds d ys) t) ∙ h in
      let g : at ≡ y = cc in
      ap (events_of ds) (when (at == y) (x ∷ y ∷ ys) (y ∷ put_before at x ys) (same at y g))
      ∙ (ap (λ (v : ℕ). (v, x + 1) ∷ (date_at ds y, y + 1) ∷ events_of ds ys) e
      ∙ sym (when (nat_lt d (date_at ds y)) ((d, x + 1) ∷ (date_at ds y, y + 1) ∷ events_of ds ys) ((date_at ds y, y + 1) ∷ put_behind (d, x + 1) (events_of ds ys)) t)))
  | inr t ↦ (let f : first_later ds d ys ≡ Some at = sym (unless (nat_lt d (date_at ds y)) (Some y) (first_later ds d ys) t) ∙ h in
      let g : at ≢ y = apart at y ys (later_in ds d at ys f) u.0 in
      ap (events_of ds) (unless (at == y) (x ∷ y ∷ ys) (y ∷ put_before at x ys) (differ at y g))
      ∙ (ap (λ (l : List (ℕ × ℕ)). (date_at ds y, y + 1) ∷ l) (put_some ds d x at ys u.1 f e)
      ∙ sym (unless (nat_lt d (date_at ds y)) ((d, x + 1) ∷ (date_at ds y, y + 1) ∷ events_of ds ys) ((date_at ds y, y + 1) ∷ put_behind (d, x + 1) (events_of ds ys)) t)))
]

pub pending_is : (ds xs : List ℕ) (x : ℕ) → is_pending (x + 1) (events_of ds xs) ≡ has x xs
pending_is ds [] x = refl
pending_is ds (y ∷ ys) x =
    let e : ((x + 1) == (y + 1)) ≡ (x == y) = grind (arith, nat_tests) in
    ap (λ (b : Bool). b || is_pending (x + 1) (events_of ds ys)) e ∙ ap (λ (b : Bool). (x == y) || b) (pending_is ds ys x)

pub without_is : (ds xs : List ℕ) (x : ℕ) → without (x + 1) (events_of ds xs) ≡ events_of ds (without_node x xs)
without_is ds [] x = refl
without_is ds (y ∷ ys) x =
    let e : ((x + 1) == (y + 1)) ≡ (x == y) = grind (arith, nat_tests) in
    ap (λ (b : Bool). if b then events_of ds ys else (date_at ds y, y + 1) ∷ without (x + 1) (events_of ds ys)) e
    ∙ (by_cases (x == y) (λ l. (if (x == y) then events_of ds ys else (date_at ds y, y + 1) ∷ without (x + 1) (events_of ds ys)) ≡ events_of ds l) ys (y ∷ without_node x ys)
    (λ t. when (x == y) (events_of ds ys) ((date_at ds y, y + 1) ∷ without (x + 1) (events_of ds ys)) t)
    (λ t. unless (x == y) (events_of ds ys) ((date_at ds y, y + 1) ∷ without (x + 1) (events_of ds ys)) t ∙ ap (λ (l : List (ℕ × ℕ)). (date_at ds y, y + 1) ∷ l) (without_is ds ys x)))

-- going on along the chain
pub from_first : (xs : List ℕ) → from (first_node xs) xs ≡ xs
from_first [] = refl
from_first (x ∷ xs) = when (x == x) (x ∷ xs) (from_node x xs) (same x x refl)

from_behind_cons : (y x : ℕ) (ys : List ℕ) (o : Option ℕ) → ((z : ℕ) → o ≡ Some z → has z ys ≡ true) → has y ys ≡ false → from o (y ∷ ys) ≡ from o ys
from_behind_cons y x ys None f u = refl
from_behind_cons y x ys (Some z) f u = unless (z == y) (y ∷ ys) (from_node z ys) (differ z y (apart z y ys (f z refl) u))

pub first_in : (z : ℕ) (ys : List ℕ) → first_node ys ≡ Some z → has z ys ≡ true
first_in z [] e = absurd (cc)
first_in z (y ∷ ys) e = let f : z ≡ y = cc in has_here z y ys f

pub behind_in : (x z : ℕ) (ys : List ℕ) → behind x ys ≡ Some z → has z ys ≡ true
behind_in x z [] e = absurd (cc)
behind_in x z (y ∷ ys) e = (by_cases (x == y) (λ o. o ≡ Some z → has z (y ∷ ys) ≡ true) (first_node ys) (behind x ys)
    (λ _ h. has_there z y ys (first_in z ys h)) (λ _ h. has_there z y ys (behind_in x z ys h))) e

pub from_behind : (x : ℕ) (xs : List ℕ) → Distinct xs → from (behind x xs) xs ≡ rest (from_node x xs)
from_behind x [] d = refl
from_behind x (y ∷ ys) d = elim (known (x == y)) [
  | inl t ↦ ap (λ (o : Option ℕ). from o (y ∷ ys)) (when (x == y) (first_node ys) (behind x ys) t)
      ∙ (from_behind_cons y x ys (first_node ys) (λ z e. first_in z ys e) d.0 ∙ (from_first ys
      ∙ sym (ap rest (when (x == y) (y ∷ ys) (from_node x ys) t))))
  | inr t ↦ ap (λ (o : Option ℕ). from o (y ∷ ys)) (unless (x == y) (first_node ys) (behind x ys) t)
      ∙ (from_behind_cons y x ys (behind x ys) (λ z e. behind_in x z ys e) d.0 ∙ (from_behind x ys d.1
      ∙ sym (ap rest (unless (x == y) (y ∷ ys) (from_node x ys) t))))
]

-- what `from` gives begins with its node
pub from_here : (x : ℕ) (xs : List ℕ) → has x xs ≡ true → from_node x xs ≡ x ∷ rest (from_node x xs)
from_here x [] h = absurd (cc)
from_here x (y ∷ ys) h = by_cases (x == y) (λ l. l ≡ x ∷ rest l) (y ∷ ys) (from_node x ys)
    (λ t. ap (λ (v : ℕ). v ∷ ys) (sym (eq_true x y t)))
    (λ t. from_here x ys (elim (has_cases x y ys h) [ inl e ↦ absurd (eq_false x y t e) | inr k ↦ k ]))

pub step_found : (ds : List ℕ) (d x : ℕ) (xs : List ℕ) → has x xs ≡ true → d < date_at ds x → first_later ds d (from_node x xs) ≡ Some x
step_found ds d x xs h lt =
    let t : nat_lt d (date_at ds x) ≡ true = grind (arith, nat_tests) in
    ap (first_later ds d) (from_here x xs h) ∙ when (nat_lt d (date_at ds x)) (Some x) (first_later ds d (rest (from_node x xs))) t

pub step_on : (ds : List ℕ) (d x : ℕ) (xs : List ℕ) → Distinct xs → has x xs ≡ true → date_at ds x ≤ d → first_later ds d (from_node x xs) ≡ first_later ds d (from (behind x xs) xs)
step_on ds d x xs u h ge =
    let t : nat_lt d (date_at ds x) ≡ false = grind (arith, nat_tests) in
    ap (first_later ds d) (from_here x xs h) ∙ (unless (nat_lt d (date_at ds x)) (Some x) (first_later ds d (rest (from_node x xs))) t
    ∙ ap (first_later ds d) (sym (from_behind x xs u)))

pub step_smaller : (x : ℕ) (xs : List ℕ) → Distinct xs → has x xs ≡ true → length (from (behind x xs) xs) < length (from_node x xs)
step_smaller x xs u h = omega (arith, ap length (from_behind x xs u), ap length (from_here x xs h))
