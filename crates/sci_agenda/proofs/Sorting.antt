-- A list in the order of dates is known by its events of each date.
use Rattle.std.proofs.Common.{◌≡◌, ◌≢◌, ◌<◌, ◌≤◌, ◌==◌, inl, inr, nat_lt, ℕ, true, false, List, [], ◌∷◌, ◌++◌, if◌then◌else◌, refl, sym, ◌∙◌, ap, subst, arith, append-nil}
use Rattle.std.proofs.lemmas.Bool.Decides.{nat_tests}
use Rattle.sci_links.proofs.TestLemmas.{by_cases, when, unless, known, eq_true, eq_false, same, differ}
use Rattle.sci_agenda.specs.Firing.{put_behind, without}
use Rattle.sci_agenda.specs.Wheel.{put_front, sorted, at_date}

abbrev pub Event : Type 0
Event = ℕ × ℕ

abbrev pub AllFrom : ℕ → List Event → Type 0
AllFrom n [] = Unit {0}
AllFrom n (e ∷ es) = (n ≤ e.0) × AllFrom n es

abbrev pub Sorted : List Event → Type 0
Sorted [] = Unit {0}
Sorted (e ∷ es) = AllFrom e.0 es × Sorted es

pub lower : (m n : ℕ) (es : List Event) → m ≤ n → AllFrom n es → AllFrom m es
lower m n [] h a = tt
lower m n (e ∷ es) h a = (let b = a.0 in omega arith, lower m n es h a.1)

not_less : (a b : ℕ) → nat_lt a b ≡ false → b ≤ a
not_less a b h = grind (arith, nat_tests)

less : (a b : ℕ) → nat_lt a b ≡ true → a < b
less a b h = grind (arith, nat_tests)

from-put_front : (n : ℕ) (e : Event) (xs : List Event) → n ≤ e.0 → AllFrom n xs → AllFrom n (put_front e xs)
from-put_front n e [] h a = (h, tt)
from-put_front n e (x ∷ xs) h a = by_cases (nat_lt x.0 e.0) (AllFrom n) (x ∷ put_front e xs) (e ∷ x ∷ xs)
    (λ _. (a.0, from-put_front n e xs h a.1)) (λ _. (h, a))

pub Sorted-put_front : (e : Event) (xs : List Event) → Sorted xs → Sorted (put_front e xs)
Sorted-put_front e [] s = (tt, tt)
Sorted-put_front e (x ∷ xs) s = by_cases (nat_lt x.0 e.0) Sorted (x ∷ put_front e xs) (e ∷ x ∷ xs)
    (λ t. (from-put_front x.0 e xs (let h = less x.0 e.0 t in omega arith) s.0, Sorted-put_front e xs s.1))
    (λ t. ((not_less x.0 e.0 t, lower e.0 x.0 xs (not_less x.0 e.0 t) s.0), s))

pub Sorted-sorted : (es : List Event) → Sorted (sorted es)
Sorted-sorted [] = tt
Sorted-sorted (e ∷ es) = Sorted-put_front e (sorted es) (Sorted-sorted es)

pub from-sorted : (n : ℕ) (es : List Event) → AllFrom n es → AllFrom n (sorted es)
from-sorted n [] a = tt
from-sorted n (e ∷ es) a = from-put_front n e (sorted es) a.0 (from-sorted n es a.1)

from-put_behind : (n : ℕ) (e : Event) (xs : List Event) → n ≤ e.0 → AllFrom n xs → AllFrom n (put_behind e xs)
from-put_behind n e [] h a = (h, tt)
from-put_behind n e (x ∷ xs) h a = by_cases (nat_lt e.0 x.0) (AllFrom n) (e ∷ x ∷ xs) (x ∷ put_behind e xs)
    (λ _. (h, a)) (λ _. (a.0, from-put_behind n e xs h a.1))

pub Sorted-put_behind : (e : Event) (xs : List Event) → Sorted xs → Sorted (put_behind e xs)
Sorted-put_behind e [] s = (tt, tt)
Sorted-put_behind e (x ∷ xs) s = by_cases (nat_lt e.0 x.0) Sorted (e ∷ x ∷ xs) (x ∷ put_behind e xs)
    (λ t. let h : e.0 ≤ x.0 = (let g = less e.0 x.0 t in omega arith) in ((h, lower e.0 x.0 xs h s.0), s))
    (λ t. (from-put_behind x.0 e xs (not_less e.0 x.0 t) s.0, Sorted-put_behind e xs s.1))

from-without : (n s : ℕ) (xs : List Event) → AllFrom n xs → AllFrom n (without s xs)
from-without n s [] a = tt
from-without n s (x ∷ xs) a = by_cases (s == x.1) (AllFrom n) xs (x ∷ without s xs) (λ _. a.1) (λ _. (a.0, from-without n s xs a.1))

pub Sorted-without : (s : ℕ) (xs : List Event) → Sorted xs → Sorted (without s xs)
Sorted-without s [] h = tt
Sorted-without s (x ∷ xs) h = by_cases (s == x.1) Sorted xs (x ∷ without s xs) (λ _. h.1) (λ _. (from-without x.0 s xs h.0, Sorted-without s xs h.1))

pub at-append : (d : ℕ) (xs ys : List Event) → at_date d (xs ++ ys) ≡ at_date d xs ++ at_date d ys
at-append d [] ys = refl
at-append d (x ∷ xs) ys = by_cases (x.0 == d) (λ l. (if x.0 == d then x ∷ at_date d (xs ++ ys) else at_date d (xs ++ ys)) ≡ l ++ at_date d ys) (x ∷ at_date d xs) (at_date d xs)
    (λ t. when (x.0 == d) (x ∷ at_date d (xs ++ ys)) (at_date d (xs ++ ys)) t ∙ ap (λ (l : List Event). x ∷ l) (at-append d xs ys))
    (λ t. unless (x.0 == d) (x ∷ at_date d (xs ++ ys)) (at_date d (xs ++ ys)) t ∙ at-append d xs ys)

pub at_here : (d : ℕ) (e : Event) (es : List Event) → e.0 ≡ d → at_date d (e ∷ es) ≡ e ∷ at_date d es
at_here d e es h = when (e.0 == d) (e ∷ at_date d es) (at_date d es) (same e.0 d h)

pub at_other : (d : ℕ) (e : Event) (es : List Event) → e.0 ≢ d → at_date d (e ∷ es) ≡ at_date d es
at_other d e es h = unless (e.0 == d) (e ∷ at_date d es) (at_date d es) (differ e.0 d h)

pub at_none : (d n : ℕ) (es : List Event) → AllFrom n es → d < n → at_date d es ≡ []
at_none d n [] a h = refl
at_none d n (e ∷ es) a h = at_other d e es (λ w. let b = a.0 in absurd (omega arith)) ∙ at_none d n es a.1 h

at-put_front : (d : ℕ) (e : Event) (xs : List Event) → at_date d (put_front e xs) ≡ at_date d (e ∷ xs)
at-put_front d e [] = refl
at-put_front d e (x ∷ xs) = by_cases (nat_lt x.0 e.0) (λ l. at_date d l ≡ at_date d (e ∷ x ∷ xs)) (x ∷ put_front e xs) (e ∷ x ∷ xs)
    (λ t. elim (known (x.0 == d)) [
      | inl u ↦ (let q : x.0 ≡ d = eq_true x.0 d u in let ne : e.0 ≢ d = λ w. (let h = less x.0 e.0 t in absurd (omega arith)) in
          at_here d x (put_front e xs) q ∙ (ap (λ (l : List Event). x ∷ l) (at-put_front d e xs ∙ at_other d e xs ne)
          ∙ sym (at_other d e (x ∷ xs) ne ∙ at_here d x xs q)))
      | inr u ↦ (let ne : x.0 ≢ d = eq_false x.0 d u in
          at_other d x (put_front e xs) ne ∙ (at-put_front d e xs ∙ ap (λ (l : List Event). if e.0 == d then e ∷ l else l) (sym (at_other d x xs ne))))
    ])
    (λ _. refl)

pub at-sorted : (d : ℕ) (es : List Event) → at_date d (sorted es) ≡ at_date d es
at-sorted d [] = refl
at-sorted d (e ∷ es) = at-put_front d e (sorted es) ∙ ap (λ (l : List Event). if e.0 == d then e ∷ l else l) (at-sorted d es)

pub at-put_behind : (d : ℕ) (e : Event) (xs : List Event) → Sorted xs → at_date d (put_behind e xs) ≡ at_date d xs ++ at_date d (e ∷ [])
at-put_behind d e [] s = refl
at-put_behind d e (x ∷ xs) s = by_cases (nat_lt e.0 x.0) (λ l. at_date d l ≡ at_date d (x ∷ xs) ++ at_date d (e ∷ [])) (e ∷ x ∷ xs) (x ∷ put_behind e xs)
    (λ t. elim (known (e.0 == d)) [
      | inl u ↦ (let q : e.0 ≡ d = eq_true e.0 d u in
          let none : at_date d (x ∷ xs) ≡ [] = (let h = less e.0 x.0 t in at_none d x.0 (x ∷ xs) (omega arith, s.0) (omega arith)) in
          at_here d e (x ∷ xs) q ∙ (ap (λ (l : List Event). e ∷ l) none ∙ (sym (at_here d e [] q) ∙ ap (λ (l : List Event). l ++ at_date d (e ∷ [])) (sym none))))
      | inr u ↦ (let ne : e.0 ≢ d = eq_false e.0 d u in
          at_other d e (x ∷ xs) ne ∙ sym (ap (λ (l : List Event). at_date d (x ∷ xs) ++ l) (at_other d e [] ne) ∙ append-nil (at_date d (x ∷ xs))))
    ])
    (λ _. by_cases (x.0 == d) (λ l. at_date d (x ∷ put_behind e xs) ≡ l ++ at_date d (e ∷ [])) (x ∷ at_date d xs) (at_date d xs)
    (λ t. when (x.0 == d) (x ∷ at_date d (put_behind e xs)) (at_date d (put_behind e xs)) t ∙ ap (λ (l : List Event). x ∷ l) (at-put_behind d e xs s.1))
    (λ t. unless (x.0 == d) (x ∷ at_date d (put_behind e xs)) (at_date d (put_behind e xs)) t ∙ at-put_behind d e xs s.1))

-- the two begin alike
heads : (x y : Event) (xs ys : List Event) → Sorted (x ∷ xs) → Sorted (y ∷ ys) → ((d : ℕ) → at_date d (x ∷ xs) ≡ at_date d (y ∷ ys)) → y.0 ≤ x.0
heads x y xs ys sx sy h = elim (known (nat_lt x.0 y.0)) [
  | inl t ↦ (let lt = less x.0 y.0 t in
      let none : at_date x.0 (y ∷ ys) ≡ [] = at_none x.0 y.0 (y ∷ ys) (omega arith, sy.0) lt in
      let some : x ∷ at_date x.0 xs ≡ [] = sym (at_here x.0 x xs refl) ∙ (h x.0 ∙ none) in absurd_cons x (at_date x.0 xs) some)
  | inr t ↦ not_less x.0 y.0 t
]
  where
    absurd_cons : {P : Type 0} (x : Event) (xs : List Event) → x ∷ xs ≡ [] → P
    absurd_cons x xs e = let f : true ≡ false = cc in absurd (cc)

pub same_sorted : (xs ys : List Event) → Sorted xs → Sorted ys → ((d : ℕ) → at_date d xs ≡ at_date d ys) → xs ≡ ys
same_sorted [] [] sx sy h = refl
same_sorted [] (y ∷ ys) sx sy h = let e : [] ≡ y ∷ at_date y.0 ys = h y.0 ∙ at_here y.0 y ys refl in absurd (cc)
same_sorted (x ∷ xs) [] sx sy h = let e : [] ≡ x ∷ at_date x.0 xs = sym (h x.0) ∙ at_here x.0 x xs refl in absurd (cc)
same_sorted (x ∷ xs) (y ∷ ys) sx sy h =
    let a = heads x y xs ys sx sy h in
    let b = heads y x ys xs sy sx (λ d. sym (h d)) in
    let dates : y.0 ≡ x.0 = omega arith in
    let here : x ∷ at_date x.0 xs ≡ y ∷ at_date x.0 ys = sym (at_here x.0 x xs refl) ∙ (h x.0 ∙ at_here x.0 y ys dates) in
    let one : x ≡ y = cc in
    let more : at_date x.0 xs ≡ at_date x.0 ys = cc in
    let tail : xs ≡ ys = same_sorted xs ys sx.1 sy.1 (λ d. elim (known (x.0 == d)) [
      | inl t ↦ subst (λ (v : ℕ). at_date v xs ≡ at_date v ys) (eq_true x.0 d t) more
      | inr t ↦ (let ne : x.0 ≢ d = eq_false x.0 d t in
          sym (at_other d x xs ne) ∙ (h d ∙ at_other d y ys (λ w. ne (sym dates ∙ w))))
    ]) in
    ap (λ (v : Event). v ∷ xs) one ∙ ap (λ (l : List Event). y ∷ l) tail

-- an event of source s has the date n
abbrev pub Dated : ℕ → ℕ → List Event → Type 0
Dated s n [] = Unit {0}
Dated s n (e ∷ es) = (s ≡ e.1 → e.0 ≡ n) × Dated s n es

Dated-put_front : (s n : ℕ) (e : Event) (xs : List Event) → (s ≡ e.1 → e.0 ≡ n) → Dated s n xs → Dated s n (put_front e xs)
Dated-put_front s n e [] h a = (h, tt)
Dated-put_front s n e (x ∷ xs) h a = by_cases (nat_lt x.0 e.0) (Dated s n) (x ∷ put_front e xs) (e ∷ x ∷ xs)
    (λ _. (a.0, Dated-put_front s n e xs h a.1)) (λ _. (h, a))

pub Dated-sorted : (s n : ℕ) (es : List Event) → Dated s n es → Dated s n (sorted es)
Dated-sorted s n [] a = tt
Dated-sorted s n (e ∷ es) a = Dated-put_front s n e (sorted es) a.0 (Dated-sorted s n es a.1)

absent_at : (d s n : ℕ) (es : List Event) → Dated s n es → n ≢ d → without s (at_date d es) ≡ at_date d es
absent_at d s n [] a ne = refl
absent_at d s n (e ∷ es) a ne = by_cases (e.0 == d) (λ l. without s l ≡ l) (e ∷ at_date d es) (at_date d es)
    (λ t. let q : e.0 ≡ d = eq_true e.0 d t in
    let no : s ≢ e.1 = λ w. ne (sym (a.0 w) ∙ q) in
    unless (s == e.1) (at_date d es) (e ∷ without s (at_date d es)) (differ s e.1 no) ∙ ap (λ (l : List Event). e ∷ l) (absent_at d s n es a.1 ne))
    (λ t. absent_at d s n es a.1 ne)

pub at-without : (d s n : ℕ) (es : List Event) → Dated s n es → at_date d (without s es) ≡ without s (at_date d es)
at-without d s n [] a = refl
at-without d s n (e ∷ es) a = elim (known (s == e.1)) [
  | inl t ↦ (let q : s ≡ e.1 = eq_true s e.1 t in let en : e.0 ≡ n = a.0 q in
      ap (at_date d) (when (s == e.1) es (e ∷ without s es) t)
      ∙ elim (known (e.0 == d)) [
        | inl u ↦ sym (ap (without s) (at_here d e es (eq_true e.0 d u)) ∙ when (s == e.1) (at_date d es) (e ∷ without s (at_date d es)) t)
        | inr u ↦ (let ne : e.0 ≢ d = eq_false e.0 d u in sym (ap (without s) (at_other d e es ne) ∙ absent_at d s n es a.1 (λ w. ne (en ∙ w))))
      ])
  | inr t ↦ ap (at_date d) (unless (s == e.1) es (e ∷ without s es) t)
      ∙ elim (known (e.0 == d)) [
        | inl u ↦ (let q : e.0 ≡ d = eq_true e.0 d u in
            at_here d e (without s es) q ∙ (ap (λ (l : List Event). e ∷ l) (at-without d s n es a.1)
            ∙ sym (ap (without s) (at_here d e es q) ∙ unless (s == e.1) (at_date d es) (e ∷ without s (at_date d es)) t)))
        | inr u ↦ (let ne : e.0 ≢ d = eq_false e.0 d u in
            at_other d e (without s es) ne ∙ (at-without d s n es a.1 ∙ sym (ap (without s) (at_other d e es ne))))
      ]
]
