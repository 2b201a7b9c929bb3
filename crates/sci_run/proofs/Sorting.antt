-- What is pending, in the order in which it fires.
use Rattle.std.proofs.Common.{◌≡◌, ◌<◌, ◌≤◌, ◌==◌, nat_lt, not, ℕ, Bool, true, false, List, [], ◌∷◌, map, Option, Some, None, if◌then◌else◌, filter, ⊎_elim, refl, sym, ◌∙◌, ap, subst, arith}
use Rattle.std.proofs.lemmas.Bool.{cases_Bool}
use Rattle.std.proofs.lemmas.Bool.Decides.{nat_tests}
use Rattle.sci_pending.specs.Pending.{Event, Pending, is_earlier, earlier, next, without, programmed, without_source, replaced}
use Rattle.sci_pending.specs.Order.{Falls, put_sorted, sorted, due, in_order}
use Rattle.sci_run.proofs.Ordered.{by_cases, falls_kept}

abbrev pub put_behind : ℕ × ℕ → List (ℕ × ℕ) → List (ℕ × ℕ)
put_behind e [] = e ∷ []
put_behind e (x ∷ xs) = if nat_lt e.0 x.0 then e ∷ x ∷ xs else x ∷ put_behind e xs

abbrev pub AllBelow : ℕ → List Event → Type 0
AllBelow n [] = Unit {0}
AllBelow n (e ∷ es) = (e.order < n) × AllBelow n es

below_more : (m n : ℕ) (es : List Event) → m ≤ n → AllBelow m es → AllBelow n es
below_more m n [] h b = tt
below_more m n (e ∷ es) h b = (omega arith, below_more m n es h b.1)

pub falls_below : (n : ℕ) (es : List Event) → Falls n es → AllBelow n es
falls_below n [] f = tt
falls_below n (e ∷ es) f = (f.0, below_more e.order n es (omega arith) (falls_below e.order es f.1))

below_place : (n : ℕ) (e : Event) (xs : List Event) → e.order < n → AllBelow n xs → AllBelow n (put_sorted e xs)
below_place n e [] h b = (h, tt)
below_place n e (x ∷ xs) h b = by_cases (is_earlier e x) (AllBelow n) (e ∷ x ∷ xs) (x ∷ put_sorted e xs) (λ _. (h, b)) (λ _. (b.0, below_place n e xs h b.1))

below_sorted : (n : ℕ) (es : List Event) → AllBelow n es → AllBelow n (sorted es)
below_sorted n [] b = tt
below_sorted n (e ∷ es) b = below_place n e (sorted es) b.0 (below_sorted n es b.1)

-- the next event is the first in order
first : List Event → Option Event
first [] = None
first (x ∷ xs) = Some x

first-put_sorted : (e : Event) (xs : List Event) → first (put_sorted e xs) ≡ Some (earlier e (first xs))
unfolding first
first-put_sorted e [] = refl
first-put_sorted e (x ∷ xs) = by_cases (is_earlier e x) (λ l. first l ≡ Some (if is_earlier e x then e else x)) (e ∷ x ∷ xs) (x ∷ put_sorted e xs)
    (λ t. ap (λ b. Some (if b then e else x)) (sym t)) (λ t. ap (λ b. Some (if b then e else x)) (sym t))

next_is_first : (es : List Event) → next es ≡ first (sorted es)
unfolding first
next_is_first [] = refl
next_is_first (e ∷ es) = ap (λ o. Some (earlier e o)) (next_is_first es) ∙ sym (first-put_sorted e (sorted es))

-- what is left in order without the first
without_absent : (n : ℕ) (es : List Event) → AllBelow n es → without n es ≡ es
without_absent n [] b = refl
without_absent n (e ∷ es) b =
    let other : not (e.order == n) ≡ true = grind (arith, nat_tests) in
    let rest = without_absent n es b.1 in
    ap (λ (t : Bool). if t then e ∷ without n es else without n es) other ∙ ap (λ (l : List Event). e ∷ l) rest

without_same : (e : Event) (es : List Event) → without e.order (e ∷ es) ≡ without e.order es
without_same e es =
    let same : not (e.order == e.order) ≡ false = grind (arith, nat_tests) in
    ap (λ (t : Bool). if t then e ∷ without e.order es else without e.order es) same

without_other : (n : ℕ) (e : Event) (es : List Event) → n < e.order → without n (e ∷ es) ≡ e ∷ without n es
without_other n e es h =
    let other : not (e.order == n) ≡ true = grind (arith, nat_tests) in
    ap (λ (t : Bool). if t then e ∷ without n es else without n es) other

rest_step : (e : Event) (es s : List Event) → sorted es ≡ s → AllBelow e.order es → AllBelow e.order s
    → ((x : Event) (xs : List Event) → s ≡ x ∷ xs → sorted (without x.order es) ≡ xs)
    → (x : Event) (xs : List Event) → put_sorted e s ≡ x ∷ xs → sorted (without x.order (e ∷ es)) ≡ xs
rest_step e es [] is below low rest x xs h =
    let same : e ≡ x = cc in
    let none : [] ≡ xs = cc in
    subst (λ (v : Event). sorted (without v.order (e ∷ es)) ≡ xs) same
    (ap sorted (without_same e es ∙ without_absent e.order es below) ∙ (is ∙ none))
rest_step e es (y ∷ ys) is below low rest x xs h =
    (by_cases (is_earlier e y) (λ l. l ≡ x ∷ xs → sorted (without x.order (e ∷ es)) ≡ xs) (e ∷ y ∷ ys) (y ∷ put_sorted e ys)
    (λ _ here.
    let same : e ≡ x = cc in
    let left : y ∷ ys ≡ xs = cc in
    subst (λ (v : Event). sorted (without v.order (e ∷ es)) ≡ xs) same
    (ap sorted (without_same e es ∙ without_absent e.order es below) ∙ (is ∙ left)))
    (λ _ here.
    let same : y ≡ x = cc in
    let left : put_sorted e ys ≡ xs = cc in
    subst (λ (v : Event). sorted (without v.order (e ∷ es)) ≡ xs) same
    (ap sorted (without_other y.order e es low.0) ∙ (ap (put_sorted e) (rest y ys refl) ∙ left)))) h

rest_of : (n : ℕ) (es : List Event) → Falls n es → (x : Event) (xs : List Event) → sorted es ≡ x ∷ xs → sorted (without x.order es) ≡ xs
rest_of n [] f x xs h = absurd (cc)
rest_of n (e ∷ es) f x xs h =
    let below = falls_below e.order es f.1 in
    rest_step e es (sorted es) refl below (below_sorted e.order es below) (rest_of e.order es f.1) x xs h

-- an event of the greatest order goes behind all of its date
pick : (b : Bool) (e x : Event) (xs : List Event) → map due (put_sorted e xs) ≡ put_behind (due e) (map due xs)
    → map due (if b then e ∷ x ∷ xs else x ∷ put_sorted e xs) ≡ (if b then due e ∷ due x ∷ map due xs else due x ∷ put_behind (due e) (map due xs))
pick true e x xs h = refl
pick false e x xs h = ap (λ (l : List (ℕ × ℕ)). due x ∷ l) h

place_greatest : (e : Event) (xs : List Event) → AllBelow e.order xs → map due (put_sorted e xs) ≡ put_behind (due e) (map due xs)
place_greatest e [] b = refl
place_greatest e (x ∷ xs) b =
    let low : x.order < e.order = b.0 in
    let test : is_earlier e x ≡ nat_lt e.date x.date = grind (arith, nat_tests) in
    ap (λ (t : Bool). map due (if t then e ∷ x ∷ xs else x ∷ put_sorted e xs)) test
    ∙ pick (nat_lt e.date x.date) e x xs (place_greatest e xs b.1)

pub programmed_behind : (a : Pending) (date b : ℕ) → Falls a.programmed a.events
    → in_order (programmed a date b).events ≡ put_behind (date, b) (in_order a.events)
programmed_behind a date b f =
    place_greatest (record { date = date; order = a.programmed; source = b }) (sorted a.events)
    (below_sorted a.programmed a.events (falls_below a.programmed a.events f))

next_by : (n : ℕ) (es : List Event) (e : Event) → Falls n es → (s : List Event) → sorted es ≡ s → first s ≡ Some e → in_order es ≡ due e ∷ in_order (without e.order es)
unfolding first
next_by n es e f [] is h = absurd (cc)
next_by n es e f (x ∷ xs) is h =
    let same : x ≡ e = cc in
    let head : sorted es ≡ e ∷ xs = is ∙ ap (λ (v : Event). v ∷ xs) same in
    ap (map due) head ∙ ap (λ (l : List Event). due e ∷ map due l) (sym (rest_of n es f e xs head))

pub next_before : (n : ℕ) (es : List Event) (e : Event) → Falls n es → next es ≡ Some e → in_order es ≡ due e ∷ in_order (without e.order es)
next_before n es e f h = next_by n es e f (sorted es) refl (sym (next_is_first es) ∙ h)

none_by : (s : List Event) → first s ≡ None → map due s ≡ []
unfolding first
none_by [] h = refl
none_by (x ∷ xs) h = absurd (cc)

pub no_next : (es : List Event) → next es ≡ None → in_order es ≡ []
no_next es h = none_by (sorted es) (sym (next_is_first es) ∙ h)

-- ---- order

earlier_too : (e x y : Event) → is_earlier e x ≡ true → is_earlier y x ≡ false → is_earlier e y ≡ true
earlier_too e x y h g = grind (arith, nat_tests)

not_back : (e x : Event) → is_earlier e x ≡ true → is_earlier x e ≡ false
not_back e x h = grind (arith, nat_tests)

not_back_far : (e x y : Event) → is_earlier e x ≡ true → is_earlier y x ≡ false → is_earlier y e ≡ false
not_back_far e x y h g = grind (arith, nat_tests)

-- none is earlier than x
From : Event → List Event → Type 0
From x [] = Unit {0}
From x (y ∷ ys) = (is_earlier y x ≡ false) × From x ys

InOrder : List Event → Type 0
InOrder [] = Unit {0}
InOrder (x ∷ xs) = From x xs × InOrder xs

from_before : (e x : Event) (ys : List Event) → is_earlier e x ≡ true → From x ys → From e ys
unfolding From
from_before e x [] h f = tt
from_before e x (y ∷ ys) h f = (not_back_far e x y h f.0, from_before e x ys h f.1)

from_put : (x e : Event) (ys : List Event) → is_earlier e x ≡ false → From x ys → From x (put_sorted e ys)
unfolding From
from_put x e [] h f = (h, tt)
from_put x e (y ∷ ys) h f =
    by_cases (is_earlier e y) (From x) (e ∷ y ∷ ys) (y ∷ put_sorted e ys) (λ _. (h, f)) (λ _. (f.0, from_put x e ys h f.1))

put_in_order : (e : Event) (xs : List Event) → InOrder xs → InOrder (put_sorted e xs)
unfolding InOrder From
put_in_order e [] o = (tt, tt)
put_in_order e (x ∷ xs) o =
    by_cases (is_earlier e x) InOrder (e ∷ x ∷ xs) (x ∷ put_sorted e xs)
    (λ h. ((not_back e x h, from_before e x xs h o.0), o))
    (λ h. (from_put x e xs h o.0, put_in_order e xs o.1))

sorted_in_order : (es : List Event) → InOrder (sorted es)
unfolding InOrder
sorted_in_order [] = tt
sorted_in_order (e ∷ es) = put_in_order e (sorted es) (sorted_in_order es)

-- ---- the events of the other sources

kept : (s : ℕ) (x : Event) (xs : List Event) → (x.source == s) ≡ false → without_source s (x ∷ xs) ≡ x ∷ without_source s xs
kept s x xs h = ap (λ (t : Bool). if not t then x ∷ without_source s xs else without_source s xs) h

left_out : (s : ℕ) (x : Event) (xs : List Event) → (x.source == s) ≡ true → without_source s (x ∷ xs) ≡ without_source s xs
left_out s x xs h = ap (λ (t : Bool). if not t then x ∷ without_source s xs else without_source s xs) h

from_without : (s : ℕ) (x : Event) (ys : List Event) → From x ys → From x (without_source s ys)
unfolding From
from_without s x [] f = tt
from_without s x (y ∷ ys) f =
    by_cases (not (y.source == s)) (From x) (y ∷ without_source s ys) (without_source s ys) (λ _. (f.0, from_without s x ys f.1)) (λ _. from_without s x ys f.1)

-- before all of a list that are later, an event goes first
put_first : (e : Event) (ys : List Event) (x : Event) → is_earlier e x ≡ true → From x ys → put_sorted e ys ≡ e ∷ ys
unfolding From
put_first e [] x h f = refl
put_first e (y ∷ ys) x h f = ap (λ (t : Bool). if t then e ∷ y ∷ ys else y ∷ put_sorted e ys) (earlier_too e x y h f.0)

-- one of another source is put among the others
put_other : (s : ℕ) (e : Event) (xs : List Event) → (e.source == s) ≡ false → InOrder xs → without_source s (put_sorted e xs) ≡ put_sorted e (without_source s xs)
unfolding InOrder
put_other s e [] h o = kept s e [] h
put_other s e (x ∷ xs) h o =
    by_cases (is_earlier e x) (λ l. without_source s l ≡ put_sorted e (without_source s (x ∷ xs))) (e ∷ x ∷ xs) (x ∷ put_sorted e xs)
    (λ before. kept s e (x ∷ xs) h ∙ by_cases (not (x.source == s)) (λ l. e ∷ l ≡ put_sorted e l) (x ∷ without_source s xs) (without_source s xs)
    (λ _. sym (ap (λ (t : Bool). if t then e ∷ x ∷ without_source s xs else x ∷ put_sorted e (without_source s xs)) before))
    (λ _. sym (put_first e (without_source s xs) x before (from_without s x xs o.0))))
    (λ after. ⊎_elim
    (λ here. left_out s x (put_sorted e xs) here ∙ (put_other s e xs h o.1 ∙ ap (put_sorted e) (sym (left_out s x xs here))))
    (λ there. kept s x (put_sorted e xs) there ∙ (ap (λ l. x ∷ l) (put_other s e xs h o.1)
    ∙ (sym (ap (λ (t : Bool). if t then e ∷ x ∷ without_source s xs else x ∷ put_sorted e (without_source s xs)) after)
    ∙ ap (put_sorted e) (sym (kept s x xs there)))))
    (cases_Bool (x.source == s)))

-- one of this source goes
put_same : (s : ℕ) (e : Event) (xs : List Event) → (e.source == s) ≡ true → without_source s (put_sorted e xs) ≡ without_source s xs
put_same s e [] h = left_out s e [] h
put_same s e (x ∷ xs) h =
    by_cases (is_earlier e x) (λ l. without_source s l ≡ without_source s (x ∷ xs)) (e ∷ x ∷ xs) (x ∷ put_sorted e xs)
    (λ before. left_out s e (x ∷ xs) h)
    (λ after. ap (λ l. if not (x.source == s) then x ∷ l else l) (put_same s e xs h))

sorted_others : (s : ℕ) (es : List Event) → sorted (without_source s es) ≡ without_source s (sorted es)
sorted_others s [] = refl
sorted_others s (e ∷ es) =
    ⊎_elim
    (λ here. ap sorted (left_out s e es here) ∙ (sorted_others s es ∙ sym (put_same s e (sorted es) here)))
    (λ there. ap sorted (kept s e es there) ∙ (ap (put_sorted e) (sorted_others s es) ∙ sym (put_other s e (sorted es) there (sorted_in_order es))))
    (cases_Bool (e.source == s))

-- ---- an event that is programmed anew

abbrev pub others_due : ℕ → List (ℕ × ℕ) → List (ℕ × ℕ)
others_due s ds = filter (λ d. not (d.1 == s)) ds

due_without : (s : ℕ) (xs : List Event) → map due (without_source s xs) ≡ others_due s (map due xs)
due_without s [] = refl
due_without s (x ∷ xs) =
    ⊎_elim
    (λ here. ap (map due) (left_out s x xs here) ∙ (due_without s xs ∙ sym (ap (λ (t : Bool). if not t then due x ∷ others_due s (map due xs) else others_due s (map due xs)) here)))
    (λ there. ap (map due) (kept s x xs there) ∙ (ap (λ l. due x ∷ l) (due_without s xs)
    ∙ sym (ap (λ (t : Bool). if not t then due x ∷ others_due s (map due xs) else others_due s (map due xs)) there)))
    (cases_Bool (x.source == s))

pub replaced_order : (p : Pending) (date s : ℕ) → Falls p.programmed p.events → in_order (replaced p date s).events ≡ put_behind (date, s) (others_due s (in_order p.events))
replaced_order p date s f =
    programmed_behind (record p { events = without_source s p.events }) date s (falls_kept (λ x. not (x.source == s)) p.programmed p.events f)
    ∙ ap (put_behind (date, s)) (ap (map due) (sorted_others s p.events) ∙ due_without s (sorted p.events))
