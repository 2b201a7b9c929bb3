-- The pending events in the order in which they fire.
use Rattle.std.proofs.Common.{◌≡◌, ◌<◌, ◌≤◌, ◌==◌, ◌||◌, nat_lt, not, ℕ, Bool, true, false, List, [], ◌∷◌, map, Option, Some, None, if◌then◌else◌, refl, sym, ◌∙◌, ap, subst, arith}
use Rattle.std.proofs.lemmas.Bool.Decides.{nat_tests}
use Rattle.sci_links.proofs.TestLemmas.{by_cases}
use Rattle.sci_pending.specs.Pending.{Event, Pending, is_earlier, earlier, next, without, is_pending, programmed}
use Rattle.sci_agenda.specs.Firing.{put_behind, is_pending as waits}
use Rattle.sci_pending.specs.Order.{put_sorted, sorted, due, in_order, Falls}
use Rattle.sci_agenda.specs.FiringOrder.{FiringOrderLaw}

abbrev pub AllBelow : ℕ → List Event → Type 0
AllBelow n [] = Unit {0}
AllBelow n (e ∷ es) = (e.order < n) × AllBelow n es

below_more : (m n : ℕ) (es : List Event) → m ≤ n → AllBelow m es → AllBelow n es
below_more m n [] h b = tt
below_more m n (e ∷ es) h b = (omega arith, below_more m n es h b.1)

pub falls_below : (n : ℕ) (es : List Event) → Falls n es → AllBelow n es
falls_below n [] f = tt
falls_below n (e ∷ es) f = (f.0, below_more e.order n es (omega arith) (falls_below e.order es f.1))

pub falls_more : (m n : ℕ) (es : List Event) → m ≤ n → Falls m es → Falls n es
falls_more m n [] h f = tt
falls_more m n (e ∷ es) h f = (omega arith, f.1)

below_place : (n : ℕ) (e : Event) (xs : List Event) → e.order < n → AllBelow n xs → AllBelow n (put_sorted e xs)
below_place n e [] h b = (h, tt)
below_place n e (x ∷ xs) h b = by_cases (is_earlier e x) (AllBelow n) (e ∷ x ∷ xs) (x ∷ put_sorted e xs) (λ _. (h, b)) (λ _. (b.0, below_place n e xs h b.1))

below_sorted : (n : ℕ) (es : List Event) → AllBelow n es → AllBelow n (sorted es)
below_sorted n [] b = tt
below_sorted n (e ∷ es) b = below_place n e (sorted es) b.0 (below_sorted n es b.1)

-- the next event is the first in order
first : List Event → Option Event
first [] = None
first (x ∷ xs) = Some x

first-put_sorted : (e : Event) (xs : List Event) → first (put_sorted e xs) ≡ Some (earlier e (first xs))
unfolding first
first-put_sorted e [] = refl
first-put_sorted e (x ∷ xs) = by_cases (is_earlier e x) (λ l. first l ≡ Some (if is_earlier e x then e else x)) (e ∷ x ∷ xs) (x ∷ put_sorted e xs)
    (λ t. ap (λ b. Some (if b then e else x)) (sym t)) (λ t. ap (λ b. Some (if b then e else x)) (sym t))

next_is_first : (es : List Event) → next es ≡ first (sorted es)
unfolding first
next_is_first [] = refl
next_is_first (e ∷ es) = ap (λ o. Some (earlier e o)) (next_is_first es) ∙ sym (first-put_sorted e (sorted es))

-- what is left in order without the first
without_absent : (n : ℕ) (es : List Event) → AllBelow n es → without n es ≡ es
without_absent n [] b = refl
without_absent n (e ∷ es) b =
    let other : not (e.order == n) ≡ true = grind (arith, nat_tests) in
    let rest = without_absent n es b.1 in
    ap (λ (t : Bool). if t then e ∷ without n es else without n es) other ∙ ap (λ (l : List Event). e ∷ l) rest

without_same : (e : Event) (es : List Event) → without e.order (e ∷ es) ≡ without e.order es
without_same e es =
    let same : not (e.order == e.order) ≡ false = grind (arith, nat_tests) in
    ap (λ (t : Bool). if t then e ∷ without e.order es else without e.order es) same

without_other : (n : ℕ) (e : Event) (es : List Event) → n < e.order → without n (e ∷ es) ≡ e ∷ without n es
without_other n e es h =
    let other : not (e.order == n) ≡ true = grind (arith, nat_tests) in
    ap (λ (t : Bool). if t then e ∷ without n es else without n es) other

rest_step : (e : Event) (es s : List Event) → sorted es ≡ s → AllBelow e.order es → AllBelow e.order s
    → ((x : Event) (xs : List Event) → s ≡ x ∷ xs → sorted (without x.order es) ≡ xs)
    → (x : Event) (xs : List Event) → put_sorted e s ≡ x ∷ xs → sorted (without x.order (e ∷ es)) ≡ xs
rest_step e es [] is below low rest x xs h =
    let same : e ≡ x = cc in
    let none : [] ≡ xs = cc in
    subst (λ (v : Event). sorted (without v.order (e ∷ es)) ≡ xs) same
    (ap sorted (without_same e es ∙ without_absent e.order es below) ∙ (is ∙ none))
rest_step e es (y ∷ ys) is below low rest x xs h =
    (by_cases (is_earlier e y) (λ l. l ≡ x ∷ xs → sorted (without x.order (e ∷ es)) ≡ xs) (e ∷ y ∷ ys) (y ∷ put_sorted e ys)
    (λ _ here.
    let same : e ≡ x = cc in
    let left : y ∷ ys ≡ xs = cc in
    subst (λ (v : Event). sorted (without v.order (e ∷ es)) ≡ xs) same
    (ap sorted (without_same e es ∙ without_absent e.order es below) ∙ (is ∙ left)))
    (λ _ here.
    let same : y ≡ x = cc in
    let left : put_sorted e ys ≡ xs = cc in
    subst (λ (v : Event). sorted (without v.order (e ∷ es)) ≡ xs) same
    (ap sorted (without_other y.order e es low.0) ∙ (ap (put_sorted e) (rest y ys refl) ∙ left)))) h

rest_of : (n : ℕ) (es : List Event) → Falls n es → (x : Event) (xs : List Event) → sorted es ≡ x ∷ xs → sorted (without x.order es) ≡ xs
rest_of n [] f x xs h = absurd (cc)
rest_of n (e ∷ es) f x xs h =
    let below = falls_below e.order es f.1 in
    rest_step e es (sorted es) refl below (below_sorted e.order es below) (rest_of e.order es f.1) x xs h

pub falls_without : (n k : ℕ) (es : List Event) → Falls n es → Falls n (without k es)
falls_without n k [] f = tt
falls_without n k (e ∷ es) f =
    by_cases (not (e.order == k)) (Falls n) (e ∷ without k es) (without k es)
    (λ _. (f.0, falls_without e.order k es f.1))
    (λ _. falls_more e.order n (without k es) (omega arith) (falls_without e.order k es f.1))

-- an event of the greatest order goes behind all of its date
pick : (b : Bool) (e x : Event) (xs : List Event) → map due (put_sorted e xs) ≡ put_behind (due e) (map due xs)
    → map due (if b then e ∷ x ∷ xs else x ∷ put_sorted e xs) ≡ (if b then due e ∷ due x ∷ map due xs else due x ∷ put_behind (due e) (map due xs))
pick true e x xs h = refl
pick false e x xs h = ap (λ (l : List (ℕ × ℕ)). due x ∷ l) h

place_greatest : (e : Event) (xs : List Event) → AllBelow e.order xs → map due (put_sorted e xs) ≡ put_behind (due e) (map due xs)
place_greatest e [] b = refl
place_greatest e (x ∷ xs) b =
    let low : x.order < e.order = b.0 in
    let test : is_earlier e x ≡ nat_lt e.date x.date = grind (arith, nat_tests) in
    ap (λ (t : Bool). map due (if t then e ∷ x ∷ xs else x ∷ put_sorted e xs)) test
    ∙ pick (nat_lt e.date x.date) e x xs (place_greatest e xs b.1)

pub programmed_behind : (a : Pending) (date b : ℕ) → Falls a.programmed a.events
    → in_order (programmed a date b).events ≡ put_behind (date, b) (in_order a.events)
programmed_behind a date b f =
    place_greatest (record { date = date; order = a.programmed; source = b }) (sorted a.events)
    (below_sorted a.programmed a.events (falls_below a.programmed a.events f))

pub falls_programmed : (a : Pending) (date b : ℕ) → Falls a.programmed a.events → Falls (programmed a date b).programmed (programmed a date b).events
falls_programmed a date b f = (omega arith, f)

next_by : (n : ℕ) (es : List Event) (e : Event) → Falls n es → (s : List Event) → sorted es ≡ s → first s ≡ Some e → in_order es ≡ due e ∷ in_order (without e.order es)
unfolding first
next_by n es e f [] is h = absurd (cc)
next_by n es e f (x ∷ xs) is h =
    let same : x ≡ e = cc in
    let head : sorted es ≡ e ∷ xs = is ∙ ap (λ (v : Event). v ∷ xs) same in
    ap (map due) head ∙ ap (λ (l : List Event). due e ∷ map due l) (sym (rest_of n es f e xs head))

next_before : (n : ℕ) (es : List Event) (e : Event) → Falls n es → next es ≡ Some e → in_order es ≡ due e ∷ in_order (without e.order es)
next_before n es e f h = next_by n es e f (sorted es) refl (sym (next_is_first es) ∙ h)

none_by : (s : List Event) → first s ≡ None → map due s ≡ []
unfolding first
none_by [] h = refl
none_by (x ∷ xs) h = absurd (cc)

no_next : (es : List Event) → next es ≡ None → in_order es ≡ []
no_next es h = none_by (sorted es) (sym (next_is_first es) ∙ h)

swap_or : (p q r : Bool) → (p || (q || r)) ≡ (q || (p || r))
swap_or true true r = refl
swap_or true false r = refl
swap_or false true r = refl
swap_or false false r = refl

pub pending_placed : (source : ℕ) (e : Event) (xs : List Event) → is_pending source (put_sorted e xs) ≡ is_pending source (e ∷ xs)
pending_placed source e [] = refl
pending_placed source e (x ∷ xs) = by_cases (is_earlier e x) (λ l. is_pending source l ≡ is_pending source (e ∷ x ∷ xs)) (e ∷ x ∷ xs) (x ∷ put_sorted e xs)
    (λ _. refl)
    (λ _. ap (λ (t : Bool). (x.source == source) || t) (pending_placed source e xs) ∙ swap_or (x.source == source) (e.source == source) (is_pending source xs))

pub pending_sorted : (source : ℕ) (es : List Event) → is_pending source (sorted es) ≡ is_pending source es
pending_sorted source [] = refl
pending_sorted source (e ∷ es) = pending_placed source e (sorted es) ∙ ap (λ (t : Bool). (e.source == source) || t) (pending_sorted source es)

pending_due : (source : ℕ) (xs : List Event) → waits source (map due xs) ≡ is_pending source xs
pending_due source [] = refl
pending_due source (x ∷ xs) =
    let turned : (source == x.source) ≡ (x.source == source) = grind (arith, nat_tests) in
    ap (λ (t : Bool). t || waits source (map due xs)) turned ∙ ap (λ (t : Bool). (x.source == source) || t) (pending_due source xs)

pub firing_order : FiringOrderLaw
firing_order = record {
  put = programmed_behind;
  put_numbered = falls_programmed;
  before_others = next_before;
  nothing_due = no_next;
  others_numbered = falls_without;
  pending = λ source es. pending_due source (sorted es) ∙ pending_sorted source es;
}
