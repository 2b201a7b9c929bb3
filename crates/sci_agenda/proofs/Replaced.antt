-- A pending event is replaced.
use Rattle.std.proofs.Common.{◌≡◌, ◌==◌, ◌||◌, not, ℕ, Bool, true, false, List, [], ◌∷◌, map, if◌then◌else◌, filter, ⊎_elim, refl, sym, ◌∙◌, ap, subst, arith, true≢false}
use Rattle.std.proofs.lemmas.Bool.Decides.{nat_tests}
use Rattle.sci_links.proofs.TestLemmas.{by_cases, known, eq_true}
use Rattle.sci_pending.specs.Pending.{Event, is_earlier, is_pending, without_source}
use Rattle.sci_agenda.specs.Firing.{put_behind, is_pending as waits, without as without_due}
use Rattle.sci_pending.specs.Order.{put_sorted, sorted, due, in_order, Falls, AreOnce}
use Rattle.sci_agenda.specs.FiringOrder.{ReplacingLaw}
use Rattle.sci_agenda.proofs.InOrder.{falls_more, programmed_behind, falls_programmed, pending_placed as placed, pending_sorted as in_sorted}

neither : (a b : Bool) → (a || b) ≡ false → (a ≡ false) × (b ≡ false)
neither true b h = absurd (true≢false h)
neither false b h = (refl, h)

turned : (s t : ℕ) → (t == s) ≡ true → (s == t) ≡ true
turned s t h = grind (arith, nat_tests)

turned_off : (s t : ℕ) → (t == s) ≡ false → (s == t) ≡ false
turned_off s t h = grind (arith, nat_tests)

-- ---- order

earlier_too : (e x y : Event) → is_earlier e x ≡ true → is_earlier y x ≡ false → is_earlier e y ≡ true
earlier_too e x y h g = grind (arith, nat_tests)

not_back : (e x : Event) → is_earlier e x ≡ true → is_earlier x e ≡ false
not_back e x h = grind (arith, nat_tests)

not_back_far : (e x y : Event) → is_earlier e x ≡ true → is_earlier y x ≡ false → is_earlier y e ≡ false
not_back_far e x y h g = grind (arith, nat_tests)

-- none is earlier than x
From : Event → List Event → Type 0
From x [] = Unit {0}
From x (y ∷ ys) = (is_earlier y x ≡ false) × From x ys

InOrder : List Event → Type 0
InOrder [] = Unit {0}
InOrder (x ∷ xs) = From x xs × InOrder xs

from_before : (e x : Event) (ys : List Event) → is_earlier e x ≡ true → From x ys → From e ys
unfolding From
from_before e x [] h f = tt
from_before e x (y ∷ ys) h f = (not_back_far e x y h f.0, from_before e x ys h f.1)

from_put : (x e : Event) (ys : List Event) → is_earlier e x ≡ false → From x ys → From x (put_sorted e ys)
unfolding From
from_put x e [] h f = (h, tt)
from_put x e (y ∷ ys) h f =
    by_cases (is_earlier e y) (From x) (e ∷ y ∷ ys) (y ∷ put_sorted e ys) (λ _. (h, f)) (λ _. (f.0, from_put x e ys h f.1))

put_in_order : (e : Event) (xs : List Event) → InOrder xs → InOrder (put_sorted e xs)
unfolding InOrder From
put_in_order e [] o = (tt, tt)
put_in_order e (x ∷ xs) o =
    by_cases (is_earlier e x) InOrder (e ∷ x ∷ xs) (x ∷ put_sorted e xs)
    (λ h. ((not_back e x h, from_before e x xs h o.0), o))
    (λ h. (from_put x e xs h o.0, put_in_order e xs o.1))

sorted_in_order : (es : List Event) → InOrder (sorted es)
unfolding InOrder
sorted_in_order [] = tt
sorted_in_order (e ∷ es) = put_in_order e (sorted es) (sorted_in_order es)

-- ---- the events of the other sources

kept : (s : ℕ) (x : Event) (xs : List Event) → (x.source == s) ≡ false → without_source s (x ∷ xs) ≡ x ∷ without_source s xs
kept s x xs h = ap (λ (t : Bool). if not t then x ∷ without_source s xs else without_source s xs) h

left_out : (s : ℕ) (x : Event) (xs : List Event) → (x.source == s) ≡ true → without_source s (x ∷ xs) ≡ without_source s xs
left_out s x xs h = ap (λ (t : Bool). if not t then x ∷ without_source s xs else without_source s xs) h

from_without : (s : ℕ) (x : Event) (ys : List Event) → From x ys → From x (without_source s ys)
unfolding From
from_without s x [] f = tt
from_without s x (y ∷ ys) f =
    by_cases (not (y.source == s)) (From x) (y ∷ without_source s ys) (without_source s ys) (λ _. (f.0, from_without s x ys f.1)) (λ _. from_without s x ys f.1)

-- before all of a list that are later, an event goes first
put_first : (e : Event) (ys : List Event) (x : Event) → is_earlier e x ≡ true → From x ys → put_sorted e ys ≡ e ∷ ys
unfolding From
put_first e [] x h f = refl
put_first e (y ∷ ys) x h f = ap (λ (t : Bool). if t then e ∷ y ∷ ys else y ∷ put_sorted e ys) (earlier_too e x y h f.0)

-- one of another source is put among the others
put_other : (s : ℕ) (e : Event) (xs : List Event) → (e.source == s) ≡ false → InOrder xs → without_source s (put_sorted e xs) ≡ put_sorted e (without_source s xs)
unfolding InOrder
put_other s e [] h o = kept s e [] h
put_other s e (x ∷ xs) h o =
    by_cases (is_earlier e x) (λ l. without_source s l ≡ put_sorted e (without_source s (x ∷ xs))) (e ∷ x ∷ xs) (x ∷ put_sorted e xs)
    (λ before. kept s e (x ∷ xs) h ∙ by_cases (not (x.source == s)) (λ l. e ∷ l ≡ put_sorted e l) (x ∷ without_source s xs) (without_source s xs)
    (λ _. sym (ap (λ (t : Bool). if t then e ∷ x ∷ without_source s xs else x ∷ put_sorted e (without_source s xs)) before))
    (λ _. sym (put_first e (without_source s xs) x before (from_without s x xs o.0))))
    (λ after. ⊎_elim
    (λ here. left_out s x (put_sorted e xs) here ∙ (put_other s e xs h o.1 ∙ ap (put_sorted e) (sym (left_out s x xs here))))
    (λ there. kept s x (put_sorted e xs) there ∙ (ap (λ l. x ∷ l) (put_other s e xs h o.1)
    ∙ (sym (ap (λ (t : Bool). if t then e ∷ x ∷ without_source s xs else x ∷ put_sorted e (without_source s xs)) after)
    ∙ ap (put_sorted e) (sym (kept s x xs there)))))
    (known (x.source == s)))

-- one of this source goes
put_same : (s : ℕ) (e : Event) (xs : List Event) → (e.source == s) ≡ true → without_source s (put_sorted e xs) ≡ without_source s xs
put_same s e [] h = left_out s e [] h
put_same s e (x ∷ xs) h =
    by_cases (is_earlier e x) (λ l. without_source s l ≡ without_source s (x ∷ xs)) (e ∷ x ∷ xs) (x ∷ put_sorted e xs)
    (λ before. left_out s e (x ∷ xs) h)
    (λ after. ap (λ l. if not (x.source == s) then x ∷ l else l) (put_same s e xs h))

sorted_others : (s : ℕ) (es : List Event) → sorted (without_source s es) ≡ without_source s (sorted es)
sorted_others s [] = refl
sorted_others s (e ∷ es) =
    ⊎_elim
    (λ here. ap sorted (left_out s e es here) ∙ (sorted_others s es ∙ sym (put_same s e (sorted es) here)))
    (λ there. ap sorted (kept s e es there) ∙ (ap (put_sorted e) (sorted_others s es) ∙ sym (put_other s e (sorted es) there (sorted_in_order es))))
    (known (e.source == s))

-- ---- at most one event of a source

absent : (s : ℕ) (es : List (ℕ × ℕ)) → waits s es ≡ false → without_due s es ≡ es
absent s [] h = refl
absent s (e ∷ es) h =
    let f = neither (s == e.1) (waits s es) h in
    ap (λ (t : Bool). if t then es else e ∷ without_due s es) f.0 ∙ ap (λ l. e ∷ l) (absent s es f.1)

none_left : (s : ℕ) (es : List Event) → is_pending s es ≡ false → without_source s es ≡ es
none_left s [] h = refl
none_left s (e ∷ es) h =
    let f = neither (e.source == s) (is_pending s es) h in kept s e es f.0 ∙ ap (λ l. e ∷ l) (none_left s es f.1)

Single : ℕ → List Event → Type 0
Single s [] = Unit {0}
Single s (e ∷ es) = ((e.source == s) ≡ true → is_pending s es ≡ false) × Single s es

single_put : (s : ℕ) (e : Event) (xs : List Event) → ((e.source == s) ≡ true → is_pending s xs ≡ false) → Single s xs → Single s (put_sorted e xs)
unfolding Single
single_put s e [] h o = (h, tt)
single_put s e (x ∷ xs) h o =
    by_cases (is_earlier e x) (Single s) (e ∷ x ∷ xs) (x ∷ put_sorted e xs)
    (λ before. (h, o))
    (λ after. (
      (λ on. ⊎_elim
          (λ here. absurd (true≢false (sym on ∙ (neither (x.source == s) (is_pending s xs) (h here)).0)))
          (λ there. placed s e xs ∙ (ap (λ t. t || is_pending s xs) there ∙ o.0 on))
          (known (e.source == s))),
      single_put s e xs (λ here. (neither (x.source == s) (is_pending s xs) (h here)).1) o.1,
    ))

single_sorted : (s : ℕ) (es : List Event) → AreOnce es → Single s (sorted es)
unfolding Single
single_sorted s [] o = tt
single_sorted s (e ∷ es) o =
    single_put s e (sorted es) (λ here. in_sorted s es ∙ subst (λ t. is_pending t es ≡ false) (eq_true e.source s here) o.0) (single_sorted s es o.1)

due_without : (s : ℕ) (xs : List Event) → Single s xs → map due (without_source s xs) ≡ without_due s (map due xs)
unfolding Single
due_without s [] o = refl
due_without s (x ∷ xs) o =
    ⊎_elim
    (λ here. ap (map due) (left_out s x xs here ∙ none_left s xs (o.0 here)) ∙ sym (ap (λ (t : Bool). if t then map due xs else due x ∷ without_due s (map due xs)) (turned s x.source here)))
    (λ there. ap (map due) (kept s x xs there) ∙ (ap (λ l. due x ∷ l) (due_without s xs o.1)
    ∙ sym (ap (λ (t : Bool). if t then map due xs else due x ∷ without_due s (map due xs)) (turned_off s x.source there))))
    (known (x.source == s))

taken_out : (s : ℕ) (es : List Event) → AreOnce es → in_order (without_source s es) ≡ without_due s (in_order es)
taken_out s es o = ap (map due) (sorted_others s es) ∙ due_without s (sorted es) (single_sorted s es o)

-- ---- numbers, and one of each source

falls_others : (n s : ℕ) (es : List Event) → Falls n es → Falls n (without_source s es)
falls_others n s [] f = tt
falls_others n s (e ∷ es) f =
    by_cases (not (e.source == s)) (Falls n) (e ∷ without_source s es) (without_source s es)
    (λ _. (f.0, falls_others e.order s es f.1))
    (λ _. falls_more e.order n (without_source s es) (omega arith) (falls_others e.order s es f.1))

none_of : (s : ℕ) (es : List Event) → is_pending s (without_source s es) ≡ false
none_of s [] = refl
none_of s (e ∷ es) =
    ⊎_elim
    (λ here. ap (is_pending s) (left_out s e es here) ∙ none_of s es)
    (λ there. ap (is_pending s) (kept s e es there) ∙ (ap (λ t. t || is_pending s (without_source s es)) there ∙ none_of s es))
    (known (e.source == s))

fewer : (keep : Event → Bool) (s : ℕ) (es : List Event) → is_pending s es ≡ false → is_pending s (filter keep es) ≡ false
fewer keep s [] h = refl
fewer keep s (e ∷ es) h =
    let f = neither (e.source == s) (is_pending s es) h in
    by_cases (keep e) (λ l. is_pending s l ≡ false) (e ∷ filter keep es) (filter keep es)
    (λ _. ap (λ t. t || is_pending s (filter keep es)) f.0 ∙ fewer keep s es f.1) (λ _. fewer keep s es f.1)

once_kept : (keep : Event → Bool) (es : List Event) → AreOnce es → AreOnce (filter keep es)
once_kept keep [] o = tt
once_kept keep (e ∷ es) o =
    by_cases (keep e) AreOnce (e ∷ filter keep es) (filter keep es) (λ _. (fewer keep e.source es o.0, once_kept keep es o.1)) (λ _. once_kept keep es o.1)

pub replacing : ReplacingLaw
replacing = record {
  taken_out = taken_out;
  put_anew = λ p date s f o. programmed_behind (record p { events = without_source s p.events }) date s (falls_others p.programmed s p.events f)
      ∙ ap (put_behind (date, s)) (taken_out s p.events o);
  absent = absent;
  numbered = λ p date s f. falls_programmed (record p { events = without_source s p.events }) date s (falls_others p.programmed s p.events f);
  once = λ p date s o. (none_of s p.events, once_kept (λ e. not (e.source == s)) p.events o);
  others_once = λ order es o. once_kept (λ e. not (e.order == order)) es o;
}
