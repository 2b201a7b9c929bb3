-- Each event of a wheel stands in the list of its place.
use Rattle.std.proofs.Common.{◌≡◌, ◌+◌, ◌-◌, ◌==◌, ◌||◌, ◌&&◌, inl, inr, nat_lt, ℕ, Bool, true, false, List, [], ◌∷◌, Some, refl, sym, ◌∙◌, ap, arith}
use Rattle.sci_links.specs.Table.{Table, list_of, has}
use Rattle.sci_links.proofs.TestLemmas.{by_cases, eq_true, or_cases, has_here, has_there, swap_or}
use Rattle.sci_agenda.specs.Chained.{date_at, events_of}
use Rattle.sci_agenda.specs.Wheel.{in_order, sorted, put_front, all_nodes, place, IsWheel, has_event}
use Rattle.sci_agenda.proofs.WheelSteps.{all_has}

event-put_front : (d s : ℕ) (e : ℕ × ℕ) (xs : List (ℕ × ℕ)) → has_event d s (put_front e xs) ≡ has_event d s (e ∷ xs)
event-put_front d s e [] = refl
event-put_front d s e (x ∷ xs) = by_cases (nat_lt x.0 e.0) (λ l. has_event d s l ≡ has_event d s (e ∷ x ∷ xs)) (x ∷ put_front e xs) (e ∷ x ∷ xs)
    (λ _. ap (λ (b : Bool). (x.0 == d && x.1 == s) || b) (event-put_front d s e xs) ∙ swap_or (x.0 == d && x.1 == s) (e.0 == d && e.1 == s) (has_event d s xs))
    (λ _. refl)

event-sorted : (d s : ℕ) (es : List (ℕ × ℕ)) → has_event d s (sorted es) ≡ has_event d s es
event-sorted d s [] = refl
event-sorted d s (e ∷ es) = event-put_front d s e (sorted es) ∙ ap (λ (b : Bool). (e.0 == d && e.1 == s) || b) (event-sorted d s es)

both : (a b : Bool) → (a && b) ≡ true → (a ≡ true) × (b ≡ true)
both true b h = (refl, h)
both false b h = absurd (cc)

event_node : (ds xs : List ℕ) (d s : ℕ) → has_event d s (events_of ds xs) ≡ true → (x : ℕ) × (has x xs ≡ true) × (s ≡ x + 1) × (date_at ds x ≡ d)
event_node ds [] d s h = absurd (cc)
event_node ds (y ∷ ys) d s h = elim (or_cases (date_at ds y == d && (y + 1) == s) (has_event d s (events_of ds ys)) h) [
  | inl a ↦ (let b = both (date_at ds y == d) ((y + 1) == s) a in (y, has_here y y ys refl, sym (eq_true (y + 1) s b.1), eq_true (date_at ds y) d b.0))
  | inr a ↦ (let r = event_node ds ys d s a in (r.0, has_there r.0 y ys r.1, r.2, r.3))
]

pub is_placed : (t : Table) (ds : List ℕ) (now ports puts : ℕ) → IsWheel t ds now ports puts → (date source : ℕ) → has_event date source (in_order ds t.lists) ≡ true
    → list_of t (source - 1) ≡ Some (place now date)
unfolding in_order
is_placed t ds now ports puts k date source h =
    let r = event_node ds (all_nodes t.lists) date source (sym (event-sorted date source (events_of ds (all_nodes t.lists))) ∙ h) in
    let a = all_has r.0 t.lists r.1 in
    let x : source - 1 ≡ r.0 = let e = r.2 in omega arith in
    ap (list_of t) x ∙ ((k.table.holds a.0 r.0 a.1).0 ∙ ap Some (sym (k.placed a.0 r.0 a.1) ∙ ap (place now) r.3))
