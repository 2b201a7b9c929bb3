-- The list of the pending events.
use Rattle.std.proofs.Common.{◌≡◌, ℕ, ◌+◌, ◌<◌, ◌≤◌, ◌==◌, ◌||◌, not, Bool, true, false, cond, ⊎_elim, List, [], ◌∷◌, ◌++◌, append-nil, map, reverse, filter, length, get_or, take, Option, Some, option_map, eqb, eqb-true, eq-eqb, refl, sym, ap, subst, ◌∙◌, arith, true≢false}
use Rattle.std.specs.List.{AllByRecursion, IsDistinct, list_any}
use Rattle.std.proofs.lemmas.Bool.{cases_Bool, or_cases}
use Rattle.std.proofs.lemmas.List.{map-append, reverse-append, length-reverse, length-map, take_more}
use Rattle.std.proofs.lemmas.List.Elements.{filter-append}
use Rattle.std.proofs.lemmas.Map.Keys.{IsDistinct-cons}
use Rattle.std.proofs.lemmas.Map.Steps.{length-le_from_distinct_below}
use Rattle.sci_pending.specs.Pending.{Event, is_pending, earlier, next, without_source}
use Rattle.sci_pending.specs.Order.{AreOnce}
use Rattle.sci_events.specs.declared.events.Event.{Event as Kept}
use Rattle.sci_events.specs.Events.{event_of, events_of, AreOf, AreKept}

-- ---- the list and the events that it stands for

pub events_push : (xs : List Kept) (y : Kept) → events_of (xs ++ y ∷ []) ≡ event_of y ∷ events_of xs
events_push xs y = ap reverse (map-append event_of xs (y ∷ [])) ∙ reverse-append (map event_of xs) (event_of y ∷ [])

events_cons : (x : Kept) (xs : List Kept) → events_of (x ∷ xs) ≡ events_of xs ++ event_of x ∷ []
events_cons x xs = reverse-append (event_of x ∷ []) (map event_of xs)

one_kept : (x : Kept) (xs : List Kept) (b : Bool) → events_of (cond b (x ∷ xs) xs) ≡ events_of xs ++ cond b (event_of x ∷ []) []
one_kept x xs true = events_cons x xs
one_kept x xs false = sym (append-nil (events_of xs))

pub events_filter : (p : Event → Bool) (xs : List Kept) → events_of (filter (λ e. p (event_of e)) xs) ≡ filter p (events_of xs)
events_filter p [] = refl
events_filter p (x ∷ xs) =
    one_kept x (filter (λ e. p (event_of e)) xs) (p (event_of x))
    ∙ (ap (λ l. l ++ cond (p (event_of x)) (event_of x ∷ []) []) (events_filter p xs)
    ∙ (sym (filter-append p (events_of xs) (event_of x ∷ [])) ∙ ap (filter p) (sym (events_cons x xs))))

-- ---- each source once

or_none : (a b : Bool) → (a || b) ≡ false → (a ≡ false) × (b ≡ false)
or_none true b h = absurd (true≢false h)
or_none false b h = (refl, h)

or_both : (a b : Bool) → a ≡ false → b ≡ false → (a || b) ≡ false
or_both a b p q = ap (λ (x : Bool). x || b) p ∙ q

none_kept : (b : Bool) (s : ℕ) (e : Event) (es : List Event) → (e.source == s) ≡ false → is_pending s es ≡ false → is_pending s (cond b (e ∷ es) es) ≡ false
none_kept true s e es here rest = or_both (e.source == s) (is_pending s es) here rest
none_kept false s e es here rest = rest

none_left : (p : Event → Bool) (s : ℕ) (es : List Event) → is_pending s es ≡ false → is_pending s (filter p es) ≡ false
none_left p s [] h = refl
none_left p s (e ∷ es) h =
    let o = or_none (e.source == s) (is_pending s es) h in none_kept (p e) s e (filter p es) o.0 (none_left p s es o.1)

once_kept : (b : Bool) (e : Event) (es : List Event) → is_pending e.source es ≡ false → AreOnce es → AreOnce (cond b (e ∷ es) es)
once_kept true e es none once = (none, once)
once_kept false e es none once = once

once_left : (p : Event → Bool) (es : List Event) → AreOnce es → AreOnce (filter p es)
once_left p [] h = tt
once_left p (e ∷ es) h = once_kept (p e) e (filter p es) (none_left p e.source es h.0) (once_left p es h.1)

of_kept : (b : Bool) (n : ℕ) (e : Event) (es : List Event) → e.source < n → AreOf n es → AreOf n (cond b (e ∷ es) es)
of_kept true n e es less of = (less, of)
of_kept false n e es less of = of

of_left : (p : Event → Bool) (n : ℕ) (es : List Event) → AreOf n es → AreOf n (filter p es)
of_left p n [] h = tt
of_left p n (e ∷ es) h = of_kept (p e) n e (filter p es) h.0 (of_left p n es h.1)

gone_one : (b : Bool) (s : ℕ) (e : Event) (es : List Event) → (e.source == s) ≡ b → is_pending s es ≡ false → is_pending s (cond (not b) (e ∷ es) es) ≡ false
gone_one true s e es is rest = rest
gone_one false s e es is rest = or_both (e.source == s) (is_pending s es) is rest

gone : (s : ℕ) (es : List Event) → is_pending s (without_source s es) ≡ false
gone s [] = refl
gone s (e ∷ es) = gone_one (e.source == s) s e (without_source s es) refl (gone s es)

-- ---- there is room

other_than : (s : ℕ) (es : List Event) → is_pending s es ≡ false → AllByRecursion (λ y. eqb s y ≡ false) (map (λ (e : Event). e.source) es)
other_than s [] h = tt
other_than s (e ∷ es) h =
    let o = or_none (e.source == s) (is_pending s es) h in (
      ⊎_elim (λ on. absurd (true≢false (sym (eq-eqb e.source s (sym (eqb-true s e.source on))) ∙ o.0))) (λ off. off) (cases_Bool (eqb s e.source)),
      other_than s es o.1,
    )

distinct-nil : IsDistinct eqb []
unfolding IsDistinct
distinct-nil = tt

distinct : (es : List Event) → AreOnce es → IsDistinct eqb (map (λ (e : Event). e.source) es)
distinct [] h = distinct-nil
distinct (e ∷ es) h = IsDistinct-cons eqb e.source (map (λ (x : Event). x.source) es) (other_than e.source es h.0) (distinct es h.1)

inside : (n : ℕ) (es : List Event) → AreOf n es → (q : ℕ) → list_any (eqb q) (map (λ (e : Event). e.source) es) ≡ true → q < n
inside n [] h q there = absurd (true≢false (sym there))
inside n (e ∷ es) h q there =
    ⊎_elim (λ same. subst (λ v. v < n) (sym (eqb-true q e.source same)) h.0) (λ other. inside n es h.1 q other)
    (or_cases (eqb q e.source) (list_any (eqb q) (map (λ (x : Event). x.source) es)) there)

few : (n : ℕ) (es : List Event) → AreOf n es → AreOnce es → length es ≤ n
few n es of once =
    let l = length-le_from_distinct_below (map (λ (e : Event). e.source) es) n (distinct es once) (inside n es of) in
    let long = length-map es (λ (e : Event). e.source) in omega (arith, l, long)

-- ---- what is kept

pub kept_none : (n room : ℕ) → n ≤ room → AreKept n room []
kept_none n room fits = record { sources_are = tt; once = tt; fits = fits }

pub kept_left : (p : Event → Bool) (n room : ℕ) (es : List Event) → AreKept n room es → AreKept n room (filter p es)
kept_left p n room es h = record { sources_are = of_left p n es h.sources_are; once = once_left p es h.once; fits = h.fits }

module _ (n room : ℕ) (xs : List Kept) (h : AreKept n room (events_of xs)) (s : ℕ) (less : s < n) where
  others : events_of (filter (λ (e : Kept). not (e.source == s)) xs) ≡ without_source s (events_of xs)
  others = events_filter (λ e. not (e.source == s)) xs

  -- behind the source's own event, which is gone, there is room for another
  pub room_for : length (filter (λ (e : Kept). not (e.source == s)) xs) < room
  room_for =
      let left = without_source s (events_of xs) in
      let more : Event = record { date = 0; order = 0; source = s } in
      let all = few n (more ∷ left) (less, of_left (λ e. not (e.source == s)) n (events_of xs) h.sources_are)
      (gone s (events_of xs), once_left (λ e. not (e.source == s)) (events_of xs) h.once) in
      let e = ap length others in
      let long = length-reverse (map event_of (filter (λ (e : Kept). not (e.source == s)) xs)) in
      let mapped = length-map (filter (λ (e : Kept). not (e.source == s)) xs) event_of in
      let fits = h.fits in
      omega (arith, all, e, long, mapped, fits)

  module _ (y : Kept) (of : y.source ≡ s) where
    pub programmed_events : events_of (filter (λ (e : Kept). not (e.source == s)) xs ++ y ∷ []) ≡ event_of y ∷ without_source s (events_of xs)
    programmed_events = events_push (filter (λ (e : Kept). not (e.source == s)) xs) y ∙ ap (λ l. event_of y ∷ l) others

    pub programmed_kept : (more : ℕ) → room ≤ more → AreKept n more (event_of y ∷ without_source s (events_of xs))
    programmed_kept more grown =
        let fits = h.fits in
        record {
          sources_are = (subst (λ v. v < n) (sym of) less, of_left (λ e. not (e.source == s)) n (events_of xs) h.sources_are);
          once = (
            subst (λ v. is_pending v (without_source s (events_of xs)) ≡ false) (sym of) (gone s (events_of xs)),
            once_left (λ e. not (e.source == s)) (events_of xs) h.once,
          );
          fits = omega (arith, fits, grown);
        }

-- ---- the next one

-- the next among one more of the list
pub next_more : (xs : List Kept) (k : ℕ) (d : Kept) (least : Kept) (so_far : Option Kept) → k < length xs → option_map event_of so_far ≡ next (events_of (take k xs))
    → event_of least ≡ earlier (event_of (get_or xs k d)) (option_map event_of so_far) → Some (event_of least) ≡ next (events_of (take (k + 1) xs))
next_more xs k d least so_far within is_next is =
    ap Some (is ∙ ap (earlier (event_of (get_or xs k d))) is_next)
    ∙ sym (ap (λ l. next (events_of l)) (take_more xs k d within) ∙ ap next (events_push (take k xs) (get_or xs k d)))
