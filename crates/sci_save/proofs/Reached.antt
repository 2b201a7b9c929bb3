-- The states that a run reaches are saved.
use Rattle.std.proofs.Common.{◌≡◌, ◌≢◌, ℕ, zero, suc, ◌+◌, ◌%◌, ◌^◌, ◌<◌, ◌≤◌, ◌==◌, ℤ, pos, negsuc, ◌+ℤ◌, ◌-ℤ◌, ◌≤ℤ◌, List, [], ◌∷◌, length, get_or, map, replicate, All, Option, Some, None, Result, Ok, Bool, true, false, cond, if◌then◌else◌, refl, sym, ap, ◌∙◌, subst, arith, ◌⊎◌, inl, inr, ⊎_elim}
use Rattle.std.specs.Prelude.{nat_eq}
use Rattle.std.specs.Int.{int_rem_euclid}
use Rattle.std.specs.List.{AllByRecursion, list_any}
use Rattle.std.proofs.lemmas.Int.{ints}
use Rattle.std.proofs.lemmas.Bool.{eqb-false, or_parts}
use Rattle.std.proofs.lemmas.Bool.Decides.{nat_tests}
use Rattle.std.proofs.lemmas.List.{get_or-replicate, length-replicate}
use Rattle.std.proofs.lemmas.Option.{slice_get_within}
use Rattle.sci_base.specs.declared.observation.Obs.{Obs}
use Rattle.sci_base.specs.declared.observation.StopWord.{StopWord}
use Rattle.sci_base.specs.Fit.{InRange}
use Rattle.sci_base.specs.Lists.{at, spread}
use Rattle.sci_forms.specs.declared.Kind.{Kind}
use Rattle.sci_forms.specs.declared.Kind.TheVariants.{ModuloCount}
use Rattle.sci_forms.specs.declared.ports.Port.{Port}
use Rattle.sci_forms.specs.declared.spec.Spec.{Spec}
use Rattle.sci_forms.specs.Ports.{total, Fills}
use Rattle.sci_forms.specs.Words.{param, out_type, state_len_of}
use Rattle.sci_kinds.specs.Asks.{Asks, IsState}
use Rattle.sci_kinds.specs.Table.{next_of, next, first_state as first_of_spec, state_len}
use Rattle.sci_kinds.proofs.Elements.{listed_at}
use Rattle.sci_kinds.proofs.LawProofs.{asks}
use Rattle.sci_net.specs.declared.Source.{Source}
use Rattle.sci_net.specs.declared.Source.TheVariants.{Start}
use Rattle.sci_net.specs.Parts.{Parts, IsBlock, IsSensor, no_spec, numbered, spec_of, column_of}
use Rattle.sci_forms.specs.Form.{is_sensor}
use Rattle.sci_net.specs.Net.{IsNet}
use Rattle.sci_net.specs.Sources.{source_of}
use Rattle.sci_reaction.specs.Memory.{Memory, Columns, AreColumns, IsMemory, first_memory, next_value}
use Rattle.sci_reaction.specs.Equations.{Signals, sensed, answer, input_in, all_inputs}
use Rattle.sci_reaction.specs.Result.{Whole, IsResult}
use Rattle.sci_reaction.specs.Next.{IsNextMemory, IsUpdated, Stays}
use Rattle.sci_pending.specs.Pending.{Event, Pending, is_earlier, is_pending}
use Rattle.sci_pending.specs.Order.{put_sorted, sorted, due, in_order, AreOnce as OnceEach}
use Rattle.sci_run.specs.Anew.{Rises}
use Rattle.sci_run.specs.Laws.{AreLoopFree}
use Rattle.sci_run.specs.Order.{IsAhead, PendingInOrder}
use Rattle.sci_run.specs.Run.{State, first_state, taken, Reacts, ReachableFrom, here, reacted, Reachable}
use Rattle.sci_run.proofs.Ordered.{by_cases, stands_ahead}
use Rattle.sci_run.proofs.Ranges.{stands_in_range, fired_within, now_within}
use Rattle.sci_save.specs.declared.bounds.Bounds.{Bounds}
use Rattle.sci_save.specs.Saved.{Saved}
use Rattle.sci_save.specs.Bounds.{from_to, IsWithin, AreWithin, AreByBlock, state_bound_of, state_bounds, port_bounds, held_bounds, cursor_bounds}
use Rattle.sci_save.specs.Text.{cursor_rows}
use Rattle.sci_save.specs.Valid.{AreCursors, IsNear, AreOnce, ArePending, IsShaped, IsValid}
use Rattle.sci_save.specs.Resumed.{IsSavedOf}
use Rattle.sci_save.proofs.InRange.{ports_total, port_at_element}

-- ---- counters count below their base

abbrev pub IsCounter : Kind → Spec → List ℤ → Type 0
IsCounter ModuloCount s x = IsWithin (from_to (pos 0) (param s 0 -ℤ pos 1)) (at x 0)
IsCounter _ s x = Unit {0}

rem_within : (z d : ℤ) → pos 1 ≤ℤ d → IsWithin (from_to (pos 0) (d -ℤ pos 1)) (int_rem_euclid z d)
rem_within z (pos zero) h = absurd (omega (arith, ints))
rem_within (pos a) (pos (suc k)) h =
    let less : a % suc k < suc k = omega arith in
    record { above = omega (arith, ints); below = omega (arith, ints) }
rem_within (negsuc a) (pos (suc k)) h =
    let less : a % suc k < suc k = omega arith in
    record { above = omega (arith, ints); below = omega (arith, ints) }
rem_within z (negsuc n) h = absurd (omega (arith, ints))

spread_first : (vs : List ℤ) → spread vs 0 ≡ at vs 0
spread_first vs = either (nat_eq (length vs) 1)
  where
    either : (t : Bool) → cond t (at vs 0) (at vs 0) ≡ at vs 0
    either true = refl
    either false = refl

counter_first : (k : Kind) (s : Spec) → s.kind ≡ k → Asks k s → IsCounter k s (first_of_spec s)
counter_first ModuloCount s e a =
    let one : state_len s ≡ 1 = ap (λ (k : Kind). state_len_of k s) e in
    let some : 0 < state_len s = omega (arith, one) in
    let is : at (first_of_spec s) 0 ≡ at s.state 0 = (listed_at (spread s.state) (state_len s)).1 0 some ∙ spread_first s.state in
    let low = a.7 in
    let high = a.8 in
    subst (IsWithin (from_to (pos 0) (param s 0 -ℤ pos 1))) (sym is) (record { above = low; below = omega (arith, ints) })
counter_first _ s e a = tt

counter_next : (k : Kind) (s : Spec) (x : List ℤ) (mask : ℕ) (u : List ℤ) → s.kind ≡ k → Asks k s → IsCounter k s (next s x mask u)
counter_next ModuloCount s x mask u e a =
    let one : state_len s ≡ 1 = ap (λ (k : Kind). state_len_of k s) e in
    let some : 0 < state_len s = omega (arith, one) in
    let is : at (next s x mask u) 0 ≡ int_rem_euclid (at x 0 +ℤ pos 1) (param s 0) = (listed_at (next_of s.kind s x mask u) (state_len s)).1 0 some ∙ ap (λ (k : Kind). next_of k s x mask u 0) e in
    subst (IsWithin (from_to (pos 0) (param s 0 -ℤ pos 1))) (sym is) (rem_within (at x 0 +ℤ pos 1) (param s 0) a.2)
counter_next _ s x mask u e a = tt

-- ---- and sensors stay within their columns

pub record Goes (n : Parts) (m : Memory) : Type 0 where
  pub counters : (b : ℕ) → IsBlock n b → IsCounter (spec_of n b).kind (spec_of n b) (m.state b)
  pub others : (b : ℕ) → IsBlock n b → is_sensor (spec_of n b).kind ≡ false → m.cursor b ≡ 0

abbrev pub Takes : Parts → Columns → Memory → Type 0
Takes n i m = (b : ℕ) → IsSensor n b → m.cursor b ≤ length (numbered [] i (column_of (spec_of n b)))

goes_first : (n : Parts) → IsNet n → Goes n (first_memory n)
goes_first n net = record {
  counters = λ b block. counter_first (spec_of n b).kind (spec_of n b) refl (asks (spec_of n b) (net.typed_specs b block));
  others = λ b block e. refl;
}

takes_first : (n : Parts) (i : Columns) → Takes n i (first_memory n)
takes_first n i b s = omega arith

-- a sensor that has a value has one more in its column
sensed_some : (s : Spec) (x : List ℤ) (mask : ℕ) (o : Option ℤ) (vs : List ℤ) → sensed s x mask o ≡ Ok vs → (v : ℤ) × (o ≡ Some v)
sensed_some s x mask None vs e = absurd cc
sensed_some s x mask (Some v) vs e = (v, refl)

when_sensor : (t : Bool) (a b : Result (List ℤ) StopWord) (vs : List ℤ) → t ≡ true → cond t a b ≡ Ok vs → a ≡ Ok vs
when_sensor true a b vs e h = h
when_sensor false a b vs e h = absurd cc

column_left : (n : Parts) (m : Memory) (i : Columns) (b mask : ℕ) (inputs : ℕ → List ℤ) (vs : List ℤ) → is_sensor (spec_of n b).kind ≡ true → answer n m i b mask inputs ≡ Ok vs
    → m.cursor b < length (numbered [] i (column_of (spec_of n b)))
unfolding answer
column_left n m i b mask inputs vs on given =
    let s : Spec = spec_of n b in
    let some = sensed_some s (m.state b) mask (next_value i s (m.cursor b)) vs (when_sensor (is_sensor s.kind) _ _ vs on given) in
    slice_get_within (numbered [] i (column_of s)) (m.cursor b) some.0 some.1

stepped : (t : Bool) (c : ℕ) → t ≡ true → (if t then c + 1 else c) ≡ c + 1
stepped true c e = refl
stepped false c e = absurd cc

kept : (t : Bool) (c : ℕ) → t ≡ false → (if t then c + 1 else c) ≡ c
kept true c e = absurd cc
kept false c e = refl

module _ (n : Parts) (i : Columns) (net : IsNet n) (m after : Memory) (s : Source) (y : Signals) (whole : IsResult n m i s (Whole y)) (next_is : IsNextMemory n m s y after) where
  counter_goes : Goes n m → (b : ℕ) → IsBlock n b → IsUpdated n m s y after b ⊎ Stays n m s y after b → IsCounter (spec_of n b).kind (spec_of n b) (after.state b)
  counter_goes g b block (inl u) =
      subst (IsCounter (spec_of n b).kind (spec_of n b)) (sym u.state)
      (counter_next (spec_of n b).kind (spec_of n b) (m.state b) u.mask (all_inputs (spec_of n b) (input_in n y b)) refl (asks (spec_of n b) (net.typed_specs b block)))
  counter_goes g b block (inr u) = subst (IsCounter (spec_of n b).kind (spec_of n b)) (sym u.state) (g.counters b block)

  cursor_goes : Takes n i m → (b : ℕ) → IsSensor n b → IsUpdated n m s y after b ⊎ Stays n m s y after b → after.cursor b ≤ length (numbered [] i (column_of (spec_of n b)))
  cursor_goes t b k (inl u) =
      let is : after.cursor b ≡ m.cursor b + 1 = u.cursor ∙ stepped (is_sensor (spec_of n b).kind) (m.cursor b) k.sensor in
      ⊎_elim (λ on. let left = column_left n m i b on.mask (input_in n y b) (y b) k.sensor on.answer_is in omega (arith, is, left)) (λ off. absurd (off.idle u.active)) (whole b k.block)
  cursor_goes t b k (inr u) = let old = t b k in omega (arith, u.cursor, old)

  other_goes : Goes n m → (b : ℕ) → IsBlock n b → is_sensor (spec_of n b).kind ≡ false → IsUpdated n m s y after b ⊎ Stays n m s y after b → after.cursor b ≡ 0
  other_goes g b block e (inl u) = u.cursor ∙ kept (is_sensor (spec_of n b).kind) (m.cursor b) e ∙ g.others b block e
  other_goes g b block e (inr u) = u.cursor ∙ g.others b block e

  goes_next : Goes n m → Goes n after
  goes_next g = record {
    counters = λ b block. counter_goes g b block (next_is b block);
    others = λ b block e. other_goes g b block e (next_is b block);
  }

  takes_next : Takes n i m → Takes n i after
  takes_next t b k = cursor_goes t b k (next_is b k.block)

module _ (n : Parts) (i : Columns) (net : IsNet n) where
  reacts_goes : (date : ℕ) (s : Source) (st after : State) (seen : List Obs) → Goes n st.memory → Reacts n i date s st after seen → Goes n after.memory
  reacts_goes date s st after seen g h =
      subst (λ (a : State). Goes n a.memory) (sym h.leads) (goes_next n i net st.memory h.memory s h.values h.result h.next g)

  reacts_takes : (date : ℕ) (s : Source) (st after : State) (seen : List Obs) → Takes n i st.memory → Reacts n i date s st after seen → Takes n i after.memory
  reacts_takes date s st after seen t h =
      subst (λ (a : State). Takes n i a.memory) (sym h.leads) (takes_next n i net st.memory h.memory s h.values h.result h.next t)

  pub reaches_goes : (until limit : ℕ) (from : State) → Goes n from.memory → {st : State} → {seen : List Obs} → ReachableFrom n i until limit from st seen → Goes n st.memory
  reaches_goes until limit from g here = g
  reaches_goes until limit from g (reacted st after e seen more before fires h) =
      reacts_goes e.date (source_of n e.source) (taken st e) after more (reaches_goes until limit from g before) h

  pub reaches_takes : (until limit : ℕ) (from : State) → Takes n i from.memory → {st : State} → {seen : List Obs} → ReachableFrom n i until limit from st seen → Takes n i st.memory
  reaches_takes until limit from t here = t
  reaches_takes until limit from t (reacted st after e seen more before fires h) =
      reacts_takes e.date (source_of n e.source) (taken st e) after more (reaches_takes until limit from t before) h

  stands_goes : (until limit : ℕ) (st : State) (seen : List Obs) → Reachable n i until limit st seen → Goes n st.memory
  stands_goes until limit st seen stands =
      reaches_goes until limit stands.first (reacts_goes 0 Start (first_state n) stands.first stands.at_start (goes_first n net) stands.started) stands.reaches

  stands_takes : (until limit : ℕ) (st : State) (seen : List Obs) → Reachable n i until limit st seen → Takes n i st.memory
  stands_takes until limit st seen stands =
      reaches_takes until limit stands.first (reacts_takes 0 Start (first_state n) stands.first stands.at_start (takes_first n i) stands.started) stands.reaches

-- ---- lists by block

abbrev values_from : {A : Type 0} → ℕ → List Spec → (ℕ → A) → List A
values_from b [] f = []
values_from b (s ∷ ss) f = f b ∷ values_from (b + 1) ss f

value_at : {A : Type 0} (b : ℕ) (ss : List Spec) (f : ℕ → A) (k : ℕ) (d : A) → k < length ss → get_or (values_from b ss f) k d ≡ f (b + k)
value_at b [] f k d h = absurd (omega (arith, h))
value_at b (s ∷ ss) f zero d h = let e : b ≡ b + 0 = omega arith in ap f e
value_at b (s ∷ ss) f (suc k) d h = let e : b + 1 + k ≡ b + suc k = omega arith in value_at (b + 1) ss f k d (omega (arith, h)) ∙ ap f e

numbered_value : {A : Type 0} (n : Parts) (f : ℕ → A) (d : A) (b : ℕ) → IsBlock n b → numbered d (values_from 1 n.specs f) b ≡ f b
numbered_value n f d zero h = absurd (let l = h.least in omega arith)
numbered_value n f d (suc k) h = let m : k < length n.specs = let l = h.most in omega arith in value_at 1 n.specs f k d m ∙ ap f (one_more k)
  where
    one_more : (k : ℕ) → 1 + k ≡ suc k
    one_more k = omega arith

rows_are : (bounds : Spec → List Bounds) (b : ℕ) (ss : List Spec) (f : ℕ → List ℤ) → ((k : ℕ) → k < length ss → AreWithin (bounds (get_or ss k no_spec)) (f (b + k))) → AreByBlock bounds ss (values_from b ss f)
rows_are bounds b [] f h = tt
rows_are bounds b (s ∷ ss) f h =
    let some : 0 < length (s ∷ ss) = omega arith in
    let e : b + 0 ≡ b = omega arith in (
      subst (λ (c : ℕ). AreWithin (bounds s) (f c)) e (h 0 some),
      rows_are bounds (b + 1) ss f (λ k l. let more : suc k < length (s ∷ ss) = omega arith in let g : b + suc k ≡ b + 1 + k = omega arith in subst (λ (c : ℕ). AreWithin (bounds (get_or ss k no_spec)) (f c)) g (h (suc k) more)),
    )

-- ---- within bounds

within_from : (rs : List Bounds) (vs : List ℤ) → length vs ≡ length rs → ((e : ℕ) (d : Bounds) → e < length rs → IsWithin (get_or rs e d) (at vs e)) → AreWithin rs vs
within_from [] [] l h = tt
within_from [] (v ∷ vs) l h = absurd (omega (arith, l))
within_from (r ∷ rs) [] l h = absurd (omega (arith, l))
within_from (r ∷ rs) (v ∷ vs) l h =
    let some : 0 < length (r ∷ rs) = omega arith in
    (h 0 r some, within_from rs vs (omega (arith, l)) (λ e d k. let more : suc e < length (r ∷ rs) = omega arith in h (suc e) d more))

counted_within : (k : Kind) (s : Spec) (x : List ℤ) (e : ℕ) → e < state_len_of k s → InRange (out_type s) (at x e) → IsCounter k s x → IsWithin (state_bound_of k s) (at x e)
counted_within ModuloCount s x e h r c = let z : e ≡ 0 = omega (arith, h) in subst (λ (j : ℕ). IsWithin (from_to (pos 0) (param s 0 -ℤ pos 1)) (at x j)) (sym z) c
counted_within _ s x e h r c = record { above = r.above; below = r.below }

state_within : (s : Spec) (x : List ℤ) → IsState s x → IsCounter s.kind s x → AreWithin (state_bounds s) x
state_within s x i c =
    let len = state_len_of s.kind s in
    let r = state_bound_of s.kind s in
    let long : length (replicate len r) ≡ len = length-replicate len r in
    within_from (replicate len r) x (i.enough ∙ sym long) (λ e d h.
    let less : e < len = omega (arith, h, long) in
    subst (λ (q : Bounds). IsWithin q (at x e)) (sym (get_or-replicate len e r d less)) (counted_within s.kind s x e less (i.in_range e less) c))

held_within : (ps : List Port) (vs : List ℤ) → Fills ps vs → AreWithin (port_bounds ps) vs
held_within ps vs f =
    let all = ports_total ps in
    within_from (port_bounds ps) vs (f.enough ∙ sym all) (λ e d h.
    let less : e < total ps = omega (arith, h, all) in
    let r = f.in_range e less in
    subst (λ (q : Bounds). IsWithin q (at vs e)) (sym (port_at_element ps e d less)) (record { above = r.above; below = r.below }))

-- ---- cursors

cursors_listed : (b : ℕ) (ss : List Spec) (f : ℕ → ℕ) → ((k : ℕ) → k < length ss → is_sensor (get_or ss k no_spec).kind ≡ false → f (b + k) ≡ 0) → AreCursors ss (values_from b ss f)
cursors_listed b [] f h = tt
cursors_listed b (s ∷ ss) f h =
    let some : 0 < length (s ∷ ss) = omega arith in
    let e : b ≡ b + 0 = omega arith in (
      (λ t. ap f e ∙ h 0 some t),
      cursors_listed (b + 1) ss f (λ k l t. let more : suc k < length (s ∷ ss) = omega arith in let g : b + 1 + k ≡ b + suc k = omega arith in ap f g ∙ h (suc k) more t),
    )

cursor_within : (t : Bool) (len c : ℕ) → (t ≡ true → c ≤ len) → AreWithin (cond t (from_to (pos 0) (pos len) ∷ []) []) (cond t (pos c ∷ []) [])
cursor_within true len c h = let l = h refl in (record { above = omega (arith, ints); below = omega (arith, ints) }, tt)
cursor_within false len c h = tt

cursors_within : (i : Columns) (b : ℕ) (ss : List Spec) (f : ℕ → ℕ)
    → ((k : ℕ) → k < length ss → is_sensor (get_or ss k no_spec).kind ≡ true → f (b + k) ≤ length (numbered [] i (column_of (get_or ss k no_spec)))) → AreByBlock (cursor_bounds i) ss (cursor_rows ss (values_from b ss f))
cursors_within i b [] f h = tt
cursors_within i b (s ∷ ss) f h =
    let some : 0 < length (s ∷ ss) = omega arith in
    let e : b + 0 ≡ b = omega arith in
    let len = length (numbered [] i (column_of s)) in (
      cursor_within (is_sensor s.kind) len (f b) (λ t. subst (λ (c : ℕ). f c ≤ len) e (h 0 some t)),
      cursors_within i (b + 1) ss f (λ k l t. let more : suc k < length (s ∷ ss) = omega arith in let g : b + suc k ≡ b + 1 + k = omega arith in subst (λ (c : ℕ). f c ≤ length (numbered [] i (column_of (get_or ss k no_spec)))) g (h (suc k) more t)),
    )

-- ---- pending events, in the order in which they fire

earlier_date : (e x : Event) → is_earlier e x ≡ true → e.date ≤ x.date
earlier_date e x h = grind (arith, nat_tests)

later_date : (e x : Event) → is_earlier e x ≡ false → x.date ≤ e.date
later_date e x h = grind (arith, nat_tests)

rises_put : (now : ℕ) (e : Event) (xs : List Event) → now ≤ e.date → Rises now (map due xs) → Rises now (map due (put_sorted e xs))
rises_put now e [] l r = (l, tt)
rises_put now e (x ∷ xs) l r =
    by_cases (is_earlier e x) (λ (ys : List Event). Rises now (map due ys)) (e ∷ x ∷ xs) (x ∷ put_sorted e xs)
    (λ t. (l, (earlier_date e x t, r.1))) (λ t. (r.0, rises_put x.date e xs (later_date e x t) r.1))

rises_sorted : (n : Parts) (now : ℕ) (es : List Event) → AllByRecursion (IsAhead n now) es → Rises now (in_order es)
rises_sorted n now [] a = tt
rises_sorted n now (e ∷ es) a = rises_put now e (sorted es) a.0.not_past (rises_sorted n now es a.1)

each_put : (P : ℕ × ℕ → Type 0) (e : Event) (xs : List Event) → P (due e) → AllByRecursion P (map due xs) → AllByRecursion P (map due (put_sorted e xs))
each_put P e [] p a = (p, tt)
each_put P e (x ∷ xs) p a =
    by_cases (is_earlier e x) (λ (ys : List Event). AllByRecursion P (map due ys)) (e ∷ x ∷ xs) (x ∷ put_sorted e xs) (λ t. (p, a)) (λ t. (a.0, each_put P e xs p a.1))

each_sorted : (P : ℕ × ℕ → Type 0) (es : List Event) → AllByRecursion (λ (e : Event). P (due e)) es → AllByRecursion P (in_order es)
each_sorted P [] a = tt
each_sorted P (e ∷ es) a = each_put P e (sorted es) a.0 (each_sorted P es a.1)

once_put : (e : Event) (xs : List Event) → AllByRecursion (λ (d : ℕ × ℕ). d.1 ≢ e.source) (map due xs) → AreOnce (map due xs) → AreOnce (map due (put_sorted e xs))
once_put e [] a o = (tt, tt)
once_put e (x ∷ xs) a o =
    let apart : e.source ≡ x.source → ⊥ = λ s. a.0 (sym s) in
    by_cases (is_earlier e x) (λ (ys : List Event). AreOnce (map due ys)) (e ∷ x ∷ xs) (x ∷ put_sorted e xs)
    (λ t. (a, o)) (λ t. (each_put (λ (d : ℕ × ℕ). d.1 ≢ x.source) e xs apart o.0, once_put e xs a.1 o.1))

not_pending : (s : ℕ) (es : List Event) → is_pending s es ≡ false → AllByRecursion (λ (e : Event). (due e).1 ≢ s) es
not_pending s [] h = tt
not_pending s (e ∷ es) h = let p = or_parts (e.source == s) (list_any (λ (x : Event). x.source == s) es) h in (eqb-false e.source s p.0, not_pending s es p.1)

once_sorted : (es : List Event) → OnceEach es → AreOnce (in_order es)
once_sorted [] o = tt
once_sorted (e ∷ es) o = once_put e (sorted es) (each_sorted (λ (d : ℕ × ℕ). d.1 ≢ e.source) es (not_pending e.source es o.0)) (once_sorted es o.1)

recursion_ahead : (n : Parts) (now : ℕ) (es : List Event) → All (IsAhead n now) es → AllByRecursion (IsAhead n now) es
recursion_ahead n now [] a = tt
recursion_ahead n now (e ∷ es) a =
    let some : 0 < length (e ∷ es) = omega arith in
    (a 0 e some, recursion_ahead n now es (λ k d l. let more : suc k < length (e ∷ es) = omega arith in a (suc k) d more))

near_each : (n : Parts) (now : ℕ) (es : List Event) → AllByRecursion (IsAhead n now) es → AllByRecursion (λ (e : Event). IsNear n now (due e)) es
near_each n now [] a = tt
near_each n now (e ∷ es) a = (record { not_start = a.0.not_start; source = a.0.source; near = a.0.near }, near_each n now es a.1)

pending_are : (n : Parts) (now : ℕ) (p : Pending) → PendingInOrder n now p → ArePending n now (in_order p.events)
pending_are n now p o =
    let a = recursion_ahead n now p.events o.ahead in
    record { rises = rises_sorted n now p.events a; near = each_sorted (IsNear n now) p.events (near_each n now p.events a); once = once_sorted p.events o.once }

-- ---- what is saved

abbrev saved_from : Parts → State → Saved
saved_from n st = record {
  fired = st.fired;
  now = st.now;
  states = values_from 1 n.specs st.memory.state;
  held = values_from 1 n.specs st.memory.held;
  cursors = values_from 1 n.specs st.memory.cursor;
  pending = in_order st.pending.events;
}

block_of : (n : Parts) (k : ℕ) → k < length n.specs → IsBlock n (1 + k)
block_of n k h = record { least = omega arith; most = omega arith }

spec_there : (n : Parts) (k : ℕ) → spec_of n (1 + k) ≡ get_or n.specs k no_spec
spec_there n k = let e : 1 + k ≡ suc k = omega arith in ap (spec_of n) e

-- where the memory is in range, and so is all else; and as the columns do, where the cursors do
pub stands_saved : (n : Parts) (i : Columns) (st : State) → IsMemory n st.memory → Goes n st.memory → PendingInOrder n st.now st.pending → st.fired ≤ 1000000 → st.now ≤ 2 ^ 62
    → (m : Saved) × IsSavedOf n st m × (Takes n i st.memory → IsValid n i m)
stands_saved n i st memory goes order fired now =
    let shaped : IsShaped n (saved_from n st) = record {
      fired = fired;
      now = now;
      states = rows_are state_bounds 1 n.specs st.memory.state (λ k h.
          subst (λ (s : Spec). AreWithin (state_bounds s) (st.memory.state (1 + k))) (spec_there n k) (state_within (spec_of n (1 + k)) (st.memory.state (1 + k)) (memory.states (1 + k) (block_of n k h)) (goes.counters (1 + k) (block_of n k h))));
      held = rows_are held_bounds 1 n.specs st.memory.held (λ k h.
          subst (λ (s : Spec). AreWithin (held_bounds s) (st.memory.held (1 + k))) (spec_there n k) (held_within (spec_of n (1 + k)).outs (st.memory.held (1 + k)) (memory.held (1 + k) (block_of n k h))));
      cursors = cursors_listed 1 n.specs st.memory.cursor (λ k h t. goes.others (1 + k) (block_of n k h) (ap (λ (s : Spec). is_sensor s.kind) (spec_there n k) ∙ t));
      pending = pending_are n st.now st.pending order;
    } in (
      saved_from n st,
      record {
        shaped = shaped;
        fired = refl;
        now = refl;
        memory = record {
          state = λ b h. numbered_value n st.memory.state [] b h;
          held = λ b h. numbered_value n st.memory.held [] b h;
          cursor = λ b h. numbered_value n st.memory.cursor 0 b h;
        };
        pending = refl;
      },
      λ takes. record {
        shaped = shaped;
        taken = cursors_within i 1 n.specs st.memory.cursor (λ k h t.
            subst (λ (s : Spec). st.memory.cursor (1 + k) ≤ length (numbered [] i (column_of s))) (spec_there n k)
            (takes (1 + k) (record { block = block_of n k h; sensor = ap (λ (s : Spec). is_sensor s.kind) (spec_there n k) ∙ t })));
      },
    )

pub reached_is_saved : (n : Parts) (i : Columns) (until limit : ℕ) (st : State) (seen : List Obs) → IsNet n → AreLoopFree n → AreColumns n i → until ≤ 2 ^ 62 → limit ≤ 1000000
    → Reachable n i until limit st seen → (m : Saved) × IsSavedOf n st m × IsValid n i m
reached_is_saved n i until limit st seen net free columns early few stands =
    let fired = fired_within n i until limit st seen stands in
    let now = now_within n i until limit st seen stands in
    let saved = stands_saved n i st (stands_in_range n i net free columns until limit st seen stands) (stands_goes n i net until limit st seen stands) (stands_ahead n net i until limit st seen stands)
    (omega (arith, fired, few)) (omega (arith, now, early)) in
    (saved.0, saved.1, saved.2 (stands_takes n i net until limit st seen stands))
