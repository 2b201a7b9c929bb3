-- What is pending is in order in every reachable state.
use Rattle.std.proofs.Common.{◌≡◌, ℕ, zero, suc, ◌+◌, ◌-◌, ◌<◌, ◌≤◌, ◌==◌, ◌&&◌, ◌||◌, nat_lt, nat_eq, not, Bool, true, false, ℤ, pos, negsuc, ◌≤ℤ◌, List, [], ◌∷◌, All, length, filter, Contains, Option, Some, None, cond, if◌then◌else◌, refl, sym, ap, subst, ◌∙◌, arith}
use Rattle.std.proofs.lemmas.Bool.Decides.{nat_tests}
use Rattle.std.proofs.lemmas.Int.{ints}
use Rattle.sci_base.specs.Lists.{at}
use Rattle.sci_base.specs.declared.observation.Obs.{Obs}
use Rattle.sci_base.specs.declared.observation.EndWord.TheVariants.{Halt, Events, Empty, Until}
use Rattle.sci_forms.specs.declared.spec.Spec.{Spec}
use Rattle.sci_forms.specs.Forms.{firing_ok}
use Rattle.sci_forms.specs.Form.{has_delay}
use Rattle.sci_forms.specs.Typed.{typed, formed_of, known_of, feed_ok}
use Rattle.sci_forms.proofs.TestLemmas.{both_true, nat_same, int_le_told}
use Rattle.sci_kinds.proofs.LawProofs.{delay_law}
use Rattle.sci_net.specs.declared.Feed.{Feed}
use Rattle.sci_net.specs.declared.Source.{Source}
use Rattle.sci_net.specs.declared.Source.TheVariants.{Start, Port}
use Rattle.sci_net.specs.Parts.{Parts, IsBlock, numbered, spec_of}
use Rattle.sci_net.specs.Net.{IsNet}
use Rattle.sci_net.specs.Sources.{sources_from, sources_of, source_of}
use Rattle.sci_reaction.specs.Memory.{Columns}
use Rattle.sci_reaction.specs.Equations.{Signals, input_in, all_inputs}
use Rattle.sci_reaction.proofs.Sources.{sources_are}
use Rattle.sci_reaction.proofs.Lists.{cons-Contains}
use Rattle.sci_pending.specs.Pending.{Event, Pending, is_earlier, earlier, next, without, is_pending, without_source, replaced}
use Rattle.sci_run.specs.Activity.{Activity, halts}
use Rattle.sci_run.specs.Programs.{with_delay, with_delays, firing_of, first_pending, delay_of, next_pending}
use Rattle.sci_run.specs.Run.{State, first_state, taken, Over, Fires, in_time, comes_next, Reacts, ReachableFrom, here, reacted, Reachable}
use Rattle.sci_pending.specs.Order.{Falls, AreOnce}
use Rattle.sci_run.specs.Order.{IsAhead, PendingInOrder}
use Rattle.sci_run.proofs.Ranges.{over_fires}

pub by_cases : {A : Type 0} (b : Bool) (P : A → Type 0) (x y : A) → (b ≡ true → P x) → (b ≡ false → P y) → P (if b then x else y)
by_cases true P x y f g = f refl
by_cases false P x y f g = g refl

-- ---- lists of events

Each : (Event → Type 0) → List Event → Type 0
Each P [] = Unit {0}
Each P (e ∷ es) = P e × Each P es

each_of : (P : Event → Type 0) (es : List Event) → All P es → Each P es
unfolding Each
each_of P [] h = tt
each_of P (e ∷ es) h = (h 0 e (omega arith), each_of P es (λ k d l. h (suc k) d (omega (arith, l))))

all_of : (P : Event → Type 0) (es : List Event) → Each P es → All P es
unfolding Each
all_of P [] h k d l = absurd (omega (arith, l))
all_of P (e ∷ es) h zero d l = h.0
all_of P (e ∷ es) h (suc k) d l = all_of P es h.1 k d (omega (arith, l))

each_more : (P Q : Event → Type 0) → ((e : Event) → P e → Q e) → (es : List Event) → Each P es → Each Q es
unfolding Each
each_more P Q h [] a = tt
each_more P Q h (e ∷ es) a = (h e a.0, each_more P Q h es a.1)

each_both : (P Q R : Event → Type 0) → ((e : Event) → P e → Q e → R e) → (es : List Event) → Each P es → Each Q es → Each R es
unfolding Each
each_both P Q R h [] a b = tt
each_both P Q R h (e ∷ es) a b = (h e a.0 b.0, each_both P Q R h es a.1 b.1)

each_kept : (keep : Event → Bool) (P : Event → Type 0) (es : List Event) → Each P es → Each P (filter keep es)
unfolding Each
each_kept keep P [] a = tt
each_kept keep P (e ∷ es) a =
    by_cases (keep e) (Each P) (e ∷ filter keep es) (filter keep es) (λ _. (a.0, each_kept keep P es a.1)) (λ _. each_kept keep P es a.1)

pub falls_more : (m k : ℕ) (es : List Event) → m ≤ k → Falls m es → Falls k es
falls_more m k [] h f = tt
falls_more m k (e ∷ es) h f = (omega (arith, h, f.0), f.1)

pub falls_kept : (keep : Event → Bool) (k : ℕ) (es : List Event) → Falls k es → Falls k (filter keep es)
falls_kept keep k [] f = tt
falls_kept keep k (e ∷ es) f =
    by_cases (keep e) (Falls k) (e ∷ filter keep es) (filter keep es)
    (λ _. (f.0, falls_kept keep e.order es f.1))
    (λ _. falls_more e.order k (filter keep es) (omega (arith, f.0)) (falls_kept keep e.order es f.1))

neither : (a b : Bool) → (a || b) ≡ false → (a ≡ false) × (b ≡ false)
neither true b h = absurd (cc)
neither false b h = (refl, h)

fewer : (keep : Event → Bool) (s : ℕ) (es : List Event) → is_pending s es ≡ false → is_pending s (filter keep es) ≡ false
fewer keep s [] h = refl
fewer keep s (e ∷ es) h =
    let f = neither (e.source == s) (is_pending s es) h in
    by_cases (keep e) (λ l. is_pending s l ≡ false) (e ∷ filter keep es) (filter keep es)
    (λ _. ap (λ t. t || is_pending s (filter keep es)) f.0 ∙ fewer keep s es f.1) (λ _. fewer keep s es f.1)

once_kept : (keep : Event → Bool) (es : List Event) → AreOnce es → AreOnce (filter keep es)
once_kept keep [] o = tt
once_kept keep (e ∷ es) o =
    by_cases (keep e) AreOnce (e ∷ filter keep es) (filter keep es) (λ _. (fewer keep e.source es o.0, once_kept keep es o.1)) (λ _. once_kept keep es o.1)

not_off : (t : Bool) → not t ≡ true → t ≡ false
not_off true h = absurd (cc)
not_off false h = refl

pub none_of : (s : ℕ) (es : List Event) → is_pending s (without_source s es) ≡ false
none_of s [] = refl
none_of s (e ∷ es) =
    by_cases (not (e.source == s)) (λ l. is_pending s l ≡ false) (e ∷ without_source s es) (without_source s es)
    (λ there. ap (λ t. t || is_pending s (without_source s es)) (not_off (e.source == s) there) ∙ none_of s es) (λ _. none_of s es)

-- ---- the next event

earlier_least : (a b : Event) → is_earlier a b ≡ true → a.date ≤ b.date
earlier_least a b h = grind (arith, nat_tests)

later_least : (a b : Event) → is_earlier a b ≡ false → b.date ≤ a.date
later_least a b h = grind (arith, nat_tests)

From : ℕ → Event → Type 0
From date e = date ≤ e.date

-- no event is due before it
least : (a : Event) (es : List Event) → Each (From (earlier a (next es)).date) (a ∷ es)
unfolding From Each
least a [] = (omega arith, tt)
least a (b ∷ bs) =
    let m : Event = earlier b (next bs) in
    let rest = least b bs in
    by_cases (is_earlier a m) (λ (e : Event). Each (From e.date) (a ∷ b ∷ bs)) a m
    (λ first. (omega arith, each_more (From m.date) (From a.date) (λ e l. let w = earlier_least a m first in omega (arith, l, w)) (b ∷ bs) rest))
    (λ later. (later_least a m later, rest))

-- and it was one of them
among : (P : Event → Type 0) (a : Event) (es : List Event) → P a → Each P es → P (earlier a (next es))
unfolding Each
among P a [] h all = h
among P a (b ∷ bs) h all =
    let m : Event = earlier b (next bs) in by_cases (is_earlier a m) P a m (λ _. h) (λ _. among P b bs all.0 all.1)

next_least : (es : List Event) (e : Event) → next es ≡ Some e → Each (From e.date) es
next_least [] e h = absurd (cc)
next_least (a ∷ es) e h = let same : earlier a (next es) ≡ e = cc in subst (λ (x : Event). Each (From x.date) (a ∷ es)) same (least a es)

next_among : (P : Event → Type 0) (es : List Event) (e : Event) → next es ≡ Some e → Each P es → P e
unfolding Each
next_among P [] e h all = absurd (cc)
next_among P (a ∷ es) e h all = let same : earlier a (next es) ≡ e = cc in subst P same (among P a es all.0 all.1)

in_time_next : (until : ℕ) (f e : Event) (late : Bool) → (if late then Over Until else Fires f) ≡ Fires e → f ≡ e
in_time_next until f e true h = absurd (over_fires Until e h)
in_time_next until f e false h = cc

when_left : (until : ℕ) (none : Bool) (x : Option Event) (e : Event) → (if none then Over Events else in_time until x) ≡ Fires e → x ≡ Some e
when_left until true x e h = absurd (over_fires Events e h)
when_left until false None e h = absurd (over_fires Empty e h)
when_left until false (Some f) e h = ap (λ v. Some v) (in_time_next until f e (nat_lt until f.date) h)

pub fires_next : (until left : ℕ) (halted : Bool) (x : Option Event) (e : Event) → (if halted then Over Halt else if left == 0 then Over Events else in_time until x) ≡ Fires e → x ≡ Some e
fires_next until left true x e h = absurd (over_fires Halt e h)
fires_next until left false x e h = when_left until (left == 0) x e h

pub fires_ahead : (n : Parts) (until left : ℕ) (st : State) (e : Event) → PendingInOrder n st.now st.pending → comes_next n until left st ≡ Fires e → IsAhead n st.now e
fires_ahead n until left st e order fires =
    next_among (IsAhead n st.now) st.pending.events e (fires_next until left (halts n st.active) (next st.pending.events) e fires) (each_of (IsAhead n st.now) st.pending.events order.ahead)

-- where the next event is taken, the others are due from its date on
pub taken_ahead : (n : Parts) (now : ℕ) (p : Pending) (e : Event) → next p.events ≡ Some e → PendingInOrder n now p
    → PendingInOrder n e.date (record p { events = without e.order p.events })
unfolding From
taken_ahead n now p e is order =
    let ahead = each_of (IsAhead n now) p.events order.ahead in
    let soon : now ≤ e.date = (next_among (IsAhead n now) p.events e is ahead).not_past in
    let others = each_both (IsAhead n now) (From e.date) (IsAhead n e.date)
    (λ x h l. record { not_start = h.not_start; source = h.source; not_past = l; near = let w = h.near in omega (arith, w, soon) })
    p.events ahead (next_least p.events e is) in
    record {
      numbered = falls_kept (λ x. not (x.order == e.order)) p.programmed p.events order.numbered;
      once = once_kept (λ x. not (x.order == e.order)) p.events order.once;
      ahead = all_of (IsAhead n e.date) (without e.order p.events) (each_kept (λ x. not (x.order == e.order)) (IsAhead n e.date) p.events others);
    }

-- ---- programming

below_limit : (d : ℕ) → pos d ≤ℤ pos 2147483647 → d < 2147483648
below_limit d h = omega (arith, ints, h)

module _ (n : Parts) (date : ℕ) where
  pub programmed_ahead : (k : ℕ) (d : ℤ) (p : Pending) → 1 ≤ k → k < length (sources_of n) → d ≤ℤ pos 2147483647 → PendingInOrder n date p → PendingInOrder n date (with_delay date k d p)
  unfolding Each
  programmed_ahead k (pos d) p least most small order =
      let below = below_limit d small in
      record {
        numbered = (omega arith, falls_kept (λ x. not (x.source == k)) p.programmed p.events order.numbered);
        once = (none_of k p.events, once_kept (λ x. not (x.source == k)) p.events order.once);
        ahead = all_of (IsAhead n date) (replaced p (date + d) k).events (
          record { not_start = least; source = most; not_past = omega arith; near = omega (arith, below) },
          each_kept (λ x. not (x.source == k)) (IsAhead n date) p.events (each_of (IsAhead n date) p.events order.ahead),
        );
      }
  programmed_ahead k (negsuc d) p least most small order = order

  Small : (Feed → ℤ) → List Source → Type 0
  Small delays ss = (q : Feed) → Contains ss (Port q) → delays q ≤ℤ pos 2147483647

  all_ahead : (delays : Feed → ℤ) (k : ℕ) (ss : List Source) (p : Pending) → 1 ≤ k → k + length ss ≡ length (sources_of n) → Small delays ss → PendingInOrder n date p
      → PendingInOrder n date (with_delays date delays k ss p)
  unfolding Small
  all_ahead delays k [] p least most small order = order
  all_ahead delays k (Start ∷ ss) p least most small order =
      all_ahead delays (k + 1) ss p (omega (arith, least)) (omega (arith, most)) (λ q c. small q (cons-Contains Start ss (Port q) c)) order
  all_ahead delays k (Port q ∷ ss) p least most small order =
      all_ahead delays (k + 1) ss (with_delay date k (delays q) p) (omega (arith, least)) (omega (arith, most)) (λ r c. small r (cons-Contains (Port q) ss (Port r) c))
      (programmed_ahead k (delays q) p least (omega (arith, most)) (small q (0, omega arith, refl)) order)

  net_ahead : (delays : Feed → ℤ) (p : Pending) → Small delays (sources_of n) → PendingInOrder n date p → PendingInOrder n date (with_delays date delays 0 (sources_of n) p)
  unfolding Small
  net_ahead delays p small order =
      all_ahead delays (0 + 1) (sources_from 1 n.specs) p (omega arith) (omega arith) (λ q c. small q (cons-Contains Start (sources_from 1 n.specs) (Port q) c)) order

-- ---- the delays are small

no_firing : (xs : List ℤ) (p : ℕ) → length xs ≡ 0 → numbered (negsuc 0) xs p ≡ negsuc 0
no_firing xs zero h = refl
no_firing [] (suc p) h = refl
no_firing (x ∷ xs) (suc p) h = absurd (omega (arith, h))

one_firing : (xs : List ℤ) (p : ℕ) → length xs ≡ 1 → at xs 0 ≤ℤ pos 2147483647 → numbered (negsuc 0) xs p ≤ℤ pos 2147483647
one_firing xs zero h most = omega arith
one_firing [] (suc p) h most = absurd (omega (arith, h))
one_firing (x ∷ xs) (suc zero) h most = most
one_firing (x ∷ xs) (suc (suc p)) h most = subst (λ v. v ≤ℤ pos 2147483647) (sym (no_firing xs (suc p) (omega (arith, h)))) (omega arith)

firing_small : (t : Bool) (xs : List ℤ) (p : ℕ) → cond t (nat_eq (length xs) 1 && firing_ok (at xs 0)) (nat_eq (length xs) 0) ≡ true → numbered (negsuc 0) xs p ≤ℤ pos 2147483647
firing_small true xs p h =
    let b = both_true (nat_eq (length xs) 1) (firing_ok (at xs 0)) h in one_firing xs p (nat_same (length xs) 1 b.0) (int_le_told (at xs 0) (pos 2147483647) b.1)
firing_small false xs p h = subst (λ v. v ≤ℤ pos 2147483647) (sym (no_firing xs p (nat_same (length xs) 0 h))) (omega arith)

pub typed_firing : (s : Spec) (p : ℕ) → typed s ≡ true → numbered (negsuc 0) s.firing p ≤ℤ pos 2147483647
typed_firing s p h =
    let p3 = both_true _ _ h in
    let p2 = both_true _ _ p3.0 in
    let p1 = both_true (formed_of s.kind s) (known_of s) p2.0 in
    let f6 = both_true _ (feed_ok s.kind s.feed (length s.ins)) p1.0 in
    let f5 = both_true _ (cond (has_delay s.kind) (nat_eq (length s.firing) 1 && firing_ok (at s.firing 0)) (nat_eq (length s.firing) 0)) f6.0 in
    firing_small (has_delay s.kind) s.firing p f5.1

module _ (n : Parts) (net : IsNet n) where
  block_of : (q : Feed) → Contains (sources_of n) (Port q) → IsBlock n q.block
  block_of q c = ((sources_are n (Port q)).0 c).0.block

  firings_small : Small n 0 (firing_of n) (sources_of n)
  unfolding Small
  firings_small q c = typed_firing (spec_of n q.block) q.port (net.typed_specs q.block (block_of q c))

  active_small : (t : Bool) (d : ℤ) → d ≤ℤ pos 2147483647 → (if t then d else negsuc 0) ≤ℤ pos 2147483647
  active_small true d h = h
  active_small false d h = omega arith

  delays_small : (date : ℕ) (y : Signals) (active : Activity) → Small n date (delay_of n y active) (sources_of n)
  unfolding Small
  delays_small date y active q c =
      active_small (active q.block) _
      (delay_law (spec_of n q.block) q.port (all_inputs (spec_of n q.block) (input_in n y q.block)) (net.typed_specs q.block (block_of q c))).1

  pub first_ahead : PendingInOrder n 0 (first_pending n)
  unfolding Each
  first_ahead = net_ahead n 0 (firing_of n) (record { events = []; programmed = 0 }) firings_small (record { numbered = tt; once = tt; ahead = all_of (IsAhead n 0) [] tt })

  next_ahead : (date : ℕ) (y : Signals) (active : Activity) (p : Pending) → PendingInOrder n date p → PendingInOrder n date (next_pending n date y active p)
  next_ahead date y active p order = net_ahead n date (delay_of n y active) p (delays_small date y active) order

  -- ---- and so along the run

  reacts_ahead : (i : Columns) (date : ℕ) (s : Source) (st after : State) (seen : List Obs) → PendingInOrder n date st.pending → Reacts n i date s st after seen → PendingInOrder n after.now after.pending
  reacts_ahead i date s st after seen order h =
      subst (λ (a : State). PendingInOrder n a.now a.pending) (sym h.leads) (next_ahead date h.values h.active st.pending order)

  module _ (i : Columns) (until limit : ℕ) where
    pub reaches_ahead : (from : State) → PendingInOrder n from.now from.pending → {st : State} → {seen : List Obs} → ReachableFrom n i until limit from st seen → PendingInOrder n st.now st.pending
    reaches_ahead from order here = order
    reaches_ahead from order (reacted st after e seen more before fires h) =
        let is = fires_next until (limit - st.fired) (halts n st.active) (next st.pending.events) e fires in
        reacts_ahead i e.date (source_of n e.source) (taken st e) after more (taken_ahead n st.now st.pending e is (reaches_ahead from order before)) h

    pub stands_ahead : (st : State) (seen : List Obs) → Reachable n i until limit st seen → PendingInOrder n st.now st.pending
    stands_ahead st seen stands =
        reaches_ahead stands.first (reacts_ahead i 0 Start (first_state n) stands.first stands.at_start first_ahead stands.started) stands.reaches

    pub now_rises : (from : State) → PendingInOrder n from.now from.pending → {st : State} → {seen : List Obs} → ReachableFrom n i until limit from st seen → from.now ≤ st.now
    now_rises from order here = omega arith
    now_rises from order (reacted st after e seen more before fires h) =
        let so_far = now_rises from order before in
        let soon = (fires_ahead n until (limit - st.fired) st e (reaches_ahead from order before) fires).not_past in
        let now : after.now ≡ e.date = ap (λ (a : State). a.now) h.leads in
        omega (arith, so_far, soon, now)
