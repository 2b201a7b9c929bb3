-- The agenda keeps what is pending where a source is programmed, and where the first event is taken.
use Rattle.std.proofs.Common.{◌≡◌, ◌==◌, ◌||◌, ◌⊎◌, inl, inr, Some, None, ℕ, ◌+◌, ◌-◌, ◌<◌, ◌≤◌, nat_lt, zero, suc, get_or, Bool, true, false, ℤ, pos, List, [], ◌∷◌, ◌++◌, All, map, length, take, length-take-le, take_all, if◌then◌else◌, refl, sym, ◌∙◌, ap, subst, arith}
use Rattle.std.proofs.lemmas.Bool.Decides.{nat_tests}
use Rattle.std.proofs.lemmas.Int.{ints}
use Rattle.std.proofs.lemmas.List.{get_or_default, take_more}
use Rattle.std.specs.Prelude.{negsuc, ◌<ℤ◌, ◌≤ℤ◌, unsigned_abs}
use Rattle.std.specs.Int.{FitsUnsignedBits}
use Rattle.sci_links.specs.Table.{counted}
use Rattle.sci_forms.specs.Form.{is_sync}
use Rattle.sci_forms.specs.Typed.{typed}
use Rattle.sci_net.specs.declared.Feed.{Feed}
use Rattle.sci_net.specs.declared.Source.{Source}
use Rattle.sci_net.specs.declared.Source.TheVariants.{Start, Port}
use Rattle.sci_net.specs.Parts.{Parts, IsActivationOutput, numbered, spec_of}
use Rattle.sci_net.specs.Sources.{sources_of, source_of}
use Rattle.sci_reaction.proofs.Sources.{sources_are}
use Rattle.sci_pending.specs.Pending.{Event, Pending, is_earlier, earlier, next, without, without_source, replaced}
use Rattle.sci_pending.specs.Order.{put_sorted, sorted, due, in_order}
use Rattle.sci_agenda.specs.Firing.{Meaning, MayPut, IsPort, put_behind, is_pending as waits, without as without_due, first, first_date, taken_from, after_put, after_take, after_remove}
use Rattle.sci_agenda.proofs.InOrder.{firing_order}
use Rattle.sci_agenda.proofs.Replaced.{replacing}
use Rattle.sci_base.specs.declared.observation.EndWord.TheVariants.{Halt, Events, Empty, Until}
use Rattle.sci_run.specs.Activity.{halts}
use Rattle.sci_run.specs.Order.{IsAhead}
use Rattle.sci_run.specs.Run.{State, Over, Fires, in_time, comes_next}
use Rattle.sci_run.specs.Programs.{firing_of, first_pending, with_delay, with_delays}
use Rattle.sci_run.proofs.Ordered.{by_cases, none_of, programmed_ahead, taken_ahead, typed_firing}
use Rattle.sci_sim.specs.Programming.{firing_at, less, Keeps}
use Rattle.sci_sim.specs.Steps.{end_due}

-- ---- the first events

pub port_at : (n : Parts) (k : ℕ) (q : Feed) → k < length (sources_of n) → Port q ≡ source_of n k
    → IsActivationOutput n q.block q.port × (is_sync (spec_of n q.block).kind ≡ false)
port_at n k q h e = (sources_are n (Port q)).0 (k, h, get_or_default (sources_of n) k (Port q) Start h ∙ sym e)

pub numbered_is : {A : Type 0} (d e : A) (xs : List A) (p : ℕ) → 1 ≤ p → p ≤ length xs → get_or xs (p - 1) d ≡ numbered e xs p
numbered_is d e xs zero least most = absurd (omega arith)
numbered_is d e xs (suc p) least most = ap (λ (k : ℕ). get_or xs k d) (let same : suc p - 1 ≡ p = omega arith in same) ∙ get_or_default xs p d e (omega arith)

pub firing_small : (n : Parts) (q : Feed) → typed (spec_of n q.block) ≡ true → firing_of n q <ℤ pos 2147483648
firing_small n q h = let small = typed_firing (spec_of n q.block) q.port h in omega (arith, ints, small)

-- ---- dates that are less

-- none falls due before this date
abbrev pub AreFrom : ℕ → List (ℕ × ℕ) → Type 0
AreFrom k [] = Unit {0}
AreFrom k (e ∷ es) = (k ≤ e.0) × AreFrom k es

either : (f : ℕ × ℕ → ℕ × ℕ) (b : Bool) (x y u v : List (ℕ × ℕ)) → x ≡ map f u → y ≡ map f v → (if b then x else y) ≡ map f (if b then u else v)
either f true x y u v p q = p
either f false x y u v p q = q

less_before : (offset a b : ℕ) → offset ≤ a → offset ≤ b → nat_lt (a - offset) (b - offset) ≡ nat_lt a b
less_before offset a b h k = grind (arith, nat_tests)

less_put : (offset : ℕ) (e : ℕ × ℕ) (es : List (ℕ × ℕ)) → offset ≤ e.0 → AreFrom offset es
    → put_behind (less offset e) (map (less offset) es) ≡ map (less offset) (put_behind e es)
less_put offset e [] h all = refl
less_put offset e (x ∷ xs) h all =
    let f = less offset in
    ap (λ (b : Bool). if b then f e ∷ map f (x ∷ xs) else f x ∷ put_behind (f e) (map f xs)) (less_before offset e.0 x.0 h all.0)
    ∙ either f (nat_lt e.0 x.0) (f e ∷ map f (x ∷ xs)) (f x ∷ put_behind (f e) (map f xs)) (e ∷ x ∷ xs) (x ∷ put_behind e xs) refl
    (ap (λ (l : List (ℕ × ℕ)). f x ∷ l) (less_put offset e xs h all.1))

less_waits : (offset source : ℕ) (es : List (ℕ × ℕ)) → waits source (map (less offset) es) ≡ waits source es
less_waits offset source [] = refl
less_waits offset source (e ∷ es) = ap (λ (b : Bool). (source == e.1) || b) (less_waits offset source es)

less_without : (offset source : ℕ) (es : List (ℕ × ℕ)) → without_due source (map (less offset) es) ≡ map (less offset) (without_due source es)
less_without offset source [] = refl
less_without offset source (e ∷ es) =
    let f = less offset in
    either f (source == e.1) (map f es) (f e ∷ without_due source (map f es)) es (e ∷ without_due source es) refl
    (ap (λ (l : List (ℕ × ℕ)). f e ∷ l) (less_without offset source es))

from_without : (k source : ℕ) (es : List (ℕ × ℕ)) → AreFrom k es → AreFrom k (without_due source es)
from_without k source [] h = tt
from_without k source (e ∷ es) h =
    by_cases (source == e.1) (AreFrom k) es (e ∷ without_due source es) (λ _. h.1) (λ _. (h.0, from_without k source es h.1))

from_put : (k : ℕ) (e : Event) (es : List Event) → k ≤ e.date → AreFrom k (map due es) → AreFrom k (map due (put_sorted e es))
from_put k e [] h all = (h, tt)
from_put k e (x ∷ xs) h all =
    by_cases (is_earlier e x) (λ (l : List Event). AreFrom k (map due l)) (e ∷ x ∷ xs) (x ∷ put_sorted e xs) (λ _. (h, all))
    (λ _. (all.0, from_put k e xs h all.1))

pub from_sorted : (k : ℕ) (es : List Event) → All (λ e. k ≤ e.date) es → AreFrom k (in_order es)
from_sorted k [] h = tt
from_sorted k (e ∷ es) h =
    from_put k e (sorted es) (h 0 e (omega arith)) (from_sorted k es (λ j d l. h (suc j) d (omega (arith, l))))

-- ---- a source is programmed

below_limit : (d : ℕ) → d < 2147483648 → pos d ≤ℤ pos 2147483647
below_limit d h = omega (arith, ints, h)

-- a delay of 0 or more, as a number of ticks
pub ticks_are : (delay : ℤ) (ticks : ℕ) → FitsUnsignedBits 64 delay × (ticks ≡ unsigned_abs delay) → delay ≡ pos ticks
ticks_are (pos d) ticks h = ap pos (sym h.1)
ticks_are (negsuc d) ticks h = absurd h.0

pub ticks_small : (delay : ℤ) (ticks : ℕ) → delay ≡ pos ticks → delay <ℤ pos 2147483648 → ticks < 2147483648
ticks_small delay ticks e h = omega (arith, ints, e, h)

module _ (n : Parts) (offset date : ℕ) (m : Meaning) (puts : ℕ) (p : Pending) (keeps : Keeps n offset (date + offset) m puts p) where
  now_is : m.now ≡ date
  now_is = let d = keeps.date in omega arith

  all_from : AreFrom offset (in_order p.events)
  all_from = from_sorted offset p.events (λ k e l. let a = (keeps.pending.ahead k e l).not_past in omega (arith, a))

  without_is : (s : ℕ) → without_due s m.events ≡ map (less offset) (in_order (without_source s p.events))
  without_is s =
      ap (without_due s) keeps.events ∙ (less_without offset s (in_order p.events)
      ∙ ap (map (less offset)) (sym (replacing.taken_out s p.events keeps.pending.once)))

  free_without : (s : ℕ) → waits s (without_due s m.events) ≡ false
  free_without s =
      ap (waits s) (without_is s) ∙ (less_waits offset s (in_order (without_source s p.events))
      ∙ (firing_order.pending s (without_source s p.events) ∙ none_of s p.events))

  put_is : (d s : ℕ) → put_behind (date + d, s) (without_due s m.events) ≡ map (less offset) (in_order (replaced p (date + offset + d) s).events)
  put_is d s =
      let es : List (ℕ × ℕ) = without_due s (in_order p.events) in
      let same : date + d ≡ date + offset + d - offset = omega arith in
      ap (λ (v : List (ℕ × ℕ)). put_behind (date + d, s) v) (ap (without_due s) keeps.events ∙ less_without offset s (in_order p.events))
      ∙ (ap (λ (v : ℕ). put_behind (v, s) (map (less offset) es)) same
      ∙ (less_put offset (date + offset + d, s) es (omega arith) (from_without offset s (in_order p.events) all_from)
      ∙ ap (map (less offset)) (sym (replacing.put_anew p (date + offset + d) s keeps.pending.numbered keeps.pending.once))))

  -- where its event is taken out
  pub may_put_without : (d s : ℕ) → IsPort m s → d < 2147483648 → MayPut (after_remove m s) (date + d) s
  may_put_without d s port small =
      let date_is = now_is in
      record { port = record { least = port.least; most = port.most }; free = free_without s; from = omega (arith, date_is); until = omega (arith, date_is, small) }

  pub keeps_without : (d s : ℕ) → IsPort m s → d < 2147483648
      → Keeps n offset (date + offset) (after_put (after_remove m s) (date + d) s) (counted puts) (with_delay (date + offset) s (pos d) p)
  keeps_without d s port small =
      let c = keeps.counted in
      let most : s < length (sources_of n) = let r = keeps.ports in let q = port.most in omega arith in
      record {
        ports = keeps.ports;
        past = keeps.past;
        date = keeps.date;
        pending = programmed_ahead n (date + offset) s (pos d) p port.least most (below_limit d small) keeps.pending;
        events = put_is d s;
        counted = omega arith;
      }

  -- where none of it waits
  none_out : (s : ℕ) → waits s m.events ≡ false → after_remove m s ≡ m
  none_out s none = ap (λ (v : List (ℕ × ℕ)). let w : Meaning = record { events = v; now = m.now; ports = m.ports } in w) (replacing.absent s m.events none)

  pub may_put : (d s : ℕ) → IsPort m s → d < 2147483648 → waits s m.events ≡ false → MayPut m (date + d) s
  may_put d s port small none = subst (λ (w : Meaning). MayPut w (date + d) s) (none_out s none) (may_put_without d s port small)

  pub keeps_put : (d s : ℕ) → IsPort m s → d < 2147483648 → waits s m.events ≡ false
      → Keeps n offset (date + offset) (after_put m (date + d) s) (counted puts) (with_delay (date + offset) s (pos d) p)
  keeps_put d s port small none =
      subst (λ (w : Meaning). Keeps n offset (date + offset) (after_put w (date + d) s) (counted puts) (with_delay (date + offset) s (pos d) p))
      (none_out s none) (keeps_without d s port small)

-- ---- one source after another

pub with_more : (date : ℕ) (f : Feed → ℤ) (k : ℕ) (xs ys : List Source) (p : Pending)
    → with_delays date f k (xs ++ ys) p ≡ with_delays date f (k + length xs) ys (with_delays date f k xs p)
with_more date f k [] ys p = ap (λ (j : ℕ). with_delays date f j ys p) (let same : k ≡ k + 0 = omega arith in same)
with_more date f k (Start ∷ xs) ys p =
    with_more date f (k + 1) xs ys p
    ∙ ap (λ (j : ℕ). with_delays date f j ys (with_delays date f (k + 1) xs p)) (let same : k + 1 + length xs ≡ k + suc (length xs) = omega arith in same)
with_more date f k (Port q ∷ xs) ys p =
    let r = with_delay date k (f q) p in
    with_more date f (k + 1) xs ys r
    ∙ ap (λ (j : ℕ). with_delays date f j ys (with_delays date f (k + 1) xs r)) (let same : k + 1 + length xs ≡ k + suc (length xs) = omega arith in same)

first_one : (n : Parts) (date k : ℕ) (s : Source) (p : Pending) → with_delays date (firing_of n) k (s ∷ []) p ≡ with_delay date k (firing_at n s) p
first_one n date k Start p = refl
first_one n date k (Port q) p = refl

-- the sources up to k have programmed their first events
abbrev pub first_to : Parts → ℕ → Pending
first_to n k = with_delays 0 (firing_of n) 0 (take k (sources_of n)) (record { events = []; programmed = 0 })

pub first_more : (n : Parts) (k : ℕ) → k < length (sources_of n) → with_delay 0 k (firing_at n (source_of n k)) (first_to n k) ≡ first_to n (k + 1)
first_more n k h =
    let none : Pending = record { events = []; programmed = 0 } in
    let len : length (take k (sources_of n)) ≡ k = length-take-le k (sources_of n) (omega arith) in
    sym (ap (λ (ss : List Source). with_delays 0 (firing_of n) 0 ss none) (take_more (sources_of n) k Start h)
    ∙ (with_more 0 (firing_of n) 0 (take k (sources_of n)) (source_of n k ∷ []) none
    ∙ (ap (λ (j : ℕ). with_delays 0 (firing_of n) j (source_of n k ∷ []) (first_to n k))
    (let same : 0 + length (take k (sources_of n)) ≡ k = omega arith in same)
    ∙ first_one n 0 k (source_of n k) (first_to n k))))

pub first_all : (n : Parts) (k : ℕ) → length (sources_of n) ≤ k → first_to n k ≡ first_pending n
first_all n k h = ap (λ (ss : List Source). with_delays 0 (firing_of n) 0 ss (record { events = []; programmed = 0 })) (take_all k (sources_of n) h)

pub keeps_none : (n : Parts) (m : Meaning) (puts : ℕ) → m ≡ record { events = []; now = 0; ports = length (sources_of n) - 1 } → puts ≡ 0
    → Keeps n 0 0 m puts (first_to n 1)
keeps_none n m puts e z =
    subst (λ (w : Meaning). Keeps n 0 0 w puts (first_to n 1)) (sym e)
    (record {
      ports = omega arith;
      past = omega arith;
      date = omega arith;
      pending = record { numbered = tt; once = tt; ahead = λ k d l. absurd (omega (arith, l)) };
      events = refl;
      counted = omega arith;
    })

-- ---- the first event

first_of : (e : ℕ × ℕ) (es fs : List (ℕ × ℕ)) → fs ≡ e ∷ es → (first fs ≡ Some e) × (first_date fs ≡ Some e.0)
first_of e es fs h = (ap first h, ap first_date h)

taken_is : (m : Meaning) (e : ℕ × ℕ) (es : List (ℕ × ℕ)) → m.events ≡ e ∷ es → after_take m ≡ record { events = es; now = e.0; ports = m.ports }
taken_is m e es h = ap (taken_from m) h

below_true : (i k : ℕ) → i < k → nat_lt i k ≡ true
below_true i k h = grind (arith, nat_tests)

below_false : (i k : ℕ) → k ≤ i → nat_lt i k ≡ false
below_false i k h = grind (arith, nat_tests)

not_zero : (k : ℕ) → 1 ≤ k → (k == 0) ≡ false
not_zero k h = grind (arith, nat_tests)

-- what holds of all holds of the next
of_earlier : (P : Event → Type 0) (a : Event) (es : List Event) → P a → All P es → P (earlier a (next es))
of_earlier P a [] h all = h
of_earlier P a (b ∷ bs) h all =
    let m : Event = earlier b (next bs) in
    by_cases (is_earlier a m) P a m (λ _. h) (λ _. of_earlier P b bs (all 0 b (omega arith)) (λ k d l. all (suc k) d (omega (arith, l))))

of_next : (P : Event → Type 0) (es : List Event) (e : Event) → next es ≡ Some e → All P es → P e
of_next P [] e h all = absurd (cc)
of_next P (a ∷ es) e h all =
    let same : earlier a (next es) ≡ e = cc in subst P same (of_earlier P a es (all 0 a (omega arith)) (λ k d l. all (suc k) d (omega (arith, l))))

next_known : (es : List Event) → (next es ≡ None) ⊎ ((e : Event) × (next es ≡ Some e))
next_known [] = inl refl
next_known (a ∷ es) = inr (earlier a (next es), refl)

module _ (n : Parts) (offset now : ℕ) (m : Meaning) (puts : ℕ) (p : Pending) (keeps : Keeps n offset now m puts p) where
  events_are : (e : Event) → next p.events ≡ Some e → m.events ≡ less offset (due e) ∷ map (less offset) (in_order (without e.order p.events))
  events_are e h = keeps.events ∙ ap (map (less offset)) (firing_order.before_others p.programmed p.events e keeps.pending.numbered h)

  -- it is the one that comes next
  pub first_is : (e : Event) → next p.events ≡ Some e → (first m.events ≡ Some (e.date - offset, e.source)) × (first_date m.events ≡ Some (e.date - offset))
  first_is e h = first_of (less offset (due e)) _ m.events (events_are e h)

  pub none_first : next p.events ≡ None → (first m.events ≡ None) × (first_date m.events ≡ None)
  none_first h =
      let none : m.events ≡ [] = keeps.events ∙ ap (map (less offset)) (firing_order.nothing_due p.events h) in (ap first none, ap first_date none)

  -- no sooner than the last reaction
  pub not_past : (e : Event) → next p.events ≡ Some e → now ≤ e.date
  not_past e h = (of_next (IsAhead n now) p.events e h keeps.pending.ahead).not_past

  -- where it is taken, the agenda keeps the others, from its date on
  pub keeps_taken : (e : Event) → next p.events ≡ Some e → Keeps n offset e.date (after_take m) puts (record p { events = without e.order p.events })
  keeps_taken e h =
      let past = keeps.past in
      let soon = not_past e h in
      subst (λ (w : Meaning). Keeps n offset e.date w puts (record p { events = without e.order p.events }))
      (sym (taken_is m (less offset (due e)) _ (events_are e h)))
      (record {
        ports = keeps.ports;
        past = omega (arith, past, soon);
        date = omega (arith, past, soon);
        pending = taken_ahead n now p e h keeps.pending;
        events = refl;
        counted = keeps.counted;
      })

  -- the date of the first event, where there is one
  first_dated : (d : ℕ) → first_date m.events ≡ Some d → (e : Event) × (next p.events ≡ Some e) × (d + offset ≡ e.date)
  first_dated d h = elim (next_known p.events) [
    | inl none ↦ (let some : Some d ≡ None = sym h ∙ (none_first none).1 in absurd (cc))
    | inr some ↦
        (let e = some.0 in
        let both : Some d ≡ Some (e.date - offset) = sym h ∙ (first_is e some.1).1 in
        let same : d ≡ e.date - offset = cc in
        let past = keeps.past in
        let soon = not_past e some.1 in
        (e, some.1, omega (arith, same, past, soon)))
  ]

  pub date_near : (d : ℕ) → first_date m.events ≡ Some d → d + offset < now + 2147483648
  date_near d h =
      let r = first_dated d h in
      let near = (of_next (IsAhead n now) p.events r.0 r.1 keeps.pending.ahead).near in
      omega (arith, near, r.2)

  pub end_empty : (until : ℕ) → first_date m.events ≡ None → in_time until (next p.events) ≡ Over Empty
  end_empty until h = elim (next_known p.events) [
    | inl none ↦ ap (in_time until) none
    | inr some ↦ (let both : None ≡ Some (some.0.date - offset) = sym h ∙ (first_is some.0 some.1).1 in absurd (cc))
  ]

  pub end_late : (until d : ℕ) → first_date m.events ≡ Some d → until < d + offset → in_time until (next p.events) ≡ Over Until
  end_late until d h late =
      let r = first_dated d h in
      let test : nat_lt until r.0.date ≡ true = below_true until r.0.date (omega (arith, late, r.2)) in
      ap (in_time until) r.1 ∙ ap (λ (t : Bool). if t then Over Until else Fires r.0) test

  pub end_fires : (until d : ℕ) → first_date m.events ≡ Some d → d + offset ≤ until → end_due (in_time until (next p.events)) ≡ None
  end_fires until d h soon =
      let r = first_dated d h in
      let test : nat_lt until r.0.date ≡ false = below_false until r.0.date (omega (arith, soon, r.2)) in
      ap end_due (ap (in_time until) r.1 ∙ ap (λ (t : Bool). if t then Over Until else Fires r.0) test)

-- ---- the end that is due

pub end_halted : (n : Parts) (until left : ℕ) (st : State) → true ≡ halts n st.active → comes_next n until left st ≡ Over Halt
end_halted n until left st h =
    ap (λ (t : Bool). if t then Over Halt else if left == 0 then Over Events else in_time until (next st.pending.events)) (sym h)

pub end_events : (n : Parts) (until left : ℕ) (st : State) → false ≡ halts n st.active → left ≡ 0 → comes_next n until left st ≡ Over Events
end_events n until left st h z =
    ap (λ (t : Bool). if t then Over Halt else if left == 0 then Over Events else in_time until (next st.pending.events)) (sym h)
    ∙ ap (λ (k : ℕ). if k == 0 then Over Events else in_time until (next st.pending.events)) z

pub end_by_date : (n : Parts) (until left : ℕ) (st : State) → false ≡ halts n st.active → 1 ≤ left
    → comes_next n until left st ≡ in_time until (next st.pending.events)
end_by_date n until left st h some =
    ap (λ (t : Bool). if t then Over Halt else if left == 0 then Over Events else in_time until (next st.pending.events)) (sym h)
    ∙ ap (λ (t : Bool). if t then Over Events else in_time until (next st.pending.events)) (not_zero left some)
