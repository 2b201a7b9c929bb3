-- The states are saved that a run reaches which goes on from what was saved.
use Rattle.std.proofs.Common.{◌≡◌, ◌≢◌, ℕ, zero, suc, ◌+◌, ◌-◌, ◌^◌, ◌<◌, ◌≤◌, ◌==◌, ◌||◌, ℤ, pos, List, [], ◌∷◌, length, get_or, replicate, All, Bool, true, false, cond, refl, ap, ◌∙◌, arith}
use Rattle.std.specs.List.{AllByRecursion}
use Rattle.std.proofs.lemmas.Int.{ints}
use Rattle.std.proofs.lemmas.Bool.Decides.{nat_tests}
use Rattle.sci_base.specs.declared.observation.Obs.{Obs}
use Rattle.sci_forms.specs.declared.Kind.{Kind}
use Rattle.sci_forms.specs.declared.Kind.TheVariants.{ModuloCount}
use Rattle.sci_forms.specs.declared.spec.Spec.{Spec}
use Rattle.sci_forms.specs.Words.{state_len_of}
use Rattle.sci_net.specs.Parts.{Parts, IsBlock, no_spec, numbered, spec_of, column_of}
use Rattle.sci_forms.specs.Form.{is_sensor}
use Rattle.sci_net.specs.Net.{IsNet}
use Rattle.sci_reaction.specs.Memory.{Columns, AreColumns}
use Rattle.sci_pending.specs.Pending.{Event, Pending, next, is_pending, programmed}
use Rattle.sci_run.specs.Activity.{halts}
use Rattle.sci_run.specs.Anew.{programmed_in_order, numbered_anew, Rises}
use Rattle.sci_run.specs.Laws.{AreLoopFree}
use Rattle.sci_run.specs.Order.{IsAhead, PendingInOrder}
use Rattle.sci_run.specs.Run.{State, ReachableFrom, here, reacted}
use Rattle.sci_run.proofs.Ordered.{reaches_ahead}
use Rattle.sci_run.proofs.Ranges.{reaches_in_range, fires_within}
use Rattle.sci_save.specs.Saved.{Saved, memory_of}
use Rattle.sci_save.specs.Bounds.{from_to, AreWithin, AreByBlock, state_bound_of, state_bounds, cursor_bounds}
use Rattle.sci_save.specs.Text.{cursor_rows}
use Rattle.sci_save.specs.Valid.{AreCursors, IsNear, AreOnce, ArePending, IsShaped, IsValid}
use Rattle.sci_save.specs.Resumed.{state_of, IsSavedOf}
use Rattle.sci_save.proofs.InRange.{block_at, saved_in_range}
use Rattle.sci_save.proofs.Reached.{IsCounter, Goes, Takes, reaches_goes, reaches_takes, stands_saved}

-- ---- counters and cursors

counter_saved : (k : Kind) (s : Spec) (x : List ℤ) → AreWithin (replicate (state_len_of k s) (state_bound_of k s)) x → IsCounter k s x
counter_saved ModuloCount s [] w = absurd w
counter_saved ModuloCount s (v ∷ vs) w = w.0
counter_saved _ s x w = tt

one_taken : (t : Bool) (len c : ℕ) → t ≡ true → AreWithin (cond t (from_to (pos 0) (pos len) ∷ []) []) (cond t (pos c ∷ []) []) → c ≤ len
one_taken true len c e w = let most = w.0.below in omega (arith, ints, most)
one_taken false len c e w = absurd cc

cursor_taken : (i : Columns) (ss : List Spec) (cs : List ℕ) (k : ℕ) → AreByBlock (cursor_bounds i) ss (cursor_rows ss cs) → k < length ss → is_sensor (get_or ss k no_spec).kind ≡ true
    → get_or cs k 0 ≤ length (numbered [] i (column_of (get_or ss k no_spec)))
cursor_taken i [] cs k w h t = absurd (omega (arith, h))
cursor_taken i (s ∷ ss) [] k w h t = absurd w
cursor_taken i (s ∷ ss) (c ∷ cs) zero w h t = one_taken (is_sensor s.kind) (length (numbered [] i (column_of s))) c t w.0
cursor_taken i (s ∷ ss) (c ∷ cs) (suc k) w h t = cursor_taken i ss cs k w.1 (omega (arith, h)) t

no_cursor : (ss : List Spec) (cs : List ℕ) (k : ℕ) → AreCursors ss cs → k < length ss → is_sensor (get_or ss k no_spec).kind ≡ false → get_or cs k 0 ≡ 0
no_cursor [] cs k w h t = absurd (omega (arith, h))
no_cursor (s ∷ ss) [] k w h t = absurd w
no_cursor (s ∷ ss) (c ∷ cs) zero w h t = w.0 t
no_cursor (s ∷ ss) (c ∷ cs) (suc k) w h t = no_cursor ss cs k w.1 (omega (arith, h)) t

module _ (n : Parts) (m : Saved) (shaped : IsShaped n m) where
  counters : (b : ℕ) → IsBlock n b → IsCounter (spec_of n b).kind (spec_of n b) (numbered [] m.states b)
  counters zero block = absurd (let l = block.least in omega arith)
  counters (suc k) block =
      let h : k < length n.specs = let l = block.most in omega arith in
      counter_saved (spec_of n (suc k)).kind (spec_of n (suc k)) (numbered [] m.states (suc k)) (block_at state_bounds n.specs m.states k shaped.states h)

  others : (b : ℕ) → IsBlock n b → is_sensor (spec_of n b).kind ≡ false → numbered 0 m.cursors b ≡ 0
  others zero block t = absurd (let l = block.least in omega arith)
  others (suc k) block t = let h : k < length n.specs = let l = block.most in omega arith in no_cursor n.specs m.cursors k shaped.cursors h t

  saved_goes : Goes n (memory_of m)
  saved_goes = record { counters = counters; others = others }

module _ (n : Parts) (i : Columns) (m : Saved) (valid : IsValid n i m) where
  taken : (b : ℕ) → IsBlock n b → is_sensor (spec_of n b).kind ≡ true → numbered 0 m.cursors b ≤ length (numbered [] i (column_of (spec_of n b)))
  taken zero block t = absurd (let l = block.least in omega arith)
  taken (suc k) block t = let h : k < length n.specs = let l = block.most in omega arith in cursor_taken i n.specs m.cursors k valid.taken h t

  saved_takes : Takes n i (memory_of m)
  saved_takes b s = taken b s.block s.sensor

-- ---- what is pending

-- of none of these sources an event is pending
abbrev AreFree : Pending → List (ℕ × ℕ) → Type 0
AreFree p ds = AllByRecursion (λ (d : ℕ × ℕ). is_pending d.1 p.events ≡ false) ds

free_of_none : (k : ℕ) (ds : List (ℕ × ℕ)) → AreFree (record { events = []; programmed = k }) ds
free_of_none k [] = tt
free_of_none k (d ∷ ds) = (refl, free_of_none k ds)

eqb_no : (a b : ℕ) → b ≢ a → (a == b) ≡ false
eqb_no a b h = grind (arith, nat_tests)

free_more : (p : Pending) (date s : ℕ) (ds : List (ℕ × ℕ)) → AllByRecursion (λ (e : ℕ × ℕ). e.1 ≢ s) ds → AreFree p ds → AreFree (programmed p date s) ds
free_more p date s [] o f = tt
free_more p date s (d ∷ ds) o f = (ap (λ (t : Bool). t || is_pending d.1 p.events) (eqb_no s d.1 o.0) ∙ f.0, free_more p date s ds o.1 f.1)

one_ahead : (n : Parts) (now : ℕ) (e : Event) (es : List Event) → IsAhead n now e → All (IsAhead n now) es → All (IsAhead n now) (e ∷ es)
one_ahead n now e es h a zero d l = h
one_ahead n now e es h a (suc k) d l = a k d (omega (arith, l))

programmed_ahead : (n : Parts) (now date : ℕ) (ds : List (ℕ × ℕ)) (p : Pending) → PendingInOrder n now p → AreFree p ds → now ≤ date → Rises date ds → AllByRecursion (IsNear n now) ds → AreOnce ds
    → PendingInOrder n now (programmed_in_order ds p)
programmed_ahead n now date [] p order free from rises near once = order
programmed_ahead n now date (d ∷ ds) p order free from rises near once =
    let later = rises.0 in
    let soon : now ≤ d.0 = omega (arith, from, later) in
    let e : Event = record { date = d.0; order = p.programmed; source = d.1 } in
    programmed_ahead n now d.0 ds (programmed p d.0 d.1)
    (record {
      numbered = (omega arith, order.numbered);
      once = (free.0, order.once);
      ahead = one_ahead n now e p.events (record { not_start = near.0.not_start; source = near.0.source; not_past = soon; near = near.0.near }) order.ahead;
    })
    (free_more p d.0 d.1 ds once.0 free.1) soon rises.1 near.1 once.1

anew_ahead : (n : Parts) (now : ℕ) (ds : List (ℕ × ℕ)) → ArePending n now ds → PendingInOrder n now (numbered_anew ds)
anew_ahead n now ds a =
    programmed_ahead n now now ds (record { events = []; programmed = 0 })
    (record { numbered = tt; once = tt; ahead = λ k d l. absurd (omega (arith, l)) })
    (free_of_none 0 ds) (omega arith) a.rises a.near a.once

-- ---- bounds

-- An event fires only within the bounds. So what was within those of words stays so.
reaches_few : (n : Parts) (i : Columns) (until limit : ℕ) → until ≤ 2 ^ 62 → limit ≤ 1000000 → (from : State) → from.fired ≤ 1000000 → from.now ≤ 2 ^ 62 → {st : State} → {seen : List Obs}
    → ReachableFrom n i until limit from st seen → (st.fired ≤ 1000000) × (st.now ≤ 2 ^ 62)
reaches_few n i until limit early few from f t here = (f, t)
reaches_few n i until limit early few from f t (reacted st after e seen more before fires h) =
    let w = fires_within until (limit - st.fired) (halts n st.active) (next st.pending.events) e fires in
    let fired : after.fired ≡ st.fired + 1 = ap (λ (a : State). a.fired) h.leads in
    let now : after.now ≡ e.date = ap (λ (a : State). a.now) h.leads in
    (omega (arith, fired, w.0, few), omega (arith, now, w.1, early))

-- ---- what is saved

pub rest_is_saved : (n : Parts) (i : Columns) (until limit : ℕ) (m : Saved) (st : State) (seen : List Obs) → IsNet n → AreLoopFree n → AreColumns n i → until ≤ 2 ^ 62 → limit ≤ 1000000
    → IsShaped n m → ReachableFrom n i until limit (state_of m) st seen → (o : Saved) × IsSavedOf n st o × (IsValid n i m → IsValid n i o)
rest_is_saved n i until limit m st seen net free columns early few shaped stands =
    let bounds = reaches_few n i until limit early few (state_of m) shaped.fired shaped.now stands in
    let saved = stands_saved n i st (reaches_in_range n i net free columns until limit (state_of m) (saved_in_range n m net shaped) stands)
    (reaches_goes n i net until limit (state_of m) (saved_goes n m shaped) stands)
    (reaches_ahead n net i until limit (state_of m) (anew_ahead n m.now m.pending shaped.pending) stands) bounds.0 bounds.1 in
    (saved.0, saved.1, λ valid. saved.2 (reaches_takes n i net until limit (state_of m) (saved_takes n i m valid) stands))
