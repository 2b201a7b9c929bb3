-- A dump that has followed a run up to a reaction may be completed: the run goes on, and so does the dump.
use Rattle.std.proofs.Common.{◌≡◌, ℕ, zero, suc, ◌+◌, ◌-◌, ◌^◌, ◌<◌, ◌≤◌, ℤ, pos, List, [], ◌∷◌, ◌++◌, take, drop, length, get_or, Bool, true, false, inl, inr, refl, sym, ap, ◌∙◌, subst, arith, append_assoc, length-append}
use Rattle.std.specs.Prelude.{Option, nat_eq, if◌then◌else◌}
use Rattle.std.proofs.lemmas.Bool.{cases_lt}
use Rattle.std.proofs.lemmas.List.{get_or_append_left}
use Rattle.std.proofs.Math.Seq.{get_or-append_right, drop-append-add, take-append_seam}
use Rattle.sci_base.specs.declared.Ty.{Ty}
use Rattle.sci_base.specs.declared.observation.Obs.{Obs}
use Rattle.sci_base.specs.Fit.{in_range}
use Rattle.sci_base.specs.Lists.{at}
use Rattle.sci_base.proofs.FitLemmas.{in_range_yes}
use Rattle.sci_forms.specs.declared.spec.Spec.{Spec}
use Rattle.sci_forms.specs.Ports.{total, type_at, Fills}
use Rattle.sci_net.specs.Parts.{Parts, IsBlock, spec_of, no_spec}
use Rattle.sci_net.specs.Net.{IsNet, all_elements}
use Rattle.sci_net.specs.Sources.{source_of}
use Rattle.sci_net.proofs.Numbered.{numbered_next}
use Rattle.sci_places.specs.Flat.{start_in, start_of, values_at}
use Rattle.sci_reaction.specs.Memory.{Memory, Columns, AreColumns, IsMemory}
use Rattle.sci_run.specs.Laws.{AreLoopFree}
use Rattle.sci_run.specs.Run.{State, taken, ReactionOutcome, Leads, StopsWith, Decision, Over, Fires, comes_next, Reacts, EndsOr, Observes, IsRunFrom, IsOutcome, Then}
use Rattle.sci_pending.specs.Pending.{Event}
use Rattle.sci_run.proofs.Ranges.{stands_in_range, now_within}
use Rattle.sci_run.proofs.Ordered.{stands_ahead, fires_ahead}
use Rattle.sci_run.proofs.Traces.{some_rest}
use Rattle.sci_vcd.specs.declared.signal.Signal.{Signal}
use Rattle.sci_vcd.specs.Waveforms.{Waveforms, no_signal}
use Rattle.sci_vcd.specs.Spelling.{spelling}
use Rattle.sci_vcd.specs.Signals.{block_signals, output_signals, signals_of}
use Rattle.sci_vcd.specs.Writing.{Writing, IsWriting, AreOf, text_of, told_at, tick_text, closed_at}
use Rattle.sci_vcd.proofs.OfNet.{net_signals, output_signals_length}
use Rattle.sci_wave.specs.History.{IsHistory, event, IsWholeHistory, ended, stopped}
use Rattle.sci_wave.specs.RunDump.{IsRunDump}
use Rattle.sci_wave.specs.Following.{IsFollowed, due_text, moved_to}
use Rattle.sci_wave.proofs.Blockwise.{block_type}
use Rattle.sci_wave.proofs.Followed.{history_reaches, whole_dump, goes_on}

-- ---- the values of all blocks in one list

gathered : (ℕ → List ℤ) → (b : ℕ) → List Spec → List ℤ
gathered y b [] = []
gathered y b (s ∷ ss) = y b ++ gathered y (b + 1) ss

-- each block has as many values as its outputs have elements
abbrev AreLong : (ℕ → List ℤ) → (b : ℕ) → List Spec → Type 0
AreLong y b ss = (k : ℕ) → k < length ss → length (y (b + k)) ≡ total (get_or ss k no_spec).outs

rest_long : (y : ℕ → List ℤ) (b : ℕ) (s : Spec) (ss : List Spec) → AreLong y b (s ∷ ss) → AreLong y (b + 1) ss
rest_long y b s ss h k within = let e : b + suc k ≡ (b + 1) + k = omega arith in subst (λ (c : ℕ). length (y c) ≡ total (get_or ss k no_spec).outs) e (h (suc k) (omega (arith, within)))

first_long : (y : ℕ → List ℤ) (b : ℕ) (s : Spec) (ss : List Spec) → AreLong y b (s ∷ ss) → length (y b) ≡ total s.outs
first_long y b s ss h = let e : b + 0 ≡ b = omega arith in subst (λ (c : ℕ). length (y c) ≡ total s.outs) e (h 0 (omega arith))

gathered_length : (y : ℕ → List ℤ) (b : ℕ) (ss : List Spec) → AreLong y b ss → length (gathered y b ss) ≡ all_elements ss
unfolding gathered
gathered_length y b [] h = refl
gathered_length y b (s ∷ ss) h =
    let l = length-append (y b) (gathered y (b + 1) ss) in
    let f = first_long y b s ss h in
    let g = gathered_length y (b + 1) ss (rest_long y b s ss h) in
    omega (arith, l, f, g)

gathered_at : (y : ℕ → List ℤ) (b : ℕ) (ss : List Spec) (k : ℕ) → AreLong y b ss → k < length ss → take (total (get_or ss k no_spec).outs) (drop (start_in ss k) (gathered y b ss)) ≡ y (b + k)
unfolding gathered
gathered_at y b [] k h within = absurd (omega (arith, within))
gathered_at y b (s ∷ ss) zero h within =
    let f = first_long y b s ss h in
    let e : b + 0 ≡ b = omega arith in
    ap (λ (n : ℕ). take n (y b ++ gathered y (b + 1) ss)) (sym f) ∙ take-append_seam (y b) (gathered y (b + 1) ss) ∙ ap y (sym e)
gathered_at y b (s ∷ ss) (suc k) h within =
    let f = first_long y b s ss h in
    let e : (b + 1) + k ≡ b + suc k = omega arith in
    ap (λ (n : ℕ). take (total (get_or ss k no_spec).outs) (drop (n + start_in ss k) (y b ++ gathered y (b + 1) ss))) (sym f)
    ∙ ap (take (total (get_or ss k no_spec).outs)) (drop-append-add (y b) (gathered y (b + 1) ss) (start_in ss k))
    ∙ gathered_at y (b + 1) ss k (rest_long y b s ss h) (omega (arith, within)) ∙ ap y e

-- the values are of the types of their signals
gathered_fits : (y : ℕ → List ℤ) (b : ℕ) (ss : List Spec) (i : ℕ) → ((k : ℕ) → k < length ss → Fills (get_or ss k no_spec).outs (y (b + k))) → i < all_elements ss
    → in_range (get_or (block_signals b ss) i no_signal).ty (get_or (gathered y b ss) i (pos 0)) ≡ true
unfolding gathered
gathered_fits y b [] i h within = absurd (omega (arith, within))
gathered_fits y b (s ∷ ss) i h within =
    let here : b + 0 ≡ b = omega arith in
    let fills : Fills s.outs (y b) = subst (λ (c : ℕ). Fills s.outs (y c)) here (h 0 (omega arith)) in
    let long = fills.enough in
    elim (cases_lt i (total s.outs)) [
      | inl lower ↦
          let none : 0 + i ≡ i = omega arith in
          let r = fills.in_range i lower in
          let ty = ap (λ (j : ℕ). (get_or (block_signals b (s ∷ ss)) j no_signal).ty) (sym none) ∙ block_type b (s ∷ ss) 0 i (omega arith) lower in
          subst (λ (t : Ty). in_range t (get_or (y b ++ gathered y (b + 1) ss) i (pos 0)) ≡ true) (sym ty)
          (subst (λ (v : ℤ). in_range (type_at s.outs i) v ≡ true) (sym (get_or_append_left (y b) (gathered y (b + 1) ss) (pos 0) i (omega (arith, long, lower))))
          (in_range_yes (type_at s.outs i) (at (y b) i) r.above r.below))
      | inr above ↦
          let os = output_signals_length b 1 s.outs in
          let e : i - length (y b) ≡ i - total s.outs = omega (arith, long) in
          let f : i - length (output_signals b 1 s.outs) ≡ i - total s.outs = omega (arith, os) in
          subst (λ (g : Signal). in_range g.ty (get_or (y b ++ gathered y (b + 1) ss) i (pos 0)) ≡ true)
          (sym (get_or-append_right (output_signals b 1 s.outs) (block_signals (b + 1) ss) i no_signal (omega (arith, os, above)) ∙ ap (λ (j : ℕ). get_or (block_signals (b + 1) ss) j no_signal) f))
          (subst (λ (v : ℤ). in_range (get_or (block_signals (b + 1) ss) (i - total s.outs) no_signal).ty v ≡ true)
          (sym (get_or-append_right (y b) (gathered y (b + 1) ss) i (pos 0) (omega (arith, long, above)) ∙ ap (λ (j : ℕ). get_or (gathered y (b + 1) ss) j (pos 0)) e))
          (gathered_fits y (b + 1) ss (i - total s.outs) (λ k g. let s2 : b + suc k ≡ (b + 1) + k = omega arith in subst (λ (c : ℕ). Fills (get_or ss k no_spec).outs (y c)) s2 (h (suc k) (omega (arith, g)))) (omega (arith, within, above))))
    ]

pub all_held : Parts → Memory → List ℤ
unfolding gathered
all_held n m = gathered m.held 1 n.specs

block_fills : (n : Parts) (m : Memory) → IsMemory n m → (k : ℕ) → k < length n.specs → Fills (get_or n.specs k no_spec).outs (m.held (1 + k))
block_fills n m h k within =
    let e : k + 1 ≡ 1 + k = omega arith in
    subst (λ (s : Spec). Fills s.outs (m.held (1 + k))) (ap (spec_of n) (sym e) ∙ numbered_next no_spec n.specs k) (h.held (1 + k) (record { least = omega arith; most = omega (arith, within) }))

pub all_held_at : (n : Parts) (m : Memory) → IsMemory n m → (b : ℕ) → IsBlock n b → values_at n (all_held n m) b ≡ m.held b
unfolding all_held gathered
all_held_at n m h b block =
    let least = block.least in
    let most = block.most in
    let k = b - 1 in
    let e : k + 1 ≡ b = omega (arith, least) in
    let f : 1 + k ≡ b = omega (arith, least) in
    let spec : spec_of n b ≡ get_or n.specs k no_spec = ap (spec_of n) (sym e) ∙ numbered_next no_spec n.specs k in
    ap (λ (s : Spec). take (total s.outs) (drop (start_of n b) (gathered m.held 1 n.specs))) spec
    ∙ gathered_at m.held 1 n.specs k (λ j g. (block_fills n m h j g).enough) (omega (arith, least, most)) ∙ ap m.held f

-- each is of its signal's type
pub all_held_fit : (n : Parts) (m : Memory) → IsNet n → IsMemory n m → AreOf (signals_of n) (all_held n m)
unfolding all_held gathered
all_held_fit n m net h =
    let count = net_signals n net in
    let long = gathered_length m.held 1 n.specs (λ j g. (block_fills n m h j g).enough) in
    record {
      one_each = long ∙ sym count.1;
      fit = λ k least most. gathered_fits m.held 1 n.specs (k - 1) (block_fills n m h) (let c = count.1 in omega (arith, c, least, most));
    }

-- these values noted
all_noted : (n : Parts) (o : Writing) (m : Memory) → IsNet n → o.signals ≡ signals_of n → IsWriting o → IsMemory n m → IsWriting (record o { noted = all_held n m })
all_noted n o m net signals w h = record {
  signals = w.signals;
  some = w.some;
  few = w.few;
  written = w.written;
  noted = subst (λ (gs : List Signal). AreOf gs (all_held n m)) (sym signals) (all_held_fit n m net h);
}

closed_writing : (o : Writing) (t : ℕ) → IsWriting o → IsWriting (closed_at o t)
closed_writing o t w = record { signals = w.signals; some = w.some; few = w.few; written = w.noted.one_each; noted = w.noted }

moved_writing : (o : Writing) (date now : ℕ) → IsWriting o → IsWriting (moved_to o date now)
moved_writing o date now w = chosen (nat_eq now date)
  where
    chosen : (b : Bool) → IsWriting (if b then o else closed_at o date)
    chosen true = w
    chosen false = closed_writing o date w

moved_signals : (o : Writing) (date now : ℕ) → (moved_to o date now).signals ≡ o.signals
moved_signals o date now = chosen (nat_eq now date)
  where
    chosen : (b : Bool) → (if b then o else closed_at o date).signals ≡ o.signals
    chosen true = refl
    chosen false = refl

-- ---- the rest of the run

module _ (n : Parts) (i : Columns) (until limit : ℕ) (net : IsNet n) (free : AreLoopFree n) (columns : AreColumns n i) (early : until ≤ 2 ^ 62) where
  -- the dump of the run, whose text begins with this
  pub Completes : Option Waveforms → Type 0
  Completes told = (w : Waveforms) × (more : List ℕ) × IsRunDump n i until limit w × (spelling w ≡ text_of told ++ more)

  pub reached_early : (states : List State) (st : State) → IsHistory n i until limit states st → st.now ≤ 2 ^ 62
  reached_early states st h = let r = history_reaches n i until limit h in let w = now_within n i until limit st r.0 r.1 in omega (arith, w, early)

  -- the event that comes next isn't past
  pub rises : (states : List State) (st after : State) (e : Event) (seen : List Obs) → IsHistory n i until limit states st → comes_next n until (limit - st.fired) st ≡ Fires e
      → Reacts n i e.date (source_of n e.source) (taken st e) after seen → st.now ≤ after.now
  rises states st after e seen h fires reacts =
      let r = history_reaches n i until limit h in
      let a = (fires_ahead n until (limit - st.fired) st e (stands_ahead n net i until limit st r.0 r.1) fires).not_past in
      let now : after.now ≡ e.date = ap (λ (x : State). x.now) reacts.leads in
      omega (arith, a, now)

  pub over_here : (states : List State) (st : State) (told : Option Waveforms) (o : Writing) → IsWholeHistory n i until limit states → IsFollowed n states st told o → IsWriting o → st.now ≤ 2 ^ 62 → Completes told
  unfolding Completes
  over_here states st told o whole f w now = let d = whole_dump n states st told o net f w now in (told_at told o st.now, tick_text o st.now, (states, whole, d.0), d.1)

  abbrev Rest : ℕ → Type 0
  Rest left =
      (states : List State) (st : State) (told : Option Waveforms) (o : Writing) (os : List Obs) → limit - st.fired ≡ left → IsHistory n i until limit states st → IsFollowed n states st told o → IsWriting o
      → IsRunFrom n i until left st os → Completes told

  pub completes : (left : ℕ) (states : List State) (st : State) (told : Option Waveforms) (o : Writing) (os : List Obs) → limit - st.fired ≡ left → IsHistory n i until limit states st
      → IsFollowed n states st told o → IsWriting o → IsRunFrom n i until left st os → Completes told
  unfolding Completes IsRunFrom
  completes zero states st told o os l h f w run = at_end (comes_next n until 0 st) refl run
    where
      at_end : (d : Decision) → comes_next n until 0 st ≡ d → EndsOr d os (λ e. ⊥) → Completes told
      at_end (Over word) is run = over_here states st told o (ended states st word h (ap (λ (k : ℕ). comes_next n until k st) l ∙ is)) f w (reached_early states st h)
      at_end (Fires e) is run = absurd run
  completes (suc left) states st told o os l h f w run = go_on (completes left) (comes_next n until (suc left) st) refl run
    where
      reacted : Rest left → (e : Event) (after : State) (seen more : List Obs) → comes_next n until (limit - st.fired) st ≡ Fires e → Reacts n i e.date (source_of n e.source) (taken st e) after seen
          → IsRunFrom n i until left after more → Completes told
      reacted go e after seen more fires reacts rest =
          let history = event states st after e seen h fires reacts in
          let r = history_reaches n i until limit history in
          let memory = stands_in_range n i net free columns until limit after r.0 r.1 in
          let moved = moved_to o st.now after.now in
          let next : Writing = record moved { noted = all_held n after.memory } in
          let g = goes_on n states st after told o next net f w (reached_early states st h) (rises states st after e seen h fires reacts) refl (all_held_at n after.memory memory) in
          let signals = moved_signals o st.now after.now ∙ f.of.signals in
          let fired : after.fired ≡ st.fired + 1 = ap (λ (x : State). x.fired) reacts.leads in
          let c = go (states ++ after ∷ []) after g.now_told next more (omega (arith, fired, l)) history g.followed (all_noted n moved after.memory net signals (moved_writing o st.now after.now w) memory) rest in
          (c.0, due_text o st.now after.now ++ c.1, c.2, c.3 ∙ ap (λ (t : List ℕ). t ++ c.1) g.text ∙ append_assoc (text_of told) (due_text o st.now after.now) c.1)

      by_outcome : Rest left → (e : Event) (p : ReactionOutcome) → comes_next n until (limit - st.fired) st ≡ Fires e → IsOutcome n i e.date (source_of n e.source) (taken st e) p
          → Then p (IsRunFrom n i until left) os → Completes told
      by_outcome go e (Leads seen after) fires is (more, all, rest) = reacted go e after seen more fires is rest
      by_outcome go e (StopsWith seen) fires is all = over_here states st told o (stopped states st e is.block is.word h fires is.result) f w (reached_early states st h)

      go_on : Rest left → (d : Decision) → comes_next n until (suc left) st ≡ d → EndsOr d os (λ e. Observes n i e.date (source_of n e.source) (taken st e) (IsRunFrom n i until left) os) → Completes told
      go_on go (Over word) is run = over_here states st told o (ended states st word h (ap (λ (k : ℕ). comes_next n until k st) l ∙ is)) f w (reached_early states st h)
      go_on go (Fires e) is run = by_outcome go e run.outcome (ap (λ (k : ℕ). comes_next n until k st) l ∙ is) run.is run.goes_on

  -- and so from each state of the run
  pub completed : (states : List State) (st : State) (told : Option Waveforms) (o : Writing) → IsHistory n i until limit states st → IsFollowed n states st told o → IsWriting o → Completes told
  completed states st told o h f w = let rest = some_rest n i net free until limit st in completes (limit - st.fired) states st told o rest.0 refl h f w rest.1

  -- the same behind a reaction more, whose values aren't noted yet
  pub completed_behind : (states : List State) (st after : State) (told : Option Waveforms) (o : Writing) → IsHistory n i until limit (states ++ after ∷ []) after
      → IsFollowed n states st told o → IsWriting o → st.now ≤ 2 ^ 62 → st.now ≤ after.now
      → (w : Waveforms) × (more : List ℕ) × IsRunDump n i until limit w × (spelling w ≡ (text_of told ++ due_text o st.now after.now) ++ more)
  unfolding Completes
  completed_behind states st after told o history f w now later =
      let r = history_reaches n i until limit history in
      let memory = stands_in_range n i net free columns until limit after r.0 r.1 in
      let moved = moved_to o st.now after.now in
      let next : Writing = record moved { noted = all_held n after.memory } in
      let g = goes_on n states st after told o next net f w now later refl (all_held_at n after.memory memory) in
      let signals = moved_signals o st.now after.now ∙ f.of.signals in
      let c = completed (states ++ after ∷ []) after g.now_told next history g.followed (all_noted n moved after.memory net signals (moved_writing o st.now after.now w) memory) in
      (c.0, c.1, c.2, c.3 ∙ ap (λ (t : List ℕ). t ++ c.1) g.text)
