-- Values of blocks that are noted one after another.
use Rattle.std.proofs.Common.{◌≡◌, ℕ, zero, suc, ◌+◌, ◌-◌, ◌<◌, ◌≤◌, ℤ, pos, List, [], ◌∷◌, ◌++◌, take, drop, length, get_or, Bool, true, false, ◌⊎◌, inl, inr, refl, sym, ap, ◌∙◌, subst, arith, append-nil}
use Rattle.std.specs.Prelude.{nat_eq, nat_lt, if◌then◌else◌, Contains, ◌↔◌}
use Rattle.std.proofs.lemmas.Bool.{cases_lt, cond-true, cond-false, lt-ltb, le-ltb, cases_Bool}
use Rattle.std.proofs.lemmas.List.{length-drop, length-take-le, drop-drop, drop_all, drop_at, drop-append-le, take-append-le, get_or_push, get_or_append_left, get_or_default, get_or-drop, get_or-take}
use Rattle.std.proofs.lemmas.List.Elements.{Contains-get_or}
use Rattle.std.proofs.Math.Seq.{get_or-append_right}
use Rattle.sci_base.specs.declared.Ty.{Ty}
use Rattle.sci_base.specs.Fit.{in_range}
use Rattle.sci_base.specs.Lists.{at}
use Rattle.sci_base.proofs.FitLemmas.{in_range_yes}
use Rattle.sci_forms.specs.declared.ports.Port.{Port}
use Rattle.sci_forms.specs.declared.spec.Spec.{Spec}
use Rattle.sci_forms.specs.Ports.{elements, total, type_of, type_at, Fills}
use Rattle.sci_net.specs.Parts.{Parts, IsBlock, spec_of, no_spec}
use Rattle.sci_net.specs.Net.{IsNet, all_elements}
use Rattle.sci_net.proofs.Numbered.{numbered_next}
use Rattle.sci_places.specs.Flat.{start_in, start_of, values_at, IsWhole}
use Rattle.sci_span.specs.Values.{overwritten}
use Rattle.sci_places.proofs.Lists.{written_length, kept_before, kept_behind, read_within}
use Rattle.sci_places.proofs.Outputs.{block_within, blocks_apart}
use Rattle.sci_span.proofs.Runs.{read_length}
use Rattle.sci_vcd.specs.declared.signal.Signal.{Signal}
use Rattle.sci_vcd.specs.Waveforms.{no_signal, type_of as signal_type}
use Rattle.sci_vcd.specs.Reading.{signal_by}
use Rattle.sci_vcd.specs.Signals.{element_signals, output_signals, block_signals, signals_of, before_block}
use Rattle.sci_vcd.specs.Writing.{Writing, IsWriting, closed_at}
use Rattle.sci_wave.specs.Following.{moved_to}
use Rattle.sci_vcd.proofs.OfNet.{element_signals_length, output_signals_length, all_elements_next, net_signals}
use Rattle.sci_wave.specs.Noted.{IsOf, IsMemoryThere, IsActiveRun, AreNotedTo, holds_there, holds_between}
use Rattle.sci_net.specs.declared.Source.{Source}
use Rattle.sci_reaction.specs.Active.{Possible}
use Rattle.sci_reaction.proofs.Spreading.{Spread-block}
use Rattle.sci_run.specs.Run.{State}
use Rattle.sci_bank.specs.Bank.{Meaning}
use Rattle.sci_store.specs.Marks.{mark_at}
use Rattle.sci_sim.specs.At.{Running, IsAt}

-- ---- where a block's values lie

start_in_is : (ss : List Spec) (k : ℕ) → start_in ss k ≡ all_elements (take k ss)
start_in_is [] zero = refl
start_in_is [] (suc k) = refl
start_in_is (s ∷ ss) zero = refl
start_in_is (s ∷ ss) (suc k) = ap (λ (e : ℕ). total s.outs + e) (start_in_is ss k)

pub start_is : (n : Parts) (b : ℕ) → start_of n b ≡ before_block n b
start_is n b = start_in_is n.specs (b - 1)

spec_is : (n : Parts) (b : ℕ) → 1 ≤ b → spec_of n b ≡ get_or n.specs (b - 1) no_spec
spec_is n b h = let e : b ≡ (b - 1) + 1 = omega (arith, h) in ap (spec_of n) e ∙ numbered_next no_spec n.specs (b - 1)

pub start_read : (n : Parts) (o : Writing) (b r : ℕ) → IsOf n o → IsBlock n b → r ≡ get_or o.starts (b - 1) 0 → r ≡ start_of n b
start_read n o b r h block is = let most = block.most in is ∙ h.starts.each b block.least (omega (arith, most)) ∙ sym (start_is n b)

pub end_read : (n : Parts) (o : Writing) (b r : ℕ) → IsOf n o → IsBlock n b → r ≡ get_or o.starts ((b + 1) - 1) 0 → r ≡ start_of n b + total (spec_of n b).outs
end_read n o b r h block is =
    let most = block.most in
    let least = block.least in
    let here : (b - 1) + 1 ≡ (b + 1) - 1 = omega (arith, least) in
    let next = all_elements_next n.specs (b - 1) (omega (arith, least, most)) in
    let outs : total (get_or n.specs (b - 1) no_spec).outs ≡ total (spec_of n b).outs = ap (λ (s : Spec). total s.outs) (sym (spec_is n b least)) in
    let start = start_is n b in
    let end : before_block n (b + 1) ≡ all_elements (take ((b - 1) + 1) n.specs) = ap (λ (k : ℕ). all_elements (take k n.specs)) (sym here) in
    let r_is = is ∙ h.starts.each (b + 1) (omega arith) (omega (arith, most)) in
    omega (arith, r_is, end, next, outs, start)

pub whole_there : (n : Parts) (o : Writing) → IsNet n → IsOf n o → IsWriting o → IsWhole n o.noted
whole_there n o net h w = w.noted.one_each ∙ ap (λ (gs : List Signal). length gs) h.signals ∙ (net_signals n net).1

pub within_signals : (n : Parts) (o : Writing) (b : ℕ) → IsNet n → IsOf n o → IsBlock n b → start_of n b + total (spec_of n b).outs ≤ length o.signals
within_signals n o b net h block =
    let w = block_within n b block in
    let l = ap (λ (gs : List Signal). length gs) h.signals ∙ (net_signals n net).1 in
    omega (arith, w, l)

-- ---- the types of a block's signals

element_type : (t : Ty) (b p c i : ℕ) → i < c → (get_or (element_signals t b p c) i no_signal).ty ≡ t
element_type t b p zero i h = absurd (omega (arith, h))
element_type t b p (suc c) i h =
    let l = element_signals_length t b p c in
    elim (cases_lt i c) [
      | inl lower ↦ ap (λ (g : Signal). g.ty) (get_or_append_left (element_signals t b p c) (signal_by t b p (suc c) ∷ []) no_signal i (omega (arith, l, lower))) ∙ element_type t b p c i lower
      | inr above ↦ ap (λ (g : Signal). g.ty) (get_or_push (element_signals t b p c) (signal_by t b p (suc c)) no_signal i (omega (arith, l, h, above)))
    ]

pub output_type : (b p : ℕ) (os : List Port) (i : ℕ) → i < total os → (get_or (output_signals b p os) i no_signal).ty ≡ type_at os i
output_type b p [] i h = absurd (omega (arith, h))
output_type b p (o ∷ os) i h =
    let es = element_signals (type_of o) b p (elements o) in
    let l = element_signals_length (type_of o) b p (elements o) in
    elim (cases_lt i (elements o)) [
      | inl lower ↦
          ap (λ (g : Signal). g.ty) (get_or_append_left es (output_signals b (p + 1) os) no_signal i (omega (arith, l, lower))) ∙ element_type (type_of o) b p (elements o) i lower
          ∙ sym (cond-true (nat_lt i (elements o)) (type_of o) (type_at os (i - elements o)) (lt-ltb i (elements o) lower))
      | inr above ↦
          let e : i - length es ≡ i - elements o = omega (arith, l) in
          ap (λ (g : Signal). g.ty) (get_or-append_right es (output_signals b (p + 1) os) i no_signal (omega (arith, l, above)) ∙ ap (λ (k : ℕ). get_or (output_signals b (p + 1) os) k no_signal) e)
          ∙ output_type b (p + 1) os (i - elements o) (omega (arith, h, above))
          ∙ sym (cond-false (nat_lt i (elements o)) (type_of o) (type_at os (i - elements o)) (le-ltb i (elements o) above))
    ]

pub block_type : (b : ℕ) (ss : List Spec) (k i : ℕ) → k < length ss → i < total (get_or ss k no_spec).outs
    → (get_or (block_signals b ss) (all_elements (take k ss) + i) no_signal).ty ≡ type_at (get_or ss k no_spec).outs i
block_type b [] k i h g = absurd (omega (arith, h))
block_type b (s ∷ ss) zero i h g =
    let l = output_signals_length b 1 s.outs in
    let e : 0 + i ≡ i = omega arith in
    ap (λ (k : ℕ). (get_or (block_signals b (s ∷ ss)) k no_signal).ty) e
    ∙ ap (λ (g : Signal). g.ty) (get_or_append_left (output_signals b 1 s.outs) (block_signals (b + 1) ss) no_signal i (omega (arith, l, g))) ∙ output_type b 1 s.outs i g
block_type b (s ∷ ss) (suc k) i h g =
    let l = output_signals_length b 1 s.outs in
    let e : ((total s.outs + all_elements (take k ss)) + i) - length (output_signals b 1 s.outs) ≡ all_elements (take k ss) + i = omega (arith, l) in
    ap (λ (g : Signal). g.ty) (get_or-append_right (output_signals b 1 s.outs) (block_signals (b + 1) ss) ((total s.outs + all_elements (take k ss)) + i) no_signal (omega (arith, l))
    ∙ ap (λ (j : ℕ). get_or (block_signals (b + 1) ss) j no_signal) e)
    ∙ block_type (b + 1) ss k i (omega (arith, h)) g

pub type_there : (n : Parts) (o : Writing) (b i k : ℕ) → IsOf n o → IsBlock n b → i < total (spec_of n b).outs → k ≡ (start_of n b + i) + 1 → signal_type o.signals k ≡ type_at (spec_of n b).outs i
type_there n o b i k h block within is =
    let spec = spec_is n b block.least in
    let least = block.least in
    let most = block.most in
    let start = start_is n b in
    let here : k - 1 ≡ all_elements (take (b - 1) n.specs) + i = omega (arith, is, start) in
    ap (λ (gs : List Signal). signal_type gs k) h.signals
    ∙ ap (λ (j : ℕ). (get_or (signals_of n) j no_signal).ty) here
    ∙ block_type 1 n.specs (b - 1) i (omega (arith, least, most)) (subst (λ (s : Spec). i < total s.outs) spec within)
    ∙ ap (λ (s : Spec). type_at s.outs i) (sym spec)

-- ---- the values of all blocks are those of the signals

-- each is one of its signal's type
values_fit : (b : ℕ) (ss : List Spec) (vs : List ℤ) (i : ℕ) → ((k : ℕ) → k < length ss → Fills (get_or ss k no_spec).outs (take (total (get_or ss k no_spec).outs) (drop (start_in ss k) vs))) → i < all_elements ss
    → in_range (get_or (block_signals b ss) i no_signal).ty (get_or vs i (pos 0)) ≡ true
values_fit b [] vs i h within = absurd (omega (arith, within))
values_fit b (s ∷ ss) vs i h within =
    let fills : Fills s.outs (take (total s.outs) vs) = h 0 (omega arith) in
    elim (cases_lt i (total s.outs)) [
      | inl lower ↦
          let none : 0 + i ≡ i = omega arith in
          let r = fills.in_range i lower in
          let ty = ap (λ (j : ℕ). (get_or (block_signals b (s ∷ ss)) j no_signal).ty) (sym none) ∙ block_type b (s ∷ ss) 0 i (omega arith) lower in
          subst (λ (t : Ty). in_range t (get_or vs i (pos 0)) ≡ true) (sym ty)
          (subst (λ (v : ℤ). in_range (type_at s.outs i) v ≡ true) (get_or-take (total s.outs) vs i (pos 0) lower)
          (in_range_yes (type_at s.outs i) (at (take (total s.outs) vs) i) r.above r.below))
      | inr above ↦
          let os = output_signals_length b 1 s.outs in
          let e : total s.outs + (i - total s.outs) ≡ i = omega (arith, above) in
          let f : i - length (output_signals b 1 s.outs) ≡ i - total s.outs = omega (arith, os) in
          let rest : (k : ℕ) → k < length ss → Fills (get_or ss k no_spec).outs (take (total (get_or ss k no_spec).outs) (drop (start_in ss k) (drop (total s.outs) vs))) =
          λ k g. subst (λ (l : List ℤ). Fills (get_or ss k no_spec).outs (take (total (get_or ss k no_spec).outs) l)) (sym (drop-drop (start_in ss k) (total s.outs) vs)) (h (suc k) (omega (arith, g))) in
          subst (λ (g : Signal). in_range g.ty (get_or vs i (pos 0)) ≡ true)
          (sym (get_or-append_right (output_signals b 1 s.outs) (block_signals (b + 1) ss) i no_signal (omega (arith, os, above)) ∙ ap (λ (j : ℕ). get_or (block_signals (b + 1) ss) j no_signal) f))
          (subst (λ (v : ℤ). in_range (get_or (block_signals (b + 1) ss) (i - total s.outs) no_signal).ty v ≡ true) (get_or-drop (total s.outs) vs (i - total s.outs) (pos 0) ∙ ap (λ (j : ℕ). get_or vs j (pos 0)) e)
          (values_fit (b + 1) ss (drop (total s.outs) vs) (i - total s.outs) rest (omega (arith, within, above))))
    ]

block_fills : (r : Running) → IsMemoryThere r → (k : ℕ) → k < length r.fixed.net.specs
    → Fills (get_or r.fixed.net.specs k no_spec).outs (take (total (get_or r.fixed.net.specs k no_spec).outs) (drop (start_in r.fixed.net.specs k) r.store.values))
block_fills r fits k within =
    let n = r.fixed.net in
    let e : (k + 1) - 1 ≡ k = omega arith in
    subst (λ (i : ℕ). Fills (get_or n.specs k no_spec).outs (take (total (get_or n.specs k no_spec).outs) (drop (start_in n.specs i) r.store.values))) e
    (subst (λ (s : Spec). Fills s.outs (take (total s.outs) (drop (start_of n (k + 1)) r.store.values))) (numbered_next no_spec n.specs k)
    (fits (k + 1) (record { least = omega arith; most = omega (arith, within) })))

pub value_fits : (r : Running) (o : Writing) (i k : ℕ) (v : ℤ) → IsOf r.fixed.net o → IsMemoryThere r → i < all_elements r.fixed.net.specs → k ≡ i + 1 → v ≡ at r.store.values i → in_range (signal_type o.signals k) v ≡ true
value_fits r o i k v of fits within k_is v_is =
    let n = r.fixed.net in
    let one : k - 1 ≡ i = omega (arith, k_is) in
    subst (λ (gs : List Signal). in_range (signal_type gs k) v ≡ true) (sym of.signals)
    (subst (λ (j : ℕ). in_range (get_or (signals_of n) j no_signal).ty v ≡ true) (sym one)
    (subst (λ (x : ℤ). in_range (get_or (signals_of n) i no_signal).ty x ≡ true) (sym v_is) (values_fit 1 n.specs r.store.values i (block_fills r fits) within)))

pub all_placed : (vs xs : List ℤ) → length vs ≡ length xs → take 0 xs ++ (vs ++ drop (0 + length vs) xs) ≡ vs
all_placed vs xs long = ap (λ (l : List ℤ). vs ++ l) (drop_all (0 + length vs) xs (omega (arith, long))) ∙ append-nil vs

pub only_noted : (o p : Writing) (vs : List ℤ) → p ≡ record o { noted = vs } → p ≡ record o { noted = p.noted }
only_noted o p vs e = e ∙ ap (λ (l : List ℤ). record o { noted = l }) (sym (ap (λ (q : Writing). q.noted) e))

-- ---- the values of a run of blocks in place of others

pub run_ordered : (n : Parts) (b l : ℕ) → IsBlock n b → IsBlock n l → b ≤ l → start_of n b ≤ start_of n l + total (spec_of n l).outs
run_ordered n b l first last order = elim (cases_lt b l) [
  | inl less ↦ let a = blocks_apart n b l first last less in omega (arith, a)
  | inr more ↦ let e : b ≡ l = omega (arith, order, more) in subst (λ (k : ℕ). start_of n b ≤ start_of n k + total (spec_of n k).outs) e (omega arith)
]

-- a run of a list that was read
pub read_is : (xs ys : List ℤ) (a b s e : ℕ) → xs ≡ ys → a ≡ s → b ≡ e → take (b - a) (drop a xs) ≡ take (e - s) (drop s ys)
read_is xs ys a b s e l i j = ap (λ (vs : List ℤ). take (b - a) (drop a vs)) l ∙ ap (λ (k : ℕ). take (b - k) (drop k ys)) i ∙ ap (λ (k : ℕ). take (k - s) (drop s ys)) j

placed_within : (xs vs : List ℤ) (start from n : ℕ) → start ≤ from → from + n ≤ start + length vs → start + length vs ≤ length xs → take n (drop from (overwritten xs start vs)) ≡ take n (drop (from - start) vs)
placed_within xs vs start from n low high room =
    let front = length-take-le start xs (omega (arith, room)) in
    let rest = drop (start + length vs) xs in
    let split : from ≡ start + (from - start) = omega (arith, low) in
    let long = length-drop (from - start) vs in
    ap (λ (k : ℕ). take n (drop k (take start xs ++ (vs ++ rest)))) split
    ∙ ap (take n) (sym (drop-drop (from - start) start (take start xs ++ (vs ++ rest))))
    ∙ ap (λ (l : List ℤ). take n (drop (from - start) l)) (drop_at (take start xs) (vs ++ rest) start front)
    ∙ ap (take n) (drop-append-le (from - start) vs rest (omega (arith, low, high)))
    ∙ take-append-le n (drop (from - start) vs) rest (omega (arith, low, high, long))

module _ (n : Parts) (values now : List ℤ) (b l : ℕ) (whole : IsWhole n values) (same : IsWhole n now) (first : IsBlock n b) (last : IsBlock n l) (order : b ≤ l) where
  abbrev run : List ℤ
  run = take ((start_of n l + total (spec_of n l).outs) - start_of n b) (drop (start_of n b) values)

  starts_behind : (c : ℕ) → IsBlock n c → b ≤ c → start_of n b ≤ start_of n c
  starts_behind c block low = elim (cases_lt b c) [
    | inl less ↦ let a = blocks_apart n b c first block less in omega (arith, a)
    | inr more ↦ let e : b ≡ c = omega (arith, low, more) in subst (λ (k : ℕ). start_of n b ≤ start_of n k) e (omega arith)
  ]

  ends_before : (c : ℕ) → IsBlock n c → c ≤ l → start_of n c + total (spec_of n c).outs ≤ start_of n l + total (spec_of n l).outs
  ends_before c block high = elim (cases_lt c l) [
    | inl less ↦ let a = blocks_apart n c l block last less in omega (arith, a)
    | inr more ↦ let e : c ≡ l = omega (arith, high, more) in subst (λ (k : ℕ). start_of n c + total (spec_of n c).outs ≤ start_of n k + total (spec_of n k).outs) e (omega arith)
  ]

  run_length : length run ≡ (start_of n l + total (spec_of n l).outs) - start_of n b
  run_length =
      let low = starts_behind l last order in
      let high = block_within n l last in
      read_length values (start_of n b) ((start_of n l + total (spec_of n l).outs) - start_of n b) (omega (arith, low, high, whole))

  pub run_room : start_of n b + length run ≤ length now
  run_room =
      let low = starts_behind l last order in
      let high = block_within n l last in
      let long = run_length in
      omega (arith, low, high, same, long)

  pub run_whole : IsWhole n (overwritten now (start_of n b) run)
  run_whole = written_length now run (start_of n b) (length run) refl run_room ∙ same

  pub run_there : (c : ℕ) → IsBlock n c → b ≤ c → c ≤ l → values_at n (overwritten now (start_of n b) run) c ≡ values_at n values c
  run_there c block low high =
      let from = starts_behind c block low in
      let until = ends_before c block high in
      let long = run_length in
      let e : start_of n b + (start_of n c - start_of n b) ≡ start_of n c = omega (arith, from) in
      placed_within now run (start_of n b) (start_of n c) (total (spec_of n c).outs) from (omega (arith, until, long, from)) run_room
      ∙ read_within values (start_of n b) ((start_of n l + total (spec_of n l).outs) - start_of n b) (start_of n c - start_of n b) (total (spec_of n c).outs) (omega (arith, from, until))
      ∙ ap (λ (k : ℕ). take (total (spec_of n c).outs) (drop k values)) e

  pub run_else : (c : ℕ) → IsBlock n c → ((c < b) ⊎ (l < c)) → values_at n (overwritten now (start_of n b) run) c ≡ values_at n now c
  run_else c block apart = elim apart [
    | inl less ↦
        let a = blocks_apart n c b block first less in
        let room = run_room in
        kept_before now (run ++ drop (start_of n b + length run) now) (start_of n b) (start_of n c) (total (spec_of n c).outs) a (omega (arith, room))
    | inr more ↦
        let a = blocks_apart n l c last block more in
        let long = run_length in
        let low = starts_behind l last order in
        ap (take (total (spec_of n c).outs)) (kept_behind now run (start_of n b) (length run) (start_of n c) refl (omega (arith, a, long, low)) run_room)
  ]

-- ---- of some blocks those that are active are noted

pub noted_none : (r : Running) (old : List ℤ) (bs : List ℕ) → IsWhole r.fixed.net old → AreNotedTo r old old bs 0
noted_none r old bs w = record { whole = w; done = λ i h. absurd (omega (arith, h)); each = λ b block. inl refl }

both : {A : Type 0} → true ≡ false → A
both e = absurd (cc e)

-- one that isn't is passed
pub noted_pass : (r : Running) (old now : List ℤ) (bs : List ℕ) (k : ℕ) → (mark_at r.store.marks (get_or bs k 0)).active ≡ false → AreNotedTo r old now bs k → AreNotedTo r old now bs (k + 1)
noted_pass r old now bs k off h = record {
  whole = h.whole;
  done = λ i below on. elim (cases_lt i k) [
    | inl lower ↦ h.done i lower on
    | inr above ↦ let e : i ≡ k = omega (arith, below, above) in both (sym on ∙ ap (λ (j : ℕ). (mark_at r.store.marks (get_or bs j 0)).active) e ∙ off)
  ];
  each = h.each;
}

-- a block stands among those of a run, or not
among : (b l c : ℕ) → ((c < b) ⊎ (l < c)) ⊎ ((b ≤ c) × (c ≤ l))
among b l c = elim (cases_lt c b) [ inl less ↦ inl (inl less) | inr low ↦ elim (cases_lt l c) [ inl more ↦ inl (inr more) | inr high ↦ inr (low, high) ] ]

pub noted_run : (r : Running) (old now : List ℤ) (bs : List ℕ) (k e : ℕ) → ((c : ℕ) → Contains bs c → IsBlock r.fixed.net c) → IsWhole r.fixed.net r.store.values → IsActiveRun r bs k e → AreNotedTo r old now bs k
    → AreNotedTo r old (overwritten now (start_of r.fixed.net (get_or bs k 0)) (holds_between r (get_or bs k 0) (get_or bs (e - 1) 0))) bs e
noted_run r old now bs k e blocks whole run h =
    let n = r.fixed.net in
    let least = run.least in
    let most = run.most in
    let b = get_or bs k 0 in
    let l = get_or bs (e - 1) 0 in
    let first : IsBlock n b = blocks b (Contains-get_or bs k 0 (omega (arith, least, most))) in
    let last : IsBlock n l = blocks l (Contains-get_or bs (e - 1) 0 (omega (arith, least, most))) in
    let l_is : l ≡ b + ((e - 1) - k) = run.adjoin (e - 1) (omega (arith, least)) (omega (arith, least)) in
    let order : b ≤ l = omega (arith, l_is) in
    let new = overwritten now (start_of n b) (holds_between r b l) in
    let there : (c : ℕ) → IsBlock n c → b ≤ c → c ≤ l → values_at n new c ≡ holds_there r c = run_there n r.store.values now b l whole h.whole first last order in
    let other : (c : ℕ) → IsBlock n c → ((c < b) ⊎ (l < c)) → values_at n new c ≡ values_at n now c = run_else n r.store.values now b l whole h.whole first last order in
    let active : (c : ℕ) → b ≤ c → c ≤ l → (mark_at r.store.marks c).active ≡ true =
    λ c low high.
    let i = k + (c - b) in
    let here : i < e = omega (arith, l_is, low, high, least) in
    let from : k ≤ i = omega arith in
    let at_i : get_or bs i 0 ≡ b + (i - k) = run.adjoin i from here in
    let is : get_or bs i 0 ≡ c = omega (arith, at_i, low) in
    subst (λ (j : ℕ). (mark_at r.store.marks j).active ≡ true) is (run.active i from here) in
    record {
      whole = run_whole n r.store.values now b l whole h.whole first last order;
      done = λ i below on.
          let block : IsBlock n (get_or bs i 0) = blocks (get_or bs i 0) (Contains-get_or bs i 0 (omega (arith, below, most))) in
          elim (among b l (get_or bs i 0)) [
            | inl apart ↦ elim (cases_lt i k) [
              | inl lower ↦ other (get_or bs i 0) block apart ∙ h.done i lower on
              | inr from ↦ let is = run.adjoin i from below in elim apart [ inl less ↦ absurd (omega (arith, is, less)) | inr more ↦ absurd (omega (arith, is, more, l_is, below)) ]
            ]
            | inr inside ↦ there (get_or bs i 0) block inside.0 inside.1
          ];
      each = λ c block. elim (among b l c) [
        | inl apart ↦ elim (h.each c block) [ inl was ↦ inl (other c block apart ∙ was) | inr is ↦ inr (is.0, other c block apart ∙ is.1) ]
        | inr inside ↦ inr (active c inside.0 inside.1, there c block inside.0 inside.1)
      ];
    }

-- in the end all active blocks are noted, and the others keep their values
noted_all : (r : Running) (old now : List ℤ) (bs : List ℕ) (k : ℕ) → length bs ≤ k → AreNotedTo r old now bs k
    → (b : ℕ) → IsBlock r.fixed.net b → ((mark_at r.store.marks b).active ≡ true → Contains bs b)
    → values_at r.fixed.net now b ≡ (if (mark_at r.store.marks b).active then holds_there r b else values_at r.fixed.net old b)
noted_all r old now bs k all h b block of =
    let n = r.fixed.net in
    let marked = (mark_at r.store.marks b).active in
    elim (cases_Bool marked) [
      | inl on ↦
          let c = of on in
          let is = get_or_default bs c.0 0 b c.1 ∙ c.2 in
          subst (λ (x : ℕ). values_at n now x ≡ holds_there r x) is (h.done c.0 (omega (arith, c.1, all)) (ap (λ (x : ℕ). (mark_at r.store.marks x).active) is ∙ on))
          ∙ sym (cond-true marked (holds_there r b) (values_at n old b) on)
      | inr off ↦ elim (h.each b block) [
        | inl was ↦ was ∙ sym (cond-false marked (holds_there r b) (values_at n old b) off)
        | inr is ↦ both (sym is.0 ∙ off)
      ]
    ]

-- ---- the values of a net that stands at a state

pub in_range_there : (r : Running) (banks : List Meaning) (st : State) → IsAt r banks st → IsMemoryThere r
in_range_there r banks st at b block = subst (Fills (spec_of r.fixed.net b).outs) (sym (at.shown.memory.held b block)) (at.shown.in_range.held b block)

pub possible_blocks : (n : Parts) (s : Source) (bs : List ℕ) → ((b : ℕ) → Contains bs b ↔ Possible n s b) → (b : ℕ) → Contains bs b → IsBlock n b
possible_blocks n s bs are b h = Spread-block n s _ ((are b).0 h)

pub active_noted : (r : Running) (banks : List Meaning) (st : State) (old now : List ℤ) (bs : List ℕ) (k : ℕ) → IsAt r banks st → length bs ≤ k → ((b : ℕ) → IsBlock r.fixed.net b → st.active b ≡ true → Contains bs b)
    → AreNotedTo r old now bs k → (b : ℕ) → IsBlock r.fixed.net b → values_at r.fixed.net now b ≡ (if st.active b then st.memory.held b else values_at r.fixed.net old b)
active_noted r banks st old now bs k at all among h b block =
    let mark = at.active b block in
    noted_all r old now bs k all h b block (λ on. among b block (sym mark ∙ on))
    ∙ ap (λ (m : Bool). if m then holds_there r b else values_at r.fixed.net old b) mark
    ∙ ap (λ (vs : List ℤ). if st.active b then vs else values_at r.fixed.net old b) (at.shown.memory.held b block)

pub moved_noted : (o : Writing) (date now : ℕ) → (moved_to o date now).noted ≡ o.noted
moved_noted o date now = chosen (nat_eq now date)
  where
    chosen : (b : Bool) → (if b then o else closed_at o date).noted ≡ o.noted
    chosen true = refl
    chosen false = refl
