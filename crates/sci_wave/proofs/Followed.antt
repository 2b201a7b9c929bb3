-- A dump that follows a run, reaction by reaction.
use Rattle.std.proofs.Common.{◌≡◌, ℕ, ◌+◌, ◌-◌, ◌^◌, ◌<◌, ◌≤◌, ℤ, pos, List, [], ◌∷◌, ◌++◌, drop, length, get_or, true, false, inl, inr, refl, sym, ap, ◌∙◌, subst, arith, append-nil}
use Rattle.std.specs.Prelude.{Option, Some, None, nat_eq, nat_lt, nat_le, if◌then◌else◌}
use Rattle.std.proofs.lemmas.Bool.{cases_lt, cases_Bool, cond-true, cond-false, lt-ltb, le-ltb, le-leb, lt-leb, eqb-true, eqb-false}
use Rattle.std.proofs.lemmas.List.{get_or-take, get_or-drop}
use Rattle.sci_base.specs.declared.observation.Obs.{Obs}
use Rattle.sci_base.specs.Lists.{at}
use Rattle.sci_forms.specs.Ports.{total}
use Rattle.sci_net.specs.declared.Source.{Source}
use Rattle.sci_net.specs.Parts.{Parts, IsBlock, spec_of}
use Rattle.sci_net.specs.Net.{IsNet}
use Rattle.sci_places.specs.Flat.{start_of, values_at}
use Rattle.sci_reaction.specs.Memory.{Memory, Columns, first_memory}
use Rattle.sci_run.specs.Run.{State, first_state, Reacts, here, Reachable}
use Rattle.sci_run.proofs.Finish.{further}
use Rattle.sci_vcd.specs.Waveforms.{Waveforms, first_of, value_at}
use Rattle.sci_vcd.specs.Spelling.{spelling}
use Rattle.sci_vcd.specs.Signals.{number_of}
use Rattle.sci_vcd.specs.Writing.{Writing, IsWriting, MayClose, HasTold, told_at, told_value, text_of, tick_text, closed_at, IsTickTold}
use Rattle.sci_vcd.proofs.Told.{written_is_dump}
use Rattle.sci_wave.specs.History.{IsHistory, start, event, memory_at}
use Rattle.sci_wave.specs.RunDump.{IsDumpOf}
use Rattle.sci_wave.specs.Noted.{IsOf}
use Rattle.sci_wave.specs.Following.{IsFollowed, due_text, moved_to}
use Rattle.sci_wave.proofs.Blockwise.{start_is, within_signals}

-- ---- histories

pub memory_at-push : (m : Memory) (states : List State) (after : State) (t : ℕ) → memory_at m (states ++ after ∷ []) t ≡ (if nat_le after.now t then after.memory else memory_at m states t)
memory_at-push m [] after t = refl
memory_at-push m (st ∷ states) after t = memory_at-push (if nat_le st.now t then st.memory else m) states after t

pub push_now : (m : Memory) (states : List State) (after : State) (t : ℕ) → after.now ≤ t → memory_at m (states ++ after ∷ []) t ≡ after.memory
push_now m states after t h = memory_at-push m states after t ∙ cond-true (nat_le after.now t) after.memory (memory_at m states t) (le-leb after.now t h)

pub push_later : (m : Memory) (states : List State) (after : State) (t : ℕ) → t < after.now → memory_at m (states ++ after ∷ []) t ≡ memory_at m states t
push_later m states after t h = memory_at-push m states after t ∙ cond-false (nat_le after.now t) after.memory (memory_at m states t) (lt-leb after.now t h)

pub history_reaches : (n : Parts) (i : Columns) (until limit : ℕ) {states : List State} {st : State} → IsHistory n i until limit states st → (seen : List Obs) × Reachable n i until limit st seen
history_reaches n i until limit (start st seen reacts) = (seen, record { first = st; at_start = seen; later = []; started = reacts; reaches = here; observed = sym (append-nil seen) })
history_reaches n i until limit (event states st after e more before fires reacts) =
    let so_far = history_reaches n i until limit before in (so_far.0 ++ more, further n i until limit st after e so_far.0 more so_far.1 fires reacts)

-- ---- what is read of the values that are noted

value_noted : (n : Parts) (o : Writing) (b e : ℕ) → 1 ≤ e → e ≤ total (spec_of n b).outs → first_of o.noted (number_of n b e) ≡ at (values_at n o.noted b) (e - 1)
value_noted n o b e least most =
    let start = start_is n b in
    let here : number_of n b e - 1 ≡ start_of n b + (e - 1) = omega (arith, start, least) in
    ap (λ (k : ℕ). get_or o.noted k (pos 0)) here
    ∙ sym (get_or-drop (start_of n b) o.noted (e - 1) (pos 0))
    ∙ sym (get_or-take (total (spec_of n b).outs) (drop (start_of n b) o.noted) (e - 1) (pos 0) (omega (arith, least, most)))

numbered_within : (n : Parts) (o : Writing) (b e : ℕ) → IsNet n → IsOf n o → IsBlock n b → 1 ≤ e → e ≤ total (spec_of n b).outs → number_of n b e ≤ length o.signals
numbered_within n o b e net of block least most =
    let w = within_signals n o b net of block in
    let start = start_is n b in
    omega (arith, w, start, least, most)

-- ---- closing the tick under way

pub tick_told : (n : Parts) (states : List State) (st : State) (told : Option Waveforms) (o : Writing) → IsFollowed n states st told o → IsWriting o → st.now ≤ 2 ^ 62 → IsTickTold o told st.now
tick_told n states st told o f w early = written_is_dump o told st.now w f.has f.may early

value_told : (n : Parts) (states : List State) (st : State) (told : Option Waveforms) (o : Writing) → IsNet n → IsFollowed n states st told o → IsTickTold o told st.now
    → (t b e : ℕ) → IsBlock n b → 1 ≤ e → e ≤ total (spec_of n b).outs
    → value_at (told_at told o st.now) (number_of n b e) t ≡ at ((memory_at (first_memory n) states t).held b) (e - 1)
value_told n states st told o net f h t b e block least most =
    let k = number_of n b e in
    let read = h.values k t (omega (arith, least)) (numbered_within n o b e net f.of block least most) in
    elim (cases_lt t st.now) [
      | inl before ↦ read ∙ cond-true (nat_lt t st.now) (told_value told k t) (first_of o.noted k) (lt-ltb t st.now before) ∙ f.shown t b e before block least most
      | inr behind ↦
          read ∙ cond-false (nat_lt t st.now) (told_value told k t) (first_of o.noted k) (le-ltb t st.now behind) ∙ value_noted n o b e least most
          ∙ ap (λ (vs : List ℤ). at vs (e - 1)) (f.noted b block ∙ ap (λ (m : Memory). m.held b) (sym (f.last t behind)))
    ]

-- the dump that is written where the tick under way is closed
pub whole_dump : (n : Parts) (states : List State) (st : State) (told : Option Waveforms) (o : Writing) → IsNet n → IsFollowed n states st told o → IsWriting o → st.now ≤ 2 ^ 62
    → IsDumpOf n states (told_at told o st.now) × (spelling (told_at told o st.now) ≡ text_of told ++ tick_text o st.now)
whole_dump n states st told o net f w early =
    let h = tick_told n states st told o f w early in
    (record { dump = h.told.dump; signals = h.told.signals ∙ f.of.signals; values = value_told n states st told o net f h }, h.text)

-- ---- a reaction more

-- how far a dump has come behind it
pub record GoesOn (n : Parts) (states : List State) (told : Option Waveforms) (o next : Writing) (date : ℕ) (after : State) : Type 0 where
  pub now_told : Option Waveforms
  pub followed : IsFollowed n (states ++ after ∷ []) after now_told next
  pub text : text_of now_told ≡ text_of told ++ due_text o date after.now

told_still : (o : Writing) (vs : List ℤ) (told : Option Waveforms) → HasTold o told → HasTold (record o { noted = vs }) told
told_still o vs None h = h
told_still o vs (Some w) (d, h) = (d, record { closed = h.closed; dump = h.dump; signals = h.signals; values = h.values; past = h.past })

pub goes_on : (n : Parts) (states : List State) (st after : State) (told : Option Waveforms) (o next : Writing) → IsNet n → IsFollowed n states st told o → IsWriting o → st.now ≤ 2 ^ 62 → st.now ≤ after.now
    → next ≡ record (moved_to o st.now after.now) { noted = next.noted } → ((b : ℕ) → IsBlock n b → values_at n next.noted b ≡ after.memory.held b) → GoesOn n states told o next st.now after
goes_on n states st after told o next net f w early later is noted =
    elim (cases_Bool (nat_eq after.now st.now)) [
      | inl e ↦
          let same = eqb-true after.now st.now e in
          let next_is = is ∙ ap (λ (p : Writing). record p { noted = next.noted }) (cond-true (nat_eq after.now st.now) o (closed_at o st.now) e) in
          record {
            now_told = told;
            followed = record {
              of = subst (λ (p : Writing). IsOf n p) (sym next_is) (record { signals = f.of.signals; starts = f.of.starts });
              has = subst (λ (p : Writing). HasTold p told) (sym next_is) (told_still o next.noted told f.has);
              may = subst (λ (p : Writing). MayClose p.closed after.now) (sym next_is) (subst (λ (t : ℕ). MayClose o.closed t) (sym same) f.may);
              noted = noted;
              last = λ t h. push_now (first_memory n) states after t h;
              shown = λ t b e h block least most. f.shown t b e (omega (arith, h, same)) block least most ∙ ap (λ (m : Memory). at (m.held b) (e - 1)) (sym (push_later (first_memory n) states after t h));
            };
            text = sym (append-nil (text_of told)) ∙ ap (λ (l : List ℕ). text_of told ++ l) (sym (cond-true (nat_eq after.now st.now) [] (tick_text o st.now) e));
          }
      | inr e ↦
          let apart = eqb-false after.now st.now e in
          let next_is = is ∙ ap (λ (p : Writing). record p { noted = next.noted }) (cond-false (nat_eq after.now st.now) o (closed_at o st.now) e) in
          let h = tick_told n states st told o f w early in
          record {
            now_told = Some (told_at told o st.now);
            followed = record {
              of = subst (λ (p : Writing). IsOf n p) (sym next_is) (record { signals = f.of.signals; starts = f.of.starts });
              has = subst (λ (p : Writing). HasTold p (Some (told_at told o st.now))) (sym next_is) (told_still (closed_at o st.now) next.noted (Some (told_at told o st.now)) (st.now, h.told));
              may = subst (λ (p : Writing). MayClose p.closed after.now) (sym next_is) (omega (arith, later, apart));
              noted = noted;
              last = λ t g. push_now (first_memory n) states after t g;
              shown = λ t b k g block least most. value_told n states st told o net f h t b k block least most ∙ ap (λ (m : Memory). at (m.held b) (k - 1)) (sym (push_later (first_memory n) states after t g));
            };
            text = h.text ∙ ap (λ (l : List ℕ). text_of told ++ l) (sym (cond-false (nat_eq after.now st.now) [] (tick_text o st.now) e));
          }
    ]

-- a block that wasn't active holds what it held
pub held_still : (n : Parts) (i : Columns) (date : ℕ) (s : Source) (from after : State) (seen : List Obs) → Reacts n i date s from after seen → (b : ℕ) → IsBlock n b
    → (vs : List ℤ) → vs ≡ from.memory.held b → (if after.active b then after.memory.held b else vs) ≡ after.memory.held b
held_still n i date s from after seen h b block vs is =
    elim (cases_Bool (after.active b)) [
      | inl on ↦ cond-true (after.active b) (after.memory.held b) vs on
      | inr off ↦
          let leads = h.leads in
          let idle : h.active b ≡ false = ap (λ (st : State). st.active b) (sym leads) ∙ off in
          let memory : after.memory ≡ h.memory = ap (λ (st : State). st.memory) leads in
          cond-false (after.active b) (after.memory.held b) vs off ∙ is
          ∙ elim (h.next b block) [
            | inl updated ↦ absurd (both (sym ((h.active_are b block).1 updated.active) ∙ idle))
            | inr stays ↦ sym stays.held
          ]
          ∙ ap (λ (m : Memory). m.held b) (sym memory)
    ]
  where
    both : true ≡ false → ⊥
    both e = cc e

-- before the run
pub followed_outset : (n : Parts) (o : Writing) → IsOf n o → o.closed ≡ None → ((b : ℕ) → IsBlock n b → values_at n o.noted b ≡ (first_memory n).held b) → IsFollowed n [] (first_state n) None o
followed_outset n o of none noted = record {
  of = of;
  has = none;
  may = subst (λ (cl : Option ℕ). MayClose cl 0) (sym none) refl;
  noted = noted;
  last = λ t h. refl;
  shown = λ t b e h. absurd (omega (arith, h));
}
