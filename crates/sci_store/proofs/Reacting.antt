-- What a reaction with values leaves: whether it ends the run, how often blocks were active, and what is in range.
use Rattle.std.proofs.Common.{◌≡◌, ℕ, zero, suc, ◌+◌, ◌<◌, ◌≤◌, ℤ, Bool, true, false, ◌&&◌, ◌||◌, inl, inr, ⊎_elim, List, [], ◌∷◌, length, get_or, refl, sym, ap, subst, ◌∙◌, arith, Contains, true≢false}
use Rattle.std.specs.Prelude.{min, if◌then◌else◌, Option, Some, None, IsSome, Ok}
use Rattle.std.proofs.lemmas.Bool.{cases_Bool}
use Rattle.sci_forms.specs.declared.Kind.{Kind}
use Rattle.sci_forms.specs.declared.spec.Spec.{Spec}
use Rattle.sci_net.specs.declared.Source.{Source}
use Rattle.sci_forms.specs.Ports.{Fills}
use Rattle.sci_kinds.specs.Asks.{IsMask, IsState}
use Rattle.sci_net.specs.Parts.{Parts, IsBlock, spec_of, no_spec, numbered}
use Rattle.sci_forms.specs.Form.{is_sensor}
use Rattle.sci_reaction.specs.Memory.{Memory, IsMemory, Columns, next_value}
use Rattle.sci_reaction.specs.Next.{IsNextMemory}
use Rattle.sci_reaction.proofs.Masks.{mask_in_range}
use Rattle.sci_reaction.specs.Equations.{Signals, AreInRange, IsMaskOf, Meets, Active, answer, sensed, values_or_word, input_in, all_inputs}
use Rattle.sci_reaction.specs.Result.{Whole, IsResult}
use Rattle.sci_kinds.specs.Table.{out}
use Rattle.sci_reaction.proofs.Lists.{and_true, and_both, or_left, or_right}
use Rattle.sci_run.specs.Activity.{Activity, halts, halts_from}
use Rattle.sci_forms.specs.Form.{is_halt}
use Rattle.sci_run.specs.Counts.{activations_from}
use Rattle.sci_run.specs.Observed.{values_seen}
use Rattle.sci_run.specs.Run.{State, Reacts, after_reaction}
use Rattle.sci_places.specs.Flat.{values_at}
use Rattle.sci_bank.specs.Bank.{Meaning}
use Rattle.sci_store.specs.declared.marks.Mark.{Mark}
use Rattle.sci_store.specs.Passed.{IsValued, ShowsBefore}
use Rattle.sci_store.specs.Marks.{mark_at}
use Rattle.sci_store.specs.Frame.{Fixed, IsFrame}
use Rattle.sci_store.specs.Store.{Standing, IsStore, cursor_at, state_of, ShowsMemory, ShowsValues}
use Rattle.sci_store.specs.Written.{AreAmong}
use Rattle.sci_store.specs.Chosen.{active_of_kinds}

-- ---- a block that ends the run

halts_at : (active : Activity) (ss : List Spec) (k j : ℕ) → j < length ss → active (k + j) ≡ true → is_halt (get_or ss j no_spec).kind ≡ true
    → halts_from k ss active ≡ true
halts_at active [] k j l a h = absurd (omega (arith, l))
halts_at active (s ∷ ss) k zero l a h =
    let e : k ≡ k + 0 = omega arith in
    or_left (active k && is_halt s.kind) (halts_from (k + 1) ss active) (and_true (active k) (is_halt s.kind) (ap active e ∙ a) h)
halts_at active (s ∷ ss) k (suc j) l a h =
    let e : k + 1 + j ≡ k + suc j = omega arith in
    or_right (active k && is_halt s.kind) (halts_from (k + 1) ss active) (halts_at active ss (k + 1) j (omega arith) (ap active e ∙ a) h)

and_none : (a b : Bool) → (a ≡ true → b ≡ false) → (a && b) ≡ false
and_none true b h = h refl
and_none false b h = refl

or_none : (a b : Bool) → a ≡ false → b ≡ false → (a || b) ≡ false
or_none true b h g = h
or_none false b h g = g

no_halt : (active : Activity) (ss : List Spec) (k : ℕ) → ((j : ℕ) → j < length ss → active (k + j) ≡ true → is_halt (get_or ss j no_spec).kind ≡ false)
    → halts_from k ss active ≡ false
no_halt active [] k h = refl
no_halt active (s ∷ ss) k h =
    let e : k + 0 ≡ k = omega arith in
    or_none (active k && is_halt s.kind) (halts_from (k + 1) ss active)
    (and_none (active k) (is_halt s.kind) (λ a. h 0 (omega arith) (ap active e ∙ a)))
    (no_halt active ss (k + 1) (λ j l a. let f : k + suc j ≡ k + 1 + j = omega arith in h (suc j) (omega arith) (ap active f ∙ a)))

halts_at_block : (n : Parts) (active : Activity) (b : ℕ) → IsBlock n b → active b ≡ true → is_halt (spec_of n b).kind ≡ true → halts n active ≡ true
halts_at_block n active zero block a h = absurd (omega (arith, block.least))
halts_at_block n active (suc j) block a h =
    let e : 1 + j ≡ suc j = omega arith in halts_at active n.specs 1 j (omega (arith, block.most)) (ap active e ∙ a) h

-- a block of the row is marked, and ends the run
pub halts_here : (f : Fixed) (source : Source) (s : Standing) (y : Signals) (active : Activity) (b : ℕ) → IsBlock f.net b → ShowsValues f source s y active
    → is_halt (spec_of f.net b).kind ≡ true → (mark_at s.marks b).active ≡ true → halts f.net active ≡ true
halts_here f source s y active b block shown h on = halts_at_block f.net active b block (sym (shown.active_are b block) ∙ on) h

-- none is
pub never_halts : (f : Fixed) (source : Source) (s : Standing) (y : Signals) (active : Activity) (xs : List ℕ) → ShowsValues f source s y active
    → AreAmong f.net (active_of_kinds f.net is_halt active) xs → ((b : ℕ) → Contains xs b → is_halt (spec_of f.net b).kind ≡ true → (mark_at s.marks b).active ≡ true → ⊥)
    → halts f.net active ≡ false
never_halts f source s y active xs shown among none =
    no_halt active f.net.specs 1
    (λ j l a. let e : 1 + j ≡ suc j = omega arith in
    let on = ap active (sym e) ∙ a in
    let block : IsBlock f.net (suc j) = record { least = omega arith; most = omega (arith, l) } in
    ⊎_elim (λ h. absurd (none (suc j) (among (suc j) block (and_true (active (suc j)) (is_halt (spec_of f.net (suc j)).kind) on h)) h (shown.active_are (suc j) block ∙ on)))
    (λ off. off)
    (cases_Bool (is_halt (get_or f.net.specs j no_spec).kind)))

-- blocks among which all active ones stand serve for each kind
pub among_kinds : (n : Parts) (is : Kind → Bool) (active : Activity) (xs : List ℕ) → AreAmong n active xs → AreAmong n (active_of_kinds n is active) xs
among_kinds n is active xs among b block on = among b block (and_both (active b) (is (spec_of n b).kind) on).0

-- ---- counts

-- where some blocks are active once more, the count is greater by as many as count
pub activations_more : (counts : Spec → Bool) (active : Activity) (before : ℕ → ℕ) (b : ℕ) (ss : List Spec)
    → activations_from counts b ss (λ c. if active c then before c + 1 else before c)
    ≡ activations_from counts b ss before + activations_from counts b ss (λ c. if active c then 1 else 0)
activations_more counts active before b [] = refl
activations_more counts active before b (s ∷ ss) =
    let rest = activations_more counts active before (b + 1) ss in
    let here = one_more (counts s) (active b) (before b) in
    omega (arith, rest, here)
  where
    one_more : (c a : Bool) (n : ℕ) → (if c then (if a then n + 1 else n) else 0) ≡ (if c then n else 0) + (if c then (if a then 1 else 0) else 0)
    one_more true true n = refl
    one_more true false n = omega arith
    one_more false a n = refl

-- a count that stays once it is full
pub counts_more : (old new before after active : ℕ) → new ≡ min (old + active) 18446744073709551615 → old ≡ min before 18446744073709551615 → after ≡ before + active
    → new ≡ min after 18446744073709551615
counts_more old new before after active a b c = omega (arith, a, b, c)

-- ---- what stays of a store

-- values, cursors and marks
pub record AreKept (s t : Standing) : Type 0 where
  pub values : t.values ≡ s.values
  pub cursors : t.cursors ≡ s.cursors
  pub marks : t.marks ≡ s.marks
  pub room : length t.room ≡ length s.room
  pub chosen : length t.chosen ≡ length s.chosen

pub kept_counts : (s t : Standing) → t ≡ record s { lines = t.lines; sum = t.sum } → AreKept s t
kept_counts s t e = record {
  values = ap (λ (v : Standing). v.values) e;
  cursors = ap (λ (v : Standing). v.cursors) e;
  marks = ap (λ (v : Standing). v.marks) e;
  room = ap (λ (v : Standing). length v.room) e;
  chosen = ap (λ (v : Standing). length v.chosen) e;
}

pub kept_room : (s t : Standing) → t ≡ record s { room = t.room } → length t.room ≡ length s.room → AreKept s t
kept_room s t e long = record {
  values = ap (λ (v : Standing). v.values) e;
  cursors = ap (λ (v : Standing). v.cursors) e;
  marks = ap (λ (v : Standing). v.marks) e;
  room = long;
  chosen = ap (λ (v : Standing). length v.chosen) e;
}

pub kept_then : (s t u : Standing) → AreKept s t → AreKept t u → AreKept s u
kept_then s t u a b = record {
  values = b.values ∙ a.values;
  cursors = b.cursors ∙ a.cursors;
  marks = b.marks ∙ a.marks;
  room = b.room ∙ a.room;
  chosen = b.chosen ∙ a.chosen;
}

module _ (f : Fixed) (s t : Standing) (kept : AreKept s t) where
  pub store_alike : IsStore f s → IsStore f t
  store_alike h = record {
    values = ap (λ (vs : List ℤ). length vs) kept.values ∙ h.values;
    cursors = ap (λ (cs : List ℕ). length cs) kept.cursors ∙ h.cursors;
    marks = ap (λ (ms : List Mark). length ms) kept.marks ∙ h.marks;
    room = subst (λ (n : ℕ). f.layout.longest ≤ n) (sym kept.room) h.room;
    chosen = kept.chosen ∙ h.chosen;
  }

  pub range_alike : AreInRange f.net (values_at f.net s.values) → AreInRange f.net (values_at f.net t.values)
  range_alike h = subst (λ (vs : List ℤ). AreInRange f.net (values_at f.net vs)) (sym kept.values) h

  pub masks_alike : ((b : ℕ) → IsBlock f.net b → (mark_at s.marks b).active ≡ true → IsMask (spec_of f.net b) (mark_at s.marks b).mask)
      → (b : ℕ) → IsBlock f.net b → (mark_at t.marks b).active ≡ true → IsMask (spec_of f.net b) (mark_at t.marks b).mask
  masks_alike h = subst (λ (ms : List Mark). (b : ℕ) → IsBlock f.net b → (mark_at ms b).active ≡ true → IsMask (spec_of f.net b) (mark_at ms b).mask) (sym kept.marks) h

  pub sensed_alike : (i : Columns) → ((b : ℕ) → IsBlock f.net b → (mark_at s.marks b).active ≡ true → is_sensor (spec_of f.net b).kind ≡ true → IsSome (next_value i (spec_of f.net b) (cursor_at s b)))
      → (b : ℕ) → IsBlock f.net b → (mark_at t.marks b).active ≡ true → is_sensor (spec_of f.net b).kind ≡ true → IsSome (next_value i (spec_of f.net b) (cursor_at t b))
  sensed_alike i h b block on sensor =
      subst (λ (cs : List ℕ). IsSome (next_value i (spec_of f.net b) (numbered 0 cs b))) (sym kept.cursors)
      (h b block (ap (λ (ms : List Mark). (mark_at ms b).active) (sym kept.marks) ∙ on) sensor)

  pub shown_alike : (source : Source) (y : Signals) (active : Activity) → ShowsValues f source s y active → ShowsValues f source t y active
  shown_alike source y active h = record {
    values = λ b block. ap (λ (vs : List ℤ). values_at f.net vs b) kept.values ∙ h.values b block;
    active_are = λ b block. ap (λ (ms : List Mark). (mark_at ms b).active) kept.marks ∙ h.active_are b block;
    masks = λ b block on. subst (λ (ms : List Mark). IsMaskOf f.net source y b (mark_at ms b).mask) (sym kept.marks) (h.masks b block on);
  }

  pub before_alike : (banks : List Meaning) (m : Memory) → ShowsBefore f s banks m → ShowsBefore f t banks m
  before_alike banks m h = record {
    held = λ b block off. ap (λ (vs : List ℤ). values_at f.net vs b) kept.values
        ∙ h.held b block (ap (λ (ms : List Mark). (mark_at ms b).active) (sym kept.marks) ∙ off);
    cursor = λ b block. ap (λ (cs : List ℕ). numbered 0 cs b) kept.cursors ∙ h.cursor b block;
    state = h.state;
  }

-- ---- sensors

some_value : (kind_is : Bool) (s : Spec) (x : List ℤ) (mask : ℕ) (next : Option ℤ) (us vs : List ℤ) → kind_is ≡ true
    → (if kind_is then sensed s x mask next else values_or_word (out s x mask us)) ≡ Ok vs → IsSome next
some_value true s x mask None us vs on h = absurd (cc h)
some_value true s x mask (Some v) us vs on h = refl
some_value false s x mask next us vs on h = absurd (cc on)

-- an active sensor of a reaction with values has taken a value of its column
pub value_taken : (n : Parts) (m : Memory) (i : Columns) (source : Source) (y : Signals) (b : ℕ) → IsResult n m i source (Whole y) → IsBlock n b → Active n source y b → is_sensor (spec_of n b).kind ≡ true
    → IsSome (next_value i (spec_of n b) (m.cursor b))
unfolding answer
value_taken n m i source y b result block active sensor = by_meets (result b block)
  where
    by_meets : Meets n m i source y b → IsSome (next_value i (spec_of n b) (m.cursor b))
    by_meets (inl g) = some_value (is_sensor (spec_of n b).kind) (spec_of n b) (m.state b) g.mask (next_value i (spec_of n b) (m.cursor b)) (all_inputs (spec_of n b) (input_in n y b)) (y b) sensor g.answer_is
    by_meets (inr h) = absurd (h.idle active)

-- ---- a reaction with values

module _ (f : Fixed) (source : Source) (frame : IsFrame f) (i : Columns) (m : Memory) (s t : Standing) (banks mid : List Meaning) (v : IsValued f i source m s t banks mid) where
  pub range_here : AreInRange f.net (values_at f.net t.values)
  range_here b block = subst (Fills (spec_of f.net b).outs) (sym (v.shown.values b block)) (v.in_range b block)

  pub masks_here : (b : ℕ) → IsBlock f.net b → (mark_at t.marks b).active ≡ true → IsMask (spec_of f.net b) (mark_at t.marks b).mask
  masks_here b block on =
      let active = sym (v.shown.active_are b block) ∙ on in
      mask_in_range f.net source v.y b (mark_at t.marks b).mask frame.net ((v.active_are b block).0 active) (v.shown.masks b block active)

  module _ (shown : ShowsMemory f s banks m) where
    pub states_here : IsMemory f.net m → (b : ℕ) → IsBlock f.net b → IsState (spec_of f.net b) (state_of f mid b)
    states_here memory b block = subst (IsState (spec_of f.net b)) (sym (v.states b block ∙ shown.state b block)) (memory.states b block)

    pub sensed_here : (b : ℕ) → IsBlock f.net b → (mark_at t.marks b).active ≡ true → is_sensor (spec_of f.net b).kind ≡ true → IsSome (next_value i (spec_of f.net b) (cursor_at t b))
    sensed_here b block on sensor =
        let active = sym (v.shown.active_are b block) ∙ on in
        let same : cursor_at t b ≡ m.cursor b = ap (λ (cs : List ℕ). numbered 0 cs b) v.cursors ∙ shown.cursor b block in
        subst (λ (c : ℕ). IsSome (next_value i (spec_of f.net b) c)) (sym same) (value_taken f.net m i source v.y b v.result block ((v.active_are b block).0 active) sensor)

    pub before_here : ShowsBefore f t mid m
    before_here = record {
      held = λ b block off. v.shown.values b block
          ∙ ⊎_elim (λ gives. absurd (true≢false (sym ((v.active_are b block).1 gives.active) ∙ (sym (v.shown.active_are b block) ∙ off)))) (λ holds. holds.held) (v.result b block);
      cursor = λ b block. ap (λ (cs : List ℕ). numbered 0 cs b) v.cursors ∙ shown.cursor b block;
      state = λ b block. v.states b block ∙ shown.state b block;
    }

-- the reaction with these values leads to a state
pub outcome_here : (f : Fixed) (source : Source) (i : Columns) (st : State) (s t : Standing) (banks mid : List Meaning) (v : IsValued f i source st.memory s t banks mid)
    (date : ℕ) (m : Memory) → IsNextMemory f.net st.memory source v.y m
    → Reacts f.net i date source st (after_reaction f.net date st v.y v.active m) (values_seen f.net date source v.y v.active)
outcome_here f source i st s t banks mid v date m next = record {
  values = v.y;
  active = v.active;
  memory = m;
  result = v.result;
  active_are = v.active_are;
  next = next;
  leads = refl;
  observed = refl;
}

pub shown_marks : (f : Fixed) (source : Source) (s t : Standing) (y : Signals) (active : Activity) → t.values ≡ s.values → t.marks ≡ s.marks
    → ShowsValues f source s y active → ShowsValues f source t y active
shown_marks f source s t y active values marks h = record {
  values = λ b block. ap (λ (vs : List ℤ). values_at f.net vs b) values ∙ h.values b block;
  active_are = λ b block. ap (λ (ms : List Mark). (mark_at ms b).active) marks ∙ h.active_are b block;
  masks = λ b block on. subst (λ (ms : List Mark). IsMaskOf f.net source y b (mark_at ms b).mask) (sym marks) (h.masks b block on);
}
