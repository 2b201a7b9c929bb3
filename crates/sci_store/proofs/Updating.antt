-- How the states of a row's blocks are stepped.
use Rattle.std.proofs.Common.{◌≡◌, ◌≢◌, ℕ, zero, suc, ◌+◌, ◌-◌, ◌<◌, ◌≤◌, Bool, true, false, ◌&&◌, ◌||◌, eqb, inl, inr, ⊎_elim, ℤ, List, [], ◌∷◌, ◌++◌, length, get_or, set, take, refl, sym, ap, subst, ◌∙◌, arith, true≢false}
use Rattle.std.specs.Prelude.{AllPairs, if◌then◌else◌}
use Rattle.std.specs.List.{list_any}
use Rattle.std.proofs.lemmas.Bool.{cases_Bool, cases_eq, eqb-true}
use Rattle.std.proofs.lemmas.List.{length-set, get_or-set_same, get_or-set_other, length-take-le, get_or-take, get_or_default}
use Rattle.sci_forms.specs.declared.Kind.{Kind}
use Rattle.sci_forms.specs.declared.Kind.TheVariants.{Sensor}
use Rattle.sci_forms.specs.Form.{has_state}
use Rattle.sci_forms.specs.declared.spec.Spec.{Spec}
use Rattle.sci_forms.specs.declared.ports.Port.{Port}
use Rattle.sci_forms.specs.Ports.{elements, Fills}
use Rattle.sci_base.specs.Lists.{at, listed}
use Rattle.sci_kinds.specs.Table.{next, state_len}
use Rattle.sci_kinds.specs.Asks.{laid, IsState, entering_of, entering}
use Rattle.sci_net.specs.declared.Source.{Source}
use Rattle.sci_net.specs.Parts.{Parts, IsBlock, numbered, spec_of, wire_of}
use Rattle.sci_forms.specs.Form.{is_sensor}
use Rattle.sci_net.specs.Net.{IsNet}
use Rattle.sci_reaction.specs.Memory.{Memory, IsMemory}
use Rattle.sci_reaction.specs.Equations.{Signals, AreInRange, input_in, all_inputs, output_among}
use Rattle.sci_reaction.specs.Next.{IsUpdated, Stays, IsNextMemory}
use Rattle.sci_reaction.proofs.Next.{memory_in_range}
use Rattle.sci_reaction.proofs.Fills.{inputs_in_range}
use Rattle.sci_run.specs.Activity.{Activity, IsActivity}
use Rattle.sci_places.specs.Flat.{values_at}
use Rattle.sci_bank.specs.Bank.{Meaning, row_at, row_after_update, after_update, no_row, no_bank}
use Rattle.sci_bank.specs.declared.instance.Instance.{Instance}
use Rattle.sci_bank.specs.Library.{place_of, bank_of, with_bank, Holds, AreInOrder, IsFull}
use Rattle.sci_bank.proofs.LibraryLemmas.{Holds-full, kind_of-bank}
use Rattle.sci_pass.specs.State.{IsSameButState}
use Rattle.sci_pass.proofs.Meanings.{same_but_state, state_stays}
use Rattle.sci_store.specs.Marks.{mark_at}
use Rattle.sci_store.specs.declared.seats.Seat.{Seat}
use Rattle.sci_store.specs.Frame.{Fixed, IsFrame, seat_of, instance_of, AreSeated}
use Rattle.sci_store.specs.Store.{Standing, IsStore, cursor_at, state_of, ShowsValues}
use Rattle.sci_store.specs.Passed.{IsStateStepped, IsBlockStepped, IsStepped, ShowsBefore, AreAlikeCounts, KeepsValues}
use Rattle.sci_store.specs.Written.{AreAmong}
use Rattle.sci_store.specs.Runs.{is_stepped, next_state, next_cursor, AreStepped}
use Rattle.sci_bank.specs.declared.runs.Call.{Call}
use Rattle.sci_store.specs.Chosen.{active_of_kinds}
use Rattle.sci_forms.specs.Form.{remembers}
use Rattle.sci_reaction.proofs.Lists.{Has, Has-push, and_true}
use Rattle.sci_reaction.proofs.Rows.{Contains-has, has-Contains}
use Rattle.sci_store.proofs.Writing.{seen_if, seen_unless}

-- ---- the inputs of blocks, on values that are the same at the blocks

same_laid : (ps : List Port) (f g : ℕ → List ℤ) → ((k : ℕ) → k < length ps → f (suc k) ≡ g (suc k)) → laid ps f ≡ laid ps g
same_laid [] f g h = refl
same_laid (p ∷ ps) f g h =
    ap (λ (xs : List ℤ). listed (at xs) (elements p) ++ laid ps (λ k. f (suc k))) (h 0 (omega arith))
    ∙ ap (λ (xs : List ℤ). listed (at (g 1)) (elements p) ++ xs) (same_laid ps (λ k. f (suc k)) (λ k. g (suc k)) (λ k l. h (suc k) (omega arith)))

pub same_inputs : (n : Parts) (y z : Signals) (b : ℕ) → IsNet n → IsBlock n b → ((c : ℕ) → IsBlock n c → y c ≡ z c)
    → all_inputs (spec_of n b) (input_in n y b) ≡ all_inputs (spec_of n b) (input_in n z b)
same_inputs n y z b net block same =
    same_laid (spec_of n b).ins (input_in n y b) (input_in n z b)
    (λ k l. let w = wire_of n b (suc k) in
    let lead = net.wired.wires_lead b (suc k) (record { block = block; least = omega arith; most = omega (arith, l) }) in
    ap (λ vs. output_among (spec_of n w.block).outs vs w.port) (same w.block lead.block))

-- ---- a change of one bank

pub other_bank : (banks : List Meaning) (k j : Kind) (m : Meaning) → place_of j ≢ place_of k → bank_of (with_bank banks k m) j ≡ bank_of banks j
other_bank banks k j m ne = get_or-set_other banks (place_of k) (place_of j) m no_bank ne

pub this_bank : (banks : List Meaning) (k j : Kind) (m : Meaning) → Holds banks k → place_of j ≡ place_of k → bank_of (with_bank banks k m) j ≡ m
this_bank banks k j m h e = ap (λ (i : ℕ). get_or (set banks (place_of k) m) i no_bank) e ∙ get_or-set_same banks (place_of k) m no_bank h

pub same_kind : (banks : List Meaning) (k j : Kind) → AreInOrder banks → IsFull banks → place_of j ≡ place_of k → j ≡ k
same_kind banks k j order full e =
    sym (kind_of-bank banks j order (Holds-full banks j full)) ∙ (ap (λ (i : ℕ). (get_or banks i no_bank).kind) e ∙ kind_of-bank banks k order (Holds-full banks k full))

-- what is read of a bank stays where the changed one has it from before
pub same_of_bank : {A : Type 0} (read : Meaning → A) (banks : List Meaning) (k j : Kind) (m : Meaning) → IsFull banks → read m ≡ read (bank_of banks k)
    → read (bank_of (with_bank banks k m) j) ≡ read (bank_of banks j)
same_of_bank read banks k j m full same = ⊎_elim
    (λ e. ap read (this_bank banks k j m (Holds-full banks k full) e) ∙ (same ∙ ap (λ (i : ℕ). read (get_or banks i no_bank)) (sym e)))
    (λ ne. ap read (other_bank banks k j m ne))
    (cases_eq (place_of j) (place_of k))

-- ---- one block is stepped

module _ (f : Fixed) (banks : List Meaning) (seated : AreSeated f banks) (b : ℕ) (block : IsBlock f.net b) (mask : ℕ) (ins : List ℤ) where
  abbrev kind_here : Kind
  kind_here = (seat_of f b).kind

  abbrev slot_here : ℕ
  slot_here = (seat_of f b).slot

  abbrev updated : Meaning
  updated = after_update (bank_of banks kind_here) slot_here mask ins

  abbrev after : List Meaning
  after = with_bank banks kind_here updated

  counts_stay : AreAlikeCounts banks after
  counts_stay k = same_of_bank (λ (m : Meaning). m.outs) banks kind_here k updated seated.full refl

  lengths_stay : (k : Kind) → length (bank_of after k).rows ≡ length (bank_of banks k).rows
  lengths_stay k =
      same_of_bank (λ (m : Meaning). length m.rows) banks kind_here k updated seated.full
      (length-set (bank_of banks kind_here).rows slot_here (row_after_update (instance_of f banks b) mask ins))

  here_after : instance_of f after b ≡ row_after_update (instance_of f banks b) mask ins
  here_after =
      ap (λ (m : Meaning). row_at m slot_here) (this_bank banks kind_here kind_here updated (Holds-full banks kind_here seated.full) refl)
      ∙ get_or-set_same (bank_of banks kind_here).rows slot_here (row_after_update (instance_of f banks b) mask ins) no_row (seated.known b block)

  -- the instance of another block
  other_after : (c : ℕ) → IsBlock f.net c → b ≢ c → instance_of f after c ≡ instance_of f banks c
  other_after c other ne = ⊎_elim
      (λ e. let kinds = same_kind banks kind_here (seat_of f c).kind seated.in_order seated.full e in
      let slots : (seat_of f c).slot ≢ slot_here = λ s. ne (seated.apart b c block other (sym kinds) (sym s)) in
      ap (λ (m : Meaning). row_at m (seat_of f c).slot) (this_bank banks kind_here (seat_of f c).kind updated (Holds-full banks kind_here seated.full) e)
      ∙ (get_or-set_other (bank_of banks kind_here).rows slot_here (seat_of f c).slot (row_after_update (instance_of f banks b) mask ins) no_row slots
      ∙ ap (λ (i : ℕ). row_at (get_or banks i no_bank) (seat_of f c).slot) (sym e)))
      (λ apart. ap (λ (m : Meaning). row_at m (seat_of f c).slot) (other_bank banks kind_here (seat_of f c).kind updated apart))
      (cases_eq (place_of (seat_of f c).kind) (place_of kind_here))

  spec_after : (c : ℕ) → IsBlock f.net c → (instance_of f after c).spec ≡ (instance_of f banks c).spec
  spec_after c other = ⊎_elim
      (λ same. ap (λ (x : ℕ). (instance_of f after x).spec) (sym same)
      ∙ (ap (λ (r : Instance). r.spec) here_after ∙ ap (λ (x : ℕ). (instance_of f banks x).spec) same))
      (λ ne. ap (λ (r : Instance). r.spec) (other_after c other ne)) (cases_eq b c)

  pub seated_after : IsFull after → AreInOrder after → AreSeated f after
  seated_after full order = record {
    full = full;
    in_order = order;
    known = λ c other. subst (λ (n : ℕ). (seat_of f c).slot < n) (sym (lengths_stay (seat_of f c).kind)) (seated.known c other);
    specs = λ c other. subst (λ (t : Spec). IsSameButState (spec_of f.net c) t) (sym (spec_after c other)) (seated.specs c other);
    lengths = λ c other. seated.lengths c other ∙ ap state_len (sym (spec_after c other));
    apart = seated.apart;
  }

  state_after : state_of f after b ≡ next (spec_of f.net b) (state_of f banks b) mask ins
  state_after =
      ap (λ (r : Instance). r.state) here_after
      ∙ sym ((same_but_state (spec_of f.net b) (instance_of f banks b).spec (seated.specs b block)).next (seated.lengths b block) (state_of f banks b) mask ins)

  other_state : (c : ℕ) → IsBlock f.net c → b ≢ c → state_of f after c ≡ state_of f banks c
  other_state c other ne = ap (λ (r : Instance). r.state) (other_after c other ne)

-- a block with a state is stepped
pub stepped_with_state : (f : Fixed) (s t : Standing) (banks new : List Meaning) (b : ℕ) (seat : Seat) (mask : ℕ) (ins : List ℤ) → AreSeated f banks
    → IsBlock f.net b → seat ≡ seat_of f b → mask ≡ (mark_at s.marks b).mask
    → new ≡ with_bank banks seat.kind (after_update (bank_of banks seat.kind) seat.slot mask ins)
    → ins ≡ all_inputs (spec_of f.net b) (input_in f.net (values_at f.net s.values) b) → (IsFull banks → IsFull new) → (AreInOrder banks → AreInOrder new)
    → t ≡ record s { room = t.room } → length t.room ≡ length s.room → IsStateStepped f b s t banks new
stepped_with_state f s t banks new b seat mask ins seated block at masked changed inputs full order same long =
    let marked = (mark_at s.marks b).mask in
    let change = changed ∙ (ap (λ (x : Seat). with_bank banks x.kind (after_update (bank_of banks x.kind) x.slot mask ins)) at
    ∙ ap (λ (m : ℕ). with_bank banks (seat_of f b).kind (after_update (bank_of banks (seat_of f b).kind) (seat_of f b).slot m ins)) masked) in
    subst (λ (x : List Meaning). IsFull x → AreInOrder x → IsStateStepped f b s t banks x) (sym change)
    (λ full_now in_order_now. record {
      state = state_after f banks seated b block marked ins ∙ ap (λ (u : List ℤ). next (spec_of f.net b) (state_of f banks b) marked u) inputs;
      same = same;
      room = long;
      others = other_state f banks seated b block marked ins;
      seated = seated_after f banks seated b block marked ins full_now in_order_now;
      counts = counts_stay f banks seated b block marked ins;
    }) (full seated.full) (order seated.in_order)

-- a block without a state stays
pub stepped_without_state : (f : Fixed) (s : Standing) (banks : List Meaning) (b : ℕ) → AreSeated f banks → has_state (spec_of f.net b).kind ≡ false
    → IsState (spec_of f.net b) (state_of f banks b) → IsStateStepped f b s s banks banks
stepped_without_state f s banks b seated none is = record {
  state = sym (state_stays (spec_of f.net b) (state_of f banks b) (mark_at s.marks b).mask (all_inputs (spec_of f.net b) (input_in f.net (values_at f.net s.values) b)) none is);
  same = refl;
  room = refl;
  others = λ c block ne. refl;
  seated = seated;
  counts = λ k. refl;
}

-- with a sensor's next cursor
abbrev pub next_cursors : Fixed → Standing → ℕ → List ℕ
next_cursors f s b = if is_sensor (spec_of f.net b).kind then set s.cursors (b - 1) (cursor_at s b + 1) else s.cursors

pub block_stepped : (f : Fixed) (b : ℕ) (s t u : Standing) (banks after : List Meaning) → IsStateStepped f b s t banks after
    → u ≡ record t { cursors = next_cursors f t b } → IsBlockStepped f b s u banks after
block_stepped f b s t u banks _ step moved = record {
  state = step.state;
  cursor = moved ∙ (ap (λ (v : Standing). record v { cursors = next_cursors f v b }) step.same
      ∙ ap (λ (r : List ℤ). record s { cursors = next_cursors f s b; room = r }) (sym (ap (λ (v : Standing). v.room) moved)));
  room = ap (λ (v : Standing). length v.room) moved ∙ step.room;
  others = step.others;
  seated = step.seated;
  counts = step.counts;
}

pub sensor_moves : (f : Fixed) (t : Standing) (b v : ℕ) → is_sensor (spec_of f.net b).kind ≡ true → v ≡ cursor_at t b
    → record t { cursors = set t.cursors (b - 1) (v + 1) } ≡ record t { cursors = next_cursors f t b }
sensor_moves f t b v on read =
    ap (λ (x : ℕ). record t { cursors = set t.cursors (b - 1) (x + 1) }) read
    ∙ ap (λ (cs : List ℕ). record t { cursors = cs }) (sym (seen_if (is_sensor (spec_of f.net b).kind) (set t.cursors (b - 1) (cursor_at t b + 1)) t.cursors on))

pub others_stay : (f : Fixed) (t : Standing) (b : ℕ) → is_sensor (spec_of f.net b).kind ≡ false → t ≡ record t { cursors = next_cursors f t b }
others_stay f t b off =
    ap (λ (cs : List ℕ). record t { cursors = cs }) (sym (seen_unless (is_sensor (spec_of f.net b).kind) (set t.cursors (b - 1) (cursor_at t b + 1)) t.cursors off))

pub not_sensor : (k : Kind) → (k ≡ Sensor → ⊥) → is_sensor k ≡ false
not_sensor Sensor h = absurd (h refl)
not_sensor _ h = refl

-- a sensor has no state
pub sensor_stateless : (k : Kind) → is_sensor k ≡ true → has_state k ≡ false
sensor_stateless Sensor h = refl
sensor_stateless _ h = absurd (true≢false (sym h))

-- a kind with a state is no sensor
plain_inputs : (k : Kind) (s : Spec) → has_state k ≡ true → entering_of k s ≡ s.ins
plain_inputs Sensor s h = absurd (true≢false (sym h))
plain_inputs _ s h = refl

pub state_inputs : (f : Fixed) (s : Standing) (b : ℕ) (ins : List ℤ) → IsFrame f → IsBlock f.net b → has_state (spec_of f.net b).kind ≡ true
    → AreInRange f.net (values_at f.net s.values) → ins ≡ all_inputs (spec_of f.net b) (input_in f.net (values_at f.net s.values) b)
    → Fills (entering (spec_of f.net b)) ins
state_inputs f s b ins frame block has range same =
    subst (λ (ps : List Port). Fills ps ins) (sym (plain_inputs (spec_of f.net b).kind (spec_of f.net b) has))
    (subst (Fills (spec_of f.net b).ins) (sym same) (inputs_in_range f.net frame.net (values_at f.net s.values) b block range))

-- ---- the blocks of a row are stepped

pub and_nothing : (a : Bool) → (a && false) ≡ false
and_nothing true = refl
and_nothing false = refl

pub stepped_begin : (f : Fixed) (s : Standing) (banks : List Meaning) → AreSeated f banks → AreStepped f [] s s banks banks
stepped_begin f s banks seated = record {
  states = λ b block. sym (seen_unless (is_stepped [] s b) (next_state f s banks b) (state_of f banks b) (and_nothing (mark_at s.marks b).active));
  cursors = λ b block. sym (seen_unless (is_stepped [] s b) (next_cursor f s b) (cursor_at s b) (and_nothing (mark_at s.marks b).active));
  same = refl;
  long = refl;
  room = refl;
  chosen = refl;
  seated = seated;
  counts = λ k. refl;
}

pushed_other : (b x : ℕ) (done : List ℕ) → (b ≡ x → ⊥) → list_any (eqb b) (done ++ x ∷ []) ≡ list_any (eqb b) done
pushed_other b x [] ne = ⊎_elim (λ on. absurd (ne (eqb-true b x on))) (λ off. ap (λ (t : Bool). t || false) off) (cases_Bool (eqb b x))
pushed_other b x (d ∷ done) ne = ap (λ (t : Bool). eqb b d || t) (pushed_other b x done ne)

cursor_here : (sensor : Bool) (cs : List ℕ) (x v : ℕ) → 1 ≤ x → x ≤ length cs → numbered 0 (if sensor then set cs (x - 1) v else cs) x ≡ (if sensor then v else numbered 0 cs x)
cursor_here sensor cs zero v l m = absurd (omega arith)
cursor_here true cs (suc j) v l m = let e : suc j - 1 ≡ j = omega arith in rw e (get_or-set_same cs j v 0 (omega (arith, m)))
cursor_here false cs (suc j) v l m = refl

cursor_there : (sensor : Bool) (cs : List ℕ) (x b v : ℕ) → 1 ≤ x → x ≢ b → numbered 0 (if sensor then set cs (x - 1) v else cs) b ≡ numbered 0 cs b
cursor_there sensor cs x zero v l ne = refl
cursor_there sensor cs zero (suc i) v l ne = absurd (omega arith)
cursor_there true cs (suc j) (suc i) v l ne =
    let e : suc j - 1 ≡ j = omega arith in rw e (get_or-set_other cs j i v 0 (λ same. ne (ap suc (sym same))))
cursor_there false cs (suc j) (suc i) v l ne = refl

cursor_length : (sensor : Bool) (cs : List ℕ) (x v : ℕ) → length (if sensor then set cs x v else cs) ≡ length cs
cursor_length true cs x v = length-set cs x v
cursor_length false cs x v = refl

-- the next block is active
module _ (f : Fixed) (done : List ℕ) (s t u : Standing) (banks mid after : List Meaning) (x : ℕ) (block : IsBlock f.net x) (before : AreStepped f done s t banks mid)
    (active : (mark_at s.marks x).active ≡ true) (fresh : Has done x → ⊥) (step : IsBlockStepped f x t u mid after) where
  is_now : is_stepped (done ++ x ∷ []) s x ≡ true
  is_now = and_true (mark_at s.marks x).active (list_any (eqb x) (done ++ x ∷ [])) active (Has-push done x)

  was_not : is_stepped done s x ≡ false
  was_not =
      ap (λ (t : Bool). (mark_at s.marks x).active && t) (⊎_elim (λ on. absurd (fresh on)) (λ off. off) (cases_Bool (list_any (eqb x) done)))
      ∙ and_nothing (mark_at s.marks x).active

  as_before : (b : ℕ) → x ≢ b → is_stepped done s b ≡ is_stepped (done ++ x ∷ []) s b
  as_before b ne = ap (λ (t : Bool). (mark_at s.marks b).active && t) (sym (pushed_other b x done (λ e. ne (sym e))))

  state_here : state_of f after x ≡ (if is_stepped (done ++ x ∷ []) s x then next_state f s banks x else state_of f banks x)
  state_here =
      let ins = all_inputs (spec_of f.net x) (input_in f.net (values_at f.net s.values) x) in
      step.state ∙ (ap (λ (v : Standing). next_state f v mid x) before.same
      ∙ (ap (λ (st : List ℤ). next (spec_of f.net x) st (mark_at s.marks x).mask ins)
      (before.states x block ∙ seen_unless (is_stepped done s x) (next_state f s banks x) (state_of f banks x) was_not)
      ∙ sym (seen_if (is_stepped (done ++ x ∷ []) s x) (next_state f s banks x) (state_of f banks x) is_now)))

  states_next : (b : ℕ) → IsBlock f.net b → state_of f after b ≡ (if is_stepped (done ++ x ∷ []) s b then next_state f s banks b else state_of f banks b)
  states_next b other = ⊎_elim
      (λ same. subst (λ (c : ℕ). state_of f after c ≡ (if is_stepped (done ++ x ∷ []) s c then next_state f s banks c else state_of f banks c)) same state_here)
      (λ ne. step.others b other ne
      ∙ (before.states b other ∙ ap (λ (t : Bool). if t then next_state f s banks b else state_of f banks b) (as_before b ne)))
      (cases_eq x b)

  stepped_cursors : u.cursors ≡ (if is_sensor (spec_of f.net x).kind then set t.cursors (x - 1) (cursor_at t x + 1) else t.cursors)
  stepped_cursors = ap (λ (v : Standing). v.cursors) step.cursor

  module _ (enough : length s.cursors ≡ length f.net.specs) where
    old_cursor : cursor_at t x ≡ cursor_at s x
    old_cursor = before.cursors x block ∙ seen_unless (is_stepped done s x) (next_cursor f s x) (cursor_at s x) was_not

    here_cursor : cursor_at u x ≡ (if is_stepped (done ++ x ∷ []) s x then next_cursor f s x else cursor_at s x)
    here_cursor =
        ap (λ (cs : List ℕ). numbered 0 cs x) stepped_cursors
        ∙ (cursor_here (is_sensor (spec_of f.net x).kind) t.cursors x (cursor_at t x + 1) block.least (omega (arith, block.most, enough, before.long))
        ∙ (ap (λ (c : ℕ). if is_sensor (spec_of f.net x).kind then c + 1 else c) old_cursor
        ∙ sym (seen_if (is_stepped (done ++ x ∷ []) s x) (next_cursor f s x) (cursor_at s x) is_now)))

    cursors_next : (b : ℕ) → IsBlock f.net b → cursor_at u b ≡ (if is_stepped (done ++ x ∷ []) s b then next_cursor f s b else cursor_at s b)
    cursors_next b other = ⊎_elim
        (λ same. subst (λ (c : ℕ). cursor_at u c ≡ (if is_stepped (done ++ x ∷ []) s c then next_cursor f s c else cursor_at s c)) same here_cursor)
        (λ ne. ap (λ (cs : List ℕ). numbered 0 cs b) stepped_cursors
        ∙ (cursor_there (is_sensor (spec_of f.net x).kind) t.cursors x b (cursor_at t x + 1) block.least ne
        ∙ (before.cursors b other ∙ ap (λ (t : Bool). if t then next_cursor f s b else cursor_at s b) (as_before b ne))))
        (cases_eq x b)

    pub stepped_next : AreStepped f (done ++ x ∷ []) s u banks after
    stepped_next =
        let moved = if is_sensor (spec_of f.net x).kind then set t.cursors (x - 1) (cursor_at t x + 1) else t.cursors in
        record {
          states = states_next;
          cursors = cursors_next;
          same = step.cursor ∙ (ap (λ (v : Standing). record v { cursors = moved; room = u.room }) before.same
              ∙ (ap (λ (cs : List ℕ). record s { cursors = cs; room = u.room; chosen = t.chosen }) (sym stepped_cursors)
              ∙ ap (λ (cs : List Call). record s { cursors = u.cursors; room = u.room; chosen = cs }) (sym (ap (λ (v : Standing). v.chosen) step.cursor))));
          long = ap length stepped_cursors ∙ (cursor_length (is_sensor (spec_of f.net x).kind) t.cursors (x - 1) (cursor_at t x + 1) ∙ before.long);
          room = step.room ∙ before.room;
          chosen = ap (λ (v : Standing). length v.chosen) step.cursor ∙ before.chosen;
          seated = step.seated;
          counts = λ k. step.counts k ∙ before.counts k;
        }

-- the next block isn't active
idle_same : (done : List ℕ) (s : Standing) (x b : ℕ) → (mark_at s.marks x).active ≡ false → is_stepped done s b ≡ is_stepped (done ++ x ∷ []) s b
idle_same done s x b off = ⊎_elim
    (λ same. let off_there = ap (λ (c : ℕ). (mark_at s.marks c).active) (sym same) ∙ off in
    ap (λ (t : Bool). t && list_any (eqb b) done) off_there ∙ ap (λ (t : Bool). t && list_any (eqb b) (done ++ x ∷ [])) (sym off_there))
    (λ ne. ap (λ (t : Bool). (mark_at s.marks b).active && t) (sym (pushed_other b x done (λ e. ne (sym e)))))
    (cases_eq x b)

pub stepped_idle : (f : Fixed) (done : List ℕ) (s t : Standing) (banks after : List Meaning) (x : ℕ) → AreStepped f done s t banks after
    → (mark_at s.marks x).active ≡ false → AreStepped f (done ++ x ∷ []) s t banks after
stepped_idle f done s t banks _ x before off = record {
  states = λ b block. before.states b block ∙ ap (λ (t : Bool). if t then next_state f s banks b else state_of f banks b) (idle_same done s x b off);
  cursors = λ b block. before.cursors b block ∙ ap (λ (t : Bool). if t then next_cursor f s b else cursor_at s b) (idle_same done s x b off);
  same = before.same;
  long = before.long;
  room = before.room;
  chosen = before.chosen;
  seated = before.seated;
  counts = before.counts;
}

-- all blocks of the row are done that remember more than their outputs
either : {A : Type 0} (t : Bool) (x y : A) → y ≡ x → (if t then x else y) ≡ x
either true x y same = refl
either false x y same = same

neither : (a b : Bool) → (a || b) ≡ false → (a ≡ false) × (b ≡ false)
neither true b h = absurd (true≢false h)
neither false b h = (refl, h)

module _ (f : Fixed) (source : Source) (m : Memory) (y : Signals) (active : Activity) (xs : List ℕ) (s t : Standing) (banks after : List Meaning)
    (net : IsNet f.net) (is : IsActivity f.net source y active) (shown : ShowsValues f source s y active) (among : AreAmong f.net (active_of_kinds f.net remembers active) xs)
    (before : ShowsBefore f s banks m) (done : AreStepped f xs s t banks after) (is_memory : IsMemory f.net m) where
  abbrev memory_now : Memory
  memory_now = record { state = λ b. state_of f after b; held = λ b. values_at f.net t.values b; cursor = λ b. cursor_at t b }

  values_stay : t.values ≡ s.values
  values_stay = ap (λ (v : Standing). v.values) done.same

  on_now : (b : ℕ) → IsBlock f.net b → active b ≡ true → remembers (spec_of f.net b).kind ≡ true → is_stepped xs s b ≡ true
  on_now b block on some =
      and_true (mark_at s.marks b).active (list_any (eqb b) xs) (shown.active_are b block ∙ on)
      (Contains-has xs b (among b block (and_true (active b) (remembers (spec_of f.net b).kind) on some)))

  -- a block that isn't stepped has nothing to remember
  state_now : (b : ℕ) → IsBlock f.net b → active b ≡ true → (if is_stepped xs s b then next_state f s banks b else state_of f banks b) ≡ next_state f s banks b
  state_now b block on = ⊎_elim
      (λ some. seen_if (is_stepped xs s b) (next_state f s banks b) (state_of f banks b) (on_now b block on some))
      (λ none. let ins = all_inputs (spec_of f.net b) (input_in f.net (values_at f.net s.values) b) in
      let is = subst (IsState (spec_of f.net b)) (sym (before.state b block)) (is_memory.states b block) in
      either (is_stepped xs s b) (next_state f s banks b) (state_of f banks b)
      (sym (state_stays (spec_of f.net b) (state_of f banks b) (mark_at s.marks b).mask ins (neither (is_sensor (spec_of f.net b).kind) (has_state (spec_of f.net b).kind) none).1 is)))
      (cases_Bool (remembers (spec_of f.net b).kind))

  cursor_now : (b : ℕ) → IsBlock f.net b → active b ≡ true → (if is_stepped xs s b then next_cursor f s b else cursor_at s b) ≡ next_cursor f s b
  cursor_now b block on = ⊎_elim
      (λ some. seen_if (is_stepped xs s b) (next_cursor f s b) (cursor_at s b) (on_now b block on some))
      (λ none. either (is_stepped xs s b) (next_cursor f s b) (cursor_at s b)
      (sym (seen_unless (is_sensor (spec_of f.net b).kind) (cursor_at s b + 1) (cursor_at s b)
      (neither (is_sensor (spec_of f.net b).kind) (has_state (spec_of f.net b).kind) none).0)))
      (cases_Bool (remembers (spec_of f.net b).kind))

  off_now : (b : ℕ) → IsBlock f.net b → active b ≡ false → is_stepped xs s b ≡ false
  off_now b block off = ap (λ (t : Bool). t && list_any (eqb b) xs) (shown.active_are b block ∙ off)

  is_updated : (b : ℕ) → IsBlock f.net b → active b ≡ true → IsUpdated f.net m source y memory_now b
  is_updated b block on =
      let mask = (mark_at s.marks b).mask in
      let ins = all_inputs (spec_of f.net b) (input_in f.net (values_at f.net s.values) b) in
      record {
        active = (is b block).0 on;
        mask = mask;
        mask_is = shown.masks b block on;
        state = done.states b block ∙ (state_now b block on
            ∙ (ap (λ (st : List ℤ). next (spec_of f.net b) st mask ins) (before.state b block)
            ∙ ap (λ (u : List ℤ). next (spec_of f.net b) (m.state b) mask u) (same_inputs f.net (values_at f.net s.values) y b net block shown.values)));
        held = ap (λ (vs : List ℤ). values_at f.net vs b) values_stay ∙ shown.values b block;
        cursor = done.cursors b block ∙ (cursor_now b block on
            ∙ ap (λ (c : ℕ). if is_sensor (spec_of f.net b).kind then c + 1 else c) (before.cursor b block));
      }

  stays : (b : ℕ) → IsBlock f.net b → active b ≡ false → Stays f.net m source y memory_now b
  stays b block off = record {
    idle = λ on. true≢false (sym ((is b block).1 on) ∙ off);
    state = done.states b block ∙ (seen_unless (is_stepped xs s b) (next_state f s banks b) (state_of f banks b) (off_now b block off) ∙ before.state b block);
    held = ap (λ (vs : List ℤ). values_at f.net vs b) values_stay ∙ before.held b block (shown.active_are b block ∙ off);
    cursor = done.cursors b block ∙ (seen_unless (is_stepped xs s b) (next_cursor f s b) (cursor_at s b) (off_now b block off) ∙ before.cursor b block);
  }

  next_now : IsNextMemory f.net m source y memory_now
  next_now b block = ⊎_elim (λ on. inl (is_updated b block on)) (λ off. inr (stays b block off)) (cases_Bool (active b))

  values_in_range : AreInRange f.net (values_at f.net s.values) → AreInRange f.net y
  values_in_range range b block = subst (Fills (spec_of f.net b).outs) (shown.values b block) (range b block)

  pub stepped_all : AreInRange f.net (values_at f.net s.values) → IsStepped f source m y t after
  stepped_all range = record {
    memory = memory_now;
    next = next_now;
    in_range = memory_in_range f.net m source y memory_now net is_memory (values_in_range range) next_now;
    shown = record { held = λ b block. refl; cursor = λ b block. refl; state = λ b block. refl };
  }

-- ---- in the loop over a row

-- the next block isn't among those before it
pub fresh_at : (xs : List ℕ) (k : ℕ) → AllPairs (λ b c. b ≢ c) xs → k < length xs → Has (take k xs) (get_or xs k 0) → ⊥
fresh_at xs k pairs l h =
    let v = get_or xs k 0 in
    let c = has-Contains (take k xs) (get_or xs k 0) h in
    let long = length-take-le k xs (omega (arith, l)) in
    let before : c.0 < k = omega (arith, c.1, long) in
    pairs c.0 k 0 before l (get_or_default xs c.0 0 (get_or xs k 0) (omega (arith, before, l)) ∙ (sym (get_or-take k xs c.0 (get_or xs k 0) before) ∙ c.2))

module _ (f : Fixed) (done : List ℕ) (s t : Standing) (banks mid : List Meaning) (before : AreStepped f done s t banks mid) where
  pub store_kept : IsStore f s → IsStore f t
  store_kept h = record {
    values = ap (λ (v : Standing). length v.values) before.same ∙ h.values;
    cursors = before.long ∙ h.cursors;
    marks = ap (λ (v : Standing). length v.marks) before.same ∙ h.marks;
    room = subst (λ (n : ℕ). f.layout.longest ≤ n) (sym before.room) h.room;
    chosen = before.chosen ∙ h.chosen;
  }

  pub values_kept : KeepsValues s t
  values_kept = record {
    values = ap (λ (v : Standing). v.values) before.same;
    marks = ap (λ (v : Standing). v.marks) before.same;
    lines = ap (λ (v : Standing). v.lines) before.same;
    sum = ap (λ (v : Standing). v.sum) before.same;
  }

  module _ (x : ℕ) (block : IsBlock f.net x) (fresh : Has done x → ⊥) where
    not_yet : is_stepped done s x ≡ false
    not_yet =
        ap (λ (t : Bool). (mark_at s.marks x).active && t) (⊎_elim (λ on. absurd (fresh on)) (λ off. off) (cases_Bool (list_any (eqb x) done)))
        ∙ and_nothing (mark_at s.marks x).active

    pub state_before : state_of f mid x ≡ state_of f banks x
    state_before = before.states x block ∙ seen_unless (is_stepped done s x) (next_state f s banks x) (state_of f banks x) not_yet

    pub cursor_before : cursor_at t x ≡ cursor_at s x
    cursor_before = before.cursors x block ∙ seen_unless (is_stepped done s x) (next_cursor f s x) (cursor_at s x) not_yet
