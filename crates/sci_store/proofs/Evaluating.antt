-- What a block gives by its instance, and what its evaluation leaves.
use Rattle.std.proofs.Common.{◌≡◌, ◌≢◌, ℕ, zero, suc, ◌+◌, ◌-◌, ◌<◌, ◌≤◌, Bool, true, false, cond, inl, inr, ℤ, List, [], ◌∷◌, ◌++◌, length, take, drop, get_or, set, map, slice_get, Vec, Global, Contains, Option, Some, None, Result, Err, refl, sym, ap, ap₂, subst, ◌∙◌, arith, true≢false}
use Rattle.std.proofs.lemmas.Bool.{cases_eq}
use Rattle.std.proofs.lemmas.Grind.{get_or-set_at}
use Rattle.std.proofs.lemmas.List.{get_or-set_other, length-set, drop-drop, take_at}
use Rattle.std.proofs.lemmas.Option.{slice_get_within, get_or_from_slice_get}
use Rattle.sci_base.specs.Fit.{InRange}
use Rattle.sci_base.specs.Lists.{at}
use Rattle.sci_base.specs.declared.observation.StopWord.{StopWord}
use Rattle.sci_base.specs.declared.observation.StopWord.TheVariants.{Overflow as ByOverflow, Zero as ByZero, Input as ByInput}
use Rattle.sci_forms.specs.declared.Kind.{Kind}
use Rattle.sci_forms.specs.declared.Kind.TheVariants.{Sensor, IfThEl, ESelect}
use Rattle.sci_forms.specs.declared.spec.Spec.{Spec}
use Rattle.sci_forms.specs.Form.{is_sync}
use Rattle.sci_forms.specs.Ports.{total, Fills}
use Rattle.sci_forms.specs.Words.{out_type}
use Rattle.sci_kinds.specs.Asks.{Asks, IsMask, entering, entering_of}
use Rattle.sci_kinds.specs.Table.{Answer, Values, NoFit, NoQuotient, out, branch, state_len}
use Rattle.sci_kinds.proofs.LawProofs.{asks}
use Rattle.sci_kinds.proofs.Elements.{total_one, type_at_alike}
use Rattle.sci_net.specs.Parts.{Parts, IsBlock, spec_of, numbered, column_of}
use Rattle.sci_forms.specs.Form.{is_sensor}
use Rattle.sci_net.specs.Net.{IsNet}
use Rattle.sci_net.proofs.Numbered.{numbered_map}
use Rattle.sci_reaction.specs.Memory.{Columns, AreColumns, next_value}
use Rattle.sci_reaction.specs.Equations.{AreInRange, input_in, all_inputs, values_or_word, sensed, branch_on}
use Rattle.sci_reaction.proofs.Fills.{entering_ins, inputs_in_range}
use Rattle.sci_pass.specs.State.{AreAlike, IsSameButState}
use Rattle.sci_pass.proofs.Meanings.{same_but_state}
use Rattle.sci_places.specs.Flat.{start_of, values_at, IsWhole}
use Rattle.sci_span.specs.Values.{overwritten}
use Rattle.sci_places.specs.Layout.{Layout, place_at, block_span, input_spans}
use Rattle.sci_span.specs.declared.place.Place.{Place}
use Rattle.sci_span.specs.Values.{spans_length}
use Rattle.sci_span.specs.declared.span.Span.{Span}
use Rattle.sci_places.proofs.Outputs.{outputs_law}
use Rattle.sci_places.proofs.Inputs.{inputs_law}
use Rattle.sci_bank.specs.declared.instance.Instance.{Instance}
use Rattle.sci_bank.specs.declared.Fate.{Fate}
use Rattle.sci_bank.specs.declared.Fate.TheVariants.{Done, Overflow, Zero}
use Rattle.sci_bank.specs.Bank.{Meaning, no_bank, row_in, row_at, spec_at, IsCall, Tells, after_out}
use Rattle.sci_bank.specs.declared.runs.Call.{Call}
use Rattle.sci_bank.specs.Library.{place_of, bank_of, with_bank, Holds, AreInOrder}
use Rattle.sci_bank.proofs.LibraryLemmas.{Holds-full, kind_of-bank}
use Rattle.sci_store.specs.declared.seats.Seat.{Seat}
use Rattle.sci_store.specs.declared.marks.Mark.{Mark}
use Rattle.sci_store.specs.Marks.{idle, mark_at}
use Rattle.sci_store.specs.Frame.{Fixed, IsFrame, AreSeated, seat_of, bank_for, instance_of}
use Rattle.sci_store.specs.Store.{Standing, IsStore, cursor_at, state_of}
use Rattle.sci_store.specs.Entering.{one_value, entered, IsRoomFor, IsEntered}
use Rattle.sci_store.specs.Passed.{given, branch_of, called, IsComputed, IsStopped, IsEvaluated}

-- ---- a block's instance

module _ (f : Fixed) (banks : List Meaning) (seated : AreSeated f banks) (b : ℕ) (block : IsBlock f.net b) (seat : Seat) (same : seat ≡ seat_of f b) where
  abbrev kept : Spec
  kept = spec_at (bank_of banks seat.kind) seat.slot

  pub alike_here : AreAlike (spec_of f.net b) kept
  alike_here =
      subst (λ (s : Seat). AreAlike (spec_of f.net b) (spec_at (bank_of banks s.kind) s.slot)) (sym same)
      (same_but_state (spec_of f.net b) (instance_of f banks b).spec (seated.specs b block))

  pub known_here : seat.slot < length (bank_of banks seat.kind).rows
  known_here = subst (λ (s : Seat). s.slot < length (bank_of banks s.kind).rows) (sym same) (seated.known b block)

  pub fills_here : (us : List ℤ) → Fills (entering (spec_of f.net b)) us → Fills (entering kept) us
  fills_here us fills = subst (λ ps. Fills ps us) alike_here.entering fills

  pub call_here : (mask : ℕ) (us : List ℤ) → IsMask (spec_of f.net b) mask → Fills (entering (spec_of f.net b)) us
      → IsCall (bank_of banks seat.kind).rows seat.slot mask us
  call_here mask us masked fills = record { known = known_here; masked = alike_here.masks mask masked; filled = fills_here us fills }

  pub out_here : (mask : ℕ) (us : List ℤ)
      → out kept (row_at (bank_of banks seat.kind) seat.slot).state mask us ≡ out (spec_of f.net b) (state_of f banks b) mask us
  out_here mask us =
      subst
      (λ (s : Seat). out (spec_at (bank_of banks s.kind) s.slot) (row_at (bank_of banks s.kind) s.slot).state mask us
      ≡ out (spec_of f.net b) (state_of f banks b) mask us)
      (sym same) (sym ((same_but_state (spec_of f.net b) (instance_of f banks b).spec (seated.specs b block)).out (state_of f banks b) mask us))

  -- where the call's values are written
  pub computed_here : (mask : ℕ) (us vs old new : List ℤ) (start : ℕ) (fate : Fate) → new ≡ overwritten old start vs
      → Tells (out kept (row_at (bank_of banks seat.kind) seat.slot).state mask us) fate vs
      → IsComputed (out (spec_of f.net b) (state_of f banks b) mask us) start old new fate
  computed_here mask us vs old new start fate written tells =
      by_answer (out (spec_of f.net b) (state_of f banks b) mask us) (subst (λ a. Tells a fate vs) (out_here mask us) tells)
    where
      by_answer : (a : Answer) → Tells a fate vs → IsComputed a start old new fate
      by_answer (Values us) t = (t.0, written ∙ ap (overwritten old start) t.1)
      by_answer NoFit t = t
      by_answer NoQuotient t = t

  -- the branch that its instance takes
  pub branch_taken : (taken : ℕ) (us : List ℤ) → IsFrame f → is_sync seat.kind ≡ true → taken ≡ branch kept us
      → taken ≡ cond (is_sync (spec_of f.net b).kind) (branch (spec_of f.net b) us) 0
  branch_taken taken us frame on takes =
      let sync : is_sync (spec_of f.net b).kind ≡ true = ap is_sync (sym (ap (λ (s : Seat). s.kind) same ∙ (frame.seated b block).kind)) ∙ on in
      takes ∙ (sym (alike_here.branch us) ∙ ap (λ t. cond t (branch (spec_of f.net b) us) 0) (sym sync))

-- the bank of a kind is of this kind
pub kind_there : (f : Fixed) (banks : List Meaning) (k : Kind) → AreSeated f banks → (bank_of banks k).kind ≡ k
kind_there f banks k seated = kind_of-bank banks k seated.in_order (Holds-full banks k seated.full)

-- ---- the banks behind a call

rows_behind : (banks : List Meaning) (k l : Kind) → Holds banks k → (bank_of (with_bank banks k (after_out (bank_of banks k))) l).rows ≡ (bank_of banks l).rows
rows_behind banks k l there = elim (cases_eq (place_of l) (place_of k)) [
  | inl e ↦
      ap (λ (m : Meaning). m.rows) (get_or-set_at banks (place_of k) (place_of l) (after_out (bank_of banks k)) no_bank e there)
      ∙ ap (λ j. (get_or banks j no_bank).rows) (sym e)
  | inr n ↦ ap (λ (m : Meaning). m.rows) (get_or-set_other banks (place_of k) (place_of l) (after_out (bank_of banks k)) no_bank n)
]

module _ (f : Fixed) (banks : List Meaning) (seated : AreSeated f banks) (b : ℕ) where
  there : Holds banks (seat_of f b).kind
  there = Holds-full banks (seat_of f b).kind seated.full

  pub instance_behind : (c : ℕ) → instance_of f (called f banks b) c ≡ instance_of f banks c
  instance_behind c = ap (λ (rows : List Instance). row_in rows (seat_of f c).slot) (rows_behind banks (seat_of f b).kind (seat_of f c).kind there)

  pub seated_behind : AreInOrder (called f banks b) → AreSeated f (called f banks b)
  seated_behind order = record {
    full = length-set banks (place_of (seat_of f b).kind) (after_out (bank_for f banks b)) ∙ seated.full;
    in_order = order;
    known = λ c h. subst (λ (rows : List Instance). (seat_of f c).slot < length rows) (sym (rows_behind banks (seat_of f b).kind (seat_of f c).kind there))
        (seated.known c h);
    specs = λ c h. subst (λ (r : Instance). IsSameButState (spec_of f.net c) r.spec) (sym (instance_behind c)) (seated.specs c h);
    lengths = λ c h. seated.lengths c h ∙ ap (λ (r : Instance). state_len r.spec) (sym (instance_behind c));
    apart = seated.apart;
  }

  pub seated_after : (new : List Meaning) (seat : Seat) → seat ≡ seat_of f b → new ≡ with_bank banks seat.kind (after_out (bank_of banks seat.kind))
      → (AreInOrder banks → AreInOrder new) → AreSeated f new
  seated_after new seat same changed order =
      let is : new ≡ called f banks b = changed ∙ ap (λ (s : Seat). with_bank banks s.kind (after_out (bank_of banks s.kind))) same in
      subst (AreSeated f) (sym is) (seated_behind (subst AreInOrder is (order seated.in_order)))

-- ---- the values behind a call

module _ (f : Fixed) (banks : List Meaning) (seated : AreSeated f banks) (b : ℕ) (block : IsBlock f.net b) (seat : Seat) (same : seat ≡ seat_of f b)
    (place : Span) (where_it_is : place ≡ block_span f.net b) (values : List ℤ) (in_range : AreInRange f.net (values_at f.net values)) where
  alike : AreAlike (spec_of f.net b) (kept f banks seated b block seat same)
  alike = alike_here f banks seated b block seat same

  abbrev read : List ℤ
  read = take (place.start + place.len - place.start) (drop place.start values)

  abbrev rest : List ℤ
  rest = drop (place.start + place.len - place.start) (drop place.start values)

  read_is : read ≡ values_at f.net values b
  read_is =
      let e : start_of f.net b + total (spec_of f.net b).outs - start_of f.net b ≡ total (spec_of f.net b).outs = omega arith in
      subst (λ (p : Span). take (p.start + p.len - p.start) (drop p.start values) ≡ values_at f.net values b) (sym where_it_is)
      (ap (λ k. take k (drop (start_of f.net b) values)) e)

  pub room_here : length read ≡ total (kept f banks seated b block seat same).outs
  room_here = ap length read_is ∙ ((in_range b block).enough ∙ ap total alike.outs)

  fills_before : Fills (kept f banks seated b block seat same).outs read
  fills_before = subst (λ ps. Fills ps read) alike.outs (subst (Fills (spec_of f.net b).outs) (sym read_is) (in_range b block))

  module _ (vs : List ℤ) (keeps : Fills (kept f banks seated b block seat same).outs read → Fills (kept f banks seated b block seat same).outs vs) where
    pub fills_behind : Fills (spec_of f.net b).outs vs
    fills_behind = subst (λ ps. Fills ps vs) (sym alike.outs) (keeps fills_before)

    pub written_here : take place.start values ++ (vs ++ rest) ≡ overwritten values (start_of f.net b) vs
    written_here =
        let start = start_of f.net b in
        let size = total (spec_of f.net b).outs in
        let e : start + size - start ≡ length vs = omega (arith, fills_behind.enough) in
        subst (λ (p : Span). take p.start values ++ (vs ++ drop (p.start + p.len - p.start) (drop p.start values)) ≡ overwritten values start vs)
        (sym where_it_is)
        (ap (λ ws. take start values ++ (vs ++ ws)) (ap (λ k. drop k (drop start values)) e ∙ drop-drop (length vs) start values))

-- where the values of a block are replaced by others in range, all are in range
pub in_range_behind : (n : Parts) (values vs : List ℤ) (b : ℕ) → IsWhole n values → IsBlock n b → AreInRange n (values_at n values)
    → Fills (spec_of n b).outs vs
    → AreInRange n (values_at n (overwritten values (start_of n b) vs))
in_range_behind n values vs b whole block all fills c inside = elim (cases_eq c b) [
  | inl e ↦
      subst (λ (d : ℕ). Fills (spec_of n d).outs (values_at n (overwritten values (start_of n b) vs) d)) (sym e)
      (subst (Fills (spec_of n b).outs) (sym (outputs_law.written n values vs b whole block fills.enough)) fills)
  | inr ne ↦
      subst (Fills (spec_of n c).outs) (sym (outputs_law.kept n values vs b c whole block inside (λ e. ne (sym e)) fills.enough)) (all c inside)
]

pub place_here : (f : Fixed) (b : ℕ) (l : Layout) (s : Span) → IsFrame f → IsBlock f.net b → l ≡ f.layout → s ≡ (place_at l b).outs → s ≡ block_span f.net b
place_here f b l s frame block e h =
    h ∙ (ap (λ (k : Layout). (place_at k b).outs) e ∙ ap (λ (p : Place). p.outs) (frame.layout.places b block))

-- ---- what goes in

pub entered_none : (e : Option (List ℤ)) (room : List ℤ) → IsRoomFor e room None → e ≡ None
entered_none None room h = refl
entered_none (Some us) room h = absurd h

pub entered_some : (e : Option (List ℤ)) (room : List ℤ) (count : ℕ) → IsRoomFor e room (Some count) → (count ≤ length room) × (e ≡ Some (take count room))
entered_some None room count h = absurd h
entered_some (Some us) room count h = (h.0, ap Some (sym h.1))

entering_outs : (k : Kind) (s : Spec) → is_sensor k ≡ true → entering_of k s ≡ s.outs
entering_outs Sensor s e = refl
entering_outs _ s e = absurd (true≢false (sym e))

sensor_asks : (k : Kind) (s : Spec) → is_sensor k ≡ true → Asks k s → Asks Sensor s
sensor_asks Sensor s e a = a
sensor_asks _ s e a = absurd (true≢false (sym e))

one_fills : (s : Spec) → Asks Sensor s → (v : ℤ) → InRange (out_type s) v → Fills s.outs (v ∷ [])
one_fills s a v h =
    let one : total s.outs ≡ 1 = total_one s.outs (out_type s) _ a.0.outs_alike a.0.one ∙ a.1 in
    record {
      enough = sym one;
      in_range = λ e l.
          let first : e ≡ 0 = omega (arith, l, one) in
          let read : at (v ∷ []) e ≡ v = ap (λ i. at (v ∷ []) i) first in
          subst (λ t. InRange t (at (v ∷ []) e)) (sym (type_at_alike s.outs (out_type s) _ a.0.outs_alike e l)) (subst (InRange (out_type s)) (sym read) h);
    }

next_in_column : (xs : List ℤ) (k : ℕ) (v : ℤ) → slice_get xs k ≡ Some v → Contains xs v
next_in_column xs k v h = (k, slice_get_within xs k v h, get_or_from_slice_get xs k v v h)

module _ (f : Fixed) (i : Columns) (net : IsNet f.net) (columns : AreColumns f.net i) (s : Standing) (in_range : AreInRange f.net (values_at f.net s.values))
    (b : ℕ) (block : IsBlock f.net b) (us : List ℤ) where
  abbrev spec : Spec
  spec = spec_of f.net b

  fills_by : (t : Bool) (v : Option ℤ) → is_sensor spec.kind ≡ t → next_value i spec (cursor_at s b) ≡ v
      → cond t (one_value v) (Some (all_inputs spec (input_in f.net (values_at f.net s.values) b))) ≡ Some us → Fills (entering spec) us
  fills_by true None on next e = cc
  fills_by true (Some v) on next e =
      let same : v ∷ [] ≡ us = cc in
      let within = columns b (record { block = block; sensor = on }) v (next_in_column (numbered [] i (column_of spec)) (cursor_at s b) v next) in
      subst (λ ps. Fills ps us) (sym (entering_outs spec.kind spec on))
      (subst (Fills spec.outs) same (one_fills spec (sensor_asks spec.kind spec on (asks spec (net.typed_specs b block))) v within))
  fills_by false v off next e =
      let same : all_inputs spec (input_in f.net (values_at f.net s.values) b) ≡ us = cc in
      subst (λ ps. Fills ps us) (sym (entering_ins spec.kind spec off))
      (subst (Fills spec.ins) same (inputs_in_range f.net net (values_at f.net s.values) b block in_range))

  -- what goes into a block is in range
  pub entered_fills : entered f i s b ≡ Some us → Fills (entering spec) us
  entered_fills e = fills_by (is_sensor spec.kind) (next_value i spec (cursor_at s b)) refl refl e

-- what is written through a reference to a list is the list
pub written_back : {A : Type 0} (xs new : List A) (len : ℕ) → len ≡ length xs → length new ≡ length xs → take len (new ++ drop (length new) xs) ≡ new
written_back xs new len e h = take_at new (drop (length new) xs) len (h ∙ sym e)

-- the inputs of a block
pub ins_here : (f : Fixed) (b : ℕ) (l : Layout) → IsFrame f → IsBlock f.net b → l ≡ f.layout → (place_at l b).ins ≡ input_spans f.net b
ins_here f b l frame block e = ap (λ (k : Layout). (place_at k b).ins) e ∙ ap (λ (p : Place). p.ins) (frame.layout.places b block)

pub ins_room : (f : Fixed) (s : Standing) (b : ℕ) → IsFrame f → IsStore f s → IsBlock f.net b → spans_length (input_spans f.net b) ≤ length s.room
ins_room f s b frame store block =
    let long = inputs_law.long f.net b frame.net block in
    let enough = frame.layout.long_enough b block in
    omega (arith, long, enough, store.room)

no_sensor : (k : Kind) → (k ≡ Sensor → ⊥) → is_sensor k ≡ false
no_sensor Sensor h = absurd (h refl)
no_sensor _ h = refl

take_one : (xs : List ℤ) (v : ℤ) → 1 ≤ length xs → take 1 (set xs 0 v) ≡ v ∷ []
take_one [] v h = absurd (omega (arith, h))
take_one (x ∷ xs) v h = refl

module _ (f : Fixed) (i : Columns) (s : Standing) (b : ℕ) (frame : IsFrame f) (block : IsBlock f.net b) (seat : Seat) (same : seat ≡ seat_of f b) where
  kind_is : (spec_of f.net b).kind ≡ seat.kind
  kind_is = sym (ap (λ (s : Seat). s.kind) same ∙ (frame.seated b block).kind)

  next : Option ℤ
  next = next_value i (spec_of f.net b) (cursor_at s b)

  ins : List ℤ
  ins = all_inputs (spec_of f.net b) (input_in f.net (values_at f.net s.values) b)

  as_sensor : seat.kind ≡ Sensor → (v : Option ℤ) → v ≡ next_value i (spec_of f.net b) (cursor_at s b) → entered f i s b ≡ one_value v
  unfolding next ins
  as_sensor is v e = ap (λ k. cond (is_sensor k) (one_value next) (Some ins)) (kind_is ∙ is) ∙ ap one_value (sym e)

  pub enters_none : (room : List ℤ) (r : Option ℕ) → seat.kind ≡ Sensor → None ≡ next_value i (spec_of f.net b) (cursor_at s b) → r ≡ None
      → IsEntered f i s b room r
  enters_none room r is e none =
      subst (λ (o : Option ℕ). IsEntered f i s b room o) (sym none)
      (subst (λ (v : Option (List ℤ)). IsRoomFor v room None) (sym (as_sensor is None e)) tt)

  pub enters_one : (xs : List ℤ) (v w : ℤ) → seat.kind ≡ Sensor → Some v ≡ next_value i (spec_of f.net b) (cursor_at s b) → w ≡ v → 1 ≤ length xs
      → IsEntered f i s b (set xs 0 w) (Some 1)
  enters_one xs v w is e fits long =
      let whole = length-set xs 0 w in
      subst (λ (o : Option (List ℤ)). IsRoomFor o (set xs 0 w) (Some 1)) (sym (as_sensor is (Some v) e))
      (omega (arith, whole, long), take_one xs w long ∙ ap (λ x. x ∷ []) fits)

  pub enters_all : (room : List ℤ) (count : ℕ) → (seat.kind ≡ Sensor → ⊥) → count ≤ length room
      → take count room ≡ all_inputs (spec_of f.net b) (input_in f.net (values_at f.net s.values) b) → IsEntered f i s b room (Some count)
  unfolding next ins
  enters_all room count other within gathers =
      subst (λ (o : Option (List ℤ)). IsRoomFor o room (Some count))
      (sym (ap (λ k. cond (is_sensor k) (one_value next) (Some ins)) kind_is ∙ ap (λ t. cond t (one_value next) (Some ins)) (no_sensor seat.kind other)))
      (within, gathers)

-- the next value of a sensor's column is read in its list
pub sense_is : (i : Columns) (columns : List (Vec ℤ Global)) (column at k cursor : ℕ) (v : Vec ℤ Global) (r : Option ℤ)
    → map (λ (c : Vec ℤ Global). c.items) columns ≡ i → 1 ≤ column → at ≡ column - 1 → at < length columns → v ≡ get_or columns at v → k ≡ cursor
    → slice_get v.items k ≡ r → r ≡ slice_get (numbered [] i column) cursor
sense_is i columns column at k cursor v r same least is within read cursor_is reads =
    let here : v ≡ get_or columns (column - 1) v = read ∙ ap (λ j. get_or columns j v) is in
    let list = numbered_map (λ (c : Vec ℤ Global). c.items) [] columns column v least (omega (arith, within, is)) here in
    sym reads ∙ (ap (slice_get v.items) cursor_is ∙ ap (λ vs. slice_get vs cursor) (sym list ∙ ap (λ cs. numbered [] cs column) same))

-- what stands in the store, part by part
pub same_standing : (a b : Standing) → a.values ≡ b.values → a.cursors ≡ b.cursors → a.marks ≡ b.marks → a.room ≡ b.room → a.chosen ≡ b.chosen → a.lines ≡ b.lines
    → a.sum ≡ b.sum → a ≡ b
same_standing a b values cursors marks room chosen lines sum =
    ap (λ (v : List ℤ). record a { values = v }) values
    ∙ (ap (λ (v : List ℕ). record a { values = b.values; cursors = v }) cursors
    ∙ (ap (λ (v : List Mark). record a { values = b.values; cursors = b.cursors; marks = v }) marks
    ∙ (ap (λ (v : List ℤ). record b { room = v; chosen = a.chosen; lines = a.lines; sum = a.sum }) room
    ∙ (ap (λ (v : List Call). record b { chosen = v; lines = a.lines; sum = a.sum }) chosen
    ∙ (ap (λ (v : ℕ). record b { lines = v; sum = a.sum }) lines
    ∙ ap (λ (v : ℕ). record b { sum = v }) sum)))))

-- ---- marks

pub mark_here : (marks : List Mark) (b : ℕ) (m : Mark) → 1 ≤ b → b ≤ length marks → mark_at (set marks (b - 1) m) b ≡ m
mark_here marks zero m h l = absurd (omega (arith, h))
mark_here marks (suc k) m h l = get_or-set_at marks (suc k - 1) k m idle (omega arith) (omega (arith, l))

pub mark_other : (marks : List Mark) (b c : ℕ) (m : Mark) → 1 ≤ b → c ≢ b → mark_at (set marks (b - 1) m) c ≡ mark_at marks c
mark_other marks b zero m h n = refl
mark_other marks b (suc k) m h n = get_or-set_other marks (b - 1) k m idle (λ e. n (omega (arith, e, h)))

pub stays_idle : (marks : List Mark) (b c : ℕ) → 1 ≤ b → b ≤ length marks → mark_at marks c ≡ idle → mark_at (set marks (b - 1) idle) c ≡ idle
stays_idle marks b c h l old = elim (cases_eq c b) [
  | inl e ↦ ap (mark_at (set marks (b - 1) idle)) e ∙ mark_here marks b idle h l
  | inr n ↦ mark_other marks b c idle h n ∙ old
]

-- ---- what is given

abbrev answered : Spec → List ℤ → ℕ → Option (List ℤ) → Result (List ℤ) StopWord
answered s x mask None = Err ByInput
answered s x mask (Some us) = values_or_word (out s x mask us)

sync_no_sensor : (k : Kind) → is_sync k ≡ true → is_sensor k ≡ false
sync_no_sensor IfThEl h = refl
sync_no_sensor ESelect h = refl
sync_no_sensor _ h = absurd (true≢false (sym h))

module _ (f : Fixed) (i : Columns) (banks after : List Meaning) (s t : Standing) (b mask : ℕ) where
  given_by : (on : Bool) (v : Option ℤ) (us : List ℤ)
      → cond on (sensed (spec_of f.net b) (state_of f banks b) mask v) (values_or_word (out (spec_of f.net b) (state_of f banks b) mask us))
      ≡ answered (spec_of f.net b) (state_of f banks b) mask (cond on (one_value v) (Some us))
  given_by true None us = refl
  given_by true (Some v) us = refl
  given_by false v us = refl

  -- a block gives what its instance does on what goes in
  given_is : given f i banks s b mask ≡ answered (spec_of f.net b) (state_of f banks b) mask (entered f i s b)
  given_is =
      given_by (is_sensor (spec_of f.net b).kind) (next_value i (spec_of f.net b) (cursor_at s b))
      (all_inputs (spec_of f.net b) (input_in f.net (values_at f.net s.values) b))

  pub stops_input : entered f i s b ≡ None → IsStopped f banks after s t b → IsEvaluated f banks after s t b mask (given f i banks s b mask) (Some ByInput)
  stops_input e h =
      subst (λ r. IsEvaluated f banks after s t b mask r (Some ByInput))
      (sym (given_is ∙ ap (answered (spec_of f.net b) (state_of f banks b) mask) e)) (refl, h)

  module _ (us old new : List ℤ) (start : ℕ) (e : entered f i s b ≡ Some us) where
    abbrev here : Answer
    here = out (spec_of f.net b) (state_of f banks b) mask us

    given_here : given f i banks s b mask ≡ values_or_word here
    given_here = given_is ∙ ap (answered (spec_of f.net b) (state_of f banks b) mask) e

    overflows : (a : Answer) → IsComputed a start old new Overflow → values_or_word a ≡ Err ByOverflow
    overflows (Values vs) h = cc
    overflows NoFit h = refl
    overflows NoQuotient h = cc

    pub stops_overflow : IsComputed here start old new Overflow → IsStopped f banks after s t b
        → IsEvaluated f banks after s t b mask (given f i banks s b mask) (Some ByOverflow)
    stops_overflow c h = subst (λ r. IsEvaluated f banks after s t b mask r (Some ByOverflow)) (sym (given_here ∙ overflows here c)) (refl, h)

    no_quotient : (a : Answer) → IsComputed a start old new Zero → values_or_word a ≡ Err ByZero
    no_quotient (Values vs) h = cc
    no_quotient NoFit h = cc
    no_quotient NoQuotient h = refl

    pub stops_zero : IsComputed here start old new Zero → IsStopped f banks after s t b
        → IsEvaluated f banks after s t b mask (given f i banks s b mask) (Some ByZero)
    stops_zero c h = subst (λ r. IsEvaluated f banks after s t b mask r (Some ByZero)) (sym (given_here ∙ no_quotient here c)) (refl, h)

    branch_by : (on : Bool) → is_sync (spec_of f.net b).kind ≡ on
        → cond on (branch (spec_of f.net b) us) 0 ≡ cond on (branch_on (spec_of f.net b) (input_in f.net (values_at f.net s.values) b)) 0
    unfolding branch_on
    branch_by true on =
        let off : is_sensor (spec_of f.net b).kind ≡ false = sync_no_sensor (spec_of f.net b).kind on in
        let ins : List ℤ = all_inputs (spec_of f.net b) (input_in f.net (values_at f.net s.values) b) in
        let whole : entered f i s b ≡ Some ins = ap (λ t. cond t (one_value (next_value i (spec_of f.net b) (cursor_at s b))) (Some ins)) off in
        let same : us ≡ ins = cc in
        ap (branch (spec_of f.net b)) same
    branch_by false off = refl

    pub branch_here : cond (is_sync (spec_of f.net b).kind) (branch (spec_of f.net b) us) 0 ≡ branch_of f s b
    branch_here = branch_by (is_sync (spec_of f.net b).kind) refl

    module _ (taken : ℕ) (takes : taken ≡ cond (is_sync (spec_of f.net b).kind) (branch (spec_of f.net b) us) 0) (call : after ≡ called f banks b) where
      abbrev marked : ℕ → List Mark
      marked k = set s.marks (b - 1) (let m : Mark = record { active = true; branch = k; mask = mask } in m)

      abbrev standing : List ℤ → List Mark → Standing
      standing values marks = record s { values = values; marks = marks; room = t.room }

      gives_by : (a : Answer) → old ≡ s.values → start ≡ start_of f.net b → t ≡ standing new (marked taken) → IsComputed a start old new Done
          → IsEvaluated f banks after s t b mask (values_or_word a) None
      gives_by (Values vs) before at_start new_is c =
          (new_is ∙ ap₂ standing (c.1 ∙ ap₂ (λ xs k. overwritten xs k vs) before at_start) (ap marked (takes ∙ branch_here)), call)
      gives_by NoFit before at_start new_is c = cc
      gives_by NoQuotient before at_start new_is c = cc

      pub gives_values : old ≡ s.values → start ≡ start_of f.net b → t ≡ standing new (marked taken) → IsComputed here start old new Done
          → IsEvaluated f banks after s t b mask (given f i banks s b mask) None
      gives_values before at_start new_is c =
          subst (λ r. IsEvaluated f banks after s t b mask r None) (sym given_here) (gives_by here before at_start new_is c)
