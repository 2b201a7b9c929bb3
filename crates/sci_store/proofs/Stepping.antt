-- The states of several blocks are stepped.
use Rattle.std.proofs.Common.{◌≡◌, ◌≢◌, ℕ, suc, ◌+◌, Bool, true, false, ◌&&◌, ◌||◌, ⊎_elim, ℤ, List, [], ◌∷◌, ◌++◌, length, All, AllPairs, Contains, refl, sym, ap, ap₂, subst, ◌∙◌, append_assoc, arith, eqb}
use Rattle.std.specs.Prelude.{if◌then◌else◌}
use Rattle.std.specs.List.{list_any}
use Rattle.std.proofs.lemmas.Bool.{cases_Bool}
use Rattle.std.proofs.lemmas.List.{append-nil, length-set, set-set, set-get_or, get_or-set_same}
use Rattle.std.proofs.lemmas.List.Elements.{All-head, All-tail}
use Rattle.sci_forms.specs.declared.Kind.{Kind}
use Rattle.sci_forms.specs.Form.{is_sensor}
use Rattle.sci_net.specs.Parts.{IsBlock, spec_of}
use Rattle.sci_kinds.specs.Table.{next}
use Rattle.sci_reaction.specs.Equations.{input_in, all_inputs}
use Rattle.sci_reaction.proofs.Lists.{Has, Has-pushed, cons-Contains}
use Rattle.sci_places.specs.Flat.{values_at}
use Rattle.sci_places.proofs.Inputs.{inputs_law}
use Rattle.sci_span.specs.declared.place.Place.{Place}
use Rattle.sci_span.specs.Values.{gathered}
use Rattle.sci_bank.specs.declared.runs.Call.{Call}
use Rattle.sci_bank.specs.Bank.{Meaning, no_bank, after_update}
use Rattle.sci_bank.specs.Library.{place_of, bank_of, with_bank, Holds}
use Rattle.sci_bank.specs.Runs.{place_in, after_updates}
use Rattle.sci_bank.proofs.LibraryLemmas.{Holds-full, in_order-with_bank}
use Rattle.sci_store.specs.Marks.{mark_at}
use Rattle.sci_store.specs.Frame.{Fixed, IsFrame, seat_of, AreSeated}
use Rattle.sci_store.specs.Store.{Standing, IsStore, cursor_at, state_of}
use Rattle.sci_store.specs.Passed.{IsBlockStepped}
use Rattle.sci_store.specs.Rows.{IsMarked, active_calls}
use Rattle.sci_store.specs.Runs.{called_blocks, is_stepped, next_state, next_cursor, AreStepped}
use Rattle.sci_store.proofs.Writing.{seen_if, seen_unless}
use Rattle.sci_store.proofs.Placing.{place_is}
use Rattle.sci_store.proofs.Updating.{and_nothing, stepped_next, stepped_idle, stepped_with_state, block_stepped, others_stay}

-- ---- some blocks, and then others

any_append : (b : ℕ) (xs ys : List ℕ) → list_any (eqb b) (xs ++ ys) ≡ (list_any (eqb b) xs || list_any (eqb b) ys)
any_append b [] ys = refl
any_append b (x ∷ xs) ys = ap (λ (t : Bool). eqb b x || t) (any_append b xs ys) ∙ or_assoc (eqb b x) (list_any (eqb b) xs) (list_any (eqb b) ys)
  where
    or_assoc : (p q r : Bool) → (p || (q || r)) ≡ ((p || q) || r)
    or_assoc true q r = refl
    or_assoc false q r = refl

or_nothing : (a : Bool) → (a || false) ≡ a
or_nothing true = refl
or_nothing false = refl

module _ (f : Fixed) (done more : List ℕ) (s t u : Standing) (banks mid after : List Meaning) (first : AreStepped f done s t banks mid) (second : AreStepped f more t u mid after)
    (apart : (b : ℕ) → Has done b → Has more b → ⊥) where
  marked_same : (b : ℕ) → (mark_at t.marks b).active ≡ (mark_at s.marks b).active
  marked_same b = ap (λ (v : Standing). (mark_at v.marks b).active) first.same

  -- a block of the second ones isn't among the first
  module _ (b : ℕ) (block : IsBlock f.net b) (among : list_any (eqb b) more ≡ true) where
    not_first : list_any (eqb b) done ≡ false
    not_first = ⊎_elim (λ on. absurd (apart b on among)) (λ off. off) (cases_Bool (list_any (eqb b) done))

    same_second : is_stepped more t b ≡ is_stepped (done ++ more) s b
    same_second = ap₂ (λ (x y : Bool). x && y) (marked_same b) (sym (any_append b done more ∙ ap (λ (x : Bool). x || list_any (eqb b) more) not_first))

    idle_first : is_stepped done s b ≡ false
    idle_first = ap (λ (x : Bool). (mark_at s.marks b).active && x) not_first ∙ and_nothing (mark_at s.marks b).active

    mid_state : state_of f mid b ≡ state_of f banks b
    mid_state = first.states b block ∙ seen_unless (is_stepped done s b) (next_state f s banks b) (state_of f banks b) idle_first

    mid_cursor : cursor_at t b ≡ cursor_at s b
    mid_cursor = first.cursors b block ∙ seen_unless (is_stepped done s b) (next_cursor f s b) (cursor_at s b) idle_first

    next_same : next_state f t mid b ≡ next_state f s banks b
    next_same =
        ap (λ (v : Standing). next_state f v mid b) first.same
        ∙ ap (λ (st : List ℤ). next (spec_of f.net b) st (mark_at s.marks b).mask (all_inputs (spec_of f.net b) (input_in f.net (values_at f.net s.values) b))) mid_state

    second_state : state_of f after b ≡ (if is_stepped (done ++ more) s b then next_state f s banks b else state_of f banks b)
    second_state =
        second.states b block
        ∙ (ap₂ (λ (x y : List ℤ). if is_stepped more t b then x else y) next_same mid_state
        ∙ ap (λ (x : Bool). if x then next_state f s banks b else state_of f banks b) same_second)

    second_cursor : cursor_at u b ≡ (if is_stepped (done ++ more) s b then next_cursor f s b else cursor_at s b)
    second_cursor =
        second.cursors b block
        ∙ (ap (λ (c : ℕ). if is_stepped more t b then (if is_sensor (spec_of f.net b).kind then c + 1 else c) else c) mid_cursor
        ∙ ap (λ (x : Bool). if x then next_cursor f s b else cursor_at s b) same_second)

  -- another block is as the first ones left it
  module _ (b : ℕ) (block : IsBlock f.net b) (outside : list_any (eqb b) more ≡ false) where
    idle_second : is_stepped more t b ≡ false
    idle_second = ap (λ (x : Bool). (mark_at t.marks b).active && x) outside ∙ and_nothing (mark_at t.marks b).active

    same_first : is_stepped done s b ≡ is_stepped (done ++ more) s b
    same_first = ap (λ (x : Bool). (mark_at s.marks b).active && x)
        (sym (any_append b done more ∙ (ap (λ (x : Bool). list_any (eqb b) done || x) outside ∙ or_nothing (list_any (eqb b) done))))

    first_state : state_of f after b ≡ (if is_stepped (done ++ more) s b then next_state f s banks b else state_of f banks b)
    first_state =
        second.states b block
        ∙ (seen_unless (is_stepped more t b) (next_state f t mid b) (state_of f mid b) idle_second
        ∙ (first.states b block ∙ ap (λ (x : Bool). if x then next_state f s banks b else state_of f banks b) same_first))

    first_cursor : cursor_at u b ≡ (if is_stepped (done ++ more) s b then next_cursor f s b else cursor_at s b)
    first_cursor =
        second.cursors b block
        ∙ (seen_unless (is_stepped more t b) (next_cursor f t b) (cursor_at t b) idle_second
        ∙ (first.cursors b block ∙ ap (λ (x : Bool). if x then next_cursor f s b else cursor_at s b) same_first))

  pub stepped_both : AreStepped f (done ++ more) s u banks after
  stepped_both = record {
    states = λ b block. ⊎_elim (second_state b block) (first_state b block) (cases_Bool (list_any (eqb b) more));
    cursors = λ b block. ⊎_elim (second_cursor b block) (first_cursor b block) (cases_Bool (list_any (eqb b) more));
    same = second.same ∙ ap (λ (v : Standing). record v { cursors = u.cursors; room = u.room; chosen = u.chosen }) first.same;
    long = second.long ∙ first.long;
    room = second.room ∙ first.room;
    chosen = second.chosen ∙ first.chosen;
    seated = second.seated;
    counts = λ k. second.counts k ∙ first.counts k;
  }

-- what is put in the room for calls makes no odds
pub stepped_with_choice : (f : Fixed) (done : List ℕ) (s t u : Standing) (banks after : List Meaning) → u ≡ record t { chosen = u.chosen } → length u.chosen ≡ length t.chosen
    → AreStepped f done s t banks after → AreStepped f done s u banks after
stepped_with_choice f done s t u banks _ e long h = record {
  states = h.states;
  cursors = λ b block. ap (λ (v : Standing). cursor_at v b) e ∙ h.cursors b block;
  same = e ∙ (ap (λ (v : Standing). record v { chosen = u.chosen }) h.same
      ∙ (ap (λ (cs : List ℕ). record s { cursors = cs; room = t.room; chosen = u.chosen }) (sym (ap (λ (v : Standing). v.cursors) e))
      ∙ ap (λ (r : List ℤ). record s { cursors = u.cursors; room = r; chosen = u.chosen }) (sym (ap (λ (v : Standing). v.room) e))));
  long = ap (λ (v : Standing). length v.cursors) e ∙ h.long;
  room = ap (λ (v : Standing). length v.room) e ∙ h.room;
  chosen = long ∙ h.chosen;
  seated = h.seated;
  counts = h.counts;
}

-- ---- calls that are made together

-- a call of a block of a kind without a column
pub record IsStepCall (f : Fixed) (kind : Kind) (c : Call) : Type 0 where
  pub block : IsBlock f.net c.block
  pub slot : c.slot ≡ (seat_of f c.block).slot
  pub kind_is : (seat_of f c.block).kind ≡ kind
  pub plain : is_sensor (spec_of f.net c.block).kind ≡ false

module _ (f : Fixed) (frame : IsFrame f) (kind : Kind) (s : Standing) (store : IsStore f s) where
  abbrev behind : List Meaning → List Call → List Meaning
  behind mid calls = with_bank mid kind (after_updates (bank_of mid kind) f.layout.blocks s.values calls)

  call_active : (c : Call) (cs : List Call) → (mark_at s.marks c.block).active ≡ true
      → active_calls s.marks (c ∷ cs) ≡ record c { mask = (mark_at s.marks c.block).mask } ∷ active_calls s.marks cs
  call_active c cs on = ap (λ (l : List Call). l ++ active_calls s.marks cs)
      (seen_if (mark_at s.marks c.block).active (record c { mask = (mark_at s.marks c.block).mask } ∷ []) [] on)

  call_idle : (c : Call) (cs : List Call) → (mark_at s.marks c.block).active ≡ false → active_calls s.marks (c ∷ cs) ≡ active_calls s.marks cs
  call_idle c cs off = ap (λ (l : List Call). l ++ active_calls s.marks cs)
      (seen_unless (mark_at s.marks c.block).active (record c { mask = (mark_at s.marks c.block).mask } ∷ []) [] off)

  module _ (c : Call) (is : IsStepCall f kind c) (banks mid : List Meaning) (seated : AreSeated f mid) where
    abbrev ins : List ℤ
    ins = gathered s.values (place_in f.layout.blocks c.block).ins

    abbrev mask : ℕ
    mask = (mark_at s.marks c.block).mask

    abbrev stepped : List Meaning
    stepped = with_bank mid kind (after_update (bank_of mid kind) c.slot mask ins)

    holds : Holds mid kind
    holds = Holds-full mid kind seated.full

    inputs : ins ≡ all_inputs (spec_of f.net c.block) (input_in f.net (values_at f.net s.values) c.block)
    inputs =
        ap (λ (p : Place). gathered s.values p.ins) (place_is f frame mid seated c.block is.block)
        ∙ inputs_law.same f.net s.values c.block frame.net store.values is.block

    changed : stepped ≡ with_bank mid (seat_of f c.block).kind (after_update (bank_of mid (seat_of f c.block).kind) (seat_of f c.block).slot mask ins)
    changed =
        ap (λ (k : Kind). with_bank mid k (after_update (bank_of mid k) c.slot mask ins)) (sym is.kind_is)
        ∙ ap (λ (i : ℕ). with_bank mid (seat_of f c.block).kind (after_update (bank_of mid (seat_of f c.block).kind) i mask ins)) is.slot

    one_step : IsBlockStepped f c.block s s mid stepped
    one_step = block_stepped f c.block s s s mid stepped
        (stepped_with_state f s s mid stepped c.block (seat_of f c.block) mask ins seated is.block refl refl changed inputs
        (λ full. length-set mid (place_of kind) (after_update (bank_of mid kind) c.slot mask ins) ∙ full)
        (in_order-with_bank mid stepped kind (after_update (bank_of mid kind) c.slot mask ins) holds refl refl) refl refl)
        (others_stay f s c.block is.plain)

    bank_now : bank_of stepped kind ≡ after_update (bank_of mid kind) c.slot mask ins
    bank_now = get_or-set_same mid (place_of kind) (after_update (bank_of mid kind) c.slot mask ins) no_bank holds

    -- the rest of the calls go on from there
    go_on : (cs : List Call) → behind stepped cs ≡ behind mid (record c { mask = mask } ∷ cs)
    go_on cs =
        ap (λ (m : Meaning). with_bank stepped kind (after_updates m f.layout.blocks s.values cs)) bank_now
        ∙ set-set mid (place_of kind) (after_update (bank_of mid kind) c.slot mask ins)
        (after_updates (after_update (bank_of mid kind) c.slot mask ins) f.layout.blocks s.values cs)

  -- the active ones of the calls are made in turn
  pub steps_made : (done : List ℕ) (cs : List Call) (banks mid : List Meaning) → AreStepped f done s s banks mid → All (IsStepCall f kind) cs
      → AllPairs (λ (c d : Call). c.block ≢ d.block) cs → ((c : Call) → Contains cs c → Has done c.block → ⊥)
      → AreStepped f (done ++ called_blocks cs) s s banks (behind mid (active_calls s.marks cs))
  steps_made done [] banks mid h all once fresh =
      subst (λ (bs : List ℕ). AreStepped f bs s s banks (with_bank mid kind (bank_of mid kind))) (sym (append-nil done))
      (subst (AreStepped f done s s banks) (sym (set-get_or mid (place_of kind) no_bank)) h)
  steps_made done (c ∷ cs) banks mid h all once fresh =
      let is = All-head (IsStepCall f kind) c cs all in
      let rest = All-tail (IsStepCall f kind) c cs all in
      let later : AllPairs (λ (a b : Call). a.block ≢ b.block) cs = λ i j d l m. once (suc i) (suc j) d (omega (arith, l)) (omega (arith, m)) in
      let new_ones : (d : Call) → Contains cs d → Has (done ++ c.block ∷ []) d.block → ⊥ = λ d there has.
      ⊎_elim (λ old. fresh d (cons-Contains c cs d there) old)
      (λ same. once 0 (suc there.0) d (omega arith) (omega (arith, there.1)) (sym same ∙ ap (λ (x : Call). x.block) (sym there.2))) (Has-pushed done c.block d.block has) in
      let joined = append_assoc done (c.block ∷ []) (called_blocks cs) in
      ⊎_elim
      (λ on. subst (λ (bs : List ℕ). AreStepped f bs s s banks (behind mid (active_calls s.marks (c ∷ cs)))) joined
      (subst (AreStepped f ((done ++ c.block ∷ []) ++ called_blocks cs) s s banks)
      (go_on c is banks mid h.seated (active_calls s.marks cs) ∙ ap (behind mid) (sym (call_active c cs on)))
      (steps_made (done ++ c.block ∷ []) cs banks (stepped c is banks mid h.seated)
      (stepped_next f done s s s banks mid (stepped c is banks mid h.seated) c.block is.block h on (fresh c (0, omega arith, refl)) (one_step c is banks mid h.seated) store.cursors)
      rest later new_ones)))
      (λ off. subst (λ (bs : List ℕ). AreStepped f bs s s banks (behind mid (active_calls s.marks (c ∷ cs)))) joined
      (subst (AreStepped f ((done ++ c.block ∷ []) ++ called_blocks cs) s s banks) (ap (behind mid) (sym (call_idle c cs off)))
      (steps_made (done ++ c.block ∷ []) cs banks mid (stepped_idle f done s s banks mid c.block h off) rest later new_ones)))
      (cases_Bool (mark_at s.marks c.block).active)

  -- where all are active on the masks of the calls, these are they
  pub all_active : (cs : List Call) → All (IsMarked s.marks) cs → active_calls s.marks cs ≡ cs
  all_active [] h = refl
  all_active (c ∷ cs) h =
      let is = All-head (IsMarked s.marks) c cs h in
      call_active c cs is.active
      ∙ ap₂ (λ (x : Call) (l : List Call). x ∷ l) (ap (λ (m : ℕ). record c { mask = m }) is.mask) (all_active cs (All-tail (IsMarked s.marks) c cs h))
