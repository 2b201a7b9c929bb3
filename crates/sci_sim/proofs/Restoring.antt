-- What is saved of a net, and a net that stands where a run was saved.
use Rattle.std.specs.declared.alloc.Global.{Global}
use Rattle.std.proofs.Common.{Vec, ◌≡◌, ℕ, zero, suc, ◌+◌, ◌<◌, ◌≤◌, ℤ, pos, ◌-ℤ◌, ◌≤ℤ◌, ◌<ℤ◌, true, false, List, [], ◌∷◌, All, length, get_or, map, replicate, refl, ap, sym, ◌∙◌, subst, arith, true≢false}
use Rattle.std.specs.Prelude.{◌==◌, Result, Ok, Err, IfOk}
use Rattle.std.specs.List.{AllByRecursion}
use Rattle.std.proofs.lemmas.Int.{ints}
use Rattle.std.proofs.lemmas.List.{length-map}
use Rattle.sci_base.specs.Lists.{at}
use Rattle.sci_forms.specs.declared.Kind.{Kind}
use Rattle.sci_forms.specs.declared.Kind.TheVariants.{ModuloCount}
use Rattle.sci_forms.specs.declared.spec.Spec.{Spec}
use Rattle.sci_forms.specs.Numbers.{number_of}
use Rattle.sci_forms.specs.Typed.{typed}
use Rattle.sci_forms.specs.Words.{param, state_len_of}
use Rattle.sci_kinds.specs.Asks.{IsState}
use Rattle.sci_kinds.specs.Table.{state_len}
use Rattle.sci_net.specs.Parts.{Parts, IsBlock, no_spec, numbered, spec_of, rows_of}
use Rattle.sci_net.specs.Net.{IsNet}
use Rattle.sci_pass.specs.State.{IsSameButState}
use Rattle.sci_pass.proofs.Meanings.{same_but_state}
use Rattle.sci_agenda.specs.Wheel.{Wheel}
use Rattle.sci_bank.specs.declared.instance.Instance.{Instance}
use Rattle.sci_bank.specs.Bank.{Meaning}
use Rattle.sci_bank.specs.Library.{AreInOrder, IsFull}
use Rattle.sci_places.specs.Flat.{values_at}
use Rattle.sci_run.specs.Anew.{numbered_anew, Rises}
use Rattle.sci_run.proofs.Anew.{anew}
use Rattle.sci_run.specs.Run.{State}
use Rattle.sci_save.specs.declared.bounds.Bounds.{Bounds}
use Rattle.sci_save.specs.Bounds.{AreWithin, AreByBlock, state_bound_of, state_bounds, held_bounds}
use Rattle.sci_save.specs.Saved.{Saved}
use Rattle.sci_save.specs.Valid.{IsNear, IsShaped}
use Rattle.sci_save.specs.Resumed.{IsSavedOf, state_of as saved_state}
use Rattle.sci_save.proofs.InRange.{saved_in_range}
use Rattle.sci_save.proofs.Writing.{one_cursor_each}
use Rattle.sci_store.specs.declared.marks.Mark.{Mark}
use Rattle.sci_store.specs.Frame.{Fixed, IsFrame}
use Rattle.sci_store.specs.Seating.{IsSeatingBy, begun}
use Rattle.sci_store.specs.Store.{Standing, IsStore, AreIdle, cursor_at, state_of}
use Rattle.sci_store.specs.Rows.{ReadyRow}
use Rattle.sci_kept.specs.Kept.{Kept, IsUntold}
use Rattle.sci_sim.specs.Rows.{AreRowsOf}
use Rattle.sci_sim.specs.Programming.{Keeps}
use Rattle.sci_sim.specs.Saving.{IsByBlock, more}
use Rattle.sci_sim.specs.At.{Running, IsReady, IsAt}
use Rattle.sci_sim.specs.Restored.{IsKeptOf, IsRestored}
use Rattle.sci_sim.proofs.Begun.{typed_begun, state_begun}
use Rattle.sci_sim.proofs.Listed.{same_by_block, by_block_length}
use Rattle.sci_sim.proofs.Saved.{listed_is}
use Rattle.sci_sim.proofs.Starting.{first_row_within, no_activations, no_halt}

-- ---- what is saved

near_small : (n : Parts) (now offset : ℕ) (es : List (ℕ × ℕ)) → now ≤ 4611686018427387904 → AllByRecursion (IsNear n now) (map (more offset) es)
    → All (λ (e : ℕ × ℕ). e.0 + offset < 18446744073709551616) es
near_small n now offset [] small h k d l = absurd (omega (arith, l))
near_small n now offset (e ∷ es) small h zero d l = let near = h.0.near in omega (arith, near, small)
near_small n now offset (e ∷ es) small h (suc k) d l = near_small n now offset es small h.1 k d (omega (arith, l))

same_saved : (m : Saved) (fired now : ℕ) (states held : List (List ℤ)) (cursors : List ℕ) (pending : List (ℕ × ℕ)) → fired ≡ m.fired → now ≡ m.now → states ≡ m.states → held ≡ m.held
    → cursors ≡ m.cursors → pending ≡ m.pending
    → ◌≡◌ {A = Saved} (record { fired = fired; now = now; states = states; held = held; cursors = cursors; pending = pending }) m
same_saved m fired now states held cursors pending a b c d e f = rw (a, b, c, d, e, f) refl

module _ (r : Running) (banks : List Meaning) (st : State) (m : Saved) (stands : IsAt r banks st) (saved : IsSavedOf r.fixed.net st m) where
  listed : map (more r.offset) r.wheel.meaning.events ≡ m.pending
  listed = listed_is r.fixed.net r.offset st.now r.wheel.meaning r.wheel.puts st.pending stands.shown.pending ∙ sym saved.pending

  pub dates_small : All (λ (e : ℕ × ℕ). e.0 + r.offset < 18446744073709551616) r.wheel.meaning.events
  dates_small =
      near_small r.fixed.net m.now r.offset r.wheel.meaning.events saved.shaped.now
      (subst (AllByRecursion (IsNear r.fixed.net m.now)) (sym listed) saved.shaped.pending.near)

  pub image_is : IsStore r.fixed r.store → (states held : List (Vec ℤ Global)) (cursors : List ℕ) (pending : List (ℕ × ℕ)) → IsByBlock r.fixed.net [] (state_of r.fixed banks) (rows_of states)
      → IsByBlock r.fixed.net [] (values_at r.fixed.net r.store.values) (rows_of held) → cursors ≡ r.store.cursors → pending ≡ map (more r.offset) r.wheel.meaning.events
      → ◌≡◌ {A = Saved} (record { fired = r.fired; now = r.now; states = rows_of states; held = rows_of held; cursors = cursors; pending = pending }) m
  image_is store states held cursors pending states_are held_are cursors_are pending_are =
      let n : Parts = r.fixed.net in
      let taken : IsByBlock n 0 (cursor_at r.store) r.store.cursors = record { one_each = store.cursors; each = λ b block. refl } in
      same_saved m r.fired r.now (rows_of states) (rows_of held) cursors pending
      (stands.fired ∙ sym saved.fired)
      (stands.now ∙ sym saved.now)
      (same_by_block n [] (state_of r.fixed banks) (rows_of states) m.states states_are (by_block_length state_bounds n.specs m.states saved.shaped.states)
      (λ b block. saved.memory.state b block ∙ sym (stands.shown.memory.state b block)))
      (same_by_block n [] (values_at n r.store.values) (rows_of held) m.held held_are (by_block_length held_bounds n.specs m.held saved.shaped.held)
      (λ b block. saved.memory.held b block ∙ sym (stands.shown.memory.held b block)))
      (cursors_are
      ∙ same_by_block n 0 (cursor_at r.store) r.store.cursors m.cursors taken (one_cursor_each n.specs m.cursors saved.shaped.cursors)
      (λ b block. saved.memory.cursor b block ∙ sym (stands.shown.memory.cursor b block)))
      (pending_are ∙ listed)

-- by what the net is seen as
pub dates_small_in : (v r : Running) (banks : List Meaning) (st : State) (m : Saved) → v ≡ r → IsAt r banks st → IsSavedOf r.fixed.net st m
    → All (λ (e : ℕ × ℕ). e.0 + v.offset < 18446744073709551616) v.wheel.meaning.events
dates_small_in v r banks st m is stands saved =
    dates_small v banks st m (subst (λ (x : Running). IsAt x banks st) (sym is) stands) (subst (λ (x : Running). IsSavedOf x.fixed.net st m) (sym is) saved)

pub image_in : (v r : Running) (banks : List Meaning) (st : State) (m : Saved) → v ≡ r → IsAt r banks st → IsSavedOf r.fixed.net st m → IsStore v.fixed v.store
    → (states held : List (Vec ℤ Global)) (cursors : List ℕ) (pending : List (ℕ × ℕ)) → IsByBlock v.fixed.net [] (state_of v.fixed banks) (rows_of states)
    → IsByBlock v.fixed.net [] (values_at v.fixed.net v.store.values) (rows_of held) → cursors ≡ v.store.cursors → pending ≡ map (more v.offset) v.wheel.meaning.events
    → ◌≡◌ {A = Saved} (record { fired = v.fired; now = v.now; states = rows_of states; held = rows_of held; cursors = cursors; pending = pending }) m
image_in v r banks st m is stands saved =
    image_is v banks st m (subst (λ (x : Running). IsAt x banks st) (sym is) stands) (subst (λ (x : Running). IsSavedOf x.fixed.net st m) (sym is) saved)

pub states_small : (r : Running) (banks : List Meaning) (st : State) → IsAt r banks st → (b : ℕ) → IsBlock r.fixed.net b → IsState (spec_of r.fixed.net b) (state_of r.fixed banks b)
states_small r banks st stands b block =
    subst (IsState (spec_of r.fixed.net b)) (sym (stands.shown.memory.state b block)) (stands.shown.in_range.states b block)

-- ---- instances in states that were saved

block_at : (f : Spec → List Bounds) (ss : List Spec) (rows : List (List ℤ)) (k : ℕ) → AreByBlock f ss rows → k < length ss → AreWithin (f (get_or ss k no_spec)) (get_or rows k [])
block_at f [] [] k w h = absurd (omega (arith, h))
block_at f [] (row ∷ rows) k w h = absurd w
block_at f (s ∷ ss) [] k w h = absurd w
block_at f (s ∷ ss) (row ∷ rows) zero w h = w.0
block_at f (s ∷ ss) (row ∷ rows) (suc k) w h = block_at f ss rows k w.1 (omega (arith, h))

within_block : (n : Parts) (rows : List (List ℤ)) (b : ℕ) → AreByBlock state_bounds n.specs rows → IsBlock n b → AreWithin (state_bounds (spec_of n b)) (numbered [] rows b)
within_block n rows zero w block = absurd (let l = block.least in omega (arith, l))
within_block n rows (suc k) w block = let m = block.most in block_at state_bounds n.specs rows k w (omega (arith, m))

below_base : (base : ℤ) (x : List ℤ) → AreWithin (record { low = pos 0; high = base -ℤ pos 1 } ∷ []) x → (pos 0 ≤ℤ at x 0) × (at x 0 <ℤ base)
below_base base [] w = absurd w
below_base base (v ∷ []) w = (w.0.above, let most = w.0.below in omega (arith, ints, most))
below_base base (v ∷ u ∷ vs) w = absurd w.1

counter_within : (s : Spec) (x : List ℤ) → AreWithin (state_bounds s) x → s.kind ≡ ModuloCount → (pos 0 ≤ℤ at x 0) × (at x 0 <ℤ param s 0)
counter_within s x w e = below_base (param s 0) x (subst (λ (k : Kind). AreWithin (replicate (state_len_of k s) (state_bound_of k s)) x) e w)

module _ (n : Parts) (m : Saved) (net : IsNet n) (shaped : IsShaped n m) where
  state_is : (b : ℕ) → IsBlock n b → IsState (spec_of n b) (numbered [] m.states b)
  state_is b block = (saved_in_range n m net shaped).states b block

  pub states_typed : (b : ℕ) → IsBlock n b → typed (begun n m.states b) ≡ true
  states_typed b block =
      typed_begun (spec_of n b) (numbered [] m.states b) (net.typed_specs b block) (state_is b block) (counter_within (spec_of n b) (numbered [] m.states b) (within_block n m.states b shaped.states block))

  same_length : (b : ℕ) → IsBlock n b → state_len (spec_of n b) ≡ state_len (begun n m.states b)
  same_length b block =
      (same_but_state (spec_of n b) (begun n m.states b) refl).lengths (λ register. sym ((state_is b block).enough ∙ ap (λ (k : Kind). state_len_of k (spec_of n b)) register))

pub one_state_each : (n : Parts) (rows states : List (Vec ℤ Global)) → AreByBlock state_bounds n.specs (rows_of states) → rows ≡ states → length rows ≡ length n.specs
one_state_each n rows states w e = ap length e ∙ (sym (length-map states (λ (v : Vec ℤ Global). v.items)) ∙ by_block_length state_bounds n.specs (rows_of states) w)

-- ---- the net there

abbrev pub restored_at : Fixed → List ReadyRow → Standing → Wheel → (now fired : ℕ) → Running
restored_at f rows s w now fired = record { fixed = f; rows = rows; store = s; wheel = w; offset = now; now = now; fired = fired; row = 0; has_row = false; started = true; halted = false }

module _ (f : Fixed) (rows : List ReadyRow) (s : Standing) (w : Wheel) (m : Saved) (frame : IsFrame f) (idle : AreIdle f s) where
  pub restored_ready : AreRowsOf f rows → IsReady (restored_at f rows s w m.now m.fired)
  restored_ready are = record {
    frame = frame;
    rows = are;
    row = first_row_within f rows are;
    begun = λ has. absurd (true≢false (sym has));
    marked = λ b block out. idle b block;
  }

  pub restored_is : (n : Parts) → f.net ≡ n → (banks : List Meaning) → IsFull banks → AreInOrder banks → IsSeatingBy f.net (begun f.net m.states) f.seats banks → IsShaped n m
      → ((b : ℕ) → IsBlock f.net b → values_at f.net s.values b ≡ numbered [] m.held b) → s.cursors ≡ m.cursors → s.lines ≡ 0 → s.sum ≡ 0
      → (pending : List (ℕ × ℕ)) → pending ≡ m.pending → Keeps n m.now m.now w.meaning w.puts (numbered_anew pending) → IsRestored n (restored_at f rows s w m.now m.fired) banks m
  restored_is n same banks full order seated shape held cursors lines sum events events_are kept =
      let keeps = subst (λ (ds : List (ℕ × ℕ)). Keeps n m.now m.now w.meaning w.puts (numbered_anew ds)) events_are kept in
      let shaped : IsShaped f.net m = subst (λ (k : Parts). IsShaped k m) (sym same) shape in
      subst (λ (k : Parts). IsRestored k (restored_at f rows s w m.now m.fired) banks m) same (record {
        net = refl;
        started = refl;
        at = record {
          shown = record {
            seated = record {
              full = full;
              in_order = order;
              known = seated.known;
              specs = λ b block. subst (λ (r : Instance). IsSameButState (spec_of f.net b) r.spec) (sym (seated.rows b block)) refl;
              lengths = λ b block. same_length f.net m frame.net shaped b block ∙ ap (λ (r : Instance). state_len r.spec) (sym (seated.rows b block));
              apart = seated.apart;
            };
            memory = record {
              held = held;
              cursor = λ b block. ap (λ (cs : List ℕ). numbered 0 cs b) cursors;
              state = λ b block.
                  ap (λ (r : Instance). r.state) (seated.rows b block)
                  ∙ state_begun (spec_of f.net b) (numbered [] m.states b) (state_is f.net m frame.net shaped b block)
                  ((state_is f.net m frame.net shaped b block).enough ∙ same_length f.net m frame.net shaped b block);
            };
            in_range = saved_in_range f.net m frame.net shaped;
            pending = subst (λ (k : Parts). Keeps k m.now m.now w.meaning w.puts (numbered_anew m.pending)) (sym same) keeps;
            counts = λ k.
                let none = no_activations (λ (t : Spec). number_of t.kind == number_of k) 1 f.net.specs in
                let calls = seated.counts k in
                omega (arith, none, calls);
          };
          now = refl;
          fired = refl;
          active = λ b block. ap (λ (x : Mark). x.active) (idle b block);
          halted = no_halt 1 f.net.specs;
        };
        offset = refl;
        row = refl;
        lines = lines;
        sum = sum;
      })

-- ---- and what is saved of it

rises_from : (now : ℕ) (ds : List (ℕ × ℕ)) → Rises now ds → Rises 0 ds
rises_from now [] r = tt
rises_from now (d ∷ ds) r = (omega arith, r.1)

pub saved_again : (n : Parts) (m : Saved) → IsShaped n m → IsSavedOf n (saved_state m) m
saved_again n m shaped = record {
  shaped = shaped;
  fired = refl;
  now = refl;
  memory = record { state = λ b block. refl; held = λ b block. refl; cursor = λ b block. refl };
  pending = sym (anew.in_order_again m.pending (rises_from m.now m.pending shaped.pending.rises));
}

-- what is kept of it, by what is known of each part
pub kept_of : {E : Type 0} (n : Parts) (m : Saved) (banks : List Meaning) (states : List (List ℤ)) (values : List ℤ) (cursors : List ℕ) (r : Result Kept E) → states ≡ m.states
    → ((b : ℕ) → IsBlock n b → values_at n values b ≡ numbered [] m.held b) → cursors ≡ m.cursors → IfOk r (λ k. k.fixed.net ≡ n)
    → IfOk r (λ k. IsSeatingBy k.fixed.net (begun k.fixed.net states) k.fixed.seats banks) → IfOk r (λ k. k.store.values ≡ values) → IfOk r (λ k. k.store.cursors ≡ cursors)
    → IfOk r IsUntold → IfOk r (λ k. IsKeptOf n k banks m)
kept_of n m banks states values cursors (Ok k) states_are held_are cursors_are net seated held taken untold = record {
  net = net;
  seated = subst (λ (rows : List (List ℤ)). IsSeatingBy k.fixed.net (begun k.fixed.net rows) k.fixed.seats banks) states_are seated;
  held = λ b block.
      ap (λ (vs : List ℤ). values_at k.fixed.net vs b) held
      ∙ subst (λ (x : Parts). (c : ℕ) → IsBlock x c → values_at x values c ≡ numbered [] m.held c) (sym net) held_are b block;
  cursors = taken ∙ cursors_are;
  untold = untold;
}
kept_of n m banks states values cursors (Err e) states_are held_are cursors_are net seated held taken untold = tt
