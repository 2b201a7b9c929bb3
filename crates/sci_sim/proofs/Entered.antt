-- A reaction over a row that was begun.
use Rattle.std.proofs.Common.{◌≡◌, ◌∙◌, ℕ, ◌<◌, ◌≤◌, Bool, true, List, length, get_or, ap, sym, subst, arith}
use Rattle.sci_forms.specs.declared.Kind.{Kind}
use Rattle.sci_net.specs.Sources.{source_of}
use Rattle.sci_reaction.specs.Depends.{IsLoopFree}
use Rattle.sci_reaction.specs.Memory.{Columns}
use Rattle.sci_bank.specs.Bank.{Meaning}
use Rattle.sci_bank.specs.Library.{bank_of}
use Rattle.sci_run.specs.Run.{State}
use Rattle.sci_agenda.specs.Wheel.{Wheel}
use Rattle.sci_store.specs.Frame.{Fixed}
use Rattle.sci_store.specs.Store.{Standing}
use Rattle.sci_store.specs.Passed.{IsValued}
use Rattle.sci_store.specs.Rows.{ReadyRow, IsRowOf, IsReadyRow, HasBegun, KeepsBegun}
use Rattle.sci_store.specs.Runs.{MayStep}
use Rattle.sci_store.proofs.Reacting.{range_here, masks_here, states_here, sensed_here}
use Rattle.sci_sim.specs.Rows.{row_in}
use Rattle.sci_sim.specs.At.{Running, IsReady}
use Rattle.sci_sim.specs.Reacting.{ShowsFiring}
use Rattle.sci_sim.proofs.Cleared.{shown_cleared, ready_behind, ready_on}
use Rattle.sci_sim.proofs.Reacting.{source_within, row_read}

-- a net v that stands as r, but that the row of a source is begun
pub record IsEntered (r v : Running) (source : ℕ) (row : ReadyRow) : Type 0 where
  pub is : v ≡ record r { store = v.store; row = source; has_row = true }
  pub marks : v.store ≡ record r.store { marks = v.store.marks }
  pub ready : IsReady v
  pub within : source < length v.rows
  pub row_is : row ≡ row_in v.rows source
  pub begun : HasBegun v.fixed row v.store

pub entered_by : (r e v : Running) (source : ℕ) (row : ReadyRow) → v ≡ e → e ≡ record r { store = e.store; row = source; has_row = true } → e.store ≡ record r.store { marks = e.store.marks }
    → HasBegun r.fixed (row_in r.rows source) e.store → source < length r.rows → IsReady v → row ≡ get_or v.rows source row → IsEntered r v source row
entered_by r e v source row view rest marks begun inside ready read =
    let is : v ≡ record r { store = v.store; row = source; has_row = true } = subst (λ (x : Running). x ≡ record r { store = x.store; row = source; has_row = true }) (sym view) rest in
    let within : source < length v.rows = subst (λ (x : Running). source < length x.rows) (sym is) inside in
    let row_is = row_read v.rows source row within read in
    let here = subst (λ (x : Running). HasBegun r.fixed (row_in r.rows source) x.store) (sym view) begun in
    record {
      is = is;
      marks = subst (λ (x : Running). x.store ≡ record r.store { marks = x.store.marks }) (sym view) marks;
      ready = ready;
      within = within;
      row_is = row_is;
      begun = subst (λ (w : ReadyRow). HasBegun v.fixed w v.store) (sym row_is) (subst (λ (x : Running). HasBegun x.fixed (row_in x.rows source) v.store) (sym is) here);
    }

module _ (r v : Running) (source : ℕ) (row : ReadyRow) (h : IsEntered r v source row) where
  -- as it stood, told by what is kept
  abbrev pub stood : Running
  stood = record v { store = r.store; row = r.row; has_row = r.has_row }

  pub stood_is : stood ≡ r
  stood_is = ap (λ (x : Running). record x { store = r.store; row = r.row; has_row = r.has_row }) h.is

  pub source_free : IsLoopFree v.fixed.net (source_of v.fixed.net source)
  source_free = h.ready.frame.free source (source_within v.fixed v.rows source h.ready.rows h.within)

  pub row_of_source : IsRowOf v.fixed (source_of v.fixed.net source) row
  row_of_source = subst (IsRowOf v.fixed (source_of v.fixed.net source)) (sym h.row_is) (h.ready.rows.each source h.within)

  pub ready_row : IsReadyRow v.fixed row
  ready_row = (source_of v.fixed.net source, row_of_source)

  pub shown_entered : (banks : List Meaning) (st : State) → ShowsFiring r.fixed r.store banks r.wheel.meaning r.wheel.puts r.offset r.now st
      → ShowsFiring v.fixed v.store banks v.wheel.meaning v.wheel.puts v.offset v.now st
  shown_entered banks st shows = shown_cleared r stood v.store stood_is h.marks banks st shows

  pub counts_small : (banks : List Meaning) (st : State) → ShowsFiring r.fixed r.store banks r.wheel.meaning r.wheel.puts r.offset r.now st → (k : Kind) → (bank_of banks k).outs ≤ 18446744073709551615
  counts_small banks st shows k = let e = (shown_entered banks st shows).counts k in omega (arith, e)

  -- behind the pass of a reaction with values the states may be stepped
  pub may_step : (i : Columns) (st : State) (t : Standing) (banks mid : List Meaning) → ShowsFiring r.fixed r.store banks r.wheel.meaning r.wheel.puts r.offset r.now st
      → IsValued v.fixed i (source_of v.fixed.net source) st.memory v.store t banks mid → MayStep v.fixed i t mid
  may_step i st t banks mid shows valued =
      let s = shown_entered banks st shows in
      let from = source_of v.fixed.net source in
      record {
        values = range_here v.fixed from h.ready.frame i st.memory v.store t banks mid valued;
        masks = masks_here v.fixed from h.ready.frame i st.memory v.store t banks mid valued;
        sensed = sensed_here v.fixed from h.ready.frame i st.memory v.store t banks mid valued s.memory;
        states = states_here v.fixed from h.ready.frame i st.memory v.store t banks mid valued s.memory s.in_range;
      }

  -- all else stays where a reaction over the row has changed what is kept, but not its tables
  pub rest_stays : (f : Fixed) (t : Standing) (w : Wheel) (halted : Bool) → f ≡ v.fixed
      → ◌≡◌ {A = Running} (record v { fixed = f; store = t; wheel = w; halted = halted }) (record r { store = t; wheel = w; row = source; has_row = true; halted = halted })
  rest_stays f t w halted same =
      ap (λ (x : Fixed). let y : Running = record v { fixed = x; store = t; wheel = w; halted = halted } in y) same
      ∙ ap (λ (x : Running). let y : Running = record x { store = t; wheel = w; halted = halted } in y) h.is

  -- and it is ready for another
  pub ready_reacted : (f : Fixed) (t : Standing) (w : Wheel) (halted : Bool) → f ≡ v.fixed → KeepsBegun v.fixed row t
      → IsReady (record v { fixed = f; store = t; wheel = w; halted = halted })
  ready_reacted f t w halted same kept = ready_on _ f same (ready_behind v source row t w halted h.ready (ap (λ (x : Running). x.row) h.is) h.within h.row_is kept)
