-- What the run assigns between two reactions leaves the state as it is shown.
use Rattle.std.proofs.Common.{◌≡◌, ℕ, ◌≤◌, List, [], Bool, false, ◌||◌, refl, ap, ◌∙◌, ℤ}
use Rattle.c_ast.specs.declared.Name.{Name}
use Rattle.c_mean.specs.Meaning.{World, same_name}
use Rattle.c_mean.specs.Texts.{assigns_only}
use Rattle.c_mean.specs.Runs.{LeftAlone}
use Rattle.sci_net.specs.Parts.{Parts, column_of, numbered, spec_of}
use Rattle.sci_reaction.specs.Memory.{Columns}
use Rattle.sci_run.specs.Run.{State}
use Rattle.sci_due.specs.Due.{best as chosen_name, scan as scan_name, fresh, firsts, now as now_name}
use Rattle.sci_due.specs.Laws.{ShowsPending}
use Rattle.sci_program.specs.Names.{actives, branches, fired_name, next_date, halt_name}
use Rattle.sci_program.specs.Program.{port_count}
use Rattle.sci_program.specs.Shows.{ShowsColumns, ShowsState}
use Rattle.sci_program.proofs.Staying.{neither, values_stay, states_stay, pending_stays, bounds_stay, room_stays}

pub columns_stay : (n : Parts) (i : Columns) (cursor : ℕ → ℕ) (w w' : World) → w'.left ≡ w.left → ShowsColumns n i cursor w → ShowsColumns n i cursor w'
columns_stay n i cursor w w' same s =
    record { each = λ b k. ap (λ (l : List (List ℤ)). numbered [] l (column_of (spec_of n b))) same ∙ s.each b k }

-- beside the table of due dates and the date
abbrev pub is_between : Name → Bool
is_between x =
    same_name chosen_name x || (same_name scan_name x || (same_name actives x || (same_name branches x || (same_name fired_name x || same_name next_date x))))

-- a text that assigns less
pub alone_wider : (some more : Name → Bool) (w w' : World) → ((y : Name) → more y ≡ false → some y ≡ false) → LeftAlone (assigns_only some) w w'
    → LeftAlone (assigns_only more) w w'
alone_wider some more w w' less h = record { same = λ y j q. h.same y j (less y q); there = h.there; left = h.left }

-- beside what is known of the groups of many sources, too
abbrev pub is_between_events : Name → Bool
is_between_events x = is_between x || (same_name firsts x || same_name fresh x)

-- where the pending events are shown
pub state_with : (n : Parts) (scratch : ℕ) (i : Columns) (until limit : ℕ) (st : State) (w w' : World) → LeftAlone (assigns_only is_between_events) w w'
    → (1 ≤ port_count n → ShowsPending (port_count n) st.pending w') → ShowsState n scratch i until limit st w → ShowsState n scratch i until limit st w'
state_with n scratch i until limit st w w' h pending s = record {
  held = values_stay is_between_events w w' h n st.memory.held refl s.held;
  states = states_stay is_between_events w w' h n st.memory.state refl s.states;
  columns = columns_stay n i st.memory.cursor w w' (h.left refl) s.columns;
  pending = pending;
  now = λ l. h.same now_name 0 refl ∙ s.now l;
  halt = λ l. h.same halt_name 0 refl ∙ s.halt l;
  bounds = bounds_stay is_between_events w w' h n until limit refl refl s.bounds;
  room = room_stays is_between_events w w' h n scratch s.room;
}

pub state_stays : (n : Parts) (scratch : ℕ) (i : Columns) (until limit : ℕ) (st : State) (w w' : World) → LeftAlone (assigns_only is_between) w w'
    → ShowsState n scratch i until limit st w → ShowsState n scratch i until limit st w'
state_stays n scratch i until limit st w w' h s =
    state_with n scratch i until limit st w w' (alone_wider is_between is_between_events w w' (λ y q. (neither (is_between y) _ q).0) h)
    (λ l. pending_stays is_between w w' h (port_count n) st.pending refl refl refl refl refl (s.pending l)) s
