-- The memory of the program that is written follows the run: it has the variables that the texts name, which read as where all are there.
use Rattle.std.proofs.Common.{◌≡◌, ℕ, ◌+◌, ◌≤◌, ◌^◌, List, [], ◌∷◌, length, filter, Option, Some, Bool, true, if◌then◌else◌, refl, sym, ap, ◌∙◌, arith, ℤ, pos, append-nil}
use Rattle.sci_base.specs.declared.limits.TheConstants.{TICKS}
use Rattle.sci_base.specs.declared.observation.Obs.{Obs}
use Rattle.sci_net.specs.declared.Source.TheVariants.{Start}
use Rattle.sci_net.specs.Parts.{Parts}
use Rattle.sci_net.specs.Net.{IsNet}
use Rattle.sci_reaction.specs.Memory.{Columns, AreColumns}
use Rattle.sci_reaction.specs.Schedule.{Entry, IsSchedule}
use Rattle.sci_run.specs.Laws.{AreLoopFree}
use Rattle.sci_run.specs.Run.{State, first_state, Reacts}
use Rattle.sci_places.specs.Flat.{start_of}
use Rattle.c_ast.specs.declared.Name.{Name}
use Rattle.c_ast.specs.Syntax.{Whole}
use Rattle.c_mean.specs.Meaning.{Slot, World, Ran, going, turns, needs, run_block, behind_functions, first_world}
use Rattle.c_mean.specs.Places.{get}
use Rattle.c_mean.specs.Programs.{surroundings}
use Rattle.c_mean.proofs.Steps.{then_seen}
use Rattle.c_trim.specs.Laws.{kept_world, kept_ran}
use Rattle.c_trim.specs.Trim.{is_kept, trimmed}
use Rattle.c_trim.proofs.Named.{functions_kept, kept_again}
use Rattle.c_trim.proofs.Runs.{reads_stay, surroundings_kept}
use Rattle.sci_cgen_blocks.specs.Texts.{values, states}
use Rattle.sci_program.specs.Names.{next_date, event_name}
use Rattle.sci_program.specs.Program.{places_of, scratch_count, begin_text, functions, full_program, program}
use Rattle.sci_program.specs.Stepping.{called, stepped}
use Rattle.sci_program.proofs.Called.{event_called}
use Rattle.sci_program.proofs.Parted.{ending}
use Rattle.sci_program_laws.specs.Memory.{Stands, StandsFor, TellsState, DoesEvents, ProgramFollowsRun}
use Rattle.sci_program_laws.proofs.Between.{columns_stay}
use Rattle.sci_program_laws.proofs.Means.{ReactionsGo, begin_goes, stepping}
use Rattle.sci_program_laws.proofs.Run.{kept, next_date_kept, stepped_kept, program_reacts}

-- ---- what is kept

-- by tests that say the same
same_slots : (some other : Name → Bool) → ((x : Name) → some x ≡ other x) → (ss : List Slot)
    → filter (λ (s : Slot). some s.name) ss ≡ filter (λ (s : Slot). other s.name) ss
same_slots some other h [] = refl
same_slots some other h (s ∷ ss) =
    ap (λ (t : Bool). if t then s ∷ filter (λ (s : Slot). some s.name) ss else filter (λ (s : Slot). some s.name) ss) (h s.name)
    ∙ ap (λ (rest : List Slot). if other s.name then s ∷ rest else rest) (same_slots some other h ss)

module _ (p : Whole) where
  -- the texts of a program that is trimmed name the same
  again : (w : World) → kept_world (is_kept (trimmed p)) w ≡ kept_world (is_kept p) w
  again w =
      ap (λ (m : List Slot). let v : World = record { slots = m; left = w.left } in v)
      (same_slots (is_kept (trimmed p)) (is_kept p) (kept_again p) w.slots)

  module _ (last most : ℤ) (f : Name) (run : World → Ran) (is : (surroundings p.funcs last most).calls f ≡ Some run) where
    call_is : (w : World) → called p last most f w ≡ run w
    call_is w = ap (λ (o : Option (World → Ran)). needs (behind_functions 1 p.funcs) o (λ run. run w)) is

    -- a call does with the variables that are kept what it does with all
    call_kept : (w : World) → called (trimmed p) last most f (kept_world (is_kept p) w) ≡ kept_ran (is_kept p) (called p last most f w)
    call_kept w =
        call_is (kept_world (is_kept p) w)
        ∙ (surroundings_kept (is_kept p) p.funcs last most (functions_kept p) f run is w ∙ ap (kept_ran (is_kept p)) (sym (call_is w)))

-- ---- the program

module _ (n : Parts) (rows : List (List Entry)) (i : Columns) (until most : ℕ) where
  abbrev scratch : ℕ
  scratch = scratch_count n rows (length n.specs)

  abbrev call_event : World → Ran
  call_event = called (program n rows) (pos until) (pos most) event_name

  stands_for : (count : ℕ) (st : State) (v : World) → Stands n scratch i until most count st v
      → StandsFor n rows (program n rows) i until most st (kept_world (kept n rows) v)
  stands_for count st v s = record { whole = v; count = count; stands = s; kept = sym (again (full_program n rows) v) }

  -- ---- what can be read

  module _ (st : State) (w : World) (s : StandsFor n rows (program n rows) i until most st w) where
    is_part : w ≡ kept_world (kept n rows) s.whole
    is_part = s.kept ∙ again (full_program n rows) s.whole

    reads : (x : Name) (j : ℕ) → kept n rows x ≡ true → get w x j ≡ get s.whole x j
    reads x j h = ap (λ (u : World). get u x j) is_part ∙ reads_stay (kept n rows) s.whole x j h

    named : (x : Name) → is_kept (program n rows) x ≡ true → kept n rows x ≡ true
    named x h = sym (kept_again (full_program n rows) x) ∙ h

    tells : TellsState n (program n rows) i st w
    tells = record {
      date = reads next_date 0 (next_date_kept n rows) ∙ s.stands.coming;
      columns = columns_stay n i st.memory.cursor s.whole w (ap (λ (u : World). u.left) is_part) s.stands.shows.columns;
      held = λ h. record { each = λ b e k l. reads values (start_of n b + e) (named values h) ∙ s.stands.shows.held.each b e k l };
      states = λ h. record { each = λ b j k l. reads states ((places_of n b).state + j) (named states h) ∙ s.stands.shows.states.each b j k l };
    }

    called_so : call_event w ≡ kept_ran (kept n rows) (called (full_program n rows) (pos until) (pos most) event_name s.whole)
    called_so =
        ap call_event is_part
        ∙ call_kept (full_program n rows) (pos until) (pos most) event_name _ (event_called n rows (pos until) (pos most)).1 s.whole

  -- ---- what is done

  module _ (net : IsNet n) (free : AreLoopFree n) (schedule : IsSchedule n rows) (columns : AreColumns n i) (late : until ≤ TICKS) where
    go : ReactionsGo n rows i until most
    go = program_reacts n rows i until most net free schedule columns

    begins : (first : State) (seen : List Obs) → Reacts n i 0 Start (first_state n) first seen
        → (w : World) × ((stepped (program n rows) (begin_text n) i (pos until) (pos most) 0 ≡ record { seen = seen; how = going w })
        × StandsFor n rows (program n rows) i until most first w)
    begins first seen started =
        let b = begin_goes n rows i until most net free columns late go 0 (omega arith) (behind_functions 1 (functions n rows)) first seen started in (
          kept_world (kept n rows) b.0,
          (
            stepped_kept n rows i (pos until) (pos most) 0 ∙ ap (kept_ran (kept n rows)) (none_more b.0 b.1.0),
            stands_for 0 first b.0 b.1.1,
          ),
        )
      where
        none_more : (v : World)
            → run_block (surroundings (functions n rows) (pos until) (pos most)) (behind_functions 1 (functions n rows)) (begin_text n)
            (first_world (full_program n rows) i) ≡ record { seen = seen; how = going v }
            → stepped (full_program n rows) (begin_text n) i (pos until) (pos most) 0 ≡ record { seen = seen; how = going v }
        none_more v e =
            then_seen (run_block (surroundings (functions n rows) (pos until) (pos most)) (behind_functions 1 (functions n rows)) (begin_text n)
            (first_world (full_program n rows) i)) seen v (turns 0 (called (full_program n rows) (pos until) (pos most) event_name)) e
            ∙ ap (λ (l : List Obs). let q : Ran = record { seen = l; how = going v } in q) (append-nil seen)

    events : (limit : ℕ) → limit ≤ 2 ^ 51 → DoesEvents n i until limit call_event (StandsFor n rows (program n rows) i until most)
    events limit few = record {
      fires = λ st after e seen more w r is h s.
          let t = (full s.count).fires st after e seen more s.whole r is h s.stands in
          (kept_world (kept n rows) t.0, (called_so st w s ∙ ap (kept_ran (kept n rows)) t.1.0, stands_for s.count after t.0 t.1.1));
      stops = λ st e block word seen w r is h s.
          called_so st w s ∙ ap (kept_ran (kept n rows)) ((full s.count).stops st e block word seen s.whole r is h s.stands);
      ends = λ st word seen w r some is s.
          called_so st w s ∙ ap (kept_ran (kept n rows)) ((full s.count).ends st word seen s.whole r some is s.stands);
    }
      where
        full : (count : ℕ) → DoesEvents n i until limit (called (full_program n rows) (pos until) (pos most) event_name) (Stands n scratch i until most count)
        full count = stepping n rows i until most net free columns late go limit few count

pub program_follows_run : ProgramFollowsRun
program_follows_run n rows net free schedule = record {
  begin = begin_text n;
  parted = record { rest = ending n; is = refl };
  begins = λ i until most first seen columns late started. begins n rows i until most net free schedule columns late first seen started;
  events = λ i until most limit columns late few. events n rows i until most net free schedule columns late limit few;
  tells = λ i until most st w s. tells n rows i until most st w s;
}
