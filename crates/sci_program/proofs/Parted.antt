-- The texts of a program, by their parts.
use Rattle.std.proofs.Common.{arith, refl, ℕ, suc, ◌-◌, Bool, true, false, ◌||◌, nat_eq, nat_lt, List, [], ◌∷◌, length, Contains, if◌then◌else◌}
use Rattle.sci_net.specs.Parts.{Parts, spec_of}
use Rattle.sci_net.specs.Sources.{sources_of, source_of}
use Rattle.sci_net.specs.Net.{all_elements}
use Rattle.sci_reaction.specs.Schedule.{Guard, Entry, branch_of}
use Rattle.sci_reaction.proofs.Lists.{cons-Contains}
use Rattle.c_ast.specs.declared.Bound.TheVariants as bounds
use Rattle.c_ast.specs.Syntax.{scalar, cell, until, limit, set, ask, loop, call, Block, next, Declared, Function}
use Rattle.sci_cgen_blocks.specs.Texts.{values, states, masks}
use Rattle.sci_due.specs.Due.{last as programmed_name}
use Rattle.sci_program.specs.declared.part.Part.{Part}
use Rattle.sci_program.specs.declared.part.Part.TheVariants.{Absent, Sure, Marked, Taken}
use Rattle.sci_base.specs.declared.observation.EndWord.TheVariants as ends
use Rattle.sci_program.specs.Names.{actives, branches, limit_name, until_name, fired_name, next_date, halt_name, source_name, clear_name, settle_name, choose_name, event_name}
use Rattle.sci_program.specs.Program.{natural, one, array, a_scalar, states_before, texts, text_where, part_under, part_by, part_in, entry_part, is_marked, where_part, each_block, each_port, port_count, guard_text, call_text, clear_text, choose_text, shared_text, values_shown, delay_text, state_text, halt_text, halted_or, end_told, first_text, held_begun, state_begun, source_begun, programmed_before, block_function, source_function, functions_upto, functions_where, clock_begun}
use Rattle.sci_forms.specs.Form.{reads_mask}

-- ---- of an entry

abbrev pub reads : Parts → Entry → Bool
reads n e = reads_mask (spec_of n e.block).kind

abbrev pub masked : Parts → Entry → Block
masked n e = text_where (reads n e) (one (set (cell masks (natural (e.block - 1))) (natural e.mask)))

abbrev pub guarded : Bool → Parts → Entry → Block
guarded own n e = text_where (is_marked (entry_part own n e) || reads n e) (texts (guard_text n e) e.guards)

abbrev pub called : Bool → Parts → Entry → Block
called own n e = where_part (entry_part own n e) e.block (call_text n e.block)

-- what holds of each part that a block may have by its entry
pub by_entry : (n : Parts) (e : Entry) (P : Part → Type 0) → P Sure → P Marked → ((g : Guard) → Contains e.guards g → P (Taken (branch_of g))) → P (part_by n e)
by_entry n e P sure marked taken = by_always e.always
  where
    by_guards : (gs : List Guard) → ((g : Guard) → Contains gs g → P (Taken (branch_of g))) → P (part_under gs)
    by_guards [] h = marked
    by_guards (g ∷ []) h = h g (0, omega arith, refl)
    by_guards (g ∷ (x ∷ xs)) h = marked

    by_reads : (r : Bool) → P (if r then Marked else part_under e.guards)
    by_reads true = marked
    by_reads false = by_guards e.guards taken

    by_always : (a : Bool) → P (if a then Sure else (if reads n e then Marked else part_under e.guards))
    by_always true = sure
    by_always false = by_reads (reads n e)

-- and of each by which it is called
pub by_call : (own : Bool) (n : Parts) (e : Entry) (P : Part → Type 0) → P Sure → P Marked → ((g : Guard) → Contains e.guards g → P (Taken (branch_of g)))
    → P (entry_part own n e)
by_call true n e P sure marked taken = by_entry n e P sure marked taken
by_call false n e P sure marked taken = by_always e.always
  where
    by_always : (a : Bool) → P (if a then Sure else Marked)
    by_always true = sure
    by_always false = marked

-- and of each by a row
pub by_row : (n : Parts) (row : List Entry) (b : ℕ) (P : Part → Type 0) → P Absent → ((e : Entry) → Contains row e → P (part_by n e)) → P (part_in n row b)
by_row n [] b P absent h = absent
by_row n (e ∷ es) b P absent h = by_block (nat_eq e.block b) (h e (0, omega arith, refl)) (by_row n es b P absent (λ x c. h x (cons-Contains e es x c)))
  where
    by_block : (t : Bool) → P (part_by n e) → P (part_in n es b) → P (if t then part_by n e else part_in n es b)
    by_block true here rest = here
    by_block false here rest = rest

-- ---- behind a reaction

abbrev pub all_shown : Parts → (ℕ → Part) → Block
all_shown n part = each_block (values_shown n part) n

abbrev pub all_delays : Parts → (ℕ → Part) → Block
all_delays n part = each_port (λ i. delay_text n part i (source_of n i)) n

abbrev pub all_states : Parts → (ℕ → Part) → Block
all_states n part = each_block (state_text n part) n

abbrev pub all_halts : Parts → (ℕ → Part) → Block
all_halts n part = each_block (halt_text n part) n

-- ---- before the run

abbrev pub all_held : Parts → Block
all_held n = each_block (held_begun n) n

abbrev pub first_states : Parts → Block
first_states n = each_block (state_begun n) n

abbrev pub all_begun : Parts → Block
all_begun n = each_port (source_begun n) n

abbrev pub count_begun : Parts → Block
count_begun n = one (set (scalar programmed_name) (natural (programmed_before n (length (sources_of n)))))

abbrev pub until_asked : Block
until_asked = one (ask (scalar until_name) until)

abbrev pub where_ports : Parts → Block
where_ports n = text_where (nat_lt 0 (port_count n)) (clock_begun n)

-- ---- the run

abbrev pub ending : Parts → Block
ending n = halted_or n (one (end_told ends.Events))

-- behind what is there before the run
abbrev pub starting : Parts → Block
starting n = next (ask (scalar limit_name) limit) (next (call (source_name 0)) (first_text n))

abbrev pub running : Parts → Block
running n = next (loop fired_name (bounds.Var limit_name) (one (call event_name))) (ending n)

-- ---- functions

abbrev pub own : Parts → List (List Entry) → ℕ → Function
own n rows k = block_function n rows (suc k)

abbrev pub blocks : Parts → List (List Entry) → List Function
blocks n rows = functions_upto (own n rows) (length n.specs)

abbrev pub sources : Parts → List (List Entry) → List Function
sources n rows = functions_upto (source_function n rows) (length (sources_of n))

abbrev pub settle_function : Parts → Function
settle_function n = record { name = settle_name; body = shared_text n }

abbrev pub clear_function : Parts → Function
clear_function n = record { name = clear_name; body = clear_text n }

abbrev pub choose_function : Parts → Function
choose_function n = record { name = choose_name; body = choose_text n }

-- for all sources
abbrev pub clears : Parts → List Function
clears n = functions_where (nat_lt 0 (port_count n)) (clear_function n ∷ [])

abbrev pub shared : Parts → List Function
shared n = settle_function n ∷ clears n

abbrev pub chooses : Parts → List Function
chooses n = functions_where (nat_lt 0 (port_count n)) (choose_function n ∷ [])

-- ---- variables

abbrev pub value_arrays : Parts → List Declared
value_arrays n = array values (all_elements n.specs) ∷ array states (states_before n.specs (length n.specs)) ∷ array masks (length n.specs) ∷ []

abbrev pub active_array : Parts → List Declared
active_array n = array actives (length n.specs) ∷ []

abbrev pub branch_array : Parts → List Declared
branch_array n = array branches (length n.specs) ∷ []

abbrev pub limit_scalars : List Declared
limit_scalars = a_scalar limit_name ∷ a_scalar fired_name ∷ a_scalar next_date ∷ []

abbrev pub halt_scalar : List Declared
halt_scalar = a_scalar halt_name ∷ []
