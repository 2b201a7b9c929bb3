-- The C program of a net and its schedule.
use Rattle.std.specs.Prelude.{ℕ, zero, suc, ◌+◌, ◌-◌, ◌*◌, ◌^◌, ℤ, pos, negsuc, Bool, true, false, ◌||◌, ◌&&◌, not, nat_eq, nat_lt, nat_le, List, [], ◌∷◌, ◌++◌, length, map, max, slice_index_or, if◌then◌else◌, Some, None}
use Rattle.std.specs.List.{list_any}
use Rattle.std.specs.Int.{bit_at}
use Rattle.sci_base.specs.declared.observation.EndWord.{EndWord}
use Rattle.sci_base.specs.declared.observation.EndWord.TheVariants as ends
use Rattle.sci_base.specs.Fit.{int_eq}
use Rattle.sci_forms.specs.Form.{reads_mask}
use Rattle.sci_forms.specs.declared.ports.Port.{Port as Output}
use Rattle.sci_forms.specs.declared.spec.Spec.{Spec}
use Rattle.sci_forms.specs.Ports.{elements}
use Rattle.sci_forms.specs.Form.{is_sync, has_state}
use Rattle.sci_forms.specs.Words.{state_len_of}
use Rattle.sci_kinds.specs.Table.{first_state, first_held}
use Rattle.sci_net.specs.declared.Feed.{Feed}
use Rattle.sci_net.specs.declared.Source.{Source}
use Rattle.sci_net.specs.declared.Source.TheVariants.{Start, Port}
use Rattle.sci_net.specs.Parts.{Parts, spec_of}
use Rattle.sci_net.specs.Sources.{sources_of, source_of}
use Rattle.sci_net.specs.Net.{all_elements}
use Rattle.sci_reaction.specs.Schedule.{Guard, Entry, blocks_of, branch_of}
use Rattle.sci_forms.specs.Form.{is_halt}
use Rattle.sci_run.specs.Programs.{firing_of}
use Rattle.sci_places.specs.Flat.{start_of}
use Rattle.sci_places.specs.Layout.{input_spans}
use Rattle.sci_span.specs.declared.span.Span.{Span}
use Rattle.c_ast.specs.declared.Name.{Name}
use Rattle.c_ast.specs.declared.Bound.TheVariants as bounds
use Rattle.c_ast.specs.declared.Op.TheVariants.{Add, Sub, Mul, Div, Rem, Lt, Gt, Eq}
use Rattle.c_ast.specs.Syntax.{Exp, num, var, element, bin, scalar, cell, until, limit, start, event, value, finish, Statement, set, ask, choice, loop, call, tell, Block, done, next, Declared, Function, Whole}
use Rattle.c_mean.specs.Texts.{number, place, joined, upto}
use Rattle.sci_cgen_blocks.specs.Terms.{is_looped}
use Rattle.sci_cgen_blocks.specs.Recipes.{next_alike, scratch_of}
use Rattle.sci_cgen_blocks.specs.Texts.{Places, fixed, counted_by, values, states, masks, scratch_name, element_place, body_text, next_text, delay_expression, branch_expression}
use Rattle.sci_due.specs.Due.{dates, orders, best as chosen_name, scan as scan_name, fresh, firsts, now as now_name, last as programmed_name, delay as delay_name, are_grouped, due_table, group_count}
use Rattle.c_trim.specs.Trim.{trimmed}
use Rattle.sci_due.specs.Texts.{choose_text as choose_of, take_text, delayed_text}
use Rattle.sci_program.specs.declared.part.Part.{Part}
use Rattle.sci_program.specs.declared.part.Part.TheVariants.{Absent, Sure, Marked, Taken}
use Rattle.sci_program.specs.Names.{actives, branches, limit_name, until_name, fired_name, halt_name, next_date, block_name, source_name, clear_name, settle_name, choose_name, event_name}

-- ---- words

abbrev pub natural : ℕ → Exp
natural n = num (pos n)

-- a text of one statement
abbrev pub one : Statement → Block
one s = next s done

-- the texts of all of a list
abbrev pub texts : {A : Type 0} → (A → Block) → List A → Block
texts f [] = done
texts f (x ∷ xs) = joined (f x) (texts f xs)

abbrev pub text_where : Bool → Block → Block
text_where test t = if test then t else done

-- where a test isn't 0
abbrev pub only_where : Exp → Block → Block
only_where test t = one (choice test t done)

-- a text for each block, by its number
abbrev pub each_block : (ℕ → Block) → Parts → Block
each_block f n = upto (λ k. f (suc k)) (length n.specs)

-- the sources but start, by their places in the net's list
abbrev pub port_count : Parts → ℕ
port_count n = length (sources_of n) - 1

abbrev pub each_port : (ℕ → Block) → Parts → Block
each_port f n = upto (λ k. f (suc k)) (port_count n)

-- ---- where values lie

-- how many values the states of the first k blocks have
abbrev pub states_before : List Spec → ℕ → ℕ
states_before ss zero = 0
states_before [] (suc k) = 0
states_before (s ∷ ss) (suc k) = state_len_of s.kind s + states_before ss k

abbrev pub places_of : Parts → ℕ → Places
places_of n b = record {
  number = b;
  ins = map (λ (p : Span). p.start) (input_spans n b);
  outs = start_of n b;
  state = states_before n.specs (b - 1);
  mask = b - 1;
  which = fixed 0;
}

-- ---- functions of blocks

-- the schedule has an entry of the block
abbrev pub is_scheduled : List (List Entry) → ℕ → Bool
is_scheduled rows b = list_any (λ row. list_any (nat_eq b) (blocks_of row)) rows

abbrev pub block_function : Parts → List (List Entry) → ℕ → Function
block_function n rows b = record { name = block_name b; body = text_where (is_scheduled rows b) (body_text (spec_of n b) (places_of n b)) }

-- ---- which texts follow a reaction

-- so many entries at most in all rows
abbrev pub rows_fit : ℕ → List (List Entry) → Bool
rows_fit left [] = true
rows_fit left (row ∷ rows) = nat_le (length row) left && rows_fit (left - length row) rows

-- how many of the first k blocks the schedule has
abbrev pub scheduled_count : List (List Entry) → ℕ → ℕ
scheduled_count rows zero = 0
scheduled_count rows (suc k) = scheduled_count rows k + (if is_scheduled rows (suc k) then 1 else 0)

-- Each source has a text of its own for what follows its reaction, where the rows have at most three times as many entries as blocks are in them. Else the
-- texts would grow: then one function serves all sources.
abbrev pub has_own : Parts → List (List Entry) → Bool
has_own n rows = rows_fit (3 * scheduled_count rows (length n.specs)) rows

-- A block under one guard takes part where the guard's branch is taken.
abbrev pub part_under : List Guard → Part
part_under (g ∷ []) = Taken (branch_of g)
part_under _ = Marked

-- How an entry's block takes part: always; where a branch is taken, which needs no mark; or where it is marked, as each whose kind reads its mask.
abbrev pub part_by : Parts → Entry → Part
part_by n e = if e.always then Sure else (if reads_mask (spec_of n e.block).kind then Marked else part_under e.guards)

-- how a block takes part by the entries of a row, not at all without one
abbrev pub part_in : Parts → List Entry → ℕ → Part
part_in n [] b = Absent
part_in n (e ∷ es) b = if nat_eq e.block b then part_by n e else part_in n es b

-- In a text of its own by the row; in the one for all each block takes part where it is marked.
abbrev pub part_of : Bool → Parts → List Entry → ℕ → Part
part_of true n row = part_in n row
part_of false n row = λ b. Marked

-- how an entry's block is called: where one text follows for all sources, each is marked that needn't be active
abbrev pub entry_part : Bool → Parts → Entry → Part
entry_part own n e = if own then part_by n e else (if e.always then Sure else Marked)

abbrev pub is_marked : Part → Bool
is_marked Marked = true
is_marked _ = false

-- ---- one reaction

abbrev pub is_active : ℕ → Exp
is_active b = place actives (b - 1)

-- a block has taken a branch
abbrev pub has_taken : Feed → Exp
has_taken q = bin Eq (place branches (q.block - 1)) (natural q.port)

-- a text for where block b takes part
abbrev pub where_part : Part → ℕ → Block → Block
where_part Absent b t = done
where_part Sure b t = t
where_part Marked b t = only_where (is_active b) t
where_part (Taken q) b t = only_where (has_taken q) t

abbrev pub mark : ℕ → Block
mark b = one (set (cell actives (natural (b - 1))) (natural 1))

abbrev pub mask_cell : ℕ → Exp
mask_cell b = place masks (b - 1)

-- bit p of the mask becomes 1
abbrev pub with_bit : ℕ → ℕ → Block
with_bit b p =
    one (set (cell masks (natural (b - 1)))
    (bin Add (mask_cell b) (bin Mul (bin Sub (natural 1) (bin Rem (bin Div (mask_cell b) (natural (2 ^ p))) (natural 2))) (natural (2 ^ p)))))

-- those of n bits that are 1 in a mask
abbrev pub with_bits : ℕ → ℕ → ℕ → Block
with_bits b mask n = upto (λ p. text_where (nat_eq (bit_at mask p) 1) (with_bit b p)) n

-- the guard's block has taken the guard's branch
abbrev pub is_taken : Guard → Exp
is_taken g = has_taken (branch_of g)

abbrev pub guard_text : Parts → Entry → Guard → Block
guard_text n e g =
    only_where (is_taken g)
    (joined (text_where (not e.always) (mark e.block))
    (text_where (reads_mask (spec_of n e.block).kind) (with_bits e.block g.mask (spec_of n e.block).evtin)))

-- the block's function, and the branch that a synchronous block takes
abbrev pub call_text : Parts → ℕ → Block
call_text n b =
    next (call (block_name b))
    (text_where (is_sync (spec_of n b).kind) (one (set (cell branches (natural (b - 1))) (branch_expression (spec_of n b) (places_of n b)))))

-- Whether the block is active, where that is marked; its mask where its kind reads it; and its values where it is active. A block that the source always
-- activates is marked where one text for all sources follows.
abbrev pub entry_text : Bool → Parts → Entry → Block
entry_text own n e =
    joined (text_where (not own && e.always) (mark e.block))
    (joined (text_where (reads_mask (spec_of n e.block).kind) (one (set (cell masks (natural (e.block - 1))) (natural e.mask))))
    (joined (text_where (is_marked (entry_part own n e) || reads_mask (spec_of n e.block).kind) (texts (guard_text n e) e.guards))
    (where_part (entry_part own n e) e.block (call_text n e.block))))

abbrev pub header_text : Source → Block
header_text Start = one (tell start)
header_text (Port q) = one (tell (event (var now_name) (natural q.block) (natural q.port)))

-- an entry's block isn't active yet, where that is marked, and has taken no branch
abbrev pub cleared_text : Parts → Entry → Block
cleared_text n e =
    joined (text_where (is_marked (part_by n e)) (one (set (cell actives (natural (e.block - 1))) (natural 0))))
    (text_where (is_sync (spec_of n e.block).kind) (one (set (cell branches (natural (e.block - 1))) (natural 0))))

-- the reaction of a source, up to its values
abbrev pub pass_text : Bool → Parts → Source → List Entry → Block
pass_text own n s row = joined (header_text s) (joined (text_where own (texts (cleared_text n) row)) (texts (entry_text own n) row))

-- ---- before a reaction, and behind its values

abbrev pub has_sync : Parts → Bool
has_sync n = list_any (λ s. is_sync s.kind) n.specs

abbrev pub has_halt : Parts → Bool
has_halt n = list_any (λ s. is_halt s.kind) n.specs

-- no block is active, and none has taken a branch
abbrev pub clear_text : Parts → Block
clear_text n =
    one (loop scan_name (bounds.Num (pos (length n.specs)))
    (next (set (cell actives (var scan_name)) (natural 0)) (text_where (has_sync n) (one (set (cell branches (var scan_name)) (natural 0))))))

-- the values of m elements of an output from number e on, the first of which lies at place o
abbrev pub elements_shown : (block port element place : ℕ) → ℕ → Block
elements_shown b p e o zero = done
elements_shown b p e o (suc m) = next (tell (value (natural b) (natural p) (natural e) (place values o))) (elements_shown b p (e + 1) (o + 1) m)

-- those of all m elements in a loop whose counter is a scratch number
abbrev pub looped_shown : (block port place : ℕ) → ℕ → Statement
looped_shown b p o m =
    loop (scratch_name 1) (bounds.Num (pos m))
    (one (tell (value (natural b) (natural p) (element_place (counted_by 1) 1) (element values (element_place (counted_by 1) o)))))

abbrev pub output_shown : (block port place : ℕ) → ℕ → Block
output_shown b p o m = if is_looped m then one (looped_shown b p o m) else elements_shown b p 1 o m

abbrev pub outputs_shown : (block port place : ℕ) → List Output → Block
outputs_shown b p o [] = done
outputs_shown b p o (q ∷ qs) = joined (output_shown b p o (elements q)) (outputs_shown b (p + 1) (o + elements q) qs)

-- the values of an active block are observed
abbrev pub values_shown : Parts → (ℕ → Part) → ℕ → Block
values_shown n part b = text_where (nat_lt 0 (length (spec_of n b).outs)) (where_part (part b) b (outputs_shown b 1 (start_of n b) (spec_of n b).outs))

-- source i is programmed anew after a delay of 0 or more, where its block is active
abbrev pub delay_text : Parts → (ℕ → Part) → ℕ → Source → Block
delay_text n part i Start = done
delay_text n part i (Port q) =
    where_part (part q.block) q.block (delayed_text (due_table (port_count n)) (i - 1) (delay_expression (spec_of n q.block) (places_of n q.block)))

abbrev pub state_text : Parts → (ℕ → Part) → ℕ → Block
state_text n part b = text_where (has_state (spec_of n b).kind) (where_part (part b) b (next_text (spec_of n b) (places_of n b)))

abbrev pub halt_text : Parts → (ℕ → Part) → ℕ → Block
halt_text n part b = text_where (is_halt (spec_of n b).kind) (where_part (part b) b (one (set (scalar halt_name) (natural 1))))

-- what is observed of the active blocks, what they program, their next states, and whether one halts
abbrev pub settle_text : Parts → (ℕ → Part) → Block
settle_text n part =
    joined (each_block (values_shown n part) n) (joined (each_port (λ i. delay_text n part i (source_of n i)) n)
    (joined (each_block (state_text n part) n) (each_block (halt_text n part) n)))

-- the text for all sources
abbrev pub shared_text : Parts → Block
shared_text n = settle_text n (λ b. Marked)

-- what follows the values of a source's reaction
abbrev pub following_text : Bool → Parts → List Entry → Block
following_text own n row = if own then settle_text n (part_in n row) else one (call settle_name)

abbrev pub row_text : Bool → Parts → Source → List Entry → Block
row_text own n s row = joined (pass_text own n s row) (following_text own n row)

abbrev pub source_function : Parts → List (List Entry) → ℕ → Function
source_function n rows i = record { name = source_name i; body = row_text (has_own n rows) n (source_of n i) (slice_index_or rows i []) }

-- ---- which event fires

-- Of all sources the one whose event comes first, and its date, -1 where none is pending. Where there is one source, its date is asked alone.
abbrev pub choose_text : Parts → Block
choose_text n = if nat_lt 1 (port_count n) then choose_of (port_count n) else one (set (scalar next_date) (place dates 0))

-- the place of the chosen one of so many sources
abbrev pub chosen_place : ℕ → Exp
chosen_place c = if nat_lt 1 c then var chosen_name else natural 0

-- ---- the run

-- the number by which sci_end is told why a run ends
abbrev pub end_number : EndWord → ℕ
end_number ends.Halt = 0
end_number ends.Events = 1
end_number ends.Empty = 2
end_number ends.Until = 3

abbrev pub end_told : EndWord → Statement
end_told word = tell (finish (natural (end_number word)))

-- The run ends with this word where a test isn't 0, and else this is done: where the end returns, nothing is done behind it.
abbrev pub end_or : Exp → EndWord → Block → Block
end_or test word rest = one (choice test (one (end_told word)) rest)

-- the run ends where a HALT_f was active, and else this is done
abbrev pub halted_or : Parts → Block → Block
halted_or n rest = if has_halt n then end_or (var halt_name) ends.Halt rest else rest

-- Of c sources from place i on, counted from 0 without start, the chosen one reacts. There are 2^d at most, and as long as there are more than half of that, a
-- test tells in which half it is.
unfoldable pub react_step : (d i c : ℕ) → Statement
react_step zero i c = call (source_name (suc i))
react_step (suc d) i c =
    if nat_lt (2 ^ d) c then choice (bin Lt (var chosen_name) (natural (i + 2 ^ d))) (one (react_step d i (2 ^ d))) (one (react_step d (i + 2 ^ d) (c - 2 ^ d)))
    else react_step d i c

-- a net has 2,048 sources beside start at most
abbrev pub react_deep : ℕ
react_deep = 11

-- the chosen event is taken, its source reacts, and the next event is chosen
abbrev pub fire_text : Bool → Parts → Block
fire_text own n =
    take_text (port_count n) (chosen_place (port_count n))
    (joined (text_where (not own) (one (call clear_name))) (next (react_step react_deep 0 (port_count n)) (one (call choose_name))))

-- where the run isn't over, its next event fires
abbrev pub event_text : Bool → Parts → Block
event_text own n =
    if nat_lt 0 (port_count n)
    then end_or (bin Lt (var next_date) (natural 0)) ends.Empty (end_or (bin Gt (var next_date) (var until_name)) ends.Until (fire_text own n))
    else one (end_told ends.Empty)

-- one event, or the end of the run
abbrev pub turn_text : Bool → Parts → Block
turn_text own n = halted_or n (event_text own n)

-- a place becomes a number, where it isn't 0 as all are at the beginning
abbrev pub begun_text : Name → ℕ → ℤ → Block
begun_text a k z = text_where (not (int_eq z (pos 0))) (one (set (cell a (natural k)) (number z)))

abbrev pub list_begun : Name → ℕ → List ℤ → Block
list_begun a k [] = done
list_begun a k (z ∷ zs) = joined (begun_text a k z) (list_begun a (k + 1) zs)

abbrev pub held_begun : Parts → ℕ → Block
held_begun n b = list_begun values (start_of n b) (first_held (spec_of n b))

abbrev pub state_begun : Parts → ℕ → Block
state_begun n b = list_begun states (places_of n b).state (first_state (spec_of n b))

-- whether source k has an event before the run
abbrev pub firing_at : Parts → Source → ℤ
firing_at n Start = negsuc 0
firing_at n (Port q) = firing_of n q

abbrev pub is_programmed : ℤ → Bool
is_programmed (pos d) = true
is_programmed (negsuc d) = false

-- how many of the first k sources have one
abbrev pub programmed_before : Parts → ℕ → ℕ
programmed_before n zero = 0
programmed_before n (suc k) = programmed_before n k + (if is_programmed (firing_at n (source_of n k)) then 1 else 0)

-- source i has an event of this date and order before the run, or none
abbrev pub firing_begun : (i order : ℕ) → ℤ → Block
firing_begun i order (pos d) = joined (begun_text dates (i - 1) (pos d)) (begun_text orders (i - 1) (pos order))
firing_begun i order (negsuc d) = one (set (cell dates (natural (i - 1))) (number (negsuc 0)))

abbrev pub source_begun : Parts → ℕ → Block
source_begun n i = firing_begun i (programmed_before n i) (firing_at n (source_of n i))

-- how many events were programmed before the run, where there are several sources of events, and the last date
abbrev pub clock_begun : Parts → Block
clock_begun n =
    joined (text_where (nat_lt 1 (port_count n)) (one (set (scalar programmed_name) (natural (programmed_before n (length (sources_of n)))))))
    (one (ask (scalar until_name) until))

abbrev pub outset_text : Parts → Block
outset_text n =
    joined (each_block (held_begun n) n) (joined (each_block (state_begun n) n) (joined (each_port (source_begun n) n)
    (text_where (nat_lt 0 (port_count n)) (clock_begun n))))

-- the first event is chosen, where there is any
abbrev pub first_text : Parts → Block
first_text n = if nat_lt 0 (port_count n) then one (call choose_name) else one (set (scalar next_date) (number (negsuc 0)))

-- what comes before the first event
abbrev pub begin_text : Parts → Block
begin_text n =
    joined (outset_text n) (next (ask (scalar limit_name) limit) (next (call (source_name 0)) (first_text n)))

abbrev pub main_text : Parts → Block
main_text n =
    joined (begin_text n)
    (next (loop fired_name (bounds.Var limit_name) (one (call event_name))) (halted_or n (one (end_told ends.Events))))

-- ---- the program

abbrev pub array : Name → ℕ → Declared
array x size = record { name = x; size = Some (max size 1) }

abbrev pub declared_where : Bool → List Declared → List Declared
declared_where test ds = if test then ds else []

abbrev pub a_scalar : Name → Declared
a_scalar x = record { name = x; size = None }

-- whether the values of an output of a block are observed in a loop
abbrev pub is_any_looped : List Output → Bool
is_any_looped qs = list_any (λ q. is_looped (elements q)) qs

-- or those of its next state are worked out in one
abbrev pub counts_behind : Spec → Bool
counts_behind s = is_any_looped s.outs || is_looped (next_alike s.kind s)

abbrev pub has_loop : Parts → Bool
has_loop n = list_any counts_behind n.specs

-- how many scratch numbers such a loop takes, or a block that the schedule has
abbrev pub scratch_count : Parts → List (List Entry) → ℕ → ℕ
scratch_count n rows zero = if has_loop n then 1 else 0
scratch_count n rows (suc k) = max (scratch_count n rows k) (if is_scheduled rows (suc k) then scratch_of (spec_of n (suc k)).kind (spec_of n (suc k)) else 0)

abbrev pub scratch_declared : ℕ → List Declared
scratch_declared zero = []
scratch_declared (suc k) = scratch_declared k ++ a_scalar (scratch_name (suc k)) ∷ []

-- dates and orders of so many sources of events: of one the date alone, of many what is known of their groups too
abbrev pub due_arrays : ℕ → List Declared
due_arrays c =
    array dates c ∷ declared_where (nat_lt 1 c) (array orders c ∷ [])
    ++ declared_where (are_grouped c) (array fresh (group_count c) ∷ array firsts (group_count c) ∷ [])

-- what firing and programming use
abbrev pub event_scalars : ℕ → List Declared
event_scalars c =
    a_scalar until_name ∷ a_scalar now_name ∷ a_scalar chosen_name ∷ a_scalar delay_name ∷ a_scalar scan_name
    ∷ declared_where (nat_lt 1 c) (a_scalar programmed_name ∷ [])

abbrev pub declarations : Parts → List (List Entry) → List Declared
declarations n rows =
    array values (all_elements n.specs) ∷ array states (states_before n.specs (length n.specs)) ∷ array masks (length n.specs) ∷ []
    ++ declared_where (nat_lt 0 (length n.specs)) (array actives (length n.specs) ∷ [])
    ++ declared_where (has_sync n) (array branches (length n.specs) ∷ [])
    ++ declared_where (nat_lt 0 (port_count n)) (due_arrays (port_count n))
    ++ scratch_declared (scratch_count n rows (length n.specs))
    ++ a_scalar limit_name ∷ a_scalar fired_name ∷ a_scalar next_date ∷ []
    ++ declared_where (nat_lt 0 (port_count n)) (event_scalars (port_count n))
    ++ declared_where (has_halt n) (a_scalar halt_name ∷ [])

abbrev pub functions_upto : (ℕ → Function) → ℕ → List Function
functions_upto f zero = []
functions_upto f (suc k) = functions_upto f k ++ f k ∷ []

abbrev pub functions_where : Bool → List Function → List Function
functions_where test fs = if test then fs else []

-- for all sources what follows a reaction, and where events fire, what comes before each
abbrev pub shared_functions : Parts → List Function
shared_functions n =
    record { name = settle_name; body = shared_text n } ∷ functions_where (nat_lt 0 (port_count n)) (record { name = clear_name; body = clear_text n } ∷ [])

-- these where the sources have no texts of their own; and where events fire, the choice of the next
abbrev pub other_functions : Bool → Parts → List Function
other_functions own n =
    functions_where (not own) (shared_functions n)
    ++ functions_where (nat_lt 0 (port_count n)) (record { name = choose_name; body = choose_text n } ∷ [])

-- what sci_main and the function of one event call
abbrev pub called_functions : Parts → List (List Entry) → List Function
called_functions n rows =
    functions_upto (λ k. block_function n rows (suc k)) (length n.specs) ++ other_functions (has_own n rows) n
    ++ functions_upto (source_function n rows) (length (sources_of n))

abbrev pub event_function : Bool → Parts → Function
event_function own n = record { name = event_name; body = turn_text own n }

abbrev pub functions : Parts → List (List Entry) → List Function
functions n rows = called_functions n rows ++ event_function (has_own n rows) n ∷ []

-- the program of a net with its schedule's rows, one for each source, with all variables
abbrev pub full_program : Parts → List (List Entry) → Whole
full_program n rows = record { decls = declarations n rows; funcs = functions n rows; main = main_text n }

-- the same without variables that no text names
abbrev pub program : Parts → List (List Entry) → Whole
program n rows = trimmed (full_program n rows)
