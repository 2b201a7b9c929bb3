-- The generated program keeps the bounds of the subset.
use Rattle.std.specs.Prelude.{◌/◌}
use Rattle.std.proofs.Common.{◌≡◌, ℕ, zero, suc, ◌+◌, ◌-◌, ◌*◌, ◌^◌, ◌<◌, ◌≤◌, ◌≤ℤ◌, List, [], ◌∷◌, ◌++◌, append_assoc, length, slice_index_or, Contains, All, Bool, true, false, ◌||◌, ◌&&◌, not, nat_eq, nat_lt, if◌then◌else◌, refl, sym, ap, ◌∙◌, subst, arith, ℤ, pos, negsuc, ltb-true}
use Rattle.std.specs.Int.{bit_at}
use Rattle.std.proofs.lemmas.Int.{ints}
use Rattle.std.proofs.lemmas.List.Elements.{All-nil, All-cons, All-head, All-tail, All-contains, Contains-get_or}
use Rattle.sci_base.specs.Fit.{int_eq}
use Rattle.sci_base.specs.Lists.{at}
use Rattle.sci_forms.specs.declared.ports.Port.{Port as Output}
use Rattle.sci_forms.specs.Ports.{elements, total, type_at}
use Rattle.sci_forms.specs.Form.{is_sync, has_state}
use Rattle.sci_forms.specs.Typed.{typed}
use Rattle.sci_forms.specs.Words.{out_type}
use Rattle.sci_kinds.specs.Table.{first_state, first_held}
use Rattle.sci_kinds.proofs.LawProofs.{first_held_law}
use Rattle.sci_net.specs.declared.Feed.{Feed}
use Rattle.sci_net.specs.declared.Source.{Source}
use Rattle.sci_net.specs.declared.Source.TheVariants.{Start, Port}
use Rattle.sci_net.specs.Parts.{Parts, IsBlock, IsActivationOutput, spec_of}
use Rattle.sci_net.specs.Sources.{sources_of, source_of}
use Rattle.sci_net.specs.Net.{IsNet, all_elements}
use Rattle.sci_places.specs.Flat.{start_of}
use Rattle.sci_places.proofs.Outputs.{block_within}
use Rattle.sci_reaction.specs.Active.{seeded, passed, Reaches}
use Rattle.sci_reaction.specs.Depends.{IsLoopFree}
use Rattle.sci_reaction.specs.Links.{IsSource}
use Rattle.sci_reaction.specs.Schedule.{Guard, Entry, IsSchedule, IsRow, IsEntry, branch_of}
use Rattle.sci_reaction.proofs.Rows.{Contains-mid}
use Rattle.sci_reaction.proofs.Sources.{sources_are}
use Rattle.sci_forms.specs.Form.{is_halt}
use Rattle.sci_run.specs.Laws.{AreLoopFree}
use Rattle.sci_run.proofs.Ordered.{typed_firing}
use Rattle.c_ast.specs.declared.Name.{Name}
use Rattle.c_ast.specs.declared.Bound.TheVariants as bounds
use Rattle.c_ast.specs.declared.Op.TheVariants.{Add, Sub, Mul, Div, Rem, Lt, Gt, Ge}
use Rattle.c_ast.specs.Syntax.{Exp, var, bin, scalar, cell, set, call, tell, finish, Statement, Block, done, next, Declared, Function, element, num, loop}
use Rattle.c_ast.specs.Bounds.{IsName, Fits, IsExp, BlockFits, IsBody, IsDeclared, IsFunction, IsWhole}
use Rattle.c_mean.specs.Texts.{number, place, joined, upto}
use Rattle.sci_cgen_blocks.specs.Terms.{is_looped}
use Rattle.sci_cgen_blocks.specs.Texts.{counted_by, values, states, masks, scratch_name, element_place, body_text, next_text, delay_expression, branch_expression}
use Rattle.sci_cgen_blocks.proofs.Bounds.{joined_fits, upto_fits, body_fits, next_fits, delay_fits_all, branch_fits_all}
use Rattle.sci_cgen_blocks.proofs.KindBounds.{few_outs}
use Rattle.sci_cgen_blocks.proofs.KindLaws.{cell_reads_law}
use Rattle.sci_cgen_blocks.proofs.NextStates.{next_reads_law, next_along_reads_law}
use Rattle.sci_due.specs.Due.{dates, orders, fresh, firsts, are_grouped, due_table, keeps_groups, keeps_orders, group_count, best as chosen_name, scan as scan_name, now as now_name, last as programmed_name, delay as delay_name}
use Rattle.sci_due.specs.declared.due_table.DueTable.{DueTable}
use Rattle.sci_due.specs.Texts.{better_exp, choose_text as choose_of, order_text, stale_text, entry_text as due_entry, program_text, delayed_text, counted_from, choose_turn, turns_text, span_text, others_in, unknown_exp, group_text, first_of, groups_text}
use Rattle.sci_due.proofs.Pending.{delayed_form}
use Rattle.sci_program.specs.declared.part.Part.{Part}
use Rattle.sci_program.specs.declared.part.Part.TheVariants.{Absent, Sure, Marked, Taken}
use Rattle.sci_base.specs.declared.observation.EndWord.{EndWord}
use Rattle.sci_base.specs.declared.observation.EndWord.TheVariants as ends
use Rattle.sci_program.specs.Names.{actives, branches, limit_name, until_name, fired_name, next_date, halt_name, clear_name, choose_name}
use Rattle.sci_program.specs.Program.{natural, one, texts, text_where, only_where, has_own, part_in, port_count, places_of, states_before, is_scheduled, block_function, is_active, where_part, mark, mask_cell, with_bit, with_bits, is_taken, guard_text, call_text, entry_text, cleared_text, header_text, pass_text, following_text, shared_text, source_function, has_sync, has_halt, clear_text, choose_text, chosen_place, elements_shown, outputs_shown, values_shown, delay_text, state_text, halt_text, settle_text, end_number, end_or, react_step, react_deep, fire_text, event_text, turn_text, first_text, begin_text, begun_text, list_begun, held_begun, state_begun, firing_at, is_programmed, programmed_before, firing_begun, source_begun, outset_text, main_text, array, declared_where, a_scalar, scratch_count, scratch_declared, declarations, functions_upto, functions_where, other_functions, called_functions, event_function, looped_shown, output_shown, part_by, entry_part, is_marked, has_taken, clock_begun, due_arrays, event_scalars, full_program}
use Rattle.sci_forms.specs.Form.{reads_mask}
use Rattle.sci_program.proofs.Parted.{value_arrays, active_array, branch_array, limit_scalars, halt_scalar, reads, masked, guarded, called, by_entry, by_call, by_row, all_shown, all_delays, all_states, all_halts, all_held, first_states, all_begun, until_asked, where_ports, starting, ending, running, blocks, sources, settle_function, clear_function, choose_function, shared, clears, chooses, count_begun}
use Rattle.sci_program.proofs.Marks.{few_small}
use Rattle.sci_program.proofs.Halves.{in_first, react_last, react_more}
use Rattle.sci_program.proofs.Entries.{few_inputs, block_here, mask_few}
use Rattle.sci_program.proofs.Sizes.{few_outputs, port_has_delay, few_ports, few_all_states, state_within, in_bounds, scratch_few, is_spelled}

-- ---- numbers and names

zero_small : 0 < 2 ^ 63
zero_small = omega arith

one_small : 1 < 2 ^ 63
one_small = omega arith

two_small : 2 < 2 ^ 63
two_small = omega arith

mask_name : IsName masks
mask_name = (refl, omega arith)

date_name : IsName dates
date_name = (refl, omega arith)

order_name : IsName orders
order_name = (refl, omega arith)

chosen_is_name : IsName chosen_name
chosen_is_name = (refl, omega arith)

scan_is_name : IsName scan_name
scan_is_name = (refl, omega arith)

-- ---- expressions

is_small : (k : ℕ) → k < 2 ^ 63 → IsExp (natural k)
unfolding IsExp
is_small k h = h

is_var : (x : Name) → IsName x → IsExp (var x)
unfolding IsExp
is_var x h = h

is_place : (x : Name) (k : ℕ) → IsName x → k < 2 ^ 63 → IsExp (place x k)
unfolding IsExp
is_place x k h l = (h, l)

is_counted : (o : ℕ) → o < 2 ^ 63 → IsExp (element_place (counted_by 1) o)
unfolding IsExp
is_counted o h = ((refl, omega arith), h)

is_value : (o : ℕ) → o < 2 ^ 63 → IsExp (element values (element_place (counted_by 1) o))
unfolding IsExp
is_value o h = ((refl, omega arith), ((refl, omega arith), h))

is_number : (z : ℤ) → negsuc 4294967295 ≤ℤ z → z ≤ℤ pos 4294967295 → IsExp (number z)
unfolding IsExp
is_number (pos n) l h = omega (arith, ints, h)
is_number (negsuc n) l h = omega (arith, ints, l)

is_bit : (b p : ℕ) → b - 1 < 2 ^ 63 → 2 ^ p < 2 ^ 63
    → IsExp (bin Add (mask_cell b) (bin Mul (bin Sub (natural 1) (bin Rem (bin Div (mask_cell b) (natural (2 ^ p))) (natural 2))) (natural (2 ^ p))))
unfolding IsExp
is_bit b p h l = ((mask_name, h), ((one_small, (((mask_name, h), l), two_small)), l))

is_branch : (g : Guard) → g.block - 1 < 2 ^ 63 → g.port < 2 ^ 63 → IsExp (is_taken g)
unfolding IsExp
is_branch g h l = (((refl, omega arith), h), l)

is_chosen : (k : ℕ) → k < 2 ^ 63 → IsExp (bin Lt (var chosen_name) (natural k))
unfolding IsExp
is_chosen k h = ((refl, omega arith), h)

none_pending : IsExp (bin Lt (var next_date) (natural 0))
unfolding IsExp
none_pending = ((refl, omega arith), zero_small)

too_late : IsExp (bin Gt (var next_date) (var until_name))
unfolding IsExp
too_late = ((refl, omega arith), (refl, omega arith))

chosen_place_is : (c : ℕ) → IsExp (chosen_place c)
chosen_place_is c = by_count (nat_lt 1 c)
  where
    by_count : (t : Bool) → IsExp (if t then var chosen_name else natural 0)
    by_count true = is_var chosen_name (refl, omega arith)
    by_count false = is_small 0 (omega arith)

is_date : IsExp (element dates (var chosen_name))
unfolding IsExp
is_date = ((refl, omega arith), (refl, omega arith))

is_dated : (c : ℕ) → IsExp (element dates (chosen_place c))
is_dated c = by_count (nat_lt 1 c)
  where
    by_count : (t : Bool) → IsExp (element dates (if t then var chosen_name else natural 0))
    by_count true = is_date
    by_count false = is_place dates 0 (refl, omega arith) (omega arith)

coming_is_name : IsName next_date
coming_is_name = (refl, omega arith)

-- an expression that fits at each depth from 2, or from 3, on
abbrev FitsFromTwo : Exp → Type 0
FitsFromTwo e = (d : ℕ) → Fits (suc (suc d)) e

abbrev FitsFromThree : Exp → Type 0
FitsFromThree e = (d : ℕ) → Fits (suc (suc (suc d))) e

number_fits : (k : ℕ) → k < 2 ^ 63 → FitsFromTwo (num (pos k))
number_fits k h d = h

-- a number behind a loop's counter
counter_fits : (k : ℕ) → k < 2 ^ 63 → FitsFromTwo (counted_from k)
counter_fits k h d = (scan_is_name, h)

one_deeper : (e : Exp) → FitsFromTwo e → FitsFromThree e
one_deeper e h d = h (suc d)

-- the first one of a group
group_first_fits : (e : Exp) → FitsFromTwo e → FitsFromThree (first_of e)
group_first_fits e h d = ((refl, omega arith), h d)

-- whether a source comes first, by its place
better_fits : (d : ℕ) (p : Exp) → FitsFromThree p → Fits (suc (suc (suc (suc (suc (suc (suc (suc d)))))))) (better_exp p)
better_fits d p h = (
  ((coming_is_name, zero_small), ((date_name, h (suc d)), coming_is_name)),
  (((date_name, h (suc d)), zero_small), (((date_name, h d), coming_is_name), ((order_name, h d), (order_name, chosen_is_name)))),
)

is_better : (p : Exp) → FitsFromThree p → IsExp (better_exp p)
unfolding IsExp
is_better p h = better_fits 56 p h

-- its place, and its date
at_place : (p : Exp) → FitsFromThree p → IsExp p
unfolding IsExp
at_place p h = h 61

date_fits : (d : ℕ) (p : Exp) → FitsFromThree p → Fits (suc (suc (suc (suc d)))) (element dates p)
date_fits d p h = (date_name, h d)

at_date : (p : Exp) → FitsFromThree p → IsExp (element dates p)
unfolding IsExp
at_date p h = date_fits 60 p h

-- whether it isn't known
is_unknown : (g : ℕ) → g < 2 ^ 63 → IsExp (unknown_exp g)
unfolding IsExp
is_unknown g h = (((refl, omega arith), h), zero_small)

sixteen_small : 16 < 2 ^ 63
sixteen_small = omega arith

chosen_group : IsExp (bin Div (var chosen_name) (natural 16))
unfolding IsExp
chosen_group = (chosen_is_name, sixteen_small)

only_group : IsExp (bin Div (natural 0) (natural 16))
unfolding IsExp
only_group = (zero_small, sixteen_small)

-- the number of the chosen source's group
is_group : (c : ℕ) → IsExp (bin Div (chosen_place c) (natural 16))
is_group c = by_count (nat_lt 1 c)
  where
    by_count : (t : Bool) → IsExp (bin Div (if t then var chosen_name else natural 0) (natural 16))
    by_count true = chosen_group
    by_count false = only_group

-- ---- texts

where_fits : (d : ℕ) (test : Bool) (t : Block) → (test ≡ true → BlockFits d t) → BlockFits d (text_where test t)
where_fits d true t h = h refl
where_fits d false t h = tt

only_fits : (d : ℕ) (e : Exp) (t : Block) → IsExp e → BlockFits d t → BlockFits (suc d) (only_where e t)
only_fits d e t x h = ((x, h, tt), tt)

texts_fit : {A : Type 0} (d : ℕ) (t : A → Block) (xs : List A) → ((x : A) → Contains xs x → BlockFits d (t x)) → BlockFits d (texts t xs)
texts_fit d t [] h = tt
texts_fit d t (x ∷ xs) h =
    joined_fits d (t x) (texts t xs) (h x (0, omega arith, refl)) (texts_fit d t xs (λ y c. h y (suc c.0, omega (arith, c.1), c.2)))

-- by how a list is split
texts_split : {A : Type 0} (d : ℕ) (t : A → Block) (all pre xs : List A) → all ≡ pre ++ xs
    → ((pre post : List A) (x : A) → all ≡ pre ++ x ∷ post → BlockFits d (t x)) → BlockFits d (texts t xs)
texts_split d t all pre [] e h = tt
texts_split d t all pre (x ∷ xs) e h =
    joined_fits d (t x) (texts t xs) (h pre xs x e) (texts_split d t all (pre ++ x ∷ []) xs (e ∙ sym (append_assoc pre (x ∷ []) xs)) h)

end_fits : (d : ℕ) (e : Exp) (word : EndWord) (rest : Block) → IsExp e → end_number word < 2 ^ 63 → BlockFits (suc d) rest → BlockFits (suc (suc d)) (end_or e word rest)
end_fits d e word rest x l h = ((x, (is_small (end_number word) l, tt), h), tt)

set_fits : (d : ℕ) (x : Name) (k : ℕ) (e : Exp) → IsName x → k < 2 ^ 63 → IsExp e → BlockFits (suc d) (one (set (cell x (natural k)) e))
set_fits d x k e h l q = (((h, is_small k l), q), tt)

is_due : IsExp (bin Add (var now_name) (var delay_name))
unfolding IsExp
is_due = ((refl, omega arith), (refl, omega arith))

is_late : IsExp (bin Ge (var delay_name) (natural 0))
unfolding IsExp
is_late = ((refl, omega arith), zero_small)

is_next : IsExp (bin Add (var programmed_name) (natural 1))
unfolding IsExp
is_next = ((refl, omega arith), one_small)

is_sum : (m : ℕ) → IsExp (natural m) → IsExp (bin Add (var now_name) (natural m))
unfolding IsExp
is_sum m x = ((refl, omega arith), x)

order_fits : (several : Bool) (d k : ℕ) → k < 2 ^ 63 → BlockFits (suc d) (if several then order_text k else done)
order_fits true d k h =
    ((((refl, omega arith), is_small k h), is_var programmed_name (refl, omega arith)), (((refl, omega arith), is_next), tt))
order_fits false d k h = tt

stale_fits : (grouped : Bool) (d k : ℕ) → k < 2 ^ 63 → BlockFits (suc d) (if grouped then stale_text k else done)
stale_fits true d k h = ((((refl, omega arith), is_small (k / 16) (omega (arith, h))), is_small 0 (omega arith)), tt)
stale_fits false d k h = tt

-- the order and the group of an entry
behind_fits : (table : DueTable) (d k : ℕ) → k < 2 ^ 63
    → BlockFits (suc d) (joined (if keeps_orders table then order_text k else done) (if keeps_groups table then stale_text k else done))
behind_fits table d k h =
    joined_fits (suc d) (if keeps_orders table then order_text k else done) (if keeps_groups table then stale_text k else done)
    (order_fits (keeps_orders table) d k h) (stale_fits (keeps_groups table) d k h)

due_fits : (table : DueTable) (d k m : ℕ) → k < 2 ^ 63 → IsExp (natural m) → BlockFits (suc d) (due_entry table k (natural m))
due_fits table d k m h x = ((((refl, omega arith), is_small k h), is_sum m x), behind_fits table d k h)

program_fits : (table : DueTable) (d k : ℕ) (e : Exp) → k < 2 ^ 63 → IsExp e → BlockFits (suc (suc d)) (program_text table k e done)
program_fits table d k e h x = (
  ((refl, omega arith), x),
  (
    (
      is_late,
      ((((refl, omega arith), is_small k h), is_due), behind_fits table d k h),
      tt,
    ),
    tt,
  ),
)

delayed_fits : (table : DueTable) (d k : ℕ) (e : Exp) → k < 2 ^ 63 → IsExp e → BlockFits (suc (suc d)) (delayed_text table k e)
delayed_fits table d k e h x =
    delayed_form (BlockFits (suc (suc d))) table k e (λ m q. due_fits table (suc d) k m h (subst IsExp q x))
    (program_fits table d k e h x)

-- ---- a source's row

-- what reaches a block is an activation output
is_output : (n : Parts) (net : IsNet n) (q : Feed) {b : ℕ} → Reaches n q b → IsActivationOutput n q.block q.port
is_output n net q (seeded b f) = net.wired.feeds_lead b f.input q f.within f.fed
is_output n net q (passed a b r i u) = is_output n net q r

module _ (n : Parts) (net : IsNet n) where
  is_typed : (b : ℕ) → IsBlock n b → typed (spec_of n b) ≡ true
  is_typed b is = net.typed_specs b is

  place_small : (b : ℕ) → IsBlock n b → b - 1 < 2 ^ 63
  place_small b is = omega (arith, is.most, net.wired.few)

  number_small : (b : ℕ) → IsBlock n b → b < 2 ^ 63
  number_small b is = omega (arith, is.most, net.wired.few)

  active_fits : (b : ℕ) → IsBlock n b → IsExp (is_active b)
  active_fits b is = is_place actives (b - 1) (refl, omega arith) (place_small b is)

  power_small : (p k : ℕ) → p < k → k ≤ 8 → 2 ^ p < 2 ^ 63
  power_small p k l m = let h = few_small p (omega (arith, l, m)) in omega (arith, h)

  mark_fits : (d b : ℕ) → IsBlock n b → BlockFits (suc d) (mark b)
  mark_fits d b is = set_fits d actives (b - 1) (natural 1) (refl, omega arith) (place_small b is) (is_small 1 (omega arith))

  bits_fit : (d b m : ℕ) → IsBlock n b → reads_mask (spec_of n b).kind ≡ true → BlockFits (suc d) (with_bits b m (spec_of n b).evtin)
  bits_fit d b m is reads = upto_fits (suc d) (λ p. text_where (nat_eq (bit_at m p) 1) (with_bit b p)) (spec_of n b).evtin (λ p l.
      where_fits (suc d) (nat_eq (bit_at m p) 1) (with_bit b p) (λ e.
      set_fits d masks (b - 1) _ (refl, omega arith) (place_small b is)
      (is_bit b p (place_small b is) (power_small p (spec_of n b).evtin l (few_inputs (spec_of n b) (is_typed b is) reads)))))

  -- the test of a branch of a block of the net
  taken_fits : (g : Guard) → IsActivationOutput n g.block g.port → IsExp (is_taken g)
  taken_fits g out =
      let few = few_outputs (spec_of n g.block) (is_typed g.block out.block) in
      is_branch g (place_small g.block out.block) (omega (arith, few, out.most))

  guard_fits : (d : ℕ) (e : Entry) (g : Guard) → IsBlock n e.block → IsActivationOutput n g.block g.port → BlockFits (suc (suc d)) (guard_text n e g)
  guard_fits d e g is out =
      let bits = with_bits e.block g.mask (spec_of n e.block).evtin in (
        (
          taken_fits g out,
          joined_fits (suc d) (text_where (not e.always) (mark e.block)) (text_where (reads n e) bits)
              (where_fits (suc d) (not e.always) (mark e.block) (λ q. mark_fits d e.block is))
              (where_fits (suc d) (reads n e) bits (λ q. bits_fit d e.block g.mask is q)),
          tt,
        ),
        tt,
      )

  call_fits : (d b : ℕ) → IsBlock n b → BlockFits (suc d) (call_text n b)
  call_fits d b is = (
    (refl, omega (arith, is.most, net.wired.few)),
    where_fits (suc d) (is_sync (spec_of n b).kind) (one (set (cell branches (natural (b - 1))) (branch_expression (spec_of n b) (places_of n b)))) (λ q.
        set_fits d branches (b - 1) (branch_expression (spec_of n b) (places_of n b)) (refl, omega arith) (place_small b is)
        (branch_fits_all (spec_of n b) (places_of n b) (is_typed b is) q (in_bounds n net b is))),
  )

  -- the test of a block that takes part so
  abbrev TestFits : Part → Type 0
  TestFits (Taken q) = IsExp (has_taken q)
  TestFits _ = Unit {0}

  -- a text that fits at both depths, also under a test
  part_fits : (p : Part) → TestFits p → (b : ℕ) → IsBlock n b → (t : Block) → BlockFits 16 t → BlockFits 15 t → BlockFits 16 (where_part p b t)
  part_fits Absent test b is t h k = tt
  part_fits Sure test b is t h k = h
  part_fits Marked test b is t h k = ((active_fits b is, k, tt), tt)
  part_fits (Taken q) test b is t h k = ((test, k, tt), tt)

  cleared_fits : (e : Entry) → IsBlock n e.block → BlockFits 16 (cleared_text n e)
  cleared_fits e is =
      let active = one (set (cell actives (natural (e.block - 1))) (natural 0)) in
      let branch = one (set (cell branches (natural (e.block - 1))) (natural 0)) in
      joined_fits 16 (text_where (is_marked (part_by n e)) active) (text_where (is_sync (spec_of n e.block).kind) branch)
      (where_fits 16 (is_marked (part_by n e)) active (λ q.
      set_fits 15 actives (e.block - 1) (natural 0) (refl, omega arith) (place_small e.block is) (is_small 0 (omega arith))))
      (where_fits 16 (is_sync (spec_of n e.block).kind) branch (λ q.
      set_fits 15 branches (e.block - 1) (natural 0) (refl, omega arith) (place_small e.block is) (is_small 0 (omega arith))))

  module _ (own : Bool) (s : Source) (free : IsLoopFree n s) (row : List Entry) (is : IsRow n s row) where
    out : (e : Entry) → IsEntry n s e → (g : Guard) → Contains e.guards g → IsActivationOutput n g.block g.port
    out e entry g c = is_output n net (branch_of g) ((entry.guards_are g).0 c).reaches

    parts_fit : (b : ℕ) → TestFits (part_in n row b)
    parts_fit b = by_row n row b TestFits tt (λ e c. by_entry n e TestFits tt tt (λ g k. taken_fits g (out e (All-contains (IsEntry n s) row e is.entries c) g k)))

    entry_fits : (pre post : List Entry) (e : Entry) → row ≡ pre ++ e ∷ post → BlockFits 16 (entry_text own n e)
    entry_fits pre post e split =
        let block : IsBlock n e.block = block_here n s net free row is pre post e split in
        let mask : e.mask < 2 ^ (spec_of n e.block).evtin = mask_few n s net free row is pre post e split in
        let entry : IsEntry n s e = entry_is pre post e split in
        let few : (reads n e) ≡ true → e.mask < 2 ^ 63 = λ q.
        (let most = few_small (spec_of n e.block).evtin (few_inputs (spec_of n e.block) (is_typed e.block block) q) in omega (arith, most, mask)) in
        joined_fits 16 (text_where (not own && e.always) (mark e.block)) (joined (masked n e) (joined (guarded own n e) (called own n e)))
        (where_fits 16 (not own && e.always) (mark e.block) (λ q. mark_fits 15 e.block block))
        (joined_fits 16 (masked n e) (joined (guarded own n e) (called own n e))
        (where_fits 16 (reads n e) (one (set (cell masks (natural (e.block - 1))) (natural e.mask))) (λ q.
        set_fits 15 masks (e.block - 1) (natural e.mask) (refl, omega arith) (place_small e.block block) (is_small e.mask (few q))))
        (joined_fits 16 (guarded own n e) (called own n e)
        (where_fits 16 (is_marked (entry_part own n e) || reads n e) (texts (guard_text n e) e.guards) (λ q.
        texts_fit 16 (guard_text n e) e.guards (λ g c. guard_fits 14 e g block (out e entry g c))))
        (part_fits (entry_part own n e) (by_call own n e TestFits tt tt (λ g c. taken_fits g (out e entry g c))) e.block block (call_text n e.block)
        (call_fits 15 e.block block) (call_fits 14 e.block block))))
      where
        entry_is : (pre post : List Entry) (e : Entry) → row ≡ pre ++ e ∷ post → IsEntry n s e
        entry_is pre post e split = All-contains (IsEntry n s) row e is.entries (subst (λ es. Contains es e) (sym split) (Contains-mid pre post e))

    row_fits : BlockFits 16 (joined (text_where own (texts (cleared_text n) row)) (texts (entry_text own n) row))
    row_fits =
        joined_fits 16 (text_where own (texts (cleared_text n) row)) (texts (entry_text own n) row)
        (where_fits 16 own (texts (cleared_text n) row) (λ q.
        texts_split 16 (cleared_text n) row [] row refl (λ pre post e split. cleared_fits e (block_here n s net free row is pre post e split))))
        (texts_split 16 (entry_text own n) row [] row refl entry_fits)

  header_fits : (s : Source) → IsSource n s → BlockFits 16 (header_text s)
  header_fits Start is = (tt, tt)
  header_fits (Port q) is =
      let few = few_outputs (spec_of n q.block) (is_typed q.block is.0.block) in
      ((is_var now_name (refl, omega arith), is_small q.block (number_small q.block is.0.block), is_small q.port (omega (arith, few, is.0.most))), tt)

  source_is : (i : ℕ) → i < length (sources_of n) → IsSource n (source_of n i)
  source_is i l = (sources_are n (source_of n i)).0 (Contains-get_or (sources_of n) i Start l)

  -- ---- the other functions

  elements_fit : (d b p e o m : ℕ) → b < 2 ^ 63 → p < 2 ^ 63 → e + m < 2 ^ 63 → o + m < 2 ^ 63 → BlockFits (suc d) (elements_shown b p e o m)
  elements_fit d b p e o zero hb hp he ho = tt
  elements_fit d b p e o (suc m) hb hp he ho = (
    (is_small b hb, is_small p hp, is_small e (omega (arith, he)), is_place values o (refl, omega arith) (omega (arith, ho))),
    elements_fit d b p (e + 1) (o + 1) m hb hp (omega (arith, he)) (omega (arith, ho)),
  )

  output_fits : (d b p o m : ℕ) → b < 2 ^ 63 → p < 2 ^ 63 → 1 + m < 2 ^ 63 → o + m < 2 ^ 63 → BlockFits (suc (suc d)) (output_shown b p o m)
  output_fits d b p o m hb hp hm ho = by_size (is_looped m)
    where
      by_size : (t : Bool) → BlockFits (suc (suc d)) (if t then one (looped_shown b p o m) else elements_shown b p 1 o m)
      by_size true =
          (((refl, omega arith), omega (arith, hm), ((is_small b hb, is_small p hp, is_counted 1 (omega arith), is_value o (omega (arith, ho))), tt)), tt)
      by_size false = elements_fit (suc d) b p 1 o m hb hp hm ho

  outputs_fit : (d b p o : ℕ) (qs : List Output) → b < 2 ^ 63 → p + length qs < 2 ^ 63 → o + total qs < 2 ^ 62
      → BlockFits (suc (suc d)) (outputs_shown b p o qs)
  outputs_fit d b p o [] hb hp ho = tt
  outputs_fit d b p o (q ∷ qs) hb hp ho =
      joined_fits (suc (suc d)) (output_shown b p o (elements q)) (outputs_shown b (p + 1) (o + elements q) qs)
      (output_fits d b p o (elements q) hb (omega (arith, hp)) (omega (arith, ho)) (omega (arith, ho)))
      (outputs_fit d b (p + 1) (o + elements q) qs hb (omega (arith, hp)) (omega (arith, ho)))

  module _ (part : ℕ → Part) (tests : (b : ℕ) → TestFits (part b)) where
    values_fit : (b : ℕ) → IsBlock n b → BlockFits 16 (values_shown n part b)
    values_fit b is =
        let outs = few_outs (spec_of n b) (is_typed b is) in
        let within = block_within n b is in
        let shown = outputs_shown b 1 (start_of n b) (spec_of n b).outs in
        where_fits 16 (nat_lt 0 (length (spec_of n b).outs)) (where_part (part b) b shown) (λ q.
        part_fits (part b) (tests b) b is shown
        (outputs_fit 14 b 1 (start_of n b) (spec_of n b).outs (number_small b is) (omega (arith, outs)) (omega (arith, within, net.small)))
        (outputs_fit 13 b 1 (start_of n b) (spec_of n b).outs (number_small b is) (omega (arith, outs)) (omega (arith, within, net.small))))

    delay_fits : (i : ℕ) → i ≤ 4096 → (s : Source) → IsSource n s → BlockFits 16 (delay_text n part i s)
    delay_fits i l Start is = tt
    delay_fits i l (Port q) is =
        let block = is.0.block in
        let e = delay_expression (spec_of n q.block) (places_of n q.block) in
        let x = delay_fits_all (spec_of n q.block) (places_of n q.block) (is_typed q.block block) (port_has_delay n net q is) (in_bounds n net q.block block) in
        part_fits (part q.block) (tests q.block) q.block block (delayed_text (due_table (port_count n)) (i - 1) e)
        (delayed_fits (due_table (port_count n)) 14 (i - 1) e (omega (arith, l)) x) (delayed_fits (due_table (port_count n)) 13 (i - 1) e (omega (arith, l)) x)

    state_fits : (b : ℕ) → IsBlock n b → BlockFits 16 (state_text n part b)
    state_fits b is =
        let t = next_text (spec_of n b) (places_of n b) in
        where_fits 16 (has_state (spec_of n b).kind) (where_part (part b) b t) (λ q.
        part_fits (part b) (tests b) b is t (next_fits (spec_of n b) (places_of n b) (in_bounds n net b is) next_reads_law next_along_reads_law (is_typed b is) 14)
        (next_fits (spec_of n b) (places_of n b) (in_bounds n net b is) next_reads_law next_along_reads_law (is_typed b is) 13))

    halt_fits : (b : ℕ) → IsBlock n b → BlockFits 16 (halt_text n part b)
    halt_fits b is =
        let t = one (set (scalar halt_name) (natural 1)) in
        where_fits 16 (is_halt (spec_of n b).kind) (where_part (part b) b t) (λ q.
        part_fits (part b) (tests b) b is t (((refl, omega arith), is_small 1 (omega arith)), tt) (((refl, omega arith), is_small 1 (omega arith)), tt))

  inside : (k : ℕ) → k < length n.specs → IsBlock n (suc k)
  inside k l = record { least = omega arith; most = omega (arith, l) }

  settle_fits : (part : ℕ → Part) → ((b : ℕ) → TestFits (part b)) → BlockFits 16 (settle_text n part)
  settle_fits part tests =
      let few = few_ports n net in
      joined_fits 16 (all_shown n part) (joined (all_delays n part) (joined (all_states n part) (all_halts n part)))
      (upto_fits 16 (λ k. values_shown n part (suc k)) (length n.specs) (λ k l. values_fit part tests (suc k) (inside k l)))
      (joined_fits 16 (all_delays n part) (joined (all_states n part) (all_halts n part))
      (upto_fits 16 (λ k. delay_text n part (suc k) (source_of n (suc k))) (port_count n) (λ k l.
      delay_fits part tests (suc k) (omega (arith, l, few)) (source_of n (suc k)) (source_is (suc k) (omega (arith, l)))))
      (joined_fits 16 (all_states n part) (all_halts n part)
      (upto_fits 16 (λ k. state_text n part (suc k)) (length n.specs) (λ k l. state_fits part tests (suc k) (inside k l)))
      (upto_fits 16 (λ k. halt_text n part (suc k)) (length n.specs) (λ k l. halt_fits part tests (suc k) (inside k l)))))

  following_fits : (own : Bool) (row : List Entry) → ((b : ℕ) → TestFits (part_in n row b)) → BlockFits 16 (following_text own n row)
  following_fits true row tests = settle_fits (part_in n row) tests
  following_fits false row tests = ((refl, omega arith), tt)

  source_fits : (rows : List (List Entry)) → AreLoopFree n → IsSchedule n rows → (i : ℕ) → i < length (sources_of n)
      → BlockFits 16 (source_function n rows i).body
  source_fits rows free schedule i l =
      let own = has_own n rows in
      let row = slice_index_or rows i [] in
      let is = schedule.each i (omega (arith, l, schedule.enough)) in
      joined_fits 16 (pass_text own n (source_of n i) row) (following_text own n row)
      (joined_fits 16 (header_text (source_of n i)) (joined (text_where own (texts (cleared_text n) row)) (texts (entry_text own n) row))
      (header_fits (source_of n i) (source_is i l)) (row_fits own (source_of n i) (free i l) row is))
      (following_fits own row (parts_fit own (source_of n i) (free i l) row is))

  cell_fits : (d : ℕ) (x : Name) → IsName x → BlockFits (suc d) (one (set (cell x (var scan_name)) (natural 0)))
  cell_fits d x h = (((h, is_var scan_name (refl, omega arith)), is_small 0 (omega arith)), tt)

  clear_fits : BlockFits 16 (clear_text n)
  clear_fits = (
    (
      (refl, omega arith),
      omega (arith, net.wired.few),
      (
        (cell_fits 14 actives (refl, omega arith)).0,
        where_fits 15 (has_sync n) (one (set (cell branches (var scan_name)) (natural 0)))
            (λ q. cell_fits 14 branches (refl, omega arith)),
      ),
    ),
    tt,
  )

  minus_one : IsExp (number (negsuc 0))
  minus_one = is_number (negsuc 0) (omega (arith, ints)) (omega (arith, ints))

  source_turn_fits : (d : ℕ) (p : Exp) → FitsFromThree p → BlockFits (suc (suc d)) (choose_turn p)
  source_turn_fits d p h = (
    (
      is_better p h,
      (((refl, omega arith), at_place p h), (((refl, omega arith), at_date p h), tt)),
      tt,
    ),
    tt,
  )

  turns_fit : (d : ℕ) (told : Exp → Exp) → ((e : Exp) → FitsFromTwo e → FitsFromThree (told e)) → (k m : ℕ) → k + m < 2 ^ 63
      → BlockFits (suc (suc (suc d))) (turns_text told k m)
  turns_fit d told is k m h = by_size (nat_lt 7 m)
    where
      by_size : (many : Bool) → BlockFits (suc (suc (suc d))) (if many then next (loop scan_name (bounds.Num (pos m)) (choose_turn (told (counted_from k)))) done
          else upto (λ j. choose_turn (told (num (pos (k + j))))) m)
      by_size true = (
        ((refl, omega arith), omega (arith, h), source_turn_fits d (told (counted_from k)) (is (counted_from k) (counter_fits k (omega (arith, h))))),
        tt,
      )
      by_size false =
          upto_fits (suc (suc (suc d))) (λ j. choose_turn (told (num (pos (k + j))))) m (λ j l.
          source_turn_fits (suc d) (told (num (pos (k + j)))) (is (num (pos (k + j))) (number_fits (k + j) (omega (arith, l, h)))))

  span_fits : (d k m : ℕ) → suc k + m < 2 ^ 63 → BlockFits (suc (suc (suc d))) (span_text k m)
  span_fits d k m h = (
    ((refl, omega arith), is_small k (omega (arith, h))),
    (
      ((refl, omega arith), is_place dates k (refl, omega arith) (omega (arith, h))),
      turns_fit d (λ e. e) one_deeper (suc k) m h,
    ),
  )

  group_fits : (c g : ℕ) → c ≤ 2048 → g < 2048 → BlockFits 16 (group_text c g)
  group_fits c g few small =
      let known = next (set (cell firsts (num (pos g))) (var chosen_name)) (one (set (cell fresh (num (pos g))) (num (pos 1)))) in (
        (
          is_unknown g (omega (arith, small)),
          joined_fits 15 (span_text (16 * g) (others_in c g)) known (span_fits 12 (16 * g) (others_in c g) (omega (arith, small))) (
            (((refl, omega arith), is_small g (omega (arith, small))), is_var chosen_name (refl, omega arith)),
            ((((refl, omega arith), is_small g (omega (arith, small))), is_small 1 (omega arith)), tt),
          ),
          tt,
        ),
        tt,
      )

  groups_fit : (c : ℕ) → c ≤ 2048 → BlockFits 16 (groups_text c)
  groups_fit c few =
      joined_fits 16 (upto (group_text c) (group_count c))
      (next (set (scalar chosen_name) (first_of (num (pos 0)))) (next (set (scalar next_date) (element dates (var chosen_name)))
      (turns_text first_of 1 (group_count c - 1))))
      (upto_fits 16 (group_text c) (group_count c) (λ g l. group_fits c g few (omega (arith, l, few)))) (
        ((refl, omega arith), is_place firsts 0 (refl, omega arith) (omega arith)),
        (((refl, omega arith), is_date), turns_fit 13 first_of group_first_fits 1 (group_count c - 1) (omega (arith, few))),
      )

  choose_fits : BlockFits 16 (choose_text n)
  choose_fits = by_count (nat_lt 1 (port_count n))
    where
      by_size : (t : Bool) → BlockFits 16 (if t then groups_text (port_count n) else span_text 0 (port_count n - 1))
      by_size true = groups_fit (port_count n) (few_ports n net)
      by_size false = span_fits 13 0 (port_count n - 1) (let few = few_ports n net in omega (arith, few))

      by_count : (t : Bool) → BlockFits 16 (if t then choose_of (port_count n) else one (set (scalar next_date) (place dates 0)))
      by_count true = by_size (are_grouped (port_count n))
      by_count false = (((refl, omega arith), is_place dates 0 (refl, omega arith) (omega arith)), tt)

  -- ---- sci_main

  -- as many levels as decisions by halves take
  abbrev levels : ℕ → ℕ → ℕ
  levels d zero = suc d
  levels d (suc k) = suc (levels d k)

  levels_more : (d k : ℕ) → levels (suc d) k ≡ suc (levels d k)
  levels_more d zero = refl
  levels_more d (suc k) = ap suc (levels_more d k)

  abbrev Fit : ℕ → Type 0
  Fit k = (d i c : ℕ) → i < 2048 → i + c ≤ 2048 → BlockFits (levels d k) (one (react_step k i c))

  react_fits : (k : ℕ) → Fit k
  react_fits zero d i c l m = subst (λ (s : Statement). BlockFits (suc d) (one s)) (sym (react_last i c)) ((refl, omega (arith, l)), tt)
  react_fits (suc k) d i c l m =
      subst (λ (s : Statement). BlockFits (suc (levels d k)) (one s)) (sym (react_more k i c)) (by_count (react_fits k) (nat_lt (2 ^ k) c) refl)
    where
      by_count : Fit k → (t : Bool) → nat_lt (2 ^ k) c ≡ t → BlockFits (suc (levels d k))
          (one (if t then in_first i (2 ^ k) (react_step k i (2 ^ k)) (react_step k (i + 2 ^ k) (c - 2 ^ k)) else react_step k i c))
      by_count go true q =
          let more = ltb-true (2 ^ k) c q in (
            (
              is_chosen (i + 2 ^ k) (omega (arith, more, m)),
              go d i (2 ^ k) l (omega (arith, more, m)),
              go d (i + 2 ^ k) (c - 2 ^ k) (omega (arith, more, m)) (omega (arith, more, m)),
            ),
            tt,
          )
      by_count go false q = subst (λ (j : ℕ). BlockFits j (one (react_step k i c))) (levels_more d k) (go (suc d) i c l m)

  fire_fits : (own : Bool) (d : ℕ) → BlockFits (levels d react_deep) (fire_text own n)
  fire_fits own d =
      let stale = one (set (cell fresh (bin Div (chosen_place (port_count n)) (natural 16))) (natural 0)) in
      let clears = text_where (not own) (one (call clear_name)) in
      let rest = next (react_step react_deep 0 (port_count n)) (one (call choose_name)) in (
        ((refl, omega arith), is_dated (port_count n)),
        (
          (((refl, omega arith), chosen_place_is (port_count n)), minus_one),
          joined_fits (levels d react_deep) (text_where (are_grouped (port_count n)) stale) (joined clears rest)
              (where_fits (levels d react_deep) (are_grouped (port_count n)) stale (λ q.
              ((((refl, omega arith), is_group (port_count n)), is_small 0 (omega arith)), tt)))
              (joined_fits (levels d react_deep) clears rest (where_fits (levels d react_deep) (not own) (one (call clear_name)) (λ q. ((refl, omega arith), tt))) (
                (react_fits react_deep d 0 (port_count n) (omega arith) (let few = few_ports n net in omega (arith, few))).0,
                ((refl, omega arith), tt),
              )),
        ),
      )

  event_fits : (own : Bool) (d : ℕ) → BlockFits (suc (suc (levels d react_deep))) (event_text own n)
  event_fits own d = by_ports (nat_lt 0 (port_count n))
    where
      by_ports : (t : Bool) → BlockFits (suc (suc (levels d react_deep))) (if t then end_or (bin Lt (var next_date) (natural 0)) ends.Empty
          (end_or (bin Gt (var next_date) (var until_name)) ends.Until (fire_text own n))
          else one (tell (finish (natural 2))))
      by_ports true = (
        (
          none_pending,
          (is_small 2 (omega arith), tt),
          ((too_late, (is_small 3 (omega arith), tt), fire_fits own d), tt),
        ),
        tt,
      )
      by_ports false = (is_small 2 (omega arith), tt)

  -- behind the test whether a HALT_f was active, where there is one
  halted_fits : (t : Bool) (rest : Block) → BlockFits 15 rest → BlockFits 16 rest → BlockFits 16 (if t then end_or (var halt_name) ends.Halt rest else rest)
  halted_fits true rest h k = end_fits 14 (var halt_name) ends.Halt rest (is_var halt_name (refl, omega arith)) (omega arith) h
  halted_fits false rest h k = k

  turn_fits : (own : Bool) → BlockFits 16 (turn_text own n)
  turn_fits own = halted_fits (has_halt n) (event_text own n) (event_fits own 1) (event_fits own 2)

  ending_fits : BlockFits 16 (ending n)
  ending_fits = halted_fits (has_halt n) (one (tell (finish (natural 1)))) (is_small 1 (omega arith), tt) (is_small 1 (omega arith), tt)

  begun_fits : (a : Name) (k : ℕ) (z : ℤ) → IsName a → k < 2 ^ 63 → negsuc 4294967295 ≤ℤ z → z ≤ℤ pos 4294967295 → BlockFits 16 (begun_text a k z)
  begun_fits a k z h l lo hi = where_fits 16 (not (int_eq z (pos 0))) (one (set (cell a (natural k)) (number z)))
      (λ q. set_fits 15 a k (number z) h l (is_number z lo hi))

  list_fits : (a : Name) (k : ℕ) (zs : List ℤ) → IsName a → k + length zs < 2 ^ 63
      → ((j : ℕ) → j < length zs → (negsuc 4294967295 ≤ℤ at zs j) × (at zs j ≤ℤ pos 4294967295)) → BlockFits 16 (list_begun a k zs)
  list_fits a k [] h l r = tt
  list_fits a k (z ∷ zs) h l r =
      let first = r 0 (omega arith) in
      joined_fits 16 (begun_text a k z) (list_begun a (k + 1) zs) (begun_fits a k z h (omega (arith, l)) first.0 first.1)
      (list_fits a (k + 1) zs h (omega (arith, l)) (λ j q. r (suc j) (omega (arith, q))))

  held_fits : (b : ℕ) → IsBlock n b → BlockFits 16 (held_begun n b)
  held_fits b is =
      let law = (first_held_law (spec_of n b) (is_typed b is)).1 in
      let within = block_within n b is in
      list_fits values (start_of n b) (first_held (spec_of n b)) (refl, omega arith) (omega (arith, within, net.small, law.enough))
      (λ j l. is_spelled (type_at (spec_of n b).outs j) (at (first_held (spec_of n b)) j) (law.in_range j (omega (arith, l, law.enough))))

  first_fits : (b : ℕ) → IsBlock n b → BlockFits 16 (state_begun n b)
  first_fits b is =
      let law = (first_held_law (spec_of n b) (is_typed b is)).0 in
      let within = state_within n net b is in
      let few = few_all_states n net in
      list_fits states (places_of n b).state (first_state (spec_of n b)) (refl, omega arith) (omega (arith, within, few, law.enough))
      (λ j l. is_spelled (out_type (spec_of n b)) (at (first_state (spec_of n b)) j) (law.in_range j (omega (arith, l, law.enough))))

  programmed_few : (k : ℕ) → programmed_before n k ≤ k
  programmed_few zero = omega arith
  programmed_few (suc k) = let rest = programmed_few k in by_test (is_programmed (firing_at n (source_of n k))) rest
    where
      by_test : (t : Bool) → programmed_before n k ≤ k → programmed_before n k + (if t then 1 else 0) ≤ suc k
      by_test true h = omega (arith, h)
      by_test false h = omega (arith, h)

  firing_fits : (i o : ℕ) (z : ℤ) → i ≤ 4096 → o ≤ 4096 → z ≤ℤ pos 2147483647 → BlockFits 16 (firing_begun i o z)
  firing_fits i o (pos d) hi ho hz =
      joined_fits 16 (begun_text dates (i - 1) (pos d)) (begun_text orders (i - 1) (pos o))
      (begun_fits dates (i - 1) (pos d) (refl, omega arith) (omega (arith, hi)) (omega (arith, ints)) (omega (arith, ints, hz)))
      (begun_fits orders (i - 1) (pos o) (refl, omega arith) (omega (arith, hi)) (omega (arith, ints)) (omega (arith, ints, ho)))
  firing_fits i o (negsuc d) hi ho hz = set_fits 15 dates (i - 1) (number (negsuc 0)) (refl, omega arith) (omega (arith, hi)) minus_one

  firing_soon : (s : Source) → IsSource n s → firing_at n s ≤ℤ pos 2147483647
  firing_soon Start is = omega (arith, ints)
  firing_soon (Port q) is = typed_firing (spec_of n q.block) q.port (is_typed q.block is.0.block)

  begun_source_fits : (k : ℕ) → k < port_count n → BlockFits 16 (source_begun n (suc k))
  begun_source_fits k l =
      let few = few_ports n net in
      let programmed = programmed_few (suc k) in
      firing_fits (suc k) (programmed_before n (suc k)) (firing_at n (source_of n (suc k))) (omega (arith, l, few)) (omega (arith, programmed, l, few))
      (firing_soon (source_of n (suc k)) (source_is (suc k) (omega (arith, l))))

  outset_fits : BlockFits 16 (outset_text n)
  outset_fits =
      let few = few_ports n net in
      let programmed = programmed_few (length (sources_of n)) in
      joined_fits 16 (all_held n) (joined (first_states n) (joined (all_begun n) (where_ports n)))
      (upto_fits 16 (λ k. held_begun n (suc k)) (length n.specs) (λ k l. held_fits (suc k) (inside k l)))
      (joined_fits 16 (first_states n) (joined (all_begun n) (where_ports n))
      (upto_fits 16 (λ k. state_begun n (suc k)) (length n.specs) (λ k l. first_fits (suc k) (inside k l)))
      (joined_fits 16 (all_begun n) (where_ports n) (upto_fits 16 (λ k. source_begun n (suc k)) (port_count n) begun_source_fits)
      (where_fits 16 (nat_lt 0 (port_count n)) (clock_begun n) (λ q.
      joined_fits 16 (text_where (nat_lt 1 (port_count n)) (count_begun n)) until_asked
      (where_fits 16 (nat_lt 1 (port_count n)) (count_begun n) (λ m.
      (((refl, omega arith), is_small (programmed_before n (length (sources_of n))) (omega (arith, programmed, few))), tt)))
      (((refl, omega arith), tt), tt)))))

  first_fits_here : BlockFits 16 (first_text n)
  first_fits_here = by_ports (nat_lt 0 (port_count n))
    where
      by_ports : (t : Bool) → BlockFits 16 (if t then one (call choose_name) else one (set (scalar next_date) (number (negsuc 0))))
      by_ports true = ((refl, omega arith), tt)
      by_ports false = (((refl, omega arith), minus_one), tt)

  begin_fits : BlockFits 16 (begin_text n)
  begin_fits =
      joined_fits 16 (outset_text n) (starting n) outset_fits
      (((refl, omega arith), tt), ((refl, omega arith), first_fits_here))

  main_fits : BlockFits 16 (main_text n)
  main_fits =
      joined_fits 16 (begin_text n) (running n) begin_fits (
        ((refl, omega arith), (refl, omega arith), ((refl, omega arith), tt)),
        ending_fits,
      )

  -- ---- the program

  is_body : (b : Block) → BlockFits 16 b → IsBody b
  unfolding IsBody
  is_body b h = h

  all_both : {A : Type 0} (P : A → Type 0) (xs ys : List A) → All P xs → All P ys → All P (xs ++ ys)
  all_both P [] ys p q = q
  all_both P (x ∷ xs) ys p q = All-cons P x (xs ++ ys) (All-head P x xs p) (all_both P xs ys (All-tail P x xs p) q)

  all_where : (test : Bool) (ds : List Declared) → All IsDeclared ds → All IsDeclared (declared_where test ds)
  all_where true ds h = h
  all_where false ds h = All-nil IsDeclared

  functions_fit : (test : Bool) (fs : List Function) → All IsFunction fs → All IsFunction (functions_where test fs)
  functions_fit true fs h = h
  functions_fit false fs h = All-nil IsFunction

  upto_functions_fit : (f : ℕ → Function) (m : ℕ) → ((k : ℕ) → k < m → IsFunction (f k)) → All IsFunction (functions_upto f m)
  upto_functions_fit f zero h = All-nil IsFunction
  upto_functions_fit f (suc m) h =
      all_both IsFunction (functions_upto f m) (f m ∷ []) (upto_functions_fit f m (λ k l. h k (omega (arith, l))))
      (All-cons IsFunction (f m) [] (h m (omega arith)) (All-nil IsFunction))

  is_array_declared : (x : Name) (k : ℕ) → IsName x → k ≤ 1048576 → IsDeclared (array x k)
  is_array_declared x k h l = (h, (omega arith, omega (arith, l)))

  array_then : (x : Name) (k : ℕ) (ds : List Declared) → IsName x → k ≤ 1048576 → All IsDeclared ds → All IsDeclared (array x k ∷ ds)
  array_then x k ds h l r = All-cons IsDeclared (array x k) ds (is_array_declared x k h l) r

  scalar_then : (x : Name) (ds : List Declared) → IsName x → All IsDeclared ds → All IsDeclared (a_scalar x ∷ ds)
  scalar_then x ds h r = All-cons IsDeclared (a_scalar x) ds (h, tt) r

  scratch_fit : (k : ℕ) → k ≤ 5 → All IsDeclared (scratch_declared k)
  scratch_fit zero l = All-nil IsDeclared
  scratch_fit (suc k) l =
      all_both IsDeclared (scratch_declared k) _ (scratch_fit k (omega (arith, l)))
      (scalar_then (scratch_name (suc k)) [] (refl, omega (arith, l)) (All-nil IsDeclared))

  events_fit : (c : ℕ) → All IsDeclared (event_scalars c)
  events_fit c =
      let counted : List Declared = declared_where (nat_lt 1 c) (a_scalar programmed_name ∷ []) in
      scalar_then until_name (a_scalar now_name ∷ a_scalar chosen_name ∷ a_scalar delay_name ∷ a_scalar scan_name ∷ counted) (refl, omega arith)
      (scalar_then now_name (a_scalar chosen_name ∷ a_scalar delay_name ∷ a_scalar scan_name ∷ counted) (refl, omega arith)
      (scalar_then chosen_name (a_scalar delay_name ∷ a_scalar scan_name ∷ counted) (refl, omega arith)
      (scalar_then delay_name (a_scalar scan_name ∷ counted) (refl, omega arith)
      (scalar_then scan_name counted (refl, omega arith)
      (all_where (nat_lt 1 c) (a_scalar programmed_name ∷ []) (scalar_then programmed_name [] (refl, omega arith) (All-nil IsDeclared)))))))

  declarations_fit : (rows : List (List Entry)) → All IsDeclared (declarations n rows)
  declarations_fit rows =
      let e : All IsDeclared [] = All-nil IsDeclared in
      let blocks : length n.specs ≤ 1048576 = omega (arith, net.wired.few) in
      let ports : port_count n ≤ 1048576 = (let few = few_ports n net in omega (arith, few)) in
      let groups : group_count (port_count n) ≤ 1048576 = (let few = few_ports n net in omega (arith, few)) in
      let of_orders = declared_where (nat_lt 1 (port_count n)) (array orders (port_count n) ∷ []) in
      let group_arrays = array fresh (group_count (port_count n)) ∷ array firsts (group_count (port_count n)) ∷ [] in
      let size : states_before n.specs (length n.specs) ≤ 1048576 = (let few = few_all_states n net in omega (arith, few)) in
      let d1 : All IsDeclared (value_arrays n) =
      array_then values (all_elements n.specs) (array states (states_before n.specs (length n.specs)) ∷ array masks (length n.specs) ∷ [])
      (refl, omega arith) (omega (arith, net.small))
      (array_then states (states_before n.specs (length n.specs)) (array masks (length n.specs) ∷ []) (refl, omega arith) size
      (array_then masks (length n.specs) [] (refl, omega arith) blocks e)) in
      let d2 = all_where (nat_lt 0 (length n.specs)) (active_array n) (array_then actives (length n.specs) [] (refl, omega arith) blocks e) in
      let d3 = all_where (has_sync n) (branch_array n) (array_then branches (length n.specs) [] (refl, omega arith) blocks e) in
      let d4 = all_where (nat_lt 0 (port_count n)) (due_arrays (port_count n))
      (array_then dates (port_count n) (of_orders ++ declared_where (are_grouped (port_count n)) group_arrays) (refl, omega arith) ports
      (all_both IsDeclared of_orders (declared_where (are_grouped (port_count n)) group_arrays)
      (all_where (nat_lt 1 (port_count n)) (array orders (port_count n) ∷ []) (array_then orders (port_count n) [] (refl, omega arith) ports e))
      (all_where (are_grouped (port_count n)) group_arrays
      (array_then fresh (group_count (port_count n)) (array firsts (group_count (port_count n)) ∷ []) (refl, omega arith) groups
      (array_then firsts (group_count (port_count n)) [] (refl, omega arith) groups e))))) in
      let d5 = scratch_fit (scratch_count n rows (length n.specs)) (scratch_few n rows (length n.specs)) in
      let d6 : All IsDeclared limit_scalars = scalar_then limit_name (a_scalar fired_name ∷ a_scalar next_date ∷ []) (refl, omega arith)
      (scalar_then fired_name (a_scalar next_date ∷ []) (refl, omega arith) (scalar_then next_date [] (refl, omega arith) e)) in
      let d7 = all_where (nat_lt 0 (port_count n)) (event_scalars (port_count n)) (events_fit (port_count n)) in
      let d8 = all_where (has_halt n) halt_scalar (scalar_then halt_name [] (refl, omega arith) e) in
      let p2 = value_arrays n ++ declared_where (nat_lt 0 (length n.specs)) (active_array n) in
      let p3 = p2 ++ declared_where (has_sync n) (branch_array n) in
      let p4 = p3 ++ declared_where (nat_lt 0 (port_count n)) (due_arrays (port_count n)) in
      let p5 = p4 ++ scratch_declared (scratch_count n rows (length n.specs)) in
      let p6 = p5 ++ limit_scalars in
      let p7 = p6 ++ declared_where (nat_lt 0 (port_count n)) (event_scalars (port_count n)) in
      all_both IsDeclared p7 (declared_where (has_halt n) halt_scalar)
      (all_both IsDeclared p6 (declared_where (nat_lt 0 (port_count n)) (event_scalars (port_count n)))
      (all_both IsDeclared p5 limit_scalars
      (all_both IsDeclared p4 (scratch_declared (scratch_count n rows (length n.specs)))
      (all_both IsDeclared p3 (declared_where (nat_lt 0 (port_count n)) (due_arrays (port_count n)))
      (all_both IsDeclared p2 (declared_where (has_sync n) (branch_array n))
      (all_both IsDeclared (value_arrays n) (declared_where (nat_lt 0 (length n.specs)) (active_array n)) d1 d2)
      d3)
      d4)
      d5)
      d6)
      d7)
      d8

  block_function_fits : (rows : List (List Entry)) (k : ℕ) → k < length n.specs → IsFunction (block_function n rows (suc k))
  block_function_fits rows k l =
      let is = inside k l in (
        (refl, omega (arith, l, net.wired.few)),
        is_body (block_function n rows (suc k)).body (where_fits 16 (is_scheduled rows (suc k)) (body_text (spec_of n (suc k)) (places_of n (suc k)))
            (λ q. body_fits (spec_of n (suc k)) (places_of n (suc k)) (in_bounds n net (suc k) is) cell_reads_law (is_typed (suc k) is) 2)),
      )

  shared_fit : All IsFunction (shared n)
  shared_fit =
      All-cons IsFunction (settle_function n) (clears n) ((refl, omega arith), is_body (shared_text n) (settle_fits (λ b. Marked) (λ b. tt)))
      (functions_fit (nat_lt 0 (port_count n)) (clear_function n ∷ [])
      (All-cons IsFunction (clear_function n) [] ((refl, omega arith), is_body (clear_text n) clear_fits) (All-nil IsFunction)))

  other_functions_fit : (own : Bool) → All IsFunction (other_functions own n)
  other_functions_fit own =
      all_both IsFunction (functions_where (not own) (shared n)) (chooses n) (functions_fit (not own) (shared n) shared_fit)
      (functions_fit (nat_lt 0 (port_count n)) (choose_function n ∷ [])
      (All-cons IsFunction (choose_function n) [] ((refl, omega arith), is_body (choose_text n) choose_fits) (All-nil IsFunction)))

  pub is_whole : (rows : List (List Entry)) → AreLoopFree n → IsSchedule n rows → IsWhole (full_program n rows)
  is_whole rows free schedule = record {
    decls = declarations_fit rows;
    funcs = all_both IsFunction (called_functions n rows) (event_function (has_own n rows) n ∷ [])
        (all_both IsFunction (blocks n rows ++ other_functions (has_own n rows) n) (sources n rows)
        (all_both IsFunction (blocks n rows) (other_functions (has_own n rows) n)
        (upto_functions_fit (λ k. block_function n rows (suc k)) (length n.specs) (block_function_fits rows)) (other_functions_fit (has_own n rows)))
        (upto_functions_fit (source_function n rows) (length (sources_of n)) (λ i l.
        ((refl, (let few = few_ports n net in omega (arith, l, few))), is_body (source_function n rows i).body (source_fits rows free schedule i l)))))
        (All-cons IsFunction (event_function (has_own n rows) n) []
        ((refl, omega arith), is_body (turn_text (has_own n rows) n) (turn_fits (has_own n rows))) (All-nil IsFunction));
    main = is_body (main_text n) main_fits;
  }
