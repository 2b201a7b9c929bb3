-- A generated program assigns values in the functions of blocks and at the beginning of main alone, and shows nothing else as values.
use Rattle.std.proofs.Common.{◌≡◌, ℕ, zero, suc, ◌+◌, ◌-◌, ◌*◌, ◌^◌, ◌<◌, inl, inr, List, [], ◌∷◌, ◌++◌, length, Contains, Bool, true, false, ◌||◌, ◌&&◌, not, nat_eq, nat_lt, if◌then◌else◌, refl, sym, ap, ◌∙◌, subst, arith, ℤ, pos, negsuc, slice_index_or}
use Rattle.std.specs.Int.{bit_at}
use Rattle.std.proofs.lemmas.Bool.{and_from}
use Rattle.std.proofs.lemmas.List.Elements.{Contains-append_cases}
use Rattle.sci_base.specs.Fit.{int_eq}
use Rattle.sci_forms.specs.declared.ports.Port.{Port as Output}
use Rattle.sci_forms.specs.Ports.{elements}
use Rattle.sci_forms.specs.Form.{is_sync, has_state}
use Rattle.sci_forms.specs.Words.{state_len_of}
use Rattle.sci_kinds.specs.Table.{first_state, first_held}
use Rattle.sci_net.specs.declared.Source.{Source}
use Rattle.sci_net.specs.declared.Source.TheVariants.{Start, Port}
use Rattle.sci_net.specs.Parts.{Parts, spec_of}
use Rattle.sci_net.specs.Sources.{sources_of, source_of}
use Rattle.sci_reaction.specs.Schedule.{Guard, Entry}
use Rattle.sci_forms.specs.Form.{is_halt}
use Rattle.sci_places.specs.Flat.{start_of}
use Rattle.c_ast.specs.declared.Name.{Name}
use Rattle.c_ast.specs.declared.Bound.TheVariants as bounds
use Rattle.c_ast.specs.declared.Op.TheVariants.{Div, Lt, Gt}
use Rattle.c_ast.specs.Syntax.{Exp, bin, var, element, scalar, cell, Told, start, event, value, finish, stop, Statement, set, ask, choice, loop, call, tell, Block, done, next, Function, num}
use Rattle.c_mean.specs.Meaning.{same_name}
use Rattle.c_mean.specs.Texts.{May, number, joined, upto, statement_within, block_within, place}
use Rattle.c_mean.proofs.Memory.{and_left, and_right}
use Rattle.c_mean.proofs.Texts.{joined_within}
use Rattle.sci_cgen_blocks.specs.Texts.{values, states, masks, body_text, next_value_text, next_loop, next_text, delay_expression, branch_expression}
use Rattle.sci_cgen_blocks.specs.Meant.{body_may}
use Rattle.sci_cgen_blocks.proofs.Assigned.{body_within}
use Rattle.sci_due.specs.Due.{dates, orders, best as chosen_name, scan as scan_name, fresh, firsts, are_grouped, due_table, group_count}
use Rattle.sci_due.specs.declared.due_table.DueTable.{DueTable}
use Rattle.sci_due.specs.declared.due_table.DueTable.TheVariants.{Dates, Orders, Groups}
use Rattle.sci_due.specs.Texts.{choose_text as choose_of, delayed_text, counted_from, choose_turn, turns_text, span_text, others_in, unknown_exp, worked_text, group_text, first_of, groups_text}
use Rattle.sci_due.proofs.Pending.{delayed_form}
use Rattle.sci_program.specs.declared.part.Part.{Part}
use Rattle.sci_program.specs.declared.part.Part.TheVariants.{Absent, Sure, Marked, Taken}
use Rattle.sci_base.specs.declared.observation.EndWord.{EndWord}
use Rattle.sci_base.specs.declared.observation.EndWord.TheVariants as ends
use Rattle.sci_program.specs.Names.{actives, branches, until_name, next_date, halt_name, clear_name, choose_name}
use Rattle.sci_program.specs.Program.{natural, one, chosen_place, has_own, part_by, part_in, entry_part, is_marked, is_active, has_taken, where_part, mark, is_taken, end_or, has_halt, texts, text_where, only_where, port_count, places_of, is_scheduled, block_function, with_bit, with_bits, guard_text, call_text, entry_text, cleared_text, header_text, pass_text, following_text, row_text, source_function, clear_text, choose_text, has_sync, elements_shown, outputs_shown, values_shown, delay_text, state_text, halt_text, settle_text, halted_or, react_step, react_deep, fire_text, event_text, turn_text, begun_text, list_begun, held_begun, state_begun, firing_at, programmed_before, firing_begun, source_begun, main_text, functions_upto, functions_where, other_functions, called_functions, event_function, functions, looped_shown, output_shown, clock_begun}
use Rattle.sci_program.proofs.Parted.{reads, masked, guarded, called, all_shown, all_delays, all_states, all_halts, all_held, first_states, all_begun, until_asked, where_ports, starting, ending, running, own, blocks, sources, settle_function, clear_function, choose_function, clears, shared, chooses, count_begun}
use Rattle.sci_cgen_blocks.specs.Terms.{is_looped}
use Rattle.sci_cgen_blocks.specs.Recipes.{next_alike}
use Rattle.sci_program.proofs.Halves.{in_first, react_last, react_more}
use Rattle.sci_cgen_laws.specs.Values.{spares_values, are_sets, told_well, statement_shows_values, shows_values, IsBlockFunction}
use Rattle.sci_cgen_laws.specs.Laws.{ProgramKeepsValues}

-- ---- texts put together

joined_all : (a b c : Block) → joined (joined a b) c ≡ joined a (joined b c)
joined_all done b c = refl
joined_all (next s a) b c = ap (next s) (joined_all a b c)

joined_shows : (a b : Block) → shows_values a ≡ true → shows_values b ≡ true → shows_values (joined a b) ≡ true
joined_shows done b p q = q
joined_shows (next s a) b p q = and_from _ _ (and_left _ (shows_values a) p) (joined_shows a b (and_right (statement_shows_values s) _ p) q)

joined_sets : (a b : Block) → are_sets a ≡ true → are_sets b ≡ true → are_sets (joined a b) ≡ true
joined_sets done b p q = q
joined_sets (next (set x e) a) b p q = joined_sets a b p q
joined_sets (next (ask x e) a) b p q = cc
joined_sets (next (choice e x y) a) b p q = cc
joined_sets (next (loop x n s) a) b p q = cc
joined_sets (next (call f) a) b p q = cc
joined_sets (next (tell t) a) b p q = cc

upto_sets : (f : ℕ → Block) (n : ℕ) → ((k : ℕ) → are_sets (f k) ≡ true) → are_sets (upto f n) ≡ true
upto_sets f zero h = refl
upto_sets f (suc n) h = joined_sets (upto f n) (f n) (upto_sets f n h) (h n)

-- a text of assignments shows nothing
sets_show : (a : Block) → are_sets a ≡ true → shows_values a ≡ true
sets_show done h = refl
sets_show (next (set x e) a) h = sets_show a h
sets_show (next (ask x e) a) h = cc
sets_show (next (choice e x y) a) h = cc
sets_show (next (loop x n s) a) h = cc
sets_show (next (call f) a) h = cc
sets_show (next (tell t) a) h = cc

-- a text that may show nothing shows no value
module _ (may : May) (silent : may.show ≡ false) where
  told_shows : (t : Told) → statement_within may (tell t) ≡ true → told_well t ≡ true
  told_shows start h = refl
  told_shows (event a b c) h = refl
  told_shows (value a b c d) h = absurd (never may.show silent h)
    where
      never : (s : Bool) → s ≡ false → s || false ≡ true → ⊥
      never true e g = cc
      never false e g = cc
  told_shows (finish a) h = refl
  told_shows (stop a b c) h = refl

  mutual
    statement_silent : (s : Statement) → statement_within may s ≡ true → statement_shows_values s ≡ true
    statement_silent (set x e) h = refl
    statement_silent (ask x e) h = refl
    statement_silent (choice e a b) h = and_from _ _ (block_silent a (and_left _ (block_within may b) h)) (block_silent b (and_right (block_within may a) _ h))
    statement_silent (loop x n s) h = block_silent s (and_right (may.assign x) _ h)
    statement_silent (call f) h = refl
    statement_silent (tell t) h = told_shows t h

    block_silent : (b : Block) → block_within may b ≡ true → shows_values b ≡ true
    block_silent done h = refl
    block_silent (next s b) h =
        and_from _ _ (statement_silent s (and_left _ (block_within may b) h)) (block_silent b (and_right (statement_within may s) _ h))

-- ---- texts that assign no value, and show values alone as values

abbrev Kept : Block → Type 0
Kept t = (block_within spares_values t ≡ true) × (shows_values t ≡ true)

both : (a b : Block) → Kept a → Kept b → Kept (joined a b)
both a b p q = (joined_within spares_values a b p.0 q.0, joined_shows a b p.1 q.1)

each : (f : ℕ → Block) (n : ℕ) → ((k : ℕ) → Kept (f k)) → Kept (upto f n)
each f zero h = (refl, refl)
each f (suc n) h = both (upto f n) (f n) (each f n h) (h n)

all : {A : Type 0} (f : A → Block) (xs : List A) → ((x : A) → Kept (f x)) → Kept (texts f xs)
all f [] h = (refl, refl)
all f (x ∷ xs) h = both (f x) (texts f xs) (h x) (all f xs h)

where_kept : (test : Bool) (t : Block) → Kept t → Kept (text_where test t)
where_kept true t h = h
where_kept false t h = (refl, refl)

only_kept : (e : Exp) (t : Block) → Kept t → Kept (only_where e t)
only_kept e t h = (rw h.0 refl, rw h.1 refl)

either_kept : (test : Bool) (a b : Block) → Kept a → Kept b → Kept (if test then a else b)
either_kept true a b p q = p
either_kept false a b p q = q

-- ---- the text of one reaction

header_kept : (s : Source) → Kept (header_text s)
header_kept Start = (refl, refl)
header_kept (Port q) = (refl, refl)

module _ (n : Parts) where
  bits_kept : (b mask m : ℕ) → Kept (with_bits b mask m)
  bits_kept b mask m = each (λ p. text_where (nat_eq (bit_at mask p) 1) (with_bit b p)) m
      (λ p. where_kept (nat_eq (bit_at mask p) 1) (with_bit b p) (refl, refl))

  guard_kept : (e : Entry) (g : Guard) → Kept (guard_text n e g)
  guard_kept e g =
      let marks = text_where (not e.always) (mark e.block) in
      let bits = with_bits e.block g.mask (spec_of n e.block).evtin in
      only_kept (is_taken g) (joined marks (text_where (reads n e) bits))
      (both marks (text_where (reads n e) bits) (where_kept (not e.always) (mark e.block) (refl, refl))
      (where_kept (reads n e) bits (bits_kept e.block g.mask (spec_of n e.block).evtin)))

  call_kept : (b : ℕ) → Kept (call_text n b)
  call_kept b =
      where_kept (is_sync (spec_of n b).kind) (one (set (cell branches (natural (b - 1))) (branch_expression (spec_of n b) (places_of n b)))) (refl, refl)

  part_kept : (p : Part) (b : ℕ) (t : Block) → Kept t → Kept (where_part p b t)
  part_kept Absent b t h = (refl, refl)
  part_kept Sure b t h = h
  part_kept Marked b t h = only_kept (is_active b) t h
  part_kept (Taken q) b t h = only_kept (has_taken q) t h

  entry_kept : (alone : Bool) (e : Entry) → Kept (entry_text alone n e)
  entry_kept alone e =
      both (text_where (not alone && e.always) (mark e.block)) (joined (masked n e) (joined (guarded alone n e) (called alone n e)))
      (where_kept (not alone && e.always) (mark e.block) (refl, refl))
      (both (masked n e) (joined (guarded alone n e) (called alone n e))
      (where_kept (reads n e) (one (set (cell masks (natural (e.block - 1))) (natural e.mask))) (refl, refl))
      (both (guarded alone n e) (called alone n e)
      (where_kept (is_marked (entry_part alone n e) || reads n e) (texts (guard_text n e) e.guards) (all (guard_text n e) e.guards (guard_kept e)))
      (part_kept (entry_part alone n e) e.block (call_text n e.block) (call_kept e.block))))

  cleared_kept : (e : Entry) → Kept (cleared_text n e)
  cleared_kept e =
      let active = one (set (cell actives (natural (e.block - 1))) (natural 0)) in
      let branch = one (set (cell branches (natural (e.block - 1))) (natural 0)) in
      both (text_where (is_marked (part_by n e)) active) (text_where (is_sync (spec_of n e.block).kind) branch)
      (where_kept (is_marked (part_by n e)) active (refl, refl))
      (where_kept (is_sync (spec_of n e.block).kind) branch (refl, refl))

  pass_kept : (alone : Bool) (s : Source) (row : List Entry) → Kept (pass_text alone n s row)
  pass_kept alone s row =
      let cleared = text_where alone (texts (cleared_text n) row) in
      both (header_text s) (joined cleared (texts (entry_text alone n) row)) (header_kept s)
      (both cleared (texts (entry_text alone n) row) (where_kept alone (texts (cleared_text n) row) (all (cleared_text n) row cleared_kept))
      (all (entry_text alone n) row (entry_kept alone)))

  -- ---- behind its values

  elements_kept : (b p e o m : ℕ) → Kept (elements_shown b p e o m)
  elements_kept b p e o zero = (refl, refl)
  elements_kept b p e o (suc m) = elements_kept b p (e + 1) (o + 1) m

  output_kept : (b p o m : ℕ) → Kept (output_shown b p o m)
  output_kept b p o m = either_kept (is_looped m) (one (looped_shown b p o m)) (elements_shown b p 1 o m) (refl, refl) (elements_kept b p 1 o m)

  outputs_kept : (b p o : ℕ) (qs : List Output) → Kept (outputs_shown b p o qs)
  outputs_kept b p o [] = (refl, refl)
  outputs_kept b p o (q ∷ qs) =
      both (output_shown b p o (elements q)) (outputs_shown b (p + 1) (o + elements q) qs) (output_kept b p o (elements q))
      (outputs_kept b (p + 1) (o + elements q) qs)

  next_kept : (b : ℕ) → Kept (next_text (spec_of n b) (places_of n b))
  next_kept b =
      let s = spec_of n b in
      let p = places_of n b in
      let alike = next_alike s.kind s in
      let rest = upto (λ i. next_value_text s p (alike + i)) (state_len_of s.kind s - alike) in
      let kept = each (λ i. next_value_text s p (alike + i)) (state_len_of s.kind s - alike) (λ i. (refl, refl)) in
      either_kept (is_looped alike) (next (next_loop s p alike) rest) (upto (next_value_text s p) (state_len_of s.kind s)) (kept.0, kept.1)
      (each (next_value_text s p) (state_len_of s.kind s) (λ i. (refl, refl)))

  delayed_kept : (table : DueTable) (i : ℕ) (e : Exp) → Kept (delayed_text table i e)
  delayed_kept Dates i e = delayed_form Kept Dates i e (λ d q. (refl, refl)) (refl, refl)
  delayed_kept Orders i e = delayed_form Kept Orders i e (λ d q. (refl, refl)) (refl, refl)
  delayed_kept Groups i e = delayed_form Kept Groups i e (λ d q. (refl, refl)) (refl, refl)

  module _ (part : ℕ → Part) where
    shown_kept : (b : ℕ) → Kept (values_shown n part b)
    shown_kept b =
        let shown = outputs_shown b 1 (start_of n b) (spec_of n b).outs in
        where_kept (nat_lt 0 (length (spec_of n b).outs)) (where_part (part b) b shown)
        (part_kept (part b) b shown (outputs_kept b 1 (start_of n b) (spec_of n b).outs))

    delay_kept : (i : ℕ) (s : Source) → Kept (delay_text n part i s)
    delay_kept i Start = (refl, refl)
    delay_kept i (Port q) =
        part_kept (part q.block) q.block (delayed_text (due_table (port_count n)) (i - 1) (delay_expression (spec_of n q.block) (places_of n q.block)))
        (delayed_kept (due_table (port_count n)) (i - 1) (delay_expression (spec_of n q.block) (places_of n q.block)))

    state_kept : (b : ℕ) → Kept (state_text n part b)
    state_kept b =
        let text = next_text (spec_of n b) (places_of n b) in
        where_kept (has_state (spec_of n b).kind) (where_part (part b) b text) (part_kept (part b) b text (next_kept b))

    halt_kept : (b : ℕ) → Kept (halt_text n part b)
    halt_kept b =
        let text = one (set (scalar halt_name) (natural 1)) in
        where_kept (is_halt (spec_of n b).kind) (where_part (part b) b text) (part_kept (part b) b text (refl, refl))

    settle_kept : Kept (settle_text n part)
    settle_kept =
        both (all_shown n part) (joined (all_delays n part) (joined (all_states n part) (all_halts n part)))
        (each (λ k. values_shown n part (suc k)) (length n.specs) (λ k. shown_kept (suc k)))
        (both (all_delays n part) (joined (all_states n part) (all_halts n part))
        (each (λ k. delay_text n part (suc k) (source_of n (suc k))) (port_count n) (λ k. delay_kept (suc k) (source_of n (suc k))))
        (both (all_states n part) (all_halts n part) (each (λ k. state_text n part (suc k)) (length n.specs) (λ k. state_kept (suc k)))
        (each (λ k. halt_text n part (suc k)) (length n.specs) (λ k. halt_kept (suc k)))))

  following_kept : (alone : Bool) (row : List Entry) → Kept (following_text alone n row)
  following_kept true row = settle_kept (part_in n row)
  following_kept false row = (refl, refl)

  row_kept : (alone : Bool) (s : Source) (row : List Entry) → Kept (row_text alone n s row)
  row_kept alone s row = both (pass_text alone n s row) (following_text alone n row) (pass_kept alone s row) (following_kept alone row)

  -- ---- before a reaction

  clear_kept : Kept (clear_text n)
  clear_kept =
      let h = where_kept (has_sync n) (one (set (cell branches (var scan_name)) (natural 0))) (refl, refl) in
      (and_from _ true h.0 refl, and_from _ true h.1 refl)

  turns_kept : (at : Exp → Exp) (k m : ℕ) → Kept (turns_text at k m)
  turns_kept at k m = by_size (nat_lt 7 m)
    where
      by_size : (many : Bool) → Kept (if many then next (loop scan_name (bounds.Num (pos m)) (choose_turn (at (counted_from k)))) done
          else upto (λ j. choose_turn (at (num (pos (k + j))))) m)
      by_size true = (refl, refl)
      by_size false = each (λ j. choose_turn (at (num (pos (k + j))))) m (λ j. (refl, refl))

  span_kept : (k m : ℕ) → Kept (span_text k m)
  span_kept k m = turns_kept (λ e. e) (suc k) m

  group_kept : (c g : ℕ) → Kept (group_text c g)
  group_kept c g =
      only_kept (unknown_exp g) (worked_text c g) (both (span_text (16 * g) (others_in c g))
      (next (set (cell firsts (num (pos g))) (var chosen_name)) (one (set (cell fresh (num (pos g))) (num (pos 1)))))
      (span_kept (16 * g) (others_in c g)) (refl, refl))

  groups_kept : (c : ℕ) → Kept (groups_text c)
  groups_kept c =
      both (upto (group_text c) (group_count c))
      (next (set (scalar chosen_name) (first_of (num (pos 0)))) (next (set (scalar next_date) (element dates (var chosen_name)))
      (turns_text first_of 1 (group_count c - 1))))
      (each (group_text c) (group_count c) (group_kept c)) (turns_kept first_of 1 (group_count c - 1))

  choose_kept : Kept (choose_text n)
  choose_kept =
      either_kept (nat_lt 1 (port_count n)) (choose_of (port_count n)) (one (set (scalar next_date) (place dates 0)))
      (either_kept (are_grouped (port_count n)) (groups_text (port_count n)) (span_text 0 (port_count n - 1)) (groups_kept (port_count n))
      (span_kept 0 (port_count n - 1))) (refl, refl)

  -- ---- the run

  end_kept : (e : Exp) (word : EndWord) (rest : Block) → Kept rest → Kept (end_or e word rest)
  end_kept e word rest h = (rw h.0 refl, rw h.1 refl)

  halted_kept : (rest : Block) → Kept rest → Kept (halted_or n rest)
  halted_kept rest h = either_kept (has_halt n) (end_or (var halt_name) ends.Halt rest) rest (end_kept (var halt_name) ends.Halt rest h) h

  react_kept : (d i c : ℕ) → Kept (one (react_step d i c))
  react_kept zero i c = subst (λ (s : Statement). Kept (one s)) (sym (react_last i c)) (refl, refl)
  react_kept (suc d) i c =
      subst (λ (s : Statement). Kept (one s)) (sym (react_more d i c))
      (by_count (nat_lt (2 ^ d) c) (react_kept d i (2 ^ d)) (react_kept d (i + 2 ^ d) (c - 2 ^ d)) (react_kept d i c))
    where
      by_count : (t : Bool) → Kept (one (react_step d i (2 ^ d))) → Kept (one (react_step d (i + 2 ^ d) (c - 2 ^ d))) → Kept (one (react_step d i c))
          → Kept (one (if t then in_first i (2 ^ d) (react_step d i (2 ^ d)) (react_step d (i + 2 ^ d) (c - 2 ^ d)) else react_step d i c))
      by_count true p q r = (and_from _ true (and_from _ _ p.0 q.0) refl, and_from _ true (and_from _ _ p.1 q.1) refl)
      by_count false p q r = r

  fire_kept : (alone : Bool) → Kept (fire_text alone n)
  fire_kept alone =
      let clears = text_where (not alone) (one (call clear_name)) in
      let rest = next (react_step react_deep 0 (port_count n)) (one (call choose_name)) in
      let stale = one (set (cell fresh (bin Div (chosen_place (port_count n)) (natural 16))) (natural 0)) in
      both (text_where (are_grouped (port_count n)) stale) (joined clears rest) (where_kept (are_grouped (port_count n)) stale (refl, refl))
      (both clears rest (where_kept (not alone) (one (call clear_name)) (refl, refl))
      (both (one (react_step react_deep 0 (port_count n))) (one (call choose_name)) (react_kept react_deep 0 (port_count n)) (refl, refl)))

  abbrev in_time : Bool → Block
  in_time alone = end_or (bin Gt (var next_date) (var until_name)) ends.Until (fire_text alone n)

  event_kept : (alone : Bool) → Kept (event_text alone n)
  event_kept alone =
      either_kept (nat_lt 0 (port_count n)) (end_or (bin Lt (var next_date) (natural 0)) ends.Empty (in_time alone)) (one (tell (finish (natural 2))))
      (end_kept (bin Lt (var next_date) (natural 0)) ends.Empty (in_time alone)
      (end_kept (bin Gt (var next_date) (var until_name)) ends.Until (fire_text alone n) (fire_kept alone))) (refl, refl)

  turn_kept : (alone : Bool) → Kept (turn_text alone n)
  turn_kept alone = halted_kept (event_text alone n) (event_kept alone)

  ending_kept : Kept (ending n)
  ending_kept = halted_kept (one (tell (finish (natural 1)))) (refl, refl)

  running_kept : Kept (running n)
  running_kept = ending_kept

  starting_kept : Kept (starting n)
  starting_kept = either_kept (nat_lt 0 (port_count n)) (one (call choose_name)) (one (set (scalar next_date) (number (negsuc 0)))) (refl, refl) (refl, refl)

  -- ---- before the run

  begun_kept : (a : Name) (k : ℕ) (z : ℤ) → not (same_name values a) ≡ true → Kept (begun_text a k z)
  begun_kept a k z h = where_kept (not (int_eq z (pos 0))) (one (set (cell a (natural k)) (number z))) (and_from _ true h refl, refl)

  list_kept : (a : Name) (k : ℕ) (zs : List ℤ) → not (same_name values a) ≡ true → Kept (list_begun a k zs)
  list_kept a k [] h = (refl, refl)
  list_kept a k (z ∷ zs) h = both (begun_text a k z) (list_begun a (k + 1) zs) (begun_kept a k z h) (list_kept a (k + 1) zs h)

  firing_kept : (i order : ℕ) (z : ℤ) → Kept (firing_begun i order z)
  firing_kept i order (pos d) =
      both (begun_text dates (i - 1) (pos d)) (begun_text orders (i - 1) (pos order)) (begun_kept dates (i - 1) (pos d) refl)
      (begun_kept orders (i - 1) (pos order) refl)
  firing_kept i order (negsuc d) = (refl, refl)

  -- behind the values with which it begins
  abbrev outset_rest : Block
  outset_rest = joined (first_states n) (joined (all_begun n) (where_ports n))

  outset_kept : Kept outset_rest
  outset_kept =
      both (first_states n) (joined (all_begun n) (where_ports n))
      (each (λ k. state_begun n (suc k)) (length n.specs)
      (λ k. list_kept states (places_of n (suc k)).state (first_state (spec_of n (suc k))) refl))
      (both (all_begun n) (where_ports n)
      (each (λ k. source_begun n (suc k)) (port_count n)
      (λ k. firing_kept (suc k) (programmed_before n (suc k)) (firing_at n (source_of n (suc k)))))
      (where_kept (nat_lt 0 (port_count n)) (clock_begun n)
      (both (text_where (nat_lt 1 (port_count n)) (count_begun n)) until_asked
      (where_kept (nat_lt 1 (port_count n)) (count_begun n) (refl, refl)) (refl, refl))))

  abbrev main_rest : Block
  main_rest = joined (joined outset_rest (starting n)) (running n)

  rest_kept : Kept main_rest
  rest_kept = both (joined outset_rest (starting n)) (running n) (both outset_rest (starting n) outset_kept starting_kept) running_kept

  begun_sets : (a : Name) (k : ℕ) (z : ℤ) → are_sets (begun_text a k z) ≡ true
  begun_sets a k z = by_test (not (int_eq z (pos 0)))
    where
      by_test : (t : Bool) → are_sets (text_where t (one (set (cell a (natural k)) (number z)))) ≡ true
      by_test true = refl
      by_test false = refl

  list_sets : (a : Name) (k : ℕ) (zs : List ℤ) → are_sets (list_begun a k zs) ≡ true
  list_sets a k [] = refl
  list_sets a k (z ∷ zs) = joined_sets (begun_text a k z) (list_begun a (k + 1) zs) (begun_sets a k z) (list_sets a (k + 1) zs)

  held_sets : are_sets (all_held n) ≡ true
  held_sets =
      upto_sets (λ k. held_begun n (suc k)) (length n.specs) (λ k. list_sets values (start_of n (suc k)) (first_held (spec_of n (suc k))))

  main_is : main_text n ≡ joined (all_held n) main_rest
  main_is =
      ap (λ (t : Block). joined t (running n)) (joined_all (all_held n) outset_rest (starting n))
      ∙ joined_all (all_held n) (joined outset_rest (starting n)) (running n)

  main_shows : shows_values (main_text n) ≡ true
  main_shows =
      subst (λ (t : Block). shows_values t ≡ true) (sym main_is)
      (joined_shows (all_held n) main_rest (sets_show (all_held n) held_sets) rest_kept.1)

-- ---- functions

-- what holds of each function of a list
module _ (P : Function → Type 0) where
  abbrev Of : List Function → Type 0
  Of fs = (f : Function) → Contains fs f → P f

  of_none : Of []
  of_none f c = absurd (omega (arith, c.1))

  of_first : (g : Function) (fs : List Function) → P g → Of fs → Of (g ∷ fs)
  of_first g fs h rest f (zero, l, e) = subst P e h
  of_first g fs h rest f (suc i, l, e) = rest f (i, omega (arith, l), e)

  of_both : (xs ys : List Function) → Of xs → Of ys → Of (xs ++ ys)
  of_both xs ys p q f c = elim (Contains-append_cases xs ys f c) [
    | inl a ↦ p f a
    | inr b ↦ q f b
  ]

  of_upto : (g : ℕ → Function) (m : ℕ) → ((k : ℕ) → k < m → P (g k)) → Of (functions_upto g m)
  of_upto g zero h = of_none
  of_upto g (suc m) h =
      of_both (functions_upto g m) (g m ∷ []) (of_upto g m (λ k l. h k (omega (arith, l)))) (of_first (g m) [] (h m (omega arith)) of_none)

  of_where : (test : Bool) (fs : List Function) → Of fs → Of (functions_where test fs)
  of_where true fs h = h
  of_where false fs h = of_none

  -- the functions of a program
  of_program : (n : Parts) (rows : List (List Entry)) → ((k : ℕ) → k < length n.specs → P (own n rows k)) → P (settle_function n) → P (clear_function n)
      → P (choose_function n) → ((i : ℕ) → P (source_function n rows i)) → P (event_function (has_own n rows) n) → Of (functions n rows)
  of_program n rows own_holds settles cleared chosen sourced fires =
      let alone = has_own n rows in
      of_both (called_functions n rows) (event_function alone n ∷ [])
      (of_both (blocks n rows ++ other_functions alone n) (sources n rows)
      (of_both (blocks n rows) (other_functions alone n) (of_upto (own n rows) (length n.specs) own_holds)
      (of_both (functions_where (not alone) (shared n)) (chooses n)
      (of_where (not alone) (shared n)
      (of_first (settle_function n) (clears n) settles
      (of_where (nat_lt 0 (port_count n)) (clear_function n ∷ []) (of_first (clear_function n) [] cleared of_none))))
      (of_where (nat_lt 0 (port_count n)) (choose_function n ∷ []) (of_first (choose_function n) [] chosen of_none))))
      (of_upto (source_function n rows) (length (sources_of n)) (λ i l. sourced i)))
      (of_first (event_function alone n) [] fires of_none)

module _ (n : Parts) (rows : List (List Entry)) where
  source_kept : (i : ℕ) → Kept (source_function n rows i).body
  source_kept i = row_kept n (has_own n rows) (source_of n i) (slice_index_or rows i [])

  own_shows : (b : ℕ) → shows_values (block_function n rows b).body ≡ true
  own_shows b = by_test (is_scheduled rows b)
    where
      by_test : (t : Bool) → shows_values (text_where t (body_text (spec_of n b) (places_of n b))) ≡ true
      by_test true = block_silent (body_may (spec_of n b)) refl (body_text (spec_of n b) (places_of n b)) (body_within (spec_of n b) (places_of n b))
      by_test false = refl

  -- it assigns no value, where it isn't a block's
  abbrev Spares : Function → Type 0
  Spares f = (IsBlockFunction n f → ⊥) → block_within spares_values f.body ≡ true

  abbrev Shows : Function → Type 0
  Shows f = shows_values f.body ≡ true

  all_spare : (f : Function) → Contains (functions n rows) f → Spares f
  all_spare =
      of_program Spares n rows (λ k l none. absurd (none (suc k, record { least = omega arith; most = omega (arith, l) }, refl)))
      (λ none. (settle_kept n (λ b. Marked)).0) (λ none. (clear_kept n).0) (λ none. (choose_kept n).0) (λ i none. (source_kept i).0)
      (λ none. (turn_kept n (has_own n rows)).0)

  all_show : (f : Function) → Contains (functions n rows) f → Shows f
  all_show =
      of_program Shows n rows (λ k l. own_shows (suc k)) (settle_kept n (λ b. Marked)).1 (clear_kept n).1 (choose_kept n).1 (λ i. (source_kept i).1)
      (turn_kept n (has_own n rows)).1

pub program_keeps_values : ProgramKeepsValues
program_keeps_values n rows net schedule = record {
  others = all_spare n rows;
  begin = all_held n;
  rest = main_rest n;
  main = main_is n;
  begins = held_sets n;
  spares = (rest_kept n).0;
  shown = all_show n rows;
  shown_by_main = main_shows n;
}
