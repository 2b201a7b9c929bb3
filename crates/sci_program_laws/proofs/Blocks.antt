-- Each block has one function, which is called as often as the schedule has entries of the block.
use Rattle.std.proofs.Common.{◌≡◌, ℕ, zero, suc, ◌+◌, ◌-◌, ◌*◌, ◌<◌, ◌≤◌, ◌^◌, inl, inr, List, [], ◌∷◌, ◌++◌, length, take, slice_index_or, Contains, Bool, true, false, ◌||◌, ◌&&◌, not, nat_eq, nat_lt, if◌then◌else◌, refl, sym, ap, ◌∙◌, subst, arith, ℤ, pos, negsuc, eq-eqb, ne_eqb}
use Rattle.std.specs.Int.{bit_at}
use Rattle.std.proofs.lemmas.Bool.{cases_eq, cond-false}
use Rattle.sci_base.specs.Fit.{int_eq}
use Rattle.sci_forms.specs.declared.ports.Port.{Port as Output}
use Rattle.sci_forms.specs.Ports.{elements}
use Rattle.sci_forms.specs.Form.{is_sync, has_state}
use Rattle.sci_kinds.specs.Table.{first_state, first_held}
use Rattle.sci_places.specs.Flat.{start_of}
use Rattle.sci_net.specs.declared.Source.{Source}
use Rattle.sci_net.specs.declared.Source.TheVariants.{Start, Port}
use Rattle.sci_net.specs.Parts.{Parts, IsBlock, spec_of}
use Rattle.sci_net.specs.Sources.{sources_of, source_of}
use Rattle.sci_reaction.specs.Schedule.{Guard, Entry, blocks_of}
use Rattle.sci_forms.specs.Form.{is_halt}
use Rattle.c_ast.specs.declared.Name.{Name}
use Rattle.c_ast.specs.declared.Bound.TheVariants as bounds
use Rattle.c_ast.specs.declared.Op.TheVariants.{Div, Lt, Gt}
use Rattle.c_ast.specs.Syntax.{Exp, bin, var, element, scalar, cell, finish, Statement, set, ask, choice, loop, call, tell, Block, done, next, Function, num}
use Rattle.c_mean.specs.Meaning.{same_name}
use Rattle.c_mean.specs.Texts.{May, number, place, joined, upto, statement_within, block_within}
use Rattle.c_mean.proofs.Memory.{and_left, and_right, other_name}
use Rattle.sci_cgen_blocks.specs.Texts.{values, states, masks, body_text, next_text, delay_expression, branch_expression}
use Rattle.sci_due.specs.Texts.{choose_text as choose_of, delayed_text, counted_from, choose_turn, turns_text, span_text, others_in, unknown_exp, worked_text, group_text, first_of, groups_text}
use Rattle.sci_due.proofs.Pending.{delayed_form}
use Rattle.sci_cgen_blocks.specs.Meant.{body_may, next_may}
use Rattle.sci_cgen_blocks.proofs.Assigned.{body_within, next_within}
use Rattle.sci_due.specs.Due.{dates, orders, best as chosen_name, scan as scan_name, fresh, firsts, are_grouped, due_table, group_count}
use Rattle.sci_due.specs.declared.due_table.DueTable.{DueTable}
use Rattle.sci_due.specs.declared.due_table.DueTable.TheVariants.{Dates, Orders, Groups}
use Rattle.sci_program.specs.declared.part.Part.{Part}
use Rattle.sci_program.specs.declared.part.Part.TheVariants.{Absent, Sure, Marked, Taken}
use Rattle.sci_base.specs.declared.observation.EndWord.{EndWord}
use Rattle.sci_base.specs.declared.observation.EndWord.TheVariants as ends
use Rattle.sci_program.specs.Names.{actives, branches, until_name, next_date, halt_name, block_name, clear_name, choose_name}
use Rattle.sci_program.specs.Program.{natural, one, chosen_place, has_own, part_by, part_in, entry_part, is_marked, is_active, has_taken, where_part, mark, is_taken, end_or, has_halt, texts, text_where, only_where, port_count, places_of, is_scheduled, block_function, with_bit, with_bits, guard_text, call_text, entry_text, cleared_text, header_text, pass_text, following_text, source_function, clear_text, choose_text, has_sync, elements_shown, outputs_shown, values_shown, delay_text, state_text, halt_text, settle_text, halted_or, react_step, react_deep, fire_text, event_text, turn_text, first_text, begun_text, list_begun, held_begun, state_begun, firing_at, programmed_before, firing_begun, source_begun, outset_text, begin_text, main_text, functions_upto, functions_where, other_functions, called_functions, event_function, functions, looped_shown, output_shown, clock_begun}
use Rattle.sci_program.proofs.Parted.{reads, masked, guarded, called, by_call, all_shown, all_delays, all_states, all_halts, all_held, first_states, all_begun, until_asked, where_ports, starting, running, own, blocks, sources, settle_function, clear_function, choose_function, shared, chooses, count_begun}
use Rattle.sci_cgen_blocks.specs.Terms.{is_looped}
use Rattle.sci_program.proofs.Halves.{in_first, react_last, react_more}
use Rattle.sci_program.specs.Laws.{calls_in_statement, calls_in, calls_in_functions, named_so, count_of, entries_of, ProgramHasBlockFunctions}

-- ---- calls in texts

calls_joined : (f : Name) (a b : Block) → calls_in f (joined a b) ≡ calls_in f a + calls_in f b
calls_joined f done b = omega arith
calls_joined f (next s a) b = omega (arith, calls_joined f a b)

-- a text that may not call a function doesn't call it
module _ (may : May) (f : Name) (not_may : may.call f ≡ false) where
  mutual
    statement_calls : (s : Statement) → statement_within may s ≡ true → calls_in_statement f s ≡ 0
    statement_calls (set p e) h = refl
    statement_calls (ask p a) h = refl
    statement_calls (choice e a b) h = omega (arith, calls_none a (and_left _ _ h), calls_none b (and_right _ _ h))
    statement_calls (loop x b s) h = calls_none s (and_right _ _ h)
    statement_calls (call g) h = cond-false (same_name g f) 1 0 (other_name may.call g f h not_may)
    statement_calls (tell t) h = refl

    calls_none : (b : Block) → block_within may b ≡ true → calls_in f b ≡ 0
    calls_none done h = refl
    calls_none (next s b) h = omega (arith, statement_calls s (and_left _ _ h), calls_none b (and_right _ _ h))

-- ---- texts that don't call a function

module _ (f : Name) where
  joined_none : (a b : Block) → calls_in f a ≡ 0 → calls_in f b ≡ 0 → calls_in f (joined a b) ≡ 0
  joined_none a b p q = omega (arith, calls_joined f a b, p, q)

  upto_none : (t : ℕ → Block) (n : ℕ) → ((k : ℕ) → calls_in f (t k) ≡ 0) → calls_in f (upto t n) ≡ 0
  upto_none t zero h = refl
  upto_none t (suc n) h = joined_none (upto t n) (t n) (upto_none t n h) (h n)

  texts_none : {A : Type 0} (t : A → Block) (xs : List A) → ((x : A) → calls_in f (t x) ≡ 0) → calls_in f (texts t xs) ≡ 0
  texts_none t [] h = refl
  texts_none t (x ∷ xs) h = joined_none (t x) (texts t xs) (h x) (texts_none t xs h)

  where_none : (test : Bool) (t : Block) → calls_in f t ≡ 0 → calls_in f (text_where test t) ≡ 0
  where_none true t h = h
  where_none false t h = refl

  only_none : (e : Exp) (t : Block) → calls_in f t ≡ 0 → calls_in f (only_where e t) ≡ 0
  only_none e t h = omega (arith, h)

  either_none : (test : Bool) (a b : Block) → calls_in f a ≡ 0 → calls_in f b ≡ 0 → calls_in f (if test then a else b) ≡ 0
  either_none true a b p q = p
  either_none false a b p q = q

  -- ---- a reaction

  bits_none : (b mask n : ℕ) → calls_in f (with_bits b mask n) ≡ 0
  bits_none b mask n = upto_none (λ p. text_where (nat_eq (bit_at mask p) 1) (with_bit b p)) n
      (λ p. where_none (nat_eq (bit_at mask p) 1) (with_bit b p) refl)

  guard_none : (n : Parts) (e : Entry) (g : Guard) → calls_in f (guard_text n e g) ≡ 0
  guard_none n e g =
      let bits = with_bits e.block g.mask (spec_of n e.block).evtin in
      only_none (is_taken g) (joined (text_where (not e.always) (mark e.block)) (text_where (reads n e) bits))
      (joined_none (text_where (not e.always) (mark e.block)) (text_where (reads n e) bits) (where_none (not e.always) (mark e.block) refl)
      (where_none (reads n e) bits (bits_none e.block g.mask (spec_of n e.block).evtin)))

  header_none : (s : Source) → calls_in f (header_text s) ≡ 0
  header_none Start = refl
  header_none (Port q) = refl

  call_calls : (n : Parts) (b : ℕ) → calls_in f (call_text n b) ≡ (if same_name (block_name b) f then 1 else 0)
  call_calls n b =
      omega (
        arith,
        where_none (is_sync (spec_of n b).kind) (one (set (cell branches (natural (b - 1))) (branch_expression (spec_of n b) (places_of n b))))
            refl,
      )

  -- an entry's block is called by each of its parts
  called_calls : (own : Bool) (n : Parts) (e : Entry) → calls_in f (called own n e) ≡ calls_in f (call_text n e.block)
  called_calls own n e =
      let t = call_text n e.block in
      by_call own n e (λ (p : Part). calls_in f (where_part p e.block t) ≡ calls_in f t) refl (omega arith) (λ g c. omega arith)

  entry_calls : (own : Bool) (n : Parts) (e : Entry) → calls_in f (entry_text own n e) ≡ (if same_name (block_name e.block) f then 1 else 0)
  entry_calls own n e =
      omega (
        arith,
        calls_joined f (text_where (not own && e.always) (mark e.block)) (joined (masked n e) (joined (guarded own n e) (called own n e))),
        calls_joined f (masked n e) (joined (guarded own n e) (called own n e)),
        calls_joined f (guarded own n e) (called own n e),
        where_none (not own && e.always) (mark e.block) refl,
        where_none (reads n e) (one (set (cell masks (natural (e.block - 1))) (natural e.mask))) refl,
        where_none (is_marked (entry_part own n e) || reads n e) (texts (guard_text n e) e.guards) (texts_none (guard_text n e) e.guards (guard_none n e)),
        called_calls own n e,
        call_calls n e.block,
      )

  -- ---- behind a reaction

  elements_none : (b p e o m : ℕ) → calls_in f (elements_shown b p e o m) ≡ 0
  elements_none b p e o zero = refl
  elements_none b p e o (suc m) = omega (arith, elements_none b p (e + 1) (o + 1) m)

  output_none : (b p o m : ℕ) → calls_in f (output_shown b p o m) ≡ 0
  output_none b p o m = either_none (is_looped m) (one (looped_shown b p o m)) (elements_shown b p 1 o m) refl (elements_none b p 1 o m)

  outputs_none : (b p o : ℕ) (qs : List Output) → calls_in f (outputs_shown b p o qs) ≡ 0
  outputs_none b p o [] = refl
  outputs_none b p o (q ∷ qs) =
      joined_none (output_shown b p o (elements q)) (outputs_shown b (p + 1) (o + elements q) qs) (output_none b p o (elements q))
      (outputs_none b (p + 1) (o + elements q) qs)

  part_none : (p : Part) (b : ℕ) (t : Block) → calls_in f t ≡ 0 → calls_in f (where_part p b t) ≡ 0
  part_none Absent b t h = refl
  part_none Sure b t h = h
  part_none Marked b t h = only_none (is_active b) t h
  part_none (Taken q) b t h = only_none (has_taken q) t h

  delayed_none : (table : DueTable) (i : ℕ) (e : Exp) → calls_in f (delayed_text table i e) ≡ 0
  delayed_none Dates i e = delayed_form (λ (t : Block). calls_in f t ≡ 0) Dates i e (λ d q. refl) refl
  delayed_none Orders i e = delayed_form (λ (t : Block). calls_in f t ≡ 0) Orders i e (λ d q. refl) refl
  delayed_none Groups i e = delayed_form (λ (t : Block). calls_in f t ≡ 0) Groups i e (λ d q. refl) refl

  module _ (part : ℕ → Part) where
    values_none : (n : Parts) (b : ℕ) → calls_in f (values_shown n part b) ≡ 0
    values_none n b =
        let shown = outputs_shown b 1 (start_of n b) (spec_of n b).outs in
        where_none (nat_lt 0 (length (spec_of n b).outs)) (where_part (part b) b shown)
        (part_none (part b) b shown (outputs_none b 1 (start_of n b) (spec_of n b).outs))

    delay_none : (n : Parts) (i : ℕ) (s : Source) → calls_in f (delay_text n part i s) ≡ 0
    delay_none n i Start = refl
    delay_none n i (Port q) =
        part_none (part q.block) q.block (delayed_text (due_table (port_count n)) (i - 1) (delay_expression (spec_of n q.block) (places_of n q.block)))
        (delayed_none (due_table (port_count n)) (i - 1) (delay_expression (spec_of n q.block) (places_of n q.block)))

    state_none : (n : Parts) (b : ℕ) → calls_in f (state_text n part b) ≡ 0
    state_none n b =
        let t = next_text (spec_of n b) (places_of n b) in
        where_none (has_state (spec_of n b).kind) (where_part (part b) b t)
        (part_none (part b) b t (calls_none next_may f refl t (next_within (spec_of n b) (places_of n b))))

    halt_none : (n : Parts) (b : ℕ) → calls_in f (halt_text n part b) ≡ 0
    halt_none n b =
        let t = one (set (scalar halt_name) (natural 1)) in
        where_none (is_halt (spec_of n b).kind) (where_part (part b) b t) (part_none (part b) b t refl)

    settle_none : (n : Parts) → calls_in f (settle_text n part) ≡ 0
    settle_none n =
        joined_none (all_shown n part) (joined (all_delays n part) (joined (all_states n part) (all_halts n part)))
        (upto_none (λ k. values_shown n part (suc k)) (length n.specs) (λ k. values_none n (suc k)))
        (joined_none (all_delays n part) (joined (all_states n part) (all_halts n part))
        (upto_none (λ k. delay_text n part (suc k) (source_of n (suc k))) (port_count n) (λ k. delay_none n (suc k) (source_of n (suc k))))
        (joined_none (all_states n part) (all_halts n part) (upto_none (λ k. state_text n part (suc k)) (length n.specs) (λ k. state_none n (suc k)))
        (upto_none (λ k. halt_text n part (suc k)) (length n.specs) (λ k. halt_none n (suc k)))))

  cleared_none : (n : Parts) (e : Entry) → calls_in f (cleared_text n e) ≡ 0
  cleared_none n e =
      let active = one (set (cell actives (natural (e.block - 1))) (natural 0)) in
      let branch = one (set (cell branches (natural (e.block - 1))) (natural 0)) in
      joined_none (text_where (is_marked (part_by n e)) active) (text_where (is_sync (spec_of n e.block).kind) branch)
      (where_none (is_marked (part_by n e)) active refl)
      (where_none (is_sync (spec_of n e.block).kind) branch refl)

  turns_none : (at : Exp → Exp) (k m : ℕ) → calls_in f (turns_text at k m) ≡ 0
  turns_none at k m = by_size (nat_lt 7 m)
    where
      by_size : (many : Bool) → calls_in f (if many then next (loop scan_name (bounds.Num (pos m)) (choose_turn (at (counted_from k)))) done
          else upto (λ j. choose_turn (at (num (pos (k + j))))) m) ≡ 0
      by_size true = refl
      by_size false = upto_none (λ j. choose_turn (at (num (pos (k + j))))) m (λ j. refl)

  span_none : (k m : ℕ) → calls_in f (span_text k m) ≡ 0
  span_none k m = omega (arith, turns_none (λ e. e) (suc k) m)

  group_none : (n g : ℕ) → calls_in f (group_text n g) ≡ 0
  group_none n g =
      let known = next (set (cell firsts (num (pos g))) (var chosen_name)) (one (set (cell fresh (num (pos g))) (num (pos 1)))) in
      only_none (unknown_exp g) (worked_text n g) (joined_none (span_text (16 * g) (others_in n g)) known (span_none (16 * g) (others_in n g)) refl)

  groups_none : (n : ℕ) → calls_in f (groups_text n) ≡ 0
  groups_none n =
      let rest = turns_text first_of 1 (group_count n - 1) in
      joined_none (upto (group_text n) (group_count n))
      (next (set (scalar chosen_name) (first_of (num (pos 0)))) (next (set (scalar next_date) (element dates (var chosen_name))) rest))
      (upto_none (group_text n) (group_count n) (group_none n)) (omega (arith, turns_none first_of 1 (group_count n - 1)))

  choose_none : (n : Parts) → calls_in f (choose_text n) ≡ 0
  choose_none n =
      either_none (nat_lt 1 (port_count n)) (choose_of (port_count n)) (one (set (scalar next_date) (place dates 0)))
      (either_none (are_grouped (port_count n)) (groups_text (port_count n)) (span_text 0 (port_count n - 1)) (groups_none (port_count n))
      (span_none 0 (port_count n - 1))) refl

  clear_none : (n : Parts) → calls_in f (clear_text n) ≡ 0
  clear_none n = omega (arith, where_none (has_sync n) (one (set (cell branches (var scan_name)) (natural 0))) refl)

  body_none : (n : Parts) (test : Bool) (b : ℕ) → calls_in f (text_where test (body_text (spec_of n b) (places_of n b))) ≡ 0
  body_none n test b =
      let t = body_text (spec_of n b) (places_of n b) in
      where_none test t (calls_none (body_may (spec_of n b)) f refl t (body_within (spec_of n b) (places_of n b)))

  -- ---- before the run

  begun_none : (a : Name) (k : ℕ) (z : ℤ) → calls_in f (begun_text a k z) ≡ 0
  begun_none a k z = where_none (not (int_eq z (pos 0))) (one (set (cell a (natural k)) (number z))) refl

  list_none : (a : Name) (k : ℕ) (zs : List ℤ) → calls_in f (list_begun a k zs) ≡ 0
  list_none a k [] = refl
  list_none a k (z ∷ zs) = joined_none (begun_text a k z) (list_begun a (k + 1) zs) (begun_none a k z) (list_none a (k + 1) zs)

  firing_none : (i order : ℕ) (z : ℤ) → calls_in f (firing_begun i order z) ≡ 0
  firing_none i order (pos d) =
      joined_none (begun_text dates (i - 1) (pos d)) (begun_text orders (i - 1) (pos order)) (begun_none dates (i - 1) (pos d))
      (begun_none orders (i - 1) (pos order))
  firing_none i order (negsuc d) = refl

  outset_none : (n : Parts) → calls_in f (outset_text n) ≡ 0
  outset_none n =
      joined_none (all_held n) (joined (first_states n) (joined (all_begun n) (where_ports n)))
      (upto_none (λ k. held_begun n (suc k)) (length n.specs) (λ k. list_none values (start_of n (suc k)) (first_held (spec_of n (suc k)))))
      (joined_none (first_states n) (joined (all_begun n) (where_ports n))
      (upto_none (λ k. state_begun n (suc k)) (length n.specs) (λ k. list_none states (places_of n (suc k)).state (first_state (spec_of n (suc k)))))
      (joined_none (all_begun n) (where_ports n)
      (upto_none (λ k. source_begun n (suc k)) (port_count n)
      (λ k. firing_none (suc k) (programmed_before n (suc k)) (firing_at n (source_of n (suc k)))))
      (where_none (nat_lt 0 (port_count n)) (clock_begun n)
      (joined_none (text_where (nat_lt 1 (port_count n)) (count_begun n)) until_asked
      (where_none (nat_lt 1 (port_count n)) (count_begun n) refl) refl))))

-- ---- a block's function

module _ (n : Parts) (rows : List (List Entry)) (b : ℕ) where
  abbrev name : Name
  name = block_name b

  abbrev own_texts : Bool
  own_texts = has_own n rows

  end_none : (e : Exp) (word : EndWord) (rest : Block) → calls_in name rest ≡ 0 → calls_in name (end_or e word rest) ≡ 0
  end_none e word rest h = omega (arith, h)

  react_none : (d i c : ℕ) → calls_in_statement name (react_step d i c) ≡ 0
  react_none zero i c = ap (calls_in_statement name) (react_last i c)
  react_none (suc d) i c =
      ap (calls_in_statement name) (react_more d i c)
      ∙ by_count (nat_lt (2 ^ d) c) (react_none d i (2 ^ d)) (react_none d (i + 2 ^ d) (c - 2 ^ d)) (react_none d i c)
    where
      by_count : (t : Bool) → calls_in_statement name (react_step d i (2 ^ d)) ≡ 0 → calls_in_statement name (react_step d (i + 2 ^ d) (c - 2 ^ d)) ≡ 0
          → calls_in_statement name (react_step d i c) ≡ 0
          → calls_in_statement name (if t then in_first i (2 ^ d) (react_step d i (2 ^ d)) (react_step d (i + 2 ^ d) (c - 2 ^ d)) else react_step d i c) ≡ 0
      by_count true p q r = omega (arith, p, q)
      by_count false p q r = r

  fire_none : calls_in name (fire_text own_texts n) ≡ 0
  fire_none =
      let clears = text_where (not own_texts) (one (call clear_name)) in
      let rest = next (react_step react_deep 0 (port_count n)) (one (call choose_name)) in
      let later : calls_in name (joined clears rest) ≡ 0
      = joined_none name clears rest (where_none name (not own_texts) (one (call clear_name)) refl) (omega (arith, react_none react_deep 0 (port_count n))) in
      let stale = one (set (cell fresh (bin Div (chosen_place (port_count n)) (natural 16))) (natural 0)) in
      let behind : calls_in name (joined (text_where (are_grouped (port_count n)) stale) (joined clears rest)) ≡ 0
      = joined_none name (text_where (are_grouped (port_count n)) stale) (joined clears rest) (where_none name (are_grouped (port_count n)) stale refl) later in
      omega (arith, behind)

  abbrev in_time : Block
  in_time = end_or (bin Gt (var next_date) (var until_name)) ends.Until (fire_text own_texts n)

  event_none : calls_in name (event_text own_texts n) ≡ 0
  event_none =
      either_none name (nat_lt 0 (port_count n)) (end_or (bin Lt (var next_date) (natural 0)) ends.Empty in_time) (one (tell (finish (natural 2))))
      (end_none (bin Lt (var next_date) (natural 0)) ends.Empty in_time (end_none (bin Gt (var next_date) (var until_name)) ends.Until (fire_text own_texts n) fire_none)) refl

  halted_none : (rest : Block) → calls_in name rest ≡ 0 → calls_in name (halted_or n rest) ≡ 0
  halted_none rest h = either_none name (has_halt n) (end_or (var halt_name) ends.Halt rest) rest (end_none (var halt_name) ends.Halt rest h) h

  turn_none : calls_in name (turn_text own_texts n) ≡ 0
  turn_none = halted_none (event_text own_texts n) event_none

  first_none : calls_in name (first_text n) ≡ 0
  first_none = either_none name (nat_lt 0 (port_count n)) (one (call choose_name)) (one (set (scalar next_date) (number (negsuc 0)))) refl refl

  begin_none : calls_in name (begin_text n) ≡ 0
  begin_none = joined_none name (outset_text n) (starting n) (outset_none name n) (omega (arith, first_none))

  main_none : calls_in name (main_text n) ≡ 0
  main_none =
      joined_none name (begin_text n) (running n) begin_none
      (omega (arith, halted_none (one (tell (finish (natural 1)))) refl))

  -- ---- calls in functions

  calls_both : (xs ys : List Function) → calls_in_functions name (xs ++ ys) ≡ calls_in_functions name xs + calls_in_functions name ys
  calls_both [] ys = omega arith
  calls_both (x ∷ xs) ys = omega (arith, calls_both xs ys)

  block_calls : (k : ℕ) → calls_in_functions name (functions_upto (own n rows) k) ≡ 0
  block_calls zero = refl
  block_calls (suc k) =
      omega (
        arith,
        calls_both (functions_upto (own n rows) k) (block_function n rows (suc k) ∷ []),
        block_calls k,
        body_none name n (is_scheduled rows (suc k)) (suc k),
      )

  functions_calls : (test : Bool) (fs : List Function) → calls_in_functions name fs ≡ 0 → calls_in_functions name (functions_where test fs) ≡ 0
  functions_calls true fs h = h
  functions_calls false fs h = refl

  shared_calls : calls_in_functions name (shared n) ≡ 0
  shared_calls =
      omega (
        arith,
        settle_none name (λ b. Marked) n,
        functions_calls (nat_lt 0 (port_count n)) (clear_function n ∷ []) (omega (arith, clear_none name n)),
      )

  other_calls : calls_in_functions name (other_functions own_texts n) ≡ 0
  other_calls =
      omega (
        arith,
        calls_both (functions_where (not own_texts) (shared n)) (chooses n),
        functions_calls (not own_texts) (shared n) shared_calls,
        functions_calls (nat_lt 0 (port_count n)) (choose_function n ∷ []) (omega (arith, choose_none name n)),
      )

  row_calls : (row : List Entry) → calls_in name (texts (entry_text own_texts n) row) ≡ count_of b (blocks_of row)
  row_calls [] = refl
  row_calls (e ∷ row) =
      calls_joined name (entry_text own_texts n e) (texts (entry_text own_texts n) row)
      ∙ (ap (λ (k : ℕ). k + calls_in name (texts (entry_text own_texts n) row)) (entry_calls name own_texts n e ∙ ap (λ (t : Bool). if t then 1 else 0) (same_eq e.block))
      ∙ ap (λ (k : ℕ). (if nat_eq b e.block then 1 else 0) + k) (row_calls row))
    where
      same_eq : (c : ℕ) → nat_eq c b ≡ nat_eq b c
      same_eq c = elim (cases_eq c b) [
        | inl e ↦ eq-eqb c b e ∙ sym (eq-eqb b c (sym e))
        | inr q ↦ ne_eqb c b q ∙ sym (ne_eqb b c (λ e. q (sym e)))
      ]

  following_none : (own : Bool) (row : List Entry) → calls_in name (following_text own n row) ≡ 0
  following_none true row = settle_none name (part_in n row) n
  following_none false row = refl

  source_calls : (i : ℕ) → calls_in name (source_function n rows i).body ≡ count_of b (blocks_of (slice_index_or rows i []))
  source_calls i =
      let row = slice_index_or rows i [] in
      let clearing = text_where own_texts (texts (cleared_text n) row) in
      omega (
        arith,
        calls_joined name (pass_text own_texts n (source_of n i) row) (following_text own_texts n row),
        calls_joined name (header_text (source_of n i)) (joined clearing (texts (entry_text own_texts n) row)),
        calls_joined name clearing (texts (entry_text own_texts n) row),
        header_none name (source_of n i),
        where_none name own_texts (texts (cleared_text n) row) (texts_none name (cleared_text n) row (cleared_none name n)),
        row_calls row,
        following_none own_texts row,
      )

  entries_next : (rs : List (List Entry)) (k : ℕ) → k < length rs
      → entries_of b (take (suc k) rs) ≡ entries_of b (take k rs) + count_of b (blocks_of (slice_index_or rs k []))
  entries_next [] k l = absurd (omega (arith, l))
  entries_next (r ∷ rs) zero l = omega arith
  entries_next (r ∷ rs) (suc k) l = omega (arith, entries_next rs k (omega (arith, l)))

  take_whole : (rs : List (List Entry)) → take (length rs) rs ≡ rs
  take_whole [] = refl
  take_whole (r ∷ rs) = ap (λ (l : List (List Entry)). r ∷ l) (take_whole rs)

  sources_calls : (k : ℕ) → k ≤ length rows → calls_in_functions name (functions_upto (source_function n rows) k) ≡ entries_of b (take k rows)
  sources_calls zero l = refl
  sources_calls (suc k) l =
      omega (
        arith,
        calls_both (functions_upto (source_function n rows) k) (source_function n rows k ∷ []),
        sources_calls k (omega (arith, l)),
        source_calls k,
        entries_next rows k (omega (arith, l)),
      )

  all_calls : length rows ≡ length (sources_of n) → calls_in_functions name (functions n rows) + calls_in name (main_text n) ≡ entries_of b rows
  all_calls enough =
      omega (
        arith,
        calls_both (called_functions n rows) (event_function own_texts n ∷ []),
        calls_both (blocks n rows ++ other_functions own_texts n) (sources n rows),
        calls_both (blocks n rows) (other_functions own_texts n),
        block_calls (length n.specs),
        other_calls,
        sources_calls (length (sources_of n)) (omega (arith, enough)),
        turn_none,
        main_none,
        ap (λ (k : ℕ). entries_of b (take k rows)) (sym enough) ∙ ap (entries_of b) (take_whole rows),
      )

  -- ---- the functions of its name

  named_both : (xs ys : List Function) → named_so name (xs ++ ys) ≡ named_so name xs ++ named_so name ys
  named_both [] ys = refl
  named_both (x ∷ xs) ys = by_name (same_name x.name name) (named_both xs ys)
    where
      by_name : (t : Bool) → named_so name (xs ++ ys) ≡ named_so name xs ++ named_so name ys
          → (if t then x ∷ named_so name (xs ++ ys) else named_so name (xs ++ ys))
          ≡ (if t then x ∷ named_so name xs else named_so name xs) ++ named_so name ys
      by_name true h = ap (λ (l : List Function). x ∷ l) h
      by_name false h = h

  other_named : named_so name (other_functions own_texts n) ≡ []
  other_named = by_tests own_texts (nat_lt 0 (port_count n))
    where
      by_tests : (o t : Bool) → named_so name (functions_where (not o) (settle_function n ∷ functions_where t (clear_function n ∷ []))
          ++ functions_where t (choose_function n ∷ [])) ≡ []
      by_tests true true = refl
      by_tests true false = refl
      by_tests false true = refl
      by_tests false false = refl

  sources_named : (k : ℕ) → named_so name (functions_upto (source_function n rows) k) ≡ []
  sources_named zero = refl
  sources_named (suc k) = named_both (functions_upto (source_function n rows) k) (source_function n rows k ∷ []) ∙ rw (sources_named k) refl

  one_named : (j : ℕ) (t : Bool) → nat_eq (suc j) b ≡ t → named_so name (own n rows j ∷ []) ≡ (if t then own n rows j ∷ [] else [])
  one_named j t e = ap (λ (q : Bool). if q then own n rows j ∷ [] else []) e

  before_named : (k : ℕ) → k < b → named_so name (functions_upto (own n rows) k) ≡ []
  before_named zero l = refl
  before_named (suc k) l =
      named_both (functions_upto (own n rows) k) (own n rows k ∷ [])
      ∙ rw (before_named k (omega (arith, l)), one_named k false (ne_eqb (suc k) b (λ e. omega (arith, e, l)))) refl

  blocks_named : 1 ≤ b → (k : ℕ) → b ≤ k → named_so name (functions_upto (own n rows) k) ≡ block_function n rows b ∷ []
  blocks_named lo zero l = absurd (omega (arith, lo, l))
  blocks_named lo (suc k) l = named_both (functions_upto (own n rows) k) (own n rows k ∷ []) ∙ elim (cases_eq (suc k) b) [
    | inl e ↦ rw (before_named k (omega (arith, e)), one_named k true (eq-eqb (suc k) b e)) (ap (λ (c : ℕ). block_function n rows c ∷ []) e)
    | inr q ↦ rw (blocks_named lo k (omega (arith, q, l)), one_named k false (ne_eqb (suc k) b q)) refl
  ]

  all_named : IsBlock n b → named_so name (functions n rows) ≡ block_function n rows b ∷ []
  all_named is =
      named_both (called_functions n rows) (event_function own_texts n ∷ [])
      ∙ (ap (λ (l : List Function). l ++ []) (named_both (blocks n rows ++ other_functions own_texts n) (sources n rows))
      ∙ (ap (λ (l : List Function). (l ++ named_so name (sources n rows)) ++ []) (named_both (blocks n rows) (other_functions own_texts n))
      ∙ rw (blocks_named is.least (length n.specs) is.most, other_named, sources_named (length (sources_of n))) refl))

  only_one : (g f : Function) → Contains (g ∷ []) f → g ≡ f
  only_one g f (zero, l, e) = e
  only_one g f (suc i, l, e) = absurd (omega (arith, l))

  unscheduled : (f : Function) → IsBlock n b → is_scheduled rows b ≡ false → Contains (named_so name (functions n rows)) f → f.body ≡ done
  unscheduled f is none c =
      let same : block_function n rows b ≡ f = only_one (block_function n rows b) f (subst (λ (l : List Function). Contains l f) (all_named is) c) in
      ap (λ (g : Function). g.body) (sym same) ∙ ap (λ (t : Bool). text_where t (body_text (spec_of n b) (places_of n b))) none

pub program_has_block_functions : ProgramHasBlockFunctions
program_has_block_functions n rows net schedule = record {
  one = λ b is. ap length (all_named n rows b is);
  calls = λ b is. all_calls n rows b schedule.enough;
  empty = λ b f is none c. unscheduled n rows b f is none c;
}
