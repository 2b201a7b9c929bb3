-- No reaction assigns what is of the run alone, where the texts of blocks do no more than they may.
use Rattle.std.proofs.Common.{◌≡◌, ℕ, zero, suc, ◌+◌, ◌-◌, ◌<◌, List, [], ◌∷◌, ◌++◌, length, Bool, true, false, not, ◌||◌, ◌&&◌, if◌then◌else◌, nat_eq, nat_lt, refl, sym, ap, subst, ℤ, slice_index_or}
use Rattle.std.proofs.lemmas.Bool.{and_from}
use Rattle.std.specs.Int.{bit_at}
use Rattle.sci_forms.specs.declared.ports.Port.{Port as Output}
use Rattle.sci_forms.specs.declared.spec.Spec.{Spec}
use Rattle.sci_forms.specs.Ports.{elements}
use Rattle.sci_forms.specs.Form.{is_sync, has_state}
use Rattle.sci_net.specs.declared.Source.{Source}
use Rattle.sci_net.specs.declared.Source.TheVariants.{Start, Port}
use Rattle.sci_net.specs.Parts.{Parts, spec_of}
use Rattle.sci_net.specs.Sources.{sources_of, source_of}
use Rattle.sci_reaction.specs.Schedule.{Guard, Entry}
use Rattle.sci_forms.specs.Form.{is_halt}
use Rattle.sci_places.specs.Flat.{start_of}
use Rattle.c_ast.specs.declared.Name.{Name}
use Rattle.c_ast.specs.Syntax.{Exp, Statement, scalar, cell, set, ask, choice, loop, call, tell, Block, done, next, Function}
use Rattle.c_mean.specs.Meaning.{World, Ran, same_name}
use Rattle.c_mean.specs.Texts.{May, place_name, takes, goes_on, statement_within, block_within, joined}
use Rattle.c_mean.specs.Runs.{Leaves}
use Rattle.c_mean.specs.Programs.{surroundings, functions_within}
use Rattle.c_mean.proofs.Memory.{and_left, and_right, other_name, not_same}
use Rattle.c_mean.proofs.Texts.{joined_within, upto_within}
use Rattle.c_mean.proofs.Frames.{block_leaves}
use Rattle.c_mean.proofs.Programs.{functions_leave}
use Rattle.sci_cgen_blocks.specs.Terms.{is_looped}
use Rattle.sci_cgen_blocks.specs.Texts.{masks, body_text, next_text, delay_expression, branch_expression}
use Rattle.sci_cgen_blocks.specs.Meant.{body_may, next_may}
use Rattle.sci_cgen_blocks.specs.Laws.{MayLaw}
use Rattle.sci_due.specs.Due.{best as chosen_name, due_table}
use Rattle.sci_due.specs.declared.due_table.DueTable.{DueTable}
use Rattle.sci_due.specs.declared.due_table.DueTable.TheVariants.{Dates, Orders, Groups}
use Rattle.sci_due.specs.Texts.{delayed_text}
use Rattle.sci_due.proofs.Pending.{delayed_form}
use Rattle.sci_program.specs.declared.part.Part.{Part}
use Rattle.sci_program.specs.declared.part.Part.TheVariants.{Absent, Sure, Marked, Taken}
use Rattle.sci_program.specs.Names.{actives, branches, limit_name, until_name, fired_name, halt_name, settle_name, clear_name, choose_name}
use Rattle.sci_program.specs.Program.{has_own, port_count, natural, one, part_in, is_active, where_part, is_taken, text_where, only_where, each_block, each_port, texts, mark, with_bit, with_bits, guard_text, call_text, entry_text, cleared_text, header_text, pass_text, following_text, row_text, elements_shown, outputs_shown, values_shown, delay_text, state_text, halt_text, settle_text, shared_text, clear_text, choose_text, places_of, is_scheduled, block_function, source_function, functions_upto, functions_where, other_functions, looped_shown, output_shown, part_by, entry_part, is_marked, has_taken}
use Rattle.sci_forms.specs.Form.{reads_mask}
use Rattle.sci_program_laws.proofs.Ready.{is_of_run, may_call, reacting}
use Rattle.sci_program.proofs.Called.{block_functions, before_source, AreReactions}

-- ---- what may do more

record IsWider (a b : May) : Type 0 where
  assign : (x : Name) → a.assign x ≡ true → b.assign x ≡ true
  call : (f : Name) → a.call f ≡ true → b.call f ≡ true
  take : a.take ≡ true → b.take ≡ true
  show : a.show ≡ true → b.show ≡ true

either : (s t u : Bool) → (s ≡ true → t ≡ true) → s || u ≡ true → t || u ≡ true
either true t u f h = ap (λ (t : Bool). t || u) (f refl)
either false true u f h = refl
either false false u f h = h

module _ (a b : May) (w : IsWider a b) where
  mutual
    statement_wider : (s : Statement) → statement_within a s ≡ true → statement_within b s ≡ true
    statement_wider (set p e) h = w.assign (place_name p) h
    statement_wider (ask p q) h =
        and_from _ _ (w.assign (place_name p) (and_left _ _ h)) (either a.take b.take (not (takes q)) w.take (and_right (a.assign (place_name p)) _ h))
    statement_wider (choice e x y) h = and_from _ _ (block_wider x (and_left _ (block_within a y) h)) (block_wider y (and_right (block_within a x) _ h))
    statement_wider (loop x n s) h = and_from _ _ (w.assign x (and_left _ (block_within a s) h)) (block_wider s (and_right (a.assign x) _ h))
    statement_wider (call f) h = w.call f h
    statement_wider (tell t) h = either a.show b.show (not (goes_on t)) w.show h

    block_wider : (t : Block) → block_within a t ≡ true → block_within b t ≡ true
    block_wider done h = refl
    block_wider (next s t) h =
        and_from _ _ (statement_wider s (and_left _ (block_within a t) h)) (block_wider t (and_right (statement_within a s) _ h))

-- names that a test tells apart from those of the run
of_others : (test : Name → Bool) (x : Name) → test limit_name ≡ false → test until_name ≡ false → test fired_name ≡ false → test chosen_name ≡ false
    → test x ≡ true → not (is_of_run x) ≡ true
of_others test x p q r s h =
    all (same_name limit_name x) (same_name until_name x) (same_name fired_name x) (same_name chosen_name x)
    (not_same x limit_name (other_name test x limit_name h p)) (not_same x until_name (other_name test x until_name h q))
    (not_same x fired_name (other_name test x fired_name h r)) (not_same x chosen_name (other_name test x chosen_name h s))
  where
    all : (a b c d : Bool) → a ≡ false → b ≡ false → c ≡ false → d ≡ false → not (a || (b || (c || d))) ≡ true
    all a b c d e f g h = rw (e, f, g, h) refl

none_true : (t : Bool) → false ≡ true → t ≡ true
none_true t h = cc

body_wider : (s : Spec) → IsWider (body_may s) reacting
body_wider s = record {
  assign = λ x h. of_others (body_may s).assign x refl refl refl refl h;
  call = λ f h. none_true (may_call f) h;
  take = λ h. refl;
  show = λ h. refl;
}

next_wider : IsWider next_may reacting
next_wider = record {
  assign = λ x h. of_others next_may.assign x refl refl refl refl h;
  call = λ f h. none_true (may_call f) h;
  take = λ h. refl;
  show = λ h. refl;
}

-- ---- words

where_within : (t : Bool) (a : Block) → block_within reacting a ≡ true → block_within reacting (text_where t a) ≡ true
where_within true a h = h
where_within false a h = refl

only_within : (e : Exp) (a : Block) → block_within reacting a ≡ true → block_within reacting (only_where e a) ≡ true
only_within e a h = rw h refl

if_within : (t : Bool) (a b : Block) → block_within reacting a ≡ true → block_within reacting b ≡ true → block_within reacting (if t then a else b) ≡ true
if_within true a b h k = h
if_within false a b h k = k

texts_within : {A : Type 0} (f : A → Block) (xs : List A) → ((x : A) → block_within reacting (f x) ≡ true) → block_within reacting (texts f xs) ≡ true
texts_within f [] h = refl
texts_within f (x ∷ xs) h = joined_within reacting (f x) (texts f xs) (h x) (texts_within f xs h)

-- ---- a source's function

header_within : (s : Source) → block_within reacting (header_text s) ≡ true
header_within Start = refl
header_within (Port q) = refl

module _ (n : Parts) where
  bits_within : (b mask m : ℕ) → block_within reacting (with_bits b mask m) ≡ true
  bits_within b mask m = upto_within reacting (λ p. text_where (nat_eq (bit_at mask p) 1) (with_bit b p)) m
      (λ p l. where_within (nat_eq (bit_at mask p) 1) (with_bit b p) refl)

  guard_within : (e : Entry) (g : Guard) → block_within reacting (guard_text n e g) ≡ true
  guard_within e g =
      let marks = text_where (not e.always) (mark e.block) in
      let bits = with_bits e.block g.mask (spec_of n e.block).evtin in
      let masked = text_where (reads_mask (spec_of n e.block).kind) bits in
      only_within (is_taken g) (joined marks masked) (joined_within reacting marks masked (where_within (not e.always) (mark e.block) refl)
      (where_within (reads_mask (spec_of n e.block).kind) bits (bits_within e.block g.mask (spec_of n e.block).evtin)))

  call_within : (b : ℕ) → block_within reacting (call_text n b) ≡ true
  call_within b =
      where_within (is_sync (spec_of n b).kind) (one (set (cell branches (natural (b - 1))) (branch_expression (spec_of n b) (places_of n b)))) refl

  part_within : (p : Part) (b : ℕ) (a : Block) → block_within reacting a ≡ true → block_within reacting (where_part p b a) ≡ true
  part_within Absent b a h = refl
  part_within Sure b a h = h
  part_within Marked b a h = only_within (is_active b) a h
  part_within (Taken q) b a h = only_within (has_taken q) a h

  entry_within : (own : Bool) (e : Entry) → block_within reacting (entry_text own n e) ≡ true
  entry_within own e =
      let reads = reads_mask (spec_of n e.block).kind in
      let marks = text_where (not own && e.always) (mark e.block) in
      let first = one (set (cell masks (natural (e.block - 1))) (natural e.mask)) in
      let guards = texts (guard_text n e) e.guards in
      let last = where_part (entry_part own n e) e.block (call_text n e.block) in
      let wanted = is_marked (entry_part own n e) || reads in
      let guarded = text_where wanted guards in
      joined_within reacting marks (joined (text_where reads first) (joined guarded last)) (where_within (not own && e.always) (mark e.block) refl)
      (joined_within reacting (text_where reads first) (joined guarded last) (where_within reads first refl)
      (joined_within reacting guarded last (where_within wanted guards (texts_within (guard_text n e) e.guards (guard_within e)))
      (part_within (entry_part own n e) e.block (call_text n e.block) (call_within e.block))))

  cleared_within : (e : Entry) → block_within reacting (cleared_text n e) ≡ true
  cleared_within e =
      let active = one (set (cell actives (natural (e.block - 1))) (natural 0)) in
      let branch = one (set (cell branches (natural (e.block - 1))) (natural 0)) in
      joined_within reacting (text_where (is_marked (part_by n e)) active) (text_where (is_sync (spec_of n e.block).kind) branch)
      (where_within (is_marked (part_by n e)) active refl)
      (where_within (is_sync (spec_of n e.block).kind) branch refl)

  pass_within : (own : Bool) (s : Source) (row : List Entry) → block_within reacting (pass_text own n s row) ≡ true
  pass_within own s row =
      let first = text_where own (texts (cleared_text n) row) in
      joined_within reacting (header_text s) (joined first (texts (entry_text own n) row)) (header_within s)
      (joined_within reacting first (texts (entry_text own n) row)
      (where_within own (texts (cleared_text n) row) (texts_within (cleared_text n) row cleared_within))
      (texts_within (entry_text own n) row (entry_within own)))

  -- ---- the function that settles

  elements_within : (b p e o m : ℕ) → block_within reacting (elements_shown b p e o m) ≡ true
  elements_within b p e o zero = refl
  elements_within b p e o (suc m) = elements_within b p (e + 1) (o + 1) m

  output_within : (b p o m : ℕ) → block_within reacting (output_shown b p o m) ≡ true
  output_within b p o m =
      if_within (is_looped m) (one (looped_shown b p o m)) (elements_shown b p 1 o m) refl (elements_within b p 1 o m)

  outputs_within : (b p o : ℕ) (qs : List Output) → block_within reacting (outputs_shown b p o qs) ≡ true
  outputs_within b p o [] = refl
  outputs_within b p o (q ∷ qs) =
      joined_within reacting (output_shown b p o (elements q)) (outputs_shown b (p + 1) (o + elements q) qs) (output_within b p o (elements q))
      (outputs_within b (p + 1) (o + elements q) qs)

  delayed_within : (table : DueTable) (i : ℕ) (e : Exp) → block_within reacting (delayed_text table i e) ≡ true
  delayed_within Dates i e = delayed_form (λ (t : Block). block_within reacting t ≡ true) Dates i e (λ d q. refl) refl
  delayed_within Orders i e = delayed_form (λ (t : Block). block_within reacting t ≡ true) Orders i e (λ d q. refl) refl
  delayed_within Groups i e = delayed_form (λ (t : Block). block_within reacting t ≡ true) Groups i e (λ d q. refl) refl

  module _ (part : ℕ → Part) where
    shown_within : (b : ℕ) → block_within reacting (values_shown n part b) ≡ true
    shown_within b =
        let shown = outputs_shown b 1 (start_of n b) (spec_of n b).outs in
        where_within (nat_lt 0 (length (spec_of n b).outs)) (where_part (part b) b shown)
        (part_within (part b) b shown (outputs_within b 1 (start_of n b) (spec_of n b).outs))

    delay_within : (i : ℕ) (s : Source) → block_within reacting (delay_text n part i s) ≡ true
    delay_within i Start = refl
    delay_within i (Port q) =
        part_within (part q.block) q.block (delayed_text (due_table (port_count n)) (i - 1) (delay_expression (spec_of n q.block) (places_of n q.block)))
        (delayed_within (due_table (port_count n)) (i - 1) (delay_expression (spec_of n q.block) (places_of n q.block)))

    state_within : MayLaw → (b : ℕ) → block_within reacting (state_text n part b) ≡ true
    state_within law b =
        let text = next_text (spec_of n b) (places_of n b) in
        where_within (has_state (spec_of n b).kind) (where_part (part b) b text)
        (part_within (part b) b text (block_wider next_may reacting next_wider text (law.next (spec_of n b) (places_of n b))))

    halt_within : (b : ℕ) → block_within reacting (halt_text n part b) ≡ true
    halt_within b =
        let text = one (set (scalar halt_name) (natural 1)) in
        where_within (is_halt (spec_of n b).kind) (where_part (part b) b text) (part_within (part b) b text refl)

    settle_within : MayLaw → block_within reacting (settle_text n part) ≡ true
    settle_within law =
        let shown = each_block (values_shown n part) n in
        let delays = each_port (λ i. delay_text n part i (source_of n i)) n in
        let state = each_block (state_text n part) n in
        let flags = each_block (halt_text n part) n in
        joined_within reacting shown (joined delays (joined state flags))
        (upto_within reacting (λ k. values_shown n part (suc k)) (length n.specs) (λ k l. shown_within (suc k)))
        (joined_within reacting delays (joined state flags)
        (upto_within reacting (λ k. delay_text n part (suc k) (source_of n (suc k))) (port_count n) (λ k l. delay_within (suc k) (source_of n (suc k))))
        (joined_within reacting state flags (upto_within reacting (λ k. state_text n part (suc k)) (length n.specs) (λ k l. state_within law (suc k)))
        (upto_within reacting (λ k. halt_text n part (suc k)) (length n.specs) (λ k l. halt_within (suc k)))))

  following_within : MayLaw → (own : Bool) (row : List Entry) → block_within reacting (following_text own n row) ≡ true
  following_within law true row = settle_within (part_in n row) law
  following_within law false row = refl

  row_within : MayLaw → (own : Bool) (s : Source) (row : List Entry) → block_within reacting (row_text own n s row) ≡ true
  row_within law own s row =
      joined_within reacting (pass_text own n s row) (following_text own n row) (pass_within own s row) (following_within law own row)

-- ---- functions

functions_joined : (fs gs : List Function) → functions_within reacting fs ≡ true → functions_within reacting gs ≡ true
    → functions_within reacting (fs ++ gs) ≡ true
functions_joined [] gs h k = k
functions_joined (f ∷ fs) gs h k =
    and_from _ _ (and_left _ (functions_within reacting fs) h)
    (functions_joined fs gs (and_right (not (reacting.call f.name) || block_within reacting f.body) _ h) k)

upto_functions : (f : ℕ → Function) (m : ℕ) → ((k : ℕ) → functions_within reacting (f k ∷ []) ≡ true) → functions_within reacting (functions_upto f m) ≡ true
upto_functions f zero h = refl
upto_functions f (suc m) h = functions_joined (functions_upto f m) (f m ∷ []) (upto_functions f m h) (h m)

module _ (law : MayLaw) (n : Parts) (rows : List (List Entry)) where
  blocks_within : functions_within reacting (block_functions n rows) ≡ true
  blocks_within =
      upto_functions (λ k. block_function n rows (suc k)) (length n.specs) (λ k.
      let text = body_text (spec_of n (suc k)) (places_of n (suc k)) in
      and_from (block_within reacting (text_where (is_scheduled rows (suc k)) text)) true (where_within (is_scheduled rows (suc k)) text
      (block_wider (body_may (spec_of n (suc k))) reacting (body_wider (spec_of n (suc k))) text (law.body (spec_of n (suc k)) (places_of n (suc k))))) refl)

  others_within : functions_within reacting (other_functions (has_own n rows) n) ≡ true
  others_within = by_tests (has_own n rows) (nat_lt 0 (port_count n))
    where
      rest : (t : Bool) → functions_within reacting (functions_where t (record { name = clear_name; body = clear_text n } ∷ [])
          ++ functions_where t (record { name = choose_name; body = choose_text n } ∷ [])) ≡ true
      rest true = refl
      rest false = refl

      by_tests : (o t : Bool) → functions_within reacting (functions_where (not o) (record { name = settle_name; body = shared_text n }
          ∷ functions_where t (record { name = clear_name; body = clear_text n } ∷ []))
          ++ functions_where t (record { name = choose_name; body = choose_text n } ∷ [])) ≡ true
      by_tests true true = refl
      by_tests true false = refl
      by_tests false t = and_from (block_within reacting (shared_text n)) _ (settle_within n (λ b. Marked) law) (rest t)

  before_within : (k : ℕ) → functions_within reacting (before_source n rows k) ≡ true
  before_within k =
      functions_joined (block_functions n rows) (other_functions (has_own n rows) n ++ functions_upto (source_function n rows) k) blocks_within
      (functions_joined (other_functions (has_own n rows) n) (functions_upto (source_function n rows) k) others_within
      (upto_functions (source_function n rows) k (λ j. refl)))

  module _ (last most : ℤ) (react : ℕ → World → Ran) (are : AreReactions n rows last most react) where
    pub reacts_leaves : (k : ℕ) → k < length (sources_of n) → (w : World) → Leaves reacting w (react k w)
    reacts_leaves k l w =
        let c = are.source k l in
        subst (λ (run : World → Ran). Leaves reacting w (run w)) (sym c.1)
        (block_leaves (surroundings (before_source n rows k) last most) reacting (functions_leave reacting (before_source n rows k) last most (before_within k))
        (row_text (has_own n rows) n (source_of n k) (slice_index_or rows k []))
        (row_within n law (has_own n rows) (source_of n k) (slice_index_or rows k [])) c.0 w)
