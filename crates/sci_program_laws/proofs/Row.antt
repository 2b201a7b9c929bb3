-- The text of a source's row does the pass over the row.
use Rattle.std.proofs.Common.{◌≡◌, ℕ, ◌+◌, ◌-◌, inl, inr, ◌⊎◌, List, [], ◌∷◌, ◌++◌, drop, append_assoc, Contains, Some, Bool, true, false, not, ◌||◌, if◌then◌else◌, Result, Ok, Err, refl, sym, ap, ◌∙◌, subst, arith, ℤ, pos, true≢false}
use Rattle.std.specs.List.{list_any}
use Rattle.std.proofs.lemmas.Bool.{cases_eq}
use Rattle.std.proofs.lemmas.List.{append-nil}
use Rattle.sci_base.specs.declared.observation.Obs.{Obs}
use Rattle.sci_base.specs.declared.observation.StopWord.{StopWord}
use Rattle.sci_forms.specs.declared.Kind.{Kind}
use Rattle.sci_forms.specs.declared.Kind.TheVariants.{Select, AndLog}
use Rattle.sci_forms.specs.Ports.{Fills}
use Rattle.sci_forms.specs.Form.{is_sync}
use Rattle.sci_kinds.specs.Asks.{IsMask}
use Rattle.sci_net.specs.declared.Source.{Source}
use Rattle.sci_net.specs.declared.Source.TheVariants.{Start, Port}
use Rattle.sci_net.specs.Parts.{Parts, IsBlock, IsSensor, numbered, spec_of, column_of}
use Rattle.sci_forms.specs.Form.{is_sensor}
use Rattle.sci_net.specs.Net.{IsNet}
use Rattle.sci_reaction.specs.Depends.{IsLoopFree}
use Rattle.sci_reaction.specs.Memory.{Memory, Columns, IsMemory, AreColumns}
use Rattle.sci_reaction.specs.Equations.{Signals, AreInRange, input_in, all_inputs, branch_on, answer}
use Rattle.sci_reaction.specs.Schedule.{Guard, Entry, blocks_of, branch_of, IsRow}
use Rattle.sci_reaction.specs.Pass.{Progress, put, at_rest, is_taken as is_taken_in, applies, mask_in, with_values, IsFront, IsNext}
use Rattle.sci_reaction.proofs.Lists.{put_same, put_other, Has-left}
use Rattle.sci_reaction.proofs.Rows.{Contains-has, has-Contains}
use Rattle.sci_reaction.proofs.Steps.{pass_begins, pass_goes_on}
use Rattle.sci_reaction.proofs.Masks.{mask_in_range}
use Rattle.sci_reaction.proofs.Fills.{answer_in_range, inputs_in_range}
use Rattle.sci_pass.proofs.Stays.{branch_stays, applied_is_done}
use Rattle.sci_run.specs.Observed.{header}
use Rattle.c_ast.specs.declared.Name.{Name}
use Rattle.c_ast.specs.Syntax.{Block, done, set, cell, var}
use Rattle.c_mean.specs.Meaning.{World, Around, Ran, truth, run_block, then_run, behind}
use Rattle.c_mean.specs.Places.{get, value_of}
use Rattle.c_mean.specs.Texts.{joined}
use Rattle.c_mean.specs.Runs.{Leads}
use Rattle.c_mean.proofs.Memory.{put_there, put_apart}
use Rattle.c_mean.proofs.Steps.{joined_runs, joined_leads, done_leads, run_done, then_leads, then_stops, on_leads, test_runs, call_runs, cell_runs, start_runs, event_runs}
use Rattle.sci_cgen_blocks.specs.Texts.{states as states_name, branch_expression}
use Rattle.sci_cgen_blocks.specs.Laws.{BranchLaw}
use Rattle.sci_due.specs.Due.{now as now_name}
use Rattle.sci_program.specs.Names.{branches, block_name}
use Rattle.sci_program.specs.declared.part.Part.{Part}
use Rattle.sci_program.specs.declared.part.Part.TheVariants.{Absent, Sure, Marked, Taken}
use Rattle.sci_program.specs.Program.{natural, one, texts, text_where, places_of, part_by, entry_part, is_marked, is_active, has_taken, where_part, call_text, entry_text, cleared_text, pass_text}
use Rattle.sci_forms.specs.Form.{reads_mask}
use Rattle.sci_program.specs.Shows.{ShowsValues, ShowsStates, ShowsColumns, ShowsBranches, ShowsPass, HasRoom, IsIdle, TellsBranch, Acts, branch_so_far, is_asked, is_told, is_worked}
use Rattle.sci_program.specs.Passes.{IsDated, ShowsNet, HasCalled, Gives, AreCalled, cursors, HasPassed, PassStops, Passes}
use Rattle.sci_program.proofs.Marks.{IsMarked, wants_mark, takes_port, or_true, or_false, entry_marks}
use Rattle.sci_program.proofs.Entries.{few_inputs, here_in_row, block_here, mask_few, guarding, guard_possible, fresh, done_next}
use Rattle.sci_program.proofs.Staying.{taken_test}
use Rattle.sci_program_laws.proofs.Taking.{asked_here, told_of, part_acts, row_cleared}
use Rattle.sci_program.proofs.Given.{holds_unread}
use Rattle.sci_program_laws.proofs.Found.{ShowsMost, with_branches, other_block, marked_shows, idle_shows, called_same, called_shows, branched_shows}

sync_reads : (k : Kind) → is_sync k ≡ true → reads_mask k ≡ false
sync_reads Select h = absurd (true≢false (sym h))
sync_reads AndLog h = absurd (true≢false (sym h))
sync_reads _ h = refl

module _ (env : Around) (n : Parts) (net : IsNet n) (scratch : ℕ) (i : Columns) (columns : AreColumns n i) (m : Memory) (memory : IsMemory n m)
    (law : BranchLaw) (s : Source) (free : IsLoopFree n s) (own : Bool) (row : List Entry) (is : IsRow n s row) (before : World)
    (states : ShowsStates n m.state before)
    (called : AreCalled env n scratch i m row) where
  -- states are as they were before
  abbrev asked : ℕ → Bool
  asked = is_asked own n row

  abbrev told : ℕ → Bool
  told = is_told own row

  states_still : (cursor : ℕ → ℕ) (y : Signals) (active : ℕ → Bool) (w : World) → ShowsMost n scratch i asked cursor y active before w → ShowsStates n m.state w
  states_still cursor y active w h = record { each = λ b j k l. h.kept states_name _ refl ∙ states.each b j k l }

  -- ---- one entry

  module _ (pre post : List Entry) (e : Entry) (split : row ≡ pre ++ e ∷ post) (w : World) (h : HasPassed n scratch i asked told m s pre before w) where
    abbrev b : ℕ
    b = e.block

    abbrev g : Progress
    g = h.found

    abbrev mask : ℕ
    mask = mask_in n g e

    abbrev cursor : ℕ → ℕ
    cursor = cursors n m g.applied

    abbrev Goes : Ran → Type 0
    Goes r = Leads r (HasPassed n scratch i asked told m s (pre ++ e ∷ []) before) ⊎ PassStops n i m s [] r

    block : IsBlock n b
    block = block_here n s net free row is pre post e split

    in_row : Contains (blocks_of row) b
    in_row = here_in_row n s net free row is pre post e split

    asked_is : asked b ≡ wants_mark own n e
    asked_is = asked_here own n row pre post e split (fresh n s net free row is pre post e split)

    -- the blocks of the row are told of
    in_told : (c : ℕ) → Contains (blocks_of row) c → told c ≡ true
    in_told c k = told_of own row c k

    guards_told : (q : Guard) → Contains e.guards q → told q.block ≡ true
    guards_told q k = in_told q.block ((is.exactly q.block).1 (guard_possible n s net free row is pre post e split q k))

    step : IsNext n m i s (blocks_of pre) g e
    step = pass_goes_on n m i s net free row is pre post e g split h.front

    off : g.applied b ≡ false
    off = (h.front.rests b (fresh n s net free row is pre post e split)).0

    cursor_here : cursor b ≡ m.cursor b
    cursor_here = ap (λ (t : Bool). if t then (if is_sensor (spec_of n b).kind then m.cursor b + 1 else m.cursor b) else m.cursor b) off

    goes_then : (r : Ran) (k : ℕ) → Goes r → Goes (then_run r (run_block env k done))
    goes_then r k (inl l) = inl (then_leads r (run_block env k done) l (λ w' d. done_leads env k w' d))
    goes_then r k (inr x) = inr (record { block = x.block; word = x.word; result = x.result; is = then_stops r (run_block env k done) x.word x.block x.is })

    -- the block isn't active
    idle : applies n g e ≡ false → (k : ℕ) (v : World) → IsMarked n (asked b) b false (pos mask) w v → Goes (run_block env k done v)
    idle no_entry k v marked =
        inl (done_leads env k v (record {
          found = g;
          front = subst (λ bs. IsFront n m i s bs g) (sym (done_next n s net free row is pre post e split)) (step.idle no_entry);
          in_range = h.in_range;
          shows = idle_shows n scratch i asked told b block cursor g before w v h.shows (pos mask) marked off;
        }))

    abbrev branch_text : Block
    branch_text = one (set (cell branches (natural (b - 1))) (branch_expression (spec_of n b) (places_of n b)))

    abbrev tail : Block
    tail = text_where (is_sync (spec_of n b).kind) branch_text

    module _ (on : applies n g e ≡ true) where
      is_mask : IsMask (spec_of n b) mask
      is_mask = mask_in_range n s g.values b mask net (step.applies_is.0 on) step.mask_is

      module _ (v : World) (marked : IsMarked n (asked b) b true (pos mask) w v) where
        most : ShowsMost n scratch i asked cursor g.values (put g.applied b true) before v
        most = marked_shows n scratch i asked told b block cursor g before w v h.shows true (pos mask) marked

        stands : ShowsNet n scratch i m cursor g.values b mask v
        stands = record {
          values = most.values;
          states = states_still cursor g.values (put g.applied b true) v most;
          columns = most.columns;
          cursor_is = cursor_here;
          mask_is = marked.mask;
          room = most.room;
        }

        -- behind its values
        module _ (vs : List ℤ) (gives : answer n m i b mask (input_in n g.values b) ≡ Ok vs) (u : World) (k : HasCalled n i b vs cursor v u) where
          abbrev more : Progress
          more = with_values g b vs

          filled : Fills (spec_of n b).outs vs
          filled =
              answer_in_range n m i net memory columns b mask (input_in n g.values b) vs block is_mask (inputs_in_range n net g.values b block h.in_range) gives

          more_in_range : AreInRange n more.values
          more_in_range c inside = elim (cases_eq c b) [
            | inl q ↦ subst (λ (xs : List ℤ). Fills (spec_of n c).outs xs) (sym (put_same g.values b vs c q))
                (subst (λ d. Fills (spec_of n d).outs vs) (sym q) filled)
            | inr d ↦ subst (λ (xs : List ℤ). Fills (spec_of n c).outs xs) (sym (put_other g.values b vs c d)) (h.in_range c inside)
          ]

          pick : (t u : Bool) (x y : ℕ) → t ≡ true → u ≡ true → x ≡ (if t then (if u then x else y) else y)
          pick t u x y p q = rw (p, q) refl

          cursor_more : (c : ℕ) → IsSensor n c → put cursor b (cursor b + 1) c ≡ cursors n m more.applied c
          cursor_more c sensor = elim (cases_eq c b) [
            | inl q ↦ put_same cursor b (cursor b + 1) c q
                ∙ (ap (λ (j : ℕ). j + 1) (cursor_here ∙ ap m.cursor (sym q))
                ∙ pick (more.applied c) (is_sensor (spec_of n c).kind) (m.cursor c + 1) (m.cursor c) (put_same g.applied b true c q) sensor.sensor)
            | inr d ↦ put_other cursor b (cursor b + 1) c d
                ∙ ap (λ (t : Bool). if t then (if is_sensor (spec_of n c).kind then m.cursor c + 1 else m.cursor c) else m.cursor c)
                (sym (put_other g.applied b true c d))
          ]

          shown : ShowsMost n scratch i asked (cursors n m more.applied) more.values more.applied before u
          shown =
              let a = called_shows n scratch i asked told b block cursor g.values (put g.applied b true) before v u most vs k in
              record {
                values = a.values;
                active_are = a.active_are;
                columns = record {
                  each = λ c sensor. a.columns.each c sensor ∙ ap (λ (j : ℕ). drop j (numbered [] i (column_of (spec_of n c)))) (cursor_more c sensor);
                };
                room = a.room;
                kept = a.kept;
              }

          abbrev taken : ℕ
          taken = branch_on (spec_of n b) (input_in n more.values b)

          abbrev chosen : ℕ → Bool → ℕ
          chosen c t = if t then branch_on (spec_of n c) (input_in n more.values c) else 0

          -- the branches of the blocks that are done stay
          still : (c : ℕ) → (c ≡ b → ⊥) → branch_so_far n g c ≡ branch_so_far n more c
          still c d = by_applied (g.applied c) refl
            where
              among : g.applied c ≡ true → Contains (blocks_of pre ++ e.block ∷ []) c
              among a =
                  has-Contains (blocks_of pre ++ e.block ∷ []) c
                  (Has-left (blocks_of pre) (e.block ∷ []) c (Contains-has (blocks_of pre) c (applied_is_done n m i s (blocks_of pre) g c h.front a)))

              by_applied : (t : Bool) → g.applied c ≡ t → branch_so_far n g c ≡ branch_so_far n more c
              by_applied true a =
                  ap (λ (t : Bool). if t then branch_on (spec_of n c) (input_in n g.values c) else 0) a
                  ∙ (sym (branch_stays n s net free row is pre post e split c (among a) g.values vs)
                  ∙ ap (chosen c) (sym (put_other g.applied b true c d ∙ a)))
              by_applied false a =
                  ap (λ (t : Bool). if t then branch_on (spec_of n c) (input_in n g.values c) else 0) a
                  ∙ ap (chosen c) (sym (put_other g.applied b true c d ∙ a))

          branches_more : (x : World) → (is_sync (spec_of n b).kind ≡ true → get x branches (b - 1) ≡ Some (pos taken))
              → ((c : ℕ) → IsBlock n c → (c ≡ b → ⊥) → get x branches (c - 1) ≡ get w branches (c - 1)) → ShowsBranches n told more x
          branches_more x here others = record {
            each = λ c inside known sync. elim (cases_eq c b) [
              | inl q ↦ ap (λ d. get x branches (d - 1)) q
                  ∙ (here (subst (λ d. is_sync (spec_of n d).kind ≡ true) q sync)
                  ∙ (ap (λ d. Some (pos (branch_on (spec_of n d) (input_in n more.values d)))) (sym q)
                  ∙ ap (λ (t : Bool). Some (pos (if t then branch_on (spec_of n c) (input_in n more.values c) else 0))) (sym (put_same g.applied b true c q))))
              | inr d ↦ others c inside d ∙ (h.shows.branches.each c inside known sync ∙ ap (λ j. Some (pos j)) (still c d))
            ];
          }

          passed : (x : World) → ShowsMost n scratch i asked (cursors n m more.applied) more.values more.applied before x → ShowsBranches n told more x
              → HasPassed n scratch i asked told m s (pre ++ e ∷ []) before x
          passed x a c = record {
            found = more;
            front = subst (λ bs. IsFront n m i s bs more) (sym (done_next n s net free row is pre post e split)) (step.valued vs on gives);
            in_range = more_in_range;
            shows = with_branches n scratch i asked told (cursors n m more.applied) more before x a c;
          }

          -- up to the call no branch changes
          old_branch : (c : ℕ) → get u branches (c - 1) ≡ get w branches (c - 1)
          old_branch c =
              called_same n scratch i asked told b block cursor g.values (put g.applied b true) before v u most vs k branches (c - 1) refl refl
              ∙ marked.same branches (c - 1) refl (λ r. refl)

          branch_value : is_sync (spec_of n b).kind ≡ true → value_of (branch_expression (spec_of n b) (places_of n b)) u ≡ Some (pos taken)
          unfolding branch_on
          branch_value sync =
              law (spec_of n b) (places_of n b) (m.state b) 0 (all_inputs (spec_of n b) (input_in n more.values b)) u (net.typed_specs b block) sync
              (inputs_in_range n net more.values b block more_in_range)
              (holds_unread n net more.values (λ c inside. (more_in_range c inside).enough) u shown.values b (m.state b) block
              (sync_reads (spec_of n b).kind sync)
              (λ j l. (states_still (cursors n m more.applied) more.values more.applied u shown).each b j block l))

          tail_goes : (j : ℕ) → Goes (run_block env j (text_where (is_sync (spec_of n b).kind) branch_text) u)
          tail_goes j = by_sync (is_sync (spec_of n b).kind) refl
            where
              by_sync : (t : Bool) → is_sync (spec_of n b).kind ≡ t → Goes (run_block env j (text_where t branch_text) u)
              by_sync true sync =
                  cell_runs Goes env j branches (b - 1) (branch_expression (spec_of n b) (places_of n b)) done u (pos taken) (branch_value sync)
                  (record { holds = pos (branch_so_far n g b); is = old_branch b ∙ h.shows.branches.each b block (in_told b in_row) sync })
                  (λ j' x p. inl (done_leads env j' x (passed x
                  (branched_shows n scratch i asked told b block (cursors n m more.applied) more.values more.applied before u x shown (pos taken) p)
                  (branches_more x (λ q. put_there u x branches (b - 1) (pos taken) p)
                  (λ c inside d. put_apart u x branches (b - 1) (pos taken) branches (c - 1) p (other_block n b c block inside d) ∙ old_branch c)))))
              by_sync false sync =
                  inl (done_leads env j u (passed u shown (branches_more u (λ q. absurd (true≢false (sym q ∙ sync))) (λ c inside d. old_branch c))))

        -- the call
        call_goes : (k : ℕ) → Goes (run_block env k (call_text n b) v)
        call_goes k =
            let c = called b in_row in
            call_runs Goes env k (block_name b) tail v c.run c.is (λ j.
            by_answer c.run j (answer n m i b mask (input_in n g.values b)) refl (c.gives g.values cursor mask v stands h.in_range is_mask))
          where
            by_answer : (run : World → Ran) (j : ℕ) (a : Result (List ℤ) StopWord) → answer n m i b mask (input_in n g.values b) ≡ a
                → Gives n i b cursor v a (run v) → Goes (then_run (run v) (run_block env j tail))
            by_answer run j (Ok vs) q l = on_leads Goes (run v) (run_block env j tail) l (λ u k. tail_goes vs q u k j)
            by_answer run j (Err word) q x =
                inr (record { block = b; word = word; result = step.stops word on q; is = then_stops (run v) (run_block env j tail) word b x })

    -- An entry does what the pass does.
    entry_goes : (k : ℕ) → Goes (run_block env k (entry_text own n e) w)
    entry_goes k =
        entry_marks env n own e told g w h.shows.branches (few_inputs (spec_of n b) (net.typed_specs b block)) (h.shows.room.actives b block)
        (guarding n s net free row is pre post e split) guards_told
        (mask_few n s net free row is pre post e split) (λ a. h.shows.marks.each b block (asked_is ∙ a) ∙ ap (λ (t : Bool). Some (truth t)) off)
        (h.shows.room.masks b block)
        Goes k (where_part (entry_part own n e) b (call_text n b))
        (λ j v marked.
        by_part (entry_part own n e) j v (subst (λ (q : Bool). IsMarked n q b (applies n g e) (pos mask) w v) (sym asked_is) marked) (acts v marked))
      where
        wanted : (o : Bool) → own ≡ o → (not o ≡ true) ⊎ (is_marked (part_by n e) ≡ true) → wants_mark own n e ≡ true
        wanted o q (inl h) = ap (λ (u : Bool). not u || is_marked (part_by n e)) q ∙ ap (λ (t : Bool). t || is_marked (part_by n e)) h
        wanted o q (inr h) = ap (λ (t : Bool). not own || t) h ∙ or_true (not own)

        sure : e.always ≡ true → applies n g e ≡ true
        sure a = ap (λ (t : Bool). t || list_any (is_taken_in n g) e.guards) a

        -- under one guard the branches so far tell whether the block is active
        under : (v : World) → IsMarked n (wants_mark own n e) b (applies n g e) (pos mask) w v → (q : Guard) → e.always ≡ false → e.guards ≡ q ∷ []
            → TellsBranch (branch_of q) (applies n g e) v
        under v marked q a one =
            let guards = guarding n s net free row is pre post e split q (subst (λ (gs : List Guard). Contains gs q) (sym one) (0, omega arith, refl)) in
            record {
              taken = branch_so_far n g q.block;
              is = marked.same branches (q.block - 1) refl (λ r. refl)
                  ∙ h.shows.branches.each q.block guards.block
                  (guards_told q (subst (λ (gs : List Guard). Contains gs q) (sym one) (0, omega arith, refl))) guards.sync;
              same = takes_port (g.applied q.block) (branch_on (spec_of n q.block) (input_in n g.values q.block)) q.port guards.port
                  ∙ sym (ap (λ (t : Bool). t || list_any (is_taken_in n g) e.guards) a ∙ (ap (list_any (is_taken_in n g)) one ∙ or_false (is_taken_in n g q)));
            }

        -- whether the block is active, by how its call is written
        acts : (v : World) → IsMarked n (wants_mark own n e) b (applies n g e) (pos mask) w v → Acts (entry_part own n e) (applies n g e) v b
        acts v marked = by_own own refl
          where
            by_always : own ≡ false → (a : Bool) → e.always ≡ a → Acts (if a then Sure else Marked) (applies n g e) v b
            by_always q true a = sure a
            by_always q false a = marked.active (wanted false q (inl refl))

            by_own : (o : Bool) → own ≡ o → Acts (entry_part o n e) (applies n g e) v b
            by_own true q = part_acts n e (applies n g e) v b sure (λ on. marked.active (wanted true q (inr on))) (under v marked)
            by_own false q = by_always q e.always refl

        called_at : (j : ℕ) (v : World) → applies n g e ≡ true → IsMarked n (asked b) b (applies n g e) (pos mask) w v → Goes (run_block env j (call_text n b) v)
        called_at j v on marked = call_goes on v (subst (λ (t : Bool). IsMarked n (asked b) b t (pos mask) w v) on marked) j

        by_applies : (j k l : ℕ) (v : World) → IsMarked n (asked b) b (applies n g e) (pos mask) w v → (t : Bool) → applies n g e ≡ t
            → Goes (then_run (if t then run_block env j (call_text n b) v else run_block env k done v) (run_block env l done))
        by_applies j k l v marked true on = goes_then (run_block env j (call_text n b) v) l (called_at j v on marked)
        by_applies j k l v marked false no_entry =
            goes_then (run_block env k done v) l (idle no_entry k v (subst (λ (t : Bool). IsMarked n (asked b) b t (pos mask) w v) no_entry marked))

        by_part : (p : Part) (j : ℕ) (v : World) → IsMarked n (asked b) b (applies n g e) (pos mask) w v → Acts p (applies n g e) v b
            → Goes (run_block env j (where_part p b (call_text n b)) v)
        by_part Absent j v marked is =
            idle is j v (subst (λ (t : Bool). IsMarked n (asked b) b t (pos mask) w v) is marked)
        by_part Sure j v marked is = called_at j v is marked
        by_part Marked j v marked is =
            test_runs Goes env j (is_active b) (call_text n b) done done v (applies n g e) is (λ x y z. by_applies x y z v marked (applies n g e) refl)
        by_part (Taken q) j v marked is =
            test_runs Goes env j (has_taken q) (call_text n b) done done v (applies n g e) (taken_test q (applies n g e) v is)
            (λ x y z. by_applies x y z v marked (applies n g e) refl)

  -- ---- a row

  abbrev Does : List Obs → Ran → Type 0
  Does seen r = Passes n scratch i asked told m s row before seen r

  entries_go : (post pre : List Entry) → row ≡ pre ++ post → (k : ℕ) (w : World) → HasPassed n scratch i asked told m s pre before w
      → Does [] (run_block env k (texts (entry_text own n) post) w)
  entries_go [] pre split k w h =
      inl (record {
        to = w;
        is = run_done env k w;
        holds = subst (λ es. HasPassed n scratch i asked told m s es before w) (sym (split ∙ append-nil pre)) h;
      })
  entries_go (e ∷ es) pre split k w h =
      joined_runs (Does []) env k (entry_text own n e) (texts (entry_text own n) es) w
      (λ j. further j (λ w' d. entries_go es (pre ++ e ∷ []) (split ∙ sym (append_assoc pre (e ∷ []) es)) j w' d) (entry_goes pre es e split w h k))
    where
      further : (j : ℕ) → ((w' : World) → HasPassed n scratch i asked told m s (pre ++ e ∷ []) before w' → Does [] (run_block env j (texts (entry_text own n) es) w'))
          → Goes pre es e split w h (run_block env k (entry_text own n e) w)
          → Does [] (then_run (run_block env k (entry_text own n e) w) (run_block env j (texts (entry_text own n) es)))
      further j go (inl l) = on_leads (Does []) (run_block env k (entry_text own n e) w) (run_block env j (texts (entry_text own n) es)) l go
      further j go (inr x) = inr (record {
        block = x.block;
        word = x.word;
        result = x.result;
        is = then_stops (run_block env k (entry_text own n e) w) (run_block env j (texts (entry_text own n) es)) x.word x.block x.is;
      })

  seen_first : (o : Obs) (r : Ran) → Does [] r → Does (o ∷ []) (behind (o ∷ []) r)
  seen_first o r (inl l) = inl (record { to = l.to; is = ap (behind (o ∷ [])) l.is; holds = l.holds })
  seen_first o r (inr x) = inr (record { block = x.block; word = x.word; result = x.result; is = ap (behind (o ∷ [])) x.is })

  abbrev behind_header : Block
  behind_header = joined (text_where own (texts (cleared_text n) row)) (texts (entry_text own n) row)

  -- From a memory that shows values, columns and room, and where one text follows for all sources no mark and no branch, the text of the row observes the header
  -- and does the pass.
  pub row_goes : (date k : ℕ) (w : World) → IsDated s date w → ShowsValues n m.held w → ShowsColumns n i m.cursor w → HasRoom n scratch w
      → (own ≡ false → IsIdle n w) → ((x : Name) (j : ℕ) → is_worked x ≡ false → get w x j ≡ get before x j)
      → Does (header date s ∷ []) (run_block env k (pass_text own n s row) w)
  row_goes date k w dated values columns room idle kept = by_source s refl dated
    where
      begun : (j : ℕ) (v : World) → ShowsPass n scratch i asked told m.cursor (at_rest m) before v → Does [] (run_block env j (texts (entry_text own n) row) v)
      begun j v rests = entries_go row [] refl j v (record { found = at_rest m; front = pass_begins n m i s; in_range = memory.held; shows = rests })

      cleared : (j : ℕ) → Does [] (run_block env j behind_header w)
      cleared j =
          joined_leads (Does []) env j (text_where own (texts (cleared_text n) row)) (texts (entry_text own n) row) w
          (row_cleared env n net scratch i m s free own row is before w values columns room idle kept j) (λ l v rests. begun l v rests)

      by_source : (t : Source) → s ≡ t → IsDated t date w → Does (header date t ∷ []) (run_block env k (pass_text own n t row) w)
      by_source Start q d =
          start_runs (Does (header date Start ∷ [])) env k behind_header w
          (λ j. seen_first (header date Start) (run_block env j behind_header w) (cleared j))
      by_source (Port f) q d =
          event_runs (Does (header date (Port f) ∷ [])) env k (var now_name) (natural f.block) (natural f.port) behind_header w
          (pos date) (pos f.block) (pos f.port) d refl refl
          (λ j. seen_first (header date (Port f)) (run_block env j behind_header w) (cleared j))
