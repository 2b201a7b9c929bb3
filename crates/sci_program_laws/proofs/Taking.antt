-- How blocks take part in a reaction: what a source's row tells of it, the marks before its entries, and which blocks are active behind them.
use Rattle.std.proofs.Common.{◌≡◌, ℕ, zero, suc, ◌-◌, ◌⊎◌, inl, inr, ⊎_elim, List, [], ◌∷◌, ◌++◌, Contains, Option, Some, Bool, true, false, ◌||◌, ◌&&◌, nat_eq, if◌then◌else◌, refl, sym, ap, ◌∙◌, subst, arith, ℤ, pos, eq-eqb, ne_eqb, eqb-true, true≢false}
use Rattle.std.proofs.lemmas.Bool.{or_parts}
use Rattle.std.proofs.lemmas.List.Elements.{All-contains}
use Rattle.sci_forms.specs.Form.{is_sync, reads_mask}
use Rattle.sci_net.specs.declared.Feed.{Feed}
use Rattle.sci_net.specs.declared.Source.{Source}
use Rattle.sci_net.specs.Parts.{Parts, IsBlock, spec_of}
use Rattle.sci_net.specs.Net.{IsNet}
use Rattle.sci_reaction.specs.Active.{IsAlways}
use Rattle.sci_reaction.specs.Depends.{IsLoopFree}
use Rattle.sci_reaction.specs.Memory.{Memory, Columns}
use Rattle.sci_reaction.specs.Equations.{Takes, input_in, branch_on}
use Rattle.sci_reaction.specs.Schedule.{Guard, Entry, IsGuard, IsEntry, IsRow, blocks_of, branch_of}
use Rattle.sci_reaction.specs.Pass.{Progress, at_rest, is_taken as is_taken_in, IsFront}
use Rattle.sci_reaction.proofs.Lists.{Has as Names, cons-Contains, and_both, and_true}
use Rattle.sci_reaction.proofs.Rows.{Has-cons, Contains-has, entry_at, block_in, row_plan, IsFit}
use Rattle.sci_reaction.proofs.Spreading.{Spread-block, from_always, from_guard, possible, why, Guarded}
use Rattle.c_ast.specs.declared.Name.{Name}
use Rattle.c_ast.specs.Syntax.{cell, set, done}
use Rattle.c_mean.specs.Meaning.{World, Around, run_block, same_name, truth}
use Rattle.c_mean.specs.Places.{get, Has, is_scratch, same_place}
use Rattle.c_mean.specs.Texts.{assigns_only}
use Rattle.c_mean.specs.Runs.{Leads, LeftAlone}
use Rattle.c_mean.proofs.Memory.{put_there}
use Rattle.c_mean.proofs.Steps.{cell_runs, done_leads, joined_leads, leads_as}
use Rattle.c_mean.proofs.Frames.{alone_all, alone_then, puts_alone}
use Rattle.sci_cgen_blocks.specs.Texts.{values, masks}
use Rattle.sci_program.specs.declared.part.Part.{Part}
use Rattle.sci_program.specs.declared.part.Part.TheVariants.{Absent, Sure, Marked}
use Rattle.sci_program.specs.Names.{actives, branches}
use Rattle.sci_program.specs.Program.{natural, one, texts, text_where, part_under, part_by, part_in, part_of, is_marked, cleared_text}
use Rattle.sci_program.specs.Shows.{ShowsValues, ShowsColumns, ShowsActive, ShowsPass, HasRoom, IsIdle, TellsBranch, Acts, branch_so_far, is_asked, is_told, is_worked}
use Rattle.sci_program.specs.Passes.{cursors, HasPassed}
use Rattle.sci_program.proofs.Marks.{wants_mark, takes_port}
use Rattle.sci_program.proofs.Entries.{reached}
use Rattle.sci_program.proofs.Staying.{values_stay, room_stays}
use Rattle.sci_program_laws.proofs.Between.{columns_stay}
use Rattle.sci_program_laws.proofs.Turns.{sync_has}

-- ---- by the row

-- a block without an entry, or one with this entry
abbrev TakesPart : Parts → List Entry → ℕ → Part → Type 0
TakesPart n es b p =
    ((Names (blocks_of es) b → ⊥) × (p ≡ Absent)) ⊎ ((e : Entry) × (Contains es e × ((e.block ≡ b) × (p ≡ part_by n e))))

takes_part : (n : Parts) (es : List Entry) (b : ℕ) → TakesPart n es b (part_in n es b)
takes_part n [] b = inl ((λ h. true≢false (sym h)), refl)
takes_part n (e ∷ es) b = by_block (nat_eq e.block b) refl (takes_part n es b)
  where
    by_block : (t : Bool) → nat_eq e.block b ≡ t → TakesPart n es b (part_in n es b)
        → TakesPart n (e ∷ es) b (if t then part_by n e else part_in n es b)
    by_block true q r = inr (e, ((0, omega arith, refl), (eqb-true e.block b q, refl)))
    by_block false q (inl r) = inl (
      (λ h. elim ((Has-cons e.block (blocks_of es) b).0 h) [
        | inl same ↦ true≢false (sym (eq-eqb e.block b (sym same)) ∙ q)
        | inr more ↦ r.0 more
      ]),
      r.1,
    )
    by_block false q (inr r) = inr (r.0, (cons-Contains e es r.0 r.1.0, r.1.1))

-- the mark of an entry's block
pub asked_here : (own : Bool) (n : Parts) (row pre post : List Entry) (e : Entry) → row ≡ pre ++ e ∷ post → (Contains (blocks_of pre) e.block → ⊥)
    → is_asked own n row e.block ≡ wants_mark own n e
asked_here false n row pre post e split fresh = refl
asked_here true n row pre post e split fresh = ap (λ (es : List Entry). is_marked (part_in n es e.block)) split ∙ at_entry pre fresh
  where
    at_entry : (pre : List Entry) → (Contains (blocks_of pre) e.block → ⊥) → is_marked (part_in n (pre ++ e ∷ post) e.block) ≡ is_marked (part_by n e)
    at_entry [] f = ap (λ (t : Bool). is_marked (if t then part_by n e else part_in n post e.block)) (eq-eqb e.block e.block refl)
    at_entry (x ∷ xs) f =
        ap (λ (t : Bool). is_marked (if t then part_by n x else part_in n (xs ++ e ∷ post) e.block)) (ne_eqb x.block e.block (λ q. f (0, omega arith, q)))
        ∙ at_entry xs (λ c. f (cons-Contains x.block (blocks_of xs) e.block c))

-- the branches of the row's blocks are told of
pub told_of : (own : Bool) (row : List Entry) (c : ℕ) → Contains (blocks_of row) c → is_told own row c ≡ true
told_of false row c k = refl
told_of true row c k = Contains-has (blocks_of row) c k

-- An entry's block acts by its part, where it is active if the source always activates it, if its mark is asked for by its mark, and under one guard by the branch.
pub part_acts : (n : Parts) (e : Entry) (a : Bool) (v : World) (b : ℕ) → (e.always ≡ true → a ≡ true)
    → (is_marked (part_by n e) ≡ true → get v actives (b - 1) ≡ Some (truth a))
    → ((g : Guard) → e.always ≡ false → e.guards ≡ g ∷ [] → TellsBranch (branch_of g) a v) → Acts (part_by n e) a v b
part_acts n e a v b sure marked taken = by_always e.always refl
  where
    part_is : (t r : Bool) (gs : List Guard) → e.always ≡ t → reads_mask (spec_of n e.block).kind ≡ r → e.guards ≡ gs
        → part_by n e ≡ (if t then Sure else (if r then Marked else part_under gs))
    part_is t r gs p q h =
        ap (λ (u : Bool). if u then Sure else (if reads_mask (spec_of n e.block).kind then Marked else part_under e.guards)) p
        ∙ (ap (λ (u : Bool). if t then Sure else (if u then Marked else part_under e.guards)) q
        ∙ ap (λ (qs : List Guard). if t then Sure else (if r then Marked else part_under qs)) h)

    by_guards : e.always ≡ false → reads_mask (spec_of n e.block).kind ≡ false → (gs : List Guard) → e.guards ≡ gs → Acts (part_under gs) a v b
    by_guards p q [] h = marked (ap is_marked (part_is false false [] p q h))
    by_guards p q (g ∷ []) h = taken g p h
    by_guards p q (g ∷ (x ∷ xs)) h = marked (ap is_marked (part_is false false (g ∷ (x ∷ xs)) p q h))

    by_reads : e.always ≡ false → (r : Bool) → reads_mask (spec_of n e.block).kind ≡ r → Acts (if r then Marked else part_under e.guards) a v b
    by_reads p true q = marked (ap is_marked (part_is false true e.guards p q refl))
    by_reads p false q = by_guards p q e.guards refl

    by_always : (t : Bool) → e.always ≡ t → Acts (if t then Sure else (if reads_mask (spec_of n e.block).kind then Marked else part_under e.guards)) a v b
    by_always true p = sure p
    by_always false p = by_reads p (reads_mask (spec_of n e.block).kind) refl

-- ---- places that become 0

abbrev is_idling : Name → Bool
is_idling x = same_name actives x || same_name branches x

-- a place is 0 where it was to become so, and nothing else has changed but to 0
record IsZeroed (t : Bool) (x : Name) (j : ℕ) (v v' : World) : Type 0 where
  pub here : t ≡ true → get v' x j ≡ Some (pos 0)
  pub zeros : (y : Name) (i : ℕ) → get v y i ≡ Some (pos 0) → get v' y i ≡ Some (pos 0)
  pub rest : LeftAlone (assigns_only is_idling) v v'

still_zero : (t : Bool) (o : Option ℤ) → o ≡ Some (pos 0) → (if t then Some (pos 0) else o) ≡ Some (pos 0)
still_zero true o h = refl
still_zero false o h = h

zero_leads : (env : Around) (t : Bool) (x : Name) (j k : ℕ) (v : World) → (t ≡ true → Has v x j) → is_idling x ≡ true
    → Leads (run_block env k (text_where t (one (set (cell x (natural j)) (natural 0)))) v) (IsZeroed t x j v)
zero_leads env true x j k v there idles =
    cell_runs (λ r. Leads r (IsZeroed true x j v)) env k x j (natural 0) done v (pos 0) refl (there refl) (λ k' v' p.
    done_leads env k' v' (record {
      here = λ q. put_there v v' x j (pos 0) p;
      zeros = λ y i h. p.places y i ∙ still_zero (same_place x j y i) (get v y i) h;
      rest = puts_alone (assigns_only is_idling) v v' x j (pos 0) idles p;
    }))
zero_leads env false x j k v there idles =
    done_leads env k v (record { here = λ q. absurd (true≢false (sym q)); zeros = λ y i h. h; rest = alone_all (assigns_only is_idling) v })

-- these entries' blocks are cleared
record AreCleared (n : Parts) (es : List Entry) (v v' : World) : Type 0 where
  pub active : (e : Entry) → Contains es e → is_marked (part_by n e) ≡ true → get v' actives (e.block - 1) ≡ Some (pos 0)
  pub branch : (e : Entry) → Contains es e → is_sync (spec_of n e.block).kind ≡ true → get v' branches (e.block - 1) ≡ Some (pos 0)
  pub zeros : (y : Name) (i : ℕ) → get v y i ≡ Some (pos 0) → get v' y i ≡ Some (pos 0)
  pub rest : LeftAlone (assigns_only is_idling) v v'

module _ (env : Around) (n : Parts) (scratch : ℕ) where
  one_cleared : (e : Entry) → IsBlock n e.block → (k : ℕ) (v : World) → HasRoom n scratch v → Leads (run_block env k (cleared_text n e) v) (AreCleared n (e ∷ []) v)
  one_cleared e block k v room =
      joined_leads (λ r. Leads r (AreCleared n (e ∷ []) v)) env k (text_where (is_marked (part_by n e)) (one (set (cell actives (natural (e.block - 1))) (natural 0))))
      (text_where (is_sync (spec_of n e.block).kind) (one (set (cell branches (natural (e.block - 1))) (natural 0)))) v
      (zero_leads env (is_marked (part_by n e)) actives (e.block - 1) k v (λ q. room.actives e.block block) refl) (λ k1 v1 a.
      leads_as (run_block env k1 (text_where (is_sync (spec_of n e.block).kind) (one (set (cell branches (natural (e.block - 1))) (natural 0)))) v1)
      (λ v2 b. both v1 v2 a b)
      (zero_leads env (is_sync (spec_of n e.block).kind) branches (e.block - 1) k1 v1
      (λ sync. a.rest.there branches (e.block - 1) (room.branches (sync_has n e.block block sync) e.block block)) refl))
    where
      both : (v1 v2 : World) → IsZeroed (is_marked (part_by n e)) actives (e.block - 1) v v1 → IsZeroed (is_sync (spec_of n e.block).kind) branches (e.block - 1) v1 v2
          → AreCleared n (e ∷ []) v v2
      both v1 v2 a b = record {
        active = at_active;
        branch = at_branch;
        zeros = λ y i h. b.zeros y i (a.zeros y i h);
        rest = alone_then (assigns_only is_idling) v v1 v2 a.rest b.rest;
      }
        where
          at_active : (d : Entry) → Contains (e ∷ []) d → is_marked (part_by n d) ≡ true → get v2 actives (d.block - 1) ≡ Some (pos 0)
          at_active d (zero, l, q) on =
              subst (λ (x : Entry). get v2 actives (x.block - 1) ≡ Some (pos 0)) q
              (b.zeros actives (e.block - 1) (a.here (ap (λ (x : Entry). is_marked (part_by n x)) q ∙ on)))
          at_active d (suc i, l, q) on = absurd (omega (arith, l))

          at_branch : (d : Entry) → Contains (e ∷ []) d → is_sync (spec_of n d.block).kind ≡ true → get v2 branches (d.block - 1) ≡ Some (pos 0)
          at_branch d (zero, l, q) sync =
              subst (λ (x : Entry). get v2 branches (x.block - 1) ≡ Some (pos 0)) q (b.here (ap (λ (x : Entry). is_sync (spec_of n x.block).kind) q ∙ sync))
          at_branch d (suc i, l, q) sync = absurd (omega (arith, l))

  all_cleared : (es : List Entry) → ((e : Entry) → Contains es e → IsBlock n e.block) → (k : ℕ) (v : World) → HasRoom n scratch v
      → Leads (run_block env k (texts (cleared_text n) es) v) (AreCleared n es v)
  all_cleared [] blocks k v room = done_leads env k v (record {
    active = λ e c. absurd (omega (arith, c.1));
    branch = λ e c. absurd (omega (arith, c.1));
    zeros = λ y i h. h;
    rest = alone_all (assigns_only is_idling) v;
  })
  all_cleared (e ∷ es) blocks k v room =
      joined_leads (λ r. Leads r (AreCleared n (e ∷ es) v)) env k (cleared_text n e) (texts (cleared_text n) es) v
      (one_cleared e (blocks e (0, omega arith, refl)) k v room) (λ k1 v1 a.
      leads_as (run_block env k1 (texts (cleared_text n) es) v1) (λ v2 b. both v1 v2 a b)
      (all_cleared es (λ d c. blocks d (cons-Contains e es d c)) k1 v1 (room_stays is_idling v v1 a.rest n scratch room)))
    where
      both : (v1 v2 : World) → AreCleared n (e ∷ []) v v1 → AreCleared n es v1 v2 → AreCleared n (e ∷ es) v v2
      both v1 v2 a b = record {
        active = at_active;
        branch = at_branch;
        zeros = λ y i h. b.zeros y i (a.zeros y i h);
        rest = alone_then (assigns_only is_idling) v v1 v2 a.rest b.rest;
      }
        where
          at_active : (d : Entry) → Contains (e ∷ es) d → is_marked (part_by n d) ≡ true → get v2 actives (d.block - 1) ≡ Some (pos 0)
          at_active d (zero, l, q) on = b.zeros actives (d.block - 1) (a.active d (0, omega arith, q) on)
          at_active d (suc i, l, q) on = b.active d (i, omega (arith, l), q) on

          at_branch : (d : Entry) → Contains (e ∷ es) d → is_sync (spec_of n d.block).kind ≡ true → get v2 branches (d.block - 1) ≡ Some (pos 0)
          at_branch d (zero, l, q) sync = b.zeros branches (d.block - 1) (a.branch d (0, omega arith, q) sync)
          at_branch d (suc i, l, q) sync = b.branch d (i, omega (arith, l), q) sync

-- ---- before the entries

idling_worked : (x : Name) → is_worked x ≡ false → is_idling x ≡ false
idling_worked x h =
    let p = or_parts (is_scratch x) _ h in
    let q = or_parts (same_name values x) _ p.1 in
    let r = or_parts (same_name masks x) _ q.1 in
    r.1

module _ (env : Around) (n : Parts) (net : IsNet n) (scratch : ℕ) (i : Columns) (m : Memory) (s : Source) (free : IsLoopFree n s) (own : Bool) (row : List Entry)
    (is : IsRow n s row) (before w : World) (shown : ShowsValues n m.held w) (columns : ShowsColumns n i m.cursor w) (room : HasRoom n scratch w)
    (idle : own ≡ false → IsIdle n w) (kept : (x : Name) (j : ℕ) → is_worked x ≡ false → get w x j ≡ get before x j) where
  block_of : (e : Entry) → Contains row e → IsBlock n e.block
  block_of e c = Spread-block n s _ ((is.exactly e.block).0 (block_in row e c))

  abbrev Rests : Bool → World → Type 0
  Rests o v = ShowsPass n scratch i (is_asked o n row) (is_told o row) m.cursor (at_rest m) before v

  -- where the marks of all blocks were cleared
  idle_rests : IsIdle n w → Rests false w
  idle_rests h = record {
    values = shown;
    marks = record { each = λ b k a. h.actives b k };
    branches = record { each = λ b k t sync. h.branches b k sync };
    columns = columns;
    room = room;
    kept = kept;
  }

  own_rests : (v : World) → AreCleared n row w v → Rests true v
  own_rests v c = record {
    values = values_stay is_idling w v c.rest n m.held refl shown;
    marks = record { each = λ b k a. at_mark b a (takes_part n row b) };
    branches = record { each = at_branch };
    columns = columns_stay n i m.cursor w v (c.rest.left refl) columns;
    room = room_stays is_idling w v c.rest n scratch room;
    kept = λ x j h. c.rest.same x j (idling_worked x h) ∙ kept x j h;
  }
    where
      at_mark : (b : ℕ) → is_marked (part_in n row b) ≡ true → TakesPart n row b (part_in n row b) → get v actives (b - 1) ≡ Some (pos 0)
      at_mark b a (inl r) = absurd (true≢false (sym a ∙ ap is_marked r.1))
      at_mark b a (inr r) =
          subst (λ (d : ℕ). get v actives (d - 1) ≡ Some (pos 0)) r.1.1.0 (c.active r.0 r.1.0 (sym (ap is_marked r.1.1.1) ∙ a))

      at_branch : (b : ℕ) → IsBlock n b → is_told true row b ≡ true → is_sync (spec_of n b).kind ≡ true → get v branches (b - 1) ≡ Some (pos 0)
      at_branch b k known sync =
          let e = entry_at row b known in
          subst (λ (d : ℕ). get v branches (d - 1) ≡ Some (pos 0)) e.2
          (c.branch e.0 e.1 (subst (λ (d : ℕ). is_sync (spec_of n d).kind ≡ true) (sym e.2) sync))

  pub row_cleared : (k : ℕ) → Leads (run_block env k (text_where own (texts (cleared_text n) row)) w)
      (ShowsPass n scratch i (is_asked own n row) (is_told own row) m.cursor (at_rest m) before)
  row_cleared k = by_own own refl
    where
      by_own : (o : Bool) → own ≡ o → Leads (run_block env k (text_where o (texts (cleared_text n) row)) w) (Rests o)
      by_own true q = leads_as (run_block env k (texts (cleared_text n) row) w) own_rests (all_cleared env n scratch row block_of k w room)
      by_own false q = done_leads env k w (idle_rests (idle q))

-- ---- behind the entries

same_truth : (a c : Bool) → (a ≡ true → c ≡ true) → (c ≡ true → a ≡ true) → a ≡ c
same_truth true true f g = refl
same_truth true false f g = sym (f refl)
same_truth false true f g = g refl
same_truth false false f g = refl

-- An entry that isn't always, of one guard: where the row is done, its block is active where the guard is taken.
module _ (n : Parts) (net : IsNet n) (i : Columns) (m : Memory) (s : Source) (row : List Entry) (is : IsRow n s row) (found : Progress)
    (front : IsFront n m i s (blocks_of row) found) (e : Entry) (there : Contains row e) (off : e.always ≡ false) (g : Guard) (one : e.guards ≡ g ∷ []) where
  fits : IsFit n s e
  fits = (row_plan n s net.wired row is).entries e there

  guard : IsGuard n s e.block g
  guard = fits.are_guards g (subst (λ (gs : List Guard). Contains gs g) (sym one) (0, omega arith, refl))

  guard_there : Contains (blocks_of row) g.block
  guard_there = (is.exactly g.block).1 guard.possible

  block_there : Contains (blocks_of row) e.block
  block_there = block_in row e there

  abbrev is_taken_branch : Feed → Bool
  is_taken_branch q = found.applied q.block && nat_eq (branch_on (spec_of n q.block) (input_in n found.values q.block)) q.port

  only : (q : Guard) → Contains (g ∷ []) q → g ≡ q
  only q (zero, l, h) = h
  only q (suc j, l, h) = absurd (omega (arith, l))

  by_branch : (t : Guarded n s (Takes n found.values) e.block) → is_taken_branch (branch_of g) ≡ true
  by_branch t =
      let q : Feed = record { block = t.block; port = t.port } in
      let known = (is.exactly t.block).1 (possible n s _ t.spread) in
      let has = fits.has_guard q (possible n s _ t.spread) t.sync t.reaches in
      let same : branch_of g ≡ q = ap branch_of (only has.0 (subst (λ (gs : List Guard). Contains gs has.0) one has.1)) ∙ has.2 in
      subst (λ (v : Feed). is_taken_branch v ≡ true) (sym same)
      (and_true (found.applied t.block) (nat_eq (branch_on (spec_of n t.block) (input_in n found.values t.block)) t.port) ((front.tells t.block known).1 t.spread)
      (eq-eqb _ _ t.takes))

  decided : found.applied e.block ≡ is_taken_in n found g
  decided =
      same_truth (found.applied e.block) (is_taken_in n found g)
      (λ on. ⊎_elim (λ a. absurd (true≢false (sym (fits.always_is.1 a) ∙ off))) by_branch (why n s _ ((front.tells e.block block_there).0 on)))
      (λ on.
      let x = and_both (found.applied g.block) (nat_eq (branch_on (spec_of n g.block) (input_in n found.values g.block)) g.port) on in
      (front.tells e.block block_there).1
      (from_guard n s _ g.block g.port ((front.tells g.block guard_there).0 x.0) guard.sync (eqb-true _ _ x.1) guard.reaches))

  -- its branch is told of
  tells_branch : (scratch : ℕ) (asked : ℕ → Bool) (cursor : ℕ → ℕ) (before w : World) → ShowsPass n scratch i asked (is_told true row) cursor found before w
      → TellsBranch (branch_of g) (found.applied e.block) w
  tells_branch scratch asked cursor before w shows = record {
    taken = branch_so_far n found g.block;
    is = shows.branches.each g.block (Spread-block n s _ guard.possible) (told_of true row g.block guard_there) guard.sync;
    same = takes_port (found.applied g.block) (branch_on (spec_of n g.block) (input_in n found.values g.block)) g.port (reached n net.wired (branch_of g) guard.reaches)
        ∙ sym decided;
  }

-- The row tells which blocks were active, and the marks and branches those of which it doesn't.
module _ (n : Parts) (net : IsNet n) (scratch : ℕ) (i : Columns) (m : Memory) (s : Source) (row : List Entry) (is : IsRow n s row) (before w : World) where
  pub acting : (own : Bool) (passed : HasPassed n scratch i (is_asked own n row) (is_told own row) m s row before w)
      → ShowsActive n (part_of own n row) passed.found.applied w
  acting false passed = record { each = λ b k. passed.shows.marks.each b k refl }
  acting true passed = record { each = λ b k. by_entry b k (takes_part n row b) }
    where
      by_entry : (b : ℕ) → IsBlock n b → TakesPart n row b (part_in n row b) → Acts (part_in n row b) (passed.found.applied b) w b
      by_entry b k (inl r) =
          subst (λ (p : Part). Acts p (passed.found.applied b) w b) (sym r.1) (passed.front.rests b (λ c. r.0 (Contains-has (blocks_of row) b c))).0
      by_entry b k (inr r) =
          subst (λ (p : Part). Acts p (passed.found.applied b) w b) (sym r.1.1.1)
          (part_acts n r.0 (passed.found.applied b) w b always (λ on. passed.shows.marks.each b k (ap is_marked r.1.1.1 ∙ on)) under)
        where
          there : Contains (blocks_of row) b
          there = subst (Contains (blocks_of row)) r.1.1.0 (block_in row r.0 r.1.0)

          entry : IsEntry n s r.0
          entry = All-contains (IsEntry n s) row r.0 is.entries r.1.0

          always : r.0.always ≡ true → passed.found.applied b ≡ true
          always a = (passed.front.tells b there).1 (from_always n s (Takes n passed.found.values) (subst (IsAlways n s) r.1.1.0 (entry.always_is.0 a)))

          under : (g : Guard) → r.0.always ≡ false → r.0.guards ≡ g ∷ [] → TellsBranch (branch_of g) (passed.found.applied b) w
          under g off one =
              subst (λ (d : ℕ). TellsBranch (branch_of g) (passed.found.applied d) w) r.1.1.0
              (tells_branch n net i m s row is passed.found passed.front r.0 r.1.0 off g one scratch (is_asked true n row) (cursors n m passed.found.applied) before w
              passed.shows)
