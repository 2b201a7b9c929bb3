-- The runs of a row hold all its calls, and those without guards are marked before a reaction.
use Rattle.std.proofs.Common.{◌≡◌, ℕ, ◌+◌, ◌-◌, ◌<◌, ◌≤◌, true, false, ⊎_elim, List, [], ◌∷◌, ◌++◌, length, get_or, drop, map, All, Contains, refl, sym, ap, subst, ◌∙◌, arith, eqb, true≢false}
use Rattle.std.specs.Prelude.{flat_map}
use Rattle.std.specs.Set.{is_member}
use Rattle.std.proofs.lemmas.Bool.{cases_Bool, cases_lt}
use Rattle.std.proofs.lemmas.Bool.Decides.{Decides-eqb}
use Rattle.std.proofs.lemmas.List.{get_or-map, get_or-take, get_or-drop, length-map, length-take-le, length-drop}
use Rattle.std.proofs.lemmas.List.Elements.{All-contains}
use Rattle.std.proofs.lemmas.List.Sorted.{Contains-permutation}
use Rattle.std.proofs.lemmas.Map.Made.{is_member-Decides}
use Rattle.sci_base.specs.declared.observation.Obs.{Obs}
use Rattle.sci_reaction.specs.declared.entry.Entry.{Entry}
use Rattle.sci_reaction.specs.Schedule.{blocks_of}
use Rattle.sci_reaction.specs.Kept.{entries_of}
use Rattle.sci_reaction.proofs.Lists.{Contains-cons, cons-Contains}
use Rattle.sci_reaction.proofs.Spreading.{Spread-block}
use Rattle.sci_bank.specs.declared.runs.Call.{Call}
use Rattle.sci_store.specs.declared.row.Run.{Run}
use Rattle.sci_store.specs.Blocks.{AreBlocksByNumber}
use Rattle.sci_store.specs.Marks.{mark_at}
use Rattle.sci_store.specs.Frame.{Fixed, IsFrame}
use Rattle.sci_store.specs.Store.{Standing, IsStore}
use Rattle.sci_store.specs.Rows.{ReadyRow, is_guarded, guarded_blocks, call_of, between, IsRun, Join, IsRowFor, IsReadyRow, calls_in, IsMarked, KeepsBegun, IsShowOf, show_of, shows_from}
use Rattle.sci_store.proofs.Membering.{guarded_has}
use Rattle.sci_store.proofs.Writing.{seen_at, row_seen}
use Rattle.sci_store.proofs.ShownPieces.{piece_seen, pieces_seen, pieces_from, block_show, block_piece}

-- ---- runs that join

-- each place lies in a run
pub covered : (at end : ℕ) (runs : List Run) (j : ℕ) → Join at end runs → at ≤ j → j < end → (r : Run) × Contains runs r × (r.start ≤ j) × (j < r.end)
covered at end [] j h l m = absurd (omega (arith, h, l, m))
covered at end (r ∷ rs) j h l m = ⊎_elim
    (λ less. (r, (0, omega arith, refl), omega (arith, h.0, l), less))
    (λ more. let c = covered r.end end rs j h.1 more m in (c.0, cons-Contains r rs c.0 c.1, c.2, c.3))
    (cases_lt j r.end)

-- what stands from one place to before another
pub between_has : {A : Type 0} (xs : List A) (start end j : ℕ) (x : A) → start ≤ j → j < end → end ≤ length xs → get_or xs j x ≡ x → Contains (between xs start end) x
between_has xs start end j x l m h e =
    let back = length-drop start xs in
    let long = length-take-le (end - start) (drop start xs) (omega (arith, back, h)) in
    let there : start + (j - start) ≡ j = omega (arith, l) in (
      j - start,
      omega (arith, long, l, m),
      get_or-take (end - start) (drop start xs) (j - start) x (omega (arith, l, m)) ∙ (get_or-drop start xs (j - start) x ∙ (ap (λ (i : ℕ). get_or xs i x) there ∙ e)),
    )

-- the entry of a block
pub entry_with : (es : List Entry) (b : ℕ) → Contains (blocks_of (entries_of es)) b → (e : Entry) × Contains es e × (e.block ≡ b)
entry_with [] b h = absurd (omega (arith, h.1))
entry_with (x ∷ xs) b h = ⊎_elim
    (λ here. (x, (0, omega arith, refl), here))
    (λ there. let e = entry_with xs b there in (e.0, cons-Contains x xs e.0 e.1, e.2))
    (Contains-cons x.block (blocks_of (entries_of xs)) b h)

-- ---- blocks that are active whatever the values are

module _ (f : Fixed) (es : List Entry) (r : ReadyRow) (row : IsRowFor f es r) where
  -- a block that isn't guarded is marked
  pub whole_marked : (s : Standing) → KeepsBegun f r s → (e : Entry) → Contains es e → is_guarded e ≡ false → IsMarked s.marks (call_of f e)
  whole_marked s begun e has off =
      let runs = row.values in
      let there : Contains runs.sorted e = Contains-permutation es runs.sorted e runs.same has in
      let c = covered 0 (length runs.sorted) r.runs there.0 runs.joined (omega arith) there.1 in
      let run_is : IsRun f (λ (x : Entry). x.depth) runs.sorted c.0 = All-contains (IsRun f (λ (x : Entry). x.depth) runs.sorted) r.runs c.0 runs.runs_are c.1 in
      let here = between_has runs.sorted c.0.start c.0.end there.0 e c.2 c.3 run_is.within there.2 in
      let flag : is_guarded e ≡ c.0.guarded = All-contains (λ (x : Entry). is_guarded x ≡ c.0.guarded) (between runs.sorted c.0.start c.0.end) e run_is.guarded_is here in
      let long = length-map runs.sorted (call_of f) in
      let called : Contains (calls_in r c.0) (call_of f e) =
      subst (λ (cs : List Call). Contains (between cs c.0.start c.0.end) (call_of f e)) (sym runs.calls_are)
      (between_has (map (call_of f) runs.sorted) c.0.start c.0.end there.0 (call_of f e) c.2 c.3 (omega (arith, long, run_is.within))
      (get_or-map (call_of f) runs.sorted there.0 e (call_of f e) there.1 ∙ ap (call_of f) there.2)) in
      All-contains (IsMarked s.marks) (calls_in r c.0) (call_of f e) (begun.whole c.0 c.1 (sym flag ∙ off)) called

  pub unasked_active : (s : Standing) → KeepsBegun f r s → (b : ℕ) → Contains r.blocks b → is_member eqb (guarded_blocks es) b ≡ false → (mark_at s.marks b).active ≡ true
  unasked_active s begun b has off =
      let e = entry_with es b ((row.blocks_are.same b).0 has) in
      let not_guarded : is_guarded e.0 ≡ false = ⊎_elim
      (λ on. let member : Contains (guarded_blocks es) e.0.block = subst (λ (x : Entry). Contains (guarded_blocks es) x.block) e.1.2
      (guarded_has es e.1.0 e.0 e.1.1 (ap is_guarded e.1.2 ∙ on)) in
      absurd (true≢false (sym ((is_member-Decides Decides-eqb (guarded_blocks es) b).1 (subst (Contains (guarded_blocks es)) e.2 member)) ∙ off)))
      (λ idle. idle) (cases_Bool (is_guarded e.0)) in
      subst (λ (c : ℕ). (mark_at s.marks c).active ≡ true) e.2 (whole_marked s begun e.0 e.1 not_guarded).active

-- the blocks of a row
pub row_blocks : (f : Fixed) (r : ReadyRow) → IsReadyRow f r → AreBlocksByNumber f.net r.blocks
row_blocks f r ready = record {
  rising = ready.1.row.blocks_are.rising;
  blocks = λ b has. Spread-block f.net ready.0 _ ((ready.1.entries.exactly b).0 ((ready.1.row.blocks_are.same b).0 has));
}

same_flat : (g h : ℕ → List Obs) (xs : List ℕ) → ((b : ℕ) → Contains xs b → g b ≡ h b) → flat_map g xs ≡ flat_map h xs
same_flat g h [] e = refl
same_flat g h (x ∷ xs) e =
    ap (λ (l : List Obs). l ++ flat_map g xs) (e x (0, omega arith, refl)) ∙ ap (λ (l : List Obs). h x ++ l) (same_flat g h xs (λ b c. e b (cons-Contains x xs b c)))

-- the pieces of a row show the active ones of its blocks
module _ (f : Fixed) (s : Standing) (r : ReadyRow) (frame : IsFrame f) (store : IsStore f s) (ready : IsReadyRow f r) (begun : KeepsBegun f r s) where
  shown : (pieces_seen f s (shows_from f (guarded_blocks ready.1.made_of) [] r.blocks) ≡ flat_map (λ b. piece_seen f s (show_of f (guarded_blocks ready.1.made_of) b)) r.blocks)
      × All (IsShowOf s) (shows_from f (guarded_blocks ready.1.made_of) [] r.blocks)
  shown = pieces_from f s store.values (guarded_blocks ready.1.made_of) [] r.blocks (λ k d l. absurd (omega (arith, l)))
      (λ b has. block_show f s frame store (guarded_blocks ready.1.made_of) b ((row_blocks f r ready).blocks b has))

  pub row_shows : All (IsShowOf s) r.shows
  row_shows = subst (All (IsShowOf s)) (sym ready.1.row.shows_are) shown.1

  pub row_pieces : pieces_seen f s r.shows ≡ row_seen f s r.blocks
  row_pieces =
      ap (pieces_seen f s) ready.1.row.shows_are
      ∙ (shown.0
      ∙ same_flat (λ b. piece_seen f s (show_of f (guarded_blocks ready.1.made_of) b)) (seen_at f s) r.blocks
      (λ b has. block_piece f s frame store (guarded_blocks ready.1.made_of) b ((row_blocks f r ready).blocks b has)
      (unasked_active f ready.1.made_of r ready.1.row s begun b has)))
