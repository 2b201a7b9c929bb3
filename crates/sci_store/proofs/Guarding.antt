-- The entries of guarded blocks, taken out of others.
use Rattle.std.proofs.Common.{◌≡◌, ℕ, ◌+◌, ◌<◌, ◌≤◌, ◌≢◌, Bool, true, false, cond, List, [], ◌∷◌, ◌++◌, length, get_or, set, take, AllPairs, refl, sym, ap, ◌∙◌, arith}
use Rattle.std.specs.List.{filter}
use Rattle.std.proofs.lemmas.List.{append-nil, map-append, map_push, length-set, get_or-set_other, take_all, get_or_default}
use Rattle.std.proofs.lemmas.List.Elements.{filter_more}
use Rattle.sci_reaction.specs.declared.entry.Entry.{Entry}
use Rattle.sci_reaction.specs.Schedule.{Entry as PlainEntry}
use Rattle.sci_reaction.specs.Kept.{entry_of, entries_of}
use Rattle.sci_store.specs.declared.row.CallRank.{CallRank}
use Rattle.sci_store.specs.Frame.{Fixed}
use Rattle.sci_store.specs.Rows.{is_guarded}
use Rattle.sci_store.specs.Ranks.{AreRanksOf, AreAt}

-- those of the guarded ones of the first k ranks are kept, and the entries of the other ranks are as they were
pub record KeepsGuarded (old now : List Entry) (order : List CallRank) (k : ℕ) (kept : List Entry) : Type 0 where
  pub long : length now ≡ length old
  pub rest : (j : ℕ) (r : CallRank) (e : Entry) → k ≤ j → j < length order → get_or now (get_or order j r).at e ≡ get_or old (get_or order j r).at e
  pub kept_are : (f : Fixed) (depth : Entry → ℕ) (sorted : List Entry) → AreRanksOf f depth sorted order → AreAt old order sorted
      → entries_of kept ≡ entries_of (filter is_guarded (take k sorted))

pub none_kept_yet : (es : List Entry) (order : List CallRank) → KeepsGuarded es es order 0 []
none_kept_yet es order = record { long = refl; rest = λ j r e l m. refl; kept_are = λ f depth sorted ranks at. refl }

module _ {old now : List Entry} {order : List CallRank} {k : ℕ} {kept : List Entry} (r : CallRank) (e : Entry) (h : KeepsGuarded old now order k kept) (l : k < length order)
    (here : r ≡ get_or order k r) (read : e ≡ get_or now r.at e) where
  -- the rank's entry is that in the order
  found : (f : Fixed) (depth : Entry → ℕ) (sorted : List Entry) → AreRanksOf f depth sorted order → AreAt old order sorted → e ≡ get_or sorted k e
  found f depth sorted ranks at =
      read ∙ (ap (λ (q : CallRank). get_or now q.at e) here ∙ (h.rest k r e (omega arith) l ∙ (at k e r l).1))

  flag : (f : Fixed) (depth : Entry → ℕ) (sorted : List Entry) → AreRanksOf f depth sorted order → AreAt old order sorted → is_guarded (get_or sorted k e) ≡ r.guarded
  flag f depth sorted ranks at = sym (ranks.ranks_are k e r (omega (arith, l, ranks.one_each))).guarded_is ∙ ap (λ (q : CallRank). q.guarded) (sym here)

  more : (f : Fixed) (depth : Entry → ℕ) (sorted : List Entry) → AreRanksOf f depth sorted order → AreAt old order sorted → (t : Bool) → r.guarded ≡ t
      → entries_of (filter is_guarded (take (k + 1) sorted)) ≡ entries_of (filter is_guarded (take k sorted)) ++ entries_of (cond t (get_or sorted k e ∷ []) [])
  more f depth sorted ranks at t g =
      ap entries_of (filter_more is_guarded sorted k e (omega (arith, l, ranks.one_each))
      ∙ ap (λ (b : Bool). filter is_guarded (take k sorted) ++ cond b (get_or sorted k e ∷ []) []) (flag f depth sorted ranks at ∙ g))
      ∙ map-append entry_of (filter is_guarded (take k sorted)) (cond t (get_or sorted k e ∷ []) [])

  -- it isn't guarded
  pub passed_by : r.guarded ≡ false → KeepsGuarded old now order (k + 1) kept
  passed_by off = record {
    long = h.long;
    rest = λ j q d m n. h.rest j q d (omega (arith, m)) n;
    kept_are = λ f depth sorted ranks at.
        h.kept_are f depth sorted ranks at
        ∙ (sym (append-nil (entries_of (filter is_guarded (take k sorted)))) ∙ sym (more f depth sorted ranks at false off));
  }

  -- it is guarded, and its entry is taken
  pub taken_out : (p left : Entry) (after : List Entry) → r.guarded ≡ true → entry_of p ≡ entry_of e → AllPairs (λ (a b : CallRank). a.at ≢ b.at) order → after ≡ set now r.at left
      → KeepsGuarded old after order (k + 1) (kept ++ p ∷ [])
  taken_out p left after on same apart is = record {
    long = ap length is ∙ (length-set now r.at left ∙ h.long);
    rest = λ j q d m n.
        let differ : (get_or order j q).at ≢ r.at = λ e. apart k j q (omega (arith, m)) n (other q ∙ sym e) in
        ap (λ (es : List Entry). get_or es (get_or order j q).at d) is
        ∙ (get_or-set_other now r.at (get_or order j q).at left d differ ∙ h.rest j q d (omega (arith, m)) n);
    kept_are = λ f depth sorted ranks at.
        map_push entry_of kept p
        ∙ (ap (λ (ps : List PlainEntry). ps ++ entry_of p ∷ []) (h.kept_are f depth sorted ranks at)
        ∙ (ap (λ (x : PlainEntry). entries_of (filter is_guarded (take k sorted)) ++ x ∷ []) (same ∙ ap entry_of (found f depth sorted ranks at))
        ∙ sym (more f depth sorted ranks at true on)));
  }
    where
      other : (q : CallRank) → (get_or order k q).at ≡ r.at
      other q = ap (λ (x : CallRank). x.at) (get_or_default order k q r l ∙ sym here)

pub all_kept : {old now : List Entry} {order : List CallRank} {k : ℕ} {kept : List Entry} → KeepsGuarded old now order k kept → k ≡ length order
    → (f : Fixed) (depth : Entry → ℕ) (sorted : List Entry) → AreRanksOf f depth sorted order → AreAt old order sorted → entries_of kept ≡ entries_of (filter is_guarded sorted)
all_kept {k = k} h e f depth sorted ranks at =
    h.kept_are f depth sorted ranks at ∙ ap (λ (es : List Entry). entries_of (filter is_guarded es)) (take_all k sorted (omega (arith, e, ranks.one_each)))
