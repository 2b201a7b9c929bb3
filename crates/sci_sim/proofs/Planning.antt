-- The rows of a plan, made ready.
use Rattle.std.specs.declared.alloc.Global.{Global}
use Rattle.std.proofs.Common.{Vec, ◌≡◌, ℕ, ◌+◌, ◌<◌, List, [], ◌∷◌, ◌++◌, length, get_or, eqb, false, refl, sym, ap, subst, ◌∙◌, arith, inl, inr}
use Rattle.std.specs.Prelude.{All, Contains}
use Rattle.std.specs.List.{IsDistinct}
use Rattle.std.proofs.lemmas.Bool.{cases_lt}
use Rattle.std.proofs.lemmas.Bool.Decides.{Decides-eqb}
use Rattle.std.proofs.lemmas.List.{get_or-map, length-map, length_push, get_or_append_left, get_or_push}
use Rattle.std.proofs.lemmas.List.Elements.{Contains-get_or}
use Rattle.std.proofs.lemmas.Map.Made.{IsDistinct-from_AllPairs}
use Rattle.sci_net.specs.declared.Source.{Source}
use Rattle.sci_net.specs.Parts.{Parts, IsBlock}
use Rattle.sci_net.specs.Net.{IsNet}
use Rattle.sci_net.specs.Sources.{source_of}
use Rattle.sci_reaction.specs.declared.entry.Entry.{Entry as Kept}
use Rattle.sci_reaction.specs.Depends.{IsLoopFree, Precedes}
use Rattle.sci_reaction.specs.Kept.{entry_of, entries_of}
use Rattle.sci_reaction.specs.Schedule.{Guard, Entry, blocks_of, IsEntry, IsRow}
use Rattle.sci_reaction.proofs.OneResult.{irreflexive}
use Rattle.sci_reaction.proofs.Rows.{guard_mask, guard_mask-bits}
use Rattle.sci_reaction.proofs.Spreading.{Spread-block}
use Rattle.sci_rounds.specs.Rounds.{TellsActivation}
use Rattle.sci_sched.specs.Answer.{IsPlan}
use Rattle.sci_sched.specs.Plain.{lists_of}
use Rattle.sci_store.specs.Frame.{Fixed}
use Rattle.sci_store.specs.Rows.{ReadyRow, no_row, AreEntriesOf, IsRowOf}
use Rattle.sci_sim.specs.Rows.{row_in, AreRowsOf}

-- ---- the entries of a source

no_entry : Entry
no_entry = record { block = 0; depth = 0; always = false; mask = 0; guards = [] }

module _ (n : Parts) (s : Source) (net : IsNet n) where
  -- an entry of the schedule tells when its block is active
  tells_activation : (e : Entry) → IsEntry n s e → IsBlock n e.block → TellsActivation n s e
  tells_activation e is block = record {
    always_is = is.always_is;
    mask_is = is.mask_is;
    branches = λ g has. let b = (is.guards_are g).0 has in record { sync = b.sync; reaches = b.reaches; feeds = b.feeds };
    all = λ q may sync reaches.
        let g : Guard = record { block = q.block; port = q.port; mask = guard_mask n e.block q } in
        (g, (is.guards_are g).1 (record { possible = may; sync = sync; reaches = reaches; feeds = guard_mask-bits n net.wired e.block q block }), refl);
  }

  module _ (free : IsLoopFree n s) (row : List Entry) (is : IsRow n s row) where
    entry_block : (k : ℕ) (d : Entry) → k < length row → IsBlock n (get_or row k d).block
    entry_block k d l =
        let block : Entry → ℕ = λ e. e.block in
        let here = get_or-map block row k d 0 l in
        let has = Contains-get_or (blocks_of row) k 0 (omega (arith, l, length-map row block)) in
        Spread-block n s _ ((is.exactly (get_or row k d).block).0 (subst (Contains (blocks_of row)) here has))

    once : IsDistinct eqb (blocks_of row)
    once = IsDistinct-from_AllPairs Decides-eqb (blocks_of row) (λ i j d less l same.
        let block : Entry → ℕ = λ e. e.block in
        let long = length-map row block in
        let first = get_or-map block row i no_entry d (omega (arith, less, l, long)) in
        let later = get_or-map block row j no_entry d (omega (arith, l, long)) in
        irreflexive n s free (get_or row j no_entry).block
        (subst (λ b. Precedes n s b (get_or row j no_entry).block) (sym first ∙ (same ∙ later)) (is.ordered i j no_entry less (omega (arith, l, long)))))

  module _ (free : IsLoopFree n s) (es : List Kept) (is : IsRow n s (entries_of es)) where
    pub entries_are : AreEntriesOf n s es
    entries_are = record {
      exactly = is.exactly;
      once = once free (entries_of es) is;
      depths = λ k d l. (is.entries k d l).depth_is;
      tells = λ k d l. tells_activation (get_or (entries_of es) k d) (is.entries k d l) (entry_block free (entries_of es) is k d l);
    }

    pub blocks_in : All (λ e. IsBlock n e.block) es
    blocks_in k d l =
        subst (λ (e : Entry). IsBlock n e.block) (get_or-map entry_of es k d (entry_of d) l)
        (entry_block free (entries_of es) is k (entry_of d) (omega (arith, l, length-map es entry_of)))

-- ---- rows, one after another

-- the row that a plan has of a source
pub row_planned : (n : Parts) (plan : List (Vec Kept Global)) → IsPlan n (lists_of plan) → (k : ℕ) (v : Vec Kept Global) → k < length plan → v ≡ get_or plan k v → IsRow n (source_of n k) (entries_of v.items)
row_planned n plan is k v l read =
    let row : Vec Kept Global → List Entry = λ w. entries_of w.items in
    subst (IsRow n (source_of n k)) (get_or-map row plan k v [] l ∙ ap row (sym read)) (is.schedule.each k (omega (arith, l, length-map plan row)))

pub source_planned : (n : Parts) (plan : List (Vec Kept Global)) → IsPlan n (lists_of plan) → (k : ℕ) → k < length plan → IsLoopFree n (source_of n k)
source_planned n plan is k l =
    let row : Vec Kept Global → List Entry = λ w. entries_of w.items in is.free k (omega (arith, l, length-map plan row, is.schedule.enough))

-- the rows of the first k sources
pub record AreMade (f : Fixed) (k : ℕ) (rows : List ReadyRow) : Type 0 where
  pub long : length rows ≡ k
  pub each : (j : ℕ) → j < k → IsRowOf f (source_of f.net j) (row_in rows j)

pub made_none : (f : Fixed) → AreMade f 0 []
made_none f = record { long = refl; each = λ j l. absurd (omega (arith, l)) }

pub made_more : (f : Fixed) (k : ℕ) (rows : List ReadyRow) (row : ReadyRow) → IsRowOf f (source_of f.net k) row → AreMade f k rows → AreMade f (k + 1) (rows ++ row ∷ [])
made_more f k rows row is h = record {
  long = length_push rows row ∙ ap (λ m. m + 1) h.long;
  each = λ j l. elim (cases_lt j k) [
    | inl less ↦ subst (IsRowOf f (source_of f.net j)) (sym (get_or_append_left rows (row ∷ []) no_row j (omega (arith, less, h.long)))) (h.each j less)
    | inr more ↦
        let here : j ≡ k = omega (arith, l, more) in
        subst (λ i. IsRowOf f (source_of f.net i) (row_in (rows ++ row ∷ []) i)) (sym here)
        (subst (IsRowOf f (source_of f.net k)) (sym (get_or_push rows row no_row k h.long)) is)
  ];
}

pub made_all : (f : Fixed) (plan : List (Vec Kept Global)) → IsPlan f.net (lists_of plan) → (k : ℕ) (rows : List ReadyRow) → k ≡ length plan → AreMade f k rows → AreRowsOf f rows
made_all f plan is k rows e h =
    let row : Vec Kept Global → List Entry = λ w. entries_of w.items in
    record { enough = omega (arith, h.long, e, length-map plan row, is.schedule.enough); each = λ j l. h.each j (omega (arith, l, h.long)) }
