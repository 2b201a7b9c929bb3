-- Entries and rows, one after the other.
use Rattle.std.proofs.Common.{◌≡◌, ℕ, ◌+◌, ◌<◌, ◌↔◌, ⊎_elim, List, [], ◌∷◌, ◌++◌, length, get_or, map, Contains, All, AllPairs, Vec, refl, sym, ap, ap₂, subst, subst₂, ◌∙◌, arith, length-append}
use Rattle.std.proofs.lemmas.Bool.{cases_lt}
use Rattle.std.proofs.lemmas.List.{get_or_default, get_or_append_left, get_or_push, get_or-map, length-map, map-append}
use Rattle.std.proofs.lemmas.List.Elements.{All-contains, All-push, Contains-get_or}
use Rattle.std.specs.declared.alloc.Global.{Global}
use Rattle.sci_loop.specs.Lists.{plain, list_at}
use Rattle.sci_net.specs.declared.Feed.{Feed}
use Rattle.sci_net.specs.declared.Source.{Source}
use Rattle.sci_net.specs.declared.Source.TheVariants.{Start}
use Rattle.sci_net.specs.Parts.{Parts, numbered}
use Rattle.sci_net.specs.Sources.{sources_of, source_of}
use Rattle.sci_reaction.specs.Links.{SourceFeeds, IsSource}
use Rattle.sci_reaction.specs.Active.{IsSync, Possible, Reaches}
use Rattle.sci_reaction.specs.Depends.{HasDepth, Precedes}
use Rattle.sci_reaction.specs.Equations.{HasBits}
use Rattle.sci_reaction.specs.Schedule.{Entry as PlainEntry, blocks_of, IsEntry, IsRow, IsSchedule}
use Rattle.sci_reaction.proofs.Lists.{Has}
use Rattle.sci_reaction.proofs.Sources.{sources_are}
use Rattle.sci_reaction.proofs.Rows.{Contains-has, has-Contains}
use Rattle.sci_inherit.specs.Origins.{Origins, AreOrigins}
use Rattle.sci_reaction.specs.declared.entry.Entry.{Entry}
use Rattle.sci_sched.specs.declared.marks.Marks.{Marks}
use Rattle.sci_sched.specs.Plain.{row_of, lists_of}
use Rattle.sci_reaction.specs.Kept.{entry_of}
use Rattle.sci_sched.specs.Depths.{AreDepthsOf}
use Rattle.sci_sched.specs.Marks.{MarkSource}
use Rattle.sci_sched.specs.Outlines.{AreOrdered}
use Rattle.sci_sched.specs.Rows.{IsMarkedEntry, AreEntries, AreRows}
use Rattle.sci_sched.proofs.Members.{map_from, pairs_of_map}
use Rattle.sci_sched.proofs.Guarded.{guards_rise, guards_exact}

-- each place in the net's order has a source
pub is_source : (n : Parts) (k : ℕ) → k < length (sources_of n) → IsSource n (source_of n k)
is_source n k h = (sources_are n (source_of n k)).0 (Contains-get_or (sources_of n) k Start h)

-- ---- an entry

pub entry_is : (n : Parts) (r : Origins) (s : Source) (m : Marks) (e : Entry) → AreOrigins n r → IsSource n s → MarkSource n s m → IsMarkedEntry n r m e → HasDepth n s e.block e.depth → IsEntry n s (entry_of e)
entry_is n r s m e origins source mark is deep =
    let b = e.block in
    let qs = numbered [] r.branches b in
    let conditions = list_at (plain m.conditions.items) b in
    let known : (q : Feed) → IsSync n q.block → Reaches n q b → Has conditions q.block ↔ Possible n s q.block = λ q sync reaches. (
      λ has. ((mark.conditions b q.block).0 (has-Contains conditions q.block has)).0,
      λ p. Contains-has conditions q.block ((mark.conditions b q.block).1 (p, record { sync = sync; branch = q.port; reaches = reaches })),
    ) in
    record {
      depth_is = deep;
      always_is = (λ on. (mark.always b).0 (is.always.0 on), λ h. is.always.1 ((mark.always b).1 h));
      mask_is = subst (λ v. HasBits v (SourceFeeds n s b)) (sym is.mask) (mark.masks b);
      rising = guards_rise n s source b conditions qs (origins.branches_rise b) (origins.branches_are b) known e.guards.items is.guards;
      guards_are = guards_exact n s source b conditions qs (origins.branches_rise b) (origins.branches_are b) known e.guards.items is.guards;
    }

-- ---- a row

pub entries_more : (n : Parts) (r : Origins) (m : Marks) (bs : List ℕ) (es : List Entry) (b : ℕ) (e : Entry) → AreEntries n r m bs es → e.block ≡ b → IsMarkedEntry n r m e → AreEntries n r m (bs ++ b ∷ []) (es ++ e ∷ [])
entries_more n r m bs es b e are at ok =
    record {
      blocks_are = map-append (λ (x : Entry). x.block) es (e ∷ []) ∙ ap₂ (λ xs y. xs ++ y ∷ []) are.blocks_are at;
      entries_are = All-push (IsMarkedEntry n r m) es e are.entries_are ok;
    }

pub depths_more : (es : List Entry) (ds : List ℕ) (e : Entry) (d : ℕ) → map (λ (x : Entry). x.depth) es ≡ ds → e.depth ≡ d → map (λ (x : Entry). x.depth) (es ++ e ∷ []) ≡ ds ++ d ∷ []
depths_more es ds e d are at = map-append (λ (x : Entry). x.depth) es (e ∷ []) ∙ ap₂ (λ xs y. xs ++ y ∷ []) are at

-- each entry has the depth of its block
deep_at : (has : ℕ → ℕ → Type 0) (bs ds : List ℕ) (es : List Entry) → AreDepthsOf has bs ds → map (λ (e : Entry). e.block) es ≡ bs → map (λ (e : Entry). e.depth) es ≡ ds →
    (k : ℕ) (d : Entry) → k < length es → has (get_or es k d).block (get_or es k d).depth
deep_at has bs ds es are blocks depths k d h =
    let long : length es ≡ length bs = sym (length-map es (λ (e : Entry). e.block)) ∙ ap length blocks in
    subst₂ has
    (ap (λ ys. get_or ys k 0) (sym blocks) ∙ get_or-map (λ (e : Entry). e.block) es k d 0 h)
    (ap (λ ys. get_or ys k 0) (sym depths) ∙ get_or-map (λ (e : Entry). e.depth) es k d 0 h)
    (are.each k (omega (arith, long, h)))

blocks_same : (es : List Entry) → blocks_of (row_of es) ≡ map (λ (e : Entry). e.block) es
blocks_same [] = refl
blocks_same (e ∷ es) = ap (λ bs. e.block ∷ bs) (blocks_same es)

all_map : {X Y : Type 0} (P : Y → Type 0) (f : X → Y) (xs : List X) → All (λ x. P (f x)) xs → All P (map f xs)
all_map P f xs all k d h =
    let y = get_or (map f xs) k d in
    let r = map_from f xs y (k, h, get_or_default (map f xs) k y d h) in
    subst P r.2 (All-contains (λ x. P (f x)) xs r.0 all r.1)

pub row_is : (n : Parts) (r : Origins) (s : Source) (m : Marks) (bs ds : List ℕ) (es : List Entry) → AreOrigins n r → IsSource n s → MarkSource n s m → AreOrdered n s bs → AreDepthsOf (HasDepth n s) bs ds →
    AreEntries n r m bs es → map (λ (e : Entry). e.depth) es ≡ ds → IsRow n s (row_of es)
row_is n r s m bs ds es origins source mark is deep are depths =
    let blocks : blocks_of (row_of es) ≡ bs = blocks_same es ∙ are.blocks_are in
    record {
      exactly = λ b. (λ h. (is.exactly b).0 (subst (λ xs. Contains xs b) blocks h), λ h. subst (λ xs. Contains xs b) (sym blocks) ((is.exactly b).1 h));
      ordered = pairs_of_map (Precedes n s) (λ (e : PlainEntry). e.block) (row_of es) (subst (AllPairs (Precedes n s)) (sym blocks) is.ordered);
      entries = all_map (IsEntry n s) entry_of es (λ k d h. entry_is n r s m (get_or es k d) origins source mark (are.entries_are k d h) (deep_at (HasDepth n s) bs ds es deep are.blocks_are depths k d h));
    }

-- ---- the rows

pub rows_more : (n : Parts) (k : ℕ) (vs : List (Vec Entry Global)) (v : Vec Entry Global) → AreRows n k (lists_of vs) → IsRow n (source_of n k) (row_of v.items) → AreRows n (k + 1) (lists_of (vs ++ v ∷ []))
rows_more n k vs v are is =
    let rows = lists_of vs in let row = row_of v.items in
    let more = length-append rows (row ∷ []) in
    let made : AreRows n (k + 1) (rows ++ row ∷ []) =
    record {
      long = let e = are.long in omega (arith, more, e);
      each = λ i h.
          ⊎_elim
          (λ l. let low : i < length rows = let e = are.long in omega (arith, l, e) in subst (IsRow n (source_of n i)) (sym (get_or_append_left rows (row ∷ []) [] i low)) (are.each i l))
          (λ ge.
          let same : k ≡ i = omega (arith, h, ge) in
          subst (IsRow n (source_of n i)) (sym (get_or_push rows row [] i (are.long ∙ same))) (subst (λ m. IsRow n (source_of n m) row) same is))
          (cases_lt i k);
    } in
    subst (AreRows n (k + 1)) (sym (map-append (λ (w : Vec Entry Global). row_of w.items) vs (v ∷ []))) made

pub rows_are : (n : Parts) (k : ℕ) (rows : List (List PlainEntry)) → AreRows n k rows → k ≡ length (sources_of n) → IsSchedule n rows
rows_are n k rows are all = record { enough = are.long ∙ all; each = λ i h. are.each i (let e = are.long in omega (arith, h, e)) }
