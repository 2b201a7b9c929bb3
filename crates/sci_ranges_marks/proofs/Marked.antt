-- The marks of rows, and that start programs nothing.
use Rattle.std.proofs.Common.{◌≡◌, ◌≢◌, ℕ, zero, suc, ◌+◌, ◌<◌, ◌≤◌, ◌^◌, nat_eq, Bool, true, false, cond, All, List, [], ◌∷◌, ◌++◌, length, take, map, get_or, set, replicate, Option, Some, None, Contains, Vec, refl, sym, ap, subst, ◌∙◌, arith, take_all, inl, inr}
use Rattle.std.proofs.lemmas.Bool.{cases_lt}
use Rattle.std.proofs.lemmas.List.{map-append, length-map, length-set, length-replicate, get_or-map, get_or_default, take_more}
use Rattle.std.proofs.lemmas.Bool.Decides.{nat_tests}
use Rattle.std.proofs.lemmas.List.{get_or-set_same, get_or-set_other}
use Rattle.std.specs.declared.alloc.Global.{Global}
use Rattle.sci_forms.proofs.TestLemmas.{nat_same}
use Rattle.sci_base.specs.Lists.{truth_at}
use Rattle.sci_net.specs.declared.Source.{Source}
use Rattle.sci_net.specs.declared.Source.TheVariants.{Start}
use Rattle.sci_net.specs.Net.{IsNet}
use Rattle.sci_net.specs.Parts.{Parts, IsBlock, rows_of, spec_of}
use Rattle.sci_net.specs.Sources.{sources_of, source_of}
use Rattle.sci_reaction.specs.Kept.{entry_of as plain_entry, entries_of}
use Rattle.sci_reaction.specs.Schedule.{Entry as PlainEntry, IsRow, IsSchedule, blocks_of}
use Rattle.sci_reaction.specs.declared.entry.Entry.{Entry}
use Rattle.sci_reaction.proofs.Spreading.{possible, Spread-block}
use Rattle.sci_run.specs.Laws.{AreLoopFree}
use Rattle.sci_ranges_reads.specs.Live.{Dead, IsLive, IsQuiet, may_program}
use Rattle.sci_ranges_rows.specs.Marks.{Marks, AreMarks, dead_of, is_let, acts_along, acts_in}
use Rattle.sci_ranges_rows.proofs.Marking.{marked_may_act}
use Rattle.sci_ranges_marks.specs.declared.indexed_row.IndexedRow.{IndexedRow}
use Rattle.sci_ranges_marks.specs.Branches.{AreFewBranches}
use Rattle.sci_ranges_marks.specs.View.{lists_of, row_of, IsFirstPlace, AreMarked}
use Rattle.sci_ranges_marks.proofs.Placed.{block_at}
use Rattle.sci_ranges_marks.proofs.Rowed.{row_read}

-- ---- one row

pub acts_length : (dead : Dead) (acts : List Bool) (es : List PlainEntry) → length (acts_along dead acts es) ≡ length acts
acts_length dead acts [] = refl
acts_length dead acts (e ∷ es) = acts_length dead (set acts e.block (is_let dead acts e)) es ∙ length-set acts e.block (is_let dead acts e)

acts_more : (dead : Dead) (acts : List Bool) (es : List PlainEntry) (e : PlainEntry)
    → acts_along dead acts (es ++ e ∷ []) ≡ set (acts_along dead acts es) e.block (is_let dead (acts_along dead acts es) e)
acts_more dead acts [] e = refl
acts_more dead acts (x ∷ es) e = acts_more dead (set acts x.block (is_let dead acts x)) es e

entries_more : (es : List Entry) (k : ℕ) (e : Entry) → k < length es → e ≡ get_or es k e → entries_of (take (k + 1) es) ≡ entries_of (take k es) ++ plain_entry e ∷ []
entries_more es k e h s =
    ap entries_of (take_more es k e h)
    ∙ (map-append plain_entry (take k es) (get_or es k e ∷ []) ∙ ap (λ (x : Entry). entries_of (take k es) ++ plain_entry x ∷ []) (sym s))

-- the marks of the first k entries
pub record AreActsTo (dead : Dead) (count : ℕ) (row : List Entry) (k : ℕ) (acts : List Bool) : Type 0 where
  pub enough : length acts ≡ count + 1
  pub marks : acts ≡ acts_along dead (replicate (count + 1) false) (entries_of (take k row))

pub no_acts : (dead : Dead) (count : ℕ) (row : List Entry) (acts : List Bool) → acts ≡ replicate (count + 1) false → AreActsTo dead count row 0 acts
no_acts dead count row acts e = record { enough = ap length e ∙ length-replicate (count + 1) false; marks = e }

pub one_act : (dead : Dead) (count : ℕ) (row : List Entry) (k : ℕ) (acts : List Bool) (e : Entry) (on : Bool) → k < length row → e ≡ get_or row k e →
    on ≡ is_let dead acts (plain_entry e) → AreActsTo dead count row k acts → AreActsTo dead count row (k + 1) (set acts e.block on)
one_act dead count row k acts e on h s is to =
    let first : List Bool = replicate (count + 1) false in record {
      enough = length-set acts e.block on ∙ to.enough;
      marks = ap (set acts e.block) is
          ∙ (ap (λ (bs : List Bool). set bs e.block (is_let dead bs (plain_entry e))) to.marks
          ∙ (sym (acts_more dead first (entries_of (take k row)) (plain_entry e)) ∙ ap (acts_along dead first) (sym (entries_more row k e h s))));
    }

pub all_acts : (dead : Dead) (count : ℕ) (row : List Entry) (k : ℕ) (acts : List Bool) → length row ≤ k → AreActsTo dead count row k acts → acts ≡ acts_in dead count (entries_of row)
all_acts dead count row k acts h to = to.marks ∙ ap (λ (es : List Entry). acts_along dead (replicate (count + 1) false) (entries_of es)) (take_all k row h)

-- ---- all rows

pub rows_more : (f : List PlainEntry → List Bool) (rows : List IndexedRow) (k : ℕ) (r : IndexedRow) (acts : List (Vec Bool Global)) (v : Vec Bool Global) → k < length rows →
    r ≡ get_or rows k r → v.items ≡ f (row_of r) → rows_of acts ≡ map f (map row_of (take k rows)) → rows_of (acts ++ v ∷ []) ≡ map f (map row_of (take (k + 1) rows))
rows_more f rows k r acts v h s is so_far =
    let items = λ (w : Vec Bool Global). w.items in
    map-append items acts (v ∷ [])
    ∙ (ap (λ (bs : List (List Bool)). bs ++ v.items ∷ []) so_far
    ∙ (ap (λ (b : List Bool). map f (map row_of (take k rows)) ++ b ∷ []) (is ∙ ap (λ (x : IndexedRow). f (row_of x)) s)
    ∙ (sym (map-append f (map row_of (take k rows)) (row_of (get_or rows k r) ∷ []))
    ∙ ap (map f) (sym (ap (map row_of) (take_more rows k r h) ∙ map-append row_of (take k rows) (get_or rows k r ∷ []))))))

pub rows_all : (f : List PlainEntry → List Bool) (rows : List IndexedRow) (k : ℕ) (acts : List (Vec Bool Global)) → length rows ≤ k → rows_of acts ≡ map f (map row_of (take k rows)) →
    rows_of acts ≡ map f (map row_of rows)
rows_all f rows k acts h e = e ∙ ap (λ (rs : List IndexedRow). map f (map row_of rs)) (take_all k rows h)

-- the rows made ready
pub ready_more : (rows : List (Vec Entry Global)) (k : ℕ) (row : Vec Entry Global) (ready : List IndexedRow) (r : IndexedRow) → k < length rows → row ≡ get_or rows k row → r.entries ≡ row →
    map row_of ready ≡ lists_of (take k rows) → map row_of (ready ++ r ∷ []) ≡ lists_of (take (k + 1) rows)
ready_more rows k row ready r h s is so_far =
    let list = λ (v : Vec Entry Global). entries_of v.items in
    map-append row_of ready (r ∷ [])
    ∙ (ap (λ (ls : List (List PlainEntry)). ls ++ row_of r ∷ []) so_far
    ∙ (ap (λ (v : Vec Entry Global). lists_of (take k rows) ++ list v ∷ []) (is ∙ s)
    ∙ sym (ap lists_of (take_more rows k row h) ∙ map-append list (take k rows) (get_or rows k row ∷ []))))

-- ---- the blocks of a row

pub row_blocks : (n : Parts) (s : Source) (row : List Entry) → IsRow n s (entries_of row) → All (λ (e : Entry). IsBlock n e.block) row
row_blocks n s row is k d h =
    let e : Entry = get_or row k d in
    let here : get_or (blocks_of (entries_of row)) k e.block ≡ e.block =
    get_or_default (blocks_of (entries_of row)) k e.block 0 within ∙ block_at row k e h (get_or_default row k d e h) in
    Spread-block n s _ ((is.exactly e.block).0 (k, within, here))
  where
    within : k < length (blocks_of (entries_of row))
    within = let len = length-map (entries_of row) (λ (x : PlainEntry). x.block) in let more = length-map row plain_entry in omega (arith, len, more, h)

pub row_at_place : (n : Parts) (rows : List IndexedRow) (k : ℕ) (r : IndexedRow) → IsSchedule n (map row_of rows) → k < length rows → r ≡ get_or rows k r → IsRow n (source_of n k) (entries_of r.entries.items)
row_at_place n rows k r is h s =
    let len = length-map rows row_of in
    let there : get_or (map row_of rows) k [] ≡ row_of r = get_or-map row_of rows k r [] h ∙ ap row_of (sym s) in
    subst (λ (es : List PlainEntry). IsRow n (source_of n k) es) there (is.each k (omega (arith, h, len)))

pub list_at_place : (n : Parts) (rows : List (Vec Entry Global)) (k : ℕ) (v : Vec Entry Global) → IsSchedule n (lists_of rows) → k < length rows → v ≡ get_or rows k v → IsRow n (source_of n k) (entries_of v.items)
list_at_place n rows k v is h s =
    let list = λ (w : Vec Entry Global). entries_of w.items in
    let len = length-map rows list in
    let there : get_or (lists_of rows) k [] ≡ entries_of v.items = get_or-map list rows k v [] h ∙ ap list (sym s) in
    subst (λ (es : List PlainEntry). IsRow n (source_of n k) es) there (is.each k (omega (arith, h, len)))

pub blocks_below : (n : Parts) (s : Source) (row : List Entry) → IsRow n s (entries_of row) → All (λ (e : Entry). e.block ≤ length n.specs) row
blocks_below n s row is k d h = (row_blocks n s row is k d h).most

-- ---- start programs nothing

all_at_block : (P : ℕ → Type 0) (row : List Entry) → All (λ (e : Entry). P e.block) row → (b : ℕ) → Contains (blocks_of (entries_of row)) b → P b
all_at_block P [] all b (k, l, e) = absurd (omega (arith, l))
all_at_block P (x ∷ row) all b (zero, l, e) = subst P e (all 0 x (omega arith))
all_at_block P (x ∷ row) all b (suc k, l, e) = all_at_block P row (λ j d h. all (suc j) d (omega (arith, h))) b (k, omega (arith, l), e)

pub quiet_by : (n : Parts) (dead : Dead) (row : List Entry) (acts : List Bool) → IsNet n → AreLoopFree n → IsRow n Start (entries_of row) → acts ≡ acts_in dead (length n.specs) (entries_of row) →
    All (λ (e : Entry). truth_at acts e.block ≡ true → may_program (spec_of n e.block) ≡ false) row → IsQuiet n dead
quiet_by n dead row acts net free is marks none b may =
    let some : 0 < length (sources_of n) = omega arith in
    let on = (marked_may_act n dead Start (entries_of row) b net (free 0 some) is).1 may in
    all_at_block (λ c. truth_at acts c ≡ true → may_program (spec_of n c) ≡ false) row none b ((is.exactly b).1 (possible n Start _ may))
    (ap (λ (bs : List Bool). truth_at bs b) marks ∙ on)

-- ---- the place of the first event, where start is quiet

pub quiet_place : (n : Parts) (dead : Dead) (quiet : Bool) (first : Option ℕ) → (quiet ≡ true → IsQuiet n dead) → IsFirstPlace n first →
    ((f : ℕ) → cond quiet first None ≡ Some f → IsQuiet n dead) × IsFirstPlace n (cond quiet first None)
quiet_place n dead true first h is = ((λ f e. h refl), is)
quiet_place n dead false first h is = ((λ f e. cc), (λ f e. cc))

-- ---- the blocks of the first k entries

pub none_more : (n : Parts) (acts : List Bool) (row : List Entry) (k : ℕ) (e : Entry) → k < length row →
    (truth_at acts (get_or row k e).block ≡ true → may_program (spec_of n (get_or row k e).block) ≡ false) →
    ((j : ℕ) (d : Entry) → j < k → truth_at acts (get_or row j d).block ≡ true → may_program (spec_of n (get_or row j d).block) ≡ false) →
    (j : ℕ) (d : Entry) → j < k + 1 → truth_at acts (get_or row j d).block ≡ true → may_program (spec_of n (get_or row j d).block) ≡ false
none_more n acts row k e h here before j d l = elim (cases_lt j k) [
  | inl p ↦ before j d p
  | inr p ↦
      let same : k ≡ j = omega (arith, p, l) in
      subst (λ (i : ℕ). truth_at acts (get_or row i d).block ≡ true → may_program (spec_of n (get_or row i d).block) ≡ false) same
      (subst (λ (x : Entry). truth_at acts x.block ≡ true → may_program (spec_of n x.block) ≡ false) (get_or_default row k e d h) here)
]

-- ---- marking

pub marks_along : (n : Parts) (ds es : List (Vec Bool Global)) (rs qs : List IndexedRow) (acts : List (Vec Bool Global)) → ds ≡ es → rs ≡ qs →
    rows_of acts ≡ map (acts_in (dead_of (rows_of ds)) (length n.specs)) (map row_of rs) → rows_of acts ≡ map (acts_in (dead_of (rows_of es)) (length n.specs)) (map row_of qs)
marks_along n ds es rs qs acts d e is =
    is
    ∙ (ap (λ (xs : List (Vec Bool Global)). map (acts_in (dead_of (rows_of xs)) (length n.specs)) (map row_of rs)) d
    ∙ ap (λ (xs : List IndexedRow). map (acts_in (dead_of (rows_of es)) (length n.specs)) (map row_of xs)) e)

-- as many marks as rows
pub marks_length : (f : List PlainEntry → List Bool) (rows : List IndexedRow) (acts : List (Vec Bool Global)) → rows_of acts ≡ map f (map row_of rows) → length acts ≡ length rows
marks_length f rows acts is =
    sym (length-map acts (λ (v : Vec Bool Global). v.items)) ∙ (ap length is ∙ (length-map (map row_of rows) f ∙ length-map rows row_of))

first_marked : (f : List PlainEntry → List Bool) (rows : List IndexedRow) (acts : List (Vec Bool Global)) (r : IndexedRow) (v : Vec Bool Global) → 0 < length rows →
    rows_of acts ≡ map f (map row_of rows) → r ≡ get_or rows 0 r → v ≡ get_or acts 0 v → v.items ≡ f (row_of r)
first_marked f rows acts r v some is s t =
    let len = length-map rows row_of in
    let many = marks_length f rows acts is in
    sym (row_read acts 0 v [] (omega (arith, some, many)) t)
    ∙ (ap (λ (bs : List (List Bool)). get_or bs 0 []) is
    ∙ (get_or-map f (map row_of rows) 0 [] [] (omega (arith, some, len)) ∙ ap f (get_or-map row_of rows 0 r [] some ∙ ap row_of (sym s))))

-- start is quiet where its marked blocks program nothing
pub quiet_marked : (n : Parts) (dead : Dead) (rows : List IndexedRow) (acts : List (Vec Bool Global)) (r : IndexedRow) (v : Vec Bool Global) (row : List Entry) (marks : List Bool) →
    IsNet n → AreLoopFree n → IsSchedule n (map row_of rows) → rows_of acts ≡ map (acts_in dead (length n.specs)) (map row_of rows) → r ≡ get_or rows 0 r → v ≡ get_or acts 0 v →
    row ≡ r.entries.items → marks ≡ v.items →
    All (λ (e : Entry). truth_at marks e.block ≡ true → may_program (spec_of n e.block) ≡ false) row → IsQuiet n dead
quiet_marked n dead rows acts r v row marks net free schedule is s t re ve none =
    let some : 0 < length rows = let len = length-map rows row_of in let all = schedule.enough in omega (arith, len, all) in
    quiet_by n dead r.entries.items v.items net free (row_at_place n rows 0 r schedule some s) (first_marked (acts_in dead (length n.specs)) rows acts r v some is s t)
    (subst (λ (bs : List Bool). All (λ (e : Entry). truth_at bs e.block ≡ true → may_program (spec_of n e.block) ≡ false) r.entries.items) ve
    (subst (λ (es : List Entry). All (λ (e : Entry). truth_at marks e.block ≡ true → may_program (spec_of n e.block) ≡ false) es) re none))

-- ---- a branch that is dead no longer

rows_set : (ds : List (Vec Bool Global)) (k : ℕ) (w : Vec Bool Global) → rows_of (set ds k w) ≡ set (rows_of ds) k w.items
rows_set [] k w = refl
rows_set (d ∷ ds) zero w = refl
rows_set (d ∷ ds) (suc k) w = ap (λ (bs : List (List Bool)). d.items ∷ bs) (rows_set ds k w)

pub few_set : (ds : List (Vec Bool Global)) (k : ℕ) (v w : Vec Bool Global) → k < length ds → v ≡ get_or ds k v → length w.items ≡ length v.items → AreFewBranches ds → AreFewBranches (set ds k w)
few_set ds k v w h s same few b = by_test (nat_eq k b) refl
  where
    len : length (rows_of ds) ≡ length ds
    len = length-map ds (λ (u : Vec Bool Global). u.items)

    by_test : (t : Bool) → nat_eq k b ≡ t → length (get_or (rows_of (set ds k w)) b []) < 2 ^ 32
    by_test true p =
        let e : k ≡ b = nat_same k b p in
        let here : get_or (rows_of (set ds k w)) b [] ≡ w.items =
        ap (λ (bs : List (List Bool)). get_or bs b []) (rows_set ds k w)
        ∙ (ap (λ (j : ℕ). get_or (set (rows_of ds) k w.items) j []) (sym e) ∙ get_or-set_same (rows_of ds) k w.items [] (omega (arith, h, len))) in
        let old : get_or (rows_of ds) k [] ≡ v.items = row_read ds k v [] h s in
        let small = few k in
        omega (arith, small, same, ap length here, ap length old)
    by_test false p =
        let other : b ≢ k = grind (arith, nat_tests, p) in
        let here : get_or (rows_of (set ds k w)) b [] ≡ get_or (rows_of ds) b [] =
        ap (λ (bs : List (List Bool)). get_or bs b []) (rows_set ds k w) ∙ get_or-set_other (rows_of ds) k b w.items [] other in
        let small = few b in
        omega (arith, small, ap length here)

-- with each live source marked, the marks are whole
pub all_marks : (n : Parts) (m : Marks) → AreMarked n m → ((k : ℕ) → IsLive n (dead_of m.dead) (source_of n k) → k < length m.rows → truth_at m.live k ≡ true) → AreMarks n m
all_marks n m marked live = record { acts = marked.acts; live = live; quiet = marked.quiet; first = marked.first }
