-- What is read of the lists that hold a net's parts.
use Rattle.std.proofs.Common.{◌≡◌, ℕ, ◌-◌, ◌<◌, ◌≤◌, List, [], length, get_or, map, slice_index_or, sym, ◌∙◌, ap, subst, arith, Vec, Global}
use Rattle.std.proofs.lemmas.List.{length-map, get_or-map, get_or_default}
use Rattle.sci_base.specs.declared.refusal.Place.{Place}
use Rattle.sci_net.specs.declared.Wire.{Wire}
use Rattle.sci_net.specs.declared.Feed.{Feed}
use Rattle.sci_net.specs.Parts.{Parts, numbered, paths_of, rows_of, feed_lists, HaveLists, path_of, wire_of, no_wire}
use Rattle.sci_net.proofs.Numbered.{numbered_map, numbered_read}

pub path_read : (places : List Place) (n : Parts) → paths_of places ≡ n.paths → (b : ℕ) (v : Place) → 1 ≤ b → b ≤ length n.paths
    → v ≡ get_or places (b - 1) v → v.path.items ≡ path_of n b
path_read places n same b v least most e =
    let l = length-map places (λ (p : Place). p.path.items) in
    let m : length (paths_of places) ≡ length n.paths = ap length same in
    sym (numbered_map (λ (p : Place). p.path.items) [] places b v least (omega arith) e)
    ∙ ap (λ (ps : List (List ℕ)). numbered [] ps b) same

-- a row of these
pub row_read : {A : Type 0} (rows : List (Vec A Global)) (plain : List (List A)) → rows_of rows ≡ plain → (b : ℕ) (v : Vec A Global) → 1 ≤ b → b ≤ length plain
    → v ≡ get_or rows (b - 1) v → v.items ≡ numbered [] plain b
row_read {A} rows plain same b v least most e =
    let l = length-map rows (λ (r : Vec A Global). r.items) in
    let m : length (rows_of rows) ≡ length plain = ap length same in
    sym (numbered_map (λ (r : Vec A Global). r.items) [] rows b v least (omega arith) e)
    ∙ ap (λ (ls : List (List A)). numbered [] ls b) same

pub wire_read : (wires : List (Vec Wire Global)) (n : Parts) → rows_of wires ≡ n.wires → (b k : ℕ) (v : Vec Wire Global) (x : Wire) → 1 ≤ b → b ≤ length n.wires
    → 1 ≤ k → k ≤ length (numbered [] n.wires b) → v ≡ get_or wires (b - 1) v → x ≡ get_or v.items (k - 1) x → x ≡ wire_of n b k
wire_read wires n same b k v x least most k_least k_most e f =
    let row = row_read wires n.wires same b v least most e in
    let l : length v.items ≡ length (numbered [] n.wires b) = ap length row in
    numbered_read no_wire v.items k x k_least (omega arith) f
    ∙ ap (λ (xs : List Wire). numbered no_wire xs k) row

-- ---- lists by their numbers

-- the lists of a row of numbers
abbrev pub listed : List (List Feed) → List ℕ → List (List Feed)
listed lists ks = map (λ k. slice_index_or lists k []) ks

row_get : {A : Type 0} (rows : List (Vec A Global)) (i : ℕ) (v : Vec A Global) (d : List A) → i < length rows → v ≡ get_or rows i v → get_or (rows_of rows) i d ≡ v.items
row_get {A} rows i v d within e = get_or-map (λ (r : Vec A Global). r.items) rows i v d within ∙ ap (λ (r : Vec A Global). r.items) (sym e)

-- the lists of block b
pub listed_read : (lists : List (List Feed)) (rows : List (Vec ℕ Global)) (n : List (List (List Feed))) → feed_lists lists (rows_of rows) ≡ n → (b : ℕ) (v : Vec ℕ Global) → 1 ≤ b → b ≤ length n
    → v ≡ get_or rows (b - 1) v → listed lists v.items ≡ numbered [] n b
listed_read lists rows n same b v least most e =
    let plain = length-map rows (λ (r : Vec ℕ Global). r.items) in
    let l = length-map (rows_of rows) (listed lists) in
    let m : length (feed_lists lists (rows_of rows)) ≡ length n = ap length same in
    let row : v.items ≡ get_or (rows_of rows) (b - 1) v.items = sym (row_get rows (b - 1) v v.items (omega arith) e) in
    sym (numbered_map (listed lists) [] (rows_of rows) b v.items least (omega arith) row) ∙ ap (λ (ls : List (List (List Feed))). numbered [] ls b) same

pub rows_length : (lists : List (List Feed)) (rows : List (Vec ℕ Global)) (n : List (List (List Feed))) → feed_lists lists (rows_of rows) ≡ n → length rows ≡ length n
rows_length lists rows n same =
    sym (length-map rows (λ (r : Vec ℕ Global). r.items)) ∙ (sym (length-map (rows_of rows) (listed lists)) ∙ ap length same)

pub numbers_length : (lists : List (List Feed)) (rows : List (Vec ℕ Global)) (n : List (List (List Feed))) → feed_lists lists (rows_of rows) ≡ n → (b : ℕ) (v : Vec ℕ Global) → 1 ≤ b → b ≤ length n
    → v ≡ get_or rows (b - 1) v → length v.items ≡ length (numbered [] n b)
numbers_length lists rows n same b v least most e =
    sym (length-map v.items (λ k. slice_index_or lists k [])) ∙ ap length (listed_read lists rows n same b v least most e)

-- the number that is read has a list
pub number_within : (count : ℕ) (rows : List (Vec ℕ Global)) → HaveLists count (rows_of rows) → (b p : ℕ) (v : Vec ℕ Global) (k : ℕ) → b < length rows → p < length v.items
    → v ≡ get_or rows b v → k ≡ get_or v.items p k → k < count
number_within count rows have b p v k hb hp e f =
    let plain = length-map rows (λ (r : Vec ℕ Global). r.items) in
    let row : get_or (rows_of rows) b [] ≡ v.items = row_get rows b v [] hb e in
    let here : get_or (get_or (rows_of rows) b []) p 0 < count = have b p (omega arith) (rw row hp) in
    let k_is : k ≡ get_or v.items p 0 = f ∙ get_or_default v.items p k 0 hp in
    subst (λ m. m < count) (sym k_is) (subst (λ (xs : List ℕ). get_or xs p 0 < count) row here)

pub list_read : (lists : List (Vec Feed Global)) (rows : List (Vec ℕ Global)) (n : List (List (List Feed))) → feed_lists (rows_of lists) (rows_of rows) ≡ n → (b p : ℕ) (v : Vec ℕ Global) (k : ℕ) (x : Vec Feed Global)
    → 1 ≤ b → b ≤ length n → 1 ≤ p → p ≤ length (numbered [] n b) → k < length lists → v ≡ get_or rows (b - 1) v → k ≡ get_or v.items (p - 1) k → x ≡ get_or lists k x
    → x.items ≡ numbered [] (numbered [] n b) p
list_read lists rows n same b p v k x least most p_least p_most within e f g =
    let l = numbers_length (rows_of lists) rows n same b v least most e in
    sym (row_get lists k x [] within g)
    ∙ (sym (numbered_map (λ j. slice_index_or (rows_of lists) j []) [] v.items p k p_least (omega arith) f)
    ∙ ap (λ (ls : List (List Feed)). numbered [] ls p) (listed_read (rows_of lists) rows n same b v least most e))
