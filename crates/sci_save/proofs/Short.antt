-- The text of what may be saved is short.
use Rattle.std.proofs.Common.{◌≡◌, ◌≢◌, ℕ, suc, ◌+◌, ◌*◌, ◌^◌, ◌<◌, ◌≤◌, ℤ, pos, negsuc, List, [], ◌∷◌, ◌++◌, length, map, All, Bool, true, false, ◌&&◌, cond, eqb, refl, sym, subst, arith, length-append}
use Rattle.std.specs.Prelude.{codes, nat_le, unsigned_abs}
use Rattle.std.specs.Fmt.{signed_decimal}
use Rattle.std.specs.List.{AllByRecursion, IsDistinct}
use Rattle.std.proofs.lemmas.Bool.{ne_eqb}
use Rattle.std.proofs.lemmas.Bool.Decides.{nat_tests}
use Rattle.std.proofs.lemmas.Fmt.{length_signed_le}
use Rattle.std.proofs.lemmas.List.{length-map, length-replicate}
use Rattle.std.proofs.lemmas.Map.Steps.{length-le_from_distinct_below}
use Rattle.sci_loop.proofs.Grounded.{inside_at}
use Rattle.sci_forms.specs.declared.Kind.{Kind}
use Rattle.sci_forms.specs.declared.Kind.TheVariants.{Dollar, Register, ModuloCount, GatedDelay}
use Rattle.sci_forms.specs.declared.spec.Spec.{Spec}
use Rattle.sci_forms.specs.Typed.{typed}
use Rattle.sci_forms.specs.Words.{size, state_len_of}
use Rattle.sci_forms.proofs.TestLemmas.{size_small}
use Rattle.sci_kinds.proofs.TypedLemmas.{Tests, tests}
use Rattle.sci_net.specs.declared.Source.{Source}
use Rattle.sci_net.specs.Parts.{Parts, column_of, numbered}
use Rattle.sci_forms.specs.Form.{is_sensor}
use Rattle.sci_net.specs.Net.{IsNet, all_elements}
use Rattle.sci_net.specs.Sources.{sources_of, source_of}
use Rattle.sci_net.proofs.TypedSpecs.{all_typed, sources_few}
use Rattle.sci_reaction.specs.Memory.{Columns}
use Rattle.sci_trace.specs.Lines.{numbers}
use Rattle.sci_save.specs.declared.bounds.Bounds.{Bounds}
use Rattle.sci_save.specs.declared.bounds.BlockLine.{BlockLine}
use Rattle.sci_save.specs.declared.bounds.BlockLine.TheVariants.{State, Held, Cursor}
use Rattle.sci_save.specs.Saved.{Saved}
use Rattle.sci_save.specs.Bounds.{from_to, AreWithin, AreByBlock, state_bound_of, AreShort, word_of, bounds_of}
use Rattle.sci_save.specs.Text.{row_text, rows_text, cursor_rows, port_numbers, event_text, events_text, head_text, lines_text, blocks_text, saved_text}
use Rattle.sci_save.specs.Valid.{IsNear, AreOnce, ArePending, IsValid}
use Rattle.sci_save.specs.Laws.{SavedIsShort}
use Rattle.sci_save.proofs.Numbers.{AreSmall, within_small}
use Rattle.sci_save.proofs.BlockLines.{fine_small, part_fine}
use Rattle.sci_save.proofs.InRange.{ports_total}
use Rattle.sci_save.proofs.Sources.{output_of}

-- ---- numbers of a line

number_short : (z : ℤ) → unsigned_abs z < 2 ^ 63 → length (signed_decimal z) ≤ 20
number_short (pos n) h = length_signed_le 19 (pos n) (omega (arith, h)) (omega (arith, h))
number_short (negsuc n) h = length_signed_le 19 (negsuc n) (omega (arith, h)) (omega (arith, h))

next_short : (z : ℤ) (zs : List ℤ) → unsigned_abs z < 2 ^ 63 → length (numbers (z ∷ zs)) ≤ length (numbers zs) + 21
next_short z zs h =
    let one = number_short z h in
    let joined = length-append (signed_decimal z) (numbers zs) in
    omega (arith, one, joined)

numbers_short : (rs : List Bounds) (zs : List ℤ) → AreSmall rs → AreWithin rs zs → length (numbers zs) ≤ 21 * length rs + 1
numbers_short [] [] s w = omega arith
numbers_short [] (z ∷ zs) s w = absurd w
numbers_short (r ∷ rs) [] s w = absurd w
numbers_short (r ∷ rs) (z ∷ zs) s w =
    let first = next_short z zs (within_small r z s.0 w.0) in
    let rest = numbers_short rs zs s.1 w.1 in
    omega (arith, first, rest)

-- ---- lines of blocks

row_short : (word : List ℕ) (b : ℕ) (rs : List Bounds) (zs : List ℤ) → length word ≤ 6 → b < 2 ^ 63 → AreSmall rs → AreWithin rs zs → length (row_text word b zs) ≤ 21 * length rs + 28
row_short word b rs [] few l s w = omega arith
row_short word b rs (z ∷ zs) few l s w =
    let all = numbers_short rs (z ∷ zs) s w in
    let block = next_short (pos b) (z ∷ zs) l in
    let joined = length-append word (numbers (pos b ∷ z ∷ zs)) in
    omega (arith, few, all, block, joined)

-- how many numbers all blocks have
counted : (Spec → List Bounds) → List Spec → ℕ
counted f [] = 0
counted f (s ∷ ss) = length (f s) + counted f ss

rows_short : (part : BlockLine) (i : Columns) (b : ℕ) (ss : List Spec) (rows : List (List ℤ)) → length (word_of part) ≤ 6 → b + length ss < 2 ^ 63 → AreShort i → All (λ (s : Spec). typed s ≡ true) ss
    → AreByBlock (bounds_of part i) ss rows → length (rows_text (word_of part) b rows) ≤ 21 * counted (bounds_of part i) ss + 28 * length ss
unfolding counted
rows_short part i b [] [] few l short t a = omega arith
rows_short part i b [] (row ∷ rows) few l short t a = absurd a
rows_short part i b (s ∷ ss) [] few l short t a = absurd a
rows_short part i b (s ∷ ss) (row ∷ rows) few l short t a =
    let here = row_short (word_of part) b (bounds_of part i s) row few (omega (arith, l)) (fine_small (bounds_of part i s) (part_fine part i s short (t 0 s (omega arith)))) a.0 in
    let rest = rows_short part i (b + 1) ss rows few (omega (arith, l)) short (λ k d h. t (suc k) d (omega (arith, h))) a.1 in
    let joined = length-append (row_text (word_of part) b row) (rows_text (word_of part) (b + 1) rows) in
    omega (arith, here, rest, joined)

state_few : (k : Kind) (s : Spec) → size s ≤ 256 → Tests k s → state_len_of k s ≤ 256
state_few Dollar s h t = h
state_few GatedDelay s h t = h
state_few Register s h t = few (length s.state) t.state_len
  where
    few : (k : ℕ) → (nat_le 1 k && nat_le k 256) ≡ true → k ≤ 256
    few k h = grind (arith, nat_tests)
state_few ModuloCount s h t = omega arith
state_few _ s h t = omega arith

states_counted : (i : Columns) (ss : List Spec) → All (λ (s : Spec). typed s ≡ true) ss → counted (bounds_of State i) ss ≤ 256 * length ss
unfolding counted
states_counted i [] t = omega arith
states_counted i (s ∷ ss) t =
    let is = t 0 s (omega arith) in
    let few = state_few s.kind s (size_small s is) (tests s.kind s is) in
    let long = length-replicate (state_len_of s.kind s) (state_bound_of s.kind s) in
    let rest = states_counted i ss (λ k d h. t (suc k) d (omega (arith, h))) in
    omega (arith, few, long, rest)

held_counted : (i : Columns) (ss : List Spec) → counted (bounds_of Held i) ss ≡ all_elements ss
unfolding counted
held_counted i [] = refl
held_counted i (s ∷ ss) = let one = ports_total s.outs in let rest = held_counted i ss in omega (arith, one, rest)

cursor_few : (t : Bool) (r : Bounds) → length (cond t (r ∷ []) []) ≤ 1
cursor_few true r = omega arith
cursor_few false r = omega arith

cursors_counted : (i : Columns) (ss : List Spec) → counted (bounds_of Cursor i) ss ≤ length ss
unfolding counted
cursors_counted i [] = omega arith
cursors_counted i (s ∷ ss) =
    let one = cursor_few (is_sensor s.kind) (from_to (pos 0) (pos (length (numbered [] i (column_of s))))) in
    let rest = cursors_counted i ss in
    omega (arith, one, rest)

-- ---- lines of pending events

two_short : (a b : ℕ) → a < 2 ^ 63 → b < 2 ^ 63 → length (numbers (pos a ∷ pos b ∷ [])) ≤ 43
two_short a b h l =
    let first = next_short (pos a) (pos b ∷ []) h in
    let second = next_short (pos b) [] l in
    omega (arith, first, second)

event_short : (n : Parts) (now : ℕ) (d : ℕ × ℕ) → length n.specs ≤ 2048 → length (sources_of n) ≤ 2049 → now ≤ 2 ^ 62 → IsNear n now d → length (event_text n d) ≤ 68
event_short n now d few sources early near =
    let port = output_of n d.1 near.not_start near.source in
    let two = two_short port.block port.port (omega (arith, port.block_most, few)) (omega (arith, port.port_most, near.source, sources)) in
    let told : length (numbers (port_numbers (source_of n d.1))) ≤ 43 = subst (λ (s : Source). length (numbers (port_numbers s)) ≤ 43) (sym port.source) two in
    let date = next_short (pos d.0) (port_numbers (source_of n d.1)) (omega (arith, near.near, early)) in
    omega (arith, told, date)

events_short : (n : Parts) (now : ℕ) (ds : List (ℕ × ℕ)) → length n.specs ≤ 2048 → length (sources_of n) ≤ 2049 → now ≤ 2 ^ 62 → AllByRecursion (IsNear n now) ds → length (events_text n ds) ≤ 68 * length ds
events_short n now [] few sources early near = omega arith
events_short n now (d ∷ ds) few sources early near =
    let here = event_short n now d few sources early near.0 in
    let rest = events_short n now ds few sources early near.1 in
    let joined = length-append (event_text n d) (events_text n ds) in
    omega (arith, here, rest, joined)

apart : (s : ℕ) (ds : List (ℕ × ℕ)) → AllByRecursion (λ (e : ℕ × ℕ). e.1 ≢ s) ds → AllByRecursion (λ (q : ℕ). eqb s q ≡ false) (map (λ (d : ℕ × ℕ). d.1) ds)
apart s [] a = tt
apart s (d ∷ ds) a = (ne_eqb s d.1 (λ e. a.0 (sym e)), apart s ds a.1)

once_distinct : (ds : List (ℕ × ℕ)) → AreOnce ds → IsDistinct eqb (map (λ (d : ℕ × ℕ). d.1) ds)
unfolding IsDistinct
once_distinct [] o = tt
once_distinct (d ∷ ds) o = (apart d.1 ds o.0, once_distinct ds o.1)

sources_inside : (n : Parts) (now : ℕ) (ds : List (ℕ × ℕ)) → AllByRecursion (IsNear n now) ds → AllByRecursion (λ (q : ℕ). q < length (sources_of n)) (map (λ (d : ℕ × ℕ). d.1) ds)
sources_inside n now [] a = tt
sources_inside n now (d ∷ ds) a = (a.0.source, sources_inside n now ds a.1)

-- at most one of each source is pending
pending_few : (n : Parts) (now : ℕ) (ds : List (ℕ × ℕ)) → ArePending n now ds → length ds ≤ length (sources_of n)
pending_few n now ds p =
    let places = map (λ (d : ℕ × ℕ). d.1) ds in
    let most = length-le_from_distinct_below places (length (sources_of n)) (once_distinct ds p.once) (inside_at (length (sources_of n)) places (sources_inside n now ds p.near)) in
    let long = length-map ds (λ (d : ℕ × ℕ). d.1) in
    omega (arith, most, long)

-- ---- the whole text

head_short : (m : Saved) → m.fired ≤ 1000000 → m.now ≤ 2 ^ 62 → length (head_text m) ≤ 52
head_short m few early = let two = two_short m.fired m.now (omega (arith, few)) (omega (arith, early)) in omega (arith, two)

module _ (n : Parts) (i : Columns) (m : Saved) (net : IsNet n) (short : AreShort i) (valid : IsValid n i m) where
  blocks_short : length (blocks_text n m) ≤ 21 * (256 * 2048 + 65536 + 2048) + 3 * (28 * 2048)
  blocks_short =
      let t = all_typed n net in
      let few = net.wired.few in
      let fits : 1 + length n.specs < 2 ^ 63 = omega (arith, few) in
      let states = rows_short State i 1 n.specs m.states (omega arith) fits short t valid.shaped.states in
      let held = rows_short Held i 1 n.specs m.held (omega arith) fits short t valid.shaped.held in
      let cursors = rows_short Cursor i 1 n.specs (cursor_rows n.specs m.cursors) (omega arith) fits short t valid.taken in
      let a = states_counted i n.specs t in
      let b = held_counted i n.specs in
      let c = cursors_counted i n.specs in
      let rest = length-append (rows_text (codes "held") 1 m.held) (rows_text (codes "cursor") 1 (cursor_rows n.specs m.cursors)) in
      let all = length-append (rows_text (codes "state") 1 m.states) (rows_text (codes "held") 1 m.held ++ rows_text (codes "cursor") 1 (cursor_rows n.specs m.cursors)) in
      omega (arith, few, net.small, states, held, cursors, a, b, c, rest, all)

  pending_short : length (events_text n m.pending) ≤ 68 * 2049
  pending_short =
      let few = net.wired.few in
      let all = sources_few 1 n.specs (all_typed n net) in
      let sources : length (sources_of n) ≤ 2049 = omega (arith, few, all) in
      let p = valid.shaped.pending in
      let lines = events_short n m.now m.pending few sources valid.shaped.now p.near in
      let most = pending_few n m.now m.pending p in
      omega (arith, lines, most, sources)

  whole_short : length (saved_text n m) ≤ 67108864
  unfolding saved_text
  whole_short =
      let head = head_short m valid.shaped.fired valid.shaped.now in
      let last = length-append (events_text n m.pending) (codes "done\n") in
      let lines = length-append (blocks_text n m) (events_text n m.pending ++ codes "done\n") in
      let all = length-append (head_text m) (lines_text n m) in
      omega (arith, head, blocks_short, pending_short, last, lines, all)

pub saved_is_short : SavedIsShort
saved_is_short n i m net short valid = whole_short n i m net short valid
