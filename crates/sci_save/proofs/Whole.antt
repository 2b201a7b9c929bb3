-- A whole text.
use Rattle.std.proofs.Common.{◌≡◌, ℕ, suc, ◌+◌, ◌^◌, ◌<◌, ◌≤◌, ℤ, pos, negsuc, List, [], ◌∷◌, ◌++◌, length, get_or, Result, Ok, Err, Bool, true, false, cond, refl, sym, ap, ap₂, ◌∙◌, subst, arith, append_assoc}
use Rattle.std.specs.Prelude.{codes, unsigned_abs}
use Rattle.std.proofs.lemmas.Int.{ints}
use Rattle.sci_base.specs.Lists.{at}
use Rattle.sci_forms.specs.declared.spec.Spec.{Spec}
use Rattle.sci_forms.specs.Typed.{typed}
use Rattle.sci_net.specs.Parts.{Parts, column_of, numbered}
use Rattle.sci_forms.specs.Form.{is_sensor}
use Rattle.sci_net.specs.Net.{IsNet}
use Rattle.sci_net.proofs.TypedSpecs.{all_typed}
use Rattle.sci_reaction.specs.Memory.{Columns}
use Rattle.sci_trace.specs.Lines.{numbers}
use Rattle.sci_save.specs.declared.bounds.BlockLine.{BlockLine}
use Rattle.sci_save.specs.declared.bounds.BlockLine.TheVariants.{State, Held, Cursor}
use Rattle.sci_save.specs.Saved.{Saved}
use Rattle.sci_save.specs.Bounds.{from_to, AreWithin, AreByBlock, cursor_bounds, AreShort, bounds_of}
use Rattle.sci_save.specs.Text.{cursor_rows, rows_text, saved_text}
use Rattle.sci_save.specs.Valid.{AreCursors, ArePending, IsValid}
use Rattle.sci_save.specs.Reading.{Read, ◌>>=◌, line_at, rows_at, first_of, firsts_of, at_bounds, made, pending_at, saved_at}
use Rattle.sci_save.proofs.Readers.{IsReader, both, both_text, both_fit, both_read, pair_with, pairs, viewed, seen, seen_read, same_read}
use Rattle.sci_save.proofs.BlockLines.{AreFine, FineByBlock, part_fine, line_text, line_read, rows_read}
use Rattle.sci_save.proofs.PendingLines.{ended_text, pending_read}

-- ---- cursors

row_of_cursor : (t : Bool) (len : ℕ) (row : List ℤ) → AreWithin (cond t (from_to (pos 0) (pos len) ∷ []) []) row → cond t (pos (first_of row) ∷ []) [] ≡ row
row_of_cursor true len [] w = absurd w
row_of_cursor true len (pos n ∷ []) w = refl
row_of_cursor true len (negsuc n ∷ []) w = let a = w.0.above in absurd (omega (arith, ints))
row_of_cursor true len (v ∷ u ∷ us) w = absurd w.1
row_of_cursor false len [] w = refl
row_of_cursor false len (v ∷ vs) w = absurd w

no_cursor : (t : Bool) (len : ℕ) (row : List ℤ) → AreWithin (cond t (from_to (pos 0) (pos len) ∷ []) []) row → t ≡ false → first_of row ≡ 0
no_cursor true len row w e = absurd cc
no_cursor false len [] w e = refl
no_cursor false len (v ∷ vs) w e = absurd w

rows_of_cursors : (i : Columns) (ss : List Spec) (rows : List (List ℤ)) → AreByBlock (cursor_bounds i) ss rows → cursor_rows ss (firsts_of rows) ≡ rows
rows_of_cursors i [] [] f = refl
rows_of_cursors i [] (row ∷ rows) f = absurd f
rows_of_cursors i (s ∷ ss) [] f = absurd f
rows_of_cursors i (s ∷ ss) (row ∷ rows) f =
    ap₂ (λ (x : List ℤ) (xs : List (List ℤ)). x ∷ xs) (row_of_cursor (is_sensor s.kind) (length (numbered [] i (column_of s))) row f.0) (rows_of_cursors i ss rows f.1)

cursors_are : (i : Columns) (ss : List Spec) (rows : List (List ℤ)) → AreByBlock (cursor_bounds i) ss rows → AreCursors ss (firsts_of rows)
cursors_are i [] [] f = tt
cursors_are i [] (row ∷ rows) f = absurd f
cursors_are i (s ∷ ss) [] f = absurd f
cursors_are i (s ∷ ss) (row ∷ rows) f = (λ e. no_cursor (is_sensor s.kind) (length (numbered [] i (column_of s))) row f.0 e, cursors_are i ss rows f.1)

cursor_of_row : (t : Bool) (c : ℕ) → (t ≡ false → c ≡ 0) → first_of (cond t (pos c ∷ []) []) ≡ c
cursor_of_row true c f = refl
cursor_of_row false c f = sym (f refl)

cursors_of_rows : (ss : List Spec) (cs : List ℕ) → AreCursors ss cs → firsts_of (cursor_rows ss cs) ≡ cs
cursors_of_rows [] [] f = refl
cursors_of_rows [] (c ∷ cs) f = absurd f
cursors_of_rows (s ∷ ss) [] f = absurd f
cursors_of_rows (s ∷ ss) (c ∷ cs) f = ap₂ (λ (x : ℕ) (xs : List ℕ). x ∷ xs) (cursor_of_row (is_sensor s.kind) c f.0) (cursors_of_rows ss cs f.1)

-- ---- two numbers

pub record AreTwo (l h : ℕ) (ns : List ℤ) : Type 0 where
  pub are : ns ≡ pos (unsigned_abs (at ns 0)) ∷ pos (unsigned_abs (at ns 1)) ∷ []
  pub first : unsigned_abs (at ns 0) ≤ l
  pub second : unsigned_abs (at ns 1) ≤ h

pub two : (l h : ℕ) (ns : List ℤ) → AreWithin (from_to (pos 0) (pos l) ∷ from_to (pos 0) (pos h) ∷ []) ns → AreTwo l h ns
two l h [] w = absurd w
two l h (x ∷ []) w = absurd w.1
two l h (pos a ∷ pos b ∷ []) w = let p = w.0.below in let q = w.1.0.below in record { are = refl; first = omega (arith, ints); second = omega (arith, ints) }
two l h (negsuc a ∷ y ∷ []) w = let p = w.0.above in absurd (omega (arith, ints))
two l h (pos a ∷ negsuc b ∷ []) w = let p = w.1.0.above in absurd (omega (arith, ints))
two l h (x ∷ y ∷ z ∷ zs) w = absurd w.1.1

two_within : (l h a b : ℕ) → a ≤ l → b ≤ h → AreWithin (from_to (pos 0) (pos l) ∷ from_to (pos 0) (pos h) ∷ []) (pos a ∷ pos b ∷ [])
two_within l h a b p q = (record { above = omega (arith, ints); below = omega (arith, ints) }, (record { above = omega (arith, ints); below = omega (arith, ints) }, tt))

stands_fine : AreFine at_bounds
stands_fine = (
  record { small = record { low = omega arith; high = omega arith }; spans = omega (arith, ints) },
  (record { small = record { low = omega arith; high = omega arith }; spans = omega (arith, ints) }, tt),
)

-- ---- all lines

push : {A B C : Type 0} (f : A × B → C) (first : List ℕ → Read A) (second : A → List ℕ → Read B) (bytes : List ℕ) → seen f (both first second) bytes ≡ (first bytes >>= λ x. seen (λ (y : B). f (x.0, y)) (second x.0) x.1)
push {A} {B} {C} f first second bytes = by_first (first bytes)
  where
    by_second : (a : A) (o : Read B) → viewed f (pair_with a o) ≡ viewed (λ (y : B). f (a, y)) o
    by_second a (Ok y) = refl
    by_second a (Err c) = refl

    by_first : (o : Read A) → viewed f (pairs o second) ≡ (o >>= λ x. viewed (λ (y : B). f (x.0, y)) (second x.0 x.1))
    by_first (Ok x) = by_second x.0 (second x.0 x.1)
    by_first (Err c) = refl

bind_ext : {A B : Type 0} (o : Result A ℕ) (k l : A → Result B ℕ) → ((x : A) → k x ≡ l x) → (o >>= k) ≡ (o >>= l)
bind_ext (Ok x) k l e = e x
bind_ext (Err c) k l e = refl

abbrev Rows : Type 0
Rows = List (List ℤ)

abbrev Behind4 : Type 0
Behind4 = Rows × List (ℕ × ℕ)

abbrev Behind3 : Type 0
Behind3 = Rows × Behind4

abbrev Behind2 : Type 0
Behind2 = Rows × Behind3

abbrev Behind1 : Type 0
Behind1 = List ℤ × Behind2

abbrev Lines : Type 0
Lines = List ℤ × Behind1

abbrev joins : Lines → Saved
joins x = made x.1.0 x.1.1.0 x.1.1.1.0 x.1.1.1.1.0 x.1.1.1.1.1

abbrev parts : Parts → Saved → Lines
parts n m = ([], (pos m.fired ∷ pos m.now ∷ [], (m.states, (m.held, (cursor_rows n.specs m.cursors, m.pending)))))

module _ (n : Parts) (i : Columns) where
  abbrev read4 : List ℤ → List ℕ → Read Behind4
  read4 stands = both (rows_at Cursor i 1 n.specs) (λ c. pending_at n (unsigned_abs (at stands 1)))

  abbrev read3 : List ℤ → List ℕ → Read Behind3
  read3 stands = both (rows_at Held i 1 n.specs) (λ h. read4 stands)

  abbrev read2 : List ℤ → List ℕ → Read Behind2
  read2 stands = both (rows_at State i 1 n.specs) (λ s. read3 stands)

  abbrev read1 : List ℕ → Read Behind1
  read1 = both (line_at (codes "at") at_bounds) read2

  abbrev read0 : List ℕ → Read Lines
  read0 = both (line_at (codes "save 1") []) (λ v. read1)

  abbrev flat4 : List ℤ → Rows → Rows → List ℕ → Read Saved
  flat4 stands states held bytes = rows_at Cursor i 1 n.specs bytes >>= λ cursors. pending_at n (unsigned_abs (at stands 1)) cursors.1 >>= λ pending. Ok (made stands states held cursors.0 pending.0, pending.1)

  abbrev flat3 : List ℤ → Rows → List ℕ → Read Saved
  flat3 stands states bytes = rows_at Held i 1 n.specs bytes >>= λ held. flat4 stands states held.0 held.1

  abbrev flat2 : List ℤ → List ℕ → Read Saved
  flat2 stands bytes = rows_at State i 1 n.specs bytes >>= λ states. flat3 stands states.0 states.1

  abbrev flat1 : List ℕ → Read Saved
  flat1 bytes = line_at (codes "at") at_bounds bytes >>= λ stands. flat2 stands.0 stands.1

  flatten4 : (v stands : List ℤ) (states held : Rows) (bytes : List ℕ) → seen (λ (y : Behind4). joins (v, (stands, (states, (held, y))))) (read4 stands) bytes ≡ flat4 stands states held bytes
  flatten4 v stands states held bytes = push (λ (y : Behind4). joins (v, (stands, (states, (held, y))))) (rows_at Cursor i 1 n.specs) (λ c. pending_at n (unsigned_abs (at stands 1))) bytes

  flatten3 : (v stands : List ℤ) (states : Rows) (bytes : List ℕ) → seen (λ (y : Behind3). joins (v, (stands, (states, y)))) (read3 stands) bytes ≡ flat3 stands states bytes
  flatten3 v stands states bytes =
      push (λ (y : Behind3). joins (v, (stands, (states, y)))) (rows_at Held i 1 n.specs) (λ h. read4 stands) bytes
      ∙ bind_ext (rows_at Held i 1 n.specs bytes) (λ (h : Rows × List ℕ). seen (λ (y : Behind4). joins (v, (stands, (states, (h.0, y))))) (read4 stands) h.1) (λ (h : Rows × List ℕ). flat4 stands states h.0 h.1)
      (λ (h : Rows × List ℕ). flatten4 v stands states h.0 h.1)

  flatten2 : (v stands : List ℤ) (bytes : List ℕ) → seen (λ (y : Behind2). joins (v, (stands, y))) (read2 stands) bytes ≡ flat2 stands bytes
  flatten2 v stands bytes =
      push (λ (y : Behind2). joins (v, (stands, y))) (rows_at State i 1 n.specs) (λ s. read3 stands) bytes
      ∙ bind_ext (rows_at State i 1 n.specs bytes) (λ (s : Rows × List ℕ). seen (λ (y : Behind3). joins (v, (stands, (s.0, y)))) (read3 stands) s.1) (λ (s : Rows × List ℕ). flat3 stands s.0 s.1)
      (λ (s : Rows × List ℕ). flatten3 v stands s.0 s.1)

  flatten1 : (v : List ℤ) (bytes : List ℕ) → seen (λ (y : Behind1). joins (v, y)) read1 bytes ≡ flat1 bytes
  flatten1 v bytes =
      push (λ (y : Behind1). joins (v, y)) (line_at (codes "at") at_bounds) read2 bytes
      ∙ bind_ext (line_at (codes "at") at_bounds bytes) (λ (s : List ℤ × List ℕ). seen (λ (y : Behind2). joins (v, (s.0, y))) (read2 s.0) s.1) (λ (s : List ℤ × List ℕ). flat2 s.0 s.1)
      (λ (s : List ℤ × List ℕ). flatten2 v s.0 s.1)

  flatten : (bytes : List ℕ) → saved_at n i bytes ≡ seen joins read0 bytes
  unfolding saved_at
  flatten bytes =
      sym (push joins (line_at (codes "save 1") []) (λ v. read1) bytes
      ∙ bind_ext (line_at (codes "save 1") [] bytes) (λ (v : List ℤ × List ℕ). seen (λ (y : Behind1). joins (v.0, y)) read1 v.1) (λ (v : List ℤ × List ℕ). flat1 v.1)
      (λ (v : List ℤ × List ℕ). flatten1 v.0 v.1))

  -- ---- the text and what fits, part by part

  abbrev text4 : Behind4 → List ℕ
  text4 = both_text (rows_text (codes "cursor") 1) (λ c. ended_text n)

  abbrev text3 : Behind3 → List ℕ
  text3 = both_text (rows_text (codes "held") 1) (λ h. text4)

  abbrev text2 : Behind2 → List ℕ
  text2 = both_text (rows_text (codes "state") 1) (λ s. text3)

  abbrev text1 : Behind1 → List ℕ
  text1 = both_text (line_text (codes "at")) (λ s. text2)

  abbrev text0 : Lines → List ℕ
  text0 = both_text (line_text (codes "save 1")) (λ v. text1)

  abbrev fit4 : List ℤ → Behind4 → Type 0
  fit4 stands = both_fit (AreByBlock (bounds_of Cursor i) n.specs) (λ c. ArePending n (unsigned_abs (at stands 1)))

  abbrev fit3 : List ℤ → Behind3 → Type 0
  fit3 stands = both_fit (AreByBlock (bounds_of Held i) n.specs) (λ h. fit4 stands)

  abbrev fit2 : List ℤ → Behind2 → Type 0
  fit2 stands = both_fit (AreByBlock (bounds_of State i) n.specs) (λ s. fit3 stands)

  abbrev fit1 : Behind1 → Type 0
  fit1 = both_fit (AreWithin at_bounds) fit2

  abbrev fit0 : Lines → Type 0
  fit0 = both_fit (AreWithin []) (λ v. fit1)

  nothing_within : (v : List ℤ) → AreWithin [] v → v ≡ []
  nothing_within [] w = refl
  nothing_within (z ∷ zs) w = absurd w

  joined_valid : (x : Lines) → fit0 x → IsValid n i (joins x)
  joined_valid x f =
      let stands = x.1.0 in
      let t = two 1000000 4611686018427387904 stands f.1.0 in
      let cursors = x.1.1.1.1.0 in
      let c = f.1.1.1.1.0 in
      record {
        shaped = record {
          fired = t.first;
          now = let l = t.second in omega arith;
          states = f.1.1.0;
          held = f.1.1.1.0;
          cursors = cursors_are i n.specs cursors c;
          pending = f.1.1.1.1.1;
        };
        taken = subst (AreByBlock (cursor_bounds i) n.specs) (sym (rows_of_cursors i n.specs cursors c)) c;
      }

  valid_fits : (m : Saved) → IsValid n i m → fit0 (parts n m)
  valid_fits m v =
      let early : m.now ≤ 4611686018427387904 = let l = v.shaped.now in omega arith in
      (tt, (two_within 1000000 4611686018427387904 m.fired m.now v.shaped.fired early, (v.shaped.states, (v.shaped.held, (v.taken, v.shaped.pending)))))

  joined_again : (m : Saved) → IsValid n i m → joins (parts n m) ≡ m
  joined_again m v = ap (λ (cs : List ℕ). record m { cursors = cs }) (cursors_of_rows n.specs m.cursors v.shaped.cursors)

  regroup : (a b c t : List ℕ) → (a ++ (b ++ c)) ++ t ≡ a ++ (b ++ (c ++ t))
  regroup a b c t = append_assoc a (b ++ c) t ∙ ap (λ (l : List ℕ). a ++ l) (append_assoc b c t)

  joined_text : (x : Lines) → fit0 x → saved_text n (joins x) ≡ text0 x
  unfolding saved_text
  joined_text x f =
      let m = joins x in
      let states = x.1.1.0 in
      let held = x.1.1.1.0 in
      let cursors = x.1.1.1.1.0 in
      let pending = x.1.1.1.1.1 in
      let t = two 1000000 4611686018427387904 x.1.0 f.1.0 in
      let a = rows_text (codes "state") 1 states in
      let b = rows_text (codes "held") 1 held in
      let c = rows_text (codes "cursor") 1 cursors in
      let d = ended_text n pending in
      let cursors_is : rows_text (codes "cursor") 1 (cursor_rows n.specs (firsts_of cursors)) ≡ c = ap (rows_text (codes "cursor") 1) (rows_of_cursors i n.specs cursors f.1.1.1.1.0) in
      ap (λ (l : List ℕ). (codes "save 1\nat" ++ numbers (pos m.fired ∷ pos m.now ∷ [])) ++ ((a ++ (b ++ l)) ++ d)) cursors_is
      ∙ ap (λ (l : List ℕ). (codes "save 1\nat" ++ numbers (pos m.fired ∷ pos m.now ∷ [])) ++ l) (regroup a b c d)
      ∙ ap (λ (ns : List ℤ). (codes "save 1\nat" ++ numbers ns) ++ (a ++ (b ++ (c ++ d)))) (sym t.are)
      ∙ ap (λ (v : List ℤ). line_text (codes "save 1") v ++ (line_text (codes "at") x.1.0 ++ (a ++ (b ++ (c ++ d))))) (sym (nothing_within x.0 f.0))

  fine_by_block : (part : BlockLine) (ss : List Spec) → AreShort i → ((k : ℕ) (d : Spec) → k < length ss → typed (get_or ss k d) ≡ true) → FineByBlock part i ss
  fine_by_block part [] h t = tt
  fine_by_block part (s ∷ ss) h t = (part_fine part i s h (t 0 s (omega arith)), fine_by_block part ss h (λ k d l. t (suc k) d (omega arith)))

  pub saved_read : IsNet n → AreShort i → IsReader (saved_text n) (IsValid n i) (saved_at n i)
  saved_read net h =
      let small : 1 + length n.specs < 2 ^ 64 = let few = net.wired.few in omega arith in
      let fine = λ (part : BlockLine). fine_by_block part n.specs h (all_typed n net) in
      let r4 = λ (stands : List ℤ) (w : AreWithin at_bounds stands).
      both_read (rows_text (codes "cursor") 1) (AreByBlock (bounds_of Cursor i) n.specs) (rows_at Cursor i 1 n.specs) (λ c. ended_text n) (λ c. ArePending n (unsigned_abs (at stands 1))) (λ c. pending_at n (unsigned_abs (at stands 1)))
      (rows_read Cursor i 1 n.specs small (fine Cursor)) (λ c g. pending_read n net (unsigned_abs (at stands 1)) (two 1000000 4611686018427387904 stands w).second) in
      let r3 = λ (stands : List ℤ) (w : AreWithin at_bounds stands).
      both_read (rows_text (codes "held") 1) (AreByBlock (bounds_of Held i) n.specs) (rows_at Held i 1 n.specs) (λ h. text4) (λ h. fit4 stands) (λ h. read4 stands)
      (rows_read Held i 1 n.specs small (fine Held)) (λ c g. r4 stands w) in
      let r2 = λ (stands : List ℤ) (w : AreWithin at_bounds stands).
      both_read (rows_text (codes "state") 1) (AreByBlock (bounds_of State i) n.specs) (rows_at State i 1 n.specs) (λ s. text3) (λ s. fit3 stands) (λ s. read3 stands)
      (rows_read State i 1 n.specs small (fine State)) (λ c g. r3 stands w) in
      let r1 = both_read (line_text (codes "at")) (AreWithin at_bounds) (line_at (codes "at") at_bounds) (λ s. text2) fit2 read2 (line_read (codes "at") at_bounds refl stands_fine) r2 in
      let r0 = both_read (line_text (codes "save 1")) (AreWithin []) (line_at (codes "save 1") []) (λ v. text1) (λ v. fit1) (λ v. read1) (line_read (codes "save 1") [] refl tt) (λ v g. r1) in
      same_read (saved_at n i) flatten
      (seen_read joins (parts n) text0 fit0 (saved_text n) (IsValid n i) read0 (record { forth = joined_valid; back = valid_fits; again = joined_again; text_is = joined_text }) r0)
