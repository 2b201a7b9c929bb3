-- What was saved with one input file and is read with another is one thing: it may be read with columns that are as long as those of both.
use Rattle.std.proofs.Common.{◌≡◌, ℕ, zero, suc, ◌<◌, ◌≤◌, ◌^◌, max, Bool, true, false, if◌then◌else◌, ℤ, pos, List, [], ◌∷◌, length, replicate, get_or, arith}
use Rattle.std.proofs.lemmas.Int.{ints}
use Rattle.std.proofs.lemmas.List.{length-replicate}
use Rattle.sci_forms.specs.declared.spec.Spec.{Spec}
use Rattle.sci_forms.specs.Form.{is_sensor}
use Rattle.sci_net.specs.Net.{IsNet}
use Rattle.sci_net.specs.Parts.{Parts, numbered, column_of}
use Rattle.sci_reaction.specs.Memory.{Columns}
use Rattle.sci_save.specs.Blame.{Spells}
use Rattle.sci_save.specs.Bounds.{from_to, AreWithin, AreByBlock, cursor_bounds, AreShort}
use Rattle.sci_save.specs.Saved.{Saved}
use Rattle.sci_save.specs.Text.{cursor_rows}
use Rattle.sci_save.proofs.Blaming.{one_spelled}

-- ---- columns as long as those of both

longer : Columns → Columns → Columns
longer [] ks = ks
longer (c ∷ cs) [] = c ∷ cs
longer (c ∷ cs) (k ∷ ks) = replicate (max (length c) (length k)) (pos 0) ∷ longer cs ks

-- the lengths of one column of each
record AreLengths (left right both : ℕ) : Type 0 where
  pub first : left ≤ both
  pub second : right ≤ both
  pub below : (most : ℕ) → left < most → right < most → both < most

lengths : (js ks : Columns) (x : ℕ) → AreLengths (length (get_or js x [])) (length (get_or ks x [])) (length (get_or (longer js ks) x []))
unfolding longer
lengths [] ks x = record { first = omega arith; second = omega arith; below = λ most h g. g }
lengths (c ∷ cs) [] x = record { first = omega arith; second = omega arith; below = λ most h g. h }
lengths (c ∷ cs) (k ∷ ks) zero =
    let long = length-replicate (max (length c) (length k)) (pos 0) in
    record { first = omega (arith, long); second = omega (arith, long); below = λ most h g. omega (arith, long, h, g) }
lengths (c ∷ cs) (k ∷ ks) (suc x) = lengths cs ks x

numbered_lengths : (j k : Columns) (x : ℕ) → AreLengths (length (numbered [] j x)) (length (numbered [] k x)) (length (numbered [] (longer j k) x))
numbered_lengths j k zero = record { first = omega arith; second = omega arith; below = λ most h g. h }
numbered_lengths j k (suc x) = lengths j k x

longer_short : (j k : Columns) → AreShort j → AreShort k → AreShort (longer j k)
longer_short j k h g x = (numbered_lengths j k x).below (2 ^ 63) (h x) (g x)

-- ---- what is valid with some columns is valid with longer ones

one_valid : (sensor : Bool) (a b : ℕ) (vs : List ℤ) → a ≤ b → AreWithin (if sensor then from_to (pos 0) (pos a) ∷ [] else []) vs → AreWithin (if sensor then from_to (pos 0) (pos b) ∷ [] else []) vs
one_valid true a b [] l h = absurd h
one_valid true a b (v ∷ vs) l h = let below = h.0.below in (record { above = h.0.above; below = omega (arith, ints, l, below) }, h.1)
one_valid false a b vs l h = h

blocks_valid : (i w : Columns) → ((c : ℕ) → length (numbered [] i c) ≤ length (numbered [] w c)) → (ss : List Spec) (rows : List (List ℤ)) → AreByBlock (cursor_bounds i) ss rows
    → AreByBlock (cursor_bounds w) ss rows
blocks_valid i w wide [] [] h = tt
blocks_valid i w wide (s ∷ ss) (vs ∷ rows) h =
    (one_valid (is_sensor s.kind) (length (numbered [] i (column_of s))) (length (numbered [] w (column_of s))) vs (wide (column_of s)) h.0, blocks_valid i w wide ss rows h.1)
blocks_valid i w wide [] (vs ∷ rows) h = absurd h
blocks_valid i w wide (s ∷ ss) [] h = absurd h

still_spells : (n : Parts) (i w : Columns) (bytes : List ℕ) (m : Saved) → ((c : ℕ) → length (numbered [] i c) ≤ length (numbered [] w c)) → Spells n i bytes m → Spells n w bytes m
still_spells n i w bytes m wide h = record {
  valid = record { shaped = h.valid.shaped; taken = blocks_valid i w wide n.specs (cursor_rows n.specs m.cursors) h.valid.taken };
  text = h.text;
}

-- one thing is saved in a text, whatever the columns are with which it is written and read
pub one_saved_in : (n : Parts) (j k : Columns) (bytes : List ℕ) (m o : Saved) → IsNet n → AreShort j → AreShort k → Spells n j bytes m → Spells n k bytes o → m ≡ o
one_saved_in n j k bytes m o net short brief h g =
    one_spelled n (longer j k) net (longer_short j k short brief) bytes m o (still_spells n j (longer j k) bytes m (λ c. (numbered_lengths j k c).first) h)
    (still_spells n k (longer j k) bytes o (λ c. (numbered_lengths j k c).second) g)
