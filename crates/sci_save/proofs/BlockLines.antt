-- The lines about blocks.
use Rattle.std.proofs.Common.{◌≡◌, ℕ, zero, suc, ◌+◌, ◌^◌, ◌<◌, ◌≤◌, ℤ, pos, negsuc, ◌≤ℤ◌, ◌-ℤ◌, List, [], ◌∷◌, ◌++◌, length, replicate, Option, Some, None, Ok, Err, Bool, true, false, cond, refl, sym, ap, ◌∙◌, subst, arith, append_assoc, Vec}
use Rattle.std.specs.declared.alloc.Global.{Global}
use Rattle.std.specs.Prelude.{nat_le, is_none, codes, decimal, unsigned_abs, slice_index_or}
use Rattle.std.specs.Fmt.{signed_decimal}
use Rattle.std.proofs.lemmas.Int.{ints}
use mir.Val.{SFits}
use mir.Syntax.{w64}
use Rattle.sci_base.specs.declared.Ty.{Ty}
use Rattle.sci_base.specs.declared.Ty.TheVariants.{I32, I16, I8, U32, U16, U8}
use Rattle.sci_base.proofs.FitLemmas.{low≤high}
use Rattle.sci_forms.specs.declared.Kind.{Kind}
use Rattle.sci_forms.specs.declared.Kind.TheVariants.{ModuloCount}
use Rattle.sci_forms.specs.declared.ports.Port.{Port}
use Rattle.sci_forms.specs.declared.spec.Spec.{Spec}
use Rattle.sci_forms.specs.Ports.{port_at, elements, type_of}
use Rattle.sci_forms.specs.Words.{param, out_type, state_len_of}
use Rattle.sci_forms.specs.Typed.{typed, is_known, formed_of, known_of, known_in, known_out, types_broken_of, sizes_broken_of}
use Rattle.sci_forms.specs.Forms.{all_to}
use Rattle.sci_forms.proofs.TestLemmas.{both_true, nat_le_told, all_to_at}
use Rattle.sci_kinds.specs.Asks.{Asks}
use Rattle.sci_kinds.proofs.LawProofs.{asks}
use Rattle.sci_net.specs.Parts.{numbered, column_of}
use Rattle.sci_forms.specs.Form.{is_sensor}
use Rattle.sci_reaction.specs.Memory.{Columns}
use Rattle.sci_trace.specs.Columns.{columns_view}
use Rattle.sci_trace.specs.Lines.{numbers}
use Rattle.sci_text.specs.Lines.{has_lf, with_lf}
use Rattle.sci_text.proofs.Clear.{both_clear, decimal_clear}
use Rattle.sci_save.specs.declared.bounds.Bounds.{Bounds}
use Rattle.sci_save.specs.declared.bounds.BlockLine.{BlockLine}
use Rattle.sci_save.specs.declared.bounds.BlockLine.TheVariants.{State, Held, Cursor}
use Rattle.sci_save.specs.Bounds.{from_to, of_type, AreWithin, AreByBlock, state_bound_of, port_bounds, AreShort, word_of, bounds_of}
use Rattle.sci_save.specs.Text.{row_text, rows_text}
use Rattle.sci_save.specs.Numbers.{behind, start_text}
use Rattle.sci_save.specs.Reading.{Read, ◌>>=◌, told, line_at, row_at, rows_at}
use Rattle.sci_save.proofs.Numbers.{IsSmall, AreSmall, within_small, behind_takes, behind_again}
use Rattle.sci_save.proofs.Readers.{AreLines, no_lines, IsReader, IsLineReader, line_reader, both, both_text, both_fit, both_read, pair_with, pairs, viewed, AreSame, seen_read, same_read, other_text}

-- ---- bounds

-- numbers of 64 bits, of which there is one
pub record IsFine (r : Bounds) : Type 0 where
  pub small : IsSmall r
  pub spans : r.low ≤ℤ r.high

abbrev pub AreFine : List Bounds → Type 0
AreFine [] = Unit {0}
AreFine (r ∷ rs) = IsFine r × AreFine rs

pub fine_small : (rs : List Bounds) → AreFine rs → AreSmall rs
fine_small [] f = tt
fine_small (r ∷ rs) f = (f.0.small, fine_small rs f.1)

-- the least numbers
abbrev pub lows : List Bounds → List ℤ
lows [] = []
lows (r ∷ rs) = r.low ∷ lows rs

same_int : (z : ℤ) → z ≤ℤ z
same_int z = omega (arith, ints)

pub lows_within : (rs : List Bounds) → AreFine rs → AreWithin rs (lows rs)
lows_within [] f = tt
lows_within (r ∷ rs) f = (record { above = same_int r.low; below = f.0.spans }, lows_within rs f.1)

fine_replicate : (n : ℕ) (r : Bounds) → IsFine r → AreFine (replicate n r)
fine_replicate zero r f = tt
fine_replicate (suc n) r f = (f, fine_replicate n r f)

fine_append : (rs qs : List Bounds) → AreFine rs → AreFine qs → AreFine (rs ++ qs)
fine_append [] qs f g = g
fine_append (r ∷ rs) qs f g = (f.0, fine_append rs qs f.1 g)

type_small : (t : Ty) → IsSmall (of_type t)
type_small I32 = record { low = omega arith; high = omega arith }
type_small I16 = record { low = omega arith; high = omega arith }
type_small I8 = record { low = omega arith; high = omega arith }
type_small U32 = record { low = omega arith; high = omega arith }
type_small U16 = record { low = omega arith; high = omega arith }
type_small U8 = record { low = omega arith; high = omega arith }

type_fine : (t : Ty) → IsFine (of_type t)
type_fine t = record { small = type_small t; spans = low≤high t }

-- from 0 to below a base
base_fine : (base : ℤ) → pos 1 ≤ℤ base → base ≤ℤ pos 2147483647 → IsFine (from_to (pos 0) (base -ℤ pos 1))
base_fine (pos zero) h l = absurd (omega (arith, ints))
base_fine (pos (suc n)) h l =
    let e : pos (suc n) -ℤ pos 1 ≡ pos n = omega (arith, ints) in
    let less : n < 2147483647 = omega (arith, ints) in
    subst (λ (z : ℤ). IsFine (from_to (pos 0) z)) (sym e) (record { small = record { low = omega arith; high = omega arith }; spans = omega (arith, ints) })
base_fine (negsuc n) h l = absurd (omega (arith, ints))

-- the greatest count is a number of 64 bits
pub top_fits : (base : ℤ) → pos 1 ≤ℤ base → base ≤ℤ pos 2147483647 → SFits w64 (base -ℤ pos 1)
top_fits (pos zero) h l = absurd (omega (arith, ints))
top_fits (pos (suc n)) h l =
    let e : pos (suc n) -ℤ pos 1 ≡ pos n = omega (arith, ints) in
    let less : n < 9223372036854775808 = omega (arith, ints) in
    subst (λ (z : ℤ). SFits w64 z) (sym e) (record { sfits = less })
top_fits (negsuc n) h l = absurd (omega (arith, ints))

state_bound_fine : (k : Kind) (s : Spec) → Asks k s → IsFine (state_bound_of k s)
state_bound_fine ModuloCount s a = base_fine (param s 0) a.2 a.3
state_bound_fine _ s a = type_fine (out_type s)

ports_fine : (ps : List Port) → AreFine (port_bounds ps)
ports_fine [] = tt
ports_fine (p ∷ ps) = fine_append (replicate (elements p) (of_type (type_of p))) (port_bounds ps) (fine_replicate (elements p) (of_type (type_of p)) (type_fine (type_of p))) (ports_fine ps)

vec_short : (v : Vec ℤ Global) → length v.items < 2 ^ 63
vec_short v = let a = v.ok.0 in let b = v.ok.1 in let c = v.small in omega arith

list_short : (vs : List (Vec ℤ Global)) (k : ℕ) → length (slice_index_or (columns_view vs) k []) < 2 ^ 63
list_short [] k = omega arith
list_short (v ∷ vs) zero = vec_short v
list_short (v ∷ vs) (suc k) = list_short vs k

pub columns_short : (vs : List (Vec ℤ Global)) → AreShort (columns_view vs)
columns_short vs zero = omega arith
columns_short vs (suc k) = list_short vs k

cursor_fine : (i : Columns) (s : Spec) (b : Bool) → AreShort i → AreFine (cond b (from_to (pos 0) (pos (length (numbered [] i (column_of s)))) ∷ []) [])
cursor_fine i s true h =
    let l = h (column_of s) in
    (record { small = record { low = omega arith; high = omega arith }; spans = omega (arith, ints) }, tt)
cursor_fine i s false h = tt

pub part_fine : (part : BlockLine) (i : Columns) (s : Spec) → AreShort i → typed s ≡ true → AreFine (bounds_of part i s)
part_fine State i s h t = fine_replicate (state_len_of s.kind s) (state_bound_of s.kind s) (state_bound_fine s.kind s (asks s t))
part_fine Held i s h t = ports_fine s.outs
part_fine Cursor i s h t = cursor_fine i s (is_sensor s.kind) h

-- each output of a typed spec has at most 256 elements
pub outs_small : (s : Spec) (k : ℕ) → typed s ≡ true → k < length s.outs → elements (port_at s.outs k) ≤ 256
outs_small s k h l =
    let p3 = both_true _ (is_none (sizes_broken_of s.kind s)) h in
    let p2 = both_true _ (is_none (types_broken_of s.kind s)) p3.0 in
    let p1 = both_true (formed_of s.kind s) (known_of s) p2.0 in
    let k1 = both_true (all_to (known_in s) (length s.ins)) (all_to (known_out s) (length s.outs)) p1.1 in
    nat_le_told (elements (port_at s.outs k)) 256 (both_true (is_known (port_at s.outs k)) (nat_le (elements (port_at s.outs k)) 256) (all_to_at (known_out s) (length s.outs) k1.1 k l)).1

-- ---- lines have no LF in them

signed_clear : (z : ℤ) → unsigned_abs z < 2 ^ 63 → has_lf (signed_decimal z) ≡ false
signed_clear (pos n) h = decimal_clear n (omega arith)
signed_clear (negsuc n) h = decimal_clear (suc n) (omega arith)

-- the numbers of a line, without its LF
abbrev spaced : List ℤ → List ℕ
spaced [] = []
spaced (z ∷ zs) = codes " " ++ (signed_decimal z ++ spaced zs)

spaced_is : (zs : List ℤ) → numbers zs ≡ with_lf (spaced zs)
spaced_is [] = refl
spaced_is (z ∷ zs) = ap (λ (l : List ℕ). codes " " ++ (signed_decimal z ++ l)) (spaced_is zs) ∙ ap (λ (l : List ℕ). codes " " ++ l) (sym (append_assoc (signed_decimal z) (spaced zs) (codes "\n")))

spaced_clear : (rs : List Bounds) (zs : List ℤ) → AreSmall rs → AreWithin rs zs → has_lf (spaced zs) ≡ false
spaced_clear [] [] s w = refl
spaced_clear [] (z ∷ zs) s w = absurd w
spaced_clear (r ∷ rs) [] s w = absurd w
spaced_clear (r ∷ rs) (z ∷ zs) s w = both_clear (signed_decimal z) (spaced zs) (signed_clear z (within_small r z s.0 w.0)) (spaced_clear rs zs s.1 w.1)

-- ---- one line

pub told_ok : {A : Type 0} (left : ℕ) (o : Option A) (x : A) → told left o ≡ Ok x → o ≡ Some x
told_ok left (Some y) x e = cc
told_ok left None x e = absurd cc

pub told_err : {A : Type 0} (left count : ℕ) (o : Option A) → told left o ≡ Err count → count ≡ left
told_err left count (Some y) e = absurd cc
told_err left count None e = cc

abbrev pub line_text : List ℕ → List ℤ → List ℕ
line_text start zs = start ++ numbers zs

pub line_is_read : (start : List ℕ) (rs : List Bounds) → has_lf start ≡ false → AreSmall rs → IsLineReader (line_text start) (AreWithin rs) (line_at start rs)
line_is_read start rs c s = record {
  takes = λ bytes x e.
      let t = behind_takes start rs bytes x (told_ok (length bytes) (behind start rs bytes) x e) in
      (t.0 ∙ sym (append_assoc start (numbers x.0) x.1), t.1);
  again = λ zs rest w.
      ap (line_at start rs) (append_assoc start (numbers zs) rest) ∙ ap (told (length (start ++ (numbers zs ++ rest)))) (behind_again start rs zs rest s w);
  line = λ zs w. record {
    line = start ++ spaced zs;
    clear = both_clear start (spaced zs) c (spaced_clear rs zs s w);
    text_is = ap (λ (l : List ℕ). start ++ l) (spaced_is zs) ∙ sym (append_assoc start (spaced zs) (codes "\n"));
  };
  fails = λ bytes count e. told_err (length bytes) count (behind start rs bytes) e;
}

pub line_read : (start : List ℕ) (rs : List Bounds) → has_lf start ≡ false → AreFine rs → IsReader (line_text start) (AreWithin rs) (line_at start rs)
line_read start rs c f = line_reader (line_is_read start rs c (fine_small rs f)) (lows rs) (lows_within rs f)

-- ---- a line for each block

start_clear : (word : List ℕ) (b : ℕ) → has_lf word ≡ false → b < 2 ^ 64 → has_lf (start_text word b) ≡ false
start_clear word b c h = both_clear word (codes " " ++ decimal b) c (decimal_clear b h)

row_is : (word : List ℕ) (b : ℕ) (r : Bounds) (rs : List Bounds) (zs : List ℤ) → AreWithin (r ∷ rs) zs → row_text word b zs ≡ line_text (start_text word b) zs
row_is word b r rs [] w = absurd w
row_is word b r rs (z ∷ zs) w = sym (append_assoc word (codes " " ++ decimal b) (numbers (z ∷ zs)))

no_row : (word : List ℕ) (b : ℕ) → IsReader (row_text word b) (AreWithin []) (row_at word b [])
no_row word b = record {
  takes = λ bytes x e.
      let made : List ℤ × List ℕ = ([], bytes) in
      let p : made ≡ x = cc in
      subst (λ (z : List ℤ × List ℕ). (bytes ≡ row_text word b z.0 ++ z.1) × AreWithin [] z.0) p (refl, tt);
  again = none;
  lines = λ zs w. no_text zs w;
  some = [];
  some_fits = tt;
  fails = λ bytes count e. absurd (never bytes count e);
}
  where
    none : (zs : List ℤ) (rest : List ℕ) → AreWithin [] zs → row_at word b [] (row_text word b zs ++ rest) ≡ Ok (zs, rest)
    none [] rest w = refl
    none (z ∷ zs) rest w = absurd w

    no_text : (zs : List ℤ) → AreWithin [] zs → AreLines (row_text word b zs)
    no_text [] w = no_lines
    no_text (z ∷ zs) w = absurd w

    never : (bytes : List ℕ) (count : ℕ) → row_at word b [] bytes ≡ Err count → ⊥
    never bytes count e = cc

pub row_read : (word : List ℕ) (b : ℕ) (rs : List Bounds) → has_lf word ≡ false → b < 2 ^ 64 → AreFine rs → IsReader (row_text word b) (AreWithin rs) (row_at word b rs)
row_read word b [] c h f = no_row word b
row_read word b (r ∷ rs) c h f = other_text (row_text word b) (row_is word b r rs) (line_read (start_text word b) (r ∷ rs) (start_clear word b c h) f)

abbrev pub FineByBlock : BlockLine → Columns → List Spec → Type 0
FineByBlock part i [] = Unit {0}
FineByBlock part i (s ∷ ss) = AreFine (bounds_of part i s) × FineByBlock part i ss

word_clear : (part : BlockLine) → has_lf (word_of part) ≡ false
word_clear State = refl
word_clear Held = refl
word_clear Cursor = refl

abbrev put_front : List ℤ × List (List ℤ) → List (List ℤ)
put_front x = x.0 ∷ x.1

abbrev rowed : Read (List ℤ) → (List ℕ → Read (List (List ℤ))) → Read (List (List ℤ))
rowed o next = o >>= λ x. viewed (λ (xs : List (List ℤ)). x.0 ∷ xs) (next x.1)

consed : (o : Read (List ℤ)) (next : List ℕ → Read (List (List ℤ))) → rowed o next ≡ viewed put_front (pairs o (λ (a : List ℤ). next))
consed (Err c) next = refl
consed (Ok x) next = inner (next x.1)
  where
    inner : (p : Read (List (List ℤ))) → viewed (λ (xs : List (List ℤ)). x.0 ∷ xs) p ≡ viewed put_front (pair_with x.0 p)
    inner (Ok y) = refl
    inner (Err c) = refl

abbrev take_front : List (List ℤ) → List ℤ × List (List ℤ)
take_front [] = ([], [])
take_front (x ∷ xs) = (x, xs)

fronts_same : (part : BlockLine) (i : Columns) (b : ℕ) (s : Spec) (ss : List Spec) →
    AreSame put_front take_front (both_text (row_text (word_of part) b) (λ a. rows_text (word_of part) (b + 1))) (both_fit (AreWithin (bounds_of part i s)) (λ a. AreByBlock (bounds_of part i) ss))
    (rows_text (word_of part) b) (AreByBlock (bounds_of part i) (s ∷ ss))
fronts_same part i b s ss = record { forth = λ x f. f; back = back; again = again; text_is = λ x f. refl }
  where
    back : (rows : List (List ℤ)) → AreByBlock (bounds_of part i) (s ∷ ss) rows → both_fit (AreWithin (bounds_of part i s)) (λ a. AreByBlock (bounds_of part i) ss) (take_front rows)
    back [] f = absurd f
    back (x ∷ xs) f = f

    again : (rows : List (List ℤ)) → AreByBlock (bounds_of part i) (s ∷ ss) rows → put_front (take_front rows) ≡ rows
    again [] f = absurd f
    again (x ∷ xs) f = refl

no_rows : (part : BlockLine) (i : Columns) (b : ℕ) → IsReader (rows_text (word_of part) b) (AreByBlock (bounds_of part i) []) (rows_at part i b [])
unfolding rows_at
no_rows part i b = record {
  takes = λ bytes x e.
      let made : List (List ℤ) × List ℕ = ([], bytes) in
      let p : made ≡ x = cc in
      subst (λ (z : List (List ℤ) × List ℕ). (bytes ≡ rows_text (word_of part) b z.0 ++ z.1) × AreByBlock (bounds_of part i) [] z.0) p (refl, tt);
  again = none;
  lines = λ rows f. no_text rows f;
  some = [];
  some_fits = tt;
  fails = λ bytes count e. absurd (never bytes count e);
}
  where
    none : (rows : List (List ℤ)) (rest : List ℕ) → AreByBlock (bounds_of part i) [] rows → rows_at part i b [] (rows_text (word_of part) b rows ++ rest) ≡ Ok (rows, rest)
    none [] rest f = refl
    none (x ∷ xs) rest f = absurd f

    no_text : (rows : List (List ℤ)) → AreByBlock (bounds_of part i) [] rows → AreLines (rows_text (word_of part) b rows)
    no_text [] f = no_lines
    no_text (x ∷ xs) f = absurd f

    never : (bytes : List ℕ) (count : ℕ) → rows_at part i b [] bytes ≡ Err count → ⊥
    never bytes count e = cc

pub rows_read : (part : BlockLine) (i : Columns) (b : ℕ) (ss : List Spec) → b + length ss < 2 ^ 64 → FineByBlock part i ss → IsReader (rows_text (word_of part) b) (AreByBlock (bounds_of part i) ss) (rows_at part i b ss)
unfolding rows_at
rows_read part i b [] h f = no_rows part i b
rows_read part i b (s ∷ ss) h f =
    let word = word_of part in
    let first = row_read word b (bounds_of part i s) (word_clear part) (omega arith) f.0 in
    let others = rows_read part i (b + 1) ss (omega arith) f.1 in
    let two = both_read (row_text word b) (AreWithin (bounds_of part i s)) (row_at word b (bounds_of part i s)) (λ a. rows_text word (b + 1)) (λ a. AreByBlock (bounds_of part i) ss)
    (λ a. rows_at part i (b + 1) ss) first (λ a g. others) in
    same_read (rows_at part i b (s ∷ ss)) (λ bytes. consed (row_at word b (bounds_of part i s) bytes) (rows_at part i (b + 1) ss))
    (seen_read put_front take_front (both_text (row_text word b) (λ a. rows_text word (b + 1))) (both_fit (AreWithin (bounds_of part i s)) (λ a. AreByBlock (bounds_of part i) ss))
    (rows_text word b) (AreByBlock (bounds_of part i) (s ∷ ss)) (both (row_at word b (bounds_of part i s)) (λ a. rows_at part i (b + 1) ss)) (fronts_same part i b s ss) two)
