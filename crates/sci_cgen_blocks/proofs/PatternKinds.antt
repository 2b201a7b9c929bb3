-- The kinds that move and change bits of one number: SHIFT, BIT SET, BIT CLEAR and EXTRACTBITS.
use Rattle.std.proofs.Common.{◌≡◌, ℕ, suc, ◌+◌, ◌-◌, ◌*◌, ◌/◌, ◌^◌, ◌<◌, ◌≤◌, ◌-ℤ◌, ◌+ℤ◌, ◌≤ℤ◌, ◌*ℤ◌, Bool, true, false, Some, refl, ap, ◌∙◌, arith, ℤ, pos, negsuc, List, [], if◌then◌else◌, mod-lt, length, div-le_self, suc-mul}
use Rattle.std.proofs.Math.Nat.{mod-le, mul_comm}
use Rattle.std.specs.Prelude.{int_lt, unsigned_abs}
use Rattle.std.specs.Int.{int_rem_euclid, int_div_euclid, bit_at}
use Rattle.std.proofs.lemmas.Int.{ints, unsigned_abs-mul}
use Rattle.std.proofs.lemmas.Nat.{pow_pos, mul-le, div_below}
use Rattle.sci_base.specs.declared.Ty.{Ty}
use Rattle.sci_base.specs.declared.Ty.TheVariants.{I32, I16, I8, U32, U16, U8}
use Rattle.sci_base.specs.declared.Mode.TheVariants.{Wrap}
use Rattle.sci_base.specs.Fit.{low, high, span, width, fit, InRange, int_eq}
use Rattle.sci_base.specs.Bits.{pattern, set_bit, clear_bit, bits_from_to, turned_left}
use Rattle.sci_base.specs.Lists.{at}
use Rattle.sci_base.proofs.FitLemmas.{span_pos, span_at_most, rem_bounds, high_at_most}
use Rattle.sci_forms.specs.declared.Kind.{Kind}
use Rattle.sci_forms.specs.declared.Kind.TheVariants.{Shift, BitSet, BitClear, ExtractBits}
use Rattle.sci_forms.specs.declared.spec.Spec.{Spec}
use Rattle.sci_forms.specs.Ports.{total, Fills}
use Rattle.sci_forms.specs.Words.{param, out_type}
use Rattle.sci_forms.specs.Form.{feeds}
use Rattle.sci_kinds.specs.declared.Cell.TheVariants.{Value}
use Rattle.sci_kinds.specs.Table.{number, fitted, shifted as shifted_cell, turned as turned_cell, cell_of}
use Rattle.c_ast.specs.declared.Op.TheVariants.{Add, Mul, Div, Rem}
use Rattle.sci_kinds.specs.Asks.{Asks, IsAlikeSpec}
use Rattle.sci_kinds.proofs.Ranges.{elem}
use Rattle.c_mean.specs.Laws.{Within}
use Rattle.sci_cgen_blocks.specs.Terms.{Given, Term, both, value, along, Scratch, Gives, RecipeFits, IsSpelled, IsScratch}
use Rattle.sci_cgen_blocks.specs.Recipes.{result, recipe_of, wrapped, pattern as pattern_term, with_bit, without_bit, bits, floor_quotient, shifted, turned, plain, natural}
use Rattle.sci_cgen_blocks.proofs.Operators.{sub_is, mul_is, div_by}
use Rattle.sci_cgen_blocks.proofs.Fitting.{modulo_is, wrapped_is, fit_wrap}
use Rattle.sci_cgen_blocks.proofs.Working.{Reaches, assign_goes, done_gives, span_spelled}
use Rattle.sci_cgen_blocks.proofs.Reading.{Reads, both_reads, number_reads, natural_reads, along_reads, scratch_reads, pow_spelled, modulo_reads, pattern_reads, wrapped_reads, bit_reads}
use Rattle.sci_cgen_blocks.proofs.Inputs.{given_for, given_first, in_size, small, fed_for, IsFed, element_read}
use Rattle.sci_cgen_blocks.proofs.Patterns.{plus, times, minus, over, left_over, rem_natural, pattern_below, pattern_is, number_gives, width_at_most, pow_at_most, bit_is, set_sum, part_below, clear_difference, floor_is}

pub within_type : (t : Ty) (z : ℤ) → InRange t z → Within z
within_type t z r = let b = small t z r in record { above = omega (arith, ints, b.0); below = omega (arith, ints, b.1) }

-- ---- the terms

-- how far a number of a type, its product with a power of 2 and the type's low end are from 0
record Ends (t : Ty) (v : ℤ) : Type 0 where
  size : ℕ
  most : unsigned_abs v ≤ size
  down : ℕ
  low_end : pos 0 ≤ℤ (low t +ℤ pos down)
  not_above : low t ≤ℤ pos 0
  room : size * 2147483648 + down ≤ 9223372036854775807

abs_most : (v : ℤ) (n : ℕ) → (pos 0 -ℤ pos n) ≤ℤ v → v ≤ℤ pos n → unsigned_abs v ≤ n
abs_most (pos a) n h k = omega (arith, ints, h, k)
abs_most (negsuc a) n h k = omega (arith, ints, h, k)

signed_ends : (t : Ty) (v : ℤ) → negsuc 2147483647 ≤ℤ low t → low t ≤ℤ pos 0 → high t ≤ℤ pos 2147483647 → InRange t v → Ends t v
signed_ends t v l n h r =
    let above = r.above in
    let below = r.below in
    record {
      size = 2147483648;
      most = abs_most v 2147483648 (omega (arith, ints, l, above)) (omega (arith, ints, h, below));
      down = 2147483648;
      low_end = omega (arith, ints, l);
      not_above = n;
      room = omega arith;
    }

unsigned_ends : (t : Ty) (v : ℤ) → low t ≡ pos 0 → InRange t v → Ends t v
unsigned_ends t v l r =
    let above = r.above in
    let below = r.below in
    let top = high_at_most t in
    record {
      size = 4294967295;
      most = abs_most v 4294967295 (omega (arith, ints, l, above)) (omega (arith, ints, top, below));
      down = 0;
      low_end = omega (arith, ints, l);
      not_above = omega (arith, ints, l);
      room = omega arith;
    }

ends : (t : Ty) (v : ℤ) → InRange t v → Ends t v
ends I32 v r = signed_ends I32 v (omega (arith, ints)) (omega (arith, ints)) (omega (arith, ints)) r
ends I16 v r = signed_ends I16 v (omega (arith, ints)) (omega (arith, ints)) (omega (arith, ints)) r
ends I8 v r = signed_ends I8 v (omega (arith, ints)) (omega (arith, ints)) (omega (arith, ints)) r
ends U32 v r = unsigned_ends U32 v refl r
ends U16 v r = unsigned_ends U16 v refl r
ends U8 v r = unsigned_ends U8 v refl r

from_low : (y lo : ℤ) (b c : ℕ) → unsigned_abs y ≤ b → pos 0 ≤ℤ (lo +ℤ pos c) → lo ≤ℤ pos 0 → b + c ≤ 9223372036854775807 → Within (y -ℤ lo)
from_low (pos a) lo b c h l n k = record { above = omega (arith, ints, h, l, n, k); below = omega (arith, ints, h, l, n, k) }
from_low (negsuc a) lo b c h l n k = record { above = omega (arith, ints, h, l, n, k); below = omega (arith, ints, h, l, n, k) }

-- a number times a power of 2 is in the word, and its distance from the type's low end
pub moved_within : (t : Ty) (v : ℤ) (k : ℕ) → InRange t v → k < 32 → Within (v *ℤ pos (2 ^ k)) × Within ((v *ℤ pos (2 ^ k)) -ℤ low t)
moved_within t v k r h =
    let d = ends t v r in
    let most = mul-le (unsigned_abs v) (2 ^ k) d.size 2147483648 d.most (pow_at_most k h) in
    let is = unsigned_abs-mul v (pos (2 ^ k)) in
    let size : unsigned_abs (v *ℤ pos (2 ^ k)) ≤ d.size * 2147483648 = omega (arith, is, most) in
    let room = d.room in
    let zero = from_low (v *ℤ pos (2 ^ k)) (pos 0) (d.size * 2147483648) 0 size (omega (arith, ints)) (omega (arith, ints)) (omega (arith, room)) in
    let above = zero.above in
    let below = zero.below in
    let far = from_low (v *ℤ pos (2 ^ k)) (low t) (d.size * 2147483648) d.down size d.low_end d.not_above room in
    (record { above = omega (arith, ints, above); below = omega (arith, ints, below) }, far)

module _ (g : Given) (ty : Ty) (t : Term) (s : Scratch) (z : ℤ) (e : value g s t ≡ Some z) (i : InRange ty z) where
  w : Within z
  w = within_type ty z i

  small_pattern : pattern ty z ≤ 4294967295
  small_pattern = omega (arith, pattern_below ty z, span_at_most ty)

  with_bit_gives : (k : ℕ) → k < 32 → Reaches g [] (with_bit ty k t).value s (number ty (set_bit (pattern ty z) k))
  with_bit_gives k h =
      let p = pattern_is e ty w in
      let most = mul-le (1 - bit_at (pattern ty z) k) (2 ^ k) 1 2147483648 (omega arith) (pow_at_most k h) in
      let room = small_pattern in
      let gap = minus {p = Some (pos 1)} refl (bit_is p k (omega (arith, room))) (omega arith) (omega arith) in
      let part = times {q = Some (pos (2 ^ k))} gap refl (omega (arith, most)) in
      let sum = plus p part (omega (arith, most, room)) ∙ ap (λ (x : ℕ). Some (pos x)) (set_sum (pattern ty z) k) in
      number_gives g ty _ s (set_bit (pattern ty z) k) sum (omega (arith, most, room, set_sum (pattern ty z) k))

  without_bit_gives : (k : ℕ) → k < 32 → Reaches g [] (without_bit ty k t).value s (number ty (clear_bit (pattern ty z) k))
  without_bit_gives k h =
      let p = pattern_is e ty w in
      let room = small_pattern in
      let most = part_below (pattern ty z) k in
      let part = times {q = Some (pos (2 ^ k))} (bit_is p k (omega (arith, room))) refl (omega (arith, most, room)) in
      let rest = minus p part most (omega (arith, room)) ∙ ap (λ (x : ℕ). Some (pos x)) (clear_difference (pattern ty z) k) in
      number_gives g ty _ s (clear_bit (pattern ty z) k) rest (omega (arith, room, clear_difference (pattern ty z) k))

  bits_gives : (a b : ℕ) → Reaches g [] (bits ty a b t).value s (number ty (bits_from_to (pattern ty z) a b))
  bits_gives a b =
      let p = pattern_is e ty w in
      let room = small_pattern in
      let shift = over p (2 ^ a) (pow_pos a) (omega (arith, room)) in
      let less = div-le_self (pattern ty z) (2 ^ a) in
      let part = left_over shift (2 ^ ((b - a) + 1)) (pow_pos ((b - a) + 1)) (omega (arith, room, less)) in
      let least = mod-le (pattern ty z / 2 ^ a) (2 ^ ((b - a) + 1)) in
      number_gives g ty _ s (bits_from_to (pattern ty z) a b) part (omega (arith, room, less, least))

  -- the bits above the width
  turned_over : (n : ℕ) → pattern ty z * 2 ^ n / span ty < 2 ^ n
  turned_over n =
      let below = mul-le (suc (pattern ty z)) (2 ^ n) (span ty) (2 ^ n) (pattern_below ty z) (omega arith) in
      div_below (pattern ty z * 2 ^ n) (span ty) (2 ^ n) (span_pos ty)
      (omega (arith, below, suc-mul (pattern ty z) (2 ^ n), pow_pos n, mul_comm (span ty) (2 ^ n)))

  turned_gives : (n : ℕ) → n < 32 → Reaches g (turned ty n t).steps (turned ty n t).value s (number ty (turned_left ty (pattern ty z) n))
  turned_gives n h =
      let p = pattern_is e ty w in
      let room = small_pattern in
      let power = pow_at_most n h in
      let most = mul-le (pattern ty z) (2 ^ n) 4294967295 2147483648 room power in
      let moved = times {q = Some (pos (2 ^ n))} p refl (omega (arith, most)) in
      let up = over {p = Some (pos (pattern ty z * 2 ^ n))} refl (span ty) (span_pos ty) (omega (arith, most)) in
      let down = left_over {p = Some (pos (pattern ty z * 2 ^ n))} refl (span ty) (span_pos ty) (omega (arith, most)) in
      let high = turned_over n in
      let rest = mod-lt (pattern ty z * 2 ^ n) (span_pos ty) in
      let top = span_at_most ty in
      assign_goes moved (number_gives g ty _ _ (turned_left ty (pattern ty z) n)
      (plus down up (omega (arith, high, rest, top, power))) (omega (arith, high, rest, top, power)))

  -- rounded down
  floor_gives : (n : ℕ) → 0 < n → n ≤ 4294967296 → Reaches g [] (floor_quotient t n) s (Value (int_div_euclid z (pos n)))
  floor_gives n h k =
      let rest = rem_bounds z n h in
      let b = small ty z i in
      let less : Within (z -ℤ int_rem_euclid z (pos n)) =
      record { above = omega (arith, ints, rest.0, rest.1, b.0, k); below = omega (arith, ints, rest.0, b.1) } in
      done_gives (div_by (sub_is e (modulo_is e n h k w) less) n h less ∙ ap Some (floor_is z n h))

  shifted_gives : (n : ℤ) → unsigned_abs n < 32 → Reaches g (shifted ty n t).steps (shifted ty n t).value s (shifted_cell ty n z)
  shifted_gives n h = by_sign (int_lt n (pos 0))
    where
      k : ℕ
      k = 2 ^ unsigned_abs n

      by_sign : (b : Bool) → Reaches g (if b then plain (floor_quotient t k) else plain (wrapped ty (both Mul t (natural k)))).steps
          (if b then plain (floor_quotient t k) else plain (wrapped ty (both Mul t (natural k)))).value s
          (if b then Value (int_div_euclid z (pos k)) else fitted (fit ty Wrap (z *ℤ pos k)))
      by_sign true = floor_gives k (pow_pos (unsigned_abs n)) (omega (arith, pow_at_most (unsigned_abs n) h))
      by_sign false =
          let b = moved_within ty z (unsigned_abs n) i h in
          rw (fit_wrap ty (z *ℤ pos k)) (done_gives (wrapped_is (mul_is e refl b.0) ty b.1))

-- ---- the kinds

module _ (s : Spec) (x : List ℤ) (m : ℕ) (u : List ℤ) (e : ℕ) (t : Scratch) (f : Fills s.ins u) (l : e < total s.outs) where
  only : IsAlikeSpec s → length s.ins ≡ 1 → InRange (out_type s) (at u e)
  only a n = elem s u e a n f (in_size s a.outs_alike a.one e l)

  is : value (given_for s x m u e) t (along 0) ≡ Some (at u e)
  is = ap Some (given_first s x m u e)

  pub shift_gives : Asks Shift s → Gives (given_for s x m u e) (recipe_of Shift s) t (cell_of Shift s x m u e)
  shift_gives a = by_case (int_eq (param s 1) (pos 0))
    where
      places : ℕ
      places = unsigned_abs (int_rem_euclid (param s 0) (pos (width (out_type s))))

      few : unsigned_abs (int_rem_euclid (param s 0) (pos (width (out_type s)))) < 32
      few =
          let top = width_at_most (out_type s) in
          let below = rem_natural (param s 0) (width (out_type s)) (omega (arith, a.3)) in
          omega (arith, top, below)

      by_case : (b : Bool) → Gives (given_for s x m u e) (if b then shifted (out_type s) (param s 0) (along 0) else turned (out_type s) places (along 0)) t
          (if b then shifted_cell (out_type s) (param s 0) (at u e) else turned_cell (out_type s) (param s 0) (at u e))
      by_case true =
          let top = width_at_most (out_type s) in
          (shifted_gives (given_for s x m u e) (out_type s) (along 0) t (at u e) is (only a.0 a.1) (param s 0) (omega (arith, a.3, top))).gives
      by_case false = (turned_gives (given_for s x m u e) (out_type s) (along 0) t (at u e) is (only a.0 a.1) places few).gives

  pub bit_set_gives : Asks BitSet s → Gives (given_for s x m u e) (recipe_of BitSet s) t (cell_of BitSet s x m u e)
  bit_set_gives a =
      let top = width_at_most (out_type s) in
      (with_bit_gives (given_for s x m u e) (out_type s) (along 0) t (at u e) is (only a.0 a.1) (unsigned_abs (param s 0)) (omega (arith, a.3, top))).gives

  pub bit_clear_gives : Asks BitClear s → Gives (given_for s x m u e) (recipe_of BitClear s) t (cell_of BitClear s x m u e)
  bit_clear_gives a =
      let top = width_at_most (out_type s) in
      (without_bit_gives (given_for s x m u e) (out_type s) (along 0) t (at u e) is (only a.0 a.1) (unsigned_abs (param s 0)) (omega (arith, a.3, top))).gives

  pub extract_bits_gives : Asks ExtractBits s → Gives (given_for s x m u e) (recipe_of ExtractBits s) t (cell_of ExtractBits s x m u e)
  extract_bits_gives a =
      (bits_gives (given_for s x m u e) (out_type s) (along 0) t (at u e) is (only a.0 a.1) (unsigned_abs (param s 0)) (unsigned_abs (param s 1))).gives

-- ---- what they read

module _ (s : Spec) (e : ℕ) (l : e < total s.outs) where
  read_only : {d : ℕ} (k : Kind) → IsFed k s → IsAlikeSpec s → length s.ins ≡ 1 → feeds k 1 ≡ true → Reads (fed_for k s e) (suc d) (along 0)
  read_only k f a n d = along_reads (element_read k s (out_type s) a.ins_alike f 0 e (omega (arith, n)) d (in_size s a.outs_alike a.one e l))

  pub shift_reads : Asks Shift s → IsFed Shift s → RecipeFits (fed_for Shift s e) (recipe_of Shift s)
  shift_reads a f = by_case (int_eq (param s 1) (pos 0)) refl
    where
      top : width (out_type s) ≤ 32
      top = width_at_most (out_type s)

      places : ℕ
      places = unsigned_abs (int_rem_euclid (param s 0) (pos (width (out_type s))))

      power : IsSpelled (pos (2 ^ unsigned_abs (param s 0)))
      power = pow_spelled (unsigned_abs (param s 0)) (omega (arith, a.3, top))

      few : places ≤ 32
      few = let below = rem_natural (param s 0) (width (out_type s)) (omega (arith, a.3)) in omega (arith, top, below)

      read : {d : ℕ} → Reads (fed_for Shift s e) (suc d) (along 0)
      read = read_only Shift f a.0 a.1 refl

      floor_reads : Reads (fed_for Shift s e) 32 (floor_quotient (along 0) (2 ^ unsigned_abs (param s 0)))
      floor_reads = both_reads (both_reads read (modulo_reads power read)) (number_reads power)

      moved_reads : Reads (fed_for Shift s e) 32 (wrapped (out_type s) (both Mul (along 0) (natural (2 ^ unsigned_abs (param s 0)))))
      moved_reads = wrapped_reads (out_type s) (both_reads read (number_reads power))

      shifted_reads : (b : Bool) → RecipeFits (fed_for Shift s e)
          (if b then plain (floor_quotient (along 0) (2 ^ unsigned_abs (param s 0)))
          else plain (wrapped (out_type s) (both Mul (along 0) (natural (2 ^ unsigned_abs (param s 0))))))
      shifted_reads true = (tt, floor_reads.fits)
      shifted_reads false = (tt, moved_reads.fits)

      product_reads : Reads (fed_for Shift s e) 32 (both Mul (pattern_term (out_type s) (along 0)) (natural (2 ^ places)))
      product_reads = both_reads (pattern_reads (out_type s) read) (number_reads (pow_spelled places few))

      joined_reads : IsScratch (fed_for Shift s e) 1
          → Reads (fed_for Shift s e) 32 (wrapped (out_type s) (both Add (both Rem result (natural (span (out_type s))))
          (both Div result (natural (span (out_type s))))))
      joined_reads one =
          let n = span_spelled (out_type s) in
          let part = scratch_reads one.0 one.1 in
          wrapped_reads (out_type s) (both_reads (both_reads part (number_reads n)) (both_reads part (number_reads n)))

      by_case : (b : Bool) → int_eq (param s 1) (pos 0) ≡ b
          → RecipeFits (fed_for Shift s e) (if b then shifted (out_type s) (param s 0) (along 0) else turned (out_type s) places (along 0))
      by_case true q = shifted_reads (int_lt (param s 0) (pos 0))
      by_case false q =
          let one : IsScratch (fed_for Shift s e) 1 = (omega arith, rw q (omega arith)) in
          (((one, product_reads.fits), tt), (joined_reads one).fits)

  pub bit_set_reads : Asks BitSet s → IsFed BitSet s → RecipeFits (fed_for BitSet s e) (recipe_of BitSet s)
  bit_set_reads a f = (tt, wrapped_set.fits)
    where
      k : ℕ
      k = unsigned_abs (param s 0)

      low_bit : k ≤ 32
      low_bit = let top = width_at_most (out_type s) in omega (arith, a.3, top)

      read : {d : ℕ} → Reads (fed_for BitSet s e) (suc d) (along 0)
      read = read_only BitSet f a.0 a.1 refl

      wrapped_set : Reads (fed_for BitSet s e) 32 (with_bit (out_type s) k (along 0)).value
      wrapped_set = wrapped_reads (out_type s) (both_reads (pattern_reads (out_type s) read)
          (both_reads (both_reads (natural_reads (omega arith)) (bit_reads k low_bit (pattern_reads (out_type s) read)))
          (number_reads (pow_spelled k low_bit))))

  pub bit_clear_reads : Asks BitClear s → IsFed BitClear s → RecipeFits (fed_for BitClear s e) (recipe_of BitClear s)
  bit_clear_reads a f = (tt, wrapped_clear.fits)
    where
      k : ℕ
      k = unsigned_abs (param s 0)

      low_bit : k ≤ 32
      low_bit = let top = width_at_most (out_type s) in omega (arith, a.3, top)

      read : {d : ℕ} → Reads (fed_for BitClear s e) (suc d) (along 0)
      read = read_only BitClear f a.0 a.1 refl

      wrapped_clear : Reads (fed_for BitClear s e) 32 (without_bit (out_type s) k (along 0)).value
      wrapped_clear = wrapped_reads (out_type s) (both_reads (pattern_reads (out_type s) read)
          (both_reads (bit_reads k low_bit (pattern_reads (out_type s) read)) (number_reads (pow_spelled k low_bit))))

  pub extract_bits_reads : Asks ExtractBits s → IsFed ExtractBits s → RecipeFits (fed_for ExtractBits s e) (recipe_of ExtractBits s)
  extract_bits_reads a f = (tt, wrapped_bits.fits)
    where
      i : ℕ
      i = unsigned_abs (param s 0)

      j : ℕ
      j = unsigned_abs (param s 1)

      top : width (out_type s) ≤ 32
      top = width_at_most (out_type s)

      read : {d : ℕ} → Reads (fed_for ExtractBits s e) (suc d) (along 0)
      read = read_only ExtractBits f a.0 a.1 refl

      wrapped_bits : Reads (fed_for ExtractBits s e) 32 (bits (out_type s) i j (along 0)).value
      wrapped_bits = wrapped_reads (out_type s) (both_reads
          (both_reads (pattern_reads (out_type s) read) (number_reads (pow_spelled i (omega (arith, a.3, a.4, top)))))
          (number_reads (pow_spelled ((j - i) + 1) (omega (arith, a.3, a.4, top)))))
