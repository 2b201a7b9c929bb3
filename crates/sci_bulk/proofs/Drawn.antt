-- The numbers that are drawn: each data block names earlier ones and one of the eight clocks. The data blocks and clocks by number.
use Rattle.std.proofs.Common.{◌≡◌, ◌≤◌, ◌<◌, ◌+◌, ◌-◌, ◌%◌, ⊎_elim, ℕ, zero, suc, List, [], ◌∷◌, length, map, Some, refl, ◌∙◌, ap, subst, arith, length-append}
use Rattle.std.specs.Prelude.{slice_get, slice_index_or}
use Rattle.std.proofs.lemmas.Bool.{cases_lt}
use Rattle.std.proofs.lemmas.List.{length-map}
use Rattle.std.proofs.lemmas.Option.{slice_get_within}
use Rattle.sci_net.specs.Parts.{numbered, no_spec}
use Rattle.sci_bulk.specs.declared.data_block.DataBlock.{DataBlock}
use Rattle.sci_bulk.specs.declared.data_block.DataBlock.TheVariants.{One, Delay, Sum, Triple}
use Rattle.sci_bulk.specs.Bulk.{stepped, drawn, chosen, data_block, behind_block, blocks_from, data_blocks, clocks}
use Rattle.sci_bulk.proofs.Shapes.{Each, clock_spec, data_spec, specs_of}

-- ---- draws

-- data block i names a clock, and data blocks before it
abbrev pub IsDrawn : ℕ → DataBlock → Type 0
IsDrawn i One = Unit {0}
IsDrawn i (Delay c a) = (1 ≤ c) × (c ≤ 8) × (1 ≤ a) × (a < i)
IsDrawn i (Sum a b) = (1 ≤ a) × (a < i) × (1 ≤ b) × (b < i)
IsDrawn i (Triple a) = (1 ≤ a) × (a < i)

abbrev pub AreDrawn : ℕ → List DataBlock → Type 0
AreDrawn i [] = Unit {0}
AreDrawn i (d ∷ ds) = IsDrawn i d × AreDrawn (suc i) ds

chosen_drawn : (i k a b : ℕ) → 1 ≤ a → a < i → 1 ≤ b → b < i → IsDrawn i (chosen k a b)
chosen_drawn i zero a b h j k l = (omega arith, omega arith, h, j)
chosen_drawn i (suc zero) a b h j k l = (h, j, k, l)
chosen_drawn i (suc (suc n)) a b h j k l = (h, j)

block_drawn : (i x : ℕ) → 2 ≤ i → IsDrawn i (data_block i x)
unfolding data_block
block_drawn i x least =
    chosen_drawn i (drawn (stepped x) % 3) (1 + drawn (stepped (stepped x)) % (i - 1)) (1 + drawn (stepped (stepped (stepped x))) % (i - 1))
    (omega arith) (omega arith) (omega arith) (omega arith)

from_drawn : (count i x : ℕ) → 2 ≤ i → AreDrawn i (blocks_from count i x)
from_drawn zero i x least = tt
from_drawn (suc count) i x least = (block_drawn i x least, from_drawn count (suc i) (behind_block x) (omega arith))

pub all_drawn : (seed size : ℕ) → AreDrawn 1 (data_blocks seed size)
all_drawn seed size = (tt, from_drawn (size - 1) 2 seed (omega arith))

pub drawn_at : (i m : ℕ) (ds : List DataBlock) (d : DataBlock) → AreDrawn i ds → slice_get ds m ≡ Some d → IsDrawn (i + m) d
drawn_at i m [] d h e = cc
drawn_at i zero (x ∷ ds) d h e =
    let same : x ≡ d = cc in
    let place : i ≡ i + 0 = omega arith in
    subst (λ (k : ℕ). IsDrawn k d) place (subst (λ (y : DataBlock). IsDrawn i y) same h.0)
drawn_at i (suc m) (x ∷ ds) d h e =
    let place : suc i + m ≡ i + suc m = omega arith in
    subst (λ (k : ℕ). IsDrawn k d) place (drawn_at (suc i) m ds d h.1 e)

-- ---- by number

pub get_some : {A : Type 0} (xs : List A) (m : ℕ) → m < length xs → (x : A) × (slice_get xs m ≡ Some x)
get_some [] m l = absurd (omega (arith, l))
get_some (x ∷ xs) zero l = (x, refl)
get_some (x ∷ xs) (suc m) l = get_some xs m (omega (arith, l))

pub each_get : {A : Type 0} (P : A → Type 0) (xs : List A) (m : ℕ) (x : A) → Each P xs → slice_get xs m ≡ Some x → P x
each_get P [] m x h e = cc
each_get P (y ∷ xs) zero x h e = let same : y ≡ x = cc in subst P same h.0
each_get P (y ∷ xs) (suc m) x h e = each_get P xs m x h.1 e

pub each_at : {A : Type 0} (P : A → Type 0) (xs : List A) (d : A) → P d → Each P xs → (m : ℕ) → P (slice_index_or xs m d)
each_at P [] d k h m = k
each_at P (x ∷ xs) d k h zero = h.0
each_at P (x ∷ xs) d k h (suc m) = each_at P xs d k h.1 m

pub each_number : {A : Type 0} (P : A → Type 0) (xs : List A) (d : A) → P d → Each P xs → (b : ℕ) → P (numbered d xs b)
each_number P xs d k h zero = k
each_number P xs d k h (suc b) = each_at P xs d k h b

-- what holds of 1 to 8 holds of each of these
pub eight : (P : ℕ → Type 0) → P 1 → P 2 → P 3 → P 4 → P 5 → P 6 → P 7 → P 8 → (j : ℕ) → 1 ≤ j → j ≤ 8 → P j
eight P a b c d e f g h zero l m = absurd (omega (arith, l))
eight P a b c d e f g h (suc zero) l m = a
eight P a b c d e f g h (suc (suc zero)) l m = b
eight P a b c d e f g h (suc (suc (suc zero))) l m = c
eight P a b c d e f g h (suc (suc (suc (suc zero)))) l m = d
eight P a b c d e f g h (suc (suc (suc (suc (suc zero))))) l m = e
eight P a b c d e f g h (suc (suc (suc (suc (suc (suc zero)))))) l m = f
eight P a b c d e f g h (suc (suc (suc (suc (suc (suc (suc zero))))))) l m = g
eight P a b c d e f g h (suc (suc (suc (suc (suc (suc (suc (suc zero)))))))) l m = h
eight P a b c d e f g h (suc (suc (suc (suc (suc (suc (suc (suc (suc j))))))))) l m = absurd (omega (arith, m))

pub specs_length : (ds : List DataBlock) → length (specs_of ds) ≡ 8 + length ds
specs_length ds = omega (arith, length-append (map clock_spec clocks) (map data_spec ds), length-map ds data_spec)

-- block b is one of the clocks, or a data block
pub data IsOf (ds : List DataBlock) (b : ℕ) : Type 0 where
  is_clock : 1 ≤ b → b ≤ 8 → IsOf ds b
  is_data : (m : ℕ) (d : DataBlock) → b ≡ 9 + m → slice_get ds m ≡ Some d → IsOf ds b

pub is_of : (ds : List DataBlock) (b : ℕ) → 1 ≤ b → b ≤ 8 + length ds → IsOf ds b
is_of ds b l m =
    ⊎_elim
    (λ (low : b < 9). is_clock l (omega (arith, low)))
    (λ (high : 9 ≤ b). let found = get_some ds (b - 9) (omega (arith, high, m)) in is_data (b - 9) found.0 (omega (arith, high)) found.1)
    (cases_lt b 9)

pub clock_number : (ds : List DataBlock) (j : ℕ) → 1 ≤ j → j ≤ 8 → numbered no_spec (specs_of ds) j ≡ clock_spec j
clock_number ds j l m = eight (λ (i : ℕ). numbered no_spec (specs_of ds) i ≡ clock_spec i) refl refl refl refl refl refl refl refl j l m

spec_at : (ds : List DataBlock) (m : ℕ) (d : DataBlock) → slice_get ds m ≡ Some d → slice_index_or (map data_spec ds) m no_spec ≡ data_spec d
spec_at [] m d e = cc
spec_at (x ∷ ds) zero d e = let same : x ≡ d = cc in ap data_spec same
spec_at (x ∷ ds) (suc m) d e = spec_at ds m d e

pub data_number : (ds : List DataBlock) (b m : ℕ) (d : DataBlock) → b ≡ 9 + m → slice_get ds m ≡ Some d → numbered no_spec (specs_of ds) b ≡ data_spec d
data_number ds b m d is e =
    let place : b ≡ suc (suc (suc (suc (suc (suc (suc (suc (suc m)))))))) = omega (arith, is) in
    ap (λ (i : ℕ). numbered no_spec (specs_of ds) i) place ∙ spec_at ds m d e

pub data_within : (ds : List DataBlock) (m : ℕ) (d : DataBlock) → slice_get ds m ≡ Some d → m < length ds
data_within ds m d e = slice_get_within ds m d e
