-- How a logical operation goes over the bits of patterns: it joins them, and may turn over what it has joined.
use Rattle.std.specs.Prelude.{◌≡◌, ℕ, ◌%◌, ◌<◌, ◌^◌, ℤ, pos, Bool, true, false, nat_eq, nat_lt, bit_and, bit_or, bit_xor, if◌then◌else◌}
use Rattle.std.specs.Int.{bit_at}
use Rattle.sci_base.specs.declared.Ty.{Ty}
use Rattle.sci_base.specs.Fit.{int_eq, width}
use Rattle.sci_base.specs.Bits.{pattern}
use Rattle.sci_kinds.specs.Table.{count_to}
use Rattle.sci_bank_logic.specs.declared.logical_op.Join.{Join}
use Rattle.sci_bank_logic.specs.declared.logical_op.Join.TheVariants.{And, Or, Xor}

-- how an operation joins bits
abbrev pub join_of : ℤ → Join
join_of op =
    if int_eq op (pos 0) then And else
    if int_eq op (pos 2) then And else
    if int_eq op (pos 4) then Xor else Or

-- whether it turns over what it has joined
abbrev pub is_turned : ℤ → Bool
is_turned op =
    if int_eq op (pos 0) then false else
    if int_eq op (pos 1) then false else
    if int_eq op (pos 4) then false else true

-- two patterns joined
abbrev pub joined : Join → ℕ → ℕ → ℕ
joined And p q = bit_and p q
joined Or p q = bit_or p q
joined Xor p q = bit_xor p q

-- the bit that n bits give, c of them 1
abbrev pub joined_bit : Join → ℕ → ℕ → ℕ
joined_bit And n c = if nat_eq c n then 1 else 0
joined_bit Or n c = if nat_lt 0 c then 1 else 0
joined_bit Xor n c = c % 2

-- how many of the patterns of f 0 to f (n - 1) have bit b
abbrev pub bit_count : Ty → (ℕ → ℤ) → ℕ → ℕ → ℕ
bit_count t f b n = count_to (λ k. pos (bit_at (pattern t (f k)) b)) n

-- p is the pattern of n numbers joined
pub record IsJoined (t : Ty) (j : Join) (f : ℕ → ℤ) (n p : ℕ) : Type 0 where
  pub below : p < 2 ^ width t
  pub bits : (b : ℕ) → b < width t → bit_at p b ≡ joined_bit j n (bit_count t f b n)
