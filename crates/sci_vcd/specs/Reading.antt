-- Reading a line from left to right: a value and the bytes after it, or none.
use Rattle.std.specs.Prelude.{ℕ, ◌+◌, ◌*◌, ◌-◌, ◌^◌, ℤ, pos, ◌-ℤ◌, List, [], ◌∷◌, length, Option, Some, None, Bool, ◌&&◌, nat_eq, nat_le, if◌then◌else◌, codes, unsigned_abs}
use Rattle.sci_base.specs.declared.limits.TheConstants.{TICKS}
use Rattle.sci_text.specs.Reading.{◌>>=◌, or_else, after, ended}
use Rattle.sci_text.specs.Numbers.{digits_front, digits_rest, number_at}
use Rattle.sci_base.specs.declared.Ty.{Ty}
use Rattle.sci_base.specs.declared.Ty.TheVariants.{I32, I16, I8, U32, U16, U8}
use Rattle.sci_base.specs.Fit.{width, high}
use Rattle.sci_vcd.specs.declared.signal.Signal.{Signal}
use Rattle.sci_vcd.specs.Spelling.{type_text}

-- ---- binary digits

abbrev pub is_bit : ℕ → Bool
is_bit c = nat_le 48 c && nat_le c 49

-- the number that the digits go on with, behind the number n
abbrev pub bits_of : ℕ → List ℕ → Option ℕ
bits_of n [] = Some n
bits_of n (c ∷ cs) = if is_bit c then bits_of (2 * n + (c - 48)) cs else None

-- the number of the type that a pattern stands for
abbrev pub number_of : Ty → ℕ → ℤ
number_of t p = if nat_le p (unsigned_abs (high t)) then pos p else pos p -ℤ pos (2 ^ width t)

-- the value that these digits, one for each bit of the type, stand for
unfoldable pub decoded : Ty → List ℕ → Option ℤ
decoded t digits = if nat_eq (length digits) (width t) then (bits_of 0 digits >>= λ p. Some (number_of t p)) else None

-- ---- lines

abbrev pub all_types : List Ty
all_types = I32 ∷ I16 ∷ I8 ∷ U32 ∷ U16 ∷ U8 ∷ []

-- the first of these types whose kind and width stand here
abbrev pub type_among : List Ty → List ℕ → Option (Ty × List ℕ)
type_among [] bytes = None
type_among (t ∷ ts) bytes = or_else (after (type_text t) bytes) (λ rest. Some (t, rest)) (type_among ts bytes)

unfoldable pub type_at : List ℕ → Option (Ty × List ℕ)
type_at bytes = type_among all_types bytes

abbrev pub signal_by : Ty → ℕ → ℕ → ℕ → Signal
signal_by t b p e = record { block = b; port = p; element = e; ty = t }

-- a signal of this type, by its name, and the end of its line
unfoldable pub name_at : Ty → List ℕ → Option Signal
name_at t bytes =
    number_at (2 ^ 32) bytes >>= λ b. after (codes "_") b.1 >>= λ l. number_at (2 ^ 32) l >>= λ p. after (codes "_") p.1 >>= λ m.
    number_at (2 ^ 32) m >>= λ e. after (codes " $end") e.1 >>= ended (signal_by t b.0 p.0 e.0)

-- the number of a signal, and the signal
unfoldable pub signal_at : List ℕ → Option (ℕ × Signal)
signal_at line =
    after (codes "$var ") line >>= λ l. type_at l >>= λ t. after (codes " v") t.1 >>= λ m. number_at (2 ^ 32) m >>= λ n.
    after (codes " b") n.1 >>= λ r. name_at t.0 r >>= λ g. Some (n.0, g)

-- the digits of a value, and the number of its signal
unfoldable pub change_at : List ℕ → Option (List ℕ × ℕ)
change_at line =
    after (codes "b") line >>= λ l. after (codes " v") (digits_rest l) >>= λ m. number_at (2 ^ 32) m >>= λ n. ended (digits_front l, n.0) n.1

-- a tick, behind its #
unfoldable pub tick_at : List ℕ → Option ℕ
tick_at bytes = number_at (TICKS + 1) bytes >>= λ n. ended n.0 n.1
