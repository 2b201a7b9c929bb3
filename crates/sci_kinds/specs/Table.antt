-- What each kind of block means, element by element.
use Rattle.std.specs.Prelude.{ℕ, zero, suc, ◌+◌, ◌-◌, ◌*◌, ◌%◌, ◌/◌, ◌^◌, ℤ, pos, negsuc, ◌+ℤ◌, ◌-ℤ◌, ◌*ℤ◌, List, [], ◌∷◌, ◌++◌, length, Bool, nat_eq, nat_lt, int_lt, int_le, int_div, if◌then◌else◌, not, Option, Some, None, unsigned_abs}
use Rattle.std.specs.Int.{int_rem_euclid, int_div_euclid, int_min, int_max, bit_at}
use Rattle.sci_base.specs.declared.limits.TheConstants.{DELAY}
use Rattle.sci_base.specs.declared.Ty.{Ty}
use Rattle.sci_base.specs.declared.Mode.{Mode}
use Rattle.sci_base.specs.declared.Mode.TheVariants.{Wrap, Saturate, Stop}
use Rattle.sci_base.specs.Fit.{fit, int_eq, width}
use Rattle.sci_base.specs.Bits.{pattern, from_pattern, set_bit, clear_bit, bits_from_to, turned_left, of_bits}
use Rattle.sci_base.specs.Lists.{at, spread, listed}
use Rattle.sci_forms.specs.declared.Kind.{Kind}
use Rattle.sci_forms.specs.declared.Kind.TheVariants.{Const, Summation, GainBlk, Product, AbsValue, Signum, MaxMin, Saturation, DeadBand, Convert, Mux, Demux, Extractor, LogicalOp, RelationalOp, Shift, BitSet, BitClear, ExtractBits, Switch2, Select, Logic, AndLog, Dollar, SampHold, Register, ModuloCount, GatedDelay, Sensor, EvtDly, EvtVarDly, IfThEl, ESelect, Halt}
use Rattle.sci_kinds.specs.declared.Cell.{Cell}
use Rattle.sci_kinds.specs.declared.Cell.TheVariants.{Value, Overflow, Zero}
use Rattle.sci_forms.specs.declared.spec.Spec.{Spec}
use Rattle.sci_forms.specs.Ports.{total}
use Rattle.sci_forms.specs.Words.{param, out_type, size, state_len_of, held_of}

-- ---- words

-- the code of a mode
abbrev pub mode_of : ℤ → Mode
mode_of z = if int_eq z (pos 0) then Wrap else if int_eq z (pos 1) then Saturate else Stop

-- element e of input k, where all inputs have n elements
abbrev pub input : ℕ → List ℤ → ℕ → ℕ → ℤ
input n u k e = at u (k * n + e)

-- ---- numbers

-- the sum of f 0 to f (n - 1)
abbrev pub sum_to : (ℕ → ℤ) → ℕ → ℤ
sum_to f zero = pos 0
sum_to f (suc n) = sum_to f n +ℤ f n

-- the least of f 0 to f n
abbrev pub least_to : (ℕ → ℤ) → ℕ → ℤ
least_to f zero = f 0
least_to f (suc n) = int_min (least_to f n) (f (suc n))

-- the greatest of f 0 to f n
abbrev pub greatest_to : (ℕ → ℤ) → ℕ → ℤ
greatest_to f zero = f 0
greatest_to f (suc n) = int_max (greatest_to f n) (f (suc n))

-- how many of f 0 to f (n - 1) are not 0
abbrev pub count_to : (ℕ → ℤ) → ℕ → ℕ
count_to f zero = 0
count_to f (suc n) = count_to f n + (if int_eq (f n) (pos 0) then 0 else 1)

-- the number whose binary digits are the truths of f 0 to f (n - 1), the first the most significant
abbrev pub row_to : (ℕ → ℤ) → ℕ → ℕ
row_to f zero = 0
row_to f (suc n) = 2 * row_to f n + (if int_eq (f n) (pos 0) then 0 else 1)

-- the number of the least bit that is set, of n bits
abbrev pub least_set : ℕ → ℕ → ℕ
least_set m zero = 0
least_set m (suc n) = if nat_eq (m % 2) 1 then 0 else suc (least_set (m / 2) n)

abbrev pub truth : Bool → ℤ
truth b = if b then pos 1 else pos 0

-- v brought into low to high
abbrev pub brought : ℤ → ℤ → ℤ → ℤ
brought low high v = if int_lt v low then low else if int_lt high v then high else v

-- -1, 0 or 1
abbrev pub sign : ℤ → ℤ
sign v = if int_lt v (pos 0) then negsuc 0 else if int_lt (pos 0) v then pos 1 else pos 0

-- ---- cells

abbrev pub fitted : Option ℤ → Cell
fitted (Some v) = Value v
fitted None = Overflow

-- a pattern as a number of the type
abbrev pub number : Ty → ℕ → Cell
number t p = fitted (from_pattern t p)

-- u1 over u2 rounded toward zero
abbrev pub quotient_cell : Ty → Mode → ℤ → ℤ → Cell
quotient_cell t m a b = if int_eq b (pos 0) then Zero else fitted (fit t m (int_div a b))

-- u1 times u2, or u1 over u2 rounded toward zero
abbrev pub product_cell : Ty → Mode → ℤ → ℤ → ℤ → Cell
product_cell t m d a b =
    if int_eq d (pos 1) then fitted (fit t m (a *ℤ b)) else quotient_cell t m a b

abbrev pub abs_cell : Ty → Mode → ℤ → Cell
abs_cell t m v = if int_lt v (pos 0) then fitted (fit t m (pos 0 -ℤ v)) else Value v

-- what v has above high or below low
abbrev pub beyond_cell : Ty → Mode → ℤ → ℤ → ℤ → Cell
beyond_cell t m low high v =
    if int_lt high v then fitted (fit t m (v -ℤ high)) else
    if int_lt v low then fitted (fit t m (v -ℤ low)) else Value (pos 0)

-- the least (code 1) or the greatest
abbrev pub extreme : ℤ → (ℕ → ℤ) → ℕ → ℤ
extreme m f n = if int_eq m (pos 1) then least_to f n else greatest_to f n

-- a logical operation, where c of n are true
abbrev pub logical : ℤ → ℕ → ℕ → Bool
logical op n c =
    if int_eq op (pos 0) then nat_eq c n else
    if int_eq op (pos 1) then nat_lt 0 c else
    if int_eq op (pos 2) then not (nat_eq c n) else
    if int_eq op (pos 3) then nat_eq c 0 else
    if int_eq op (pos 4) then nat_eq (c % 2) 1 else nat_eq c 0

-- the same operation at each bit of the patterns
abbrev pub logical_bits : Ty → ℤ → ℕ → (ℕ → ℤ) → ℕ
logical_bits t op n f =
    of_bits (λ b. if logical op n (count_to (λ k. pos (bit_at (pattern t (f k)) b)) n) then 1 else 0) (width t)

abbrev pub logical_cell : Ty → ℤ → ℤ → ℕ → (ℕ → ℤ) → Cell
logical_cell t op b n f =
    if int_eq b (pos 0) then Value (truth (logical op n (count_to f n))) else number t (logical_bits t op n f)

-- =, not equal, <, <=, >, >=
abbrev pub relation : ℤ → ℤ → ℤ → Bool
relation op a b =
    if int_eq op (pos 0) then int_eq a b else
    if int_eq op (pos 1) then not (int_eq a b) else
    if int_eq op (pos 2) then int_lt a b else
    if int_eq op (pos 3) then int_le a b else
    if int_eq op (pos 4) then int_lt b a else int_le b a

-- v times 2 to the n
abbrev pub shifted : Ty → ℤ → ℤ → Cell
shifted t n v =
    if int_lt n (pos 0) then Value (int_div_euclid v (pos (2 ^ unsigned_abs n)))
    else fitted (fit t Wrap (v *ℤ pos (2 ^ unsigned_abs n)))

-- the pattern of v turned left by n places
abbrev pub turned : Ty → ℤ → ℤ → Cell
turned t n v = number t (turned_left t (pattern t v) (unsigned_abs (int_rem_euclid n (pos (width t)))))

abbrev pub shift_cell : Ty → ℤ → ℤ → ℤ → Cell
shift_cell t n r v = if int_eq r (pos 0) then shifted t n v else turned t n v

-- whether the first of the switched inputs is taken
abbrev pub switches : ℤ → ℤ → ℤ → Bool
switches c a v =
    if int_eq c (pos 0) then int_le a v else
    if int_eq c (pos 1) then int_lt a v else not (int_eq v a)

-- ---- the table

-- element e of the outputs, counted through all of them; a kind without outputs has none
abbrev pub cell_of : Kind → Spec → List ℤ → ℕ → List ℤ → ℕ → Cell
cell_of Const s x m u e = Value (spread s.params e)
cell_of Summation s x m u e =
    fitted (fit (out_type s) (mode_of (param s 0)) (sum_to (λ k. param s (k + 1) *ℤ input (size s) u k e) (length s.ins)))
cell_of GainBlk s x m u e = fitted (fit (out_type s) (mode_of (param s 0)) (param s 1 *ℤ at u e))
cell_of Product s x m u e = product_cell (out_type s) (mode_of (param s 0)) (param s 1) (input (size s) u 0 e) (input (size s) u 1 e)
cell_of AbsValue s x m u e = abs_cell (out_type s) (mode_of (param s 0)) (at u e)
cell_of Signum s x m u e = Value (sign (at u e))
cell_of MaxMin s x m u e = Value (extreme (param s 0) (λ k. input (size s) u k e) (length s.ins - 1))
cell_of Saturation s x m u e = Value (brought (param s 0) (param s 1) (at u e))
cell_of DeadBand s x m u e = beyond_cell (out_type s) (mode_of (param s 0)) (param s 1) (param s 2) (at u e)
cell_of Convert s x m u e = fitted (fit (out_type s) (mode_of (param s 0)) (at u e))
cell_of Mux s x m u e = Value (at u e)
cell_of Demux s x m u e = Value (at u e)
cell_of Extractor s x m u e = Value (at u (unsigned_abs (param s e) - 1))
cell_of LogicalOp s x m u e = logical_cell (out_type s) (param s 0) (param s 1) (length s.ins) (λ k. input (size s) u k e)
cell_of RelationalOp s x m u e = Value (truth (relation (param s 0) (input (size s) u 0 e) (input (size s) u 1 e)))
cell_of Shift s x m u e = shift_cell (out_type s) (param s 0) (param s 1) (at u e)
cell_of BitSet s x m u e = number (out_type s) (set_bit (pattern (out_type s) (at u e)) (unsigned_abs (param s 0)))
cell_of BitClear s x m u e = number (out_type s) (clear_bit (pattern (out_type s) (at u e)) (unsigned_abs (param s 0)))
cell_of ExtractBits s x m u e =
    number (out_type s) (bits_from_to (pattern (out_type s) (at u e)) (unsigned_abs (param s 0)) (unsigned_abs (param s 1)))
cell_of Switch2 s x m u e =
    Value (if switches (param s 0) (param s 1) (at u (size s)) then at u e else at u (size s + 1 + e))
cell_of Select s x m u e = Value (input (size s) u (least_set m s.evtin) e)
cell_of Logic s x m u e = Value (param s (row_to (at u) (length s.ins) * length s.outs + e))
cell_of AndLog s x m u e = Value (if nat_eq m 3 then pos 1 else negsuc 0)
cell_of Dollar s x m u e = Value (at x e)
cell_of SampHold s x m u e = Value (at u e)
cell_of Register s x m u e = Value (at x 0)
cell_of ModuloCount s x m u e = Value (at x 0)
cell_of GatedDelay s x m u e = Value (if int_lt (pos 0) (at u (size s)) then at x e else pos 0)
cell_of Sensor s x m u e = Value (at u 0)
cell_of EvtDly s x m u e = Value (pos 0)
cell_of EvtVarDly s x m u e = Value (pos 0)
cell_of IfThEl s x m u e = Value (pos 0)
cell_of ESelect s x m u e = Value (pos 0)
cell_of Halt s x m u e = Value (pos 0)

-- value i of the next state
abbrev pub next_of : Kind → Spec → List ℤ → ℕ → List ℤ → ℕ → ℤ
next_of Dollar s x m u i = at u i
next_of GatedDelay s x m u i = at u i
next_of Register s x m u i = if nat_lt (i + 1) (length s.state) then at x (i + 1) else at u 0
next_of ModuloCount s x m u i = int_rem_euclid (at x 0 +ℤ pos 1) (param s 0)
next_of _ s x m u i = pos 0

-- the delay of an activation output
abbrev pub delay_of : Kind → Spec → ℕ → List ℤ → ℤ
delay_of EvtDly s p u = param s 0
delay_of EvtVarDly s p u = if int_lt (at u 0) (pos 0) then negsuc 0 else int_min (at u 0) DELAY
delay_of _ s p u = negsuc 0

-- the branch that a synchronous block takes
abbrev pub branch_of : Kind → Spec → List ℤ → ℕ
branch_of IfThEl s u = if int_lt (pos 0) (at u 0) then 1 else 2
branch_of ESelect s u = unsigned_abs (brought (pos 1) (pos s.evtout) (at u 0))
branch_of _ s u = 1

-- ---- all elements

abbrev pub cell : Spec → List ℤ → ℕ → List ℤ → ℕ → Cell
cell s x m u e = cell_of s.kind s x m u e

abbrev pub state_len : Spec → ℕ
state_len s = state_len_of s.kind s

abbrev pub next : Spec → List ℤ → ℕ → List ℤ → List ℤ
next s x m u = listed (next_of s.kind s x m u) (state_len s)

abbrev pub first_state : Spec → List ℤ
first_state s = listed (spread s.state) (state_len s)

abbrev pub first_held : Spec → List ℤ
first_held s = listed (held_of s.kind s) (total s.outs)

abbrev pub delay : Spec → ℕ → List ℤ → ℤ
delay s p u = delay_of s.kind s p u

abbrev pub branch : Spec → List ℤ → ℕ
branch s u = branch_of s.kind s u

-- the values of all outputs, or why there are none
pub data Answer : Type 0 where
  Values : List ℤ → Answer
  NoFit : Answer
  NoQuotient : Answer

-- the first element without a value decides
abbrev pub then_cell : Answer → Cell → Answer
then_cell (Values vs) (Value v) = Values (vs ++ v ∷ [])
then_cell (Values vs) Overflow = NoFit
then_cell (Values vs) Zero = NoQuotient
then_cell NoFit c = NoFit
then_cell NoQuotient c = NoQuotient

abbrev pub gathered : (ℕ → Cell) → ℕ → Answer
gathered f zero = Values []
gathered f (suc n) = then_cell (gathered f n) (f n)

abbrev pub out : Spec → List ℤ → ℕ → List ℤ → Answer
out s x m u = gathered (cell s x m u) (total s.outs)
