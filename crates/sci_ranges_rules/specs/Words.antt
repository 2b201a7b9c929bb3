-- Words of the rules.
use Rattle.std.specs.Prelude.{ℕ, zero, suc, ◌+◌, ◌-◌, ◌*◌, ◌/◌, ◌%◌, ◌^◌, ℤ, pos, negsuc, ◌+ℤ◌, ◌-ℤ◌, int_lt, int_le, int_div, not, Bool, true, false, ◌&&◌, if◌then◌else◌, List, Option, Some, None, option_map, unsigned_abs}
use Rattle.std.specs.Int.{int_min, int_max, int_div_euclid, int_rem_euclid}
use Rattle.sci_base.specs.declared.Ty.{Ty}
use Rattle.sci_base.specs.declared.Mode.{Mode}
use Rattle.sci_base.specs.Fit.{low, high, width, int_eq}
use Rattle.sci_base.specs.Bits.{turned_left}
use Rattle.sci_kinds.specs.Table.{truth, logical, least_to, greatest_to}
use Rattle.sci_ranges_base.specs.declared.interval.Interval.{Interval}
use Rattle.sci_ranges_base.specs.declared.cells.Cells.{Cells}
use Rattle.sci_ranges_rules.specs.declared.patterns.Patterns.{Patterns}
use Rattle.sci_ranges_base.specs.Intervals.{from_to, one, whole, between, join, both, plus, times, at_ends, corners, has, range_at}
use Rattle.sci_ranges_base.specs.Cells.{on_some}
use Rattle.sci_ranges_base.specs.Fitting.{fitted_range, wrapped_up_to}
use Rattle.sci_ranges_rules.specs.Patterns.{patterns_from, patterns_of, numbers_of, and_patterns, or_patterns, xor_patterns, turned_over, turned_patterns}

-- element e of input k, where all inputs have n elements
abbrev pub input_range : ℕ → List (Option Interval) → ℕ → ℕ → Option Interval
input_range n us k e = range_at us (k * n + e)

-- ---- more than one input

-- the sums of f 0 to f (n - 1)
abbrev pub sums : (ℕ → Option Interval) → ℕ → Option Interval
sums f zero = Some (one (pos 0))
sums f (suc n) = both plus (sums f n) (f n)

-- the least ones, or the greatest, of f 0 to f n
abbrev pub extremes : (ℤ → ℤ → ℤ) → (ℕ → Option Interval) → ℕ → Option Interval
extremes pick f zero = f 0
extremes pick f (suc n) = both (λ i j. from_to (pick i.least j.least) (pick i.greatest j.greatest)) (extremes pick f n) (f (suc n))

-- the hull of f 0 to f (n - 1)
abbrev pub joins : (ℕ → Option Interval) → ℕ → Option Interval
joins f zero = None
joins f (suc n) = join (joins f n) (f n)

-- ---- numbers

-- the quotients by the divisors below 0, and by those above
abbrev pub quotients : Interval → Interval → Option Interval
quotients i j =
    join (option_map (corners int_div i) (between j.least (int_min j.greatest (negsuc 0)))) (option_map (corners int_div i) (between (int_max j.least (pos 1)) j.greatest))

abbrev pub quotient_cells : Ty → Mode → Interval → Interval → Cells
quotient_cells t m i j =
    let c = on_some (fitted_range t m) (quotients i j) in
    record c { zero = has j (pos 0) }

-- how far each number is from 0
abbrev pub magnitudes : Interval → Interval
magnitudes i =
    let a = pos (unsigned_abs i.least) in
    let b = pos (unsigned_abs i.greatest) in
    from_to (if has i (pos 0) then pos 0 else int_min a b) (int_max a b)

-- what v has above high or below low
abbrev pub beyond : ℤ → ℤ → ℤ → ℤ
beyond low high v = if int_lt high v then v -ℤ high else if int_lt v low then v -ℤ low else pos 0

-- ---- truths

-- 0 where a number may be 0, and 1 where one may not be
abbrev pub truth_range : Interval → Interval
truth_range i = from_to (if has i (pos 0) then pos 0 else pos 1) (if int_eq i.least (pos 0) && int_eq i.greatest (pos 0) then pos 0 else pos 1)

-- a logical operation on n truths of which so many are true
abbrev pub logical_range : ℤ → ℕ → Interval → Interval
logical_range op n counts =
    let from = unsigned_abs counts.least in
    let more = unsigned_abs counts.greatest - from in
    let f = λ (k : ℕ). truth (logical op n (from + k)) in
    from_to (least_to f more) (greatest_to f more)

-- whether a relation may hold of two numbers whose difference lies in d: =, not equal, <, <=, >, >=
abbrev pub may_hold : ℤ → Interval → Bool
may_hold op d =
    if int_eq op (pos 0) then has d (pos 0) else
    if int_eq op (pos 1) then not (int_eq d.least (pos 0) && int_eq d.greatest (pos 0)) else
    if int_eq op (pos 2) then int_lt d.least (pos 0) else
    if int_eq op (pos 3) then int_le d.least (pos 0) else
    if int_eq op (pos 4) then int_lt (pos 0) d.greatest else int_le (pos 0) d.greatest

-- the relation that holds where another doesn't
abbrev pub opposite : ℤ → ℤ
opposite op =
    if int_eq op (pos 0) then pos 1 else if int_eq op (pos 1) then pos 0 else if int_eq op (pos 2) then pos 5 else
    if int_eq op (pos 3) then pos 4 else if int_eq op (pos 4) then pos 3 else pos 2

-- the relation of two numbers the other way round
abbrev pub mirrored : ℤ → ℤ
mirrored op =
    if int_eq op (pos 2) then pos 4 else if int_eq op (pos 3) then pos 5 else if int_eq op (pos 4) then pos 2 else
    if int_eq op (pos 5) then pos 3 else op

-- the numbers of a type of which a relation may hold to one of the others
abbrev pub related : ℤ → Ty → Interval → Option Interval
related op t j =
    if int_eq op (pos 0) then Some j else
    if int_eq op (pos 2) then between (low t) (j.greatest -ℤ pos 1) else
    if int_eq op (pos 3) then between (low t) j.greatest else
    if int_eq op (pos 4) then between (j.least +ℤ pos 1) (high t) else
    if int_eq op (pos 5) then between j.least (high t) else Some (whole t)

abbrev pub relation_range : ℤ → Interval → Interval
relation_range op d = from_to (truth (not (may_hold (opposite op) d))) (truth (may_hold op d))

-- an input may have this truth
abbrev pub may_be_digit : Option Interval → ℤ → Bool
may_be_digit None d = false
may_be_digit (Some i) d = has (truth_range i) d

-- a row of truths of the inputs is possible: its last digit is a truth of the last input, and the digits before are of those before
abbrev pub allows : List (Option Interval) → ℕ → ℕ → Bool
allows us zero row = true
allows us (suc n) row = allows us n (row / 2) && may_be_digit (range_at us n) (pos (row % 2))

-- ---- bits

-- how AND, OR, NAND, NOR, exclusive OR and NOT join patterns
abbrev pub joined_by : Ty → ℤ → Patterns → Patterns → Patterns
joined_by t op p q =
    if int_eq op (pos 0) then and_patterns t p q else
    if int_eq op (pos 2) then and_patterns t p q else
    if int_eq op (pos 4) then xor_patterns t p q else or_patterns t p q

abbrev pub on_patterns : (Patterns → Patterns → Patterns) → Option Patterns → Option Patterns → Option Patterns
on_patterns f None q = None
on_patterns f (Some p) None = None
on_patterns f (Some p) (Some q) = Some (f p q)

-- the patterns of f 0 to f n joined
abbrev pub all_joined : Ty → ℤ → (ℕ → Option Interval) → ℕ → Option Patterns
all_joined t op f zero = option_map (patterns_of t) (f 0)
all_joined t op f (suc n) = on_patterns (joined_by t op) (all_joined t op f n) (option_map (patterns_of t) (f (suc n)))

-- NAND, NOR and NOT turn over what is joined
abbrev pub turned_by : Ty → ℤ → Patterns → Patterns
turned_by t op p =
    if int_eq op (pos 0) then p else if int_eq op (pos 1) then p else if int_eq op (pos 4) then p else turned_over t p

-- the numbers below 0, and the others
abbrev pub below_zero : Interval → Option Interval
below_zero i = between i.least (int_min i.greatest (negsuc 0))

abbrev pub from_zero : Interval → Option Interval
from_zero i = between (int_max i.least (pos 0)) i.greatest

-- what becomes of each of the two, whose patterns rise with the numbers
abbrev pub by_sign : (Interval → Interval) → Interval → Option Interval
by_sign f i = join (option_map f (below_zero i)) (option_map f (from_zero i))

-- with these bits made 1, and with these alone kept
abbrev pub set_bits : Ty → ℕ → Interval → Interval
set_bits t bits i = numbers_of t (or_patterns t (patterns_of t i) (patterns_from bits bits))

abbrev pub kept_bits : Ty → ℕ → Interval → Interval
kept_bits t bits i = numbers_of t (and_patterns t (patterns_of t i) (patterns_from bits bits))

-- each number times 2 to the n; what wraps is a multiple of it
abbrev pub shifted_range : Ty → ℤ → Interval → Interval
shifted_range t n i =
    let factor = pos (2 ^ unsigned_abs n) in
    if int_lt n (pos 0) then at_ends (λ v. int_div_euclid v factor) i else wrapped_up_to t ((high t +ℤ pos 1) -ℤ factor) (times factor i)

-- the pattern of each turned left by n places
abbrev pub turned_range : Ty → ℤ → Interval → Interval
turned_range t n i =
    let k = unsigned_abs (int_rem_euclid n (pos (width t))) in
    numbers_of t (turned_patterns t k (λ p. turned_left t p k) (patterns_of t i))

-- ---- choices

-- of a switch: whether the first input may be taken, and whether the third may be
abbrev pub may_take_first : ℤ → ℤ → Interval → Bool
may_take_first c a i =
    if int_eq c (pos 0) then int_le a i.greatest else
    if int_eq c (pos 1) then int_lt a i.greatest else not (int_eq i.least a && int_eq i.greatest a)

abbrev pub may_take_third : ℤ → ℤ → Interval → Bool
may_take_third c a i =
    if int_eq c (pos 0) then int_lt i.least a else
    if int_eq c (pos 1) then int_le i.least a else has i a

abbrev pub if_so : Bool → Option Interval → Option Interval
if_so b i = if b then i else None
