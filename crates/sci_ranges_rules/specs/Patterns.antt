-- Patterns of bits from a least to a greatest one, and what becomes of them bit by bit.
use Rattle.std.specs.Prelude.{ℕ, zero, suc, ◌+◌, ◌-◌, ◌*◌, ◌/◌, ◌%◌, ◌^◌, ◌<◌, ◌≤◌, pos, Bool, int_lt, int_le, nat_eq, bit_and, bit_or, bit_xor, ◌&&◌, if◌then◌else◌, min, max}
use Rattle.sci_base.specs.declared.Ty.{Ty}
use Rattle.sci_base.specs.Fit.{span, width, low, high}
use Rattle.sci_base.specs.Bits.{pattern}
use Rattle.sci_ranges_base.specs.declared.interval.Interval.{Interval}
use Rattle.sci_ranges_rules.specs.declared.patterns.Patterns.{Patterns}
use Rattle.sci_ranges_base.specs.Intervals.{from_to}
use Rattle.sci_ranges_base.specs.Fitting.{wrapped}

-- ends of 32 bits at most; of the bits of a type
pub record ArePatterns (p : Patterns) : Type 0 where
  pub least : p.least < 2 ^ 32
  pub greatest : p.greatest < 2 ^ 32

pub record InType (t : Ty) (p : Patterns) : Type 0 where
  pub least : p.least < span t
  pub greatest : p.greatest < span t

-- q is one of the patterns
pub record HasPattern (p : Patterns) (q : ℕ) : Type 0 where
  pub above : p.least ≤ q
  pub below : q ≤ p.greatest

abbrev pub patterns_from : ℕ → ℕ → Patterns
patterns_from p q = record { least = p; greatest = q }

-- all numbers of the interval are of the type, and all of them below 0 or none
abbrev pub has_one_sign : Ty → Interval → Bool
has_one_sign t i =
    if int_lt i.greatest (pos 0) then int_le (low t) i.least else int_le (pos 0) i.least && int_le i.greatest (high t)

-- the patterns of the numbers of an interval: those below 0 have greater patterns than the others
abbrev pub patterns_of : Ty → Interval → Patterns
patterns_of t i = if has_one_sign t i then patterns_from (pattern t i.least) (pattern t i.greatest) else patterns_from 0 (span t - 1)

-- the least interval that has the numbers of these patterns
abbrev pub numbers_of : Ty → Patterns → Interval
numbers_of t p = wrapped t (from_to (pos p.least) (pos p.greatest))

-- ---- the bits that patterns have in common

-- of n bits the greatest in which two patterns differ, and all below, are open: their number is 2 ^ k - 1
abbrev pub open_to : ℕ → ℕ → ℕ → ℕ
open_to p q zero = 0
open_to p q (suc n) = if nat_eq p q then 0 else 2 * open_to (p / 2) (q / 2) n + 1

abbrev pub open_bits : Ty → Patterns → ℕ
open_bits t p = open_to p.least p.greatest (width t)

-- a pattern with these bits 0
abbrev pub cleared : ℕ → ℕ → ℕ
cleared p bits = p - p % (bits + 1)

-- the least and the greatest pattern with the bits that are in common
abbrev pub lowest : Ty → Patterns → ℕ
lowest t p = cleared p.least (open_bits t p)

abbrev pub highest : Ty → Patterns → ℕ
highest t p = lowest t p + open_bits t p

-- ---- bit by bit

abbrev pub and_patterns : Ty → Patterns → Patterns → Patterns
and_patterns t p q =
    patterns_from (bit_and (lowest t p) (lowest t q)) (min (min p.greatest q.greatest) (bit_and (highest t p) (highest t q)))

abbrev pub or_patterns : Ty → Patterns → Patterns → Patterns
or_patterns t p q =
    patterns_from (max (max p.least q.least) (bit_or (lowest t p) (lowest t q))) (bit_or (highest t p) (highest t q))

abbrev pub xor_patterns : Ty → Patterns → Patterns → Patterns
xor_patterns t p q =
    let open_in_either = max (open_bits t p) (open_bits t q) in
    let least = cleared (bit_xor (lowest t p) (lowest t q)) open_in_either in
    patterns_from least (least + open_in_either)

-- each bit turned over
abbrev pub turned_over : Ty → Patterns → Patterns
turned_over t p = patterns_from ((span t - 1) - p.greatest) ((span t - 1) - p.least)

-- turned left by k places: where the bits that go round are the same in all patterns, the ends are; else any pattern
abbrev pub turned_patterns : Ty → ℕ → (ℕ → ℕ) → Patterns → Patterns
turned_patterns t k turn p =
    if nat_eq (p.least / 2 ^ (width t - k)) (p.greatest / 2 ^ (width t - k)) then patterns_from (turn p.least) (turn p.greatest)
    else patterns_from 0 (span t - 1)

-- bits a to a + n - 1 as numbers: where the bits above them are the same in all patterns, from end to end; else any number
abbrev pub extracted : ℕ → ℕ → Patterns → Patterns
extracted a n p =
    if nat_eq (p.least / 2 ^ (a + n)) (p.greatest / 2 ^ (a + n)) then patterns_from (p.least / 2 ^ a % 2 ^ n) (p.greatest / 2 ^ a % 2 ^ n)
    else patterns_from 0 (2 ^ n - 1)
