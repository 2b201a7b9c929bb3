-- The input files that are meant: those whose columns keep within what a given one has.
use Rattle.std.specs.Prelude.{ℕ, ℤ, List, [], ◌∷◌, Option, Some, None, Contains, unwrap_or}
use Rattle.sci_forms.specs.declared.spec.Spec.{Spec}
use Rattle.sci_forms.specs.Words.{out_type}
use Rattle.sci_net.specs.Parts.{Parts, IsSensor, numbered, column_of, spec_of}
use Rattle.sci_reaction.specs.Memory.{Columns}
use Rattle.sci_ranges_base.specs.declared.interval.Interval.{Interval}
use Rattle.sci_ranges_base.specs.Intervals.{IsIn, one, whole, join}

-- from the least of some numbers to the greatest
abbrev pub spanned : List ℤ → Option Interval
spanned [] = None
spanned (v ∷ vs) = join (Some (one v)) (spanned vs)

-- what a sensor may take: from the least value of its column to the greatest, and all of its type where the column has none
abbrev pub sensed_range : Columns → Spec → Interval
sensed_range i s = unwrap_or (spanned (numbered [] i (column_of s))) (whole (out_type s))

-- the values of each sensor's column are within its range
abbrev pub KeepWithin : Parts → Columns → Columns → Type 0
KeepWithin n i j =
    (b : ℕ) → IsSensor n b → (v : ℤ) → Contains (numbered [] j (column_of (spec_of n b))) v → IsIn (sensed_range i (spec_of n b)) v
