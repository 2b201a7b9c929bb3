-- An input file that has what a net needs of it has columns in range.
use Rattle.std.proofs.Common.{◌≡◌, ℕ, zero, suc, ◌+◌, ℤ, List, [], ◌∷◌, length, Bool, true, false, cond, Option, Some, None, Ok, Err, option_map, refl, sym, ◌∙◌, subst, arith}
use Rattle.std.specs.Prelude.{Contains, not, nat_lt}
use Rattle.std.specs.List.{position, position_from}
use Rattle.std.proofs.lemmas.Iterator.Adapters.{position_from-zero}
use Rattle.std.proofs.lemmas.Option.{unwrap_or-slice_get}
use Rattle.sci_base.specs.Plain.{Violation}
use Rattle.sci_base.specs.Fit.{InRange, in_range}
use Rattle.sci_forms.proofs.TestLemmas.{in_range_told}
use Rattle.sci_net.specs.Parts.{Parts, numbered, spec_of, column_of}
use Rattle.sci_reaction.specs.Memory.{AreColumns}
use Rattle.sci_trace.specs.Columns.{Needed, column_at}
use Rattle.sci_trace.specs.Reading.{columns_in, greatest, outside_at, outside, or_else, first_outside, unless, judge_columns, shaped, judge}
use Rattle.sci_base.specs.Outcome.{◌>>=◌}
use Rattle.sci_needs.specs.Needs.{needs_of, need_at, AreOfSensors}

-- ---- no value that is needed is outside its type

unless_ok : (o : Option Violation) (cs columns : List (List ℤ)) → unless o cs ≡ Ok columns → (o ≡ None) × (cs ≡ columns)
unless_ok None cs columns e = (refl, cc e)
unless_ok (Some v) cs columns e = absurd (cc e)

enough_ok : (b : Bool) (v : Violation) (o : Option Violation) (cs columns : List (List ℤ)) → cond b (Err v) (unless o cs) ≡ Ok columns → (o ≡ None) × (cs ≡ columns)
enough_ok true v o cs columns e = absurd (cc e)
enough_ok false v o cs columns e = unless_ok o cs columns e

judged_ok : (needs : List Needed) (o : Option (List (List ℤ))) (columns : List (List ℤ)) → shaped o >>= judge_columns needs ≡ Ok columns → first_outside needs columns ≡ None
judged_ok needs None columns e = absurd (cc e)
judged_ok needs (Some cs) columns e =
    let h = enough_ok (nat_lt (length cs) (greatest needs)) _ (first_outside needs cs) cs columns e in
    subst (λ (xs : List (List ℤ)). first_outside needs xs ≡ None) h.1 h.0

none_outside : (needs : List Needed) (bytes : List ℕ) (columns : List (List ℤ)) → judge bytes needs ≡ Ok columns → first_outside needs columns ≡ None
unfolding judge
none_outside needs bytes columns h = judged_ok needs (columns_in bytes) columns h

-- ---- each is in range

either_none : (o p : Option Violation) → or_else o p ≡ None → (o ≡ None) × (p ≡ None)
either_none None p e = (refl, e)
either_none (Some v) p e = absurd (cc e)

none_at : (needs : List Needed) (columns : List (List ℤ)) (d : Needed) → first_outside needs columns ≡ None → Contains needs d → outside d (column_at columns d.column) ≡ None
none_at [] columns d e h = absurd (omega (arith, h.1))
none_at (n ∷ ns) columns d e (zero, l, is) =
    subst (λ (x : Needed). outside x (column_at columns x.column) ≡ None) is (either_none (outside n (column_at columns n.column)) (first_outside ns columns) e).0
none_at (n ∷ ns) columns d e (suc i, l, is) =
    none_at ns columns d (either_none (outside n (column_at columns n.column)) (first_outside ns columns) e).1 (i, omega (arith, l), is)

none_mapped : (f : ℕ → Violation) (o : Option ℕ) → option_map f o ≡ None → o ≡ None
none_mapped f None e = refl
none_mapped f (Some i) e = absurd (cc e)

none_here : (b : Bool) (from : ℕ) (o : Option ℕ) → cond b (Some from) o ≡ None → (b ≡ false) × (o ≡ None)
none_here true from o e = absurd (cc e)
none_here false from o e = (refl, e)

none_found : (p : ℤ → Bool) (vs : List ℤ) (from : ℕ) (v : ℤ) → position_from p from vs ≡ None → Contains vs v → p v ≡ false
none_found p [] from v e h = absurd (omega (arith, h.1))
none_found p (x ∷ xs) from v e (zero, l, is) =
    subst (λ (y : ℤ). p y ≡ false) is (none_here (p x) from (position_from p (from + 1) xs) e).0
none_found p (x ∷ xs) from v e (suc i, l, is) =
    none_found p xs (from + 1) v (none_here (p x) from (position_from p (from + 1) xs) e).1 (i, omega (arith, l), is)

not_false : (b : Bool) → not b ≡ false → b ≡ true
not_false true e = refl
not_false false e = absurd (cc e)

inside : (d : Needed) (vs : List ℤ) (v : ℤ) → outside d vs ≡ None → Contains vs v → InRange d.ty v
inside d vs v e h =
    let outer : ℤ → Bool = λ x. not (in_range d.ty x) in
    let none = sym (position_from-zero outer vs) ∙ none_mapped (outside_at d vs) (position outer vs) e in
    in_range_told d.ty v (not_false (in_range d.ty v) (none_found outer vs 0 v none h))

-- a column is its list, by either name
column_is : (columns : List (List ℤ)) (k : ℕ) → column_at columns k ≡ numbered [] columns k
column_is columns zero = refl
column_is columns (suc i) = unwrap_or-slice_get columns i []

pub columns_in_range : (n : Parts) (bytes : List ℕ) (columns : List (List ℤ)) → AreOfSensors n (needs_of n) → judge bytes (needs_of n) ≡ Ok columns → AreColumns n columns
columns_in_range n bytes columns sensors accepted b sensor v h =
    let none = none_at (needs_of n) columns (need_at n b) (none_outside (needs_of n) bytes columns accepted) (sensors.each b sensor) in
    inside (need_at n b) (column_at columns (column_of (spec_of n b))) v none
    (subst (λ (vs : List ℤ). Contains vs v) (sym (column_is columns (column_of (spec_of n b)))) h)
