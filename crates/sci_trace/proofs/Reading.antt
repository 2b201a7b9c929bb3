-- Reading list by list, and a stop of one step.
use Rattle.std.proofs.Common.{◌≡◌, ℕ, zero, suc, ◌-◌, ◌<◌, get_or, ℤ, List, [], ◌∷◌, ◌++◌, Bool, true, false, cond, Option, Some, None, option_map, option_and_then, Err, refl, sym, ap, arith, ◌∙◌, ◌≤◌, length}
use Rattle.std.specs.Prelude.{nat_lt, slice_get, unwrap_or}
use Rattle.std.specs.declared.vec.Vec.{Vec}
use Rattle.std.specs.declared.alloc.Global.{Global}
use Rattle.std.proofs.lemmas.Bool.{cond-false, le-ltb, ltb-true}
use Rattle.std.specs.Str.{IsUtf8, is_utf8}
use Rattle.std.proofs.lemmas.Str.{IsUtf8-from_is_utf8, is_utf8-from_IsUtf8}
use Rattle.serde_json.specs.Data.{Data}
use Rattle.serde_json.specs.Read.{read}
use Rattle.serde_json.specs.View.{items_view}
use Rattle.serde_json.specs.declared.value.Value.{Value}
use Rattle.sci_base.specs.declared.refusal.Rule.TheVariants.{InputShape}
use Rattle.sci_base.specs.declared.refusal.Refusal.{Refusal}
use Rattle.sci_base.specs.Plain.{Violation, violation_of, of_the_whole}
use Rattle.sci_trace.specs.Columns.{Needed, columns_view, column_at}
use Rattle.sci_base.specs.Outcome.{◌>>=◌}
use Rattle.sci_base.specs.declared.stop.Stop.{Stop}
use Rattle.sci_base.specs.declared.stop.Stop.TheVariants.{Refused, Memory}
use Rattle.sci_trace.specs.Reading.{whole_lists, columns_of, columns_in, shaped, greatest, first_outside, unless, judge_columns, IsAnswer}
use Rattle.sci_base.specs.Stops.{IsViolation, Stops, IsFound}

-- the lists read so far, and those of the rest
abbrev pub with_rest : List (List ℤ) → List Value → Option (List (List ℤ))
with_rest cs vs = option_map (λ rest. cs ++ rest) (whole_lists (items_view vs))

-- what is no list of lists of whole numbers
pub shape_refused : {A : Type 0} (o : Option A) (r : Refusal) → o ≡ None → violation_of r ≡ of_the_whole InputShape → shaped o ≡ Err (violation_of r)
shape_refused o r none h = ap shaped none ∙ ap Err (sym h)

-- the one violation that is found
pub found : (v : Violation) (e : Stop) → IsViolation v e → IsFound (Some v) e
found v (Refused r) h = ap Some (sym h)
found v Memory h = tt

-- what the columns break
pub stops_columns : (needs : List Needed) (columns : List (List ℤ)) (o : Option Violation) (e : Stop) → first_outside needs columns ≡ o → greatest needs ≤ length columns → IsFound o e → Stops (judge_columns needs columns) e
stops_columns needs columns o (Refused r) is enough h =
    cond-false (nat_lt (length columns) (greatest needs)) _ _ (le-ltb _ _ enough) ∙ ap (λ o. unless o columns) (is ∙ h)
stops_columns needs columns o Memory is enough h = tt

found_at : (cs : List (Vec ℤ Global)) (i : ℕ) (v : Vec ℤ Global) → i < length cs → v ≡ get_or cs i v → v.items ≡ unwrap_or (slice_get (columns_view cs) i) []
found_at [] i v h e = absurd (omega arith)
found_at (c ∷ cs) zero v h e = ap (λ (v : Vec ℤ Global). v.items) e
found_at (c ∷ cs) (suc i) v h e = let less : i < length cs = omega arith in found_at cs i v less e

-- a column that is there
pub column_found : (cs : List (Vec ℤ Global)) (k : ℕ) (v : Vec ℤ Global) → (k ≡ 0 → ⊥) → true ≡ nat_lt (k - 1) (length cs) → v ≡ get_or cs (k - 1) v → v.items ≡ column_at (columns_view cs) k
column_found cs zero v h l e = absurd (h refl)
column_found cs (suc i) v h l e =
    let same : suc i - 1 ≡ i = omega arith in
    let less : nat_lt i (length cs) ≡ true = sym (rw same at l) in
    found_at cs i v (ltb-true _ _ less) (rw same at e)

-- what the bytes are where they are read, and where they aren't
pub columns_read : (bs : List ℕ) (d : Data) → IsUtf8 bs → read bs ≡ Some d → columns_in bs ≡ columns_of d
columns_read bs d u e = rw (is_utf8-from_IsUtf8 bs u) (ap (option_and_then columns_of) e)

refused : (bs : List ℕ) (b : Bool) → is_utf8 bs ≡ b → (IsUtf8 bs → read bs ≡ None) → cond b (option_and_then columns_of (read bs)) None ≡ None
refused bs true e h = ap (option_and_then columns_of) (h (IsUtf8-from_is_utf8 bs e))
refused bs false e h = refl

pub columns_refused : (bs : List ℕ) → (IsUtf8 bs → read bs ≡ None) → columns_in bs ≡ None
columns_refused bs h = refused bs (is_utf8 bs) refl h

-- the answer to bytes that are no list of lists of whole numbers
pub answer_none : (needs : List Needed) (o : Option (List (List ℤ))) (r : Refusal) → o ≡ None → violation_of r ≡ of_the_whole InputShape → IsAnswer (shaped o >>= judge_columns needs) (Err (Refused r))
answer_none needs o r none h = ap (λ o. shaped o >>= judge_columns needs) none ∙ ap Err (sym h)
