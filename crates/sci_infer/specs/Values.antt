-- What the declared numbers of a class say. A number above 0 is declared, and any other is unknown.
use Rattle.std.specs.Prelude.{◌≡◌, ◌≢◌, ℕ, ℤ, pos, ◌<◌, ◌<ℤ◌, ◌≤ℤ◌, List, length, Option, Some, None, slice_index, slice_index_or}
use Rattle.std.specs.Int.{int_min, int_max}
use Rattle.sci_infer.specs.Classes.{Tied}
use Rattle.sci_infer.specs.declared.values.Extremes.{Extremes}
use Rattle.sci_infer.specs.declared.values.Resolution.{Resolution}
use Rattle.sci_infer.specs.declared.values.Resolution.TheVariants.{Conflict, Open, Values}

abbrev pub declared_at : List ℤ → ℕ → ℤ
declared_at ds i = slice_index_or ds i (pos 0)

-- the class of i has v among its declared numbers
pub record Has (joins : ℕ → ℕ → Type 0) (ds : List ℤ) (i : ℕ) (v : ℤ) : Type 0 where
  pub at : ℕ
  pub within : at < length ds
  pub tied : Tied joins i at
  pub declares : declared_at ds at ≡ v
  pub positive : pos 0 <ℤ v

-- all declared numbers of the class of i are one
abbrev pub IsAgreed : (ℕ → ℕ → Type 0) → List ℤ → ℕ → Type 0
IsAgreed joins ds i = (v w : ℤ) → Has joins ds i v → Has joins ds i w → v ≡ w

-- the least and the greatest declared number of the class of i, which differ
pub record IsSplit (joins : ℕ → ℕ → Type 0) (ds : List ℤ) (i : ℕ) (span : Extremes) : Type 0 where
  pub least : Has joins ds i span.least
  pub greatest : Has joins ds i span.greatest
  pub above : (v : ℤ) → Has joins ds i v → span.least ≤ℤ v
  pub below : (v : ℤ) → Has joins ds i v → v ≤ℤ span.greatest
  pub differ : span.least ≢ span.greatest

abbrev pub AreAgreed : (ℕ → ℕ → Type 0) → List ℤ → ℕ → Type 0
AreAgreed joins ds k = (i : ℕ) → i < k → IsAgreed joins ds i

-- for each number, either its class has no declared number, or v is one
abbrev pub IsKnown : (ℕ → ℕ → Type 0) → List ℤ → ℕ → Option ℤ → Type 0
IsKnown joins ds i None = (v : ℤ) → Has joins ds i v → ⊥
IsKnown joins ds i (Some v) = Has joins ds i v

abbrev pub AreKnown : (ℕ → ℕ → Type 0) → List ℤ → (ℕ → Option ℤ) → Type 0
AreKnown joins ds known = (i : ℕ) → i < length ds → IsKnown joins ds i (known i)

abbrev pub IsVerdict : (ℕ → ℕ → Type 0) → List ℤ → Resolution → Type 0
IsVerdict joins ds (Conflict at span) = (at < length ds) × IsSplit joins ds at span × AreAgreed joins ds at
IsVerdict joins ds (Open at) =
    (at < length ds) × ((v : ℤ) → Has joins ds at v → ⊥) × AreAgreed joins ds (length ds) × ((i : ℕ) → i < at → (v : ℤ) × Has joins ds i v)
    × ((known : ℕ → Option ℤ) × AreKnown joins ds known)
IsVerdict joins ds (Values vs) =
    (length vs.items ≡ length ds) × AreAgreed joins ds (length ds) × ((i : ℕ) → i < length ds → Has joins ds i (declared_at vs.items i))

-- one of the first k numbers has the label and declares v
pub record IsLabelled (ds : List ℤ) (labels : List ℕ) (k label : ℕ) (v : ℤ) : Type 0 where
  pub at : ℕ
  pub within : at < k
  pub is : slice_index labels at ≡ label
  pub declares : declared_at ds at ≡ v
  pub positive : pos 0 <ℤ v

pub record IsSpan (ds : List ℤ) (labels : List ℕ) (k label : ℕ) (span : Extremes) : Type 0 where
  pub least : IsLabelled ds labels k label span.least
  pub greatest : IsLabelled ds labels k label span.greatest
  pub above : (v : ℤ) → IsLabelled ds labels k label v → span.least ≤ℤ v
  pub below : (v : ℤ) → IsLabelled ds labels k label v → v ≤ℤ span.greatest

abbrev pub IsSpanOf : List ℤ → List ℕ → ℕ → ℕ → Option Extremes → Type 0
IsSpanOf ds labels k label None = (v : ℤ) → IsLabelled ds labels k label v → ⊥
IsSpanOf ds labels k label (Some span) = IsSpan ds labels k label span

abbrev pub AreSpans : List ℤ → List ℕ → ℕ → List (Option Extremes) → Type 0
AreSpans ds labels k spans = (r : ℕ) → r < length labels → IsSpanOf ds labels k r (slice_index_or spans r None)

abbrev pub widened : Option Extremes → ℤ → Extremes
widened None v = record { least = v; greatest = v }
widened (Some s) v = record { least = int_min s.least v; greatest = int_max s.greatest v }

abbrev pub span_at : List ℕ → List (Option Extremes) → ℕ → Option Extremes
span_at labels spans i = slice_index_or spans (slice_index labels i) None

abbrev pub IsOne : Option Extremes → Type 0
IsOne None = Unit {0}
IsOne (Some s) = s.least ≡ s.greatest

-- the labels of the first k things have at most one declared number
abbrev pub AreOne : List ℕ → List (Option Extremes) → ℕ → Type 0
AreOne labels spans k = (i : ℕ) → i < k → IsOne (span_at labels spans i)

pub record IsSplitAt (labels : List ℕ) (spans : List (Option Extremes)) (i : ℕ) (s : Extremes) : Type 0 where
  pub within : i < length labels
  pub is : span_at labels spans i ≡ Some s
  pub differ : s.least ≢ s.greatest
  pub before : AreOne labels spans i

abbrev pub IsLeast : List ℕ → List (Option Extremes) → List ℤ → ℕ → Type 0
IsLeast labels spans vs i = (s : Extremes) × (span_at labels spans i ≡ Some s) × (declared_at vs i ≡ s.least)

abbrev pub IsFilled : List ℕ → List (Option Extremes) → Resolution → Type 0
IsFilled labels spans (Conflict at span) = ⊥
IsFilled labels spans (Open at) = (at < length labels) × (span_at labels spans at ≡ None) × ((i : ℕ) → i < at → (s : Extremes) × (span_at labels spans i ≡ Some s))
IsFilled labels spans (Values vs) = (length vs.items ≡ length labels) × ((i : ℕ) → i < length labels → IsLeast labels spans vs.items i)
