-- The columns of a net are those of its sensors.
use Rattle.std.proofs.Common.{◌≡◌, ℕ, zero, suc, ◌+◌, ◌<◌, ◌≤◌, Bool, true, false, cond, List, [], ◌∷◌, length, get_or, map, take, All, refl, sym, ◌∙◌, ap, subst, arith, inl, inr}
use Rattle.std.specs.Prelude.{Contains}
use Rattle.std.proofs.lemmas.List.{get_or-map, get_or_default, length-map, take_all}
use Rattle.std.proofs.lemmas.List.Elements.{All-append, Contains-append_left, Contains-append_right, Contains-append_cases}
use Rattle.sci_forms.specs.declared.spec.Spec.{Spec}
use Rattle.sci_forms.specs.Words.{out_type}
use Rattle.sci_net.specs.declared.net.Column.{Column}
use Rattle.sci_net.specs.Parts.{Parts, IsBlock, IsSensor, column_of, spec_of, no_spec}
use Rattle.sci_forms.specs.Form.{is_sensor}
use Rattle.sci_net.specs.Sources.{sensor_columns, columns_from, columns_of}
use Rattle.sci_trace.specs.Columns.{Needed}
use Rattle.sci_needs.specs.Needs.{need_of, needs_of, need_at, AreOfSensors}

-- the column of a sensor
abbrev pub col : ℕ → Spec → Column
col b s = record { number = column_of s; ty = out_type s; block = b }

-- ---- the blocks of the columns

one_holds : (y : Bool) (P : Column → Type 0) (c : Column) → P c → All P (cond y (c ∷ []) [])
one_holds true P c h zero d l = h
one_holds true P c h (suc k) d l = absurd (omega (arith, l))
one_holds false P c h k d l = absurd (omega (arith, l))

pub columns_within : (b : ℕ) (ss : List Spec) → All (λ (c : Column). (b ≤ c.block) × (c.block < b + length ss)) (columns_from b ss)
columns_within b [] = λ k d l. absurd (omega (arith, l))
columns_within b (s ∷ ss) =
    All-append (λ (c : Column). (b ≤ c.block) × (c.block < b + length (s ∷ ss))) (sensor_columns b s) (columns_from (b + 1) ss)
    (one_holds (is_sensor s.kind) (λ (c : Column). (b ≤ c.block) × (c.block < b + length (s ∷ ss))) (col b s) (omega arith, omega arith))
    (λ k d l. let h = columns_within (b + 1) ss k d l in (omega (arith, h.0), omega (arith, h.1)))

-- of the columns of a net each is of a block
pub column_block : (n : Parts) (cs : List Column) (k : ℕ) (d : Column) → cs ≡ columns_of n → k < length cs → IsBlock n (get_or cs k d).block
column_block n cs k d e l = rw e (
    let within : k < length (columns_of n) = subst (λ (xs : List Column). k < length xs) e l in
    let h = columns_within 1 n.specs k d within in
    record { least = omega (arith, h.0); most = omega (arith, h.1) }
    )

-- ---- each sensor has its column

one_there : (y : Bool) (c : Column) → y ≡ true → Contains (cond y (c ∷ []) []) c
one_there true c e = (0, omega arith, refl)
one_there false c e = cc

pub has_column : (b : ℕ) (ss : List Spec) (i : ℕ) → i < length ss → is_sensor (get_or ss i no_spec).kind ≡ true → Contains (columns_from b ss) (col (b + i) (get_or ss i no_spec))
has_column b [] i l e = absurd (omega (arith, l))
has_column b (s ∷ ss) zero l e =
    let here : b + 0 ≡ b = omega arith in
    Contains-append_left _ _ _ (subst (λ (m : ℕ). Contains (sensor_columns b s) (col m s)) (sym here) (one_there (is_sensor s.kind) (col b s) e))
has_column b (s ∷ ss) (suc i) l e =
    let next : (b + 1) + i ≡ b + suc i = omega arith in
    Contains-append_right _ _ _ (subst (λ (m : ℕ). Contains (columns_from (b + 1) ss) (col m (get_or ss i no_spec))) next (has_column (b + 1) ss i (omega (arith, l)) e))

-- ---- and each column is a sensor's

pub record IsColumn (b : ℕ) (ss : List Spec) (c : Column) : Type 0 where
  pub at : ℕ
  pub within : at < length ss
  pub sensor : is_sensor (get_or ss at no_spec).kind ≡ true
  pub same : c ≡ col (b + at) (get_or ss at no_spec)

one_only : (y : Bool) (c d : Column) → Contains (cond y (c ∷ []) []) d → (y ≡ true) × (d ≡ c)
one_only true c d (zero, l, e) = (refl, sym e)
one_only true c d (suc k, l, e) = absurd (omega (arith, l))
one_only false c d (k, l, e) = absurd (omega (arith, l))

column_here : (b : ℕ) (s : Spec) (ss : List Spec) (c : Column) → Contains (sensor_columns b s) c → IsColumn b (s ∷ ss) c
column_here b s ss c p =
    let q = one_only (is_sensor s.kind) (col b s) c p in
    let here : b ≡ b + 0 = omega arith in
    record { at = 0; within = omega arith; sensor = q.0; same = q.1 ∙ ap (λ m. col m s) here }

column_later : (b : ℕ) (s : Spec) (ss : List Spec) (c : Column) → IsColumn (b + 1) ss c → IsColumn b (s ∷ ss) c
column_later b s ss c r =
    let next : (b + 1) + r.at ≡ b + suc r.at = omega arith in
    let inside = r.within in
    record { at = suc r.at; within = omega (arith, inside); sensor = r.sensor; same = r.same ∙ ap (λ m. col m (get_or ss r.at no_spec)) next }

pub is_column : (b : ℕ) (ss : List Spec) (c : Column) → Contains (columns_from b ss) c → IsColumn b ss c
is_column b [] c (k, l, e) = absurd (omega (arith, l))
is_column b (s ∷ ss) c h = elim (Contains-append_cases (sensor_columns b s) (columns_from (b + 1) ss) c h) [
  | inl p ↦ column_here b s ss c p
  | inr p ↦ column_later b s ss c (is_column (b + 1) ss c p)
]

-- ---- needs

contains-map : {X Y : Type 0} (f : X → Y) (xs : List X) (x : X) → Contains xs x → Contains (map f xs) (f x)
contains-map f xs x (k, l, e) = (k, omega (arith, l, length-map xs f), get_or-map f xs k x (f x) l ∙ ap f e)

pub needs_exact : (n : Parts) → AreOfSensors n (needs_of n)
needs_exact n = record { each = each; only = only }
  where
    each : (b : ℕ) → IsSensor n b → Contains (needs_of n) (need_at n b)
    each zero s = absurd (omega (arith, s.block.least))
    each (suc i) s =
        let one : 1 + i ≡ suc i = omega arith in
        contains-map (need_of n) (columns_of n) (col (suc i) (spec_of n (suc i)))
        (subst (λ (m : ℕ). Contains (columns_of n) (col m (spec_of n (suc i)))) one (has_column 1 n.specs i (omega (arith, s.block.most)) s.sensor))

    only : (d : Needed) → Contains (needs_of n) d → (b : ℕ) × IsSensor n b × (d ≡ need_at n b)
    only d (k, l, e) =
        let f : Column → Needed = need_of n in
        let inside : k < length (columns_of n) = omega (arith, l, length-map (columns_of n) f) in
        let c : Column = get_or (columns_of n) k (col 0 no_spec) in
        let r : IsColumn 1 n.specs c = is_column 1 n.specs c (k, inside, get_or_default (columns_of n) k c (col 0 no_spec) inside) in
        let one : 1 + r.at ≡ suc r.at = omega arith in (
          suc r.at,
          record { block = record { least = omega arith; most = omega (arith, r.within) }; sensor = r.sensor },
          sym e ∙ get_or-map f (columns_of n) k (col 0 no_spec) d inside ∙ ap f r.same ∙ ap (λ m. f (col m (get_or n.specs r.at no_spec))) one,
        )

pub all_needs : (n : Parts) (cs : List Column) (needs : List Needed) (i : ℕ) → cs ≡ columns_of n → length cs ≤ i → needs ≡ map (need_of n) (take i cs) → AreOfSensors n needs
all_needs n cs needs i e l h =
    let same : needs ≡ needs_of n = h ∙ ap (map (need_of n)) (take_all i cs l ∙ e) in
    subst (AreOfSensors n) (sym same) (needs_exact n)
