-- LOGIC: the decisions on the inputs lead to the row that their truths name.
use Rattle.std.proofs.Common.{◌≡◌, ℕ, zero, suc, ◌+◌, ◌*◌, ◌^◌, ◌<◌, ◌≤◌, Bool, true, false, Some, refl, sym, ap, ◌∙◌, arith, ℤ, pos, negsuc, List, [], ◌∷◌, length, if◌then◌else◌, inl, inr, subst}
use Rattle.std.specs.Prelude.{◌⊎◌}
use Rattle.std.proofs.lemmas.Int.{ints}
use Rattle.std.proofs.lemmas.Bool.{cases_eq, cases_lt}
use Rattle.std.proofs.lemmas.List.{get_or_past}
use Rattle.std.proofs.Math.Nat.{pow-suc}
use Rattle.sci_base.specs.Fit.{int_eq}
use Rattle.sci_base.specs.Lists.{at}
use Rattle.sci_forms.specs.declared.Kind.TheVariants.{Logic}
use Rattle.sci_forms.specs.declared.ports.Port.{Port}
use Rattle.sci_forms.specs.declared.spec.Spec.{Spec}
use Rattle.sci_forms.specs.Ports.{total, before, elements, port_at}
use Rattle.sci_forms.specs.Typed.{typed}
use Rattle.sci_forms.specs.Words.{param}
use Rattle.sci_forms.proofs.TestLemmas.{both_true, int_same}
use Rattle.sci_kinds.specs.Table.{cell_of, row_to}
use Rattle.sci_kinds.specs.declared.Cell.TheVariants.{Value}
use Rattle.sci_kinds.specs.Asks.{Asks}
use Rattle.sci_kinds.proofs.TypedLemmas.{Tests, scalar_one}
use Rattle.c_mean.specs.Meaning.{is_zero}
use Rattle.c_mean.proofs.Values.{same_ints}
use Rattle.sci_cgen_blocks.specs.Terms.{Given, input, decide, WayGives, WayFits, IsSpelled}
use Rattle.sci_cgen_blocks.specs.Recipes.{given, entry, same_entries, are_as, row, decided, way_of}
use Rattle.sci_cgen_blocks.proofs.Inputs.{fed_of, IsFed}
use Rattle.sci_cgen_blocks.proofs.KindBounds.{asks_as}

-- ---- the number of a row

-- ports of one element lie one after the other
before_scalars : (ps : List Port) → ((k : ℕ) → k < length ps → elements (port_at ps k) ≡ 1) → (k : ℕ) → k ≤ length ps → before ps k ≡ k
before_scalars ps h zero l = omega arith
before_scalars [] h (suc k) l = absurd (omega (arith, l))
before_scalars (p ∷ ps) h (suc k) l =
    let one : elements p ≡ 1 = h 0 (omega arith) in
    let rest = before_scalars ps (λ i j. h (suc i) (omega (arith, j))) k (omega (arith, l)) in
    added (elements p) (before ps k) one rest
  where
    added : (a b : ℕ) → a ≡ 1 → b ≡ k → a + b ≡ suc k
    added a b p q = omega (arith, p, q)

-- how far behind the first of the rows that are left the row stands that inputs k to k + n - 1 name
abbrev further : (ℕ → ℤ) → ℕ → ℕ → ℕ
further f k zero = 0
further f k (suc n) = (if int_eq (f k) (pos 0) then 0 else 2 ^ n) + further f (suc k) n

further_below : (f : ℕ → ℤ) (n k : ℕ) → further f k n < 2 ^ n
further_below f zero k = omega arith
further_below f (suc n) k = by_test (int_eq (f k) (pos 0)) (further_below f n (suc k))
  where
    by_test : (b : Bool) → further f (suc k) n < 2 ^ n → (if b then 0 else 2 ^ n) + further f (suc k) n < 2 ^ suc n
    by_test true h = omega (arith, h, pow-suc 2 n)
    by_test false h = omega (arith, h, pow-suc 2 n)

row_further : (f : ℕ → ℤ) (n k : ℕ) → row_to f (k + n) ≡ row_to f k * 2 ^ n + further f k n
row_further f zero k =
    let same : k + 0 ≡ k = omega arith in ap (row_to f) same ∙ omega arith
row_further f (suc n) k =
    let same : k + suc n ≡ suc k + n = omega arith in
    ap (row_to f) same ∙ row_further f n (suc k) ∙ by_test (int_eq (f k) (pos 0))
  where
    by_test : (b : Bool) → (2 * row_to f k + (if b then 0 else 1)) * 2 ^ n + further f (suc k) n
        ≡ row_to f k * 2 ^ suc n + ((if b then 0 else 2 ^ n) + further f (suc k) n)
    by_test true = let twice = ap (λ (p : ℕ). row_to f k * p) (pow-suc 2 n) in omega (arith, twice)
    by_test false = let twice = ap (λ (p : ℕ). row_to f k * p) (pow-suc 2 n) in omega (arith, twice)

-- ---- rows that are the same

same_at : (s : Spec) (q r n e : ℕ) → same_entries s q r e n ≡ true → (i : ℕ) → e ≤ i → i < e + n → entry s q i ≡ entry s r i
same_at s q r zero e h i a b = absurd (omega (arith, a, b))
same_at s q r (suc n) e h i a b =
    let p = both_true (int_eq (entry s q e) (entry s r e)) (same_entries s q r (suc e) n) h in elim (cases_eq i e) [
      | inl d ↦ subst (λ (j : ℕ). entry s q j ≡ entry s r j) (sym d) (int_same (entry s q e) (entry s r e) p.0)
      | inr d ↦ same_at s q r n (suc e) p.1 i (omega (arith, a, d)) (omega (arith, b))
    ]

as_row : (s : Spec) (q n r : ℕ) → are_as s q r n ≡ true → (j : ℕ) → r ≤ j → j < r + n → (e : ℕ) → e < length s.outs → entry s q e ≡ entry s j e
as_row s q zero r h j a b e l = absurd (omega (arith, a, b))
as_row s q (suc n) r h j a b e l =
    let p = both_true (same_entries s q r 0 (length s.outs)) (are_as s q (suc r) n) h in elim (cases_eq j r) [
      | inl d ↦ subst (λ (i : ℕ). entry s q e ≡ entry s i e) (sym d) (same_at s q r (length s.outs) 0 p.0 e (omega arith) (omega (arith, l)))
      | inr d ↦ as_row s q n (suc r) p.1 j (omega (arith, a, d)) (omega (arith, b)) e l
    ]

-- ---- what it gives

zero_test : (z : ℤ) → is_zero z ≡ int_eq z (pos 0)
zero_test (pos n) = sym (same_ints n 0)
zero_test (negsuc n) = refl

module _ (s : Spec) (g : Given) (f : ℕ → ℤ) (is : (k : ℕ) → k < length s.ins → g.input k 0 ≡ f k) (outs : total s.outs ≡ length s.outs) where
  row_gives : (r q : ℕ) → ((e : ℕ) → e < length s.outs → entry s r e ≡ entry s q e) → WayGives g (total s.outs) (λ e. Value (entry s q e)) (row s r)
  row_gives r q same = λ e l t. record { behind = t; works = refl; is = ap Some (same e (omega (arith, l, outs))) }

  -- the row that stands so far behind the first
  decided_gives : (n k r q : ℕ) → k + n ≤ length s.ins → r + further f k n ≡ q → WayGives g (total s.outs) (λ e. Value (entry s q e)) (decided s k n r)
  decided_gives zero k r q l d = let same : r ≡ q = omega (arith, d) in row_gives r q (λ e h. ap (λ (i : ℕ). entry s i e) same)
  decided_gives (suc n) k r q l d = by_alike (are_as s r r (2 ^ suc n)) refl (λ i j. decided_gives n (suc k) i q (omega (arith, l)) j)
    where
      chosen : (b : Bool) → is_zero (g.input k 0) ≡ b → r + ((if b then 0 else 2 ^ n) + further f (suc k) n) ≡ q
      chosen b h =
          let told : int_eq (f k) (pos 0) ≡ b = sym (zero_test (f k)) ∙ ap is_zero (sym (is k (omega (arith, l)))) ∙ h in
          subst (λ (c : Bool). r + ((if c then 0 else 2 ^ n) + further f (suc k) n) ≡ q) told d

      by_alike : (b : Bool) → are_as s r r (2 ^ suc n) ≡ b
          → ((i : ℕ) → i + further f (suc k) n ≡ q → WayGives g (total s.outs) (λ e. Value (entry s q e)) (decided s (suc k) n i))
          → WayGives g (total s.outs) (λ e. Value (entry s q e))
          (if b then row s r else decide (input k 0) (decided s (suc k) n (r + 2 ^ n)) (decided s (suc k) n r))
      by_alike true h go =
          let few = further_below f (suc n) k in
          row_gives r q (as_row s r (2 ^ suc n) r h q (omega (arith, d)) (omega (arith, d, few)))
      by_alike false h go = λ t. (λ z. go (r + 2 ^ n) (omega (arith, chosen false z)), λ z. go r (omega (arith, chosen true z)))

module _ (s : Spec) (x : List ℤ) (m : ℕ) (u : List ℤ) where
  pub logic_gives : Asks Logic s → Tests Logic s → WayGives (given s x m u) (total s.outs) (cell_of Logic s x m u) (way_of Logic s)
  logic_gives a ts =
      let one = λ (k : ℕ) (h : k < length s.ins). scalar_one (port_at s.ins k) (ts.in_sizes k h) in
      let is : (k : ℕ) → k < length s.ins → (given s x m u).input k 0 ≡ at u k =
      λ k h. ap (at u) (omega (arith, before_scalars s.ins one k (omega (arith, h)))) in
      let same : 0 + length s.ins ≡ length s.ins = omega arith in
      decided_gives s (given s x m u) (at u) is a.3 (length s.ins) 0 0 (row_to (at u) (length s.ins)) (omega arith)
      (omega (arith, ap (row_to (at u)) same, row_further (at u) (length s.ins) 0))

-- ---- what it reads

-- entries are 0 or 1
param_spelled : (s : Spec) → Asks Logic s → (i : ℕ) → IsSpelled (param s i)
param_spelled s a i = elim (cases_lt i (length s.params)) [
  | inl l ↦ flag_spelled (param s i) (a.5 i l)
  | inr h ↦ flag_spelled (param s i) (inl (get_or_past s.params i (pos 0) h))
]
  where
    flag_spelled : (z : ℤ) → (z ≡ pos 0) ⊎ (z ≡ pos 1) → IsSpelled z
    flag_spelled z (inl q) = (omega (arith, ints, q), omega (arith, ints, q))
    flag_spelled z (inr q) = (omega (arith, ints, q), omega (arith, ints, q))

-- so all rows are spelled
pub entry_spelled : (s : Spec) → typed s ≡ true → s.kind ≡ Logic → (r e : ℕ) → IsSpelled (entry s r e)
entry_spelled s h is r e = param_spelled s (asks_as Logic s h is) (r * length s.outs + e)

module _ (s : Spec) (a : Asks Logic s) (ts : Tests Logic s) (f : IsFed Logic s) where
  row_fits : (r d : ℕ) → WayFits (fed_of Logic s) (total s.outs) (row s r) d
  row_fits r d = λ e l. (tt, param_spelled s a (r * length s.outs + e))

  decided_fits : (n k r d : ℕ) → k + n ≤ length s.ins → n ≤ d → WayFits (fed_of Logic s) (total s.outs) (decided s k n r) d
  decided_fits zero k r d l h = row_fits r d
  decided_fits (suc n) k r zero l h = absurd (omega (arith, h))
  decided_fits (suc n) k r (suc d) l h =
      by_alike (are_as s r r (2 ^ suc n)) (λ i. decided_fits n (suc k) i d (omega (arith, l)) (omega (arith, h)))
    where
      within : k < length s.ins
      within = omega (arith, l)

      by_alike : (b : Bool) → ((i : ℕ) → WayFits (fed_of Logic s) (total s.outs) (decided s (suc k) n i) d) → WayFits (fed_of Logic s) (total s.outs)
          (if b then row s r else decide (input k 0) (decided s (suc k) n (r + 2 ^ n)) (decided s (suc k) n r)) (suc d)
      by_alike true go = row_fits r (suc d)
      by_alike false go = (((within, omega (arith, scalar_one (port_at s.ins k) (ts.in_sizes k within))), f k within refl), go (r + 2 ^ n), go r)

  pub logic_reads : WayFits (fed_of Logic s) (total s.outs) (way_of Logic s) 8
  logic_reads = decided_fits (length s.ins) 0 0 8 (omega arith) a.1
