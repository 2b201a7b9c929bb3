-- The numbers of a line are read as they are spelled.
use Rattle.std.proofs.Common.{◌≡◌, ℕ, zero, suc, ◌^◌, ◌<◌, ℤ, pos, negsuc, ◌≤ℤ◌, List, [], ◌∷◌, ◌++◌, length, Some, None, true, false, refl, sym, ap, ◌∙◌, subst, arith, append_assoc, ⊎_elim}
use Rattle.std.specs.Prelude.{nat_eq, codes, decimal, unsigned_abs, int_le}
use Rattle.std.specs.Fmt.{signed_decimal}
use Rattle.std.specs.Char.{is_ascii_digit}
use Rattle.std.specs.Str.{all_ascii_digits}
use Rattle.std.proofs.lemmas.Int.{ints}
use Rattle.std.proofs.lemmas.Bool.{and_parts, ne_eqb, cond-false}
use Rattle.std.proofs.lemmas.Fmt.{digits_decimal, decimal_nonempty}
use Rattle.sci_base.proofs.FitLemmas.{int_le_yes}
use Rattle.sci_forms.proofs.TestLemmas.{both_true, int_le_told}
use Rattle.sci_text.specs.Reading.{◌>>=◌, after}
use Rattle.sci_text.specs.Numbers.{number_at}
use Rattle.sci_text.proofs.Parts.{bind_some, else_cases, guarded, after_takes, after_again}
use Rattle.sci_text.proofs.Numbers.{own, no_digit, number_again, number_takes}
use Rattle.sci_trace.specs.Lines.{numbers}
use Rattle.sci_save.specs.declared.bounds.Bounds.{Bounds}
use Rattle.sci_save.specs.Bounds.{is_within, IsWithin, AreWithin}
use Rattle.sci_save.specs.Numbers.{below_zero, signed_at, where_within, next_number, numbers_at, behind}

-- ---- a number with its sign

below_zero_is : (m : ℕ) (rest : List ℕ) (x : ℤ × List ℕ) → below_zero m rest ≡ Some x → signed_decimal x.0 ++ x.1 ≡ codes "-" ++ (decimal m ++ rest)
below_zero_is zero rest x e = absurd cc
below_zero_is (suc n) rest x e = let p : (negsuc n, rest) ≡ x = cc in ap (λ (q : ℤ × List ℕ). signed_decimal q.0 ++ q.1) (sym p)

pub signed_takes : (bytes : List ℕ) (x : ℤ × List ℕ) → signed_at bytes ≡ Some x → bytes ≡ signed_decimal x.0 ++ x.1
unfolding signed_at
signed_takes bytes x e =
    ⊎_elim
    (λ a.
    let b = bind_some (number_at (2 ^ 63) a.0) (λ (y : ℕ × List ℕ). below_zero y.0 y.1) x a.2 in
    let t = number_takes (2 ^ 63) a.0 b.0 (omega arith) b.1 in
    after_takes (codes "-") bytes a.0 a.1 ∙ (ap (λ (l : List ℕ). codes "-" ++ l) t.0 ∙ sym (below_zero_is b.0.0 b.0.1 x b.2)))
    (λ a.
    let b = bind_some (number_at (2 ^ 63) bytes) (λ (y : ℕ × List ℕ). Some (pos y.0, y.1)) x a.1 in
    let t = number_takes (2 ^ 63) bytes b.0 (omega arith) b.1 in
    let p : (pos b.0.0, b.0.1) ≡ x = let h = b.2 in cc in
    t.0 ∙ ap (λ (q : ℤ × List ℕ). signed_decimal q.0 ++ q.1) p)
    (else_cases (after (codes "-") bytes) (λ (rest : List ℕ). number_at (2 ^ 63) rest >>= λ y. below_zero y.0 y.1) (number_at (2 ^ 63) bytes >>= λ y. Some (pos y.0, y.1)) (Some x) e)

not_minus : (c : ℕ) → is_ascii_digit c ≡ true → nat_eq c 45 ≡ false
not_minus c e = ne_eqb c 45 (λ h. let k : is_ascii_digit 45 ≡ true = sym (ap is_ascii_digit h) ∙ e in absurd (wrong k))
  where
    wrong : is_ascii_digit 45 ≡ true → ⊥
    wrong k = cc

no_minus : (ds rest : List ℕ) → 0 < length ds → all_ascii_digits ds ≡ true → after (codes "-") (ds ++ rest) ≡ None
no_minus [] rest h e = absurd (omega arith)
no_minus (c ∷ cs) rest h e = let p = and_parts (is_ascii_digit c) (all_ascii_digits cs) e in cond-false (nat_eq c 45) _ _ (not_minus c p.0)

pub signed_again : (z : ℤ) (rest : List ℕ) → unsigned_abs z < 2 ^ 63 → no_digit rest ≡ true → signed_at (signed_decimal z ++ rest) ≡ Some (z, rest)
unfolding signed_at
signed_again (pos n) rest h e =
    let small : n < 2 ^ 64 = omega arith in
    rw (no_minus (decimal n) rest (decimal_nonempty n small) (digits_decimal own n small), number_again (2 ^ 63) n rest h (omega arith) e) refl
signed_again (negsuc n) rest h e = rw (number_again (2 ^ 63) (suc n) rest h (omega arith) e) refl

-- ---- numbers within bounds

-- a bound that a signed number of 64 bits and its opposite are
pub record IsSmall (r : Bounds) : Type 0 where
  pub low : unsigned_abs r.low < 2 ^ 63
  pub high : unsigned_abs r.high < 2 ^ 63

abbrev pub AreSmall : List Bounds → Type 0
AreSmall [] = Unit {0}
AreSmall (r ∷ rs) = IsSmall r × AreSmall rs

small_between : (l z h : ℤ) → l ≤ℤ z → z ≤ℤ h → unsigned_abs l < 2 ^ 63 → unsigned_abs h < 2 ^ 63 → unsigned_abs z < 2 ^ 63
small_between l (pos n) (pos m) a b x y = omega (arith, ints)
small_between l (pos n) (negsuc m) a b x y = absurd (omega (arith, ints))
small_between (pos k) (negsuc n) h a b x y = absurd (omega (arith, ints))
small_between (negsuc k) (negsuc n) h a b x y = omega (arith, ints)

pub within_small : (r : Bounds) (z : ℤ) → IsSmall r → IsWithin r z → unsigned_abs z < 2 ^ 63
within_small r z s w = small_between r.low z r.high w.above w.below s.low s.high

within_told : (r : Bounds) (z : ℤ) → is_within r z ≡ true → IsWithin r z
within_told r z h = let p = both_true (int_le r.low z) (int_le z r.high) h in record { above = int_le_told r.low z p.0; below = int_le_told z r.high p.1 }

within_yes : (r : Bounds) (z : ℤ) → IsWithin r z → is_within r z ≡ true
within_yes r z w = rw (int_le_yes r.low z w.above, int_le_yes z r.high w.below) refl

pub next_takes : (r : Bounds) (bytes : List ℕ) (x : ℤ × List ℕ) → next_number r bytes ≡ Some x → (bytes ≡ codes " " ++ (signed_decimal x.0 ++ x.1)) × IsWithin r x.0
unfolding next_number
next_takes r bytes x e =
    let a = bind_some (after (codes " ") bytes) (λ (rest : List ℕ). signed_at rest >>= λ y. where_within r y) x e in
    let b = bind_some (signed_at a.0) (λ (y : ℤ × List ℕ). where_within r y) x a.2 in
    let g = guarded (is_within r b.0.0) (Some b.0) x b.2 in
    let p : b.0 ≡ x = let h = g.1 in cc in
    let taken = after_takes (codes " ") bytes a.0 a.1 ∙ ap (λ (l : List ℕ). codes " " ++ l) (signed_takes a.0 b.0 b.1) in
    (taken ∙ ap (λ (q : ℤ × List ℕ). codes " " ++ (signed_decimal q.0 ++ q.1)) p, subst (λ (q : ℤ × List ℕ). IsWithin r q.0) p (within_told r b.0.0 g.0))

pub next_again : (r : Bounds) (z : ℤ) (rest : List ℕ) → IsSmall r → IsWithin r z → no_digit rest ≡ true → next_number r (codes " " ++ (signed_decimal z ++ rest)) ≡ Some (z, rest)
unfolding next_number
next_again r z rest s w e = rw (signed_again z rest (within_small r z s w) e, within_yes r z w) refl

-- no digit stands in front of what follows a number
numbers_end : (zs : List ℤ) (rest : List ℕ) → no_digit (numbers zs ++ rest) ≡ true
numbers_end [] rest = refl
numbers_end (z ∷ zs) rest = refl

pub numbers_take : (rs : List Bounds) (bytes : List ℕ) (x : List ℤ × List ℕ) → numbers_at rs bytes ≡ Some x → (bytes ≡ numbers x.0 ++ x.1) × AreWithin rs x.0
unfolding numbers_at
numbers_take [] bytes x e =
    let a = bind_some (after (codes "\n") bytes) (λ (rest : List ℕ). Some ([], rest)) x e in
    let made : List ℤ × List ℕ = ([], a.0) in
    let p : made ≡ x = let h = a.2 in cc in
    subst (λ (q : List ℤ × List ℕ). (bytes ≡ numbers q.0 ++ q.1) × AreWithin [] q.0) p (after_takes (codes "\n") bytes a.0 a.1, tt)
numbers_take (r ∷ rs) bytes x e =
    let a = bind_some (next_number r bytes) (λ (y : ℤ × List ℕ). numbers_at rs y.1 >>= λ ys. Some (y.0 ∷ ys.0, ys.1)) x e in
    let b = bind_some (numbers_at rs a.0.1) (λ (ys : List ℤ × List ℕ). Some (a.0.0 ∷ ys.0, ys.1)) x a.2 in
    let made : List ℤ × List ℕ = (a.0.0 ∷ b.0.0, b.0.1) in
    let p : made ≡ x = let h = b.2 in cc in
    let first = next_takes r bytes a.0 a.1 in
    let others = numbers_take rs a.0.1 b.0 b.1 in
    let split : bytes ≡ numbers (a.0.0 ∷ b.0.0) ++ b.0.1 =
    first.0 ∙ ap (λ (l : List ℕ). codes " " ++ (signed_decimal a.0.0 ++ l)) others.0
    ∙ ap (λ (l : List ℕ). codes " " ++ l) (sym (append_assoc (signed_decimal a.0.0) (numbers b.0.0) b.0.1)) in
    subst (λ (q : List ℤ × List ℕ). (bytes ≡ numbers q.0 ++ q.1) × AreWithin (r ∷ rs) q.0) p (split, (first.1, others.1))

pub numbers_again : (rs : List Bounds) (zs : List ℤ) (rest : List ℕ) → AreSmall rs → AreWithin rs zs → numbers_at rs (numbers zs ++ rest) ≡ Some (zs, rest)
unfolding numbers_at
numbers_again [] [] rest s w = refl
numbers_again [] (z ∷ zs) rest s w = absurd w
numbers_again (r ∷ rs) [] rest s w = absurd w
numbers_again (r ∷ rs) (z ∷ zs) rest s w =
    let regrouped : numbers (z ∷ zs) ++ rest ≡ codes " " ++ (signed_decimal z ++ (numbers zs ++ rest)) =
    ap (λ (l : List ℕ). codes " " ++ l) (append_assoc (signed_decimal z) (numbers zs) rest) in
    ap (numbers_at (r ∷ rs)) regrouped ∙ rw (next_again r z (numbers zs ++ rest) s.0 w.0 (numbers_end zs rest), numbers_again rs zs rest s.1 w.1) refl

pub behind_takes : (start : List ℕ) (rs : List Bounds) (bytes : List ℕ) (x : List ℤ × List ℕ) → behind start rs bytes ≡ Some x → (bytes ≡ start ++ (numbers x.0 ++ x.1)) × AreWithin rs x.0
behind_takes start rs bytes x e =
    let a = bind_some (after start bytes) (λ (rest : List ℕ). numbers_at rs rest) x e in
    let t = numbers_take rs a.0 x a.2 in
    (after_takes start bytes a.0 a.1 ∙ ap (λ (l : List ℕ). start ++ l) t.0, t.1)

pub behind_again : (start : List ℕ) (rs : List Bounds) (zs : List ℤ) (rest : List ℕ) → AreSmall rs → AreWithin rs zs → behind start rs (start ++ (numbers zs ++ rest)) ≡ Some (zs, rest)
behind_again start rs zs rest s w = rw (after_again start (numbers zs ++ rest)) (numbers_again rs zs rest s w)
