-- Lists of the values of all inputs.
use Rattle.std.proofs.Common.{◌≡◌, ℕ, zero, suc, ◌+◌, ◌-◌, ◌<◌, ◌≤◌, ℤ, pos, List, [], ◌∷◌, length, Bool, true, false, refl, ap, sym, ◌∙◌, arith, inl, inr, ◌⊎◌}
use Rattle.std.proofs.Math.Numerals.{add-one}
use Rattle.std.proofs.Math.ListN.{get_or-append}
use Rattle.std.proofs.lemmas.List.{length-append, get_or-append_right, ext_get_or}
use Rattle.std.proofs.lemmas.Bool.{cases_lt, cases_Bool}
use Rattle.sci_base.specs.Lists.{at, listed}
use Rattle.sci_forms.specs.declared.ports.Port.{Port}
use Rattle.sci_forms.specs.Ports.{elements, total, before}
use Rattle.sci_kinds.specs.Asks.{laid}
use Rattle.sci_kinds.proofs.Elements.{listed_at}

-- each number passes, or one doesn't
pub all_or_one : (f : ℕ → Bool) (n : ℕ) → ((k : ℕ) → k < n → f k ≡ true) ⊎ ((k : ℕ) × (k < n) × (f k ≡ false))
all_or_one f zero = inl (λ k l. absurd (omega (arith, l)))
all_or_one f (suc n) = elim (all_or_one f n) [
  | inr one ↦ inr (one.0, omega (arith, one.1), one.2)
  | inl all ↦ elim (cases_Bool (f n)) [
    | inr off ↦ inr (n, omega arith, off)
    | inl on ↦ inl (λ k l. elim (cases_lt k n) [ inl q ↦ all k q | inr q ↦ let e : k ≡ n = omega (arith, l, q) in rw e on ])
  ]
]

-- each element is one of an input
port_of : (ps : List Port) (e : ℕ) → e < total ps → (k : ℕ) × (k < length ps) × (before ps k ≤ e) × (e < before ps (suc k))
port_of [] e h = absurd (omega (arith, h))
port_of (p ∷ ps) e h = elim (cases_lt e (elements p)) [
  | inl q ↦ (0, omega arith, omega arith, omega (arith, q))
  | inr q ↦
      let r = port_of ps (e - elements p) (omega (arith, h, q)) in
      (suc r.0, omega (arith, r.1), omega (arith, r.2, q), omega (arith, r.3, q))
]

-- the same at each element of each input
pub same_fed : (ps : List Port) (u v : List ℤ) → length u ≡ total ps → length v ≡ total ps
    → ((k e : ℕ) → k < length ps → before ps k ≤ e → e < before ps (k + 1) → at u e ≡ at v e) → u ≡ v
same_fed ps u v lu lv same = ext_get_or (pos 0) u v (lu ∙ sym lv) (λ e l.
    let r = port_of ps e (omega (arith, l, lu)) in same r.0 e r.1 r.2 (rw add-one r.3))

pub length_laid : (ps : List Port) (xs : ℕ → List ℤ) → length (laid ps xs) ≡ total ps
length_laid [] xs = refl
length_laid (p ∷ ps) xs =
    let g = (listed_at (at (xs 1)) (elements p)).0 in let rest = length_laid ps (λ k. xs (suc k)) in simp length-append (omega (arith, g, rest))

-- what is laid of an input is the same where its values are
pub laid_same : (ps : List Port) (xs ys : ℕ → List ℤ) (k e : ℕ) → before ps k ≤ e → e < before ps (suc k) → xs (suc k) ≡ ys (suc k) → at (laid ps xs) e ≡ at (laid ps ys) e
laid_same [] xs ys k e from to h = refl
laid_same (p ∷ ps) xs ys zero e from to h =
    let lx = (listed_at (at (xs 1)) (elements p)).0 in let ly = (listed_at (at (ys 1)) (elements p)).0 in
    get_or-append (listed (at (xs 1)) (elements p)) (laid ps (λ k. xs (suc k))) (pos 0) e (omega (arith, to, lx))
    ∙ (ap (λ vs. at (listed (at vs) (elements p)) e) h
    ∙ sym (get_or-append (listed (at (ys 1)) (elements p)) (laid ps (λ k. ys (suc k))) (pos 0) e (omega (arith, to, ly))))
laid_same (p ∷ ps) xs ys (suc k) e from to h =
    let lx = (listed_at (at (xs 1)) (elements p)).0 in let ly = (listed_at (at (ys 1)) (elements p)).0 in
    get_or-append_right (listed (at (xs 1)) (elements p)) (laid ps (λ k. xs (suc k))) (elements p) e (pos 0) lx (omega (arith, from))
    ∙ (laid_same ps (λ k. xs (suc k)) (λ k. ys (suc k)) k (e - elements p) (omega (arith, from)) (omega (arith, from, to)) h
    ∙ sym (get_or-append_right (listed (at (ys 1)) (elements p)) (laid ps (λ k. ys (suc k))) (elements p) e (pos 0) ly (omega (arith, from))))

-- all inputs together
pub before_all : (ps : List Port) (n : ℕ) → length ps ≡ n → before ps n ≡ total ps
before_all [] zero h = refl
before_all [] (suc n) h = refl
before_all (p ∷ ps) zero h = absurd (omega (arith, h))
before_all (p ∷ ps) (suc n) h = ap (λ k. elements p + k) (before_all ps n (omega (arith, h)))
