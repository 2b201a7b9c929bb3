-- The hull of a list of numbers, number by number.
use Rattle.std.proofs.Common.{◌≡◌, ℕ, ◌+◌, ◌<◌, ℤ, List, [], ◌∷◌, ◌++◌, length, take, get_or, Option, Some, None, refl, sym, arith, subst, Bool, true, false, inl, inr, cond}
use Rattle.std.specs.Prelude.{IfSome, IfNone, Contains, int_lt}
use Rattle.std.specs.Int.{int_min, int_max}
use Rattle.std.proofs.lemmas.Int.{ints}
use Rattle.std.proofs.lemmas.List.{take_more}
use Rattle.std.proofs.lemmas.List.Elements.{Contains-append_left, Contains-push, Contains-push_cases}
use Rattle.sci_ranges_base.specs.declared.interval.Interval.{Interval}
use Rattle.sci_ranges_base.specs.Intervals.{IsIn, IsHullOf, one, join, hull}
use Rattle.sci_ranges_base.proofs.Numbers.{hull_has, hull_has_other}

-- of the numbers so far, if there are any
abbrev pub IsHullSoFar : List ℤ → Option Interval → Type 0
IsHullSoFar vs o = (IfSome o (λ i. IsHullOf vs i)) × (IfNone o (vs ≡ []))

one_has : (v : ℤ) → IsIn (one v) v
one_has v = record { above = omega (arith, ints); below = omega (arith, ints) }

-- one of two numbers of the list, and one that is pushed
lesser : (vs : List ℤ) (a v : ℤ) → Contains vs a → Contains (vs ++ v ∷ []) (int_min a v)
lesser vs a v h = by_test (int_lt v a)
  where
    by_test : (b : Bool) → Contains (vs ++ v ∷ []) (cond b v a)
    by_test true = Contains-push vs v
    by_test false = Contains-append_left vs (v ∷ []) a h

greater : (vs : List ℤ) (a v : ℤ) → Contains vs a → Contains (vs ++ v ∷ []) (int_max a v)
greater vs a v h = by_test (int_lt v a)
  where
    by_test : (b : Bool) → Contains (vs ++ v ∷ []) (cond b a v)
    by_test true = Contains-append_left vs (v ∷ []) a h
    by_test false = Contains-push vs v

pub hull_pushed : (vs : List ℤ) (v : ℤ) (o : Option Interval) → IsHullSoFar vs o → IsHullSoFar (vs ++ v ∷ []) (join o (Some (one v)))
hull_pushed vs v None h = (
  record {
    all = λ x c. elim (Contains-push_cases vs v x c) [
      | inl k ↦ absurd (empty vs x h.1 k)
      | inr e ↦ subst (IsIn (one v)) e (one_has v)
    ];
    least = Contains-push vs v;
    greatest = Contains-push vs v;
  },
  tt,
)
  where
    empty : (vs : List ℤ) (x : ℤ) → vs ≡ [] → Contains vs x → ⊥
    empty [] x e k = omega (arith, k.1)
    empty (y ∷ ys) x e k = cc
hull_pushed vs v (Some i) h = (
  record {
    all = λ x c. elim (Contains-push_cases vs v x c) [
      | inl k ↦ hull_has i (one v) x (h.0.all x k)
      | inr e ↦ subst (IsIn (hull i (one v))) e (hull_has_other i (one v) v (one_has v))
    ];
    least = lesser vs i.least v h.0.least;
    greatest = greater vs i.greatest v h.0.greatest;
  },
  tt,
)

-- ---- the loop

pub hull_none : (vs : List ℤ) → IsHullSoFar (take 0 vs) None
hull_none vs = (tt, refl)

pub hull_more : (vs : List ℤ) (i : ℕ) (d : ℤ) (o : Option Interval) → i < length vs → IsHullSoFar (take i vs) o → IsHullSoFar (take (i + 1) vs) (join o (Some (one (get_or vs i d))))
hull_more vs i d o l h =
    subst (λ ws. IsHullSoFar ws (join o (Some (one (get_or vs i d))))) (sym (take_more vs i d l)) (hull_pushed (take i vs) (get_or vs i d) o h)
