-- The steps of a reader taken apart.
use Rattle.std.proofs.Common.{◌≡◌, ℕ, List, [], ◌∷◌, ◌++◌, length, Option, Some, None, Bool, true, false, cond, ◌⊎◌, inl, inr, refl}
use Rattle.std.specs.Prelude.{nat_eq}
use Rattle.std.proofs.lemmas.Bool.{eqb-true, eq-eqb}
use Rattle.std.proofs.lemmas.List.{nil_from_length}
use Rattle.sci_text.specs.Reading.{◌>>=◌, or_else, after, ended}

pub bind_some : {A B : Type 0} (o : Option A) (f : A → Option B) (y : B) → (o >>= f) ≡ Some y → (x : A) × (o ≡ Some x) × (f x ≡ Some y)
bind_some (Some x) f y e = (x, refl, e)
bind_some None f y e = absurd cc

pub else_cases : {A B : Type 0} (o : Option A) (f : A → B) (z y : B) → or_else o f z ≡ y → ((x : A) × (o ≡ Some x) × (f x ≡ y)) ⊎ ((o ≡ None) × (z ≡ y))
else_cases (Some x) f z y e = inl (x, refl, e)
else_cases None f z y e = inr (refl, e)

pub chosen : {A : Type 0} (b : Bool) (x y z : A) → cond b x y ≡ z → ((b ≡ true) × (x ≡ z)) ⊎ ((b ≡ false) × (y ≡ z))
chosen true x y z e = inl (refl, e)
chosen false x y z e = inr (refl, e)

-- a test that has to hold
pub guarded : {A : Type 0} (b : Bool) (x : Option A) (y : A) → cond b x None ≡ Some y → (b ≡ true) × (x ≡ Some y)
guarded true x y e = (refl, e)
guarded false x y e = absurd cc

pub after_takes : (text bytes rest : List ℕ) → after text bytes ≡ Some rest → bytes ≡ text ++ rest
after_takes [] bytes rest e = cc
after_takes (c ∷ cs) [] rest e = absurd cc
after_takes (c ∷ cs) (b ∷ bs) rest e =
    let g = guarded (nat_eq b c) (after cs bs) rest e in
    let h = eqb-true b c g.0 in
    let t = after_takes cs bs rest g.1 in cc

pub after_again : (text rest : List ℕ) → after text (text ++ rest) ≡ Some rest
after_again [] rest = refl
after_again (c ∷ cs) rest = rw (eq-eqb c c refl) (after_again cs rest)

pub some_is : {A : Type 0} {x y : A} → Some x ≡ Some y → x ≡ y
some_is e = cc

-- where nothing is left
pub ended_takes : {A : Type 0} (x : A) (rest : List ℕ) (y : A) → ended x rest ≡ Some y → (rest ≡ []) × (x ≡ y)
ended_takes x rest y e =
    let g = guarded (nat_eq (length rest) 0) (Some x) y e in
    (nil_from_length rest (eqb-true (length rest) 0 g.0), some_is g.1)
