-- Lists of numbers, one for each port, as they are filled.
use Rattle.std.proofs.Common.{◌≡◌, ◌<◌, ℕ, zero, suc, List, [], ◌∷◌, ◌++◌, length, Vec, inl, inr, refl, sym, ap, ◌∙◌, arith, get_or}
use Rattle.std.proofs.Math.ListN.{set, replicate}
use Rattle.std.specs.Prelude.{Contains}
use Rattle.std.specs.declared.alloc.Global.{Global}
use Rattle.std.proofs.lemmas.List.{map-set, get_or-map}
use Rattle.sci_flat.specs.Chain.{Step, AllWithin}
use Rattle.sci_flat.specs.Lists.{plain, list_at}

-- a number at the end of the list at i
pub plain-set : (vs : List (Vec ℕ Global)) (i : ℕ) (old new : Vec ℕ Global) (n : ℕ) → i < length vs → old ≡ get_or vs i old → new.items ≡ old.items ++ n ∷ []
    → plain (set vs i new) ≡ set (plain vs) i (list_at (plain vs) i ++ n ∷ [])
plain-set vs i old new n h is e =
    map-set (λ (v : Vec ℕ Global). v.items) vs i new
    ∙ ap (λ (x : List ℕ). set (plain vs) i x)
    (e ∙ ap (λ (x : List ℕ). x ++ n ∷ []) (sym (get_or-map (λ (v : Vec ℕ Global). v.items) vs i old [] h ∙ ap (λ (v : Vec ℕ Global). v.items) (sym is))))

-- a list of lists at a place
pub list_at-plain : (vs : List (Vec ℕ Global)) (i : ℕ) (v : Vec ℕ Global) → i < length vs → v ≡ get_or vs i v → list_at (plain vs) i ≡ v.items
list_at-plain vs i v h is = get_or-map (λ (v : Vec ℕ Global). v.items) vs i v [] h ∙ ap (λ (v : Vec ℕ Global). v.items) (sym is)

pub none-there : (n p q : ℕ) → Contains (list_at (replicate n []) p) q → ⊥
none-there zero p q (k, h, e) = absurd (omega arith)
none-there (suc n) zero q (k, h, e) = absurd (omega arith)
none-there (suc n) (suc p) q has = none-there n p q has

-- ---- steps by their places

abbrev pub Steps : Type 0
Steps = List (ℕ × ℕ)

pub from_within : (n : ℕ) (es : Steps) (i : ℕ) (d : ℕ × ℕ) → i < length es → AllWithin n es → (get_or es i d).0 < n
from_within n [] i d h w = absurd (omega arith)
from_within n (e ∷ es) zero d h w = w.0
from_within n (e ∷ es) (suc i) d h w = from_within n es i d (omega arith) w.2

pub to_within : (n : ℕ) (es : Steps) (i : ℕ) (d : ℕ × ℕ) → i < length es → AllWithin n es → (get_or es i d).1 < n
to_within n [] i d h w = absurd (omega arith)
to_within n (e ∷ es) zero d h w = w.1
to_within n (e ∷ es) (suc i) d h w = to_within n es i d (omega arith) w.2

pub step_at : (es : Steps) (i : ℕ) (d : ℕ × ℕ) → i < length es → Step es (get_or es i d).0 (get_or es i d).1
step_at [] i d h = absurd (omega arith)
step_at (e ∷ es) zero d h = inl (refl, refl)
step_at (e ∷ es) (suc i) d h = inr (step_at es i d (omega arith))

-- the place of a step
pub place_of : (es : Steps) (p q : ℕ) (d : ℕ × ℕ) → Step es p q → (i : ℕ) × (i < length es) × ((get_or es i d).0 ≡ p) × ((get_or es i d).1 ≡ q)
place_of [] p q d s = absurd s
place_of (e ∷ es) p q d (inl here) = (0, omega arith, here.0, here.1)
place_of (e ∷ es) p q d (inr later) = let r = place_of es p q d later in (suc r.0, omega (arith, r.1), r.2, r.3)
