-- Lists that are filled step by step.
use Rattle.std.proofs.Common.{◌≡◌, ◌<◌, ◌+◌, ◌↔◌, ℕ, List, ◌∷◌, [], ◌++◌, ◌⊎◌, inl, inr, ⊎_elim, subst, arith, Vec, vec_len}
use Rattle.std.proofs.Math.ListN.{set}
use Rattle.std.specs.declared.alloc.Global.{Global}
use Rattle.std.proofs.lemmas.Bool.{cases_eq}
use Rattle.std.proofs.lemmas.List.{length-map}
use Rattle.sci_loop.specs.Lists.{plain, list_at, Adds}
use Rattle.sci_loop.proofs.Adding.{adds-none, adds-same, adds-both, adds-one}
use Rattle.sci_inherit.specs.Followers.{Upto}

-- one step more
pub upto_more : {P X : Type 0} (gives : ℕ → P → X → Type 0) (k : ℕ) (p : P) (x : X) → Upto gives (k + 1) p x ↔ (Upto gives k p x ⊎ gives k p x)
upto_more gives k p x = (
  (λ u. ⊎_elim
      (λ e. inr (subst (λ (j : ℕ). gives j p x) e u.given))
      (λ d. inl (record { step = u.step; below = let l = u.below in omega (arith, l, d); given = u.given }))
      (cases_eq u.step k)),
  λ h. elim h [
    | inl u ↦ record { step = u.step; below = let l = u.below in omega (arith, l); given = u.given }
    | inr g ↦ record { step = k; below = omega arith; given = g }
  ],
)

module _ {X : Type 0} where
  pub upto-none : (gives : ℕ → ℕ → X → Type 0) (ls : List (List X)) → Adds (Upto gives 0) ls ls
  upto-none gives ls = adds-none (Upto gives 0) ls (λ p x u. let l = u.below in absurd (omega (arith, l)))

  pub upto-next : (gives : ℕ → ℕ → X → Type 0) (k : ℕ) (old mid new : List (List X)) → Adds (Upto gives k) old mid → Adds (gives k) mid new
      → Adds (Upto gives (k + 1)) old new
  upto-next gives k old mid new a b = adds-both (Upto gives k) (gives k) (Upto gives (k + 1)) old mid new (upto_more gives k) a b

  -- one element, as a step gives it
  pub adds-given : (gives : ℕ → X → Type 0) (vs ws : Vec (Vec X Global) Global) (i : ℕ) (y : X) → i < vec_len vs
      → plain ws.items ≡ set (plain vs.items) i (list_at (plain vs.items) i ++ y ∷ [])
      → ((p : ℕ) (x : X) → p ≡ i → y ≡ x → gives p x) → ((p : ℕ) (x : X) → gives p x → (p ≡ i) × (y ≡ x)) → Adds gives (plain vs.items) (plain ws.items)
  adds-given gives vs ws i y inside e to from =
      adds-same (λ p x. (p ≡ i) × (y ≡ x)) gives (plain vs.items) (plain ws.items) (λ p x h. to p x h.0 h.1) from
      (adds-one (plain vs.items) (plain ws.items) i y (let l = length-map vs.items (λ (v : Vec X Global). v.items) in omega (arith, inside, l, vs.ok.0)) e)
