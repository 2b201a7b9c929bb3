-- Lists by number, as they are filled.
use Rattle.std.proofs.Common.{◌≡◌, ◌≢◌, ◌<◌, ℕ, zero, suc, List, [], ◌∷◌, ◌++◌, length, Vec, ◌⊎◌, ◌↔◌, inl, inr, refl, sym, ap, ◌∙◌, subst, arith, get_or, get_or-set_same, get_or-set_other, length-set}
use Rattle.std.proofs.Math.ListN.{set, replicate}
use Rattle.std.specs.Prelude.{Contains}
use Rattle.std.specs.declared.alloc.Global.{Global}
use Rattle.std.proofs.lemmas.Bool.Decides.{eqb_tells}
use Rattle.std.proofs.lemmas.List.{map-set, get_or-map}
use Rattle.std.proofs.lemmas.List.Elements.{Contains-append_left, Contains-push, Contains-push_cases}
use Rattle.sci_loop.specs.Lists.{plain, list_at, Adds}

-- an item at the end of the list at i
pub plain-set : {X : Type 0} (vs : List (Vec X Global)) (i : ℕ) (old new : Vec X Global) (x : X) → i < length vs → old ≡ get_or vs i old → new.items ≡ old.items ++ x ∷ []
    → plain (set vs i new) ≡ set (plain vs) i (list_at (plain vs) i ++ x ∷ [])
plain-set {X} vs i old new x h is e =
    map-set (λ (v : Vec X Global). v.items) vs i new
    ∙ ap (λ (l : List X). set (plain vs) i l)
    (e ∙ ap (λ (l : List X). l ++ x ∷ []) (sym (get_or-map (λ (v : Vec X Global). v.items) vs i old [] h ∙ ap (λ (v : Vec X Global). v.items) (sym is))))

-- the list at i stays
pub plain-set_same : {X : Type 0} (vs : List (Vec X Global)) (i : ℕ) (old new : Vec X Global) → i < length vs → old ≡ get_or vs i old → new.items ≡ old.items → plain (set vs i new) ≡ plain vs
plain-set_same [] i old new h is e = absurd (omega arith)
plain-set_same (v ∷ vs) zero old new h is e = ap (λ l. l ∷ plain vs) (e ∙ ap (λ w. w.items) is)
plain-set_same (v ∷ vs) (suc i) old new h is e = ap (λ ls. v.items ∷ ls) (plain-set_same vs i old new (omega arith) is e)

-- a list of lists at a place
pub list_at-plain : {X : Type 0} (vs : List (Vec X Global)) (i : ℕ) (v : Vec X Global) → i < length vs → v ≡ get_or vs i v → list_at (plain vs) i ≡ v.items
list_at-plain {X} vs i v h is = get_or-map (λ (v : Vec X Global). v.items) vs i v [] h ∙ ap (λ (v : Vec X Global). v.items) (sym is)

pub none-there : {X : Type 0} (n p : ℕ) (x : X) → Contains (list_at (replicate n []) p) x → ⊥
none-there zero p x (k, h, e) = absurd (omega arith)
none-there (suc n) zero x (k, h, e) = absurd (omega arith)
none-there (suc n) (suc p) x has = none-there n p x has

module _ {X : Type 0} where
  -- nothing is added
  pub adds-none : (more : ℕ → X → Type 0) (ls : List (List X)) → ((p : ℕ) (x : X) → more p x → ⊥) → Adds more ls ls
  adds-none more ls none = record { long = refl; exactly = λ p x. ((λ h. inl h), λ h. elim h [ inl a ↦ a | inr b ↦ absurd (none p x b) ]) }

  -- the same by another name
  pub adds-same : (more other : ℕ → X → Type 0) (old new : List (List X)) → ((p : ℕ) (x : X) → more p x → other p x) → ((p : ℕ) (x : X) → other p x → more p x) → Adds more old new → Adds other old new
  adds-same more other old new to from a = record {
    long = a.long;
    exactly = λ p x. (
      (λ h. elim ((a.exactly p x).0 h) [ inl l ↦ inl l | inr r ↦ inr (to p x r) ]),
      λ h. (a.exactly p x).1 (elim h [ inl l ↦ inl l | inr r ↦ inr (from p x r) ]),
    );
  }

  -- first these, and then those
  pub adds-both : (first then_ all : ℕ → X → Type 0) (old mid new : List (List X)) → ((p : ℕ) (x : X) → all p x ↔ (first p x ⊎ then_ p x)) → Adds first old mid → Adds then_ mid new → Adds all old new
  adds-both first then_ all old mid new is a b = record {
    long = b.long ∙ a.long;
    exactly = λ p x. (
      (λ h. elim ((b.exactly p x).0 h) [
        | inl l ↦ elim ((a.exactly p x).0 l) [ inl m ↦ inl m | inr f ↦ inr ((is p x).1 (inl f)) ]
        | inr t ↦ inr ((is p x).1 (inr t))
      ]),
      λ h. (b.exactly p x).1 (elim h [
        | inl l ↦ inl ((a.exactly p x).1 (inl l))
        | inr m ↦ elim ((is p x).0 m) [ inl f ↦ inl ((a.exactly p x).1 (inr f)) | inr t ↦ inr t ]
      ]),
    );
  }

  -- one element
  pub adds-one : (old new : List (List X)) (i : ℕ) (y : X) → i < length old → new ≡ set old i (list_at old i ++ y ∷ []) → Adds (λ p x. (p ≡ i) × (y ≡ x)) old new
  adds-one old new i y inside e = record { long = ap length e ∙ length-set old i _; exactly = exactly }
    where
      here : list_at new i ≡ list_at old i ++ y ∷ []
      here = ap (λ (l : List (List X)). list_at l i) e ∙ get_or-set_same old i _ [] inside

      other : (p : ℕ) → p ≢ i → list_at new p ≡ list_at old p
      other p d = ap (λ (l : List (List X)). list_at l p) e ∙ get_or-set_other old i p _ [] d

      Has : X → List X → Type 0
      Has x l = Contains l x

      exactly : (p : ℕ) (x : X) → Contains (list_at new p) x ↔ (Contains (list_at old p) x ⊎ ((p ≡ i) × (y ≡ x)))
      exactly p x = (
        (λ h. elim (eqb_tells p i) [
          | inl t ↦ elim (Contains-push_cases (list_at old i) y x (subst (λ (l : List X). Contains l x) (ap (list_at new) t.1 ∙ here) h)) [
            | inl a ↦ inl (subst (λ (l : List X). Contains l x) (ap (list_at old) (sym t.1)) a)
            | inr b ↦ inr (t.1, b)
          ]
          | inr t ↦ inl (subst (λ (l : List X). Contains l x) (other p t.1) h)
        ]),
        λ h. elim (eqb_tells p i) [
          | inl t ↦ subst (λ (l : List X). Contains l x) (sym (ap (list_at new) t.1 ∙ here)) (elim h [
            | inl a ↦ Contains-append_left (list_at old i) (y ∷ []) x (subst (λ (l : List X). Contains l x) (ap (list_at old) t.1) a)
            | inr b ↦ subst (λ (z : X). Contains (list_at old i ++ y ∷ []) z) b.1 (Contains-push (list_at old i) y)
          ])
          | inr t ↦ subst (λ (l : List X). Contains l x) (sym (other p t.1)) (elim h [ inl a ↦ a | inr b ↦ absurd (t.1 b.0) ])
        ],
      )
