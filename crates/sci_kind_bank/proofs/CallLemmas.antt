-- The places of the ports' elements among all values.
use Rattle.std.proofs.Common.{◌≡◌, ◌≢◌, ℕ, zero, suc, ◌+◌, ◌-◌, ◌<◌, ◌≤◌, List, [], ◌∷◌, ℤ, length, refl, ap, sym, ◌∙◌, arith, rules, subst, inl, inr, false, IsTrue, ◌↔◌}
use Rattle.std.proofs.lemmas.Bool.{cases_lt}
use Rattle.sci_base.specs.Fit.{InRange}
use Rattle.sci_base.specs.Lists.{at}
use Rattle.sci_forms.specs.declared.Kind.{Kind}
use Rattle.sci_forms.specs.declared.Kind.TheVariants.{Sensor}
use Rattle.sci_forms.specs.declared.spec.Spec.{Spec}
use Rattle.sci_kinds.specs.Asks.{entering_of}
use Rattle.sci_forms.specs.declared.ports.Port.{Port}
use Rattle.sci_forms.specs.Ports.{port_at, elements, type_of, total, before, type_at, Fills}
use Rattle.sci_kinds.proofs.Elements.{nat_lt_yes, nat_lt_no}
use Rattle.sci_bank.specs.Bank.{RunFits}

before_more : (ps : List Port) (k : ℕ) → k < length ps → before ps (suc k) ≡ before ps k + elements (port_at ps k)
before_more [] k h = absurd (omega arith)
before_more (p ∷ ps) zero h = omega arith
before_more (p ∷ ps) (suc k) h = ap (λ n. elements p + n) (before_more ps k (omega arith)) ∙ omega arith

before_all : (ps : List Port) → before ps (length ps) ≡ total ps
before_all [] = refl
before_all (p ∷ ps) = ap (λ n. elements p + n) (before_all ps)

type_at_place : (ps : List Port) (k i : ℕ) → k < length ps → i < elements (port_at ps k) → type_at ps (before ps k + i) ≡ type_of (port_at ps k)
type_at_place [] k i h l = absurd (omega arith)
type_at_place (p ∷ ps) zero i h l = rw (nat_lt_yes (0 + i) (elements p) (omega arith)) refl
type_at_place (p ∷ ps) (suc k) i h l =
    let past : (elements p + before ps k + i) - elements p ≡ before ps k + i = omega arith in
    rw (nat_lt_no (elements p + before ps k + i) (elements p) (omega arith), past) (type_at_place ps k i (omega arith) l)

-- the values of the first k ports are in range
pub record FirstFit (ps : List Port) (vs : List ℤ) (k start : ℕ) : Type 0 where
  pub place : start ≡ before ps k
  pub within : start ≤ length vs
  pub in_range : (e : ℕ) → e < start → InRange (type_at ps e) (at vs e)

-- one more port
pub fit_more : (ps : List Port) (vs : List ℤ) (k start n : ℕ) → FirstFit ps vs k start → k < length ps → n ≡ elements (port_at ps k) → RunFits (type_of (port_at ps k)) vs start n → FirstFit ps vs (k + 1) (start + n)
fit_more ps vs k start n f h e r =
    let one_more : k + 1 ≡ suc k = omega arith in
    let next : before ps (k + 1) ≡ before ps k + elements (port_at ps k) = ap (before ps) one_more ∙ before_more ps k h in
    record {
      place = omega (arith, next, e, f.place);
      within = r.within;
      in_range = λ i q. elim (cases_lt i start) [
        | inl l ↦ f.in_range i l
        | inr l ↦
            let at_place : start + (i - start) ≡ i = omega (arith, l) in
            let typed_at : type_at ps (start + (i - start)) ≡ type_of (port_at ps k) = rw (f.place) (type_at_place ps k (i - before ps k) h (omega (arith, q, l, e, f.place))) in
            subst (λ j. InRange (type_at ps j) (at vs j)) at_place (subst (λ t. InRange t (at vs (start + (i - start)))) (sym typed_at) (r.in_range (i - start) (omega (arith, q, l))))
      ];
    }

pub fit_all : (ps : List Port) (vs : List ℤ) (k start : ℕ) → FirstFit ps vs k start → k ≡ length ps → start ≡ length vs → Fills ps vs
fit_all ps vs k start f e l =
    let all : start ≡ total ps = f.place ∙ ap (before ps) e ∙ before_all ps in
    record { enough = sym l ∙ all; in_range = λ i h. f.in_range i (omega (arith, h, all)) }

-- the elements of port k and those before it are among all
up_to : (ps : List Port) (k : ℕ) → k < length ps → before ps k + elements (port_at ps k) ≤ total ps
up_to [] k h = absurd (omega arith)
up_to (p ∷ ps) zero h = omega arith
up_to (p ∷ ps) (suc k) h = let rest : before ps k + elements (port_at ps k) ≤ total ps = up_to ps k (omega arith) in omega (arith, rest)

-- values that fill all ports fill port k
pub run_of : (ps : List Port) (vs : List ℤ) (k : ℕ) → Fills ps vs → k < length ps → RunFits (type_of (port_at ps k)) vs (before ps k) (elements (port_at ps k))
run_of ps vs k f h = record {
  within = let most : before ps k + elements (port_at ps k) ≤ total ps = up_to ps k h in omega (arith, most, f.enough);
  in_range = λ i l. subst (λ t. InRange t (at vs (before ps k + i))) (type_at_place ps k i h l)
      (f.in_range (before ps k + i) (let most : before ps k + elements (port_at ps k) ≤ total ps = up_to ps k h in omega (arith, most, l)));
}

-- they are as many as all ports have elements
pub all_of : (ps : List Port) (vs : List ℤ) (k start : ℕ) → FirstFit ps vs k start → k ≡ length ps → Fills ps vs → start ≡ length vs
all_of ps vs k start f e filled = f.place ∙ ap (before ps) e ∙ before_all ps ∙ sym filled.enough

-- a test that fails, of what does not hold
pub fails : {A : Type 0} → (A → ⊥) → IsTrue false ↔ A
fails never = (λ h. absurd (search rules), λ a. absurd (never a))

-- the ports of a kind other than SENSOR that values go in at are its inputs
pub entering-other : (k : Kind) (s : Spec) → k ≢ Sensor → entering_of k s ≡ s.ins
entering-other Sensor s h = absurd (h refl)
entering-other _ s h = refl
