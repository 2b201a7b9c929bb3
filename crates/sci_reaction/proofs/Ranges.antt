-- Values in range: of one port among those of all ports, and of all inputs one after the other.
use Rattle.std.proofs.Common.{◌≡◌, ℕ, zero, suc, ◌+◌, ◌-◌, ◌<◌, ◌≤◌, false, cond, nat_lt, ⊎_elim, ℤ, pos, List, [], ◌∷◌, ◌++◌, length, take, drop, refl, sym, ap, subst, ◌∙◌, arith}
use Rattle.std.proofs.lemmas.Bool.{cases_lt}
use Rattle.std.proofs.lemmas.List.{get_or-take, get_or-drop, get_or_append_left, get_or-append_right, length-take-le, length-drop, length-append}
use Rattle.sci_base.specs.Fit.{InRange}
use Rattle.sci_base.specs.Lists.{at, listed}
use Rattle.sci_forms.specs.declared.ports.Port.{Port}
use Rattle.sci_forms.specs.Ports.{no_port, port_at, elements, type_of, total, type_at, before, Fills}
use Rattle.sci_kinds.specs.Asks.{laid}
use Rattle.sci_kinds.proofs.Elements.{nat_lt_yes, nat_lt_no, listed_at}
use Rattle.sci_net.specs.Parts.{numbered}
use Rattle.sci_reaction.specs.Equations.{output_among}

-- ---- where the elements of a port stand

before_within : (ps : List Port) (k : ℕ) → k < length ps → before ps k + elements (port_at ps k) ≤ total ps
before_within [] k h = absurd (omega (arith, h))
before_within (p ∷ ps) zero h = omega arith
before_within (p ∷ ps) (suc k) h = let rest = before_within ps k (omega (arith, h)) in omega (arith, rest)

type_in : (ps : List Port) (k j : ℕ) → k < length ps → j < elements (port_at ps k) → type_at ps (before ps k + j) ≡ type_of (port_at ps k)
type_in [] k j h l = absurd (omega (arith, h))
type_in (p ∷ ps) zero j h l =
    let e : 0 + j ≡ j = omega arith in
    subst (λ i. cond (nat_lt i (elements p)) (type_of p) (type_at ps (i - elements p)) ≡ type_of p) (sym e) (rw (nat_lt_yes j (elements p) l) refl)
type_in (p ∷ ps) (suc k) j h l =
    let i : ℕ = elements p + before ps k + j in
    let no' : nat_lt i (elements p) ≡ false = nat_lt_no i (elements p) (omega arith) in
    let e : i - elements p ≡ before ps k + j = omega arith in
    rw no' (ap (type_at ps) e ∙ type_in ps k j (omega (arith, h)) l)

-- ---- one port

-- the values of one port, each in range of its type
pub record IsOf (p : Port) (vs : List ℤ) : Type 0 where
  pub enough : length vs ≡ elements p
  pub in_range : (j : ℕ) → j < elements p → InRange (type_of p) (at vs j)

one_port : (ps : List Port) (vs : List ℤ) (k : ℕ) → k < length ps → Fills ps vs → IsOf (port_at ps k) (output_among ps vs (suc k))
one_port ps vs k h fills =
    let a = before ps k in
    let p = port_at ps k in
    let most : a + elements p ≤ length vs = let w = before_within ps k h in omega (arith, w, fills.enough) in
    record {
      enough = length-take-le (elements p) (drop a vs) (let d = length-drop a vs in omega (arith, d, most));
      in_range = λ j l.
          let read : at (take (elements p) (drop a vs)) j ≡ at vs (a + j) =
          get_or-take (elements p) (drop a vs) j (pos 0) l ∙ get_or-drop a vs j (pos 0) in
          let inside : a + j < total ps = let w = before_within ps k h in omega (arith, w, l) in
          subst (λ v. InRange (type_of p) v) (sym read) (subst (λ t. InRange t (at vs (a + j))) (type_in ps k j h l) (fills.in_range (a + j) inside));
    }

-- output q of a block whose outputs' values are in range
pub output_in_range : (ps : List Port) (vs : List ℤ) (q : ℕ) → 1 ≤ q → q ≤ length ps → Fills ps vs → IsOf (numbered no_port ps q) (output_among ps vs q)
output_in_range ps vs zero least most fills = absurd (omega (arith, least))
output_in_range ps vs (suc k) least most fills = one_port ps vs k (omega (arith, most)) fills

-- ---- all inputs

type_low : (p : Port) (ps : List Port) (e : ℕ) → e < elements p → type_at (p ∷ ps) e ≡ type_of p
type_low p ps e l = rw (nat_lt_yes e (elements p) l) refl

type_high : (p : Port) (ps : List Port) (e : ℕ) → elements p ≤ e → type_at (p ∷ ps) e ≡ type_at ps (e - elements p)
type_high p ps e l = rw (nat_lt_no e (elements p) l) refl

pub laid_in_range : (ps : List Port) (f : ℕ → List ℤ) → ((k : ℕ) → k < length ps → IsOf (port_at ps k) (f (suc k))) → Fills ps (laid ps f)
laid_in_range [] f each = record { enough = refl; in_range = λ e l. absurd (omega (arith, l)) }
laid_in_range (p ∷ ps) f each =
    let here : IsOf p (f 1) = each 0 (omega arith) in
    let rest = laid_in_range ps (λ k. f (suc k)) (λ k l. each (suc k) (omega (arith, l))) in
    let g = listed_at (at (f 1)) (elements p) in
    let left : List ℤ = listed (at (f 1)) (elements p) in
    let right : List ℤ = laid ps (λ k. f (suc k)) in
    record {
      enough = let l = length-append left right in omega (arith, l, g.0, rest.enough);
      in_range = λ e l. ⊎_elim
          (λ low. let within : e < length left = omega (arith, low, g.0) in
          let read : at (left ++ right) e ≡ at (f 1) e = get_or_append_left left right (pos 0) e within ∙ g.1 e low in
          subst (λ v. InRange (type_at (p ∷ ps) e) v) (sym read) (subst (λ t. InRange t (at (f 1) e)) (sym (type_low p ps e low)) (here.in_range e low)))
          (λ high. let j : ℕ = e - elements p in
          let read : at (left ++ right) e ≡ at right j = get_or-append_right left right (elements p) e (pos 0) g.0 high in
          subst (λ v. InRange (type_at (p ∷ ps) e) v) (sym read) (subst (λ t. InRange t (at right j)) (sym (type_high p ps e high)) (rest.in_range j (omega (arith, l, high)))))
          (cases_lt e (elements p));
    }
