use Rattle.std.proofs.Common.{◌≡◌, ℕ, zero, suc, ◌+◌, ◌-◌, ◌*◌, ◌<◌, ◌≤◌, ℤ, pos, List, [], ◌∷◌, ◌++◌, length, true, false, refl, ap, sym, ◌∙◌, arith, subst, inl, inr}
use Rattle.std.proofs.lemmas.List.{same_lists, get_or_default, get_or_append_left, get_or_push, length-append}
use Rattle.std.proofs.lemmas.Bool.{cases_lt}
use Rattle.std.proofs.lemmas.Bool.Decides.{nat_tests}
use Rattle.std.proofs.lemmas.Nat.{mul-add-lt}
use Rattle.std.proofs.Math.Nat.{mul_comm}
use Rattle.std.specs.Prelude.{nat_lt}
use Rattle.sci_base.specs.declared.Ty.{Ty}
use Rattle.sci_base.specs.Fit.{InRange}
use Rattle.sci_base.specs.Lists.{at, listed}
use Rattle.sci_forms.specs.declared.ports.Port.{Port}
use Rattle.sci_kinds.specs.declared.Cell.{Cell}
use Rattle.sci_kinds.specs.declared.Cell.TheVariants.{Value, Overflow, Zero}
use Rattle.sci_forms.specs.Ports.{elements, total, type_at, Fills, IsAlike}
use Rattle.sci_kinds.specs.Table.{input, Answer, Values, NoFit, NoQuotient, then_cell, gathered}

-- ---- all elements

pub gathered_same : (f g : ℕ → Cell) (n : ℕ) → ((e : ℕ) → e < n → f e ≡ g e) → gathered f n ≡ gathered g n
gathered_same f g zero h = refl
gathered_same f g (suc n) h = rw (gathered_same f g n (λ e p. h e (omega (arith, p))), h n (omega arith)) refl

then_cell_parts : (a : Answer) (c : Cell) (vs : List ℤ) → then_cell a c ≡ Values vs → (ws : List ℤ) × ((v : ℤ) × ((a ≡ Values ws) × (c ≡ Value v) × (vs ≡ ws ++ v ∷ [])))
then_cell_parts (Values ws) (Value v) vs e = (ws, (v, (refl, refl, cc)))
then_cell_parts (Values ws) Overflow vs e = cc
then_cell_parts (Values ws) Zero vs e = cc
then_cell_parts NoFit c vs e = cc
then_cell_parts NoQuotient c vs e = cc

-- each element of the values is its cell's
pub gathered_values : (f : ℕ → Cell) (n : ℕ) (vs : List ℤ) → gathered f n ≡ Values vs → (length vs ≡ n) × ((e : ℕ) → e < n → f e ≡ Value (at vs e))
gathered_values f zero vs h =
    let z : vs ≡ [] = cc in (rw z refl, λ e p. absurd (omega (arith, p)))
gathered_values f (suc n) vs h =
    let p = then_cell_parts (gathered f n) (f n) vs h in
    let before = gathered_values f n p.0 p.1.1.0 in
    let same = p.1.1.2 in
    let len : length vs ≡ suc n = ap length same ∙ simp length-append (omega (arith, before.0)) in (
      len,
      λ e q. elim (cases_lt e n) [
        | inl l ↦ before.1 e l ∙ ap Value (sym (ap (λ l. at l e) same ∙ get_or_append_left p.0 (p.1.0 ∷ []) (pos 0) e (omega (arith, before.0))))
        | inr r ↦ let d : e ≡ n = omega (arith, q, r) in rw d (p.1.1.1 ∙ ap Value (sym (ap (λ l. at l n) same ∙ get_or_push p.0 p.1.0 (pos 0) n before.0)))
      ],
    )

-- the same of a list of numbers
pub listed_at : (f : ℕ → ℤ) (n : ℕ) → (length (listed f n) ≡ n) × ((e : ℕ) → e < n → at (listed f n) e ≡ f e)
listed_at f zero = (refl, λ e p. absurd (omega (arith, p)))
listed_at f (suc n) =
    let before = listed_at f n in (
      simp length-append (omega (arith, before.0)),
      λ e q. elim (cases_lt e n) [
        | inl l ↦ get_or_append_left (listed f n) (f n ∷ []) (pos 0) e (omega (arith, before.0)) ∙ before.1 e l
        | inr r ↦ let d : e ≡ n = omega (arith, q, r) in rw d (get_or_push (listed f n) (f n) (pos 0) n before.0)
      ],
    )

-- a list of n numbers is known by its numbers
pub listed_is : (f : ℕ → ℤ) (xs : List ℤ) (n : ℕ) → length xs ≡ n → ((k : ℕ) → k < n → at xs k ≡ f k) → xs ≡ listed f n
listed_is f xs n len h =
    let g = listed_at f n in
    same_lists xs (listed f n) (len ∙ sym g.0) (λ k d p.
    get_or_default xs k d (pos 0) p ∙ (h k (omega (arith, p, len)) ∙ (sym (g.1 k (omega (arith, p, len))) ∙ get_or_default (listed f n) k (pos 0) d (omega (arith, p, len, g.0)))))

-- ---- ports of one type and size

pub nat_lt_yes : (a b : ℕ) → a < b → nat_lt a b ≡ true
nat_lt_yes a b h = grind (arith, nat_tests)

pub nat_lt_no : (a b : ℕ) → b ≤ a → nat_lt a b ≡ false
nat_lt_no a b h = grind (arith, nat_tests)

alike_tail : (p : Port) (ps : List Port) (t : Ty) (n : ℕ) → IsAlike (p ∷ ps) t n → IsAlike ps t n
alike_tail p ps t n a = record { types = λ k h. a.types (suc k) (omega arith); sizes = λ k h. a.sizes (suc k) (omega arith) }

pub total_alike : (ps : List Port) (t : Ty) (n : ℕ) → IsAlike ps t n → total ps ≡ length ps * n
total_alike [] t n a = grind arith
total_alike (p ∷ ps) t n a =
    let rest = total_alike ps t n (alike_tail p ps t n a) in
    let first : elements p ≡ n = a.sizes 0 (omega arith) in
    added (elements p) (total ps) n (length ps) first rest
  where
    added : (x y n k : ℕ) → x ≡ n → y ≡ k * n → x + y ≡ suc k * n
    added x y n k e f = rw (e, f) (grind arith)

pub type_at_alike : (ps : List Port) (t : Ty) (n : ℕ) → IsAlike ps t n → (e : ℕ) → e < total ps → type_at ps e ≡ t
type_at_alike [] t n a e h = absurd (omega arith)
type_at_alike (p ∷ ps) t n a e h = elim (cases_lt e (elements p)) [
  | inl l ↦ rw (nat_lt_yes e (elements p) l) (a.types 0 (omega arith))
  | inr r ↦ rw (nat_lt_no e (elements p) r) (type_at_alike ps t n (alike_tail p ps t n a) (e - elements p) (omega (arith, r)))
]

-- element e of input k
pub input_in_range : (ps : List Port) (t : Ty) (n : ℕ) (u : List ℤ) → IsAlike ps t n → Fills ps u → (k e : ℕ) → k < length ps → e < n → InRange t (input n u k e)
input_in_range ps t n u a f k e p q =
    let size = total_alike ps t n a in
    let below : k * n + e < total ps = omega (arith, mul-add-lt k n e (length ps) p q, mul_comm n (length ps)) in
    subst (λ t. InRange t (input n u k e)) (type_at_alike ps t n a (k * n + e) below) (f.in_range (k * n + e) below)

-- element e of the first input
pub first_input_in_range : (ps : List Port) (t : Ty) (n : ℕ) (u : List ℤ) → IsAlike ps t n → Fills ps u → (e : ℕ) → 0 < length ps → e < n → InRange t (at u e)
first_input_in_range ps t n u a f e p q =
    let one : 0 * n + e ≡ e = omega arith in
    subst (λ j. InRange t (at u j)) one (input_in_range ps t n u a f 0 e p q)

pub total_one : (ps : List Port) (t : Ty) (n : ℕ) → IsAlike ps t n → length ps ≡ 1 → total ps ≡ n
total_one ps t n a one = total_alike ps t n a ∙ rw one (grind arith)
