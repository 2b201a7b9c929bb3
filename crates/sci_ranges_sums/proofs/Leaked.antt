-- The first that there is, in the loops over the inputs of a sum.
use Rattle.std.proofs.Common.{◌≡◌, ℕ, zero, suc, ◌+◌, ◌<◌, ◌≤◌, Bool, true, false, ◌&&◌, cond, nat_eq, negsuc, length, Option, Some, None, refl, sym, ap, subst, ◌∙◌, arith, add-one, inl, inr, true≢false}
use Rattle.std.proofs.lemmas.Bool.{cases_lt}
use Rattle.std.specs.Prelude.{option_map}
use Rattle.sci_base.specs.declared.Ty.{Ty}
use Rattle.sci_base.specs.declared.Ty.TheVariants.{I32, I16, I8, U32, U16, U8}
use Rattle.sci_base.specs.Fit.{int_eq, width}
use Rattle.sci_forms.specs.declared.spec.Spec.{Spec}
use Rattle.sci_forms.specs.declared.Kind.{Kind}
use Rattle.sci_forms.specs.declared.Kind.TheVariants.{Shift}
use Rattle.sci_forms.specs.Typed.{typed}
use Rattle.sci_forms.specs.Words.{param, out_type}
use Rattle.sci_kinds.specs.Asks.{Asks}
use Rattle.sci_kinds.proofs.LawProofs.{asks}
use Rattle.sci_net.specs.Net.{IsNet}
use Rattle.sci_net.specs.Parts.{Parts, IsInput, spec_of, wire_of}
use Rattle.sci_reaction.proofs.Lists.{and_both}
use Rattle.sci_ranges_refined.specs.Sums.{is_sum, shifts_right, shifts_of, places_of}
use Rattle.sci_ranges_refined.proofs.Parts.{shrinking_is, shift_shrinks}
use Rattle.sci_ranges_rows.specs.Marks.{Marks}
use Rattle.sci_ranges_rows.specs.Tests.{is_along}
use Rattle.sci_ranges_pass.specs.Told.{either_of, first_of, Leak, loses, keeps, kept_at, leak_by, leak_at, leak}

-- ---- the first that there is

none_behind : {A : Type 0} (f : ℕ → Option A) (k : ℕ) → first_of f k ≡ None → f k ≡ None → first_of f (suc k) ≡ None
none_behind f k h e = ap (λ o. either_of o (f k)) h ∙ e

pub none_more : {A : Type 0} (f : ℕ → Option A) (k : ℕ) → first_of f k ≡ None → f k ≡ None → first_of f (k + 1) ≡ None
none_more f k h e = subst (λ j. first_of f j ≡ None) (sym (add-one k)) (none_behind f k h e)

stays : {A : Type 0} (f : ℕ → Option A) (x : A) (k : ℕ) → first_of f k ≡ Some x → first_of f (suc k) ≡ Some x
stays f x k h = ap (λ o. either_of o (f k)) h

-- one that is found behind none is the first of all
pub first_found : {A : Type 0} (f : ℕ → Option A) (x : A) (n k : ℕ) → k < n → first_of f k ≡ None → f k ≡ Some x → first_of f n ≡ Some x
first_found f x zero k l h e = absurd (omega (arith, l))
first_found f x (suc n) k l h e = elim (cases_lt k n) [
  | inl p ↦ stays f x n (first_found f x n k p h e)
  | inr p ↦ let same : k ≡ n = omega (arith, l, p) in subst (λ j. first_of f (suc j) ≡ Some x) same (ap (λ o. either_of o (f k)) h ∙ e)
]

-- ---- a block that shifts

width_most : (t : Ty) → width t ≤ 32
width_most I32 = omega arith
width_most I16 = omega arith
width_most I8 = omega arith
width_most U32 = omega arith
width_most U16 = omega arith
width_most U8 = omega arith

pub few_places : (s : Spec) → typed s ≡ true → shifts_right s ≡ true → places_of s < 32
few_places s h right = by_kind s.kind refl right
  where
    by_kind : (c : Kind) → s.kind ≡ c → shifts_of c s ≡ true → places_of s < 32
    by_kind Shift e k = let a : Asks Shift s = subst (λ c. Asks c s) e (asks s h) in let few = width_most (out_type s) in omega (arith, a.3, few)
    by_kind _ e k = absurd (true≢false (sym k))

-- the input of the block that shifts
pub shift_input : (n : Parts) (m : Marks) (c l : ℕ) → IsNet n → IsInput n c (l + 1) → loses n m c l ≡ true → IsInput n (wire_of n c (l + 1)).block 1 × (shifts_right (spec_of n (wire_of n c (l + 1)).block) ≡ true)
shift_input n m c l net inside h =
    let v = wire_of n c (l + 1) in
    let block = (net.wired.wires_lead c (l + 1) inside).block in
    let p1 = and_both (int_eq (param (spec_of n c) (l + 1)) (negsuc 0)) (nat_eq v.port 1 && (shifts_right (spec_of n v.block) && is_along m v.block c)) h in
    let p2 = and_both (nat_eq v.port 1) (shifts_right (spec_of n v.block) && is_along m v.block c) p1.1 in
    let p3 = and_both (shifts_right (spec_of n v.block)) (is_along m v.block c) p2.1 in
    let is = shrinking_is (spec_of n v.block) (net.typed_specs v.block block) (shift_shrinks (spec_of n v.block) p3.0) in
    (record { block = block; least = omega arith; most = omega (arith, is.one) }, p3.0)

-- ---- the parts of a leak

pub kept_on : (n : Parts) (c g k : ℕ) → keeps n c g k ≡ true → kept_at n c g k ≡ Some k
kept_on n c g k h = ap (λ (b : Bool). cond b (Some k) None) h

pub kept_off : (n : Parts) (c g k : ℕ) → keeps n c g k ≡ false → kept_at n c g k ≡ None
kept_off n c g k h = ap (λ (b : Bool). cond b (Some k) None) h

pub leak_off : (n : Parts) (m : Marks) (c l : ℕ) → loses n m c l ≡ false → None ≡ leak_at n m c l
leak_off n m c l h =
    ap (λ (b : Bool). cond b (option_map (leak_by n l (wire_of n c (l + 1)).block) (first_of (kept_at n c (wire_of n c (l + 1)).block) (length (spec_of n c).ins))) None) (sym h)

pub leak_on : (n : Parts) (m : Marks) (c l : ℕ) (o : Option ℕ) → loses n m c l ≡ true → o ≡ first_of (kept_at n c (wire_of n c (l + 1)).block) (length (spec_of n c).ins)
    → option_map (leak_by n l (wire_of n c (l + 1)).block) o ≡ leak_at n m c l
leak_on n m c l o h e =
    ap (option_map (leak_by n l (wire_of n c (l + 1)).block)) e
    ∙ ap (λ (b : Bool). cond b (option_map (leak_by n l (wire_of n c (l + 1)).block) (first_of (kept_at n c (wire_of n c (l + 1)).block) (length (spec_of n c).ins))) None) (sym h)

pub no_leak : (n : Parts) (m : Marks) (c : ℕ) → is_sum (spec_of n c).kind ≡ false → None ≡ leak n m c
no_leak n m c h = ap (λ (b : Bool). cond b (first_of (leak_at n m c) (length (spec_of n c).ins)) None) (sym h)

pub some_leak : (n : Parts) (m : Marks) (c : ℕ) (o : Option Leak) → is_sum (spec_of n c).kind ≡ true → first_of (leak_at n m c) (length (spec_of n c).ins) ≡ o → o ≡ leak n m c
some_leak n m c o h e = sym e ∙ ap (λ (b : Bool). cond b (first_of (leak_at n m c) (length (spec_of n c).ins)) None) (sym h)
