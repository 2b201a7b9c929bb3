-- What the tests of a spec tell.
use Rattle.std.proofs.Common.{◌≡◌, ℕ, zero, suc, ◌<◌, ◌≤◌, ℤ, ◌≤ℤ◌, ◌<ℤ◌, length, Bool, true, false, refl, arith, Option, Some, None, inl, inr, ◌⊎◌, ◌&&◌, ◌||◌, List, [], ◌∷◌}
use Rattle.std.proofs.lemmas.Int.{ints}
use Rattle.std.proofs.lemmas.Bool.{cases_lt}
use Rattle.std.proofs.lemmas.Bool.Decides.{nat_tests}
use Rattle.std.specs.Prelude.{nat_eq, nat_lt, nat_le, int_lt, int_le, is_none}
use Rattle.sci_base.specs.declared.Ty.{Ty}
use Rattle.sci_base.specs.Fit.{InRange, low, high, int_eq, in_range}
use Rattle.sci_forms.specs.declared.ports.Port.{Port}
use Rattle.sci_forms.specs.declared.spec.Spec.{Spec}
use Rattle.sci_forms.specs.Ports.{port_at, elements}
use Rattle.sci_forms.specs.Words.{size}
use Rattle.sci_forms.specs.Forms.{between, all_to, or_else, unless, first_not, given}
use Rattle.sci_forms.specs.Typed.{is_known, known_in, known_out, typed, formed_of, known_of, types_broken_of, sizes_broken_of}

pub both_true : (a b : Bool) → (a && b) ≡ true → (a ≡ true) × (b ≡ true)
both_true true b h = (refl, h)
both_true false b h = cc

pub either_true : (a b : Bool) → (a || b) ≡ true → (a ≡ true) ⊎ (b ≡ true)
either_true true b h = inl refl
either_true false b h = inr h

pub none_parts : {A : Type 0} (a b : Option A) → is_none (or_else a b) ≡ true → (is_none a ≡ true) × (is_none b ≡ true)
none_parts (Some x) b h = cc
none_parts None b h = (refl, h)

pub none_given : {A : Type 0} (o : Option ℕ) (f : ℕ → A) → is_none (given o f) ≡ true → is_none o ≡ true
none_given (Some k) f h = cc
none_given None f h = refl

pub none_unless : {A : Type 0} (b : Bool) (a : A) → is_none (unless b a) ≡ true → b ≡ true
none_unless true a h = refl
none_unless false a h = cc

pub all_to_at : (f : ℕ → Bool) (n : ℕ) → is_none (first_not f n) ≡ true → (k : ℕ) → k < n → f k ≡ true
all_to_at f zero h k p = absurd (omega (arith, p))
all_to_at f (suc n) h k p =
    let b = none_parts (first_not f n) (unless (f n) n) h in
    elim (cases_lt k n) [ inl l ↦ all_to_at f n b.0 k l | inr r ↦ let e : k ≡ n = omega (arith, p, r) in rw e (none_unless (f n) n b.1) ]

pub nat_same : (a b : ℕ) → nat_eq a b ≡ true → a ≡ b
nat_same a b h = grind (arith, nat_tests)

pub nat_le_told : (a b : ℕ) → nat_le a b ≡ true → a ≤ b
nat_le_told a b h = grind (arith, nat_tests)

pub nat_lt_told : (a b : ℕ) → nat_lt a b ≡ true → a < b
nat_lt_told a b h = grind (arith, nat_tests)

pub int_le_told : (a b : ℤ) → int_le a b ≡ true → a ≤ℤ b
int_le_told a b h = grind (arith, ints)

pub int_lt_told : (a b : ℤ) → int_lt a b ≡ true → a <ℤ b
int_lt_told a b h = grind (arith, ints)

pub int_same : (a b : ℤ) → int_eq a b ≡ true → a ≡ b
int_same a b h =
    let p = both_true (int_le a b) (int_le b a) h in
    let q = int_le_told a b p.0 in
    let r = int_le_told b a p.1 in
    omega (arith, ints)

pub between_told : (a b v : ℤ) → between a b v ≡ true → (a ≤ℤ v) × (v ≤ℤ b)
between_told a b v h = let p = both_true (int_le a v) (int_le v b) h in (int_le_told a v p.0, int_le_told v b p.1)

pub in_range_told : (t : Ty) (v : ℤ) → in_range t v ≡ true → InRange t v
in_range_told t v h = let p = between_told (low t) (high t) v h in record { above = p.0; below = p.1 }

-- the first output of a typed spec has at most 256 elements
pub size_small : (s : Spec) → typed s ≡ true → size s ≤ 256
size_small s h =
    let p3 = both_true _ (is_none (sizes_broken_of s.kind s)) h in
    let p2 = both_true _ (is_none (types_broken_of s.kind s)) p3.0 in
    let p1 = both_true (formed_of s.kind s) (known_of s) p2.0 in
    let k1 = both_true (all_to (known_in s) (length s.ins)) (all_to (known_out s) (length s.outs)) p1.1 in
    by_outs s.outs (all_to_at (known_out s) (length s.outs) k1.1)
  where
    by_outs : (ps : List Port) → ((k : ℕ) → k < length ps → (is_known (port_at ps k) && nat_le (elements (port_at ps k)) 256) ≡ true) → elements (port_at ps 0) ≤ 256
    by_outs [] h = omega arith
    by_outs (p ∷ ps) h = nat_le_told (elements p) 256 (both_true (is_known p) (nat_le (elements p) 256) (h 0 (omega arith))).1
