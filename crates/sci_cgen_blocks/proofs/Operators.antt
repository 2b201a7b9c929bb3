-- The operators of C on numbers in range.
use Rattle.std.proofs.Common.{◌≡◌, ℕ, suc, ◌<◌, ◌≤◌, ◌≤ℤ◌, ◌+ℤ◌, ◌-ℤ◌, ◌*ℤ◌, ◌/◌, if◌then◌else◌, Option, Some, Bool, true, false, ◌&&◌, ◌||◌, refl, ap, arith, ℤ, pos, negsuc, div-le_self}
use Rattle.std.specs.Prelude.{int_lt, int_le, int_div, int_rem, neg_ℤ, not}
use Rattle.std.proofs.lemmas.Int.{ints}
use Rattle.sci_base.specs.Fit.{int_eq}
use Rattle.c_ast.specs.declared.Op.TheVariants.{Add, Sub, Mul, Div, Rem, Lt, Le, Gt, Ge, Eq, Ne, And, Or}
use Rattle.c_mean.specs.Meaning.{operate, is_zero, truth, ◌>>=◌}
use Rattle.c_mean.specs.Laws.{Within}
use Rattle.c_mean.proofs.Values.{in_word_is, not_zero}

-- ---- numbers

pub add_is : {p q : Option ℤ} {x y : ℤ} → p ≡ Some x → q ≡ Some y → Within (x +ℤ y) → operate Add p q ≡ Some (x +ℤ y)
add_is {x} {y} e f h = rw (e, f) (in_word_is (x +ℤ y) h)

pub sub_is : {p q : Option ℤ} {x y : ℤ} → p ≡ Some x → q ≡ Some y → Within (x -ℤ y) → operate Sub p q ≡ Some (x -ℤ y)
sub_is {x} {y} e f h = rw (e, f) (in_word_is (x -ℤ y) h)

pub mul_is : {p q : Option ℤ} {x y : ℤ} → p ≡ Some x → q ≡ Some y → Within (x *ℤ y) → operate Mul p q ≡ Some (x *ℤ y)
mul_is {x} {y} e f h = rw (e, f) (in_word_is (x *ℤ y) h)

pub div_is : {p q : Option ℤ} {x y : ℤ} → p ≡ Some x → q ≡ Some y → is_zero y ≡ false → Within (int_div x y) → operate Div p q ≡ Some (int_div x y)
div_is {x} {y} e f z h = rw (e, f, z) (in_word_is (int_div x y) h)

pub rem_is : {p q : Option ℤ} {x y : ℤ} → p ≡ Some x → q ≡ Some y → is_zero y ≡ false → Within (int_div x y) → operate Rem p q ≡ Some (int_rem x y)
rem_is {x} {y} e f z h = rw (e, f, z) (ap (λ (o : Option ℤ). o >>= λ q. Some (int_rem x y)) (in_word_is (int_div x y) h))

-- a quotient by a positive number is no farther from 0
pub div_within : (z : ℤ) (n : ℕ) → Within z → Within (int_div z (pos n))
div_within (pos a) n k = let d = div-le_self a n in record { above = omega (arith, ints); below = omega (arith, ints, k.below, d) }
div_within (negsuc a) n k = neg_within (suc a / n) (suc a) (div-le_self (suc a) n) k.above
  where
    neg_within : (q a : ℕ) → q ≤ a → negsuc 9223372036854775807 ≤ℤ neg_ℤ (pos a) → Within (neg_ℤ (pos q))
    neg_within q a d l = record { above = omega (arith, ints, l, d); below = omega (arith, ints) }

-- by a positive number
pub div_by : {p : Option ℤ} {x : ℤ} → p ≡ Some x → (n : ℕ) → 0 < n → Within x → operate Div p (Some (pos n)) ≡ Some (int_div x (pos n))
div_by {x} e n h k = div_is e refl (not_zero n h) (div_within x n k)

pub rem_by : {p : Option ℤ} {x : ℤ} → p ≡ Some x → (n : ℕ) → 0 < n → Within x → operate Rem p (Some (pos n)) ≡ Some (int_rem x (pos n))
rem_by {x} e n h k = rem_is e refl (not_zero n h) (div_within x n k)

-- ---- comparisons

pub lt_is : {p q : Option ℤ} {x y : ℤ} → p ≡ Some x → q ≡ Some y → operate Lt p q ≡ Some (truth (int_lt x y))
lt_is e f = rw (e, f) refl

pub le_is : {p q : Option ℤ} {x y : ℤ} → p ≡ Some x → q ≡ Some y → operate Le p q ≡ Some (truth (int_le x y))
le_is e f = rw (e, f) refl

pub gt_is : {p q : Option ℤ} {x y : ℤ} → p ≡ Some x → q ≡ Some y → operate Gt p q ≡ Some (truth (int_lt y x))
gt_is e f = rw (e, f) refl

pub ge_is : {p q : Option ℤ} {x y : ℤ} → p ≡ Some x → q ≡ Some y → operate Ge p q ≡ Some (truth (int_le y x))
ge_is e f = rw (e, f) refl

pub eq_is : {p q : Option ℤ} {x y : ℤ} → p ≡ Some x → q ≡ Some y → operate Eq p q ≡ Some (truth (int_eq x y))
eq_is e f = rw (e, f) refl

pub ne_is : {p q : Option ℤ} {x y : ℤ} → p ≡ Some x → q ≡ Some y → operate Ne p q ≡ Some (truth (not (int_eq x y)))
ne_is {x} {y} e f = rw (e, f) (by_case (int_eq x y))
  where
    by_case : (t : Bool) → Some (truth (if t then false else true)) ≡ Some (truth (not t))
    by_case true = refl
    by_case false = refl

-- ---- truth

-- the right side is asked for where the left doesn't decide
pub and_is : {p q : Option ℤ} (s t : Bool) → p ≡ Some (truth s) → (s ≡ true → q ≡ Some (truth t)) → operate And p q ≡ Some (truth (s && t))
and_is true true e f = rw (e, f refl) refl
and_is true false e f = rw (e, f refl) refl
and_is false t e f = rw e refl

pub or_is : {p q : Option ℤ} (s t : Bool) → p ≡ Some (truth s) → (s ≡ false → q ≡ Some (truth t)) → operate Or p q ≡ Some (truth (s || t))
or_is true t e f = rw e refl
or_is false true e f = rw (e, f refl) refl
or_is false false e f = rw (e, f refl) refl
