-- Values of expressions.
use Rattle.std.proofs.Common.{◌≡◌, ℕ, ◌^◌, ◌<◌, ◌+ℤ◌, ◌-ℤ◌, ◌*ℤ◌, Option, Some, None, Bool, true, false, ◌&&◌, ◌||◌, refl, ap, ◌∙◌, arith, ℤ, pos, negsuc, nat_eq, nat_lt, if◌then◌else◌, lt-ltb, ne_eqb, eq-eqb, eqb-true}
use Rattle.std.specs.Prelude.{int_lt, int_le, int_div, int_rem, neg_ℤ, not}
use Rattle.std.proofs.lemmas.Bool.{cond-true}
use Rattle.std.proofs.lemmas.Int.{ints}
use Rattle.sci_base.proofs.FitLemmas.{int_le_yes}
use Rattle.c_ast.specs.declared.Name.{Name}
use Rattle.c_ast.specs.declared.Op.TheVariants.{Add, Sub, Mul, Div, Rem, Lt, Le, Gt, Ge, Eq, Ne, And, Or}
use Rattle.c_ast.specs.Syntax.{Exp, num, var, element, neg, not as denied, bin}
use Rattle.c_mean.specs.Meaning.{World, in_word, is_zero, truth, index, operate, ◌>>=◌}
use Rattle.c_mean.specs.Places.{get, value_of}
use Rattle.c_mean.specs.Texts.{number, reads_only}
use Rattle.c_mean.proofs.Memory.{and_left, and_right}
use Rattle.c_mean.specs.Laws.{Within}

pub in_word_is : (z : ℤ) → Within z → in_word z ≡ Some z
in_word_is (pos n) h = cond-true (nat_lt n (2 ^ 63)) (Some (pos n)) None (lt-ltb n (2 ^ 63) (omega (arith, ints, h.below)))
in_word_is (negsuc n) h = cond-true (nat_lt n (2 ^ 63)) (Some (negsuc n)) None (lt-ltb n (2 ^ 63) (omega (arith, ints, h.above)))

pub number_is : (z : ℤ) (w : World) → Within z → value_of (number z) w ≡ Some z
number_is (pos n) w h = refl
number_is (negsuc n) w h = in_word_is (negsuc n) h

-- an element whose index is computed
pub element_is : (a : Name) (e : Exp) (w : World) (i : ℕ) (v : ℤ) → value_of e w ≡ Some (pos i) → get w a i ≡ Some v → value_of (element a e) w ≡ Some v
element_is a e w i v p q = rw p q

-- ---- numbers

pub neg_is : (a : Exp) (w : World) (x : ℤ) → value_of a w ≡ Some x → Within (neg_ℤ x) → value_of (neg a) w ≡ Some (neg_ℤ x)
neg_is a w x p h = rw p (in_word_is (neg_ℤ x) h)

pub add_is : (a b : Exp) (w : World) (x y : ℤ) → value_of a w ≡ Some x → value_of b w ≡ Some y → Within (x +ℤ y) → value_of (bin Add a b) w ≡ Some (x +ℤ y)
add_is a b w x y p q h = rw (p, q) (in_word_is (x +ℤ y) h)

pub sub_is : (a b : Exp) (w : World) (x y : ℤ) → value_of a w ≡ Some x → value_of b w ≡ Some y → Within (x -ℤ y) → value_of (bin Sub a b) w ≡ Some (x -ℤ y)
sub_is a b w x y p q h = rw (p, q) (in_word_is (x -ℤ y) h)

pub mul_is : (a b : Exp) (w : World) (x y : ℤ) → value_of a w ≡ Some x → value_of b w ≡ Some y → Within (x *ℤ y) → value_of (bin Mul a b) w ≡ Some (x *ℤ y)
mul_is a b w x y p q h = rw (p, q) (in_word_is (x *ℤ y) h)

pub div_is : (a b : Exp) (w : World) (x y : ℤ) → value_of a w ≡ Some x → value_of b w ≡ Some y → is_zero y ≡ false → Within (int_div x y)
    → value_of (bin Div a b) w ≡ Some (int_div x y)
div_is a b w x y p q z h = rw (p, q, z) (in_word_is (int_div x y) h)

pub rem_is : (a b : Exp) (w : World) (x y : ℤ) → value_of a w ≡ Some x → value_of b w ≡ Some y → is_zero y ≡ false → Within (int_div x y)
    → value_of (bin Rem a b) w ≡ Some (int_rem x y)
rem_is a b w x y p q z h = rw (p, q, z) (ap (λ (o : Option ℤ). o >>= λ q. Some (int_rem x y)) (in_word_is (int_div x y) h))

pub not_zero : (n : ℕ) → 0 < n → is_zero (pos n) ≡ false
not_zero n h = ne_eqb n 0 (λ e. omega (arith, e, h))

-- by a positive number
pub rem_by : (a : Exp) (n : ℕ) (w : World) (x : ℤ) → value_of a w ≡ Some x → 0 < n → Within (int_div x (pos n))
    → value_of (bin Rem a (num (pos n))) w ≡ Some (int_rem x (pos n))
rem_by a n w x p h d = rem_is a (num (pos n)) w x (pos n) p refl (not_zero n h) d

-- ---- comparisons

pub lt_is : (a b : Exp) (w : World) (x y : ℤ) → value_of a w ≡ Some x → value_of b w ≡ Some y → value_of (bin Lt a b) w ≡ Some (truth (int_lt x y))
lt_is a b w x y p q = rw (p, q) refl

pub le_is : (a b : Exp) (w : World) (x y : ℤ) → value_of a w ≡ Some x → value_of b w ≡ Some y → value_of (bin Le a b) w ≡ Some (truth (int_le x y))
le_is a b w x y p q = rw (p, q) refl

pub gt_is : (a b : Exp) (w : World) (x y : ℤ) → value_of a w ≡ Some x → value_of b w ≡ Some y → value_of (bin Gt a b) w ≡ Some (truth (int_lt y x))
gt_is a b w x y p q = rw (p, q) refl

pub ge_is : (a b : Exp) (w : World) (x y : ℤ) → value_of a w ≡ Some x → value_of b w ≡ Some y → value_of (bin Ge a b) w ≡ Some (truth (int_le y x))
ge_is a b w x y p q = rw (p, q) refl

pub eq_is : (a b : Exp) (w : World) (x y : ℤ) → value_of a w ≡ Some x → value_of b w ≡ Some y
    → value_of (bin Eq a b) w ≡ Some (truth (int_le x y && int_le y x))
eq_is a b w x y p q = rw (p, q) refl

pub ne_is : (a b : Exp) (w : World) (x y : ℤ) → value_of a w ≡ Some x → value_of b w ≡ Some y
    → value_of (bin Ne a b) w ≡ Some (truth (not (int_le x y && int_le y x)))
ne_is a b w x y p q = rw (p, q) (by_case (int_le x y && int_le y x))
  where
    by_case : (t : Bool) → Some (truth (if t then false else true)) ≡ Some (truth (not t))
    by_case true = refl
    by_case false = refl

-- numbers from 0 on are the same as such
pub same_ints : (i j : ℕ) → int_le (pos i) (pos j) && int_le (pos j) (pos i) ≡ nat_eq i j
same_ints i j = by_case (nat_eq i j) refl
  where
    both : (a b : Bool) → a ≡ true → b ≡ true → a && b ≡ true
    both a b e f = rw (e, f) refl

    by_case : (t : Bool) → nat_eq i j ≡ t → int_le (pos i) (pos j) && int_le (pos j) (pos i) ≡ t
    by_case true e =
        let d : i ≡ j = eqb-true i j e in both _ _ (int_le_yes (pos i) (pos j) (omega (arith, ints, d))) (int_le_yes (pos j) (pos i) (omega (arith, ints, d)))
    by_case false e = grind (arith, ints, eq-eqb)

pub same_is : (a b : Exp) (w : World) (i j : ℕ) → value_of a w ≡ Some (pos i) → value_of b w ≡ Some (pos j)
    → value_of (bin Eq a b) w ≡ Some (truth (nat_eq i j))
same_is a b w i j p q = eq_is a b w (pos i) (pos j) p q ∙ ap (λ (t : Bool). Some (truth t)) (same_ints i j)

-- ---- truth

pub and_is : (a b : Exp) (w : World) (s t : Bool) → value_of a w ≡ Some (truth s) → (s ≡ true → value_of b w ≡ Some (truth t))
    → value_of (bin And a b) w ≡ Some (truth (s && t))
and_is a b w true true p q = rw (p, q refl) refl
and_is a b w true false p q = rw (p, q refl) refl
and_is a b w false t p q = rw p refl

pub or_is : (a b : Exp) (w : World) (s t : Bool) → value_of a w ≡ Some (truth s) → (s ≡ false → value_of b w ≡ Some (truth t))
    → value_of (bin Or a b) w ≡ Some (truth (s || t))
or_is a b w true t p q = rw p refl
or_is a b w false true p q = rw (p, q refl) refl
or_is a b w false false p q = rw (p, q refl) refl

-- whether it is zero
pub zero_is : (a : Exp) (w : World) (x : ℤ) → value_of a w ≡ Some x → value_of (denied a) w ≡ Some (truth (is_zero x))
zero_is a w x p = rw p refl

pub not_is : (a : Exp) (w : World) (t : Bool) → value_of a w ≡ Some (truth t) → value_of (denied a) w ≡ Some (truth (not t))
not_is a w true p = rw p refl
not_is a w false p = rw p refl

-- ---- what a value depends on

-- where what it reads is the same, an expression has the same value
pub value_stays : (names : Name → Bool) (e : Exp) (w w' : World) → reads_only names e ≡ true → ((x : Name) (i : ℕ) → names x ≡ true → get w' x i ≡ get w x i)
    → value_of e w' ≡ value_of e w
value_stays names (num z) w w' h same = refl
value_stays names (var x) w w' h same = same x 0 h
value_stays names (element x e) w w' h same =
    ap (λ (o : Option ℤ). o >>= λ v. index v >>= λ i. get w' x i) (value_stays names e w w' (and_right (names x) _ h) same) ∙ by_value (value_of e w)
  where
    by_index : (o : Option ℕ) → (o >>= λ i. get w' x i) ≡ (o >>= λ i. get w x i)
    by_index None = refl
    by_index (Some i) = same x i (and_left (names x) (reads_only names e) h)

    by_value : (o : Option ℤ) → (o >>= λ v. index v >>= λ i. get w' x i) ≡ (o >>= λ v. index v >>= λ i. get w x i)
    by_value None = refl
    by_value (Some v) = by_index (index v)
value_stays names (neg e) w w' h same = ap (λ (o : Option ℤ). o >>= λ v. in_word (neg_ℤ v)) (value_stays names e w w' h same)
value_stays names (denied e) w w' h same = ap (λ (o : Option ℤ). o >>= λ v. Some (truth (is_zero v))) (value_stays names e w w' h same)
value_stays names (bin op a b) w w' h same =
    ap (λ (o : Option ℤ). operate op o (value_of b w')) (value_stays names a w w' (and_left _ (reads_only names b) h) same)
    ∙ ap (operate op (value_of a w)) (value_stays names b w w' (and_right (reads_only names a) _ h) same)
