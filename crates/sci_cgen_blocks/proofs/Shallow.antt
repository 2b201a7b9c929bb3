-- How deep the texts of recipes nest: what follows a stop stands in its else.
use Rattle.std.proofs.Common.{◌≡◌, ℕ, zero, suc, ◌+◌, ◌-◌, ◌^◌, ◌≤◌, ◌<◌, Bool, true, false, if◌then◌else◌, refl, ap, arith, List, [], ◌∷◌, ◌++◌, length, pos}
use Rattle.std.specs.Prelude.{int_lt, unsigned_abs}
use Rattle.std.specs.Int.{int_rem_euclid}
use Rattle.sci_base.specs.declared.Ty.{Ty}
use Rattle.sci_base.specs.declared.Ty.TheVariants.{U32}
use Rattle.sci_base.specs.declared.Mode.{Mode}
use Rattle.sci_base.specs.declared.Mode.TheVariants.{Wrap, Saturate, Stop}
use Rattle.sci_base.specs.Fit.{width, int_eq}
use Rattle.sci_forms.specs.declared.Kind.{Kind}
use Rattle.sci_forms.specs.declared.Kind.TheVariants.{Summation, GainBlk, Product, MaxMin, LogicalOp, Shift, Switch2, Select, Logic}
use Rattle.sci_forms.specs.declared.spec.Spec.{Spec}
use Rattle.sci_forms.specs.Words.{param, out_type}
use Rattle.sci_kinds.specs.Table.{mode_of}
use Rattle.c_ast.specs.declared.Op.{Op}
use Rattle.c_ast.specs.declared.Op.TheVariants.{Lt, Gt}
use Rattle.sci_cgen_blocks.specs.declared.logical_kinds.Join.{Join}
use Rattle.sci_cgen_blocks.specs.Terms.{Term, input, along, Work, Step, change, stop_if, repeat, Way, each, all, decide}
use Rattle.sci_cgen_blocks.specs.Recipes.{plain, fit_steps, large_product, product, quotient, terms, extremes, counted, truth, changed, logical_truths, join_of, patterns_joined, logical_bits, shifted, turned, recipe_of, worked_of, part_of, is_alike, row, are_as, decided, first_activated, way_of}

-- the depth of what follows steps, where their text is d deep before
abbrev pub deepened : List Step → ℕ → ℕ
deepened [] d = d
deepened (change w ∷ xs) d = deepened xs d
deepened (stop_if c word ∷ xs) d = suc (deepened xs d)
deepened (repeat n k ws ∷ xs) d = deepened xs d

pub deepened_sum : (xs : List Step) (d : ℕ) → deepened xs d ≡ deepened xs 0 + d
deepened_sum [] d = omega arith
deepened_sum (change w ∷ xs) d = deepened_sum xs d
deepened_sum (stop_if c word ∷ xs) d = let less = deepened_sum xs d in omega (arith, less)
deepened_sum (repeat n k ws ∷ xs) d = deepened_sum xs d

deepened_behind : (xs ys : List Step) (d : ℕ) → deepened (xs ++ ys) d ≡ deepened xs (deepened ys d)
deepened_behind [] ys d = refl
deepened_behind (change w ∷ xs) ys d = deepened_behind xs ys d
deepened_behind (stop_if c word ∷ xs) ys d = ap suc (deepened_behind xs ys d)
deepened_behind (repeat n k ws ∷ xs) ys d = deepened_behind xs ys d

-- ---- steps

fit_deepened : (ty : Ty) (m : Mode) → deepened (fit_steps ty m) 0 ≤ 1
fit_deepened ty Wrap = omega arith
fit_deepened ty Saturate = omega arith
fit_deepened ty Stop = omega arith

terms_deepened : (s : Spec) (k n d : ℕ) → deepened (terms s k n) d ≡ d
terms_deepened s k zero d = refl
terms_deepened s k (suc n) d = terms_deepened s (suc k) n d

extremes_deepened : (op : Op) (k n : ℕ) → deepened (extremes op k n) 0 ≡ 0
extremes_deepened op k zero = refl
extremes_deepened op k (suc n) = extremes_deepened op (suc k) n

changed_deepened : (ws : List Work) → deepened (changed ws) 0 ≡ 0
changed_deepened [] = refl
changed_deepened (w ∷ ws) = changed_deepened ws

patterns_deepened : (ty : Ty) (j : Join) (k n : ℕ) → deepened (patterns_joined ty j k n) 0 ≡ 0
patterns_deepened ty j k zero = refl
patterns_deepened ty j k (suc n) = patterns_deepened ty j (suc k) n

large_deepened : (m : Mode) (a b : Term) → deepened (large_product m a b) 0 ≤ 2
large_deepened Wrap a b = omega arith
large_deepened Saturate a b = omega arith
large_deepened Stop a b = omega arith

product_deepened : (ty : Ty) (m : Mode) (a b : Term) → deepened (product ty m a b).steps 0 ≤ 2
product_deepened U32 m a b = large_deepened m a b
product_deepened ty m a b = let few = fit_deepened ty m in omega (arith, few)

quotient_deepened : (ty : Ty) (m : Mode) (a b : Term) → deepened (quotient ty m a b).steps 0 ≤ 2
quotient_deepened ty m a b = let few = fit_deepened ty m in omega (arith, few)

sum_deepened : (s : Spec) → deepened (recipe_of Summation s).steps 0 ≤ 2
sum_deepened s =
    let fits = fit_steps (out_type s) (mode_of (param s 0)) in
    let few = fit_deepened (out_type s) (mode_of (param s 0)) in
    let behind = deepened_behind (terms s 0 (length s.ins)) fits 0 in
    let same = terms_deepened s 0 (length s.ins) (deepened fits 0) in
    omega (arith, few, behind, same)

-- ---- recipes

-- no more than two stops stand one behind the other: of a quotient a divisor of 0, and what doesn't fit
recipe_deepened : (k : Kind) (s : Spec) → deepened (recipe_of k s).steps 0 ≤ 2
recipe_deepened Summation s = sum_deepened s
recipe_deepened GainBlk s = product_deepened (out_type s) (mode_of (param s 0)) _ _
recipe_deepened Product s = by_sign (int_eq (param s 1) (pos 1))
  where
    by_sign : (t : Bool) → deepened (if t then product (out_type s) (mode_of (param s 0)) (along 0) (along 1)
        else quotient (out_type s) (mode_of (param s 0)) (along 0) (along 1)).steps 0 ≤ 2
    by_sign true = product_deepened (out_type s) (mode_of (param s 0)) (along 0) (along 1)
    by_sign false = quotient_deepened (out_type s) (mode_of (param s 0)) (along 0) (along 1)
recipe_deepened MaxMin s =
    let none = extremes_deepened (if int_eq (param s 0) (pos 1) then Lt else Gt) 1 (length s.ins - 1) in omega (arith, none)
recipe_deepened LogicalOp s = by_bits (int_eq (param s 1) (pos 0))
  where
    by_bits : (t : Bool)
        → deepened (if t then logical_truths (param s 0) (length s.ins) else logical_bits (out_type s) (param s 0) (length s.ins)).steps 0 ≤ 2
    by_bits true = let none = changed_deepened (counted (λ k. truth (along k)) 0 (length s.ins)) in omega (arith, none)
    by_bits false = let none = patterns_deepened (out_type s) (join_of (param s 0)) 1 (length s.ins - 1) in omega (arith, none)
recipe_deepened Shift s = by_turn (int_eq (param s 1) (pos 0))
  where
    by_sign : (t : Bool) (a b : Term) → deepened (if t then plain a else plain b).steps 0 ≤ 2
    by_sign true a b = omega arith
    by_sign false a b = omega arith

    by_turn : (t : Bool) → deepened (if t then shifted (out_type s) (param s 0) (along 0)
        else turned (out_type s) (unsigned_abs (int_rem_euclid (param s 0) (pos (width (out_type s))))) (along 0)).steps 0 ≤ 2
    by_turn true = by_sign (int_lt (param s 0) (pos 0)) _ _
    by_turn false = omega arith
recipe_deepened _ s = let few = fit_deepened (out_type s) (mode_of (param s 0)) in omega (arith, few)

-- ---- ways

-- the recipes of n elements nest no deeper
abbrev pub AreShallow : ℕ → Way → Type 0
AreShallow n (each f) = (e : ℕ) → e < n → deepened (f e).steps 0 ≤ 2
AreShallow n (all m x) = deepened x.steps 0 ≤ 2
AreShallow n (decide c a b) = AreShallow n a × AreShallow n b

chosen_shallow : (n k m : ℕ) → AreShallow n (first_activated k m)
chosen_shallow n k zero = omega arith
chosen_shallow n k (suc m) = (omega arith, chosen_shallow n (suc k) m)

rows_shallow : (n : ℕ) (s : Spec) (k m r : ℕ) → AreShallow n (decided s k m r)
rows_shallow n s k zero r = λ e l. omega arith
rows_shallow n s k (suc m) r =
    row_or (are_as s r r (2 ^ suc m)) (decided s (suc k) m (r + 2 ^ m)) (decided s (suc k) m r) (rows_shallow n s (suc k) m (r + 2 ^ m)) (rows_shallow n s (suc k) m r)
  where
    row_or : (t : Bool) (a b : Way) → AreShallow n a → AreShallow n b → AreShallow n (if t then row s r else decide (input k 0) a b)
    row_or true a b f g = λ e l. omega arith
    row_or false a b f g = (f, g)

alike_shallow : (n : ℕ) (k : Kind) (s : Spec) (t : Bool)
    → AreShallow n (if t then all (worked_of k s) (recipe_of k s) else each (λ e. plain (part_of k s e)))
alike_shallow n k s true = recipe_deepened k s
alike_shallow n k s false = λ e l. omega arith

pub way_shallow : (n : ℕ) (k : Kind) (s : Spec) → AreShallow n (way_of k s)
way_shallow n Switch2 s = (omega arith, omega arith)
way_shallow n Select s = chosen_shallow n 0 (s.evtin - 1)
way_shallow n Logic s = rows_shallow n s 0 (length s.ins) 0
way_shallow n k s = alike_shallow n k s (is_alike k s)
