-- Texts in memory, and what larger texts may do.
use Rattle.std.proofs.Common.{◌≡◌, ℕ, zero, suc, ◌<◌, List, [], ◌∷◌, ◌++◌, Bool, true, false, ◌&&◌, refl, ap, ◌∙◌, arith}
use Rattle.std.specs.declared.vec.Vec.{Vec}
use Rattle.std.specs.declared.alloc.Global.{Global}
use Rattle.c_ast.specs.declared.Expr.{Expr}
use Rattle.c_ast.specs.declared.Stmt.{Stmt, If, For}
use Rattle.c_ast.specs.declared.Name.{Name}
use Rattle.c_ast.specs.declared.Bound.{Bound}
use Rattle.c_ast.specs.Syntax.{Statement, Block, done, next, choice, loop}
use Rattle.c_ast.specs.View.{exp_of, statement_of, statements_of}
use Rattle.c_ast.proofs.Views.{choice_is, loop_is}
use Rattle.c_mean.specs.Texts.{May, joined, upto, statement_within, block_within}

-- ---- a statement more

pub pushed : (xs ys : List Stmt) (s : Stmt) → ys ≡ xs ++ s ∷ [] → statements_of ys ≡ joined (statements_of xs) (next (statement_of s) done)
pushed xs ys s e = ap statements_of e ∙ behind xs
  where
    behind : (xs : List Stmt) → statements_of (xs ++ s ∷ []) ≡ joined (statements_of xs) (next (statement_of s) done)
    behind [] = refl
    behind (x ∷ xs) = ap (next (statement_of x)) (behind xs)

pub pushed_choice : (xs ys : List Stmt) (e : Expr) (a b : Vec Stmt Global) → ys ≡ xs ++ If e a b ∷ []
    → statements_of ys ≡ joined (statements_of xs) (next (choice (exp_of e) (statements_of a.items) (statements_of b.items)) done)
pushed_choice xs ys e a b q = pushed xs ys (If e a b) q ∙ ap (λ (s : Statement). joined (statements_of xs) (next s done)) (choice_is e a b)

pub pushed_loop : (xs ys : List Stmt) (x : Name) (n : Bound) (a : Vec Stmt Global) → ys ≡ xs ++ For x n a ∷ []
    → statements_of ys ≡ joined (statements_of xs) (next (loop x n (statements_of a.items)) done)
pushed_loop xs ys x n a q = pushed xs ys (For x n a) q ∙ ap (λ (s : Statement). joined (statements_of xs) (next s done)) (loop_is x n a)

pub statements_joined : (xs ys : List Stmt) → statements_of (xs ++ ys) ≡ joined (statements_of xs) (statements_of ys)
statements_joined [] ys = refl
statements_joined (x ∷ xs) ys = ap (next (statement_of x)) (statements_joined xs ys)

-- ---- what they may do

pub joined_within : (may : May) (a b : Block) → block_within may a ≡ true → block_within may b ≡ true → block_within may (joined a b) ≡ true
joined_within may done b p q = q
joined_within may (next s a) b p q = first (statement_within may s) p (joined_within may a b)
  where
    first : (t : Bool) → t && block_within may a ≡ true → (block_within may a ≡ true → block_within may b ≡ true → block_within may (joined a b) ≡ true)
        → t && block_within may (joined a b) ≡ true
    first true p go = go p q
    first false p go = p

pub upto_within : (may : May) (f : ℕ → Block) (n : ℕ) → ((e : ℕ) → e < n → block_within may (f e) ≡ true) → block_within may (upto f n) ≡ true
upto_within may f zero go = refl
upto_within may f (suc n) go = joined_within may (upto f n) (f n) (upto_within may f n (λ e h. go e (omega (arith, h)))) (go n (omega arith))
