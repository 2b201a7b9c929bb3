-- The rows of statements with lists in them.
use Rattle.std.proofs.Common.{◌≡◌, ℕ, suc, ◌+◌, ◌<◌, List, [], ◌∷◌, ◌++◌, length, get_or, drop, Bool, refl, sym, ap, ◌∙◌, subst, arith, add-one}
use Rattle.std.proofs.lemmas.List.{drop_more}
use Rattle.std.specs.declared.vec.Vec.{Vec}
use Rattle.std.specs.declared.alloc.Global.{Global}
use Rattle.std.specs.Borrow.{MutBor}
use Rattle.sci_io.specs.Taken.{SinkState}
use Rattle.c_ast.specs.declared.Name.{Name}
use Rattle.c_ast.specs.declared.Bound.{Bound}
use Rattle.c_ast.specs.declared.Expr.{Expr}
use Rattle.c_ast.specs.declared.Stmt.{Stmt, If, For}
use Rattle.c_ast.specs.Syntax.{Statement}
use Rattle.c_ast.specs.View.{exp_of, statement_of, statements_of}
use Rattle.c_ast.specs.Spelling.{row_of, row_text, rows_text, at_depth, if_line, else_line, for_line, close_line, statement_rows, block_rows, else_rows}
use Rattle.c_ast.proofs.Views.{choice_is, loop_is}
use Rattle.c_print.specs.Goes.{Goes}
use Rattle.c_print.proofs.Steps.{goes_as, rows_then, one_row, Towards, towards_more}

-- a list in memory, one level deeper
deeper : {X : Type 0} {state : X → SinkState} {p q : MutBor X} {f g : Bool} (d : ℕ) (l m : List Stmt) → l ≡ m → Goes state p f q g (rows_text (block_rows (d + 1) (statements_of l))) → Goes state p f q g (rows_text (block_rows (suc d) (statements_of m)))
deeper {state = state} {p = p} {q = q} {f = f} {g = g} d l m is w =
    subst (λ (k : ℕ). Goes state p f q g (rows_text (block_rows k (statements_of m)))) (add-one d) (subst (λ (n : List Stmt). Goes state p f q g (rows_text (block_rows (d + 1) (statements_of n)))) is w)

pub if_goes : {X : Type 0} {state : X → SinkState} {p q w v : MutBor X} {f g h k : Bool} (d : ℕ) (s : Stmt) (e : Expr) (a b : Vec Stmt Global) (la lb : List Stmt) → s ≡ If e a b → la ≡ a.items → lb ≡ b.items
    → Goes state p f q g (row_text (row_of d (if_line (exp_of e)))) → Goes state q g w h (rows_text (block_rows (d + 1) (statements_of la))) → Goes state w h v k (rows_text (else_rows d (statements_of lb)))
    → Goes state p f v k (rows_text (statement_rows d (statement_of s)))
if_goes {state = state} {w = w} {v = v} {h = h} {k = k} d s e a b la lb is ia ib x y z =
    goes_as (ap (λ (t : Statement). rows_text (statement_rows d t)) (ap statement_of is ∙ choice_is e a b))
    (rows_then (at_depth d (if_line (exp_of e))) (block_rows (suc d) (statements_of a.items) ++ else_rows d (statements_of b.items)) (one_row d (if_line (exp_of e)) x)
    (rows_then (block_rows (suc d) (statements_of a.items)) (else_rows d (statements_of b.items)) (deeper d la a.items ia y)
    (subst (λ (n : List Stmt). Goes state w h v k (rows_text (else_rows d (statements_of n)))) ib z)))

pub for_goes : {X : Type 0} {state : X → SinkState} {p q w v : MutBor X} {f g h k : Bool} (d : ℕ) (s : Stmt) (x : Name) (n : Bound) (a : Vec Stmt Global) (la : List Stmt) → s ≡ For x n a → la ≡ a.items
    → Goes state p f q g (row_text (row_of d (for_line x n))) → Goes state q g w h (rows_text (block_rows (d + 1) (statements_of la))) → Goes state w h v k (row_text (row_of d close_line))
    → Goes state p f v k (rows_text (statement_rows d (statement_of s)))
for_goes d s x n a la is ia r y z =
    goes_as (ap (λ (t : Statement). rows_text (statement_rows d t)) (ap statement_of is ∙ loop_is x n a))
    (rows_then (at_depth d (for_line x n)) (block_rows (suc d) (statements_of a.items) ++ at_depth d close_line) (one_row d (for_line x n) r)
    (rows_then (block_rows (suc d) (statements_of a.items)) (at_depth d close_line) (deeper d la a.items ia y) (one_row d close_line z)))

-- an If's second list that isn't empty
pub else_goes : {X : Type 0} {state : X → SinkState} {p q w v : MutBor X} {f g h k : Bool} (d : ℕ) (l : List Stmt) → 0 < length l
    → Goes state p f q g (row_text (row_of d else_line)) → Goes state q g w h (rows_text (block_rows (d + 1) (statements_of l))) → Goes state w h v k (row_text (row_of d close_line))
    → Goes state p f v k (rows_text (else_rows d (statements_of l)))
else_goes d [] some x y z = absurd (omega arith)
else_goes d (s ∷ ss) some x y z =
    rows_then (at_depth d else_line) (block_rows (suc d) (statements_of (s ∷ ss)) ++ at_depth d close_line) (one_row d else_line x)
    (rows_then (block_rows (suc d) (statements_of (s ∷ ss))) (at_depth d close_line) (deeper d (s ∷ ss) (s ∷ ss) refl y) (one_row d close_line z))

-- and one that is empty
pub closing_goes : {X : Type 0} {state : X → SinkState} {p q : MutBor X} {f g : Bool} (d : ℕ) (l : List Stmt) → length l ≡ 0 → Goes state p f q g (row_text (row_of d close_line)) → Goes state p f q g (rows_text (else_rows d (statements_of l)))
closing_goes d [] none x = one_row d close_line x
closing_goes d (s ∷ ss) none x = absurd (omega arith)

-- the next statement of a list
pub statement_goes : {X : Type 0} {state : X → SinkState} {p q w : MutBor X} {f g h : Bool} (d : ℕ) (l : List Stmt) (i : ℕ) (s : Stmt) → i < length l → s ≡ get_or l i s
    → Towards state p f q g (block_rows d (statements_of l)) (block_rows d (statements_of (drop i l))) → Goes state q g w h (rows_text (statement_rows d (statement_of s)))
    → Towards state p f w h (block_rows d (statements_of l)) (block_rows d (statements_of (drop (i + 1) l)))
statement_goes {state = state} {p = p} {q = q} {f = f} {g = g} d l i s within is t x =
    let e = drop_more l i s within ∙ ap (λ (u : Stmt). u ∷ drop (i + 1) l) (sym is) in
    towards_more (statement_rows d (statement_of s)) (block_rows d (statements_of (drop (i + 1) l)))
    (subst (λ (m : List Stmt). Towards state p f q g (block_rows d (statements_of l)) (block_rows d (statements_of m))) e t) x
