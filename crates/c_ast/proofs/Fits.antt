-- The bounds of a statement's parts.
use Rattle.std.proofs.Common.{◌≡◌, ℕ, zero, suc, ◌-◌, ◌<◌, List, [], ◌∷◌, length, get_or, sym, ap, ◌∙◌, subst, arith}
use Rattle.std.specs.declared.vec.Vec.{Vec}
use Rattle.std.specs.declared.alloc.Global.{Global}
use Rattle.c_ast.specs.declared.Name.{Name}
use Rattle.c_ast.specs.declared.Bound.{Bound}
use Rattle.c_ast.specs.declared.Expr.{Expr}
use Rattle.c_ast.specs.declared.Stmt.{Stmt, If, For}
use Rattle.c_ast.specs.Syntax.{Exp, Statement, choice, loop, Block}
use Rattle.c_ast.specs.View.{exp_of, statement_of, statements_of}
use Rattle.c_ast.specs.Bounds.{StatementFits, BlockFits}
use Rattle.c_ast.proofs.Views.{choice_is, loop_is}

-- a statement has some room
pub some_room : (d : ℕ) (s : Statement) → StatementFits d s → 0 < d
some_room zero s f = absurd f
some_room (suc d) s f = omega arith

pub choice_parts : (d k : ℕ) (e : Exp) (a b : Block) → k ≡ d - 1 → StatementFits d (choice e a b) → BlockFits k a × BlockFits k b
choice_parts zero k e a b is f = absurd f
choice_parts (suc d) k e a b is f = let same : d ≡ k = omega arith in (subst (λ (n : ℕ). BlockFits n a) same f.1, subst (λ (n : ℕ). BlockFits n b) same f.2)

pub loop_part : (d k : ℕ) (x : Name) (n : Bound) (b : Block) → k ≡ d - 1 → StatementFits d (loop x n b) → BlockFits k b
loop_part zero k x n b is f = absurd f
loop_part (suc d) k x n b is f = let same : d ≡ k = omega arith in subst (λ (n : ℕ). BlockFits n b) same f.2

-- the parts of an If and of a For in memory
pub if_fits : (d k : ℕ) (s : Stmt) (e : Expr) (a b : Vec Stmt Global) → s ≡ If e a b → k ≡ d - 1 → StatementFits d (statement_of s) → BlockFits k (statements_of a.items) × BlockFits k (statements_of b.items)
if_fits d k s e a b is less f = choice_parts d k (exp_of e) (statements_of a.items) (statements_of b.items) less (subst (StatementFits d) (ap statement_of is ∙ choice_is e a b) f)

pub for_fits : (d k : ℕ) (s : Stmt) (x : Name) (n : Bound) (a : Vec Stmt Global) → s ≡ For x n a → k ≡ d - 1 → StatementFits d (statement_of s) → BlockFits k (statements_of a.items)
for_fits d k s x n a is less f = loop_part d k x n (statements_of a.items) less (subst (StatementFits d) (ap statement_of is ∙ loop_is x n a) f)

pub item_fits : (d : ℕ) (l : List Stmt) (i : ℕ) (s : Stmt) → i < length l → s ≡ get_or l i s → BlockFits d (statements_of l) → StatementFits d (statement_of s)
item_fits d [] i s h e f = absurd (omega arith)
item_fits d (t ∷ l) zero s h e f = subst (λ (u : Stmt). StatementFits d (statement_of u)) (sym e) f.0
item_fits d (t ∷ l) (suc i) s h e f = let less : i < length l = omega arith in item_fits d l i s less e f.1

-- a list that isn't empty has some room
pub list_room : (d : ℕ) (l : List Stmt) → 0 < length l → BlockFits d (statements_of l) → 0 < d
list_room d [] h f = absurd (omega arith)
list_room d (t ∷ l) h f = some_room d (statement_of t) f.0
