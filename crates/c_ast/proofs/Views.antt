-- The plain values of statements with lists in them.
use Rattle.std.proofs.Common.{◌≡◌, ap, rules}
use Rattle.std.specs.declared.vec.Vec.{Vec}
use Rattle.std.specs.declared.alloc.Global.{Global}
use Rattle.c_ast.specs.declared.Name.{Name}
use Rattle.c_ast.specs.declared.Bound.{Bound}
use Rattle.c_ast.specs.declared.Expr.{Expr}
use Rattle.c_ast.specs.declared.Stmt.{Stmt, If, For, Row_of-Stmt, end_of-Stmt, more_of-Stmt, items-the_row-Stmt, the_lemmas}
use Rattle.c_ast.specs.Syntax.{choice, loop, next}
use Rattle.c_ast.specs.View.{exp_of, statement_of, row_of, statements_of}

row_is : (n : _) (row : Row_of-Stmt n) → row_of row ≡ statements_of (items-the_row-Stmt n row)
row_is _ end_of-Stmt = search (rules, the_lemmas)
row_is _ (more_of-Stmt s row) = search (rules, the_lemmas, ap (next (statement_of s)) (row_is _ row))

pub choice_is : (e : Expr) (a b : Vec Stmt Global) → statement_of (If e a b) ≡ choice (exp_of e) (statements_of a.items) (statements_of b.items)
choice_is e a b = search (rules, the_lemmas, row_is)

pub loop_is : (x : Name) (n : Bound) (a : Vec Stmt Global) → statement_of (For x n a) ≡ loop x n (statements_of a.items)
loop_is x n a = search (rules, the_lemmas, row_is)
