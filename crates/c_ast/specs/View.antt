-- The plain value that a tree in memory stands for.
use Rattle.std.specs.Prelude.{ℕ, pos, List, [], ◌∷◌, map}
use Rattle.c_ast.specs.Syntax.{Exp, num, var, element, neg, not, bin, Place, scalar, cell, Asked, more, input, until, limit, Told, start, event, value, finish, stop, Statement, set, ask, choice, loop, call, tell, Block, done, next, Declared, Function, Whole}
use Rattle.c_ast.specs.declared.Expr.{Expr}
use Rattle.c_ast.specs.declared.Expr.TheVariants as exprs
use Rattle.c_ast.specs.declared.Target.{Target}
use Rattle.c_ast.specs.declared.Target.TheVariants as target
use Rattle.c_ast.specs.declared.Ask.{Ask}
use Rattle.c_ast.specs.declared.Ask.TheVariants as asks
use Rattle.c_ast.specs.declared.Tell.{Tell}
use Rattle.c_ast.specs.declared.Tell.TheVariants as tells
use Rattle.c_ast.specs.declared.Stmt.{Stmt, Row_of-Stmt, end_of-Stmt, more_of-Stmt}
use Rattle.c_ast.specs.declared.Stmt.TheVariants as stmts
use Rattle.c_ast.specs.declared.Decl.{Decl}
use Rattle.c_ast.specs.declared.Func.{Func}
use Rattle.c_ast.specs.declared.Program.{Program}

abbrev pub exp_of : Expr → Exp
exp_of (exprs.Num n) = num n
exp_of (exprs.Var x) = var x
exp_of (exprs.At' x p e) = element x (exp_of e)
exp_of (exprs.Neg' p e) = neg (exp_of e)
exp_of (exprs.Not' p e) = not (exp_of e)
exp_of (exprs.Bin' op p a q b) = bin op (exp_of a) (exp_of b)

abbrev pub number_of : ℕ → Exp
number_of n = num (pos n)

abbrev pub place_of : Target → Place
place_of (target.Var x) = scalar x
place_of (target.At x e) = cell x (exp_of e)

abbrev pub asked_of : Ask → Asked
asked_of (asks.More e) = more (exp_of e)
asked_of (asks.Input e) = input (exp_of e)
asked_of asks.Until = until
asked_of asks.Limit = limit

abbrev pub told_of : Tell → Told
told_of tells.Start = start
told_of (tells.Event a b c) = event (exp_of a) (exp_of b) (exp_of c)
told_of (tells.Val a b c d) = value (exp_of a) (exp_of b) (exp_of c) (exp_of d)
told_of (tells.End a) = finish (exp_of a)
told_of (tells.Stop a b c) = stop (exp_of a) (exp_of b) (exp_of c)

abbrev mutual
  pub statement_of : Stmt → Statement
  statement_of (stmts.Set t e) = set (place_of t) (exp_of e)
  statement_of (stmts.Ask t a) = ask (place_of t) (asked_of a)
  statement_of (stmts.If' e v a w b) = choice (exp_of e) (row_of a) (row_of b)
  statement_of (stmts.For' x b v s) = loop x b (row_of s)
  statement_of (stmts.Call f) = call f
  statement_of (stmts.Tell t) = tell (told_of t)

  pub row_of : {m : _} → Row_of-Stmt m → Block
  row_of end_of-Stmt = done
  row_of (more_of-Stmt s rest) = next (statement_of s) (row_of rest)

-- the statements of a list in memory
abbrev pub statements_of : List Stmt → Block
statements_of [] = done
statements_of (s ∷ ss) = next (statement_of s) (statements_of ss)

abbrev pub declared_of : Decl → Declared
declared_of d = record { name = d.name; size = d.size }

abbrev pub function_of : Func → Function
function_of f = record { name = f.name; body = statements_of f.body.items }

abbrev pub whole_of : Program → Whole
whole_of p = record { decls = map declared_of p.decls.items; funcs = map function_of p.funcs.items; main = statements_of p.main.items }
