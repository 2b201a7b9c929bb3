-- How large statements are: a number that falls from a statement to those inside it.
use Rattle.std.proofs.Common.{◌≡◌, ℕ, zero, suc, ◌+◌, ◌<◌, List, [], ◌∷◌, length, get_or, ap, ◌∙◌, arith}
use Rattle.std.specs.declared.vec.Vec.{Vec}
use Rattle.std.specs.declared.alloc.Global.{Global}
use Rattle.c_ast.specs.declared.Name.{Name}
use Rattle.c_ast.specs.declared.Bound.{Bound}
use Rattle.c_ast.specs.declared.Expr.{Expr}
use Rattle.c_ast.specs.declared.Stmt.{Stmt, If, For}
use Rattle.c_ast.specs.Syntax.{Statement, set, ask, choice, loop, call, tell, Block, done, next}
use Rattle.c_ast.specs.View.{statement_of, statements_of}
use Rattle.c_ast.proofs.Views.{choice_is, loop_is}

abbrev mutual
  pub statement_size : Statement → ℕ
  statement_size (set p e) = 1
  statement_size (ask p a) = 1
  statement_size (choice e a b) = 1 + block_size a + block_size b
  statement_size (loop x b s) = 1 + block_size s
  statement_size (call f) = 1
  statement_size (tell t) = 1

  pub block_size : Block → ℕ
  block_size done = 0
  block_size (next s b) = 1 + statement_size s + block_size b

abbrev pub size_of : Stmt → ℕ
size_of s = statement_size (statement_of s)

abbrev pub sizes_of : List Stmt → ℕ
sizes_of l = block_size (statements_of l)

pub choice_sizes : (s : Stmt) (e : Expr) (a b : Vec Stmt Global) → s ≡ If e a b → size_of s ≡ 1 + sizes_of a.items + sizes_of b.items
choice_sizes s e a b is = ap size_of is ∙ ap statement_size (choice_is e a b)

pub loop_sizes : (s : Stmt) (x : Name) (n : Bound) (a : Vec Stmt Global) → s ≡ For x n a → size_of s ≡ 1 + sizes_of a.items
loop_sizes s x n a is = ap size_of is ∙ ap statement_size (loop_is x n a)

pub item_size : (l : List Stmt) (i : ℕ) (s : Stmt) → i < length l → s ≡ get_or l i s → size_of s < sizes_of l
item_size [] i s h e = absurd (omega arith)
item_size (t ∷ l) zero s h e = let k : size_of s ≡ size_of t = ap size_of e in omega arith
item_size (t ∷ l) (suc i) s h e = let less : i < length l = omega arith in omega (arith, item_size l i s less e)
