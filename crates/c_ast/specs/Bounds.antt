-- The bounds of the subset: which plain programs are programs.
use Rattle.std.specs.Prelude.{◌≡◌, ℕ, zero, suc, ◌^◌, ◌<◌, ◌≤◌, ℤ, pos, negsuc, Option, Some, None, Bool, true, false, if◌then◌else◌, nat_le, All}
use Rattle.c_ast.specs.declared.Name.{Name}
use Rattle.c_ast.specs.declared.Bound.{Bound}
use Rattle.c_ast.specs.declared.Bound.TheVariants as bounds
use Rattle.c_ast.specs.Syntax.{Exp, num, var, element, neg, not, bin, Place, scalar, cell, Asked, more, input, until, limit, Told, start, event, value, finish, stop, Statement, set, ask, choice, loop, call, tell, Block, done, next, Declared, Function, Whole}

-- a letter from a to z
abbrev pub is_letter : ℕ → Bool
is_letter c = if nat_le 97 c then nat_le c 122 else false

abbrev pub IsName : Name → Type 0
IsName x = (is_letter x.letter ≡ true) × (x.number < 2 ^ 32)

-- a number from 0 to 2^63 - 1
abbrev pub IsNumber : ℤ → Type 0
IsNumber (pos n) = n < 2 ^ 63
IsNumber (negsuc n) = ⊥

-- an expression at most so deep; a number or a variable is 1 deep
abbrev pub Fits : ℕ → Exp → Type 0
Fits zero e = ⊥
Fits (suc d) (num z) = IsNumber z
Fits (suc d) (var x) = IsName x
Fits (suc d) (element x e) = IsName x × Fits d e
Fits (suc d) (neg e) = Fits d e
Fits (suc d) (not e) = Fits d e
Fits (suc d) (bin op a b) = Fits d a × Fits d b

-- an expression is at most 64 deep
unfoldable pub IsExp : Exp → Type 0
IsExp e = Fits 64 e

abbrev pub IsPlace : Place → Type 0
IsPlace (scalar x) = IsName x
IsPlace (cell x e) = IsName x × IsExp e

abbrev pub IsAsked : Asked → Type 0
IsAsked (more e) = IsExp e
IsAsked (input e) = IsExp e
IsAsked until = Unit {0}
IsAsked limit = Unit {0}

abbrev pub IsTold : Told → Type 0
IsTold start = Unit {0}
IsTold (event a b c) = IsExp a × IsExp b × IsExp c
IsTold (value a b c d) = IsExp a × IsExp b × IsExp c × IsExp d
IsTold (finish a) = IsExp a
IsTold (stop a b c) = IsExp a × IsExp b × IsExp c

abbrev pub IsBound : Bound → Type 0
IsBound (bounds.Num z) = IsNumber z
IsBound (bounds.Var x) = IsName x

-- statements nested at most so deep
abbrev mutual
  pub StatementFits : ℕ → Statement → Type 0
  StatementFits zero s = ⊥
  StatementFits (suc d) (set p e) = IsPlace p × IsExp e
  StatementFits (suc d) (ask p a) = IsPlace p × IsAsked a
  StatementFits (suc d) (choice e a b) = IsExp e × BlockFits d a × BlockFits d b
  StatementFits (suc d) (loop x b s) = IsName x × IsBound b × BlockFits d s
  StatementFits (suc d) (call f) = IsName f
  StatementFits (suc d) (tell t) = IsTold t

  pub BlockFits : ℕ → Block → Type 0
  BlockFits d done = Unit {0}
  BlockFits d (next s b) = StatementFits d s × BlockFits d b

-- a body's statements are nested at most 16 deep
unfoldable pub IsBody : Block → Type 0
IsBody b = BlockFits 16 b

-- an array has 1 to 1,048,576 elements
abbrev pub IsSize : Option ℕ → Type 0
IsSize None = Unit {0}
IsSize (Some n) = (1 ≤ n) × (n ≤ 1048576)

abbrev pub IsDeclared : Declared → Type 0
IsDeclared d = IsName d.name × IsSize d.size

abbrev pub IsFunction : Function → Type 0
IsFunction f = IsName f.name × IsBody f.body

pub record IsWhole (p : Whole) : Type 0 where
  pub decls : All IsDeclared p.decls
  pub funcs : All IsFunction p.funcs
  pub main : IsBody p.main
