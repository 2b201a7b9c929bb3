-- Texts: put together, and what they may do.
use Rattle.std.specs.Prelude.{ℕ, zero, suc, ℤ, pos, negsuc, Bool, true, false, not, ◌&&◌, ◌||◌}
use Rattle.c_ast.specs.declared.Name.{Name}
use Rattle.c_ast.specs.Syntax.{Exp, num, var, element, neg, not as denied, bin, Place, scalar, cell, Asked, input, Told, finish, stop, Statement, set, ask, choice, loop, call, tell, Block, done, next}

-- a number as it is spelled
abbrev pub number : ℤ → Exp
number (pos n) = num (pos n)
number (negsuc n) = neg (num (pos (suc n)))

-- element i of an array
abbrev pub place : Name → ℕ → Exp
place x i = element x (num (pos i))

-- one list of statements behind another
abbrev pub joined : Block → Block → Block
joined done b = b
joined (next s a) b = next s (joined a b)

-- the texts of 0 to n - 1
abbrev pub upto : (ℕ → Block) → ℕ → Block
upto f zero = done
upto f (suc n) = joined (upto f n) (f n)

-- an expression reads only these names
abbrev pub reads_only : (Name → Bool) → Exp → Bool
reads_only names (num z) = true
reads_only names (var x) = names x
reads_only names (element x e) = names x && reads_only names e
reads_only names (neg e) = reads_only names e
reads_only names (denied e) = reads_only names e
reads_only names (bin op a b) = reads_only names a && reads_only names b

-- ---- what a text may do

pub record May : Type 0 where
  pub assign : Name → Bool
  pub call : Name → Bool
  -- values of the input columns
  pub take : Bool
  -- observations with which the run goes on
  pub show : Bool

-- assign these names, and else nothing
abbrev pub assigns_only : (Name → Bool) → May
assigns_only names = record { assign = names; call = λ f. false; take = false; show = false }

abbrev pub place_name : Place → Name
place_name (scalar x) = x
place_name (cell x e) = x

abbrev pub takes : Asked → Bool
takes (input e) = true
takes _ = false

abbrev pub goes_on : Told → Bool
goes_on (finish a) = false
goes_on (stop a b c) = false
goes_on _ = true

-- each of its statements may
abbrev mutual
  pub statement_within : May → Statement → Bool
  statement_within may (set p e) = may.assign (place_name p)
  statement_within may (ask p a) = may.assign (place_name p) && (may.take || not (takes a))
  statement_within may (choice e a b) = block_within may a && block_within may b
  statement_within may (loop x b s) = may.assign x && block_within may s
  statement_within may (call f) = may.call f
  statement_within may (tell t) = may.show || not (goes_on t)

  pub block_within : May → Block → Bool
  block_within may done = true
  block_within may (next s b) = statement_within may s && block_within may b
