-- Where a generated program assigns the values of blocks, and what it shows.
use Rattle.std.specs.Prelude.{◌≡◌, ℕ, Bool, true, false, ◌&&◌, not, Contains}
use Rattle.sci_net.specs.Parts.{Parts, IsBlock}
use Rattle.c_ast.specs.declared.Op.TheVariants.{Add}
use Rattle.c_ast.specs.Syntax.{Exp, num, var, element, bin, Told, value, Statement, set, choice, loop, tell, Block, done, next, Function, Whole}
use Rattle.c_mean.specs.Meaning.{same_name}
use Rattle.c_mean.specs.Texts.{joined, May, block_within}
use Rattle.sci_cgen_blocks.specs.Texts.{values}
use Rattle.sci_program.specs.Names.{block_name}

-- a text may do all, but assign no value
abbrev pub spares_values : May
spares_values = record { assign = λ x. not (same_name values x); call = λ f. true; take = true; show = true }

-- a text of assignments alone
abbrev pub are_sets : Block → Bool
are_sets done = true
are_sets (next (set p e) b) = are_sets b
are_sets (next _ b) = false

-- one of the array of all values, at a number or at the sum of a scalar and a number
abbrev pub is_value : Exp → Bool
is_value (element x (num z)) = same_name values x
is_value (element x (bin Add (var y) (num z))) = same_name values x
is_value _ = false

-- what is shown as a value is one
abbrev pub told_well : Told → Bool
told_well (value b p e v) = is_value v
told_well _ = true

abbrev mutual
  pub statement_shows_values : Statement → Bool
  statement_shows_values (choice e a b) = shows_values a && shows_values b
  statement_shows_values (loop x b s) = shows_values s
  statement_shows_values (tell t) = told_well t
  statement_shows_values _ = true

  -- each statement of a text shows values alone as values
  pub shows_values : Block → Bool
  shows_values done = true
  shows_values (next s b) = statement_shows_values s && shows_values b

-- the function of some block
abbrev pub IsBlockFunction : Parts → Function → Type 0
IsBlockFunction n f = (b : ℕ) × IsBlock n b × (f.name ≡ block_name b)

-- Values are assigned by the functions of blocks, and by the assignments with which main begins, alone; and what is shown as a value is one of them.
pub record KeepsValues (n : Parts) (p : Whole) : Type 0 where
  pub others : (f : Function) → Contains p.funcs f → (IsBlockFunction n f → ⊥) → block_within spares_values f.body ≡ true
  pub begin : Block
  pub rest : Block
  pub main : p.main ≡ joined begin rest
  pub begins : are_sets begin ≡ true
  pub spares : block_within spares_values rest ≡ true
  pub shown : (f : Function) → Contains p.funcs f → shows_values f.body ≡ true
  pub shown_by_main : shows_values p.main ≡ true
