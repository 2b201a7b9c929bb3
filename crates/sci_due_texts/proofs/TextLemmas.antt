-- Texts put one behind another.
use Rattle.std.proofs.Common.{arith, ◌≡◌, ◌+◌, ℕ, suc, true, List, sym, ap, ◌∙◌, ◌++◌, refl, ℤ, pos, negsuc}
use Rattle.c_ast.specs.declared.Stmt.{Stmt}
use Rattle.c_ast.specs.Syntax.{Block, num}
use Rattle.c_ast.specs.View.{statements_of}
use Rattle.c_mean.specs.Texts.{joined, upto}
use Rattle.sci_cgen_blocks.proofs.Written.{joined_assoc, statements_behind}
use Rattle.std.specs.Prelude.{int_le}
use Rattle.std.proofs.lemmas.Int.{ints}
use Rattle.sci_due.specs.Texts.{is_ticks}

-- two texts behind another
pub joined_more : (old mid new a b : Block) → mid ≡ joined old a → new ≡ joined mid b → new ≡ joined old (joined a b)
joined_more old mid new a b first second = second ∙ ap (λ t. joined t b) first ∙ joined_assoc old a b

-- one text more of those of 0 to k
pub upto_pushed : (f : ℕ → Block) (k : ℕ) (old mid new : Block) → mid ≡ joined old (upto f k) → new ≡ joined mid (f k) → new ≡ joined old (upto f (k + 1))
upto_pushed f k old mid new so_far e =
    let next : suc k ≡ k + 1 = omega arith in
    joined_more old mid new (upto f k) (f k) so_far e ∙ ap (λ m. joined old (upto f m)) next

-- lists of statements behind one another
pub statements_appended : (xs ys : List Stmt) → statements_of (xs ++ ys) ≡ joined (statements_of xs) (statements_of ys)
statements_appended = statements_behind

-- the texts of all
pub each_done : (f : ℕ → Block) (k n : ℕ) (old new : Block) → k ≡ n → new ≡ joined old (upto f k) → new ≡ joined old (upto f n)
each_done f k n old new same e = e ∙ ap (λ (j : ℕ). joined old (upto f j)) same

pub ticks_are : (z : ℤ) → is_ticks (num z) ≡ int_le (pos 0) z
ticks_are (pos n) = sym (not_below n)
  where
    not_below : (n : ℕ) → int_le (pos 0) (pos n) ≡ true
    not_below n = grind (arith, ints)
ticks_are (negsuc n) = refl
