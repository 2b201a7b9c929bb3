-- Counts stand still at their end.
use Rattle.std.proofs.Common.{◌≡◌, ℕ, ◌+◌, ◌-◌, ◌^◌, ◌≤◌, ◌<◌, List, [], ◌∷◌, ◌++◌, length, get_or, take, arith, ap, sym, ◌∙◌}
use Rattle.std.proofs.lemmas.List.{take_more}
use Rattle.c_ast.specs.declared.Stmt.{Stmt}
use Rattle.c_ast.specs.Syntax.{Block, done, next}
use Rattle.c_ast.specs.View.{statement_of, statements_of}
use Rattle.c_mean.specs.Meaning.{statement_count, block_count, later}

pub block_count_le : (b : Block) → block_count b ≤ 2 ^ 64 - 1
block_count_le done = omega arith
block_count_le (next s b) = omega arith

pub later_none : (b : Block) → later 0 (block_count b) ≡ block_count b
later_none b = omega (arith, block_count_le b)

pub later_small : (n k : ℕ) → later n k < 2 ^ 64
later_small n k = omega arith

pub later_later : (n k j : ℕ) → later (later n k) j ≡ later n (later k j)
later_later n k j = omega arith

-- one more statement
count_last : (list : List Stmt) (s : Stmt) → block_count (statements_of (list ++ s ∷ [])) ≡ later (block_count (statements_of list)) (statement_count (statement_of s))
count_last [] s = omega arith
count_last (t ∷ list) s =
    let before = statement_count (statement_of t) in
    ap (later before) (count_last list s) ∙ sym (later_later before (block_count (statements_of list)) (statement_count (statement_of s)))

pub count_more : (list : List Stmt) (i : ℕ) (s : Stmt) → i < length list → s ≡ get_or list i s → block_count (statements_of (take (i + 1) list)) ≡ later (block_count (statements_of (take i list))) (statement_count (statement_of s))
count_more list i s h is =
    ap (λ (l : List Stmt). block_count (statements_of l)) (take_more list i s h)
    ∙ count_last (take i list) (get_or list i s)
    ∙ ap (λ (t : Stmt). later (block_count (statements_of (take i list))) (statement_count (statement_of t))) (sym is)

pub later_zero : (n : ℕ) → n < 2 ^ 64 → later n 0 ≡ n
later_zero n h = omega arith
