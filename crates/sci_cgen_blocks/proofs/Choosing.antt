-- The choice between the inputs from one on.
use Rattle.std.proofs.Common.{arith, ◌≡◌, ℕ, suc, ◌-◌, ◌<◌, ◌≤◌, List, [], ◌∷◌, sym, ap, ◌∙◌}
use Rattle.c_ast.specs.declared.Expr.{Expr}
use Rattle.c_ast.specs.declared.Stmt.{Stmt}
use Rattle.c_ast.specs.Syntax.{Exp, Block, choice, done, next}
use Rattle.c_ast.specs.View.{exp_of, statement_of, statements_of}
use Rattle.sci_cgen_blocks.specs.Terms.{Term, mask}
use Rattle.sci_cgen_blocks.specs.Recipes.{bit, copied, first_activated}
use Rattle.sci_cgen_blocks.specs.Texts.{fixed, Places, written, expression, way_text}

-- the last is not asked about
pub last_chosen : (p : Places) (count n : ℕ) → way_text p count (first_activated n (n - n)) ≡ way_text p count (copied n)
last_chosen p count n = let none : n - n ≡ 0 = omega arith in ap (λ (j : ℕ). way_text p count (first_activated n j)) none

-- one input more, before the others
one_chosen : (p : Places) (count k n : ℕ) → 0 < k → k ≤ n
    → way_text p count (first_activated (k - 1) (n - (k - 1)))
    ≡ next (choice (expression (written p (fixed 0)) (bit mask (k - 1))) (way_text p count (copied (k - 1))) (way_text p count (first_activated k (n - k)))) done
one_chosen p count k n l h =
    let more : n - (k - 1) ≡ suc (n - k) = omega arith in
    let same : suc (k - 1) ≡ k = omega arith in
    ap (λ (j : ℕ). way_text p count (first_activated (k - 1) j)) more
    ∙ ap (λ (i : ℕ). next (choice (expression (written p (fixed 0)) (bit mask (k - 1))) (way_text p count (copied (k - 1))) (way_text p count (first_activated i (n - k)))) done) same

-- A decision on one input was put before the text of the choice between those behind it.
pub chosen_before : (p : Places) (count k n : ℕ) (new first rest : List Stmt) (s : Stmt) (test : Expr) (t : Term) → 0 < k → k ≤ n → new ≡ s ∷ []
    → statement_of s ≡ choice (exp_of test) (statements_of first) (statements_of rest) → exp_of test ≡ expression (written p (fixed 0)) t → t ≡ bit mask (k - 1)
    → statements_of first ≡ way_text p count (copied (k - 1)) → statements_of rest ≡ way_text p count (first_activated k (n - k))
    → statements_of new ≡ way_text p count (first_activated (k - 1) (n - (k - 1)))
chosen_before p count k n new first rest s test t l h e is asks bits one others =
    let question : exp_of test ≡ expression (written p (fixed 0)) (bit mask (k - 1)) = asks ∙ ap (expression (written p (fixed 0))) bits in
    ap statements_of e
    ∙ ap (λ x. next x done)
    (is ∙ ap (λ (x : Exp). choice x (statements_of first) (statements_of rest)) question
    ∙ ap (λ (x : Block). choice (expression (written p (fixed 0)) (bit mask (k - 1))) x (statements_of rest)) one
    ∙ ap (λ (x : Block). choice (expression (written p (fixed 0)) (bit mask (k - 1))) (way_text p count (copied (k - 1))) x) others)
    ∙ sym (one_chosen p count k n l h)
