-- Statements in memory, put together.
use Rattle.std.proofs.Common.{arith, ◌≡◌, ℕ, zero, suc, ◌+◌, ◌<◌, ◌≤◌, pos, length, drop, get_or, List, [], ◌∷◌, ◌++◌, refl, sym, ap, ◌∙◌}
use Rattle.std.proofs.lemmas.List.{drop_more}
use Rattle.c_ast.specs.declared.Stmt.{Stmt}
use Rattle.c_ast.specs.declared.Bound.TheVariants as bounds
use Rattle.c_ast.specs.Syntax.{Statement, Block, done, next, loop}
use Rattle.c_ast.specs.View.{statement_of, statements_of}
use Rattle.c_mean.specs.Texts.{joined, upto}
use Rattle.sci_cgen_blocks.specs.Terms.{Recipe}
use Rattle.sci_cgen_blocks.specs.Texts.{counted_by, Places, written, scratch_name, recipe_text, looped_text}

pub joined_assoc : (a b c : Block) → joined (joined a b) c ≡ joined a (joined b c)
joined_assoc done b c = refl
joined_assoc (next s a) b c = ap (next s) (joined_assoc a b c)

pub joined_done : (a : Block) → joined a done ≡ a
joined_done done = refl
joined_done (next s a) = ap (next s) (joined_done a)

-- one list behind another
pub statements_behind : (xs ys : List Stmt) → statements_of (xs ++ ys) ≡ joined (statements_of xs) (statements_of ys)
statements_behind [] ys = refl
statements_behind (x ∷ xs) ys = ap (next (statement_of x)) (statements_behind xs ys)

-- a statement was pushed
pub pushed : (xs ys : List Stmt) (s : Stmt) (first : Statement) → ys ≡ xs ++ s ∷ [] → statement_of s ≡ first → statements_of ys ≡ joined (statements_of xs) (next first done)
pushed xs ys s first e is = ap statements_of e ∙ statements_behind xs (s ∷ []) ∙ ap (λ f. joined (statements_of xs) (next f done)) is

-- A statement was pushed, the first of those to come.
pub statement_done : (xs ys : List Stmt) (s : Stmt) (first : Statement) (come rest all : Block)
    → ys ≡ xs ++ s ∷ [] → statement_of s ≡ first → come ≡ next first rest → joined (statements_of xs) come ≡ all → joined (statements_of ys) rest ≡ all
statement_done xs ys s first come rest all e is cut so_far =
    ap (λ b. joined b rest) (pushed xs ys s first e is) ∙ joined_assoc (statements_of xs) (next first done) rest ∙ ap (joined (statements_of xs)) (sym cut) ∙ so_far

-- A text was pushed, the next of those of elements.
pub upto_more : (f : ℕ → Block) (k : ℕ) (a b : Block) → a ≡ joined b (f k) → b ≡ upto f k → a ≡ upto f (k + 1)
upto_more f k a b e so_far = let next : suc k ≡ k + 1 = omega arith in e ∙ ap (λ x. joined x (f k)) so_far ∙ ap (upto f) next

-- and behind what was there
pub behind_more : (f : ℕ → Block) (k : ℕ) (old mid new : Block) → mid ≡ joined old (upto f k) → new ≡ joined mid (f k) → new ≡ joined old (upto f (k + 1))
behind_more f k old mid new so_far e =
    let up : suc k ≡ k + 1 = omega arith in
    e ∙ ap (λ (b : Block). joined b (f k)) so_far ∙ joined_assoc old (upto f k) (f k) ∙ ap (λ (j : ℕ). joined old (upto f j)) up

-- ---- lists that are gone through

pub drop_item : {A : Type 0} → (l : List A) (i : ℕ) (d : A) → i < length l → d ≡ get_or l i d → drop i l ≡ d ∷ drop (i + 1) l
drop_item l i d within is = drop_more l i d within ∙ ap (λ u. u ∷ drop (i + 1) l) (sym is)

pub all_dropped : {A : Type 0} → (l : List A) (i : ℕ) → length l ≤ i → drop i l ≡ []
all_dropped [] zero h = refl
all_dropped [] (suc i) h = refl
all_dropped (x ∷ l) zero h = absurd (omega arith)
all_dropped (x ∷ l) (suc i) h = let less : length l ≤ i = omega arith in all_dropped l i less

-- ---- a recipe

-- A statement was pushed, and the rest comes behind it.
pub text_behind : (old mid : List Stmt) (s : Stmt) (first : Statement) (rest all : Block) → mid ≡ old ++ s ∷ [] → statement_of s ≡ first → next first rest ≡ all
    → joined (statements_of mid) rest ≡ joined (statements_of old) all
text_behind old mid s first rest all push is cut =
    ap (λ b. joined b rest) (pushed old mid s first push is) ∙ joined_assoc (statements_of old) (next first done) rest ∙ ap (joined (statements_of old)) cut

-- a loop whose body was pushed
pub looped_done : (p : Places) (n c : ℕ) (r : Recipe) (old body new : List Stmt) (s : Stmt) → old ≡ []
    → statements_of body ≡ joined (statements_of old) (recipe_text (written p (counted_by c)) r)
    → statement_of s ≡ loop (scratch_name c) (bounds.Num (pos n)) (statements_of body) → new ≡ s ∷ [] → statements_of new ≡ looped_text p n c r
looped_done p n c r old body new s none so_far is e =
    let text : statements_of body ≡ recipe_text (written p (counted_by c)) r =
    so_far ∙ ap (λ xs. joined (statements_of xs) (recipe_text (written p (counted_by c)) r)) none in
    ap statements_of e ∙ ap (λ (x : Statement). next x done) (is ∙ ap (loop (scratch_name c) (bounds.Num (pos n))) text)
