-- The rows of declarations and functions.
use Rattle.std.proofs.Common.{◌≡◌, ℕ, zero, suc, ◌+◌, ◌<◌, List, [], ◌∷◌, ◌++◌, length, get_or, drop, map, Bool, Option, Some, None, refl, sym, ap, ◌∙◌, subst, arith, append_assoc, append-nil}
use Rattle.std.specs.Prelude.{codes, decimal, All}
use Rattle.std.specs.List.{flat_map}
use Rattle.std.proofs.lemmas.List.{drop_more, length-map}
use Rattle.std.specs.Borrow.{MutBor}
use Rattle.sci_io.specs.Taken.{SinkState}
use Rattle.c_ast.specs.declared.Name.{Name}
use Rattle.c_ast.specs.declared.Decl.{Decl}
use Rattle.c_ast.specs.declared.Func.{Func}
use Rattle.c_ast.specs.declared.Stmt.{Stmt}
use Rattle.c_ast.specs.Syntax.{Function}
use Rattle.c_ast.specs.View.{declared_of, function_of, statements_of}
use Rattle.c_ast.specs.Spelling.{name_text, rows_text, at_depth, scalar_line, array_line, function_line, main_line, close_line, declared_line, declared_row, function_rows, main_rows, block_rows}
use Rattle.c_print.specs.Goes.{Goes}
use Rattle.c_print.proofs.Steps.{goes_as, rows_then, one_row, Towards, towards_more}

scalar_text : (x : Name) → rows_text (at_depth 0 (scalar_line x)) ≡ codes "static int64_t " ++ (name_text x ++ codes ";\n")
scalar_text x = append-nil _ ∙ ap (λ (l : List ℕ). codes "static int64_t " ++ (x.letter ∷ l)) (append_assoc (decimal x.number) (codes ";") (codes "\n"))

array_text : (x : Name) (n : ℕ) → rows_text (at_depth 0 (array_line x n)) ≡ codes "static int64_t " ++ (name_text x ++ (codes "[" ++ (decimal n ++ codes "];\n")))
array_text x n = append-nil _ ∙ ap (λ (l : List ℕ). codes "static int64_t " ++ (x.letter ∷ l)) (append_assoc (decimal x.number) (codes "[" ++ (decimal n ++ codes "];")) (codes "\n") ∙ ap (λ (l : List ℕ). decimal x.number ++ (codes "[" ++ l)) (append_assoc (decimal n) (codes "];") (codes "\n")))

function_text : (x : Name) → rows_text (at_depth 0 (function_line x)) ≡ codes "static void " ++ (name_text x ++ codes "(void) {\n")
function_text x = append-nil _ ∙ ap (λ (l : List ℕ). codes "static void " ++ (x.letter ∷ l)) (append_assoc (decimal x.number) (codes "(void) {") (codes "\n"))

pub scalar_goes : {X : Type 0} {state : X → SinkState} {p q : MutBor X} {f g : Bool} (d : Decl) → d.size ≡ None → Goes state p f q g (codes "static int64_t " ++ (name_text d.name ++ codes ";\n")) → Goes state p f q g (rows_text (declared_row (declared_of d) ∷ []))
scalar_goes d is g = goes_as (ap (λ (o : Option ℕ). rows_text (at_depth 0 (declared_line d.name o))) is ∙ scalar_text d.name) g

pub array_goes : {X : Type 0} {state : X → SinkState} {p q : MutBor X} {f g : Bool} (d : Decl) (n : ℕ) → d.size ≡ Some n → Goes state p f q g (codes "static int64_t " ++ (name_text d.name ++ (codes "[" ++ (decimal n ++ codes "];\n")))) → Goes state p f q g (rows_text (declared_row (declared_of d) ∷ []))
array_goes d n is g = goes_as (ap (λ (o : Option ℕ). rows_text (at_depth 0 (declared_line d.name o))) is ∙ array_text d.name n) g

pub decl_goes : {X : Type 0} {state : X → SinkState} {p q w : MutBor X} {f g h : Bool} (l : List Decl) (i : ℕ) (d : Decl) → i < length l
    → Towards state p f q g (map declared_row (map declared_of l)) (map declared_row (map declared_of (drop i l))) → Goes state q g w h (rows_text (declared_row (declared_of (get_or l i d)) ∷ []))
    → Towards state p f w h (map declared_row (map declared_of l)) (map declared_row (map declared_of (drop (i + 1) l)))
decl_goes {state = state} {p = p} {q = q} {f = f} {g = g} l i d within t x =
    towards_more (declared_row (declared_of (get_or l i d)) ∷ []) (map declared_row (map declared_of (drop (i + 1) l)))
    (subst (λ (m : List Decl). Towards state p f q g (map declared_row (map declared_of l)) (map declared_row (map declared_of m))) (drop_more l i d within) t) x

pub func_goes : {X : Type 0} {state : X → SinkState} {p q w : MutBor X} {f g h : Bool} (l : List Func) (i : ℕ) (d : Func) → i < length l → d ≡ get_or l i d
    → Towards state p f q g (flat_map function_rows (map function_of l)) (flat_map function_rows (map function_of (drop i l))) → Goes state q g w h (rows_text (function_rows (function_of d)))
    → Towards state p f w h (flat_map function_rows (map function_of l)) (flat_map function_rows (map function_of (drop (i + 1) l)))
func_goes {state = state} {p = p} {q = q} {f = f} {g = g} l i d within is t x =
    let e = drop_more l i d within ∙ ap (λ (u : Func). u ∷ drop (i + 1) l) (sym is) in
    towards_more (function_rows (function_of d)) (flat_map function_rows (map function_of (drop (i + 1) l)))
    (subst (λ (m : List Func). Towards state p f q g (flat_map function_rows (map function_of l)) (flat_map function_rows (map function_of m))) e t) x

-- a body between its first line and its last
body_goes : {X : Type 0} {state : X → SinkState} {p q : MutBor X} {f g : Bool} (a b : List Stmt) → a ≡ b → Goes state p f q g (rows_text (block_rows 1 (statements_of a))) → Goes state p f q g (rows_text (block_rows 1 (statements_of b)))
body_goes {state = state} {p = p} {q = q} {f = f} {g = g} a b is w = subst (λ (l : List Stmt). Goes state p f q g (rows_text (block_rows 1 (statements_of l)))) is w

pub function_goes : {X : Type 0} {state : X → SinkState} {p q w v : MutBor X} {f g h k : Bool} (d : Func) (l : List Stmt) → l ≡ d.body.items → Goes state p f q g (codes "static void " ++ (name_text d.name ++ codes "(void) {\n"))
    → Goes state q g w h (rows_text (block_rows 1 (statements_of l))) → Goes state w h v k (codes "}\n") → Goes state p f v k (rows_text (function_rows (function_of d)))
function_goes d l is x y z =
    rows_then (at_depth 0 (function_line d.name)) (block_rows 1 (statements_of d.body.items) ++ at_depth 0 close_line) (goes_as (function_text d.name) x)
    (rows_then (block_rows 1 (statements_of d.body.items)) (at_depth 0 close_line) (body_goes l d.body.items is y) (one_row 0 close_line z))

pub main_goes : {X : Type 0} {state : X → SinkState} {p q w v : MutBor X} {f g h k : Bool} (l : List Stmt) → Goes state p f q g (codes "void sci_main(void) {\n")
    → Goes state q g w h (rows_text (block_rows 1 (statements_of l))) → Goes state w h v k (codes "}\n") → Goes state p f v k (rows_text (main_rows (statements_of l)))
main_goes l x y z =
    rows_then (at_depth 0 main_line) (block_rows 1 (statements_of l) ++ at_depth 0 close_line) (one_row 0 main_line x)
    (rows_then (block_rows 1 (statements_of l)) (at_depth 0 close_line) y (one_row 0 close_line z))

mapped : (l : List Func) (i : ℕ) (d : Func) → i < length l → get_or (map function_of l) i (function_of d) ≡ function_of (get_or l i d)
mapped [] i d h = absurd (omega arith)
mapped (f ∷ l) zero d h = refl
mapped (f ∷ l) (suc i) d h = let less : i < length l = omega arith in mapped l i d less

-- every function of a list
pub func_fits : (P : Function → Type 0) (l : List Func) (i : ℕ) (d : Func) → i < length l → d ≡ get_or l i d → All P (map function_of l) → P (function_of d)
func_fits P l i d h e a =
    subst P (mapped l i d h ∙ ap function_of (sym e)) (a i (function_of d) (omega (arith, length-map l function_of)))
