-- The functions of a program, put into one list.
use Rattle.std.proofs.Common.{arith, ◌≡◌, ℕ, zero, suc, ◌+◌, ◌<◌, ◌++◌, ◌∷◌, List, [], map, length, slice_index_or, Bool, false, All, sym, ap, subst, ◌∙◌, refl}
use Rattle.std.proofs.lemmas.List.{map-append, append_assoc, append-nil}
use Rattle.std.proofs.lemmas.List.Elements.{All-get_or}
use Rattle.c_ast.specs.declared.Func.{Func}
use Rattle.c_ast.specs.Syntax.{Function}
use Rattle.c_ast.specs.View.{function_of}
use Rattle.sci_net.specs.Parts.{Parts}
use Rattle.sci_reaction.specs.Schedule.{Entry}
use Rattle.sci_program.specs.Program.{functions_upto, block_function}
use Rattle.sci_cgen_base.specs.Layouts.{AreMarked, AreNamed}
use Rattle.sci_cgen.specs.Built.{marked_function}

-- one function more
pub function_pushed : (xs ys : List Func) (x : Func) (f : Function) → ys ≡ xs ++ x ∷ [] → function_of x ≡ f → map function_of ys ≡ map function_of xs ++ f ∷ []
function_pushed xs ys x f e is = ap (map function_of) e ∙ map-append function_of xs (x ∷ []) ∙ ap (λ g. map function_of xs ++ g ∷ []) is

pub none_yet : (start : List Function) → start ≡ start ++ []
none_yet start = sym (append-nil start)

-- and one of those that are numbered
pub function_more : (fs : ℕ → Function) (k : ℕ) (start : List Function) (xs ys : List Func) (x : Func)
    → ys ≡ xs ++ x ∷ [] → function_of x ≡ fs k → map function_of xs ≡ start ++ functions_upto fs k → map function_of ys ≡ start ++ functions_upto fs (k + 1)
function_more fs k start xs ys x e is so_far =
    function_pushed xs ys x (fs k) e is ∙ ap (λ l. l ++ fs k ∷ []) so_far ∙ append_assoc start (functions_upto fs k) (fs k ∷ [])
    ∙ ap (λ m. start ++ functions_upto fs m) (let next : suc k ≡ k + 1 = omega arith in next)

pub functions_same : (fs gs : ℕ → Function) (m : ℕ) → ((k : ℕ) → k < m → fs k ≡ gs k) → functions_upto fs m ≡ functions_upto gs m
functions_same fs gs zero same = refl
functions_same fs gs (suc k) same =
    ap (λ l. l ++ fs k ∷ []) (functions_same fs gs k (λ j l. same j (omega (arith, l)))) ∙ ap (λ f. functions_upto gs k ++ f ∷ []) (same k (omega arith))

-- the marks of a schedule's blocks give the functions of the blocks
pub marked_same : (n : Parts) (rows : List (List Entry)) (marks : List Bool) → AreMarked n rows marks
    → functions_upto (λ k. marked_function n (slice_index_or marks k false) (suc k)) (length n.specs) ≡ functions_upto (λ k. block_function n rows (suc k)) (length n.specs)
marked_same n rows marks are =
    functions_same _ _ (length n.specs)
    (λ k l. ap (λ t. marked_function n t (suc k)) (are.each (suc k) (record { least = omega arith; most = omega (arith, l) })))

-- ---- rows

pub named_at : (n : Parts) (rows : List (List Entry)) (i : ℕ) (row : List Entry) → i < length rows → All (AreNamed n) rows → row ≡ slice_index_or rows i [] → AreNamed n row
named_at n rows i row l all e = subst (AreNamed n) (sym e) (All-get_or (AreNamed n) rows i [] l all)
