-- Statements and blocks in memory.
use Rattle.std.proofs.Common.{◌≡◌, ℕ, zero, suc, ◌<◌, List, [], ◌∷◌, ◌++◌, length, Option, Some, None, refl, ap, arith}
use Rattle.c_ast.specs.declared.Stmt.{Stmt}
use Rattle.c_ast.specs.Syntax.{Exp, choice, next, Declared, Function}
use Rattle.c_ast.specs.View.{statement_of, statements_of}
use Rattle.c_parse.specs.Machine.{Opened, second, Open, append, one, add, closes, begun, heading, outside, declares}

pub statements_of_push : (l : List Stmt) (s : Stmt) → statements_of (l ++ s ∷ []) ≡ append (statements_of l) (one (statement_of s))
statements_of_push [] s = refl
statements_of_push (t ∷ l) s = ap (next (statement_of t)) (statements_of_push l s)

-- a second list that isn't empty, and one that is
pub closes_second : (l : List Stmt) (e : Exp) (a : _) (k : Open) → 0 < length l → closes (statements_of l) (second e a) k ≡ Some (add (choice e a (statements_of l)) k)
closes_second [] e a k h = absurd (omega arith)
closes_second (t ∷ l) e a k h = refl

pub closes_none : (l : List Stmt) (e : Exp) (a : _) (k : Open) → length l ≡ 0 → closes (statements_of l) (second e a) k ≡ None
closes_none [] e a k h = refl
closes_none (t ∷ l) e a k h = absurd (omega arith)

pub begun_none : (t : List ℕ) → length t ≡ 0 → begun t ≡ outside [] []
begun_none [] h = refl
begun_none (c ∷ t) h = absurd (omega arith)

pub begun_some : (t : List ℕ) → 0 < length t → begun t ≡ heading t
begun_some [] h = absurd (omega arith)
begun_some (c ∷ t) h = refl

pub declares_first : (d : Declared) (ds : List Declared) (fs : List Function) → length fs ≡ 0 → declares d ds fs ≡ Some (outside (ds ++ d ∷ []) [])
declares_first d ds [] h = refl
declares_first d ds (f ∷ fs) h = absurd (omega arith)

pub declares_late : (d : Declared) (ds : List Declared) (fs : List Function) → 0 < length fs → declares d ds fs ≡ None
declares_late d ds [] h = absurd (omega arith)
declares_late d ds (f ∷ fs) h = refl
