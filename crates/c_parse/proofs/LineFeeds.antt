-- No line has a LF in it.
use Rattle.std.proofs.Common.{◌≡◌, ℕ, zero, suc, ◌*◌, ◌<◌, ℤ, pos, negsuc, List, ◌++◌, Bool, true, false, refl, sym, ap, ◌∙◌, arith}
use Rattle.std.specs.Prelude.{◌||◌, codes, decimal, replicate, if◌then◌else◌}
use Rattle.std.proofs.lemmas.Bool.{ne_eqb}
use Rattle.c_ast.specs.declared.Name.{Name}
use Rattle.c_ast.specs.declared.Bound.{Bound}
use Rattle.c_ast.specs.declared.Bound.TheVariants as bounds
use Rattle.c_ast.specs.declared.Op.{Op}
use Rattle.c_ast.specs.declared.Op.TheVariants.{Add, Sub, Mul, Div, Rem, Lt, Le, Gt, Ge, Eq, Ne, And, Or}
use Rattle.c_ast.specs.Syntax.{Exp, num, var, element, neg, not, bin, Place, scalar, cell, Asked, more, input, until, limit, Told, start, event, value, finish, stop}
use Rattle.c_ast.specs.Spelling.{name_text, exp_text, op_open, op_text, is_arithmetic, place_text, asked_text, told_text, bound_text, line_text, Line, IndentedLine, header_line, scalar_line, array_line, function_line, main_line, set_line, ask_line, if_line, else_line, for_line, call_line, tell_line, close_line}
use Rattle.c_ast.specs.Bounds.{is_letter, IsName, IsNumber, IsExp, IsPlace, IsAsked, IsTold, IsBound, Fits}
use Rattle.c_parse.specs.LineBounds.{IsLine, row_bytes}
use Rattle.sci_text.specs.Lines.{has_lf}
use Rattle.sci_text.proofs.Clear.{both_clear, around, decimal_clear}
use Rattle.c_parse.proofs.Expressions.{letter_range}

name_clear : (x : Name) → IsName x → has_lf (name_text x) ≡ false
name_clear x f =
    let l = letter_range x.letter f.0 in
    ap (λ (b : Bool). b || has_lf (decimal x.number)) (ne_eqb 10 x.letter (λ e. omega arith)) ∙ decimal_clear x.number (omega (arith, f.1))

op_clear : (op : Op) → has_lf (op_text op) ≡ false
op_clear Add = refl
op_clear Sub = refl
op_clear Mul = refl
op_clear Div = refl
op_clear Rem = refl
op_clear Lt = refl
op_clear Le = refl
op_clear Gt = refl
op_clear Ge = refl
op_clear Eq = refl
op_clear Ne = refl
op_clear And = refl
op_clear Or = refl

open_clear : (op : Op) → has_lf (op_open op) ≡ false
open_clear op = by_kind (is_arithmetic op)
  where
    by_kind : (k : Bool) → has_lf (if k then codes "(" else codes "(int64_t)(") ≡ false
    by_kind true = refl
    by_kind false = refl

fits_clear : (e : Exp) (d : ℕ) → Fits d e → has_lf (exp_text e) ≡ false
fits_clear e zero f = absurd f
fits_clear (num (pos n)) (suc d) f = around (codes "INT64_C(") (decimal n) (codes ")") refl (decimal_clear n (omega (arith, f))) refl
fits_clear (num (negsuc n)) (suc d) f = absurd f
fits_clear (var x) (suc d) f = name_clear x f
fits_clear (element x e) (suc d) f = both_clear (name_text x) (codes "[" ++ (exp_text e ++ codes "]")) (name_clear x f.0) (around (codes "[") (exp_text e) (codes "]") refl (fits_clear e d f.1) refl)
fits_clear (neg e) (suc d) f = around (codes "(-") (exp_text e) (codes ")") refl (fits_clear e d f) refl
fits_clear (not e) (suc d) f = around (codes "(int64_t)(!") (exp_text e) (codes ")") refl (fits_clear e d f) refl
fits_clear (bin op a b) (suc d) f =
    around (op_open op) (exp_text a) (op_text op ++ (exp_text b ++ codes ")")) (open_clear op) (fits_clear a d f.0)
    (around (op_text op) (exp_text b) (codes ")") (op_clear op) (fits_clear b d f.1) refl)

exp_clear : (e : Exp) → IsExp e → has_lf (exp_text e) ≡ false
unfolding IsExp
exp_clear e f = fits_clear e 64 f

place_clear : (p : Place) → IsPlace p → has_lf (place_text p) ≡ false
place_clear (scalar x) f = name_clear x f
place_clear (cell x e) f = both_clear (name_text x) (codes "[" ++ (exp_text e ++ codes "]")) (name_clear x f.0) (around (codes "[") (exp_text e) (codes "]") refl (exp_clear e f.1) refl)

asked_clear : (a : Asked) → IsAsked a → has_lf (asked_text a) ≡ false
asked_clear (more e) f = around (codes "sci_more(") (exp_text e) (codes ")") refl (exp_clear e f) refl
asked_clear (input e) f = around (codes "sci_input(") (exp_text e) (codes ")") refl (exp_clear e f) refl
asked_clear until f = refl
asked_clear limit f = refl

three_clear : (key a b c : List ℕ) → has_lf key ≡ false → has_lf a ≡ false → has_lf b ≡ false → has_lf c ≡ false → has_lf (key ++ (a ++ (codes ", " ++ (b ++ (codes ", " ++ (c ++ codes ")")))))) ≡ false
three_clear key a b c k ea eb ec = around key a (codes ", " ++ (b ++ (codes ", " ++ (c ++ codes ")")))) k ea (around (codes ", ") b (codes ", " ++ (c ++ codes ")")) refl eb (around (codes ", ") c (codes ")") refl ec refl))

told_clear : (t : Told) → IsTold t → has_lf (told_text t) ≡ false
told_clear start f = refl
told_clear (event a b c) f = three_clear (codes "sci_event(") (exp_text a) (exp_text b) (exp_text c) refl (exp_clear a f.0) (exp_clear b f.1) (exp_clear c f.2)
told_clear (value a b c d) f = around (codes "sci_val(") (exp_text a) (codes ", " ++ (exp_text b ++ (codes ", " ++ (exp_text c ++ (codes ", " ++ (exp_text d ++ codes ")")))))) refl (exp_clear a f.0) (three_clear (codes ", ") (exp_text b) (exp_text c) (exp_text d) refl (exp_clear b f.1) (exp_clear c f.2) (exp_clear d f.3))
told_clear (finish a) f = around (codes "sci_end(") (exp_text a) (codes ")") refl (exp_clear a f) refl
told_clear (stop a b c) f = three_clear (codes "sci_stop(") (exp_text a) (exp_text b) (exp_text c) refl (exp_clear a f.0) (exp_clear b f.1) (exp_clear c f.2)

bound_clear : (b : Bound) → IsBound b → has_lf (bound_text b) ≡ false
bound_clear (bounds.Num (pos n)) f = around (codes "INT64_C(") (decimal n) (codes ")") refl (decimal_clear n (omega (arith, f))) refl
bound_clear (bounds.Num (negsuc n)) f = absurd f
bound_clear (bounds.Var x) f = name_clear x f

line_clear : (l : Line) → IsLine l → has_lf (line_text l) ≡ false
line_clear (header_line t) f = absurd f
line_clear (scalar_line x) f = around (codes "static int64_t ") (name_text x) (codes ";") refl (name_clear x f) refl
line_clear (array_line x n) f = around (codes "static int64_t ") (name_text x) (codes "[" ++ (decimal n ++ codes "];")) refl (name_clear x f.0) (around (codes "[") (decimal n) (codes "];") refl (decimal_clear n (omega (arith, f.1.1))) refl)
line_clear (function_line x) f = around (codes "static void ") (name_text x) (codes "(void) {") refl (name_clear x f) refl
line_clear main_line f = refl
line_clear (set_line p e) f = both_clear (place_text p) (codes " = " ++ (exp_text e ++ codes ";")) (place_clear p f.0) (around (codes " = ") (exp_text e) (codes ";") refl (exp_clear e f.1) refl)
line_clear (ask_line p a) f = both_clear (place_text p) (codes " = " ++ (asked_text a ++ codes ";")) (place_clear p f.0) (around (codes " = ") (asked_text a) (codes ";") refl (asked_clear a f.1) refl)
line_clear (if_line e) f = around (codes "if (") (exp_text e) (codes ") {") refl (exp_clear e f) refl
line_clear else_line f = refl
line_clear (for_line x b) f =
    let n = name_clear x f.0 in
    around (codes "for (") (name_text x) (codes " = INT64_C(0); " ++ (name_text x ++ (codes " < " ++ (bound_text b ++ (codes "; " ++ (name_text x ++ (codes " = " ++ (name_text x ++ codes " + INT64_C(1)) {")))))))) refl n
    (around (codes " = INT64_C(0); ") (name_text x) (codes " < " ++ (bound_text b ++ (codes "; " ++ (name_text x ++ (codes " = " ++ (name_text x ++ codes " + INT64_C(1)) {")))))) refl n
    (around (codes " < ") (bound_text b) (codes "; " ++ (name_text x ++ (codes " = " ++ (name_text x ++ codes " + INT64_C(1)) {")))) refl (bound_clear b f.1)
    (around (codes "; ") (name_text x) (codes " = " ++ (name_text x ++ codes " + INT64_C(1)) {")) refl n (around (codes " = ") (name_text x) (codes " + INT64_C(1)) {") refl n refl))))
line_clear (call_line x) f = both_clear (name_text x) (codes "();") (name_clear x f) refl
line_clear (tell_line t) f = both_clear (told_text t) (codes ";") (told_clear t f) refl
line_clear close_line f = refl

blanks_clear : (n : ℕ) → has_lf (replicate n 32) ≡ false
blanks_clear zero = refl
blanks_clear (suc n) = blanks_clear n

pub row_clear : (r : IndentedLine) → IsLine r.line → has_lf (row_bytes r) ≡ false
row_clear r f = both_clear (replicate (2 * r.depth) 32) (line_text r.line) (blanks_clear (2 * r.depth)) (line_clear r.line f)
