-- Lines are read as they are spelled.
use Rattle.std.proofs.Common.{◌≡◌, ℕ, zero, suc, ◌+◌, ◌*◌, ◌/◌, ◌%◌, ◌^◌, ◌<◌, ◌≤◌, ℤ, pos, negsuc, List, [], ◌∷◌, ◌++◌, Option, Some, None, Bool, true, false, cond, refl, sym, ap, ◌∙◌, subst, arith, append_assoc, append-nil}
use Rattle.std.specs.Prelude.{nat_eq, nat_le, codes, decimal, replicate, if◌then◌else◌}
use Rattle.std.specs.Char.{is_ascii_digit}
use Rattle.std.proofs.lemmas.Bool.{leb-true, le-leb, ne_eqb, eq-eqb, cond-true, cond-false}
use Rattle.std.proofs.lemmas.Fmt.{digits_decimal, decimal_nonempty}
use Rattle.c_ast.specs.declared.Name.{Name}
use Rattle.c_ast.specs.declared.Bound.{Bound}
use Rattle.c_ast.specs.declared.Bound.TheVariants as bounds
use Rattle.c_ast.specs.declared.Op.{Op}
use Rattle.c_ast.specs.Syntax.{Exp, num, var, element, neg, not, bin, Place, scalar, cell, Asked, more, input, until, limit, Told, start, event, value, finish, stop}
use Rattle.c_ast.specs.Spelling.{name_text, exp_text, op_open, op_text, is_arithmetic, place_text, asked_text, told_text, bound_text, line_text, Line, row_of, header_line, scalar_line, array_line, function_line, main_line, set_line, ask_line, if_line, else_line, for_line, call_line, tell_line, close_line}
use Rattle.c_ast.specs.Bounds.{is_letter, IsName, IsExp, IsPlace, IsAsked, IsTold, IsBound, Fits}
use Rattle.sci_text.specs.Reading.{◌>>=◌, or_else, after, ended}
use Rattle.sci_text.specs.Numbers.{number_at}
use Rattle.sci_text.proofs.Parts.{after_again}
use Rattle.sci_text.proofs.Numbers.{own, no_digit, number_again}
use Rattle.c_parse.specs.Reading.{closed, name_at, exp_at, ends}
use Rattle.c_parse.specs.LineReading.{ending, full_at, next_at, target_at, asked_at, assigned_at, named_at, three_at, four_at, told_at, tell_at, bound_at, same_at, counted_at, for_at, size_at, declared_at, static_at, closing_at, if_at, line_at, blanks, unindented, row_at}
use Rattle.c_parse.specs.LineBounds.{IsLine, row_bytes}
use Rattle.c_parse.proofs.Expressions.{no_digit_from, no_bracket, letter_range, not_digit, name_again, exp_again}

skip : {A B : Type 0} (o : Option A) (f : A → B) (z : B) → o ≡ None → or_else o f z ≡ z
skip o f z e = ap (λ (q : Option _). or_else q f z) e

take_it : {A B : Type 0} (o : Option A) (f : A → B) (z : B) (x : A) → o ≡ Some x → or_else o f z ≡ f x
take_it o f z x e = ap (λ (q : Option _). or_else q f z) e

pub full_again : (e : Exp) (rest : List ℕ) → IsExp e → ends rest ≡ true → full_at (exp_text e ++ rest) ≡ Some (e, rest)
unfolding full_at IsExp
full_again e rest f n = exp_again e 64 rest f n

next_again : (e : Exp) (rest : List ℕ) → IsExp e → ends rest ≡ true → next_at (codes ", " ++ (exp_text e ++ rest)) ≡ Some (e, rest)
unfolding next_at
next_again e rest f n = full_again e rest f n

-- a name begins no other text whose second byte is no digit
pub name_not : (c d : ℕ) (cs : List ℕ) (x : Name) (rest : List ℕ) → is_ascii_digit d ≡ false → IsName x → after (c ∷ d ∷ cs) (name_text x ++ rest) ≡ None
name_not c d cs x rest n f =
    let small : x.number < 2 ^ 64 = omega (arith, f.1) in
    both (nat_eq x.letter c) (after (d ∷ cs) (decimal x.number ++ rest)) (not_digit d cs (decimal x.number) rest n (decimal_nonempty x.number small) (digits_decimal own x.number small))
  where
    both : (b : Bool) (o : Option (List ℕ)) → o ≡ None → cond b o None ≡ None
    both true o e = e
    both false o e = refl

letter_below : (c : ℕ) → is_letter c ≡ true → c ≤ 122
letter_below c h = leb-true c 122 (second (nat_le 97 c) (nat_le c 122) h)
  where
    second : (a b : Bool) → cond a b false ≡ true → b ≡ true
    second true b e = e
    second false b e = absurd cc

name_no_brace : (x : Name) (rest : List ℕ) → IsName x → after (codes "}") (name_text x ++ rest) ≡ None
name_no_brace x rest f = let l = letter_below x.letter f.0 in cond-false (nat_eq x.letter 125) _ _ (ne_eqb x.letter 125 (λ e. omega arith))

-- no expression begins with sci_
exp_not_sci : (e : Exp) (rest : List ℕ) → IsExp e → after (codes "sci_") (exp_text e ++ rest) ≡ None
unfolding IsExp
exp_not_sci (num z) rest f = refl
exp_not_sci (var x) rest f = name_not 115 99 (codes "i_") x rest refl f
exp_not_sci (element x e) rest f = ap (after (codes "sci_")) (append_assoc (name_text x) (codes "[" ++ (exp_text e ++ codes "]")) rest) ∙ name_not 115 99 (codes "i_") x _ refl f.0
exp_not_sci (neg e) rest f = refl
exp_not_sci (not e) rest f = refl
exp_not_sci (bin op a b) rest f = ap (after (codes "sci_")) (append_assoc (op_open op) (exp_text a ++ (op_text op ++ (exp_text b ++ codes ")"))) rest) ∙ opened (is_arithmetic op) _
  where
    opened : (k : Bool) (l : List ℕ) → after (codes "sci_") ((if k then codes "(" else codes "(int64_t)(") ++ l) ≡ None
    opened true l = refl
    opened false l = refl

cell_text : (x : Name) (e : Exp) (rest : List ℕ) → place_text (cell x e) ++ rest ≡ name_text x ++ (91 ∷ (exp_text e ++ 93 ∷ rest))
cell_text x e rest = simp append_assoc

target_again : (p : Place) (rest : List ℕ) → IsPlace p → ends rest ≡ true → target_at (place_text p ++ rest) ≡ Some (p, rest)
unfolding target_at
target_again (scalar x) rest f n = rw (name_again x rest f (no_digit_from rest n), no_bracket rest n) refl
target_again (cell x e) rest f n = ap target_at (cell_text x e rest) ∙ rw (name_again x (91 ∷ (exp_text e ++ 93 ∷ rest)) f.0 refl, full_again e (93 ∷ rest) f.1 refl) refl

-- a question behind sci_
abbrev asked_rest : Asked → List ℕ
asked_rest (more e) = codes "more(" ++ (exp_text e ++ codes ")")
asked_rest (input e) = codes "input(" ++ (exp_text e ++ codes ")")
asked_rest until = codes "until()"
asked_rest limit = codes "limit()"

asked_again : (a : Asked) (rest : List ℕ) → IsAsked a → asked_at (asked_rest a ++ rest) ≡ Some (a, rest)
unfolding asked_at
asked_again (more e) rest f = ap (λ (l : List ℕ). asked_at (codes "more(" ++ l)) (append_assoc (exp_text e) (41 ∷ []) rest) ∙ rw (full_again e (41 ∷ rest) f refl) refl
asked_again (input e) rest f = ap (λ (l : List ℕ). asked_at (codes "input(" ++ l)) (append_assoc (exp_text e) (41 ∷ []) rest) ∙ rw (full_again e (41 ∷ rest) f refl) refl
asked_again until rest f = refl
asked_again limit rest f = refl

asked_sci : (a : Asked) → asked_text a ≡ codes "sci_" ++ asked_rest a
asked_sci (more e) = refl
asked_sci (input e) = refl
asked_sci until = refl
asked_sci limit = refl

ask_again : (p : Place) (a : Asked) → IsAsked a → assigned_at p (asked_text a ++ codes ";") ≡ Some (ask_line p a)
unfolding assigned_at
ask_again p a f = ap (λ (l : List ℕ). assigned_at p (l ++ codes ";")) (asked_sci a) ∙ ap (λ (o : Option (Asked × List ℕ)). o >>= λ a. ending (ask_line p a.0) (codes ";") a.1) (asked_again a (codes ";") f)

set_again : (p : Place) (e : Exp) → IsExp e → assigned_at p (exp_text e ++ codes ";") ≡ Some (set_line p e)
unfolding assigned_at
set_again p e f =
    let rest = full_at (exp_text e ++ codes ";") >>= λ e. ending (set_line p e.0) (codes ";") e.1 in
    skip (after (codes "sci_") (exp_text e ++ codes ";")) (λ rest. asked_at rest >>= λ a. ending (ask_line p a.0) (codes ";") a.1) rest (exp_not_sci e (codes ";") f)
    ∙ ap (λ (o : Option (Exp × List ℕ)). o >>= λ e. ending (set_line p e.0) (codes ";") e.1) (full_again e (codes ";") f refl)

named_place : (p : Place) (tail : List ℕ) (l : Line) → IsPlace p → assigned_at p tail ≡ Some l → named_at (place_text p ++ (codes " = " ++ tail)) ≡ Some l
unfolding named_at
named_place (scalar x) tail l f h = rw (name_again x (codes " = " ++ tail) f refl, target_again (scalar x) (codes " = " ++ tail) f refl) h
named_place (cell x e) tail l f h =
    let text = cell_text x e (codes " = " ++ tail) in
    let again = target_again (cell x e) (codes " = " ++ tail) f refl in
    ap named_at text ∙ rw (name_again x (91 ∷ (exp_text e ++ 93 ∷ (codes " = " ++ tail))) f.0 refl) (ap (λ (o : Option (Place × List ℕ)). o >>= λ p. after (codes " = ") p.1 >>= assigned_at p.0) (sym (ap target_at text) ∙ again) ∙ h)

call_again : (f : Name) → IsName f → named_at (name_text f ++ codes "();") ≡ Some (call_line f)
unfolding named_at
call_again f h = rw (name_again f (codes "();") h refl) refl

three_again : (make : Exp → Exp → Exp → Told) (a b c : Exp) (rest : List ℕ) → IsExp a → IsExp b → IsExp c → three_at make (exp_text a ++ (codes ", " ++ (exp_text b ++ (codes ", " ++ (exp_text c ++ (41 ∷ rest)))))) ≡ Some (make a b c, rest)
unfolding three_at
three_again make a b c rest fa fb fc =
    let tail = codes ", " ++ (exp_text c ++ (41 ∷ rest)) in
    rw (full_again a (codes ", " ++ (exp_text b ++ tail)) fa refl, next_again b tail fb refl, next_again c (41 ∷ rest) fc refl) refl

four_again : (a b c d : Exp) (rest : List ℕ) → IsExp a → IsExp b → IsExp c → IsExp d → four_at (exp_text a ++ (codes ", " ++ (exp_text b ++ (codes ", " ++ (exp_text c ++ (codes ", " ++ (exp_text d ++ (41 ∷ rest)))))))) ≡ Some (value a b c d, rest)
unfolding four_at
four_again a b c d rest fa fb fc fd =
    let last = codes ", " ++ (exp_text d ++ (41 ∷ rest)) in
    let tail = codes ", " ++ (exp_text c ++ last) in
    rw (full_again a (codes ", " ++ (exp_text b ++ tail)) fa refl, next_again b tail fb refl, next_again c last fc refl, next_again d (41 ∷ rest) fd refl) refl

three_text : (a b c : List ℕ) (rest : List ℕ) → (a ++ (codes ", " ++ (b ++ (codes ", " ++ (c ++ codes ")"))))) ++ rest ≡ a ++ (codes ", " ++ (b ++ (codes ", " ++ (c ++ (41 ∷ rest)))))
three_text a b c rest = simp append_assoc

four_text : (a b c d : List ℕ) (rest : List ℕ) → (a ++ (codes ", " ++ (b ++ (codes ", " ++ (c ++ (codes ", " ++ (d ++ codes ")"))))))) ++ rest ≡ a ++ (codes ", " ++ (b ++ (codes ", " ++ (c ++ (codes ", " ++ (d ++ (41 ∷ rest)))))))
four_text a b c d rest = simp append_assoc

-- an observation behind sci_
abbrev told_rest : Told → List ℕ
told_rest start = codes "start()"
told_rest (event a b c) = codes "event(" ++ (exp_text a ++ (codes ", " ++ (exp_text b ++ (codes ", " ++ (exp_text c ++ codes ")")))))
told_rest (value a b c d) = codes "val(" ++ (exp_text a ++ (codes ", " ++ (exp_text b ++ (codes ", " ++ (exp_text c ++ (codes ", " ++ (exp_text d ++ codes ")")))))))
told_rest (finish a) = codes "end(" ++ (exp_text a ++ codes ")")
told_rest (stop a b c) = codes "stop(" ++ (exp_text a ++ (codes ", " ++ (exp_text b ++ (codes ", " ++ (exp_text c ++ codes ")")))))

told_again : (t : Told) (rest : List ℕ) → IsTold t → told_at (told_rest t ++ rest) ≡ Some (t, rest)
unfolding told_at
told_again start rest f = refl
told_again (event a b c) rest f = ap (λ (l : List ℕ). told_at (codes "event(" ++ l)) (three_text (exp_text a) (exp_text b) (exp_text c) rest) ∙ three_again event a b c rest f.0 f.1 f.2
told_again (value a b c d) rest f = ap (λ (l : List ℕ). told_at (codes "val(" ++ l)) (four_text (exp_text a) (exp_text b) (exp_text c) (exp_text d) rest) ∙ four_again a b c d rest f.0 f.1 f.2 f.3
told_again (finish a) rest f = ap (λ (l : List ℕ). told_at (codes "end(" ++ l)) (append_assoc (exp_text a) (41 ∷ []) rest) ∙ rw (full_again a (41 ∷ rest) f refl) refl
told_again (stop a b c) rest f = ap (λ (l : List ℕ). told_at (codes "stop(" ++ l)) (three_text (exp_text a) (exp_text b) (exp_text c) rest) ∙ three_again stop a b c rest f.0 f.1 f.2

told_sci : (t : Told) → told_text t ≡ codes "sci_" ++ told_rest t
told_sci start = refl
told_sci (event a b c) = refl
told_sci (value a b c d) = refl
told_sci (finish a) = refl
told_sci (stop a b c) = refl

tell_again : (t : Told) → IsTold t → tell_at (told_rest t ++ codes ";") ≡ Some (tell_line t)
unfolding tell_at
tell_again t f = ap (λ (o : Option (Told × List ℕ)). o >>= λ t. ending (tell_line t.0) (codes ";") t.1) (told_again t (codes ";") f)

bound_again : (b : Bound) (rest : List ℕ) → IsBound b → no_digit rest ≡ true → bound_at (bound_text b ++ rest) ≡ Some (b, rest)
unfolding bound_at
bound_again (bounds.Num (pos n)) rest f h = ap (λ (l : List ℕ). bound_at (codes "INT64_C(" ++ l)) (append_assoc (decimal n) (41 ∷ []) rest) ∙ rw (number_again (2 ^ 63) n (41 ∷ rest) f (omega arith) refl) refl
bound_again (bounds.Num (negsuc n)) rest f h = absurd f
bound_again (bounds.Var x) rest f h =
    skip (after (codes "INT64_C(") (name_text x ++ rest)) (λ rest. number_at (2 ^ 63) rest >>= λ n. closed (bounds.Num (pos n.0)) (codes ")") n.1) (name_at (name_text x ++ rest) >>= λ x. Some (bounds.Var x.0, x.1)) (name_not 73 78 (codes "T64_C(") x rest refl f)
    ∙ ap (λ (o : Option (Name × List ℕ)). o >>= λ x. Some (bounds.Var x.0, x.1)) (name_again x rest f h)

same_again : (x : Name) (rest : List ℕ) → IsName x → no_digit rest ≡ true → same_at x (name_text x ++ rest) ≡ Some rest
unfolding same_at
same_again x rest f n = rw (name_again x rest f n, eq-eqb x.letter x.letter refl, eq-eqb x.number x.number refl) refl

counted_again : (x : Name) (b : Bound) → IsName x → counted_at x b (codes "; " ++ (name_text x ++ (codes " = " ++ (name_text x ++ codes " + INT64_C(1)) {")))) ≡ Some (for_line x b)
unfolding counted_at
counted_again x b f = rw (same_again x (codes " = " ++ (name_text x ++ codes " + INT64_C(1)) {")) f refl, same_again x (codes " + INT64_C(1)) {") f refl) refl

for_again : (x : Name) (b : Bound) → IsName x → IsBound b → for_at (name_text x ++ (codes " = INT64_C(0); " ++ (name_text x ++ (codes " < " ++ (bound_text b ++ (codes "; " ++ (name_text x ++ (codes " = " ++ (name_text x ++ codes " + INT64_C(1)) {"))))))))) ≡ Some (for_line x b)
unfolding for_at
for_again x b fx fb =
    let end = codes "; " ++ (name_text x ++ (codes " = " ++ (name_text x ++ codes " + INT64_C(1)) {"))) in
    let mid = codes " < " ++ (bound_text b ++ end) in
    rw (name_again x (codes " = INT64_C(0); " ++ (name_text x ++ mid)) fx refl, same_again x mid fx refl, bound_again b end fb refl) (counted_again x b fx)

size_again : (x : Name) (n : ℕ) → 1 ≤ n → n ≤ 1048576 → size_at x (decimal n ++ codes "];") ≡ Some (array_line x n)
unfolding size_at
size_again x n low high = rw (number_again 1048577 n (codes "];") (omega arith) (omega arith) refl, le-leb 1 n low) refl

scalar_again : (x : Name) → IsName x → declared_at (name_text x ++ codes ";") ≡ Some (scalar_line x)
unfolding declared_at
scalar_again x f = rw (name_again x (codes ";") f refl) refl

array_again : (x : Name) (n : ℕ) → IsName x → 1 ≤ n → n ≤ 1048576 → declared_at (name_text x ++ (codes "[" ++ (decimal n ++ codes "];"))) ≡ Some (array_line x n)
unfolding declared_at
array_again x n f low high = rw (name_again x (codes "[" ++ (decimal n ++ codes "];")) f refl) (size_again x n low high)

function_again : (f : Name) → IsName f → static_at (codes "void " ++ (name_text f ++ codes "(void) {")) ≡ Some (function_line f)
unfolding static_at
function_again f h = rw (name_again f (codes "(void) {") h refl) refl

static_again : (bytes : List ℕ) (l : Line) → declared_at bytes ≡ Some l → static_at (codes "int64_t " ++ bytes) ≡ Some l
unfolding static_at
static_again bytes l h = h

if_again : (e : Exp) → IsExp e → if_at (exp_text e ++ codes ") {") ≡ Some (if_line e)
unfolding if_at
if_again e f = rw (full_again e (codes ") {") f refl) refl

line_named : (x : Name) (rest : List ℕ) → IsName x → line_at (name_text x ++ rest) ≡ named_at (name_text x ++ rest)
unfolding line_at
line_named x rest f =
    let b = name_text x ++ rest in
    let r6 = named_at b in
    let r5 = or_else (after (codes "void sci_main(void) {") b) (ended main_line) r6 in
    let r4 = or_else (after (codes "static ") b) static_at r5 in
    let r3 = or_else (after (codes "sci_") b) tell_at r4 in
    let r2 = or_else (after (codes "for (") b) for_at r3 in
    let r1 = or_else (after (codes "if (") b) if_at r2 in
    skip (after (codes "}") b) closing_at r1 (name_no_brace x rest f)
    ∙ skip (after (codes "if (") b) if_at r2 (name_not 105 102 (codes " (") x rest refl f)
    ∙ skip (after (codes "for (") b) for_at r3 (name_not 102 111 (codes "r (") x rest refl f)
    ∙ skip (after (codes "sci_") b) tell_at r4 (name_not 115 99 (codes "i_") x rest refl f)
    ∙ skip (after (codes "static ") b) static_at r5 (name_not 115 116 (codes "atic ") x rest refl f)
    ∙ skip (after (codes "void sci_main(void) {") b) (ended main_line) r6 (name_not 118 111 (codes "id sci_main(void) {") x rest refl f)

place_name : (p : Place) → IsPlace p → (x : Name) × (rest : List ℕ) × (place_text p ≡ name_text x ++ rest) × IsName x
place_name (scalar x) f = (x, [], sym (append-nil (name_text x)), f)
place_name (cell x e) f = (x, codes "[" ++ (exp_text e ++ codes "]"), refl, f.0)

line_placed : (p : Place) (tail : List ℕ) (l : Line) → IsPlace p → assigned_at p tail ≡ Some l → line_at (place_text p ++ (codes " = " ++ tail)) ≡ Some l
line_placed p tail l f h =
    let n = place_name p f in
    let text : place_text p ++ (codes " = " ++ tail) ≡ name_text n.0 ++ (n.1 ++ (codes " = " ++ tail)) = ap (λ (t : List ℕ). t ++ (codes " = " ++ tail)) n.2 ∙ append_assoc (name_text n.0) n.1 (codes " = " ++ tail) in
    ap line_at text ∙ line_named n.0 (n.1 ++ (codes " = " ++ tail)) n.3 ∙ sym (ap named_at text) ∙ named_place p tail l f h

-- behind the texts with which lines begin
line_sci : (bytes : List ℕ) → line_at (codes "sci_" ++ bytes) ≡ tell_at bytes
unfolding line_at
line_sci bytes = refl

line_static : (bytes : List ℕ) → line_at (codes "static " ++ bytes) ≡ static_at bytes
unfolding line_at
line_static bytes = refl

line_if : (bytes : List ℕ) → line_at (codes "if (" ++ bytes) ≡ if_at bytes
unfolding line_at
line_if bytes = refl

line_for : (bytes : List ℕ) → line_at (codes "for (" ++ bytes) ≡ for_at bytes
unfolding line_at
line_for bytes = refl

line_ending : line_at (codes "}") ≡ Some close_line
unfolding line_at closing_at
line_ending = refl

line_else : line_at (codes "} else {") ≡ Some else_line
unfolding line_at closing_at
line_else = refl

line_main : line_at (codes "void sci_main(void) {") ≡ Some main_line
unfolding line_at
line_main = refl

pub line_again : (l : Line) → IsLine l → line_at (line_text l) ≡ Some l
line_again (header_line t) f = absurd f
line_again (scalar_line x) f = line_static (codes "int64_t " ++ (name_text x ++ codes ";")) ∙ static_again (name_text x ++ codes ";") (scalar_line x) (scalar_again x f)
line_again (array_line x n) f = line_static (codes "int64_t " ++ (name_text x ++ (codes "[" ++ (decimal n ++ codes "];")))) ∙ static_again (name_text x ++ (codes "[" ++ (decimal n ++ codes "];"))) (array_line x n) (array_again x n f.0 f.1.0 f.1.1)
line_again (function_line x) f = line_static (codes "void " ++ (name_text x ++ codes "(void) {")) ∙ function_again x f
line_again main_line f = line_main
line_again (set_line p e) f = line_placed p (exp_text e ++ codes ";") (set_line p e) f.0 (set_again p e f.1)
line_again (ask_line p a) f = line_placed p (asked_text a ++ codes ";") (ask_line p a) f.0 (ask_again p a f.1)
line_again (if_line e) f = line_if (exp_text e ++ codes ") {") ∙ if_again e f
line_again else_line f = line_else
line_again (for_line x b) f = line_for (name_text x ++ (codes " = INT64_C(0); " ++ (name_text x ++ (codes " < " ++ (bound_text b ++ (codes "; " ++ (name_text x ++ (codes " = " ++ (name_text x ++ codes " + INT64_C(1)) {"))))))))) ∙ for_again x b f.0 f.1
line_again (call_line x) f = line_named x (codes "();") f ∙ call_again x f
line_again (tell_line t) f = ap (λ (l : List ℕ). line_at (l ++ codes ";")) (told_sci t) ∙ line_sci (told_rest t ++ codes ";") ∙ tell_again t f
line_again close_line f = line_ending

-- no line's text begins with a blank
abbrev Flush : List ℕ → Type 0
Flush t = (blanks t ≡ 0) × (unindented t ≡ t)

name_flush : (x : Name) (rest : List ℕ) → IsName x → Flush (name_text x ++ rest)
name_flush x rest f =
    let l = letter_range x.letter f.0 in
    let e = ne_eqb x.letter 32 (λ e. omega arith) in
    (cond-false (nat_eq x.letter 32) _ _ e, cond-false (nat_eq x.letter 32) _ _ e)

place_flush : (p : Place) (rest : List ℕ) → IsPlace p → Flush (place_text p ++ rest)
place_flush p rest f =
    let n = place_name p f in
    subst Flush (sym (ap (λ (t : List ℕ). t ++ rest) n.2 ∙ append_assoc (name_text n.0) n.1 rest)) (name_flush n.0 (n.1 ++ rest) n.3)

line_flush : (l : Line) → IsLine l → Flush (line_text l)
line_flush (header_line t) f = absurd f
line_flush (scalar_line x) f = (refl, refl)
line_flush (array_line x n) f = (refl, refl)
line_flush (function_line x) f = (refl, refl)
line_flush main_line f = (refl, refl)
line_flush (set_line p e) f = place_flush p (codes " = " ++ (exp_text e ++ codes ";")) f.0
line_flush (ask_line p a) f = place_flush p (codes " = " ++ (asked_text a ++ codes ";")) f.0
line_flush (if_line e) f = (refl, refl)
line_flush else_line f = (refl, refl)
line_flush (for_line x b) f = (refl, refl)
line_flush (call_line x) f = name_flush x (codes "();") f
line_flush (tell_line t) f = subst Flush (sym (ap (λ (l : List ℕ). l ++ codes ";") (told_sci t))) (refl, refl)
line_flush close_line f = (refl, refl)

blanks_in : (n : ℕ) (t : List ℕ) → Flush t → (blanks (replicate n 32 ++ t) ≡ n) × (unindented (replicate n 32 ++ t) ≡ t)
blanks_in zero t f = f
blanks_in (suc n) t f = let i = blanks_in n t f in (ap suc i.0, i.1)

-- a line is read back with its depth
pub row_again : (d : ℕ) (l : Line) → IsLine l → row_at (row_bytes (row_of d l)) ≡ Some (row_of d l)
unfolding row_at
row_again d l f =
    let b = blanks_in (2 * d) (line_text l) (line_flush l f) in
    let even : 2 * d % 2 ≡ 0 = omega arith in
    let half : 2 * d / 2 ≡ d = omega arith in
    rw (b.0, b.1, even, half, line_again l f) refl
