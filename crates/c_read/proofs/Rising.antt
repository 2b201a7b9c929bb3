-- The places of a program's names rise.
use Rattle.std.proofs.Common.{◌≡◌, ℕ, ◌+◌, ◌*◌, ◌≤◌, List, [], ◌∷◌, ◌++◌, length, ap, ◌∙◌, subst, arith, length-append}
use Rattle.std.proofs.lemmas.List.{length-replicate}
use Rattle.std.specs.Prelude.{codes, decimal, replicate}
use Rattle.c_ast.specs.declared.Name.{Name}
use Rattle.c_ast.specs.declared.Bound.{Bound}
use Rattle.c_ast.specs.declared.Bound.TheVariants as bounds
use Rattle.c_ast.specs.Syntax.{Exp, num, var, element, neg, not, bin, Place, scalar, cell, Asked, more, input, until, limit, Told, start, event, value, finish, stop, Whole}
use Rattle.c_ast.specs.Spelling.{name_text, op_open, op_text, exp_text, place_text, asked_text, told_text, bound_text, line_text, Line, IndentedLine, header_line, scalar_line, array_line, function_line, main_line, set_line, ask_line, if_line, else_line, for_line, call_line, tell_line, close_line, row_text, rows_text, spelling}
use Rattle.c_parse.specs.Machine.{header_text}
use Rattle.c_parse.specs.Blame.{behind_rows}
use Rattle.c_parse.proofs.StateLaws.{spelling_is}
use Rattle.c_read.specs.Names.{past, exp_places, next_place, three_places, place_places, asked_places, told_places, bound_places, bound_place, line_places, row_places, rows_places, program_places, Rise}

lower : (a b c : ℕ) (ns : List ℕ) → a ≤ b → Rise b ns c → Rise a ns c
lower a b c [] h r = omega arith
lower a b c (n ∷ ns) h r = let least = r.0 in (omega arith, r.1)

both : (a b c : ℕ) (ns ms : List ℕ) → Rise a ns b → Rise b ms c → Rise a (ns ++ ms) c
both a b c [] ms r s = lower a b c ms r s
both a b c (n ∷ ns) ms r s = (r.0, both (n + 1) b c ns ms r.1 s)

higher : (a b c : ℕ) (ns : List ℕ) → Rise a ns b → b ≤ c → Rise a ns c
higher a b c [] r h = omega arith
higher a b c (n ∷ ns) r h = (r.0, higher (n + 1) b c ns r.1 h)

within : (a b c d : ℕ) (ns : List ℕ) → Rise b ns c → a ≤ b → c ≤ d → Rise a ns d
within a b c d ns r h k = lower a b d ns h (higher b c d ns r k)

-- a piece of a text that begins at byte n
abbrev Rises : ℕ → List ℕ → List ℕ → Type 0
Rises n ns text = Rise n ns (past n text)

first : (n : ℕ) (a b : List ℕ) (ns : List ℕ) → Rises n ns a → Rises n ns (a ++ b)
first n a b ns r = higher n (past n a) (past n (a ++ b)) ns r (let e = length-append a b in omega arith)

behind : (n : ℕ) (a b : List ℕ) (ns : List ℕ) → Rises (past n a) ns b → Rises n ns (a ++ b)
behind n a b ns r = within n (past n a) (past (past n a) b) (past n (a ++ b)) ns r (omega arith) (let e = length-append a b in omega arith)

inside : (n : ℕ) (a b c : List ℕ) (ns : List ℕ) → Rises (past n a) ns b → Rises n ns (a ++ (b ++ c))
inside n a b c ns r = behind n a (b ++ c) ns (first (past n a) b c ns r)

each : (n : ℕ) (a b : List ℕ) (ns ms : List ℕ) → Rises n ns a → Rises (past n a) ms b → Rises n (ns ++ ms) (a ++ b)
each n a b ns ms r s = higher n (past (past n a) b) (past n (a ++ b)) (ns ++ ms) (both n (past n a) (past (past n a) b) ns ms r s) (let e = length-append a b in omega arith)

name_rises : (n : ℕ) (x : Name) → Rises n (n ∷ []) (name_text x)
name_rises n x = (omega arith, omega arith)

-- something at the first byte, and behind it the rest
exp_rises : (e : Exp) (n : ℕ) → Rises n (exp_places n e) (exp_text e)
exp_rises (num z) n = omega arith
exp_rises (var x) n = name_rises n x
exp_rises (element x e) n = each n (name_text x) (codes "[" ++ (exp_text e ++ codes "]")) (n ∷ []) _ (name_rises n x) (inside _ (codes "[") (exp_text e) (codes "]") _ (exp_rises e _))
exp_rises (neg e) n = inside n (codes "(-") (exp_text e) (codes ")") _ (exp_rises e _)
exp_rises (not e) n = inside n (codes "(int64_t)(!") (exp_text e) (codes ")") _ (exp_rises e _)
exp_rises (bin op a b) n =
    let m = past n (op_open op) in
    behind n (op_open op) (exp_text a ++ (op_text op ++ (exp_text b ++ codes ")"))) _
    (each m (exp_text a) (op_text op ++ (exp_text b ++ codes ")")) (exp_places m a) _ (exp_rises a m) (inside (past m (exp_text a)) (op_text op) (exp_text b) (codes ")") _ (exp_rises b _)))

place_rises : (q : Place) (n : ℕ) → Rises n (place_places n q) (place_text q)
place_rises (scalar x) n = name_rises n x
place_rises (cell x e) n = each n (name_text x) (codes "[" ++ (exp_text e ++ codes "]")) (n ∷ []) _ (name_rises n x) (inside _ (codes "[") (exp_text e) (codes "]") _ (exp_rises e _))

asked_rises : (q : Asked) (n : ℕ) → Rises n (asked_places n q) (asked_text q)
asked_rises (more e) n = inside n (codes "sci_more(") (exp_text e) (codes ")") _ (exp_rises e _)
asked_rises (input e) n = inside n (codes "sci_input(") (exp_text e) (codes ")") _ (exp_rises e _)
asked_rises until n = omega arith
asked_rises limit n = omega arith

-- arguments
one_rises : (n : ℕ) (a : Exp) (rest : List ℕ) (ms : List ℕ) → Rises (next_place n a) ms rest → Rises n (exp_places n a ++ ms) (exp_text a ++ (codes ", " ++ rest))
one_rises n a rest ms r = each n (exp_text a) (codes ", " ++ rest) (exp_places n a) ms (exp_rises a n) (behind (past n (exp_text a)) (codes ", ") rest ms r)

abbrev three_text : Exp → Exp → Exp → List ℕ
three_text a b c = exp_text a ++ (codes ", " ++ (exp_text b ++ (codes ", " ++ (exp_text c ++ codes ")"))))

three_rise : (n : ℕ) (a b c : Exp) → Rises n (three_places n a b c) (three_text a b c)
three_rise n a b c =
    one_rises n a (exp_text b ++ (codes ", " ++ (exp_text c ++ codes ")"))) _
    (one_rises (next_place n a) b (exp_text c ++ codes ")") _ (first (next_place (next_place n a) b) (exp_text c) (codes ")") _ (exp_rises c _)))

told_rises : (t : Told) (n : ℕ) → Rises n (told_places n t) (told_text t)
told_rises start n = omega arith
told_rises (event a b c) n = behind n (codes "sci_event(") (three_text a b c) _ (three_rise _ a b c)
told_rises (value a b c d) n = behind n (codes "sci_val(") (exp_text a ++ (codes ", " ++ three_text b c d)) _ (one_rises _ a (three_text b c d) _ (three_rise _ b c d))
told_rises (finish a) n = inside n (codes "sci_end(") (exp_text a) (codes ")") _ (exp_rises a _)
told_rises (stop a b c) n = behind n (codes "sci_stop(") (three_text a b c) _ (three_rise _ a b c)

bound_rises : (b : Bound) (n : ℕ) → Rises n (bound_places n b) (bound_text b)
bound_rises (bounds.Num z) n = omega arith
bound_rises (bounds.Var x) n = name_rises n x

-- a loop's line from its counter on
abbrev loop_text : Name → Bound → List ℕ → List ℕ
loop_text x b back = name_text x ++ (codes " = INT64_C(0); " ++ (name_text x ++ (codes " < " ++ (bound_text b ++ back))))

loop_rises : (x : Name) (b : Bound) (back : List ℕ) (n : ℕ) → Rises n (n ∷ bound_places (bound_place n (name_text x)) b) (loop_text x b back)
loop_rises x b back n =
    let m = past n (name_text x) in
    let k = past m (codes " = INT64_C(0); ") in
    each n (name_text x) (codes " = INT64_C(0); " ++ (name_text x ++ (codes " < " ++ (bound_text b ++ back)))) (n ∷ []) _ (name_rises n x)
    (behind m (codes " = INT64_C(0); ") (name_text x ++ (codes " < " ++ (bound_text b ++ back))) _ (behind k (name_text x) (codes " < " ++ (bound_text b ++ back)) _ (inside (past k (name_text x)) (codes " < ") (bound_text b) back _ (bound_rises b _))))

-- something that has no name, at the first byte of a text
any_rises : (n c : ℕ) (text : List ℕ) → Rises n (n ∷ []) (c ∷ text)
any_rises n c text = (omega arith, omega arith)

named : (n : ℕ) (front back : List ℕ) (x : Name) → Rises n (past n front ∷ []) (front ++ (name_text x ++ back))
named n front back x = inside n front (name_text x) back (past n front ∷ []) (name_rises (past n front) x)

line_rises : (l : Line) (n : ℕ) → Rises n (line_places n l) (line_text l)
line_rises (header_line t) n = omega arith
line_rises (scalar_line x) n = named n (codes "static int64_t ") (codes ";") x
line_rises (array_line x k) n = named n (codes "static int64_t ") (codes "[" ++ (decimal k ++ codes "];")) x
line_rises (function_line f) n = named n (codes "static void ") (codes "(void) {") f
line_rises main_line n = (omega arith, omega arith)
line_rises (set_line q e) n = each n (place_text q) (codes " = " ++ (exp_text e ++ codes ";")) (place_places n q) _ (place_rises q n) (inside (past n (place_text q)) (codes " = ") (exp_text e) (codes ";") _ (exp_rises e _))
line_rises (ask_line q a) n = each n (place_text q) (codes " = " ++ (asked_text a ++ codes ";")) (place_places n q) _ (place_rises q n) (inside (past n (place_text q)) (codes " = ") (asked_text a) (codes ";") _ (asked_rises a _))
line_rises (if_line e) n =
    behind n (codes "if (") (exp_text e ++ codes ") {") _ (each (past n (codes "if (")) (exp_text e) (codes ") {") (exp_places (past n (codes "if (")) e) (past (past n (codes "if (")) (exp_text e) ∷ []) (exp_rises e _) (any_rises _ 41 (32 ∷ 123 ∷ [])))
line_rises else_line n = omega arith
line_rises (for_line x b) n =
    let m = past n (codes "for (") in
    let back = codes "; " ++ (name_text x ++ (codes " = " ++ (name_text x ++ codes " + INT64_C(1)) {"))) in
    behind n (codes "for (") (loop_text x b back) (m ∷ bound_places (bound_place m (name_text x)) b) (loop_rises x b back m)
line_rises (call_line f) n = first n (name_text f) (codes "();") (n ∷ []) (name_rises n f)
line_rises (tell_line t) n = first n (told_text t) (codes ";") _ (told_rises t n)
line_rises close_line n = (omega arith, omega arith)

row_rises : (r : IndentedLine) (n : ℕ) → Rises n (row_places n r) (row_text r)
row_rises r n =
    let blanks : past n (replicate (2 * r.depth) 32) ≡ n + 2 * r.depth = ap (λ (k : ℕ). n + k) (length-replicate (2 * r.depth) 32) in
    subst (λ (k : ℕ). Rises n (line_places k r.line) (row_text r)) blanks (inside n (replicate (2 * r.depth) 32) (line_text r.line) (codes "\n") _ (line_rises r.line _))

rows_rise : (rs : List IndentedLine) (n : ℕ) → Rises n (rows_places n rs) (rows_text rs)
rows_rise [] n = omega arith
rows_rise (r ∷ rs) n = each n (row_text r) (rows_text rs) (row_places n r) _ (row_rises r n) (rows_rise rs _)

pub program_rises : (p : Whole) → Rise 0 (program_places p) (length (spelling p))
program_rises p =
    let e = ap length (spelling_is p) ∙ length-append header_text (rows_text (behind_rows p)) in
    within 0 (length header_text) (past (length header_text) (rows_text (behind_rows p))) (length (spelling p)) (program_places p) (rows_rise (behind_rows p) (length header_text)) (omega arith) (omega arith)
