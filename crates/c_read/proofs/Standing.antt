-- The name of each event stands at its place.
use Rattle.std.proofs.Common.{◌≡◌, ℕ, suc, ◌+◌, ◌*◌, List, [], ◌∷◌, ◌++◌, length, drop, Some, refl, sym, ap, ◌∙◌, subst, append_assoc, append-nil, length-append}
use Rattle.std.proofs.lemmas.List.{length-replicate, drop_at}
use Rattle.std.specs.Prelude.{codes, replicate}
use Rattle.c_ast.specs.declared.Name.{Name}
use Rattle.c_ast.specs.declared.Bound.{Bound}
use Rattle.c_ast.specs.declared.Bound.TheVariants as bounds
use Rattle.c_ast.specs.declared.events.TextEvent.{TextEvent}
use Rattle.c_ast.specs.Syntax.{Exp, num, var, element, neg, not, bin, Place, scalar, cell, Asked, more, input, until, limit, Told, start, event, value, finish, stop, Whole}
use Rattle.c_ast.specs.Spelling.{name_text, op_open, op_text, exp_text, place_text, asked_text, told_text, bound_text, line_text, Line, IndentedLine, header_line, scalar_line, array_line, function_line, main_line, set_line, ask_line, if_line, else_line, for_line, call_line, tell_line, close_line, row_text, rows_text, spelling}
use Rattle.c_ast.specs.Events.{exp_events, place_events, asked_events, told_events, bound_events, line_events, rows_events, program_events}
use Rattle.c_ast.proofs.EventRows.{program_rows_events}
use Rattle.c_parse.specs.Machine.{header_text}
use Rattle.c_parse.specs.Blame.{behind_rows}
use Rattle.c_parse.proofs.StateLaws.{spelling_is}
use Rattle.c_read.specs.Names.{past, exp_places, next_place, three_places, place_places, asked_places, told_places, bound_places, line_places, row_places, rows_places, program_places, Begins, NamesStand}

-- A piece of the text, which begins at byte n.
pub record At (text : List ℕ) (n : ℕ) (piece : List ℕ) : Type 0 where
  pub front : List ℕ
  pub back : List ℕ
  pub split : text ≡ front ++ (piece ++ back)
  pub byte : n ≡ length front

left : (text : List ℕ) (n : ℕ) (a b : List ℕ) → At text n (a ++ b) → At text n a
left text n a b p = record { front = p.front; back = b ++ p.back; split = p.split ∙ ap (λ (l : List ℕ). p.front ++ l) (append_assoc a b p.back); byte = p.byte }

right : (text : List ℕ) (n : ℕ) (a b : List ℕ) → At text n (a ++ b) → At text (past n a) b
right text n a b p = record {
  front = p.front ++ a;
  back = p.back;
  split = p.split ∙ ap (λ (l : List ℕ). p.front ++ l) (append_assoc a b p.back) ∙ sym (append_assoc p.front a (b ++ p.back));
  byte = ap (λ (k : ℕ). k + length a) p.byte ∙ sym (length-append p.front a);
}

-- what stands in the middle
inside : (text : List ℕ) (n : ℕ) (a b c : List ℕ) → At text n (a ++ (b ++ c)) → At text (past n a) b
inside text n a b c p = left text (past n a) b c (right text n a (b ++ c) p)

begins : (text : List ℕ) (n : ℕ) (x : Name) → At text n (name_text x) → Begins (drop n text) (Some x)
begins text n x p = (p.back, ap (λ (k : ℕ). drop k text) p.byte ∙ ap (drop (length p.front)) p.split ∙ drop_at p.front (name_text x ++ p.back) (length p.front) refl)

stand_append : (text : List ℕ) (a : List ℕ) (x : List TextEvent) (b : List ℕ) (y : List TextEvent) → NamesStand text a x → NamesStand text b y → NamesStand text (a ++ b) (x ++ y)
stand_append text [] [] b y s t = t
stand_append text [] (e ∷ x) b y s t = absurd s
stand_append text (n ∷ a) [] b y s t = absurd s
stand_append text (n ∷ a) (e ∷ x) b y s t = (s.0, stand_append text a x b y s.1 t)

exp_stand : (text : List ℕ) (e : Exp) (n : ℕ) → At text n (exp_text e) → NamesStand text (exp_places n e) (exp_events e)
exp_stand text (num z) n p = tt
exp_stand text (var x) n p = (begins text n x p, tt)
exp_stand text (element x e) n p =
    let r = right text n (name_text x) (codes "[" ++ (exp_text e ++ codes "]")) p in
    (begins text n x (left text n (name_text x) _ p), exp_stand text e _ (inside text _ (codes "[") (exp_text e) (codes "]") r))
exp_stand text (neg e) n p = exp_stand text e _ (inside text n (codes "(-") (exp_text e) (codes ")") p)
exp_stand text (not e) n p = exp_stand text e _ (inside text n (codes "(int64_t)(!") (exp_text e) (codes ")") p)
exp_stand text (bin op a b) n p =
    let r = right text n (op_open op) (exp_text a ++ (op_text op ++ (exp_text b ++ codes ")"))) p in
    let m = past n (op_open op) in
    let s = right text m (exp_text a) (op_text op ++ (exp_text b ++ codes ")")) r in
    stand_append text (exp_places m a) (exp_events a) _ (exp_events b) (exp_stand text a m (left text m (exp_text a) _ r)) (exp_stand text b _ (inside text (past m (exp_text a)) (op_text op) (exp_text b) (codes ")") s))

place_stand : (text : List ℕ) (q : Place) (n : ℕ) → At text n (place_text q) → NamesStand text (place_places n q) (place_events q)
place_stand text (scalar x) n p = (begins text n x p, tt)
place_stand text (cell x e) n p =
    let r = right text n (name_text x) (codes "[" ++ (exp_text e ++ codes "]")) p in
    (begins text n x (left text n (name_text x) _ p), exp_stand text e _ (inside text _ (codes "[") (exp_text e) (codes "]") r))

asked_stand : (text : List ℕ) (q : Asked) (n : ℕ) → At text n (asked_text q) → NamesStand text (asked_places n q) (asked_events q)
asked_stand text (more e) n p = exp_stand text e _ (inside text n (codes "sci_more(") (exp_text e) (codes ")") p)
asked_stand text (input e) n p = exp_stand text e _ (inside text n (codes "sci_input(") (exp_text e) (codes ")") p)
asked_stand text until n p = tt
asked_stand text limit n p = tt

-- three arguments, and what stands behind one
abbrev three_text : Exp → Exp → Exp → List ℕ
three_text a b c = exp_text a ++ (codes ", " ++ (exp_text b ++ (codes ", " ++ (exp_text c ++ codes ")"))))

behind_one : (text : List ℕ) (n : ℕ) (a : Exp) (rest : List ℕ) → At text n (exp_text a ++ (codes ", " ++ rest)) → At text (next_place n a) rest
behind_one text n a rest p = right text (past n (exp_text a)) (codes ", ") rest (right text n (exp_text a) (codes ", " ++ rest) p)

three_stand : (text : List ℕ) (a b c : Exp) (n : ℕ) → At text n (three_text a b c) → NamesStand text (three_places n a b c) (exp_events a ++ (exp_events b ++ exp_events c))
three_stand text a b c n p =
    let q = behind_one text n a (exp_text b ++ (codes ", " ++ (exp_text c ++ codes ")"))) p in
    let r = behind_one text (next_place n a) b (exp_text c ++ codes ")") q in
    stand_append text (exp_places n a) (exp_events a) _ _ (exp_stand text a n (left text n (exp_text a) _ p))
    (stand_append text (exp_places (next_place n a) b) (exp_events b) _ _ (exp_stand text b (next_place n a) (left text _ (exp_text b) _ q)) (exp_stand text c _ (left text _ (exp_text c) (codes ")") r)))

told_stand : (text : List ℕ) (t : Told) (n : ℕ) → At text n (told_text t) → NamesStand text (told_places n t) (told_events t)
told_stand text start n p = tt
told_stand text (event a b c) n p = three_stand text a b c _ (right text n (codes "sci_event(") (three_text a b c) p)
told_stand text (value a b c d) n p =
    let m = past n (codes "sci_val(") in
    let q = right text n (codes "sci_val(") (exp_text a ++ (codes ", " ++ three_text b c d)) p in
    stand_append text (exp_places m a) (exp_events a) _ _ (exp_stand text a m (left text m (exp_text a) _ q)) (three_stand text b c d _ (behind_one text m a (three_text b c d) q))
told_stand text (finish a) n p = exp_stand text a _ (inside text n (codes "sci_end(") (exp_text a) (codes ")") p)
told_stand text (stop a b c) n p = three_stand text a b c _ (right text n (codes "sci_stop(") (three_text a b c) p)

bound_stand : (text : List ℕ) (b : Bound) (n : ℕ) → At text n (bound_text b) → NamesStand text (bound_places n b) (bound_events b)
bound_stand text (bounds.Num z) n p = tt
bound_stand text (bounds.Var x) n p = (begins text n x p, tt)

-- a loop's line from its counter on
loop_stand : (text : List ℕ) (x : Name) (b : Bound) (back : List ℕ) (n : ℕ) → At text n (name_text x ++ (codes " = INT64_C(0); " ++ (name_text x ++ (codes " < " ++ (bound_text b ++ back))))) → NamesStand text (n ∷ bound_places (past (past (past (past n (name_text x)) (codes " = INT64_C(0); ")) (name_text x)) (codes " < ")) b) (line_events (for_line x b))
loop_stand text x b back n p =
    let q = right text n (name_text x) (codes " = INT64_C(0); " ++ (name_text x ++ (codes " < " ++ (bound_text b ++ back)))) p in
    let r = right text _ (codes " = INT64_C(0); ") (name_text x ++ (codes " < " ++ (bound_text b ++ back))) q in
    let s = right text _ (name_text x) (codes " < " ++ (bound_text b ++ back)) r in
    (begins text n x (left text n (name_text x) _ p), bound_stand text b _ (inside text _ (codes " < ") (bound_text b) back s))

line_stand : (text : List ℕ) (l : Line) (n : ℕ) → At text n (line_text l) → NamesStand text (line_places n l) (line_events l)
line_stand text (header_line t) n p = tt
line_stand text (scalar_line x) n p = (begins text _ x (inside text n (codes "static int64_t ") (name_text x) (codes ";") p), tt)
line_stand text (array_line x k) n p = (begins text _ x (inside text n (codes "static int64_t ") (name_text x) _ p), tt)
line_stand text (function_line f) n p = (begins text _ f (inside text n (codes "static void ") (name_text f) (codes "(void) {") p), tt)
line_stand text main_line n p = (tt, tt)
line_stand text (set_line q e) n p =
    let r = right text n (place_text q) (codes " = " ++ (exp_text e ++ codes ";")) p in
    stand_append text (place_places n q) (place_events q) _ (exp_events e) (place_stand text q n (left text n (place_text q) _ p)) (exp_stand text e _ (inside text _ (codes " = ") (exp_text e) (codes ";") r))
line_stand text (ask_line q a) n p =
    let r = right text n (place_text q) (codes " = " ++ (asked_text a ++ codes ";")) p in
    stand_append text (place_places n q) (place_events q) _ (asked_events a) (place_stand text q n (left text n (place_text q) _ p)) (asked_stand text a _ (inside text _ (codes " = ") (asked_text a) (codes ";") r))
line_stand text (if_line e) n p = stand_append text _ (exp_events e) _ _ (exp_stand text e _ (inside text n (codes "if (") (exp_text e) (codes ") {") p)) (tt, tt)
line_stand text else_line n p = tt
line_stand text (for_line x b) n p = loop_stand text x b _ _ (right text n (codes "for (") _ p)
line_stand text (call_line f) n p = (begins text n f (left text n (name_text f) (codes "();") p), tt)
line_stand text (tell_line t) n p = told_stand text t n (left text n (told_text t) (codes ";") p)
line_stand text close_line n p = (tt, tt)

row_stand : (text : List ℕ) (r : IndentedLine) (n : ℕ) → At text n (row_text r) → NamesStand text (row_places n r) (line_events r.line)
row_stand text r n p =
    let blanks : past n (replicate (2 * r.depth) 32) ≡ n + 2 * r.depth = ap (λ (k : ℕ). n + k) (length-replicate (2 * r.depth) 32) in
    subst (λ (k : ℕ). NamesStand text (line_places k r.line) (line_events r.line)) blanks (line_stand text r.line _ (inside text n (replicate (2 * r.depth) 32) (line_text r.line) (codes "\n") p))

rows_stand : (text : List ℕ) (rs : List IndentedLine) (n : ℕ) → At text n (rows_text rs) → NamesStand text (rows_places n rs) (rows_events rs)
rows_stand text [] n p = tt
rows_stand text (r ∷ rs) n p = stand_append text (row_places n r) (line_events r.line) _ (rows_events rs) (row_stand text r n (left text n (row_text r) _ p)) (rows_stand text rs _ (right text n (row_text r) (rows_text rs) p))

pub program_stand : (p : Whole) → NamesStand (spelling p) (program_places p) (program_events p)
program_stand p =
    let rows = rows_text (behind_rows p) in
    let s = rows_stand (spelling p) (behind_rows p) (length header_text) (record { front = header_text; back = []; split = spelling_is p ∙ ap (λ (l : List ℕ). header_text ++ l) (sym (append-nil rows)); byte = refl }) in
    subst (NamesStand (spelling p) (program_places p)) (program_rows_events p) s

stand_length : (text ns : List ℕ) (es : List TextEvent) → NamesStand text ns es → length ns ≡ length es
stand_length text [] [] s = refl
stand_length text [] (e ∷ es) s = absurd s
stand_length text (n ∷ ns) [] s = absurd s
stand_length text (n ∷ ns) (e ∷ es) s = ap suc (stand_length text ns es s.1)

pub places_length : (p : Whole) → length (program_places p) ≡ length (program_events p)
places_length p = stand_length (spelling p) (program_places p) (program_events p) (program_stand p)
