-- The lines of a body are read back as the body.
use Rattle.std.proofs.Common.{◌≡◌, ℕ, zero, suc, ◌+◌, ◌-◌, ◌<◌, ◌≤◌, List, [], ◌∷◌, ◌++◌, Option, Some, None, Bool, true, false, cond, refl, sym, ap, ◌∙◌, subst, arith, append_assoc, append-nil}
use Rattle.std.specs.Prelude.{nat_eq, nat_lt, ◌&&◌}
use Rattle.std.proofs.lemmas.Bool.{cond-true, eq-eqb, eqb-true, lt-ltb, ltb-true, and_parts, and_from}
use Rattle.c_ast.specs.declared.Name.{Name}
use Rattle.c_ast.specs.declared.Bound.{Bound}
use Rattle.c_ast.specs.Syntax.{Exp, Place, Asked, Told, Statement, set, ask, choice, loop, call, tell, Block, done, next, start}
use Rattle.c_ast.specs.Spelling.{Line, IndentedLine, at_depth, header_line, scalar_line, array_line, function_line, main_line, set_line, ask_line, if_line, else_line, for_line, call_line, tell_line, close_line, statement_rows, block_rows, else_rows}
use Rattle.c_ast.specs.Bounds.{IsName, IsExp, IsPlace, IsAsked, IsTold, IsBound, StatementFits, BlockFits}
use Rattle.c_ast.proofs.Fits.{some_room, choice_parts, loop_part}
use Rattle.sci_text.specs.Reading.{◌>>=◌}
use Rattle.sci_text.proofs.Parts.{bind_some, guarded, some_is}
use Rattle.c_parse.specs.LineBounds.{IsLine}
use Rattle.c_parse.specs.Machine.{Opened, first, second, turn, Open, bottom, inner, append, one, depth_of, outer_depth, add, closes, close, otherwise, step_line, expected_depth, is_close, has_room, step_row}

abbrev pub steps : List IndentedLine → Open → Option Open
steps [] o = Some o
steps (r ∷ rs) o = step_row r o >>= steps rs

append-done : (a : Block) → append a done ≡ a
append-done done = refl
append-done (next s a) = ap (next s) (append-done a)

append_next : (a : Block) (s : Statement) (b : Block) → append (append a (one s)) b ≡ append a (next s b)
append_next done s b = refl
append_next (next t a) s b = ap (next t) (append_next a s b)

-- statements at the end of the innermost block
abbrev add_all : Block → Open → Open
add_all b (bottom a) = bottom (append a b)
add_all b (inner a o k) = inner (append a b) o k

add_none : (o : Open) → add_all done o ≡ o
add_none (bottom a) = ap bottom (append-done a)
add_none (inner a o k) = ap (λ b. inner b o k) (append-done a)

add_next : (s : Statement) (b : Block) (o : Open) → add_all b (add s o) ≡ add_all (next s b) o
add_next s b (bottom a) = ap bottom (append_next a s b)
add_next s b (inner a o k) = ap (λ b. inner b o k) (append_next a s b)

add_depth : (s : Statement) (o : Open) → depth_of (add s o) ≡ depth_of o
add_depth s (bottom b) = refl
add_depth s (inner b o k) = refl

steps-append : (a b : List IndentedLine) (o p : Open) → steps a o ≡ Some p → steps (a ++ b) o ≡ steps b p
steps-append [] b o p e = ap (λ (q : Option Open). q >>= steps b) e
steps-append (r ∷ rs) b o p e =
    let m = bind_some (step_row r o) (steps rs) p e in
    ap (λ (q : Option Open). q >>= steps (rs ++ b)) m.1 ∙ steps-append rs b m.0 p m.2

-- one line at its depth
step_at : (d : ℕ) (l : Line) (o p : Open) → d ≡ expected_depth l o → has_room l o ≡ true → step_line l o ≡ Some p → steps (at_depth d l) o ≡ Some p
step_at d l o p h room e = ap (λ (q : Option Open). q >>= steps []) (cond-true (nat_eq (expected_depth l o) d && has_room l o) (step_line l o) None (and_from _ _ (eq-eqb (expected_depth l o) d (sym h)) room) ∙ e)

-- a statement at depth d has room
room : (d : ℕ) (s : Statement) (o : Open) → d ≡ depth_of o → StatementFits (17 - d) s → nat_lt (depth_of o) 17 ≡ true
room d s o h f = let some = some_room (17 - d) s f in lt-ltb (depth_of o) 17 (omega (arith, some))

mutual
  statement_steps : (s : Statement) (d : ℕ) (o : Open) → d ≡ depth_of o → StatementFits (17 - d) s → steps (statement_rows d s) o ≡ Some (add s o)
  statement_steps (set p e) d o h f = step_at d (set_line p e) o _ h (room d (set p e) o h f) refl
  statement_steps (ask p a) d o h f = step_at d (ask_line p a) o _ h (room d (ask p a) o h f) refl
  statement_steps (call g) d o h f = step_at d (call_line g) o _ h (room d (call g) o h f) refl
  statement_steps (tell t) d o h f = step_at d (tell_line t) o _ h (room d (tell t) o h f) refl
  statement_steps (loop x n s) d o h f =
      let i = inner done (turn x n) o in
      let deep : suc d ≡ depth_of i = ap suc h in
      let fits = loop_part (17 - d) (17 - suc d) x n s (omega arith) f in
      steps-append (at_depth d (for_line x n)) (block_rows (suc d) s ++ at_depth d close_line) o i (step_at d (for_line x n) o i h (room d (loop x n s) o h f) refl)
      ∙ steps-append (block_rows (suc d) s) (at_depth d close_line) i (inner s (turn x n) o) (block_steps s (suc d) i deep fits)
      ∙ step_at d close_line (inner s (turn x n) o) (add (loop x n s) o) h refl refl
  statement_steps (choice e a b) d o h f =
      let i = inner done (first e) o in
      let deep : suc d ≡ depth_of i = ap suc h in
      let fits = choice_parts (17 - d) (17 - suc d) e a b (omega arith) f in
      steps-append (at_depth d (if_line e)) (block_rows (suc d) a ++ else_rows d b) o i (step_at d (if_line e) o i h (room d (choice e a b) o h f) refl)
      ∙ steps-append (block_rows (suc d) a) (else_rows d b) i (inner a (first e) o) (block_steps a (suc d) i deep fits.0)
      ∙ else_steps b d e a o h fits.1

  block_steps : (b : Block) (d : ℕ) (o : Open) → d ≡ depth_of o → BlockFits (17 - d) b → steps (block_rows d b) o ≡ Some (add_all b o)
  block_steps done d o h f = ap Some (sym (add_none o))
  block_steps (next s b) d o h f =
      steps-append (statement_rows d s) (block_rows d b) o (add s o) (statement_steps s d o h f.0)
      ∙ block_steps b d (add s o) (h ∙ sym (add_depth s o)) f.1
      ∙ ap Some (add_next s b o)

  else_steps : (b : Block) (d : ℕ) (e : Exp) (a : Block) (o : Open) → d ≡ depth_of o → BlockFits (17 - suc d) b → steps (else_rows d b) (inner a (first e) o) ≡ Some (add (choice e a b) o)
  else_steps done d e a o h f = step_at d close_line (inner a (first e) o) _ h refl refl
  else_steps (next s b) d e a o h f =
      let i = inner done (second e a) o in
      let deep : suc d ≡ depth_of i = ap suc h in
      steps-append (at_depth d else_line) ((statement_rows (suc d) s ++ block_rows (suc d) b) ++ at_depth d close_line) (inner a (first e) o) i (step_at d else_line (inner a (first e) o) i h (room (suc d) s (inner a (first e) o) deep f.0) refl)
      ∙ steps-append (statement_rows (suc d) s ++ block_rows (suc d) b) (at_depth d close_line) i (inner (next s b) (second e a) o) (steps-append (statement_rows (suc d) s) (block_rows (suc d) b) i (add s i) (statement_steps s (suc d) i deep f.0) ∙ block_steps b (suc d) (add s i) deep f.1)
      ∙ step_at d close_line (inner (next s b) (second e a) o) _ h refl refl

-- The lines of a body lead from nothing to the body.
pub body_steps : (b : Block) → BlockFits 16 b → steps (block_rows 1 b) (bottom done) ≡ Some (bottom b)
body_steps b f = block_steps b 1 (bottom done) refl f

-- The lines that led to these open blocks.
abbrev pub opening : ℕ → Opened → List IndentedLine
opening d (first e) = at_depth d (if_line e)
opening d (second e a) = at_depth d (if_line e) ++ (block_rows (suc d) a ++ at_depth d else_line)
opening d (turn x n) = at_depth d (for_line x n)

abbrev pub so_far : Open → List IndentedLine
so_far (bottom b) = block_rows 1 b
so_far (inner b o k) = so_far k ++ (opening (depth_of k) o ++ block_rows (suc (depth_of k)) b)

rows-append : (d : ℕ) (a b : Block) → block_rows d (append a b) ≡ block_rows d a ++ block_rows d b
rows-append d done b = refl
rows-append d (next s a) b = ap (λ l. statement_rows d s ++ l) (rows-append d a b) ∙ sym (append_assoc (statement_rows d s) (block_rows d a) (block_rows d b))

add_rows : (s : Statement) (o : Open) → so_far (add s o) ≡ so_far o ++ statement_rows (depth_of o) s
add_rows s (bottom b) = rows-append 1 b (one s) ∙ ap (λ l. block_rows 1 b ++ l) (append-nil (statement_rows 1 s))
add_rows s (inner b o k) =
    let d = suc (depth_of k) in
    let more : block_rows d (append b (one s)) ≡ block_rows d b ++ statement_rows d s = rows-append d b (one s) ∙ ap (λ l. block_rows d b ++ l) (append-nil (statement_rows d s)) in
    ap (λ l. so_far k ++ (opening (depth_of k) o ++ l)) more ∙ sym (simp append_assoc)

-- What a row at its depth makes of the lines so far: they are one more.
abbrev Grown : IndentedLine → Open → Open → Type 0
Grown r o p = so_far p ≡ so_far o ++ (r ∷ [])

-- an If without a second list, and one with it, by their lines
closed_rows : (b : Block) (w : Opened) (k p : Open) → closes b w k ≡ Some p → so_far p ≡ so_far (inner b w k) ++ at_depth (depth_of k) close_line
closed_rows b (first e) k p h =
    let q = some_is h in
    let d = depth_of k in
    ap so_far (sym q) ∙ add_rows (choice e b done) k ∙ sym (simp append_assoc)
closed_rows done (second e a) k p h = absurd cc
closed_rows (next s b) (second e a) k p h =
    let q = some_is h in
    ap so_far (sym q) ∙ add_rows (choice e a (next s b)) k ∙ sym (simp append_assoc)
closed_rows b (turn x n) k p h =
    let q = some_is h in
    ap so_far (sym q) ∙ add_rows (loop x n b) k ∙ sym (simp append_assoc)

inner_rows : (w : Opened) (o : Open) → so_far (inner done w o) ≡ so_far o ++ opening (depth_of o) w
inner_rows w o = ap (λ l. so_far o ++ l) (append-nil (opening (depth_of o) w))

other_rows : (o p : Open) → otherwise o ≡ Some p → so_far p ≡ so_far o ++ at_depth (expected_depth else_line o) else_line
other_rows (bottom b) p h = absurd cc
other_rows (inner b (first e) k) p h =
    let q = some_is h in
    ap so_far (sym q) ∙ inner_rows (second e b) k ∙ sym (simp append_assoc)
other_rows (inner b (second e a) k) p h = absurd cc
other_rows (inner b (turn x n) k) p h = absurd cc

close_rows : (o p : Open) → close o ≡ Some p → so_far p ≡ so_far o ++ at_depth (expected_depth close_line o) close_line
close_rows (bottom b) p h = absurd cc
close_rows (inner b w k) p h = closed_rows b w k p h

line_rows : (l : Line) (o p : Open) → step_line l o ≡ Some p → so_far p ≡ so_far o ++ at_depth (expected_depth l o) l
line_rows (set_line q e) o p h = ap so_far (sym (some_is h)) ∙ add_rows (set q e) o
line_rows (ask_line q a) o p h = ap so_far (sym (some_is h)) ∙ add_rows (ask q a) o
line_rows (call_line f) o p h = ap so_far (sym (some_is h)) ∙ add_rows (call f) o
line_rows (tell_line t) o p h = ap so_far (sym (some_is h)) ∙ add_rows (tell t) o
line_rows (if_line e) o p h = ap so_far (sym (some_is h)) ∙ inner_rows (first e) o
line_rows (for_line x n) o p h = ap so_far (sym (some_is h)) ∙ inner_rows (turn x n) o
line_rows else_line o p h = other_rows o p h
line_rows close_line o p h = close_rows o p h
line_rows (header_line n) o p h = absurd cc
line_rows (scalar_line x) o p h = absurd cc
line_rows (array_line x n) o p h = absurd cc
line_rows (function_line x) o p h = absurd cc
line_rows main_line o p h = absurd cc

pub row_rows : (r : IndentedLine) (o p : Open) → step_row r o ≡ Some p → so_far p ≡ so_far o ++ r ∷ []
row_rows r o p h =
    let g = guarded (nat_eq (expected_depth r.line o) r.depth && has_room r.line o) (step_line r.line o) p h in
    let e = eqb-true (expected_depth r.line o) r.depth (and_parts (nat_eq (expected_depth r.line o) r.depth) (has_room r.line o) g.0).0 in
    line_rows r.line o p g.1 ∙ ap (λ (d : ℕ). so_far o ++ at_depth d r.line) e

-- What stands open is within the bounds: the statements of the innermost block are at depth_of deep.
abbrev pub OpenedFits : ℕ → Opened → Type 0
OpenedFits d (first e) = IsExp e × (d < 17)
OpenedFits d (second e a) = IsExp e × ((d < 16) × BlockFits (16 - d) a)
OpenedFits d (turn x n) = (IsName x × IsBound n) × (d < 17)

abbrev pub OpenFits : Open → Type 0
OpenFits (bottom b) = BlockFits 16 b
OpenFits (inner b o k) = BlockFits (16 - depth_of k) b × (OpenedFits (depth_of k) o × OpenFits k)

append_fits : (d : ℕ) (a b : Block) → BlockFits d a → BlockFits d b → BlockFits d (append a b)
append_fits d done b f g = g
append_fits d (next s a) b f g = (f.0, append_fits d a b f.1 g)

add_fits : (s : Statement) (o : Open) → OpenFits o → StatementFits (17 - depth_of o) s → OpenFits (add s o)
add_fits s (bottom b) f g = append_fits 16 b (one s) f (g, tt)
add_fits s (inner b o k) f g =
    let e : 17 - suc (depth_of k) ≡ 16 - depth_of k = omega arith in
    (append_fits (16 - depth_of k) b (one s) f.0 (subst (λ (n : ℕ). StatementFits n s) e g, tt), f.1)

-- a statement at depth d
deeper : (d : ℕ) (s : Statement) → d < 17 → StatementFits (suc (16 - d)) s → StatementFits (17 - d) s
deeper d s h f = let e : suc (16 - d) ≡ 17 - d = omega arith in subst (λ (n : ℕ). StatementFits n s) e f

closes_fits : (b : Block) (o : Opened) (k p : Open) → BlockFits (16 - depth_of k) b → OpenedFits (depth_of k) o → OpenFits k → closes b o k ≡ Some p → OpenFits p
closes_fits b (first e) k p f g h is = subst OpenFits (some_is is) (add_fits (choice e b done) k h (deeper (depth_of k) (choice e b done) g.1 (g.0, f, tt)))
closes_fits done (second e a) k p f g h is = absurd cc
closes_fits (next s b) (second e a) k p f g h is = let low : depth_of k < 17 = omega (arith, g.1.0) in subst OpenFits (some_is is) (add_fits (choice e a (next s b)) k h (deeper (depth_of k) (choice e a (next s b)) low (g.0, g.1.1, f)))
closes_fits b (turn x n) k p f g h is = subst OpenFits (some_is is) (add_fits (loop x n b) k h (deeper (depth_of k) (loop x n b) g.1 (g.0.0, g.0.1, f)))

close_fits : (o p : Open) → OpenFits o → close o ≡ Some p → OpenFits p
close_fits (bottom b) p f is = absurd cc
close_fits (inner b o k) p f is = closes_fits b o k p f.0 f.1.0 f.1.1 is

other_fits : (o p : Open) → nat_lt (depth_of o) 17 ≡ true → OpenFits o → otherwise o ≡ Some p → OpenFits p
other_fits (bottom b) p r f is = absurd cc
other_fits (inner b (first e) k) p r f is =
    let low = ltb-true (suc (depth_of k)) 17 r in
    let room : depth_of k < 16 = omega arith in
    subst OpenFits (some_is is) (tt, ((f.1.0.0, (room, f.0)), f.1.1))
other_fits (inner b (second e a) k) p r f is = absurd cc
other_fits (inner b (turn x n) k) p r f is = absurd cc

-- one statement that holds no others
flat_fits : (s : Statement) (o p : Open) → nat_lt (depth_of o) 17 ≡ true → OpenFits o → StatementFits (suc (16 - depth_of o)) s → Some (add s o) ≡ Some p → OpenFits p
flat_fits s o p r f g is = subst OpenFits (some_is is) (add_fits s o f (deeper (depth_of o) s (ltb-true (depth_of o) 17 r) g))

line_fits : (l : Line) (o p : Open) → IsLine l → has_room l o ≡ true → OpenFits o → step_line l o ≡ Some p → OpenFits p
line_fits (set_line q e) o p g r f is = flat_fits (set q e) o p r f g is
line_fits (ask_line q a) o p g r f is = flat_fits (ask q a) o p r f g is
line_fits (call_line x) o p g r f is = flat_fits (call x) o p r f g is
line_fits (tell_line t) o p g r f is = flat_fits (tell t) o p r f g is
line_fits (if_line e) o p g r f is = subst OpenFits (some_is is) (tt, ((g, ltb-true (depth_of o) 17 r), f))
line_fits (for_line x n) o p g r f is = subst OpenFits (some_is is) (tt, ((g, ltb-true (depth_of o) 17 r), f))
line_fits else_line o p g r f is = other_fits o p r f is
line_fits close_line o p g r f is = close_fits o p f is
line_fits (header_line n) o p g r f is = absurd cc
line_fits (scalar_line x) o p g r f is = absurd cc
line_fits (array_line x n) o p g r f is = absurd cc
line_fits (function_line x) o p g r f is = absurd cc
line_fits main_line o p g r f is = absurd cc

pub row_fits : (r : IndentedLine) (o p : Open) → IsLine r.line → OpenFits o → step_row r o ≡ Some p → OpenFits p
row_fits r o p g f h =
    let q = guarded (nat_eq (expected_depth r.line o) r.depth && has_room r.line o) (step_line r.line o) p h in
    line_fits r.line o p g (and_parts (nat_eq (expected_depth r.line o) r.depth) (has_room r.line o) q.0).1 f q.1

-- more rows lead from these open blocks to a body
abbrev pub Ends : Open → Type 0
Ends o = (b : Block) × (more : List IndentedLine) × (block_rows 1 b ≡ so_far o ++ more) × BlockFits 16 b

ends_by : (o p : Open) (rs : List IndentedLine) → so_far p ≡ so_far o ++ rs → Ends p → Ends o
ends_by o p rs e f = (f.0, rs ++ f.1, f.2 ∙ ap (λ l. l ++ f.1) e ∙ append_assoc (so_far o) rs f.1, f.3)

some_second : (b : Block) (e : Exp) (a : Block) (k : Open) → closes (append b (one (tell start))) (second e a) k ≡ Some (add (choice e a (append b (one (tell start)))) k)
some_second done e a k = refl
some_second (next s b) e a k = refl

add_one_is : (s : Statement) (o : Open) → add_all (one s) o ≡ add s o
add_one_is s (bottom b) = refl
add_one_is s (inner b w k) = refl

ends : (o : Open) (x : Block) → OpenFits (add_all x o) → Ends (add_all x o)
ends (bottom a) x f = (append a x, [], sym (append-nil (block_rows 1 (append a x))), f)
ends (inner a (first e) k) x f =
    let b = append a x in let s = choice e b done in
    let fits = add_fits s k f.1.1 (deeper (depth_of k) s f.1.0.1 (f.1.0.0, f.0, tt)) in
    ends_by (inner b (first e) k) (add s k) (at_depth (depth_of k) close_line) (closed_rows b (first e) k (add s k) refl) (subst Ends (add_one_is s k) (ends k (one s) (subst OpenFits (sym (add_one_is s k)) fits)))
ends (inner a (turn y n) k) x f =
    let b = append a x in let s = loop y n b in
    let fits = add_fits s k f.1.1 (deeper (depth_of k) s f.1.0.1 (f.1.0.0.0, f.1.0.0.1, f.0)) in
    ends_by (inner b (turn y n) k) (add s k) (at_depth (depth_of k) close_line) (closed_rows b (turn y n) k (add s k) refl) (subst Ends (add_one_is s k) (ends k (one s) (subst OpenFits (sym (add_one_is s k)) fits)))
ends (inner a (second e c) k) x f =
    let b = append a x in let t = append b (one (tell start)) in let s = choice e c t in
    let low = f.1.0.1.0 in
    let high : depth_of k < 17 = omega (arith, low) in
    let told : StatementFits (16 - depth_of k) (tell start) = started (depth_of k) low in
    let fits = add_fits s k f.1.1 (deeper (depth_of k) s high (f.1.0.0, f.1.0.1.1, append_fits (16 - depth_of k) b (one (tell start)) f.0 (told, tt))) in
    ends_by (inner b (second e c) k) (inner t (second e c) k) (statement_rows (suc (depth_of k)) (tell start)) (add_rows (tell start) (inner b (second e c) k))
    (ends_by (inner t (second e c) k) (add s k) (at_depth (depth_of k) close_line) (closed_rows t (second e c) k (add s k) (some_second b e c k)) (subst Ends (add_one_is s k) (ends k (one s) (subst OpenFits (sym (add_one_is s k)) fits))))
  where
    started : (d : ℕ) → d < 16 → StatementFits (16 - d) (tell start)
    started d h = let e : suc (15 - d) ≡ 16 - d = omega arith in subst (λ (n : ℕ). StatementFits n (tell start)) e tt

pub open_ends : (o : Open) → OpenFits o → Ends o
open_ends o f = subst Ends (add_none o) (ends o done (subst OpenFits (sym (add_none o)) f))
