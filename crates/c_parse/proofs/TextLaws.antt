-- A program's text leads to the program, line by line, and what begins a program's text passes.
use Rattle.std.proofs.Common.{◌≡◌, ℕ, zero, suc, ◌+◌, ◌-◌, ◌*◌, ◌<◌, ◌≤◌, List, [], ◌∷◌, ◌++◌, map, length, Option, Some, None, Bool, true, false, cond, refl, sym, ap, ◌∙◌, subst, arith, append_assoc, append-nil}
use Rattle.std.specs.Prelude.{nat_eq, nat_lt, ◌&&◌, All, codes}
use Rattle.std.specs.List.{flat_map, list_any}
use Rattle.std.proofs.lemmas.Bool.{cond-true, cond-false, eq-eqb, eqb-true, and_parts}
use Rattle.std.proofs.lemmas.List.{map-append}
use Rattle.std.proofs.lemmas.List.Folds.{list_any-append}
use Rattle.std.proofs.lemmas.List.Elements.{All-head, All-tail}
use Rattle.c_ast.specs.declared.Name.{Name}
use Rattle.c_ast.specs.Syntax.{Statement, set, ask, choice, loop, call, tell, Block, done, next, Declared, Function, Whole}
use Rattle.c_ast.specs.Spelling.{Line, IndentedLine, row_of, row_text, rows_text, at_depth, header_line, scalar_line, array_line, function_line, main_line, set_line, ask_line, if_line, else_line, for_line, call_line, tell_line, close_line, statement_rows, block_rows, else_rows, declared_line, declared_row, function_rows, main_rows, header_lines, spelling}
use Rattle.c_ast.specs.Bounds.{IsName, IsSize, IsDeclared, IsFunction, IsBody, IsWhole, StatementFits, BlockFits}
use Rattle.sci_text.specs.Reading.{◌>>=◌, after}
use Rattle.sci_text.specs.Lines.{has_lf, with_lf, joined, AllClear}
use Rattle.sci_text.proofs.Parts.{bind_some, guarded, some_is}
use Rattle.sci_text.proofs.Splits.{joined-append, joined_push, clear_append, split_lines, no_line, through-append, through_front}
use Rattle.c_parse.specs.LineReading.{row_at}
use Rattle.c_parse.specs.LineBounds.{IsLine, row_bytes}
use Rattle.c_parse.specs.Machine.{Open, bottom, inner, expected_depth, is_close, step_row, State, heading, outside, body, over, header_text, outset, begun, step_outside, ends_body, is_end, body_of, step_body, step, pass, passes}
use Rattle.c_parse.specs.Blame.{Spells, IsFront, behind_rows, Reached}
use Rattle.c_parse.proofs.LineAgain.{row_again}
use Rattle.c_parse.proofs.LineFeeds.{row_clear}
use Rattle.c_parse.proofs.BlockLaws.{steps, body_steps}
use Rattle.c_parse.proofs.StateLaws.{owner_line, StateFits, IsBehind, Moved, step_moved, fits_body, rows_text-append, row_text_is, spelling_is, Led, pass_led, led_front}

-- lines within the bounds
abbrev pub AllLines : List IndentedLine → Type 0
AllLines [] = Unit {0}
AllLines (r ∷ rs) = IsLine r.line × AllLines rs

all_append : (a b : List IndentedLine) → AllLines a → AllLines b → AllLines (a ++ b)
all_append [] b f g = g
all_append (r ∷ a) b f g = (f.0, all_append a b f.1 g)

mutual
  statement_lines : (s : Statement) (d n : ℕ) → StatementFits n s → AllLines (statement_rows d s)
  statement_lines s d zero f = absurd f
  statement_lines (set p e) d (suc n) f = (f, tt)
  statement_lines (ask p a) d (suc n) f = (f, tt)
  statement_lines (call x) d (suc n) f = (f, tt)
  statement_lines (tell t) d (suc n) f = (f, tt)
  statement_lines (choice e a b) d (suc n) f = (f.0, all_append (block_rows (suc d) a) (else_rows d b) (block_lines a (suc d) n f.1) (else_lines b d n f.2))
  statement_lines (loop x m s) d (suc n) f = ((f.0, f.1), all_append (block_rows (suc d) s) (at_depth d close_line) (block_lines s (suc d) n f.2) (tt, tt))

  block_lines : (b : Block) (d n : ℕ) → BlockFits n b → AllLines (block_rows d b)
  block_lines done d n f = tt
  block_lines (next s b) d n f = all_append (statement_rows d s) (block_rows d b) (statement_lines s d n f.0) (block_lines b d n f.1)

  else_lines : (b : Block) (d n : ℕ) → BlockFits n b → AllLines (else_rows d b)
  else_lines done d n f = (tt, tt)
  else_lines (next s b) d n f = (tt, all_append (statement_rows (suc d) s ++ block_rows (suc d) b) (at_depth d close_line) (all_append (statement_rows (suc d) s) (block_rows (suc d) b) (statement_lines s (suc d) n f.0) (block_lines b (suc d) n f.1)) (tt, tt))

declared_line_fits : (x : Name) (size : Option ℕ) → IsName x → IsSize size → IsLine (declared_line x size)
declared_line_fits x None f g = f
declared_line_fits x (Some n) f g = (f, g)

decls_lines : (ds : List Declared) → All IsDeclared ds → AllLines (map declared_row ds)
decls_lines [] f = tt
decls_lines (d ∷ ds) f = let h = All-head IsDeclared d ds f in (declared_line_fits d.name d.size h.0 h.1, decls_lines ds (All-tail IsDeclared d ds f))

body_lines : (b : Block) → BlockFits 16 b → AllLines (block_rows 1 b ++ at_depth 0 close_line)
body_lines b f = all_append (block_rows 1 b) (at_depth 0 close_line) (block_lines b 1 16 f) (tt, tt)

funcs_lines : (fs : List Function) → All IsFunction fs → AllLines (flat_map function_rows fs)
funcs_lines [] f = tt
funcs_lines (g ∷ fs) f =
    let h = All-head IsFunction g fs f in
    all_append (function_rows g) (flat_map function_rows fs) (h.0, body_lines g.body (fits_body g.body h.1)) (funcs_lines fs (All-tail IsFunction g fs f))

behind_lines : (p : Whole) → IsWhole p → AllLines (behind_rows p)
behind_lines p f =
    all_append (map declared_row p.decls) (flat_map function_rows p.funcs ++ main_rows p.main) (decls_lines p.decls f.decls)
    (all_append (flat_map function_rows p.funcs) (main_rows p.main) (funcs_lines p.funcs f.funcs) (tt, body_lines p.main (fits_body p.main f.main)))

-- the rows of a text, one by one
abbrev runs : List IndentedLine → State → Option State
runs [] s = Some s
runs (r ∷ rs) s = step r s >>= runs rs

runs-append : (a b : List IndentedLine) (s t : State) → runs a s ≡ Some t → runs (a ++ b) s ≡ runs b t
runs-append [] b s t e = ap (λ (q : Option State). q >>= runs b) e
runs-append (r ∷ rs) b s t e =
    let m = bind_some (step r s) (runs rs) t e in
    ap (λ (q : Option State). q >>= runs (rs ++ b)) m.1 ∙ runs-append rs b m.0 t m.2

step_declared : (x : Name) (size : Option ℕ) (ds : List Declared) → step (row_of 0 (declared_line x size)) (outside ds []) ≡ Some (outside (ds ++ record { name = x; size = size } ∷ []) [])
step_declared x None ds = refl
step_declared x (Some n) ds = refl

decls_run : (more ds : List Declared) → runs (map declared_row more) (outside ds []) ≡ Some (outside (ds ++ more) [])
decls_run [] ds = ap (λ (l : List Declared). Some (outside l [])) (sym (append-nil ds))
decls_run (d ∷ more) ds =
    ap (λ (q : Option State). q >>= runs (map declared_row more)) (step_declared d.name d.size ds) ∙ decls_run more (ds ++ d ∷ []) ∙ ap (λ (l : List Declared). Some (outside l [])) (append_assoc ds (d ∷ []) more)

expected_one : (l : Line) (b : Block) → expected_depth l (bottom b) ≡ 1
expected_one (header_line t) b = refl
expected_one (scalar_line x) b = refl
expected_one (array_line x n) b = refl
expected_one (function_line x) b = refl
expected_one main_line b = refl
expected_one (set_line p e) b = refl
expected_one (ask_line p a) b = refl
expected_one (if_line e) b = refl
expected_one else_line b = refl
expected_one (for_line x n) b = refl
expected_one (call_line x) b = refl
expected_one (tell_line t) b = refl
expected_one close_line b = refl

either_false : (a b : Bool) → b ≡ false → (a && b) ≡ false
either_false true b e = e
either_false false b e = refl

not_end : (r : IndentedLine) (o q : Open) → step_row r o ≡ Some q → is_end r o ≡ false
not_end r (inner b w k) q e = refl
not_end r (bottom b) q e =
    let g = guarded _ _ q e in
    let d = sym (eqb-true (expected_depth r.line (bottom b)) r.depth (and_parts (nat_eq (expected_depth r.line (bottom b)) r.depth) _ g.0).0) ∙ expected_one r.line b in
    either_false (is_close r.line) (nat_eq r.depth 0) (ap (λ (n : ℕ). nat_eq n 0) d)

body_run : (rs : List IndentedLine) (ds : List Declared) (fs : List Function) (owner : Option Name) (o p : Open) → steps rs o ≡ Some p → runs rs (body ds fs owner o) ≡ Some (body ds fs owner p)
body_run [] ds fs owner o p e = ap (λ (q : Open). Some (body ds fs owner q)) (some_is e)
body_run (r ∷ rs) ds fs owner o p e =
    let m = bind_some (step_row r o) (steps rs) p e in
    ap (λ (q : Option State). q >>= runs rs) (cond-false (is_end r o) (Some (ends_body ds fs owner (body_of o))) (step_row r o >>= λ p. Some (body ds fs owner p)) (not_end r o m.0 m.1) ∙ ap (λ (q : Option Open). q >>= λ p. Some (body ds fs owner p)) m.1)
    ∙ body_run rs ds fs owner m.0 p m.2

-- the body of a function or of sci_main, with its last line
whole_body_run : (b : Block) (ds : List Declared) (fs : List Function) (owner : Option Name) → BlockFits 16 b → runs (block_rows 1 b ++ at_depth 0 close_line) (body ds fs owner (bottom done)) ≡ Some (ends_body ds fs owner b)
whole_body_run b ds fs owner f = runs-append (block_rows 1 b) (at_depth 0 close_line) (body ds fs owner (bottom done)) (body ds fs owner (bottom b)) (body_run (block_rows 1 b) ds fs owner (bottom done) (bottom b) (body_steps b f))

funcs_run : (more : List Function) (ds : List Declared) (fs : List Function) → All IsFunction more → runs (flat_map function_rows more) (outside ds fs) ≡ Some (outside ds (fs ++ more))
funcs_run [] ds fs f = ap (λ (l : List Function). Some (outside ds l)) (sym (append-nil fs))
funcs_run (g ∷ more) ds fs f =
    let h = All-head IsFunction g more f in
    runs-append (function_rows g) (flat_map function_rows more) (outside ds fs) (outside ds (fs ++ g ∷ [])) (whole_body_run g.body ds fs (Some g.name) (fits_body g.body h.1))
    ∙ funcs_run more ds (fs ++ g ∷ []) (All-tail IsFunction g more f) ∙ ap (λ (l : List Function). Some (outside ds l)) (append_assoc fs (g ∷ []) more)

behind_run : (p : Whole) → IsWhole p → runs (behind_rows p) (outside [] []) ≡ Some (over p)
behind_run p f =
    runs-append (map declared_row p.decls) (flat_map function_rows p.funcs ++ main_rows p.main) (outside [] []) (outside p.decls []) (decls_run p.decls [])
    ∙ runs-append (flat_map function_rows p.funcs) (main_rows p.main) (outside p.decls []) (outside p.decls p.funcs) (funcs_run p.funcs p.decls [] f.funcs)
    ∙ whole_body_run p.main p.decls p.funcs None (fits_body p.main f.main)

-- a line is read as its row
pass_row : (r : IndentedLine) (s : State) → IsBehind s → IsLine r.line → pass (row_bytes r) s ≡ step r s
pass_row r (heading t) b f = absurd b
pass_row r (outside ds fs) b f = ap (λ (o : Option IndentedLine). o >>= λ r. step r (outside ds fs)) (row_again r.depth r.line f)
pass_row r (body ds fs owner o) b f = ap (λ (q : Option IndentedLine). q >>= λ r. step r (body ds fs owner o)) (row_again r.depth r.line f)
pass_row r (over p) b f = refl

passes_runs : (rs : List IndentedLine) (s t : State) → IsBehind s → StateFits s → AllLines rs → runs rs s ≡ Some t → passes (map row_bytes rs) s ≡ Some t
passes_runs [] s t b f g e = e
passes_runs (r ∷ rs) s t b f g e =
    let m = bind_some (step r s) (runs rs) t e in
    let v = step_moved r s m.0 f g.0 m.1 in
    ap (λ (q : Option State). q >>= passes (map row_bytes rs)) (pass_row r s b g.0 ∙ m.1) ∙ passes_runs rs m.0 t v.behind v.fits g.1 m.2

header_passes : passes header_lines outset ≡ Some (outside [] [])
unfolding header_text
header_passes = refl

-- the lines of a program
abbrev pub lines_of : Whole → List (List ℕ)
lines_of p = header_lines ++ map row_bytes (behind_rows p)

fits_nothing : StateFits (outside [] [])
fits_nothing = (λ i d h. absurd (omega (arith, h)), λ i d h. absurd (omega (arith, h)))

pub program_passes : (p : Whole) → IsWhole p → passes (lines_of p) outset ≡ Some (over p)
program_passes p f =
    through-append pass header_lines (map row_bytes (behind_rows p)) outset (outside [] []) header_passes
    ∙ passes_runs (behind_rows p) (outside [] []) (over p) tt fits_nothing (behind_lines p f) (behind_run p f)

rows_joined : (rs : List IndentedLine) → rows_text rs ≡ joined (map row_bytes rs)
rows_joined [] = refl
rows_joined (r ∷ rs) = ap (λ (l : List ℕ). l ++ rows_text rs) (row_text_is r) ∙ ap (λ (l : List ℕ). with_lf (row_bytes r) ++ l) (rows_joined rs)

header_joined : header_text ≡ joined header_lines
unfolding header_text
header_joined = refl

pub spelling_joined : (p : Whole) → spelling p ≡ joined (lines_of p)
spelling_joined p =
    spelling_is p ∙ ap (λ (h : List ℕ). h ++ rows_text (behind_rows p)) header_joined ∙ ap (λ (l : List ℕ). joined header_lines ++ l) (rows_joined (behind_rows p)) ∙ sym (joined-append header_lines (map row_bytes (behind_rows p)))

rows_clear : (rs : List IndentedLine) → AllLines rs → AllClear (map row_bytes rs)
rows_clear [] f = tt
rows_clear (r ∷ rs) f = (row_clear r f.0, rows_clear rs f.1)

header_clear : AllClear header_lines
header_clear = (refl, (refl, (refl, (refl, (refl, (refl, (refl, (refl, (refl, (refl, tt))))))))))

pub lines_clear : (p : Whole) → IsWhole p → AllClear (lines_of p)
lines_clear p f = clear_append header_lines (map row_bytes (behind_rows p)) header_clear (rows_clear (behind_rows p) (behind_lines p f))

pub reached_none : Reached [] outset
reached_none = record { lines = []; split = refl; clear = tt; ran = refl }

pub reached_more : (text line : List ℕ) (s u : State) → Reached text s → has_lf line ≡ false → pass line s ≡ Some u → Reached (text ++ with_lf line) u
reached_more text line s u r c e = record {
  lines = r.lines ++ line ∷ [];
  split = ap (λ (t : List ℕ). t ++ with_lf line) r.split ∙ sym (joined_push r.lines line);
  clear = clear_append r.lines (line ∷ []) r.clear (c, tt);
  ran = through-append pass r.lines (line ∷ []) outset s r.ran ∙ ap (λ (q : Option State). q >>= passes []) e;
}

led_passes : (ls : List (List ℕ)) (t : List ℕ) (s u : State) → Led t s → StateFits s → passes ls s ≡ Some u → Led (t ++ joined ls) u × StateFits u
led_passes [] t s u l f e = subst (λ (q : State). Led (t ++ []) q × StateFits q) (some_is e) (subst (λ (x : List ℕ). Led x s) (sym (append-nil t)) l, f)
led_passes (a ∷ ls) t s u l f e =
    let m = bind_some (pass a s) (passes ls) u e in
    let p = pass_led a t s m.0 l f m.1 in
    let i = led_passes ls (t ++ with_lf a) m.0 u p.0 p.1 m.2 in
    (subst (λ (x : List ℕ). Led x u) (append_assoc t (with_lf a) (joined ls)) i.0, i.1)

pub reached_led : (text : List ℕ) (s : State) → Reached text s → Led text s × StateFits s
reached_led text s r =
    let l = led_passes r.lines [] outset s refl tt r.ran in
    (subst (λ (x : List ℕ). Led x s) (sym r.split) l.0, l.1)

pub reached_front : (text : List ℕ) (s : State) → Reached text s → IsFront text
reached_front text s r = let l = reached_led text s r in led_front text s l.0 l.1

no_some : (t : State) → None ≡ Some t → ⊥
no_some t e = cc

-- a line that doesn't pass
pub stops_there : (text line : List ℕ) (s : State) → Reached text s → has_lf line ≡ false → pass line s ≡ None → IsFront (text ++ with_lf line) → ⊥
stops_there text line s r c e f =
    let p = f.0 in
    let whole : joined (lines_of p) ≡ joined (r.lines ++ line ∷ []) ++ f.1 =
    sym (spelling_joined p) ∙ f.3 ∙ ap (λ (t : List ℕ). t ++ f.1) (ap (λ (t : List ℕ). t ++ with_lf line) r.split ∙ sym (joined_push r.lines line)) in
    let s2 = split_lines (r.lines ++ line ∷ []) (lines_of p) f.1 (clear_append r.lines (line ∷ []) r.clear (c, tt)) (lines_clear p f.2) whole in
    let all : passes ((r.lines ++ line ∷ []) ++ s2.0) outset ≡ Some (over p) = ap (λ (ls : List (List ℕ)). passes ls outset) (sym s2.1) ∙ program_passes p f.2 in
    let front = through_front pass (r.lines ++ line ∷ []) s2.0 outset (over p) all in
    let here : passes (line ∷ []) s ≡ Some front.0 = sym (through-append pass r.lines (line ∷ []) outset s r.ran) ∙ front.1 in
    let one = bind_some (pass line s) (passes []) front.0 here in
    no_some one.0 (sym e ∙ one.1)

-- behind the last whole line of a program's text stands nothing, and it has led to the program
pub spelled_ends : (bytes text rest : List ℕ) (s : State) (p : Whole) → bytes ≡ text ++ rest → Reached text s → has_lf rest ≡ false → Spells bytes p → (rest ≡ []) × (s ≡ over p)
spelled_ends bytes text rest s p is r c f =
    let whole : joined (lines_of p) ≡ joined r.lines ++ rest = sym (spelling_joined p) ∙ sym f.1 ∙ is ∙ ap (λ (t : List ℕ). t ++ rest) r.split in
    let k = split_lines r.lines (lines_of p) rest r.clear (lines_clear p f.0) whole in
    let none = no_line k.0 rest k.2 c in
    let same : r.lines ≡ lines_of p = sym (append-nil r.lines) ∙ ap (λ (ks : List (List ℕ)). r.lines ++ ks) (sym none.0) ∙ sym k.1 in
    (none.1, some_is (sym r.ran ∙ ap (λ (ls : List (List ℕ)). passes ls outset) same ∙ program_passes p f.0))

-- a text that has led to a program is the program's
pub reached_spells : (text : List ℕ) (p : Whole) → Reached text (over p) → Spells text p
reached_spells text p r = let l = reached_led text (over p) r in (l.1, l.0 ∙ sym (spelling_is p))
