-- What each line adds to what was read, and that what was read can be gone on with.
use Rattle.std.proofs.Common.{◌≡◌, ℕ, zero, suc, ◌+◌, ◌-◌, ◌*◌, ◌<◌, ◌≤◌, List, [], ◌∷◌, ◌++◌, map, Option, Some, None, Bool, true, false, cond, ◌⊎◌, inl, inr, refl, sym, ap, ◌∙◌, subst, arith, append_assoc, append-nil, ⊎_elim}
use Rattle.std.specs.Prelude.{nat_eq, nat_lt, ◌&&◌, All, codes, replicate, if◌then◌else◌}
use Rattle.std.specs.List.{flat_map}
use Rattle.std.proofs.lemmas.Bool.{cond-true, cond-false, eq-eqb, eqb-true, and_parts, and_from}
use Rattle.std.proofs.lemmas.List.{map-append}
use Rattle.std.proofs.lemmas.Grind.{flat_map-append}
use Rattle.std.proofs.lemmas.List.Elements.{All-nil, All-push, All-head, All-tail}
use Rattle.c_ast.specs.declared.Name.{Name}
use Rattle.c_ast.specs.Syntax.{Block, done, next, Declared, Function, Whole}
use Rattle.c_ast.specs.Spelling.{Line, IndentedLine, row_of, row_text, rows_text, at_depth, line_text, header_line, scalar_line, array_line, function_line, main_line, set_line, ask_line, if_line, else_line, for_line, call_line, tell_line, close_line, block_rows, declared_line, declared_row, function_rows, main_rows, spelling}
use Rattle.c_ast.specs.Bounds.{IsName, IsDeclared, IsFunction, IsBody, IsWhole, BlockFits}
use Rattle.sci_text.specs.Reading.{◌>>=◌, after}
use Rattle.sci_text.specs.Lines.{with_lf}
use Rattle.sci_text.proofs.Parts.{bind_some, guarded, chosen, after_takes, some_is}
use Rattle.c_parse.specs.LineReading.{row_at}
use Rattle.c_parse.specs.LineBounds.{IsLine, row_bytes}
use Rattle.c_parse.specs.Machine.{Open, bottom, inner, depth_of, is_close, step_row, State, heading, outside, body, over, header_text, begun, declares, step_outside, ends_body, is_end, body_of, step_body, step, pass}
use Rattle.c_parse.specs.Blame.{IsFront, behind_rows}
use Rattle.c_parse.proofs.LineTakes.{row_takes}
use Rattle.c_parse.proofs.BlockLaws.{steps, so_far, row_rows, OpenFits, row_fits, open_ends}

abbrev pub owner_line : Option Name → Line
owner_line None = main_line
owner_line (Some f) = function_line f

-- the lines behind the header so far
abbrev pub outside_rows : List Declared → List Function → List IndentedLine
outside_rows ds fs = map declared_row ds ++ flat_map function_rows fs

abbrev pub body_rows : List Declared → List Function → Option Name → List IndentedLine → List IndentedLine
body_rows ds fs owner rows = map declared_row ds ++ (flat_map function_rows fs ++ (at_depth 0 (owner_line owner) ++ rows))

abbrev pub rows_so_far : State → List IndentedLine
rows_so_far (heading t) = []
rows_so_far (outside ds fs) = outside_rows ds fs
rows_so_far (body ds fs owner o) = body_rows ds fs owner (so_far o)
rows_so_far (over p) = behind_rows p

abbrev pub OwnerFits : Option Name → Type 0
OwnerFits None = Unit {0}
OwnerFits (Some f) = IsName f

abbrev pub StateFits : State → Type 0
StateFits (heading t) = Unit {0}
StateFits (outside ds fs) = All IsDeclared ds × All IsFunction fs
StateFits (body ds fs owner o) = (All IsDeclared ds × All IsFunction fs) × (OwnerFits owner × OpenFits o)
StateFits (over p) = IsWhole p

-- behind the header
abbrev pub IsBehind : State → Type 0
IsBehind (heading t) = ⊥
IsBehind (outside ds fs) = Unit {0}
IsBehind (body ds fs owner o) = Unit {0}
IsBehind (over p) = Unit {0}

-- one line more
pub record Moved (rows : List IndentedLine) (r : IndentedLine) (s : State) : Type 0 where
  pub rows_are : rows_so_far s ≡ rows ++ r ∷ []
  pub fits : StateFits s
  pub behind : IsBehind s

moved_to : (rows : List IndentedLine) (r : IndentedLine) (s t : State) → Some s ≡ Some t → Moved rows r s → Moved rows r t
moved_to rows r s t e m = subst (Moved rows r) (some_is e) m

declares_moved : (d : Declared) (ds : List Declared) (fs : List Function) (s : State) → IsDeclared d → All IsDeclared ds → declares d ds fs ≡ Some s → Moved (outside_rows ds fs) (declared_row d) s
declares_moved d ds [] s f g e = moved_to _ _ _ s e (record {
  rows_are = append-nil (map declared_row (ds ++ d ∷ [])) ∙ map-append declared_row ds (d ∷ []) ∙ ap (λ (l : List IndentedLine). l ++ declared_row d ∷ []) (sym (append-nil (map declared_row ds)));
  fits = (All-push IsDeclared ds d g f, All-nil IsFunction);
  behind = tt;
})
declares_moved d ds (g ∷ fs) s f h e = absurd cc

begins_moved : (owner : Option Name) (ds : List Declared) (fs : List Function) (s : State) → OwnerFits owner → All IsDeclared ds → All IsFunction fs → Some (body ds fs owner (bottom done)) ≡ Some s → Moved (outside_rows ds fs) (row_of 0 (owner_line owner)) s
begins_moved owner ds fs s f g h e = moved_to _ _ _ s e (record {
  rows_are = sym (append_assoc (map declared_row ds) (flat_map function_rows fs) (row_of 0 (owner_line owner) ∷ []));
  fits = ((g, h), (f, tt));
  behind = tt;
})

outside_moved : (l : Line) (ds : List Declared) (fs : List Function) (s : State) → IsLine l → All IsDeclared ds → All IsFunction fs → step_outside l ds fs ≡ Some s → Moved (outside_rows ds fs) (row_of 0 l) s
outside_moved (scalar_line x) ds fs s f g h e = declares_moved (record { name = x; size = None }) ds fs s (f, tt) g e
outside_moved (array_line x n) ds fs s f g h e = declares_moved (record { name = x; size = Some n }) ds fs s (f.0, f.1) g e
outside_moved (function_line x) ds fs s f g h e = begins_moved (Some x) ds fs s f g h e
outside_moved main_line ds fs s f g h e = begins_moved None ds fs s tt g h e
outside_moved (header_line t) ds fs s f g h e = absurd f
outside_moved (set_line p v) ds fs s f g h e = absurd cc
outside_moved (ask_line p a) ds fs s f g h e = absurd cc
outside_moved (if_line v) ds fs s f g h e = absurd cc
outside_moved else_line ds fs s f g h e = absurd cc
outside_moved (for_line x n) ds fs s f g h e = absurd cc
outside_moved (call_line x) ds fs s f g h e = absurd cc
outside_moved (tell_line t) ds fs s f g h e = absurd cc
outside_moved close_line ds fs s f g h e = absurd cc

body_fits : (b : Block) → BlockFits 16 b → IsBody b
unfolding IsBody
body_fits b f = f

pub fits_body : (b : Block) → IsBody b → BlockFits 16 b
unfolding IsBody
fits_body b f = f

function_regroup : (a b : List IndentedLine) (f c : IndentedLine) (s : List IndentedLine) → a ++ (b ++ (f ∷ (s ++ c ∷ []))) ≡ (a ++ (b ++ (f ∷ s))) ++ c ∷ []
function_regroup a b f c s = simp append_assoc

ends_moved : (owner : Option Name) (ds : List Declared) (fs : List Function) (b : Block) → OwnerFits owner → All IsDeclared ds → All IsFunction fs → BlockFits 16 b → Moved (body_rows ds fs owner (block_rows 1 b)) (row_of 0 close_line) (ends_body ds fs owner b)
ends_moved (Some x) ds fs b f g h k =
    let func : Function = record { name = x; body = b } in
    record {
      rows_are = ap (λ (l : List IndentedLine). map declared_row ds ++ l) (flat_map-append function_rows fs (func ∷ []) ∙ ap (λ (l : List IndentedLine). flat_map function_rows fs ++ l) (append-nil (function_rows func)))
          ∙ function_regroup (map declared_row ds) (flat_map function_rows fs) (row_of 0 (function_line x)) (row_of 0 close_line) (block_rows 1 b);
      fits = (g, All-push IsFunction fs func h (f, body_fits b k));
      behind = tt;
    }
ends_moved None ds fs b f g h k = record {
  rows_are = function_regroup (map declared_row ds) (flat_map function_rows fs) (row_of 0 main_line) (row_of 0 close_line) (block_rows 1 b);
  fits = record { decls = g; funcs = h; main = body_fits b k };
  behind = tt;
}

close_is : (l : Line) → is_close l ≡ true → l ≡ close_line
close_is close_line e = refl
close_is else_line e = absurd cc
close_is (header_line t) e = absurd cc
close_is (scalar_line x) e = absurd cc
close_is (array_line x n) e = absurd cc
close_is (function_line x) e = absurd cc
close_is main_line e = absurd cc
close_is (set_line p v) e = absurd cc
close_is (ask_line p a) e = absurd cc
close_is (if_line v) e = absurd cc
close_is (for_line x n) e = absurd cc
close_is (call_line x) e = absurd cc
close_is (tell_line t) e = absurd cc

row_is : (r : IndentedLine) (d : ℕ) (l : Line) → r.depth ≡ d → r.line ≡ l → r ≡ row_of d l
row_is r d l e f = ap (λ (n : ℕ). row_of n r.line) e ∙ ap (λ (m : Line). row_of d m) f

end_moved : (r : IndentedLine) (ds : List Declared) (fs : List Function) (owner : Option Name) (o : Open) (s : State) → StateFits (body ds fs owner o) → is_end r o ≡ true → Some (ends_body ds fs owner (body_of o)) ≡ Some s → Moved (body_rows ds fs owner (so_far o)) r s
end_moved r ds fs owner (inner b w k) s f t e = absurd cc
end_moved r ds fs owner (bottom b) s f t e =
    let p = and_parts (is_close r.line) (nat_eq r.depth 0) t in
    let is = row_is r 0 close_line (eqb-true r.depth 0 p.1) (close_is r.line p.0) in
    subst (λ (q : IndentedLine). Moved (body_rows ds fs owner (block_rows 1 b)) q s) (sym is) (moved_to _ _ _ s e (ends_moved owner ds fs b f.1.0 f.0.0 f.0.1 f.1.1))

body_regroup : (a b c s : List IndentedLine) (r : IndentedLine) → a ++ (b ++ (c ++ (s ++ r ∷ []))) ≡ (a ++ (b ++ (c ++ s))) ++ r ∷ []
body_regroup a b c s r = simp append_assoc

inner_moved : (r : IndentedLine) (ds : List Declared) (fs : List Function) (owner : Option Name) (o : Open) (s : State) → StateFits (body ds fs owner o) → IsLine r.line → (step_row r o >>= λ p. Some (body ds fs owner p)) ≡ Some s → Moved (body_rows ds fs owner (so_far o)) r s
inner_moved r ds fs owner o s f g e =
    let m = bind_some (step_row r o) (λ p. Some (body ds fs owner p)) s e in
    moved_to _ _ _ s m.2 (record {
      rows_are = ap (body_rows ds fs owner) (row_rows r o m.0 m.1) ∙ body_regroup (map declared_row ds) (flat_map function_rows fs) (at_depth 0 (owner_line owner)) (so_far o) r;
      fits = (f.0, (f.1.0, row_fits r o m.0 g f.1.1 m.1));
      behind = tt;
    })

pub step_moved : (r : IndentedLine) (s t : State) → StateFits s → IsLine r.line → step r s ≡ Some t → Moved (rows_so_far s) r t
step_moved r (heading h) t f g e = absurd cc
step_moved r (over p) t f g e = absurd cc
step_moved r (outside ds fs) t f g e =
    let q = guarded (nat_eq r.depth 0) (step_outside r.line ds fs) t e in
    let is = row_is r 0 r.line (eqb-true r.depth 0 q.0) refl in
    subst (λ (x : IndentedLine). Moved (outside_rows ds fs) x t) (sym is) (outside_moved r.line ds fs t g f.0 f.1 q.1)
step_moved r (body ds fs owner o) t f g e =
    ⊎_elim
    (λ w. end_moved r ds fs owner o t f w.0 w.1)
    (λ w. inner_moved r ds fs owner o t f g w.1)
    (chosen (is_end r o) (Some (ends_body ds fs owner (body_of o))) (step_row r o >>= λ p. Some (body ds fs owner p)) (Some t) e)

-- A program within the bounds that goes on from there.
abbrev Goes : List IndentedLine → Type 0
Goes rows = (p : Whole) × (more : List IndentedLine) × IsWhole p × (behind_rows p ≡ rows ++ more)

body_more : (a b c s more e : List IndentedLine) → a ++ (b ++ (c ++ ((s ++ more) ++ e))) ≡ (a ++ (b ++ (c ++ s))) ++ (more ++ e)
body_more a b c s more e = simp append_assoc

function_more : (a b c s more e m : List IndentedLine) → a ++ ((b ++ ((c ++ ((s ++ more) ++ e)) ++ [])) ++ m) ≡ (a ++ (b ++ (c ++ s))) ++ (more ++ (e ++ m))
function_more a b c s more e m = simp (append_assoc, append-nil)

body_goes : (ds : List Declared) (fs : List Function) (owner : Option Name) (o : Open) → StateFits (body ds fs owner o) → Goes (body_rows ds fs owner (so_far o))
body_goes ds fs None o f =
    let e = open_ends o f.1.1 in (
      record { decls = ds; funcs = fs; main = e.0 },
      e.1 ++ at_depth 0 close_line,
      record { decls = f.0.0; funcs = f.0.1; main = body_fits e.0 e.3 },
      ap (λ (l : List IndentedLine). map declared_row ds ++ (flat_map function_rows fs ++ (at_depth 0 main_line ++ (l ++ at_depth 0 close_line)))) e.2
          ∙ body_more (map declared_row ds) (flat_map function_rows fs) (at_depth 0 main_line) (so_far o) e.1 (at_depth 0 close_line),
    )
body_goes ds fs (Some x) o f =
    let e = open_ends o f.1.1 in
    let func : Function = record { name = x; body = e.0 } in (
      record { decls = ds; funcs = fs ++ func ∷ []; main = done },
      e.1 ++ (at_depth 0 close_line ++ main_rows done),
      record { decls = f.0.0; funcs = All-push IsFunction fs func f.0.1 (f.1.0, body_fits e.0 e.3); main = body_fits done tt },
      ap (λ (l : List IndentedLine). map declared_row ds ++ (l ++ main_rows done)) (flat_map-append function_rows fs (func ∷ []) ∙ ap (λ (l : List IndentedLine). flat_map function_rows fs ++ ((at_depth 0 (function_line x) ++ (l ++ at_depth 0 close_line)) ++ [])) e.2)
          ∙ function_more (map declared_row ds) (flat_map function_rows fs) (at_depth 0 (function_line x)) (so_far o) e.1 (at_depth 0 close_line) (main_rows done),
    )

pub state_goes : (s : State) → IsBehind s → StateFits s → Goes (rows_so_far s)
state_goes (heading t) b f = absurd b
state_goes (outside ds fs) b f = (record { decls = ds; funcs = fs; main = done }, main_rows done, record { decls = f.0; funcs = f.1; main = body_fits done tt }, sym (append_assoc (map declared_row ds) (flat_map function_rows fs) (main_rows done)))
state_goes (body ds fs owner o) b f = body_goes ds fs owner o f
state_goes (over p) b f = (p, [], f, sym (append-nil (behind_rows p)))

pub rows_text-append : (a b : List IndentedLine) → rows_text (a ++ b) ≡ rows_text a ++ rows_text b
rows_text-append [] b = refl
rows_text-append (r ∷ a) b = ap (λ (l : List ℕ). row_text r ++ l) (rows_text-append a b) ∙ sym (append_assoc (row_text r) (rows_text a) (rows_text b))

pub row_text_is : (r : IndentedLine) → row_text r ≡ with_lf (row_bytes r)
row_text_is r = sym (append_assoc (replicate (2 * r.depth) 32) (line_text r.line) (codes "\n"))

-- the header, and the lines behind it
pub spelling_is : (p : Whole) → spelling p ≡ header_text ++ rows_text (behind_rows p)
unfolding header_text
spelling_is p = refl

-- What was read of a text has led to this state.
abbrev pub Led : List ℕ → State → Type 0
Led t (heading rest) = t ++ rest ≡ header_text
Led t (outside ds fs) = t ≡ header_text ++ rows_text (outside_rows ds fs)
Led t (body ds fs owner o) = t ≡ header_text ++ rows_text (body_rows ds fs owner (so_far o))
Led t (over p) = t ≡ header_text ++ rows_text (behind_rows p)

pub led_behind : (t : List ℕ) (s : State) → IsBehind s → Led t s → t ≡ header_text ++ rows_text (rows_so_far s)
led_behind t (heading r) b l = absurd b
led_behind t (outside ds fs) b l = l
led_behind t (body ds fs owner o) b l = l
led_behind t (over p) b l = l

behind_led : (t : List ℕ) (s : State) → IsBehind s → t ≡ header_text ++ rows_text (rows_so_far s) → Led t s
behind_led t (heading r) b l = absurd b
behind_led t (outside ds fs) b l = l
behind_led t (body ds fs owner o) b l = l
behind_led t (over p) b l = l

nothing : Whole
nothing = record { decls = []; funcs = []; main = done }

nothing_fits : IsWhole nothing
unfolding nothing
nothing_fits = record { decls = All-nil IsDeclared; funcs = All-nil IsFunction; main = body_fits done tt }

-- what was read begins some program's text
pub led_front : (t : List ℕ) (s : State) → Led t s → StateFits s → IsFront t
led_front t (heading rest) l f =
    let rows = rows_text (behind_rows nothing) in
    (nothing, rest ++ rows, nothing_fits, spelling_is nothing ∙ ap (λ (h : List ℕ). h ++ rows) (sym l) ∙ append_assoc t rest rows)
led_front t (outside ds fs) l f = behind_front t (outside ds fs) tt l f
  where
    behind_front : (t : List ℕ) (s : State) → IsBehind s → t ≡ header_text ++ rows_text (rows_so_far s) → StateFits s → IsFront t
    behind_front t s b l f =
        let g = state_goes s b f in
        (g.0, rows_text g.1, g.2, spelling_is g.0 ∙ ap (λ (rows : List IndentedLine). header_text ++ rows_text rows) g.3 ∙ ap (λ (h : List ℕ). header_text ++ h) (rows_text-append (rows_so_far s) g.1) ∙ sym (append_assoc header_text (rows_text (rows_so_far s)) (rows_text g.1)) ∙ ap (λ (h : List ℕ). h ++ rows_text g.1) (sym l))
led_front t (body ds fs owner o) l f =
    let s = body ds fs owner o in
    let g = state_goes s tt f in
    (g.0, rows_text g.1, g.2, spelling_is g.0 ∙ ap (λ (rows : List IndentedLine). header_text ++ rows_text rows) g.3 ∙ ap (λ (h : List ℕ). header_text ++ h) (rows_text-append (rows_so_far s) g.1) ∙ sym (append_assoc header_text (rows_text (rows_so_far s)) (rows_text g.1)) ∙ ap (λ (h : List ℕ). h ++ rows_text g.1) (sym l))
led_front t (over p) l f = (p, [], f, spelling_is p ∙ sym l ∙ sym (append-nil t))

-- one line of the header
begun_led : (t rest : List ℕ) → t ++ rest ≡ header_text → Led t (begun rest) × StateFits (begun rest)
begun_led t [] e = (sym (append-nil t) ∙ e ∙ sym (append-nil header_text), (All-nil IsDeclared, All-nil IsFunction))
begun_led t (c ∷ cs) e = (e, tt)

heading_led : (line t rest : List ℕ) (s : State) → t ++ rest ≡ header_text → pass line (heading rest) ≡ Some s → Led (t ++ with_lf line) s × StateFits s
heading_led line t rest s l e =
    let k2 = bind_some (after line rest >>= after (codes "\n")) (λ r. Some (begun r)) s e in
    let k1 = bind_some (after line rest) (after (codes "\n")) k2.0 k2.1 in
    let text : (t ++ with_lf line) ++ k2.0 ≡ header_text =
    regroup t line (codes "\n") k2.0 ∙ ap (λ (h : List ℕ). t ++ h) (sym (after_takes line rest k1.0 k1.1 ∙ ap (λ (h : List ℕ). line ++ h) (after_takes (codes "\n") k1.0 k2.0 k1.2))) ∙ l in
    subst (λ (q : State). Led (t ++ with_lf line) q × StateFits q) (some_is k2.2) (begun_led (t ++ with_lf line) k2.0 text)
  where
    regroup : (a b c d : List ℕ) → (a ++ (b ++ c)) ++ d ≡ a ++ (b ++ (c ++ d))
    regroup a b c d = simp append_assoc

moved_led : (line t : List ℕ) (rows : List IndentedLine) (s : State) (r : IndentedLine) → t ≡ header_text ++ rows_text rows → line ≡ row_bytes r → Moved rows r s → Led (t ++ with_lf line) s
moved_led line t rows s r l is m =
    behind_led (t ++ with_lf line) s m.behind
    (ap (λ (h : List ℕ). h ++ with_lf line) l ∙ append_assoc header_text (rows_text rows) (with_lf line)
    ∙ ap (λ (h : List ℕ). header_text ++ h) (ap (λ (b : List ℕ). rows_text rows ++ with_lf b) is ∙ ap (λ (h : List ℕ). rows_text rows ++ h) (sym (append-nil (row_text r) ∙ row_text_is r)) ∙ sym (rows_text-append rows (r ∷ [])) ∙ ap rows_text (sym m.rows_are)))

row_led : (line t : List ℕ) (s u : State) → IsBehind s → t ≡ header_text ++ rows_text (rows_so_far s) → StateFits s → (row_at line >>= λ r. step r s) ≡ Some u → Led (t ++ with_lf line) u × StateFits u
row_led line t s u b l f e =
    let r = bind_some (row_at line) (λ r. step r s) u e in
    let w = row_takes line r.0 r.1 in
    let m = step_moved r.0 s u f w.1 r.2 in
    (moved_led line t (rows_so_far s) u r.0 l w.0 m, m.fits)

-- A line that passes leads on.
pub pass_led : (line t : List ℕ) (s u : State) → Led t s → StateFits s → pass line s ≡ Some u → Led (t ++ with_lf line) u × StateFits u
pass_led line t (heading rest) u l f e = heading_led line t rest u l e
pass_led line t (outside ds fs) u l f e = row_led line t (outside ds fs) u tt l f e
pass_led line t (body ds fs owner o) u l f e = row_led line t (body ds fs owner o) u tt l f e
pass_led line t (over p) u l f e = absurd cc
