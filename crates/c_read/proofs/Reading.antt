-- A text read line by line.
use Rattle.std.proofs.Common.{◌≡◌, ℕ, ◌+◌, ◌-◌, List, [], ◌∷◌, ◌++◌, length, take, drop, Some, None, false, refl, sym, ap, ◌∙◌, subst, arith, append_assoc, append-nil, length-append}
use Rattle.std.specs.Prelude.{Result, Ok, Err, IfOk, IfErr}
use Rattle.std.proofs.lemmas.List.{take_at, drop_at}
use Rattle.c_ast.specs.Syntax.{Whole}
use Rattle.c_ast.specs.View.{whole_of}
use Rattle.c_ast.specs.Spelling.{IndentedLine, row_text, rows_text}
use Rattle.sci_text.specs.Reading.{◌>>=◌}
use Rattle.sci_text.specs.Lines.{has_lf, with_lf}
use Rattle.sci_text.specs.Stops.{Fails}
use Rattle.sci_text.proofs.Parts.{bind_some, some_is}
use Rattle.sci_text.proofs.Splits.{line_has_lf, first_line}
use Rattle.sci_text.specs.declared.stop.TextStop.{TextStop}
use Rattle.sci_text.specs.declared.stop.TextStop.TheVariants as stop
use Rattle.c_parse.specs.LineReading.{row_at}
use Rattle.c_parse.specs.Machine.{State, heading, outside, body, over, header_text, outset, begun, step, pass}
use Rattle.c_parse.specs.MachineView.{state_of}
use Rattle.c_parse.specs.Blame.{Spells, IsFront, Unspelled, Reached}
use Rattle.c_parse.proofs.LineTakes.{row_takes}
use Rattle.c_parse.proofs.StateLaws.{rows_so_far, IsBehind, StateFits, step_moved, Led, led_behind}
use Rattle.c_parse.proofs.TextLaws.{reached_more, reached_led, reached_front, stops_there, spelled_ends, reached_spells}
use Rattle.c_read.specs.declared.reader.ProgramReader.{ProgramReader}
use Rattle.c_read.specs.declared.reader.Placed.{Placed}
use Rattle.c_read.specs.declared.ProgramStop.{ProgramStop}
use Rattle.c_read.specs.declared.ProgramStop.TheVariants as stops
use Rattle.c_read.specs.Names.{past, row_places, rows_places, program_places}
use Rattle.c_read.specs.Lines.{read_places, next_places, blame_of, Reads}
use Rattle.c_read.proofs.Splits.{differ, whole_lines}

pub rows_places-append : (n : ℕ) (a b : List IndentedLine) → rows_places n (a ++ b) ≡ rows_places n a ++ rows_places (n + length (rows_text a)) b
rows_places-append n [] b = ap (λ (k : ℕ). rows_places k b) (omega arith)
rows_places-append n (r ∷ a) b =
    let m = past n (row_text r) in
    let e : m + length (rows_text a) ≡ n + length (row_text r ++ rows_text a) = omega (arith, length-append (row_text r) (rows_text a)) in
    ap (λ (l : List ℕ). row_places n r ++ l) (rows_places-append m a b ∙ ap (λ (k : ℕ). rows_places m a ++ rows_places k b) e) ∙ sym (append_assoc (row_places n r) (rows_places m a) (rows_places (n + length (row_text r ++ rows_text a)) b))

-- the names of the lines so far
abbrev pub places_so_far : State → List ℕ
places_so_far s = rows_places (length header_text) (rows_so_far s)

behind_noted : (text line : List ℕ) (s u : State) → IsBehind s → Led text s → StateFits s → (row_at line >>= λ r. step r s) ≡ Some u → places_so_far u ≡ places_so_far s ++ read_places (length text) (row_at line)
behind_noted text line s u b l f e =
    let r = bind_some (row_at line) (λ r. step r s) u e in
    let w = row_takes line r.0 r.1 in
    let m = step_moved r.0 s u f w.1 r.2 in
    let n : length header_text + length (rows_text (rows_so_far s)) ≡ length text = sym (ap length (led_behind text s b l) ∙ length-append header_text (rows_text (rows_so_far s))) in
    ap (rows_places (length header_text)) m.rows_are ∙ rows_places-append (length header_text) (rows_so_far s) (r.0 ∷ [])
    ∙ ap (λ (l : List ℕ). places_so_far s ++ l) (append-nil (row_places (length header_text + length (rows_text (rows_so_far s))) r.0) ∙ ap (λ (k : ℕ). row_places k r.0) n ∙ ap (read_places (length text)) (sym r.1))

begun_noted : (rest : List ℕ) → places_so_far (begun rest) ≡ []
begun_noted [] = refl
begun_noted (c ∷ cs) = refl

line_noted : (text line : List ℕ) (s u : State) → Led text s → StateFits s → pass line s ≡ Some u → places_so_far u ≡ places_so_far s ++ next_places s (length text) line
line_noted text line (heading t) u l f e = let k = bind_some _ (λ r. Some (begun r)) u e in ap places_so_far (sym (some_is k.2)) ∙ begun_noted k.0
line_noted text line (outside ds fs) u l f e = behind_noted text line (outside ds fs) u tt l f e
line_noted text line (body ds fs owner o) u l f e = behind_noted text line (body ds fs owner o) u tt l f e
line_noted text line (over p) u l f e = absurd cc

-- What was read of a text, up to this rest.
pub record IsAt (bytes rest : List ℕ) (reader : ProgramReader) : Type 0 where
  pub text : List ℕ
  pub split : bytes ≡ text ++ rest
  pub size : length text + length rest ≡ length bytes
  pub reached : Reached text (state_of reader.parser)
  pub places : reader.places.items ≡ places_so_far (state_of reader.parser)

size_of : (bytes text rest : List ℕ) → bytes ≡ text ++ rest → length text + length rest ≡ length bytes
size_of bytes text rest e = sym (ap length e ∙ length-append text rest)

pub at_start : (bytes : List ℕ) (reader : ProgramReader) → state_of reader.parser ≡ outset → reader.places.items ≡ [] → IsAt bytes bytes reader
at_start bytes reader s p = record {
  text = [];
  split = refl;
  size = omega arith;
  reached = subst (Reached []) (sym s) (record { lines = []; split = refl; clear = tt; ran = refl });
  places = p ∙ sym (ap places_so_far s);
}

pub place_at : (bytes rest : List ℕ) (reader : ProgramReader) (i : IsAt bytes rest reader) → length bytes - length rest ≡ length i.text
place_at bytes rest reader i = let e = i.size in omega arith

-- a line that passes
pub at_next : (bytes rest line more : List ℕ) (reader new : ProgramReader) → IsAt bytes rest reader → has_lf line ≡ false → rest ≡ with_lf line ++ more → pass line (state_of reader.parser) ≡ Some (state_of new.parser)
    → new.places.items ≡ reader.places.items ++ next_places (state_of reader.parser) (length bytes - length rest) line → IsAt bytes more new
at_next bytes rest line more reader new i c is e p =
    let l = reached_led i.text (state_of reader.parser) i.reached in
    let split : bytes ≡ (i.text ++ with_lf line) ++ more = i.split ∙ ap (λ (t : List ℕ). i.text ++ t) is ∙ sym (append_assoc i.text (with_lf line) more) in
    record {
      text = i.text ++ with_lf line;
      split = split;
      size = size_of bytes (i.text ++ with_lf line) more split;
      reached = reached_more i.text line (state_of reader.parser) (state_of new.parser) i.reached c e;
      places = p ∙ ap (λ (k : ℕ). reader.places.items ++ next_places (state_of reader.parser) k line) (place_at bytes rest reader i)
          ∙ ap (λ (old : List ℕ). old ++ next_places (state_of reader.parser) (length i.text) line) i.places ∙ sym (line_noted i.text line (state_of reader.parser) (state_of new.parser) l.0 l.1 e);
    }

front_is : (bytes rest : List ℕ) (reader : ProgramReader) (i : IsAt bytes rest reader) → take (length bytes - length rest) bytes ≡ i.text
front_is bytes rest reader i = ap (λ (n : ℕ). take n bytes) (place_at bytes rest reader i) ∙ ap (take (length i.text)) i.split ∙ take_at i.text rest (length i.text) refl

rest_is : (bytes rest : List ℕ) (reader : ProgramReader) (i : IsAt bytes rest reader) → drop (length bytes - length rest) bytes ≡ rest
rest_is bytes rest reader i = ap (λ (n : ℕ). drop n bytes) (place_at bytes rest reader i) ∙ ap (drop (length i.text)) i.split ∙ drop_at i.text rest (length i.text) refl

-- what is blamed where reading stops
unspelled_at : (bytes rest : List ℕ) (reader : ProgramReader) (i : IsAt bytes rest reader) → ((line more : List ℕ) → has_lf line ≡ false → rest ≡ with_lf line ++ more → IsFront (i.text ++ with_lf line) → ⊥)
    → ((p : Whole) → Spells bytes p → ⊥) → Unspelled bytes (length bytes - length rest)
unspelled_at bytes rest reader i next none =
    let f = front_is bytes rest reader i in
    let r = rest_is bytes rest reader i in
    record {
      within = omega arith;
      lines = λ line back e c. whole_lines i.reached.lines line back (sym i.reached.split ∙ sym f ∙ e) c;
      front = subst IsFront (sym f) (reached_front i.text (state_of reader.parser) i.reached);
      next = λ line more c e front. next line more c (sym r ∙ e) (subst (λ (t : List ℕ). IsFront (t ++ with_lf line)) f front);
      none = none;
    }

pub unspelled_line : (bytes rest line more : List ℕ) (reader : ProgramReader) → IsAt bytes rest reader → has_lf line ≡ false → rest ≡ with_lf line ++ more → pass line (state_of reader.parser) ≡ None → Unspelled bytes (length bytes - length rest)
unspelled_line bytes rest line more reader i c is e =
    let stops = stops_there i.text line (state_of reader.parser) i.reached c e in
    let split : bytes ≡ (i.text ++ with_lf line) ++ more = i.split ∙ ap (λ (t : List ℕ). i.text ++ t) is ∙ sym (append_assoc i.text (with_lf line) more) in
    unspelled_at bytes rest reader i
    (λ other back d h front. stops (subst (λ (l : List ℕ). IsFront (i.text ++ with_lf l)) (sym (first_line line other more back c d (sym is ∙ h)).0) front))
    (λ p s. stops (p, more, s.0, sym s.1 ∙ split))

pub unspelled_end : (bytes rest : List ℕ) (reader : ProgramReader) → IsAt bytes rest reader → has_lf rest ≡ false → ((p : Whole) → rest ≡ [] → state_of reader.parser ≡ over p → ⊥) → Unspelled bytes (length bytes - length rest)
unspelled_end bytes rest reader i c missing =
    unspelled_at bytes rest reader i
    (λ line more d h front. differ (has_lf rest) (ap has_lf h ∙ line_has_lf line more) c)
    (λ p s. let k = spelled_ends bytes i.text rest (state_of reader.parser) p i.split i.reached c s in missing p k.0 k.1)

-- all of a program
pub placed_end : (bytes rest : List ℕ) (reader : ProgramReader) (p : Whole) → IsAt bytes rest reader → rest ≡ [] → state_of reader.parser ≡ over p → Spells bytes p × (reader.places.items ≡ program_places p)
placed_end bytes rest reader p i none over_is =
    let whole : i.text ≡ bytes = sym (i.split ∙ ap (λ (t : List ℕ). i.text ++ t) none ∙ append-nil i.text) in
    (reached_spells bytes p (subst (λ (t : List ℕ). Reached t (over p)) whole (subst (Reached i.text) over_is i.reached)), i.places ∙ ap places_so_far over_is)

-- the answers
pub blamed_line : (bytes rest line more : List ℕ) (reader : ProgramReader) (s : TextStop) (result : ProgramStop) → IsAt bytes rest reader → has_lf line ≡ false → rest ≡ with_lf line ++ more → Fails s (pass line (state_of reader.parser))
    → result ≡ blame_of s (length bytes - length rest) → Reads bytes (Err result)
blamed_line bytes rest line more reader stop.Memory result i c is f e = subst (λ (r : ProgramStop). Reads bytes (Err r)) (sym e) tt
blamed_line bytes rest line more reader stop.Other result i c is f e = subst (λ (r : ProgramStop). Reads bytes (Err r)) (sym e) (unspelled_line bytes rest line more reader i c is f)

pub finished : (bytes rest : List ℕ) (reader : ProgramReader) (result : Result Placed ProgramStop) → IsAt bytes rest reader → has_lf rest ≡ false → IfOk result (λ x. rest ≡ []) → IfOk result (λ x. state_of reader.parser ≡ over (whole_of x.program))
    → IfOk result (λ x. x.places.items ≡ reader.places.items) → IfErr result (λ e. e ≡ stops.NotC (length bytes - length rest)) → IfErr result (λ e. (p : Whole) → rest ≡ [] → state_of reader.parser ≡ over p → ⊥) → Reads bytes result
finished bytes rest reader (Ok x) i c none is same b m = let e = placed_end bytes rest reader (whole_of x.program) i none is in (e.0, same ∙ e.1)
finished bytes rest reader (Err x) i c none is same b m = subst (λ (r : ProgramStop). Reads bytes (Err r)) (sym b) (unspelled_end bytes rest reader i c m)
