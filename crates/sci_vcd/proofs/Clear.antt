-- No line of a dump has a LF in it.
use Rattle.std.proofs.Common.{◌≡◌, ℕ, ◌+◌, ◌^◌, ◌<◌, ◌≤◌, ℤ, List, [], ◌∷◌, ◌++◌, length, Bool, true, false, refl, ap, ◌∙◌, arith}
use Rattle.std.specs.Prelude.{nat_eq, nat_le, codes, decimal, if◌then◌else◌}
use Rattle.std.proofs.lemmas.Bool.{and_parts, leb-true}
use Rattle.std.proofs.lemmas.List.{length_push}
use Rattle.sci_base.specs.declared.Ty.{Ty}
use Rattle.sci_base.specs.declared.Ty.TheVariants.{I32, I16, I8, U32, U16, U8}
use Rattle.sci_base.specs.Fit.{width}
use Rattle.sci_base.specs.Bits.{pattern}
use Rattle.sci_vcd.specs.declared.signal.Signal.{Signal}
use Rattle.sci_vcd.specs.declared.signal.Change.{Change}
use Rattle.sci_vcd.specs.Waveforms.{Waveforms, Each, type_of, is_within, Joins, Follows, IsDump}
use Rattle.sci_vcd.specs.Spelling.{bits, type_text, signal_line, value_line, tick_line, signal_lines, value_lines, next_tick, change_lines, opening, signals_part, values_part, head_part, lines_of}
use Rattle.sci_text.specs.Lines.{has_lf, AllClear}
use Rattle.sci_text.proofs.Splits.{clear_append}
use Rattle.sci_text.proofs.Clear.{both_clear, around, digits_clear, decimal_clear}
use Rattle.sci_vcd.proofs.Bits.{digits_binary}
use Rattle.sci_vcd.proofs.Lines.{name_tail, row_is, within_small}
use Rattle.sci_vcd.proofs.Eachs.{signals_few}

type_clear : (t : Ty) → has_lf (type_text t) ≡ false
type_clear I32 = refl
type_clear I16 = refl
type_clear I8 = refl
type_clear U32 = refl
type_clear U16 = refl
type_clear U8 = refl

tail_clear : (g : Signal) → is_within g ≡ true → has_lf (name_tail g) ≡ false
tail_clear g f =
    let s = within_small g f in
    let block : g.block < 2 ^ 64 = omega (arith, s.0) in
    let port : g.port < 2 ^ 64 = omega (arith, s.1) in
    let element : g.element < 2 ^ 64 = omega (arith, s.2) in
    both_clear (decimal g.block) (codes "_" ++ (decimal g.port ++ (codes "_" ++ (decimal g.element ++ codes " $end")))) (decimal_clear g.block block)
    (around (codes "_") (decimal g.port) (codes "_" ++ (decimal g.element ++ codes " $end")) refl (decimal_clear g.port port) (around (codes "_") (decimal g.element) (codes " $end") refl (decimal_clear g.element element) refl))

signal_clear : (n : ℕ) (g : Signal) → n < 2 ^ 64 → is_within g ≡ true → has_lf (signal_line n g) ≡ false
signal_clear n g h f =
    ap has_lf (row_is n g)
    ∙ around (codes "$var ") (type_text g.ty) (codes " v" ++ (decimal n ++ (codes " b" ++ name_tail g))) refl (type_clear g.ty)
    (around (codes " v") (decimal n) (codes " b" ++ name_tail g) refl (decimal_clear n h) (both_clear (codes " b") (name_tail g) refl (tail_clear g f)))

value_clear : (t : Ty) (n : ℕ) (v : ℤ) → n < 2 ^ 64 → has_lf (value_line t n v) ≡ false
value_clear t n v h =
    around (codes "b") (bits t v) (codes " v" ++ decimal n) refl (digits_clear (bits t v) (digits_binary (width t) (pattern t v))) (both_clear (codes " v") (decimal n) refl (decimal_clear n h))

tick_clear : (t : ℕ) → t ≤ 2 ^ 62 → has_lf (tick_line t) ≡ false
tick_clear t h = both_clear (codes "#") (decimal t) refl (decimal_clear t (omega arith))

signals_clear : (before gs : List Signal) (n : ℕ) → n ≡ length before + 1 → Each Joins before gs → AllClear (signal_lines n gs)
signals_clear before [] n is e = tt
signals_clear before (g ∷ gs) n is e =
    let few = e.0.few in
    let more = length_push before g in
    (signal_clear n g (omega arith) e.0.within, signals_clear (before ++ g ∷ []) gs (n + 1) (omega arith) e.1)

values_clear : (gs : List Signal) (n : ℕ) (vs : List ℤ) → n + length vs ≤ 65537 → AllClear (value_lines gs n vs)
values_clear gs n [] h = tt
values_clear gs n (v ∷ vs) h = (value_clear (type_of gs n) n v (omega arith), values_clear gs (n + 1) vs (omega arith))

next_clear : (told t : ℕ) → t ≤ 2 ^ 62 → AllClear (next_tick told t)
next_clear told t h = by_test (nat_eq t told)
  where
    by_test : (b : Bool) → AllClear (if b then [] else tick_line t ∷ [])
    by_test true = tt
    by_test false = (tick_clear t h, tt)

pub signal_most : (gs : List Signal) (first : List ℤ) (before : List Change) (c : Change) → Follows gs first before c → (1 ≤ c.signal) × (c.signal ≤ length gs)
signal_most gs first before c f = let p = and_parts (nat_le 1 c.signal) (nat_le c.signal (length gs)) f.known in (leb-true 1 c.signal p.0, leb-true c.signal (length gs) p.1)

changes_clear : (gs : List Signal) (first : List ℤ) (before : List Change) (told : ℕ) (cs : List Change) → length gs ≤ 65536 → Each (Follows gs first) before cs → AllClear (change_lines gs told cs)
changes_clear gs first before told [] few e = tt
changes_clear gs first before told (c ∷ cs) few e =
    let most = (signal_most gs first before c e.0).1 in
    clear_append (next_tick told c.tick) (value_line (type_of gs c.signal) c.signal c.value ∷ change_lines gs c.tick cs) (next_clear told c.tick e.0.early)
    (value_clear (type_of gs c.signal) c.signal c.value (omega (arith, most)), changes_clear gs first (before ++ c ∷ []) c.tick cs few e.1)

pub lines_clear : (w : Waveforms) → IsDump w → AllClear (lines_of w)
lines_clear w d =
    let few = signals_few w.signals d.signals in
    let each = d.one_each in
    clear_append (head_part w.signals w.first) (change_lines w.signals 0 w.changes)
    (clear_append (values_part w.signals w.first) (codes "$end" ∷ [])
    (clear_append (signals_part w.signals) (opening ++ value_lines w.signals 1 w.first) (refl, (refl, signals_clear [] w.signals 1 refl d.signals))
    (refl, (refl, (refl, (refl, values_clear w.signals 1 w.first (omega arith))))))
    (refl, tt))
    (changes_clear w.signals w.first [] 0 w.changes few d.changes)
