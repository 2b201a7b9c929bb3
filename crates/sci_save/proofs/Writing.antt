-- Lines that are written one after another.
use Rattle.std.proofs.Common.{◌≡◌, ℕ, zero, suc, arith, ◌+◌, ◌<◌, ℤ, List, [], ◌∷◌, ◌++◌, length, get_or, drop, All, refl, sym, ap, ap₂, subst, append_assoc, append-nil, Vec}
use Rattle.std.specs.declared.alloc.Global.{Global}
use Rattle.std.specs.Prelude.{codes, decimal, Result, Ok, Err}
use Rattle.std.specs.Fmt.{signed_decimal}
use Rattle.std.specs.List.{AllByRecursion}
use Rattle.std.proofs.lemmas.List.{drop_more}
use Rattle.sci_io.specs.Taken.{SinkState, Writes, UnderWay}
use Rattle.sci_io.proofs.Advance.{finished, next_front, cut_off}
use Rattle.sci_forms.specs.declared.spec.Spec.{Spec}
use Rattle.sci_net.specs.Parts.{Parts, rows_of}
use Rattle.sci_net.specs.Sources.{sources_of}
use Rattle.sci_trace.specs.Lines.{numbers}
use Rattle.sci_save.specs.Numbers.{start_text}
use Rattle.sci_save.specs.Valid.{IsNear, AreCursors}
use Rattle.sci_save.specs.Text.{row_text, rows_text, cursor_row, cursor_rows, event_text, events_text}

-- the last piece of a text
pub last_piece : {U F : Type 0} {old mid new : SinkState} {text : List ℕ} (piece : List ℕ) (s : Result U F) → UnderWay old mid text piece → Writes mid new piece s → Writes old new text s
last_piece {old = old} {mid = mid} {text = text} piece (Ok y) w h = finished y (next_front piece [] (Ok y) y refl (subst (λ (l : List ℕ). UnderWay old mid text l) (sym (append-nil piece)) w) h)
last_piece {old = old} {mid = mid} {text = text} piece (Err f) w h = cut_off piece [] (Err f) (Err f) f f refl refl (subst (λ (l : List ℕ). UnderWay old mid text l) (sym (append-nil piece)) w) h

pub numbers-drop : (zs : List ℤ) (i : ℕ) (d : ℤ) → i < length zs → numbers (drop i zs) ≡ (codes " " ++ signed_decimal (get_or zs i d)) ++ numbers (drop (i + 1) zs)
numbers-drop zs i d h = ap numbers (drop_more zs i d h)

pub rows-drop : (word : List ℕ) (rows : List (Vec ℤ Global)) (i : ℕ) (v : Vec ℤ Global) → i < length rows
    → rows_text word (i + 1) (rows_of (drop i rows)) ≡ row_text word (i + 1) (get_or rows i v).items ++ rows_text word (i + 1 + 1) (rows_of (drop (i + 1) rows))
rows-drop word rows i v h = ap (λ (xs : List (Vec ℤ Global)). rows_text word (i + 1) (rows_of xs)) (drop_more rows i v h)

pub cursors-drop : (word : List ℕ) (ss : List Spec) (cs : List ℕ) (i : ℕ) (s : Spec) (c : ℕ) → i < length ss → i < length cs
    → rows_text word (i + 1) (cursor_rows (drop i ss) (drop i cs)) ≡ row_text word (i + 1) (cursor_row (get_or ss i s) (get_or cs i c)) ++ rows_text word (i + 1 + 1) (cursor_rows (drop (i + 1) ss) (drop (i + 1) cs))
cursors-drop word ss cs i s c h k = ap₂ (λ (xs : List Spec) (ys : List ℕ). rows_text word (i + 1) (cursor_rows xs ys)) (drop_more ss i s h) (drop_more cs i c k)

pub events-drop : (n : Parts) (ds : List (ℕ × ℕ)) (i : ℕ) (d : ℕ × ℕ) → i < length ds → events_text n (drop i ds) ≡ event_text n (get_or ds i d) ++ events_text n (drop (i + 1) ds)
events-drop n ds i d h = ap (events_text n) (drop_more ds i d h)

-- ---- what is asked of what is written

pub one_cursor_each : (ss : List Spec) (cs : List ℕ) → AreCursors ss cs → length cs ≡ length ss
one_cursor_each [] [] f = refl
one_cursor_each [] (c ∷ cs) f = absurd f
one_cursor_each (s ∷ ss) [] f = absurd f
one_cursor_each (s ∷ ss) (c ∷ cs) f = ap suc (one_cursor_each ss cs f.1)

pub all_sources : (n : Parts) (now : ℕ) (ds : List (ℕ × ℕ)) → AllByRecursion (IsNear n now) ds → All (λ (d : ℕ × ℕ). d.1 < length (sources_of n)) ds
all_sources n now [] f k d h = absurd (omega (arith, h))
all_sources n now (x ∷ xs) f zero d h = f.0.source
all_sources n now (x ∷ xs) f (suc k) d h = all_sources n now xs f.1 k d (omega (arith, h))

pub row_split : (word : List ℕ) (b : ℕ) (row : List ℤ) → (length row ≡ 0 → ⊥) → start_text word b ++ numbers row ≡ row_text word b row
row_split word b [] h = absurd (h refl)
row_split word b (v ∷ vs) h = append_assoc word (codes " " ++ decimal b) (numbers (v ∷ vs))

pub row_none : (word : List ℕ) (b : ℕ) (row : List ℤ) → length row ≡ 0 → row_text word b row ≡ []
row_none word b [] h = refl
row_none word b (v ∷ vs) h = absurd (omega (arith, h))
