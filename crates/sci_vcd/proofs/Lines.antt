-- Lines are read as they are spelled, and what is read is spelled so.
use Rattle.std.proofs.Common.{◌≡◌, ℕ, ◌+◌, ◌^◌, ◌<◌, ◌≤◌, ℤ, List, [], ◌∷◌, ◌++◌, Some, true, ⊎_elim, refl, sym, ap, ◌∙◌, subst, arith, append_assoc, append-nil}
use Rattle.std.specs.Prelude.{codes, decimal, nat_le, ◌&&◌}
use Rattle.std.proofs.lemmas.Bool.{and_parts, leb-true}
use Rattle.sci_base.specs.declared.Ty.{Ty}
use Rattle.sci_base.specs.declared.Ty.TheVariants.{I32, I16, I8, U32, U16, U8}
use Rattle.sci_base.specs.Fit.{width}
use Rattle.sci_base.specs.Bits.{pattern}
use Rattle.sci_vcd.specs.declared.signal.Signal.{Signal}
use Rattle.sci_vcd.specs.Waveforms.{counts, is_within}
use Rattle.sci_vcd.specs.Spelling.{bits, type_text, name_text, signal_line, value_line}
use Rattle.sci_text.specs.Reading.{after}
use Rattle.sci_text.specs.Numbers.{digits_front, digits_rest, number_at}
use Rattle.sci_text.proofs.Parts.{bind_some, else_cases, some_is, after_takes, ended_takes}
use Rattle.sci_text.proofs.Numbers.{front_again, front_splits, number_again, number_takes}
use Rattle.sci_vcd.specs.Reading.{all_types, type_among, type_at, signal_by, name_at, signal_at, change_at, tick_at}
use Rattle.sci_vcd.proofs.Bits.{digits_binary}

-- ---- types

pub type_again : (t : Ty) (rest : List ℕ) → type_at (type_text t ++ rest) ≡ Some (t, rest)
unfolding type_at
type_again I32 rest = refl
type_again I16 rest = refl
type_again I8 rest = refl
type_again U32 rest = refl
type_again U16 rest = refl
type_again U8 rest = refl

among_takes : (ts : List Ty) (bytes : List ℕ) (y : Ty × List ℕ) → type_among ts bytes ≡ Some y → bytes ≡ type_text y.0 ++ y.1
among_takes [] bytes y e = absurd cc
among_takes (t ∷ ts) bytes y e =
    ⊎_elim
    (λ w. let p : (t, w.0) ≡ y = some_is w.2 in after_takes (type_text t) bytes w.0 w.1 ∙ ap (λ (q : Ty × List ℕ). type_text q.0 ++ q.1) p)
    (λ w. among_takes ts bytes y w.1)
    (else_cases (after (type_text t) bytes) (λ rest. Some (t, rest)) (type_among ts bytes) (Some y) e)

type_takes : (bytes : List ℕ) (y : Ty × List ℕ) → type_at bytes ≡ Some y → bytes ≡ type_text y.0 ++ y.1
unfolding type_at
type_takes bytes y e = among_takes all_types bytes y e

-- ---- signals

-- what stands behind the `b` of a signal's name, to the end of its line
abbrev pub name_tail : Signal → List ℕ
name_tail g = decimal g.block ++ (codes "_" ++ (decimal g.port ++ (codes "_" ++ (decimal g.element ++ codes " $end"))))

tail_is : (g : Signal) → codes " " ++ (name_text g ++ codes " $end") ≡ codes " b" ++ name_tail g
tail_is g = simp append_assoc

small : 2 ^ 32 ≤ 2 ^ 63
small = omega arith

name_again : (g : Signal) → g.block < 2 ^ 32 → g.port < 2 ^ 32 → g.element < 2 ^ 32 → name_at g.ty (name_tail g) ≡ Some g
unfolding name_at
name_again g b p e =
    rw (
      number_again (2 ^ 32) g.block (codes "_" ++ (decimal g.port ++ (codes "_" ++ (decimal g.element ++ codes " $end")))) b small refl,
      number_again (2 ^ 32) g.port (codes "_" ++ (decimal g.element ++ codes " $end")) p small refl,
      number_again (2 ^ 32) g.element (codes " $end") e small refl,
    ) refl

name_takes : (t : Ty) (bytes : List ℕ) (g : Signal) → name_at t bytes ≡ Some g → (bytes ≡ name_tail g) × (t ≡ g.ty)
unfolding name_at
name_takes t bytes g e =
    let b = bind_some (number_at (2 ^ 32) bytes) _ g e in
    let l = bind_some (after (codes "_") b.0.1) _ g b.2 in
    let p = bind_some (number_at (2 ^ 32) l.0) _ g l.2 in
    let m = bind_some (after (codes "_") p.0.1) _ g p.2 in
    let n = bind_some (number_at (2 ^ 32) m.0) _ g m.2 in
    let r = bind_some (after (codes " $end") n.0.1) _ g n.2 in
    let d = ended_takes (signal_by t b.0.0 p.0.0 n.0.0) r.0 g r.2 in
    let last : n.0.1 ≡ codes " $end" = after_takes (codes " $end") n.0.1 r.0 r.1 ∙ ap (λ (q : List ℕ). codes " $end" ++ q) d.0 in
    let third : m.0 ≡ decimal n.0.0 ++ codes " $end" = (number_takes (2 ^ 32) m.0 n.0 small n.1).0 ∙ ap (λ (q : List ℕ). decimal n.0.0 ++ q) last in
    let second : l.0 ≡ decimal p.0.0 ++ (codes "_" ++ (decimal n.0.0 ++ codes " $end")) =
    (number_takes (2 ^ 32) l.0 p.0 small p.1).0 ∙ ap (λ (q : List ℕ). decimal p.0.0 ++ q) (after_takes (codes "_") p.0.1 m.0 m.1 ∙ ap (λ (q : List ℕ). codes "_" ++ q) third) in
    let first : bytes ≡ name_tail (signal_by t b.0.0 p.0.0 n.0.0) =
    (number_takes (2 ^ 32) bytes b.0 small b.1).0 ∙ ap (λ (q : List ℕ). decimal b.0.0 ++ q) (after_takes (codes "_") b.0.1 l.0 l.1 ∙ ap (λ (q : List ℕ). codes "_" ++ q) second) in
    subst (λ (h : Signal). (bytes ≡ name_tail h) × (t ≡ h.ty)) d.1 (first, refl)

-- a line of a signal, with its parts in a row
abbrev pub signal_row : ℕ → Signal → List ℕ
signal_row n g = codes "$var " ++ (type_text g.ty ++ (codes " v" ++ (decimal n ++ (codes " b" ++ name_tail g))))

pub row_is : (n : ℕ) (g : Signal) → signal_line n g ≡ signal_row n g
row_is n g = ap (λ (q : List ℕ). codes "$var " ++ (type_text g.ty ++ (codes " v" ++ (decimal n ++ q)))) (tail_is g)

pub within_small : (g : Signal) → is_within g ≡ true → (g.block ≤ 2048) × (g.port ≤ 64) × (g.element ≤ 256)
within_small g e =
    let a = and_parts (counts 2048 g.block) (counts 64 g.port && counts 256 g.element) e in
    let b = and_parts (counts 64 g.port) (counts 256 g.element) a.1 in (
      leb-true g.block 2048 (and_parts (nat_le 1 g.block) (nat_le g.block 2048) a.0).1,
      leb-true g.port 64 (and_parts (nat_le 1 g.port) (nat_le g.port 64) b.0).1,
      leb-true g.element 256 (and_parts (nat_le 1 g.element) (nat_le g.element 256) b.1).1,
    )

pub signal_again : (n : ℕ) (g : Signal) → n < 2 ^ 32 → is_within g ≡ true → signal_at (signal_line n g) ≡ Some (n, g)
unfolding signal_at
signal_again n g h f =
    let s = within_small g f in
    let block : g.block < 2 ^ 32 = omega (arith, s.0) in
    let port : g.port < 2 ^ 32 = omega (arith, s.1) in
    let element : g.element < 2 ^ 32 = omega (arith, s.2) in
    ap signal_at (row_is n g)
    ∙ rw (type_again g.ty (codes " v" ++ (decimal n ++ (codes " b" ++ name_tail g))), number_again (2 ^ 32) n (codes " b" ++ name_tail g) h small refl, name_again g block port element) refl

pub signal_takes : (line : List ℕ) (y : ℕ × Signal) → signal_at line ≡ Some y → line ≡ signal_line y.0 y.1
unfolding signal_at
signal_takes line y e =
    let l = bind_some (after (codes "$var ") line) _ y e in
    let t = bind_some (type_at l.0) _ y l.2 in
    let m = bind_some (after (codes " v") t.0.1) _ y t.2 in
    let n = bind_some (number_at (2 ^ 32) m.0) _ y m.2 in
    let r = bind_some (after (codes " b") n.0.1) _ y n.2 in
    let g = bind_some (name_at t.0.0 r.0) _ y r.2 in
    let p : (n.0.0, g.0) ≡ y = some_is g.2 in
    let named = name_takes t.0.0 r.0 g.0 g.1 in
    let fourth : m.0 ≡ decimal n.0.0 ++ (codes " b" ++ name_tail g.0) =
    (number_takes (2 ^ 32) m.0 n.0 small n.1).0 ∙ ap (λ (q : List ℕ). decimal n.0.0 ++ q) (after_takes (codes " b") n.0.1 r.0 r.1 ∙ ap (λ (q : List ℕ). codes " b" ++ q) named.0) in
    let third : t.0.1 ≡ codes " v" ++ (decimal n.0.0 ++ (codes " b" ++ name_tail g.0)) = after_takes (codes " v") t.0.1 m.0 m.1 ∙ ap (λ (q : List ℕ). codes " v" ++ q) fourth in
    let second : l.0 ≡ type_text g.0.ty ++ (codes " v" ++ (decimal n.0.0 ++ (codes " b" ++ name_tail g.0))) =
    type_takes l.0 t.0 t.1 ∙ ap (λ (q : List ℕ). type_text t.0.0 ++ q) third ∙ ap (λ (u : Ty). type_text u ++ (codes " v" ++ (decimal n.0.0 ++ (codes " b" ++ name_tail g.0)))) named.1 in
    after_takes (codes "$var ") line l.0 l.1 ∙ ap (λ (q : List ℕ). codes "$var " ++ q) second ∙ sym (row_is n.0.0 g.0) ∙ ap (λ (q : ℕ × Signal). signal_line q.0 q.1) p

-- ---- values

number_last : (limit n : ℕ) → n < limit → limit ≤ 2 ^ 63 → number_at limit (decimal n) ≡ Some (n, [])
number_last limit n h l = ap (number_at limit) (sym (append-nil (decimal n))) ∙ number_again limit n [] h l refl

-- a line with these digits
abbrev pub digits_line : List ℕ → ℕ → List ℕ
digits_line ds n = codes "b" ++ (ds ++ (codes " v" ++ decimal n))

pub change_again : (t : Ty) (n : ℕ) (v : ℤ) → n < 2 ^ 32 → change_at (value_line t n v) ≡ Some (bits t v, n)
unfolding change_at
change_again t n v h =
    let f = front_again (bits t v) (codes " v" ++ decimal n) (digits_binary (width t) (pattern t v)) refl in
    rw (f.1, number_last (2 ^ 32) n h small, f.0) refl

pub change_takes : (line : List ℕ) (y : List ℕ × ℕ) → change_at line ≡ Some y → line ≡ digits_line y.0 y.1
unfolding change_at
change_takes line y e =
    let l = bind_some (after (codes "b") line) _ y e in
    let m = bind_some (after (codes " v") (digits_rest l.0)) _ y l.2 in
    let n = bind_some (number_at (2 ^ 32) m.0) _ y m.2 in
    let d = ended_takes (digits_front l.0, n.0.0) n.0.1 y n.2 in
    let third : m.0 ≡ decimal n.0.0 = (number_takes (2 ^ 32) m.0 n.0 small n.1).0 ∙ ap (λ (q : List ℕ). decimal n.0.0 ++ q) d.0 ∙ append-nil (decimal n.0.0) in
    let second : l.0 ≡ digits_front l.0 ++ (codes " v" ++ decimal n.0.0) =
    front_splits l.0 ∙ ap (λ (q : List ℕ). digits_front l.0 ++ q) (after_takes (codes " v") (digits_rest l.0) m.0 m.1 ∙ ap (λ (q : List ℕ). codes " v" ++ q) third) in
    after_takes (codes "b") line l.0 l.1 ∙ ap (λ (q : List ℕ). codes "b" ++ q) second ∙ ap (λ (q : List ℕ × ℕ). digits_line q.0 q.1) d.1

-- ---- ticks

tick_small : 2 ^ 62 + 1 ≤ 2 ^ 63
tick_small = omega arith

pub tick_again : (t : ℕ) → t ≤ 2 ^ 62 → tick_at (decimal t) ≡ Some t
unfolding tick_at
tick_again t h = rw (number_last (2 ^ 62 + 1) t (omega arith) tick_small) refl

pub tick_takes : (rest : List ℕ) (t : ℕ) → tick_at rest ≡ Some t → (rest ≡ decimal t) × (t ≤ 2 ^ 62)
unfolding tick_at
tick_takes rest t e =
    let n = bind_some (number_at (2 ^ 62 + 1) rest) _ t e in
    let d = ended_takes n.0.0 n.0.1 t n.2 in
    let k = number_takes (2 ^ 62 + 1) rest n.0 tick_small n.1 in
    let whole : rest ≡ decimal n.0.0 = k.0 ∙ ap (λ (q : List ℕ). decimal n.0.0 ++ q) d.0 ∙ append-nil (decimal n.0.0) in
    let less : n.0.0 < 2 ^ 62 + 1 = k.1 in
    subst (λ (u : ℕ). (rest ≡ decimal u) × (u ≤ 2 ^ 62)) d.1 (whole, omega arith)
