-- Lines that are put one after another.
use Rattle.std.proofs.Common.{◌≡◌, ℕ, ◌+◌, ◌-◌, ◌<◌, ◌≤◌, ℤ, List, [], ◌∷◌, ◌++◌, drop, length, get_or, refl, sym, ap, ◌∙◌, subst, arith, append_assoc, append-nil, true, false}
use Rattle.std.specs.Prelude.{codes}
use Rattle.std.proofs.lemmas.List.{drop_more}
use Rattle.std.specs.Prelude.{Result, Ok, Err}
use Rattle.sci_io.specs.Taken.{SinkState, Writes, UnderWay}
use Rattle.sci_io.proofs.Advance.{finished, next_front, cut_off}
use Rattle.sci_vcd.specs.declared.signal.Signal.{Signal}
use Rattle.sci_vcd.specs.Waveforms.{type_of, no_signal}
use Rattle.sci_text.specs.Lines.{with_lf, joined}
use Rattle.sci_vcd.specs.Spelling.{signal_line, signal_lines, value_line, value_lines, tick_line, next_tick, change_lines, signals_part, opening, values_part, head_part}
use Rattle.sci_vcd.specs.Writing.{change_here, changes_within, told_behind}
use Rattle.sci_text.proofs.Splits.{joined-append}
use Rattle.sci_vcd.proofs.Changed.{told_here, unchanged_here, changed_here, within_split, within_one, change_lines-append}
use Rattle.sci_base.specs.Fit.{int_eq}
use Rattle.sci_vcd.proofs.Leading.{told_tick, new_tick}

pub signals_drop : (gs : List Signal) (i n : ℕ) (d : Signal) → i < length gs → joined (signal_lines n (drop i gs)) ≡ with_lf (signal_line n (get_or gs i d)) ++ joined (signal_lines (n + 1) (drop (i + 1) gs))
signals_drop gs i n d h = ap (λ (l : List Signal). joined (signal_lines n l)) (drop_more gs i d h)

pub type_here : (gs : List Signal) (i : ℕ) → type_of gs (i + 1) ≡ (get_or gs i no_signal).ty
type_here gs i = let e : (i + 1) - 1 ≡ i = omega arith in ap (λ (k : ℕ). (get_or gs k no_signal).ty) e

pub values_drop : (gs : List Signal) (vs : List ℤ) (i : ℕ) (d : ℤ) → i < length vs
    → joined (value_lines gs (i + 1) (drop i vs)) ≡ with_lf (value_line (get_or gs i no_signal).ty (i + 1) (get_or vs i d)) ++ joined (value_lines gs (i + 1 + 1) (drop (i + 1) vs))
values_drop gs vs i d h =
    ap (λ (l : List ℤ). joined (value_lines gs (i + 1) l)) (drop_more vs i d h)
    ∙ ap (λ t. with_lf (value_line t (i + 1) (get_or vs i d)) ++ joined (value_lines gs (i + 1 + 1) (drop (i + 1) vs))) (type_here gs i)

-- the lines of the changes within a part, and those of the rest
pub parts_text : (gs : List Signal) (told t a b c : ℕ) (vs ws : List ℤ) → a ≤ b → b ≤ c → c ≤ length vs → length ws ≡ length vs
    → joined (change_lines gs told (changes_within t a c vs ws))
    ≡ joined (change_lines gs told (changes_within t a b vs ws)) ++ joined (change_lines gs (told_behind told (changes_within t a b vs ws)) (changes_within t b c vs ws))
parts_text gs told t a b c vs ws h g f e =
    ap (λ cs. joined (change_lines gs told cs)) (within_split t a b c vs ws h g f e)
    ∙ ap joined (change_lines-append gs told (changes_within t a b vs ws) (changes_within t b c vs ws))
    ∙ joined-append (change_lines gs told (changes_within t a b vs ws)) (change_lines gs (told_behind told (changes_within t a b vs ws)) (changes_within t b c vs ws))

-- ---- a change

pub told_text : (told t : ℕ) → told ≡ t → joined (next_tick told t) ≡ []
told_text told t h = ap joined (told_tick told t (sym h))

pub tick_text : (told t : ℕ) → (told ≡ t → ⊥) → joined (next_tick told t) ≡ with_lf (tick_line t)
tick_text told t h = ap joined (new_tick told t (λ e. h (sym e))) ∙ append-nil (with_lf (tick_line t))

pub change_text : (gs : List Signal) (told t i : ℕ) (v w : ℤ) → int_eq v w ≡ false
    → joined (change_lines gs told (change_here t (i + 1) v w)) ≡ joined (next_tick told t) ++ (with_lf (value_line (get_or gs i no_signal).ty (i + 1) w) ++ [])
change_text gs told t i v w e =
    ap (λ cs. joined (change_lines gs told cs)) (changed_here t (i + 1) v w e)
    ∙ joined-append (next_tick told t) (value_line (type_of gs (i + 1)) (i + 1) w ∷ [])
    ∙ ap (λ ty. joined (next_tick told t) ++ (with_lf (value_line ty (i + 1) w) ++ [])) (type_here gs i)

-- the line of a change at a tick that is told
pub change_alone : (gs : List Signal) (t i : ℕ) (v w : ℤ) → int_eq v w ≡ false → joined (change_lines gs t (change_here t (i + 1) v w)) ≡ with_lf (value_line (get_or gs i no_signal).ty (i + 1) w)
change_alone gs t i v w e =
    let line : List ℕ = with_lf (value_line (get_or gs i no_signal).ty (i + 1) w) in
    change_text gs t t i v w e ∙ (ap (λ (l : List ℕ). l ++ (line ++ [])) (told_text t t refl) ∙ append-nil line)

pub same_here : (gs : List Signal) (told t k : ℕ) (v w : ℤ) → int_eq v w ≡ true → joined (change_lines gs told (change_here t k v w)) ≡ []
same_here gs told t k v w e = ap (λ cs. joined (change_lines gs told cs)) (unchanged_here t k v w e)

-- the change of one signal, and the rest
pub one_text : (gs : List Signal) (told t a c : ℕ) (vs ws : List ℤ) (d : ℤ) → a < c → c ≤ length vs → length ws ≡ length vs
    → joined (change_lines gs told (changes_within t a c vs ws))
    ≡ joined (change_lines gs told (change_here t (a + 1) (get_or vs a d) (get_or ws a d)))
    ++ joined (change_lines gs (told_behind told (change_here t (a + 1) (get_or vs a d) (get_or ws a d))) (changes_within t (a + 1) c vs ws))
one_text gs told t a c vs ws d h g e =
    let one = within_one t a vs ws (get_or vs a d) (get_or ws a d) d (omega (arith, h, g)) e refl refl in
    parts_text gs told t a (a + 1) c vs ws (omega arith) (omega (arith, h)) g e
    ∙ ap (λ cs. joined (change_lines gs told cs) ++ joined (change_lines gs (told_behind told cs) (changes_within t (a + 1) c vs ws))) one

-- the line of a change before those of the later signals, at a tick that is told
pub lines_back : (gs : List Signal) (t i a b c : ℕ) (vs ws : List ℤ) (d : ℤ) → i < c → c ≤ length vs → length ws ≡ length vs → a ≡ i + 1 → b ≡ i → (new old : List ℕ)
    → new ≡ joined (change_lines gs t (change_here t (i + 1) (get_or vs i d) (get_or ws i d))) ++ old → old ≡ joined (change_lines gs t (changes_within t a c vs ws))
    → new ≡ joined (change_lines gs t (changes_within t b c vs ws))
lines_back gs t i a b c vs ws d h g e next here new old put before =
    let line : List ℕ = joined (change_lines gs t (change_here t (i + 1) (get_or vs i d) (get_or ws i d))) in
    let rest : old ≡ joined (change_lines gs (told_behind t (change_here t (i + 1) (get_or vs i d) (get_or ws i d))) (changes_within t (i + 1) c vs ws)) =
    before
    ∙ (ap (λ (j : ℕ). joined (change_lines gs t (changes_within t j c vs ws))) next
    ∙ ap (λ (told : ℕ). joined (change_lines gs told (changes_within t (i + 1) c vs ws))) (sym (told_here t (i + 1) (get_or vs i d) (get_or ws i d)))) in
    put
    ∙ (ap (λ (l : List ℕ). line ++ l) rest
    ∙ (sym (one_text gs t t i c vs ws d h g e) ∙ ap (λ (j : ℕ). joined (change_lines gs t (changes_within t j c vs ws))) (sym here)))

-- ---- the head

abbrev pub opening_text : List ℕ
opening_text = codes "$upscope $end\n$enddefinitions $end\n#0\n$dumpvars\n"

pub head_text : (gs : List Signal) (vs : List ℤ)
    → joined (head_part gs vs)
    ≡ codes "$timescale 1 ns $end\n$scope module scicos $end\n"
    ++ (joined (signal_lines 1 gs) ++ (opening_text ++ (joined (value_lines gs 1 vs) ++ codes "$end\n")))
head_text gs vs =
    joined-append (values_part gs vs) (codes "$end" ∷ [])
    ∙ ap (λ (l : List ℕ). l ++ codes "$end\n") (joined-append (signals_part gs) (opening ++ value_lines gs 1 vs))
    ∙ append_assoc (joined (signals_part gs)) (joined (opening ++ value_lines gs 1 vs)) (codes "$end\n")

-- the last piece of a text
pub last_piece : {U F : Type 0} {old mid new : SinkState} {text : List ℕ} (piece : List ℕ) (s : Result U F) → UnderWay old mid text piece → Writes mid new piece s → Writes old new text s
last_piece {old = old} {mid = mid} {text = text} piece (Ok y) w h = finished y (next_front piece [] (Ok y) y refl (subst (λ (l : List ℕ). UnderWay old mid text l) (sym (append-nil piece)) w) h)
last_piece {old = old} {mid = mid} {text = text} piece (Err f) w h = cut_off piece [] (Err f) (Err f) f f refl refl (subst (λ (l : List ℕ). UnderWay old mid text l) (sym (append-nil piece)) w) h
