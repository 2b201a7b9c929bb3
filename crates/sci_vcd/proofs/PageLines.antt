-- The lines of a page's changes, with that of their tick.
use Rattle.std.proofs.Common.{◌≡◌, ℕ, ◌+◌, ◌-◌, ◌≤◌, ℤ, List, [], ◌∷◌, ◌++◌, take, drop, length, inl, inr, refl, sym, ap, ◌∙◌, arith, length-append, length-drop}
use Rattle.std.proofs.lemmas.Bool.{cases_Bool}
use Rattle.std.proofs.lemmas.List.{drop_all}
use Rattle.sci_base.specs.Fit.{int_eq}
use Rattle.sci_vcd.specs.declared.signal.Signal.{Signal}
use Rattle.sci_vcd.specs.declared.signal.Change.{Change}
use Rattle.sci_vcd.specs.Waveforms.{type_of}
use Rattle.sci_text.specs.Lines.{joined}
use Rattle.sci_vcd.specs.Spelling.{value_line, next_tick, change_lines}
use Rattle.sci_vcd.specs.Writing.{change_here, changes_at, changes_within, told_behind}
use Rattle.sci_text.proofs.Splits.{joined-append}
use Rattle.sci_vcd.proofs.Changed.{told_here, unchanged_here, changed_here, told_behind-append}
use Rattle.sci_vcd.proofs.Putting.{told_text}

-- ---- the tick that is told behind the changes at it

told_stays : (t n : ℕ) (vs ws : List ℤ) → told_behind t (changes_at t n vs ws) ≡ t
told_stays t n [] ws = refl
told_stays t n (x ∷ vs) [] = refl
told_stays t n (x ∷ vs) (y ∷ ws) =
    told_behind-append t (change_here t n x y) (changes_at t (n + 1) vs ws)
    ∙ (ap (λ (k : ℕ). told_behind k (changes_at t (n + 1) vs ws)) (told_here t n x y) ∙ told_stays t (n + 1) vs ws)

told_some : (told t n : ℕ) (vs ws : List ℤ) → (changes_at t n vs ws ≡ [] → ⊥) → told_behind told (changes_at t n vs ws) ≡ t
told_some told t n [] ws some = absurd (some refl)
told_some told t n (x ∷ vs) [] some = absurd (some refl)
told_some told t n (x ∷ vs) (y ∷ ws) some =
    elim (cases_Bool (int_eq x y)) [
      | inl e ↦ ap (λ (ds : List Change). told_behind told (ds ++ changes_at t (n + 1) vs ws)) (unchanged_here t n x y e)
          ∙ told_some told t (n + 1) vs ws (λ none. some (ap (λ (ds : List Change). ds ++ changes_at t (n + 1) vs ws) (unchanged_here t n x y e) ∙ none))
      | inr e ↦ ap (λ (ds : List Change). told_behind told (ds ++ changes_at t (n + 1) vs ws)) (changed_here t n x y e) ∙ told_stays t (n + 1) vs ws
    ]

-- ---- the line of the tick, but where it is told, and then those of the changes at it

tick_first : (gs : List Signal) (told t n : ℕ) (vs ws : List ℤ) → (changes_at t n vs ws ≡ [] → ⊥)
    → joined (change_lines gs told (changes_at t n vs ws)) ≡ joined (next_tick told t) ++ joined (change_lines gs t (changes_at t n vs ws))
tick_first gs told t n [] ws some = absurd (some refl)
tick_first gs told t n (x ∷ vs) [] some = absurd (some refl)
tick_first gs told t n (x ∷ vs) (y ∷ ws) some =
    elim (cases_Bool (int_eq x y)) [
      | inl e ↦ ap (λ (ds : List Change). joined (change_lines gs told (ds ++ changes_at t (n + 1) vs ws))) (unchanged_here t n x y e)
          ∙ (tick_first gs told t (n + 1) vs ws (λ none. some (ap (λ (ds : List Change). ds ++ changes_at t (n + 1) vs ws) (unchanged_here t n x y e) ∙ none))
          ∙ ap (λ (ds : List Change). joined (next_tick told t) ++ joined (change_lines gs t (ds ++ changes_at t (n + 1) vs ws))) (sym (unchanged_here t n x y e)))
      | inr e ↦ ap (λ (ds : List Change). joined (change_lines gs told (ds ++ changes_at t (n + 1) vs ws))) (changed_here t n x y e)
          ∙ (joined-append (next_tick told t) (value_line (type_of gs n) n y ∷ change_lines gs t (changes_at t (n + 1) vs ws))
          ∙ (ap (λ (l : List ℕ). joined (next_tick told t) ++ (l ++ joined (value_line (type_of gs n) n y ∷ change_lines gs t (changes_at t (n + 1) vs ws)))) (sym (told_text t t refl))
          ∙ (ap (λ (l : List ℕ). joined (next_tick told t) ++ l) (sym (joined-append (next_tick t t) (value_line (type_of gs n) n y ∷ change_lines gs t (changes_at t (n + 1) vs ws))))
          ∙ ap (λ (ds : List Change). joined (next_tick told t) ++ joined (change_lines gs t (ds ++ changes_at t (n + 1) vs ws))) (sym (changed_here t n x y e)))))
    ]

-- changes have lines
no_lines : (gs : List Signal) (told : ℕ) (cs : List Change) → joined (change_lines gs told cs) ≡ [] → cs ≡ []
no_lines gs told [] e = refl
no_lines gs told (c ∷ cs) e =
    let lines = sym (joined-append (next_tick told c.tick) (value_line (type_of gs c.signal) c.signal c.value ∷ change_lines gs c.tick cs)) ∙ e in
    absurd (omega (arith, simp length-append at (ap length lines)))

-- ---- a page

-- where nothing stands at the end of the text, nothing has changed
pub page_none : (gs : List Signal) (t a b at : ℕ) (vs ws : List ℤ) (text : List ℕ) → length text ≡ 1856 → at ≡ 1856 → drop at text ≡ joined (change_lines gs t (changes_within t a b vs ws))
    → changes_within t a b vs ws ≡ []
page_none gs t a b at vs ws text long end is = no_lines gs t (changes_within t a b vs ws) (sym is ∙ drop_all at text (omega (arith, long, end)))

page_some : (gs : List Signal) (t a b at : ℕ) (vs ws : List ℤ) (text : List ℕ) → length text ≡ 1856 → at ≤ 1856 → (at ≡ 1856 → ⊥)
    → drop at text ≡ joined (change_lines gs t (changes_within t a b vs ws)) → changes_within t a b vs ws ≡ [] → ⊥
page_some gs t a b at vs ws text long within more is none =
    let empty : drop at text ≡ [] = is ∙ ap (λ (cs : List Change). joined (change_lines gs t cs)) none in
    let size = ap length empty in
    let rest = length-drop at text in
    let end : at ≡ 1856 = omega (arith, size, rest, long, within) in more end

-- else the line of the tick comes first, but where it is told
pub page_piece : (gs : List Signal) (told t a b at : ℕ) (vs ws : List ℤ) (piece text : List ℕ) → length text ≡ 1856 → at ≤ 1856 → (at ≡ 1856 → ⊥)
    → drop at text ≡ joined (change_lines gs t (changes_within t a b vs ws)) → piece ≡ joined (next_tick told t) ++ drop at text
    → piece ≡ joined (change_lines gs told (changes_within t a b vs ws))
page_piece gs told t a b at vs ws piece text long within more is whole =
    let some = page_some gs t a b at vs ws text long within more is in
    whole ∙ (ap (λ (l : List ℕ). joined (next_tick told t) ++ l) is ∙ sym (tick_first gs told t (a + 1) (take (b - a) (drop a vs)) (take (b - a) (drop a ws)) some))

pub page_told : (gs : List Signal) (told t a b at : ℕ) (vs ws : List ℤ) (text : List ℕ) → length text ≡ 1856 → at ≤ 1856 → (at ≡ 1856 → ⊥)
    → drop at text ≡ joined (change_lines gs t (changes_within t a b vs ws)) → t ≡ told_behind told (changes_within t a b vs ws)
page_told gs told t a b at vs ws text long within more is =
    sym (told_some told t (a + 1) (take (b - a) (drop a vs)) (take (b - a) (drop a ws)) (page_some gs t a b at vs ws text long within more is))
