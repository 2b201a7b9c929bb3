-- Texts that are written in two steps, or piece by piece.
use Rattle.std.proofs.Common.{◌≡◌, ◌<◌, ◌≤◌, ◌+◌, ◌-◌, ℕ, ℤ, List, [], ◌∷◌, ◌++◌, drop, take, get_or, length, decimal, sym, ◌∙◌, ap, add-one, arith, codes, refl}
use Rattle.std.proofs.lemmas.List.{take_rest}
use Rattle.std.proofs.Math.Seq.{drop-cons}
use Rattle.sci_print.specs.Line.{place_text, step_text, steps_text, detail_text, details_text}
use Rattle.sci_print.specs.Numbers.{spaced, all_spaced}

pub details-drop : (ns : List ℤ) (i : ℕ) (d : ℤ) → i < length ns → details_text (drop i ns) ≡ detail_text (get_or ns i d) ++ details_text (drop (i + 1) ns)
details-drop ns i d h = ap details_text (drop-cons ns i d h) ∙ ap (λ (n : ℕ). detail_text (get_or ns i d) ++ details_text (drop n ns)) (sym (add-one i))

pub steps-drop : (ns : List ℕ) (i d : ℕ) → i < length ns → steps_text (drop i ns) ≡ step_text (get_or ns i d) ++ steps_text (drop (i + 1) ns)
steps-drop ns i d h = ap steps_text (drop-cons ns i d h) ∙ ap (λ (n : ℕ). step_text (get_or ns i d) ++ steps_text (drop n ns)) (sym (add-one i))

pub numbers-drop : (ns : List ℕ) (i d : ℕ) → i < length ns → all_spaced (drop i ns) ≡ spaced (get_or ns i d) ++ all_spaced (drop (i + 1) ns)
numbers-drop ns i d h = ap all_spaced (drop-cons ns i d h) ∙ ap (λ (n : ℕ). spaced (get_or ns i d) ++ all_spaced (drop n ns)) (sym (add-one i))

pub place-parts : (path : List ℕ) → 1 ≤ length path → decimal (get_or path 0 0) ++ steps_text (take (length path - 1) (drop 1 path)) ≡ place_text path
place-parts [] h = absurd (omega (arith, h))
place-parts (p ∷ ps) h = ap (λ (l : List ℕ). decimal p ++ steps_text l) (take_rest (p ∷ ps) 1)

pub place-empty : (path : List ℕ) → length path < 1 → codes "-" ≡ place_text path
place-empty [] h = refl
place-empty (p ∷ ps) h = absurd (omega (arith, h))
