-- Texts without a LF in them.
use Rattle.std.proofs.Common.{◌≡◌, ℕ, ◌^◌, ◌<◌, List, [], ◌∷◌, ◌++◌, Bool, true, false, refl, ap, ◌∙◌}
use Rattle.std.specs.Prelude.{nat_eq, ◌||◌, decimal}
use Rattle.std.specs.Char.{is_ascii_digit}
use Rattle.std.specs.Str.{all_ascii_digits}
use Rattle.std.proofs.lemmas.Bool.{and_parts, ne_eqb}
use Rattle.std.proofs.lemmas.List.Folds.{list_any-append}
use Rattle.std.proofs.lemmas.Fmt.{digits_decimal}
use Rattle.sci_text.specs.Lines.{has_lf}
use Rattle.sci_text.proofs.Numbers.{own}

pub both_clear : (a b : List ℕ) → has_lf a ≡ false → has_lf b ≡ false → has_lf (a ++ b) ≡ false
both_clear a b e f = list_any-append (nat_eq 10) a b ∙ ap (λ (x : Bool). x || has_lf b) e ∙ f

-- between two texts without a LF
pub around : (a t b : List ℕ) → has_lf a ≡ false → has_lf t ≡ false → has_lf b ≡ false → has_lf (a ++ (t ++ b)) ≡ false
around a t b e f g = both_clear a (t ++ b) e (both_clear t b f g)

digit_clear : (c : ℕ) → is_ascii_digit c ≡ true → nat_eq 10 c ≡ false
digit_clear c e = ne_eqb 10 c (λ h. let k : is_ascii_digit 10 ≡ true = ap is_ascii_digit h ∙ e in absurd (wrong k))
  where
    wrong : is_ascii_digit 10 ≡ true → ⊥
    wrong k = cc

pub digits_clear : (ds : List ℕ) → all_ascii_digits ds ≡ true → has_lf ds ≡ false
digits_clear [] e = refl
digits_clear (c ∷ ds) e =
    let p = and_parts (is_ascii_digit c) (all_ascii_digits ds) e in
    ap (λ (x : Bool). x || has_lf ds) (digit_clear c p.0) ∙ digits_clear ds p.1

pub decimal_clear : (n : ℕ) → n < 2 ^ 64 → has_lf (decimal n) ≡ false
decimal_clear n h = digits_clear (decimal n) (digits_decimal own n h)
