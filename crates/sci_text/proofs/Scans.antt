-- What the loops over text find.
use Rattle.std.proofs.Common.{◌≡◌, ℕ, ◌+◌, ◌*◌, ◌-◌, ◌<◌, ◌≤◌, List, [], ◌∷◌, ◌++◌, length, get_or, take, drop, Option, Some, None, true, false, refl, sym, ap, ◌∙◌, arith, append_assoc}
use Rattle.std.specs.Prelude.{MatchOption}
use Rattle.std.specs.Option.{option_map}
use Rattle.std.specs.Char.{is_ascii_digit}
use Rattle.std.proofs.lemmas.Bool.{cond-true, cond-false}
use Rattle.std.proofs.lemmas.List.{take_more, drop_more}
use denote.Bor.{Bor}
use Rattle.sci_text.specs.Reading.{after}
use Rattle.sci_text.specs.Numbers.{digits_front, digits_rest, read_on}
use Rattle.sci_text.proofs.Parts.{after_takes, after_again}

none_after : (text bytes : List ℕ) (o : Option (List ℕ)) → after text bytes ≡ o → ((rest : List ℕ) → bytes ≡ text ++ rest → ⊥) → None ≡ after text bytes
none_after text bytes None e h = sym e
none_after text bytes (Some r) e h = absurd (h r (after_takes text bytes r e))

pub stripped : (text bytes : List ℕ) (r : Option (Bor (List ℕ))) → MatchOption r ((rest : List ℕ) → bytes ≡ text ++ rest → ⊥) (λ x. bytes ≡ text ++ x.now) → option_map (λ (x : Bor (List ℕ)). x.now) r ≡ after text bytes
stripped text bytes None h = none_after text bytes (after text bytes) refl h
stripped text bytes (Some x) h = sym (ap (after text) h ∙ after_again text x.now)

-- The digits up to i, and what is left from there.
pub record Scanned (bytes : List ℕ) (i : ℕ) : Type 0 where
  pub within : i ≤ length bytes
  pub front : digits_front bytes ≡ take i bytes ++ digits_front (drop i bytes)
  pub rest : digits_rest bytes ≡ digits_rest (drop i bytes)

pub scanned_more : (bytes : List ℕ) (i : ℕ) → i < length bytes → is_ascii_digit (get_or bytes i 0) ≡ true → Scanned bytes i → Scanned bytes (i + 1)
scanned_more bytes i h d s =
    let c = get_or bytes i 0 in
    let e = drop_more bytes i 0 h in
    record {
      within = omega arith;
      front = s.front ∙ ap (λ l. take i bytes ++ digits_front l) e ∙ ap (λ l. take i bytes ++ l) (cond-true (is_ascii_digit c) (c ∷ digits_front (drop (i + 1) bytes)) [] d) ∙ sym (append_assoc (take i bytes) (c ∷ []) (digits_front (drop (i + 1) bytes))) ∙ ap (λ l. l ++ digits_front (drop (i + 1) bytes)) (sym (take_more bytes i 0 h));
      rest = s.rest ∙ ap digits_rest e ∙ cond-true (is_ascii_digit c) (digits_rest (drop (i + 1) bytes)) (c ∷ drop (i + 1) bytes) d;
    }

-- no digit stands at i
abbrev pub Stops : List ℕ → ℕ → Type 0
Stops bytes i = i < length bytes → is_ascii_digit (get_or bytes i 0) ≡ false

ends_there : (l : List ℕ) → Stops l 0 → (digits_front l ≡ []) × (digits_rest l ≡ l)
ends_there [] s = (refl, refl)
ends_there (c ∷ cs) s = let h : 0 < length (c ∷ cs) = omega arith in let f = s h in (cond-false (is_ascii_digit c) _ _ f, cond-false (is_ascii_digit c) _ _ f)

-- over one loop's turns
pub read_step : (ds : List ℕ) (i n : ℕ) → i < length ds → read_on n (drop i ds) ≡ read_on (10 * n + (get_or ds i 0 - 48)) (drop (i + 1) ds)
read_step ds i n h = ap (read_on n) (drop_more ds i 0 h)

-- reading on never makes less of it
pub read_on_le : (ds : List ℕ) (n : ℕ) → n ≤ read_on n ds
read_on_le [] n = omega arith
read_on_le (c ∷ cs) n = omega (arith, read_on_le cs (10 * n + (c - 48)))
