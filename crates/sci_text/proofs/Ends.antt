-- Where the first line of a text ends.
use Rattle.std.proofs.Common.{◌≡◌, ℕ, zero, suc, ◌+◌, ◌-◌, ◌<◌, ◌≤◌, List, [], ◌∷◌, ◌++◌, length, get_or, take, drop, Option, Some, None, Bool, false, ◌⊎◌, inl, inr, refl, sym, ap, ◌∙◌, arith, append_assoc}
use Rattle.std.specs.Prelude.{nat_eq, ◌||◌, codes}
use Rattle.std.specs.List.{position, position_or_len}
use Rattle.std.proofs.lemmas.Bool.{eqb-true, eqb-false, ne_eqb, cases_lt, lt-ltb, cond-true}
use Rattle.std.proofs.lemmas.List.{take-append-drop, drop_more, length-drop}
use Rattle.std.proofs.lemmas.List.Quantifiers.{position-Some}
use Rattle.std.proofs.lemmas.List.Sums.{fails_before_first}
use Rattle.std.proofs.Math.Seq.{take-length}
use Rattle.sci_text.specs.Lines.{is_lf, has_lf, with_lf}

pub line_within : (bytes : List ℕ) (i : ℕ) → position is_lf bytes ≡ Some i → i < length bytes
line_within bytes i e = (position-Some is_lf bytes i 0 e).0

no_lf : (c : ℕ) → is_lf c ≡ false → nat_eq 10 c ≡ false
no_lf c e = ne_eqb 10 c (λ h. eqb-false c 10 e (sym h))

clear_front : (bytes : List ℕ) (n : ℕ) → n ≤ length bytes → ((k : ℕ) → k < n → is_lf (get_or bytes k 0) ≡ false) → has_lf (take n bytes) ≡ false
clear_front bytes zero h f = refl
clear_front [] (suc n) h f = refl
clear_front (c ∷ bytes) (suc n) h f =
    let some : 0 < suc n = omega arith in
    let here : nat_eq 10 c ≡ false = no_lf c (f 0 some) in
    ap (λ (b : Bool). b || has_lf (take n bytes)) here ∙ clear_front bytes n (omega arith) (λ k less. let more : suc k < suc n = omega arith in f (suc k) more)

pub line_clear : (bytes : List ℕ) (i : ℕ) → position is_lf bytes ≡ Some i → has_lf (take i bytes) ≡ false
line_clear bytes i e = let p = position-Some is_lf bytes i 0 e in let within = p.0 in clear_front bytes i (omega arith) p.2

rest_all : (bytes : List ℕ) (k : ℕ) → drop k bytes ≡ take (length bytes - k) (drop k bytes)
rest_all bytes k = sym (ap (λ (n : ℕ). take n (drop k bytes)) (sym (length-drop k bytes)) ∙ take-length (drop k bytes))

pub line_split : (bytes : List ℕ) (i : ℕ) → position is_lf bytes ≡ Some i → bytes ≡ with_lf (take i bytes) ++ take (length bytes - (i + 1)) (drop (i + 1) bytes)
line_split bytes i e =
    let p = position-Some is_lf bytes i 0 e in
    let lf : get_or bytes i 0 ≡ 10 = eqb-true (get_or bytes i 0) 10 p.1 in
    sym (take-append-drop i bytes) ∙ ap (λ (l : List ℕ). take i bytes ++ l) (drop_more bytes i 0 p.0 ∙ ap (λ (c : ℕ). c ∷ drop (i + 1) bytes) lf) ∙ sym (append_assoc (take i bytes) (codes "\n") (drop (i + 1) bytes)) ∙ ap (λ (l : List ℕ). with_lf (take i bytes) ++ l) (rest_all bytes (i + 1))

none_some : {A : Type 0} (o : Option A) (x : A) → o ≡ None → o ≡ Some x → ⊥
none_some o x e f = cc

none_clear : (bytes : List ℕ) → position is_lf bytes ≡ None → (position_or_len is_lf bytes < length bytes) ⊎ (length bytes ≤ position_or_len is_lf bytes) → has_lf bytes ≡ false
none_clear bytes e (inl h) = absurd (none_some (position is_lf bytes) (position_or_len is_lf bytes) e (cond-true _ _ _ (lt-ltb (position_or_len is_lf bytes) (length bytes) h)))
none_clear bytes e (inr h) = ap has_lf (sym (take-length bytes)) ∙ clear_front bytes (length bytes) (omega arith) (λ k less. fails_before_first is_lf bytes k 0 (omega arith))

pub no_line : (bytes : List ℕ) → position is_lf bytes ≡ None → has_lf bytes ≡ false
no_line bytes e = none_clear bytes e (cases_lt (position_or_len is_lf bytes) (length bytes))
