-- Numbers spelled three digits at once.
use Rattle.std.proofs.Common.{◌≡◌, ℕ, ◌+◌, ◌/◌, ◌%◌, ◌^◌, ◌<◌, ◌≤◌, List, [], ◌∷◌, ◌++◌, ap, sym, ◌∙◌, append_assoc, arith}
use Rattle.std.specs.Fmt.{decimal}
use Rattle.std.proofs.lemmas.Fmt.{decimal_step}
use Rattle.sci_lines.specs.Threes.{three_digits}

-- a number is what stands before its last three digits, and these
pub thousand : (n : ℕ) → 1000 ≤ n → n < 2 ^ 64 → decimal n ≡ decimal (n / 1000) ++ three_digits (n % 1000)
thousand n low high =
    let first : decimal n ≡ decimal (n / 10) ++ (48 + n % 10) ∷ [] = decimal_step n (omega arith) high in
    let second : decimal (n / 10) ≡ decimal (n / 10 / 10) ++ (48 + n / 10 % 10) ∷ [] = decimal_step (n / 10) (omega arith) (omega arith) in
    let third : decimal (n / 10 / 10) ≡ decimal (n / 10 / 10 / 10) ++ (48 + n / 10 / 10 % 10) ∷ [] = decimal_step (n / 10 / 10) (omega arith) (omega arith) in
    let top : n / 10 / 10 / 10 ≡ n / 1000 = omega arith in
    let a : n / 10 / 10 % 10 ≡ n % 1000 / 100 = omega arith in
    let b : n / 10 % 10 ≡ n % 1000 / 10 % 10 = omega arith in
    let c : n % 10 ≡ n % 1000 % 10 = omega arith in
    let split : decimal n ≡ ((decimal (n / 10 / 10 / 10) ++ (48 + n / 10 / 10 % 10) ∷ []) ++ (48 + n / 10 % 10) ∷ []) ++ (48 + n % 10) ∷ [] =
    first ∙ ap (λ (l : List ℕ). l ++ (48 + n % 10) ∷ []) (second ∙ ap (λ (l : List ℕ). l ++ (48 + n / 10 % 10) ∷ []) third) in
    split
    ∙ (append_assoc (decimal (n / 10 / 10 / 10) ++ (48 + n / 10 / 10 % 10) ∷ []) ((48 + n / 10 % 10) ∷ []) ((48 + n % 10) ∷ [])
    ∙ (append_assoc (decimal (n / 10 / 10 / 10)) ((48 + n / 10 / 10 % 10) ∷ []) ((48 + n / 10 % 10) ∷ (48 + n % 10) ∷ [])
    ∙ (ap (λ (d : ℕ). decimal d ++ ((48 + n / 10 / 10 % 10) ∷ (48 + n / 10 % 10) ∷ (48 + n % 10) ∷ [])) top
    ∙ (ap (λ (d : ℕ). decimal (n / 1000) ++ ((48 + d) ∷ (48 + n / 10 % 10) ∷ (48 + n % 10) ∷ [])) a
    ∙ (ap (λ (d : ℕ). decimal (n / 1000) ++ ((48 + n % 1000 / 100) ∷ (48 + d) ∷ (48 + n % 10) ∷ [])) b
    ∙ ap (λ (d : ℕ). decimal (n / 1000) ++ ((48 + n % 1000 / 100) ∷ (48 + n % 1000 / 10 % 10) ∷ (48 + d) ∷ [])) c)))))

-- what stands before the last three digits, and then these
pub two_pieces : (n : ℕ) (before first whole : List ℕ) → 1000 ≤ n → n < 2 ^ 64 → first ≡ before ++ decimal (n / 1000) → whole ≡ first ++ three_digits (n % 1000)
    → whole ≡ before ++ decimal n
two_pieces n before first whole low high front last =
    last
    ∙ (ap (λ (l : List ℕ). l ++ three_digits (n % 1000)) front
    ∙ (append_assoc before (decimal (n / 1000)) (three_digits (n % 1000)) ∙ ap (λ (l : List ℕ). before ++ l) (sym (thousand n low high))))

-- the same twice
pub three_pieces : (n : ℕ) (before first second whole : List ℕ) → 1000000 ≤ n → n < 2 ^ 64 → first ≡ before ++ decimal (n / 1000000)
    → second ≡ first ++ three_digits (n / 1000 % 1000) → whole ≡ second ++ three_digits (n % 1000) → whole ≡ before ++ decimal n
three_pieces n before first second whole low high front middle last =
    let top : n / 1000000 ≡ n / 1000 / 1000 = omega arith in
    two_pieces n before second whole (omega (arith, low)) high
    (two_pieces (n / 1000) before first second (omega (arith, low)) (omega (arith, high)) (front ∙ ap (λ (k : ℕ). before ++ decimal k) top) middle) last

-- and three times
pub four_pieces : (n : ℕ) (before first second third whole : List ℕ) → 1000000000 ≤ n → n < 2 ^ 64 → first ≡ before ++ decimal (n / 1000000000)
    → second ≡ first ++ three_digits (n / 1000000 % 1000) → third ≡ second ++ three_digits (n / 1000 % 1000) → whole ≡ third ++ three_digits (n % 1000)
    → whole ≡ before ++ decimal n
four_pieces n before first second third whole low high front next middle last =
    let top : n / 1000000000 ≡ n / 1000 / 1000000 = omega arith in
    let upper : n / 1000000 % 1000 ≡ n / 1000 / 1000 % 1000 = omega arith in
    two_pieces n before third whole (omega (arith, low)) high
    (three_pieces (n / 1000) before first second third (omega (arith, low)) (omega (arith, high)) (front ∙ ap (λ (k : ℕ). before ++ decimal k) top)
    (next ∙ ap (λ (k : ℕ). first ++ three_digits k) upper) middle) last
