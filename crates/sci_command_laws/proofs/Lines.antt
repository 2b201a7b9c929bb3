-- A trace has a line for each observation.
use Rattle.std.proofs.Common.{◌≡◌, ℕ, zero, suc, ◌+◌, ◌/◌, ◌%◌, ℤ, List, [], ◌∷◌, ◌++◌, length, Bool, true, false, if◌then◌else◌, refl, ◌∙◌, arith, ne_eqb}
use Rattle.std.specs.Prelude.{codes, decimal, nat_lt, pos, negsuc, ◌==◌}
use Rattle.std.specs.Fmt.{signed_decimal, digit_glyph, digits_onto, digits}
use Rattle.sci_base.specs.declared.observation.Obs.{Obs}
use Rattle.sci_base.specs.declared.observation.Obs.TheVariants.{Start, Event, Val, End, Stop}
use Rattle.sci_base.specs.declared.observation.EndWord.{EndWord}
use Rattle.sci_base.specs.declared.observation.EndWord.TheVariants.{Halt, Events, Empty, Until}
use Rattle.sci_base.specs.declared.observation.StopWord.{StopWord}
use Rattle.sci_base.specs.declared.observation.StopWord.TheVariants.{Overflow, Zero, Input, Conflict}
use Rattle.sci_trace.specs.Lines.{end_text, stop_text, numbers, place_of_stop, line, text}
use Rattle.sci_agree.specs.Lines.{is_line_feed, lines_of}
use Rattle.sci_agree.proofs.Lines.{lines-append}

-- ---- digits

glyph_clear : (small : Bool) (d : ℕ) → is_line_feed (if small then 48 + d else (if false then 55 + d else 87 + d)) ≡ false
glyph_clear true d = ne_eqb (48 + d) 10 (λ e. omega (arith, e))
glyph_clear false d = ne_eqb (87 + d) 10 (λ e. omega (arith, e))

no_more : (t : Bool) (n : ℕ) → t ≡ false → (if t then 1 else 0) + n ≡ n
no_more true n e = absurd (cc e)
no_more false n e = omega arith

glyph_lines : (d : ℕ) (acc : List ℕ) → lines_of (digit_glyph false d ∷ acc) ≡ lines_of acc
glyph_lines d acc = no_more (is_line_feed (digit_glyph false d)) (lines_of acc) (glyph_clear (nat_lt d 10) d)

onto_by : (last : Bool) (k n : ℕ) (acc : List ℕ) → ((m : ℕ) (more : List ℕ) → lines_of (digits_onto k 10 false m more) ≡ lines_of more)
    → lines_of (if last then digit_glyph false (n % 10) ∷ acc else digits_onto k 10 false (n / 10) (digit_glyph false (n % 10) ∷ acc)) ≡ lines_of acc
onto_by true k n acc rest = glyph_lines (n % 10) acc
onto_by false k n acc rest = rest (n / 10) (digit_glyph false (n % 10) ∷ acc) ∙ glyph_lines (n % 10) acc

onto_lines : (k n : ℕ) (acc : List ℕ) → lines_of (digits_onto k 10 false n acc) ≡ lines_of acc
onto_lines zero n acc = refl
onto_lines (suc k) n acc = onto_by (n / 10 == 0) k n acc (λ m more. onto_lines k m more)

decimal_lines : (n : ℕ) → lines_of (decimal n) ≡ 0
unfolding digits
decimal_lines n = onto_lines 64 n []

signed_lines : (z : ℤ) → lines_of (signed_decimal z) ≡ 0
signed_lines (pos n) = decimal_lines n
signed_lines (negsuc n) = no_more false (lines_of (decimal (suc n))) refl ∙ decimal_lines (suc n)

-- ---- observations

-- behind a text without an end of a line
behind : (a b : List ℕ) → lines_of a ≡ 0 → lines_of b ≡ 1 → lines_of (a ++ b) ≡ 1
behind a b none one = let all = lines-append a b in omega (arith, all, none, one)

numbers_lines : (ns : List ℤ) → lines_of (numbers ns) ≡ 1
numbers_lines [] = refl
numbers_lines (n ∷ ns) = behind (codes " ") (signed_decimal n ++ numbers ns) refl (behind (signed_decimal n) (numbers ns) (signed_lines n) (numbers_lines ns))

end_lines : (word : EndWord) → lines_of (end_text word) ≡ 0
end_lines Halt = refl
end_lines Events = refl
end_lines Empty = refl
end_lines Until = refl

stop_lines : (word : StopWord) → lines_of (stop_text word) ≡ 0
stop_lines Overflow = refl
stop_lines Zero = refl
stop_lines Input = refl
stop_lines Conflict = refl

line_lines : (o : Obs) → lines_of (line o) ≡ 1
unfolding line
line_lines Start = behind (codes "start") (numbers []) refl (numbers_lines [])
line_lines (Event date block port) = behind (codes "event") (numbers (date ∷ block ∷ port ∷ [])) refl (numbers_lines (date ∷ block ∷ port ∷ []))
line_lines (Val block port element value) =
    behind (codes "val") (numbers (block ∷ port ∷ element ∷ value ∷ [])) refl (numbers_lines (block ∷ port ∷ element ∷ value ∷ []))
line_lines (End word) = behind (codes "end ") (end_text word ++ numbers []) refl (behind (end_text word) (numbers []) (end_lines word) (numbers_lines []))
line_lines (Stop word block port) =
    let place = place_of_stop word block port in
    behind (codes "stop ") (stop_text word ++ numbers place) refl (behind (stop_text word) (numbers place) (stop_lines word) (numbers_lines place))

pub text_lines : (os : List Obs) → lines_of (text os) ≡ length os
text_lines [] = refl
text_lines (o ∷ os) =
    let all = lines-append (line o) (text os) in
    let one = line_lines o in
    let rest = text_lines os in
    omega (arith, all, one, rest)
