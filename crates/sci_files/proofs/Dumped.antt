-- Which line of a dump can be blamed.
use Rattle.std.proofs.Common.{◌≤◌, ◌+◌, ℕ, List, [], ◌∷◌, length, codes, ap, arith}
use Rattle.std.proofs.lemmas.List.{length-append}
use Rattle.sci_text.specs.Lines.{with_lf, joined}
use Rattle.sci_vcd.specs.Blame.{IsFirstWrong}

pub joined_long : (ls : List (List ℕ)) → length ls ≤ length (joined ls)
joined_long [] = omega arith
joined_long (l ∷ ls) =
    let more = joined_long ls in
    let whole = length-append (with_lf l) (joined ls) in
    let first = length-append l (codes "\n") in
    omega (arith, more, whole, first)

-- a blamed line is one of the text, or stands behind its end
pub line_within : (bytes : List ℕ) (k : ℕ) → IsFirstWrong bytes k → k ≤ length bytes + 1
line_within bytes k h =
    let before = joined_long h.before in
    let whole = length-append (joined h.before) h.rest in
    omega (arith, before, whole, ap length h.split, h.number)
