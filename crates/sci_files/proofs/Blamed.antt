-- A blamed byte is one of the text, or stands behind its end.
use Rattle.std.proofs.Common.{◌≡◌, ◌≤◌, ◌+◌, ℕ, zero, suc, List, [], ◌∷◌, length, get_or, inl, inr, ap, arith, Some, None}
use Rattle.std.proofs.lemmas.List.{length-append}
use Rattle.std.specs.Prelude.{Option}
use Rattle.sci_net.specs.Parts.{Parts}
use Rattle.sci_reaction.specs.Memory.{Columns}
use Rattle.sci_text.specs.Lines.{joined}
use Rattle.sci_save.specs.Blame.{IsBlamed}
use Rattle.sci_files.proofs.Dumped.{joined_long}
use Rattle.c_ast.specs.Syntax.{Whole}
use Rattle.c_ast.specs.Spelling.{spelling}
use Rattle.c_ast.specs.Events.{program_events}
use Rattle.c_ast.specs.Rules.{blamed_event}
use Rattle.c_read.specs.Names.{program_places, Rise}
use Rattle.c_read.specs.Answers.{place_of, IsRefused}
use Rattle.c_read.proofs.Rising.{program_rises}

rise_order : (low : ℕ) (ps : List ℕ) (high : ℕ) → Rise low ps high → low ≤ high
rise_order low [] high h = h
rise_order low (n ∷ ns) high h = let r = rise_order (n + 1) ns high h.1 in omega (arith, h.0, r)

rise_below : (low : ℕ) (ps : List ℕ) (high i : ℕ) → Rise low ps high → get_or ps i 0 ≤ high
rise_below low [] high i h = omega arith
rise_below low (n ∷ ns) high zero h = let r = rise_order (n + 1) ns high h.1 in omega (arith, r)
rise_below low (n ∷ ns) high (suc i) h = rise_below (n + 1) ns high i h.1

place_within : (p : Whole) (o : Option ℕ) (n : ℕ) → place_of p o ≡ Some n → n ≤ length (spelling p)
place_within p None n e = absurd (cc e)
place_within p (Some i) n e =
    let is : get_or (program_places p) i 0 ≡ n = cc e in
    let r = rise_below 0 (program_places p) (length (spelling p)) i (program_rises p) in
    omega (arith, is, r)

pub blamed_within : (bytes : List ℕ) (n : ℕ) → IsRefused bytes n → n ≤ length bytes
blamed_within bytes n (inl u) = u.within
blamed_within bytes n (inr u) =
    let r = place_within u.program (blamed_event (program_events u.program)) n u.blamed in
    let e = ap length u.spells.1 in
    omega (arith, r, e)

-- a blamed line of what was saved is one of the text, or stands behind its end
pub line_within : (n : Parts) (i : Columns) (bytes : List ℕ) (k : ℕ) → IsBlamed n i bytes k → k ≤ length bytes + 1
line_within n i bytes k h =
    let all = ap length h.split in
    let both = length-append (joined h.before) h.rest in
    let lines = joined_long h.before in
    omega (arith, h.number, all, both, lines)
