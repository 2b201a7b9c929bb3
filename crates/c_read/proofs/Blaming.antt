-- What is blamed is one of the events.
use Rattle.std.proofs.Common.{◌≡◌, ℕ, ◌+◌, ◌<◌, List, [], ◌∷◌, length, get_or, inr, Option, Some, None, Bool, false, cond, refl, sym, ap, ◌∙◌, arith}
use Rattle.std.specs.Prelude.{min, nat_lt}
use Rattle.std.proofs.lemmas.List.{get_or_default}
use Rattle.c_ast.specs.declared.Name.{Name}
use Rattle.c_ast.specs.declared.events.TextEvent.{TextEvent}
use Rattle.c_ast.specs.declared.events.TextEvent.TheVariants as events
use Rattle.c_ast.specs.Rules.{Scope, outset, too_deep, closing, is_last, blamed_at, behind, earlier, first_blamed, blamed_event}
use Rattle.c_ast.specs.Events.{program_events}
use Rattle.c_ast.specs.Syntax.{Whole}
use Rattle.c_parse.specs.Blame.{Spells}
use Rattle.sci_text.proofs.Parts.{guarded, some_is}
use Rattle.c_read.specs.Names.{program_places}
use Rattle.c_read.specs.Answers.{place_of, IsRefused}
use Rattle.c_read.proofs.Standing.{places_length}

-- the open function began before event i
abbrev Began : ℕ → Option (Name × ℕ) → Type 0
Began i None = Unit {0}
Began i (Some f) = f.1 < i

began_later : (i : ℕ) (o : Option (Name × ℕ)) → Began i o → Began (i + 1) o
began_later i None b = tt
began_later i (Some f) b = omega arith

began_behind : (i : ℕ) (s : Scope) (e : TextEvent) → Began i s.owner → Began (i + 1) (behind i s e).owner
began_behind i s (events.Declare x size) b = began_later i s.owner b
began_behind i s (events.Function f) b = omega arith
began_behind i s events.Main b = tt
began_behind i s (events.Read x k) b = began_later i s.owner b
began_behind i s (events.Assign x k) b = began_later i s.owner b
began_behind i s (events.Loop x n) b = began_later i s.owner b
began_behind i s (events.Call f) b = began_later i s.owner b
began_behind i s events.If b = began_later i s.owner b
began_behind i s events.Close b = began_later i s.owner b

here : (t : Bool) (i k : ℕ) → cond t (Some i) None ≡ Some k → k < i + 1
here t i k e = let g = guarded t (Some i) k e in let is : i ≡ k = some_is g.1 in omega arith

deep_before : (i k : ℕ) (s : Scope) (o : Option (Name × ℕ)) → Began i o → too_deep s o ≡ Some k → k < i + 1
deep_before i k s None b e = absurd cc
deep_before i k s (Some f) b e = let g = guarded (nat_lt 64 s.depth) (Some f.1) k e in let is : f.1 ≡ k = some_is g.1 in omega arith

closing_before : (i k : ℕ) (s : Scope) → Began i s.owner → closing s ≡ Some k → k < i + 1
closing_before i k s b e = deep_before i k s s.owner b (guarded (is_last s.blocks) (too_deep s s.owner) k e).1

blamed_before : (i k : ℕ) (s : Scope) (e : TextEvent) → Began i s.owner → blamed_at i s e ≡ Some k → k < i + 1
blamed_before i k s (events.Declare x size) b e = here _ i k e
blamed_before i k s (events.Function f) b e = here _ i k e
blamed_before i k s events.Main b e = here false i k e
blamed_before i k s (events.Read x q) b e = here _ i k e
blamed_before i k s (events.Assign x q) b e = here _ i k e
blamed_before i k s (events.Loop x n) b e = here _ i k e
blamed_before i k s (events.Call f) b e = here _ i k e
blamed_before i k s events.If b e = here false i k e
blamed_before i k s events.Close b e = closing_before i k s b e

earlier_below : (a b : Option ℕ) (k m : ℕ) → ((x : ℕ) → a ≡ Some x → x < m) → ((x : ℕ) → b ≡ Some x → x < m) → earlier a b ≡ Some k → k < m
earlier_below None b k m f g e = g k e
earlier_below (Some i) None k m f g e = f k e
earlier_below (Some i) (Some j) k m f g e = let is : min i j ≡ k = some_is e in let p = f i refl in let q = g j refl in omega arith

first_within : (es : List TextEvent) (i k : ℕ) (s : Scope) → Began i s.owner → first_blamed i s es ≡ Some k → k < i + length es
first_within [] i k s b e = absurd cc
first_within (v ∷ es) i k s b e =
    earlier_below (blamed_at i s v) (first_blamed (i + 1) (behind i s v) es) k (i + length (v ∷ es))
    (λ x h. let below = blamed_before i x s v b h in omega arith)
    (λ x h. let below = first_within es (i + 1) x (behind i s v) (began_behind i s v b) h in omega arith) e

blamed_within : (es : List TextEvent) (k : ℕ) → blamed_event es ≡ Some k → k < length es
blamed_within es k e = let within = first_within es 0 k outset tt e in omega arith

-- the blamed event has a place
pub place_within : (p : Whole) (places : List ℕ) (k : ℕ) → places ≡ program_places p → blamed_event (program_events p) ≡ Some k → k < length places
place_within p places k e b =
    let l = ap length e ∙ places_length p in
    let within = blamed_within (program_events p) k b in
    omega arith

pub unruly : (bytes : List ℕ) (p : Whole) (places : List ℕ) (k n : ℕ) → Spells bytes p → places ≡ program_places p → blamed_event (program_events p) ≡ Some k → n ≡ get_or places k n → IsRefused bytes n
unruly bytes p places k n s e b is =
    let within = place_within p places k e b in
    let same : get_or places k n ≡ get_or places k 0 = get_or_default places k n 0 within in
    inr (record { program = p; spells = s; blamed = ap (place_of p) b ∙ ap Some (sym (is ∙ same ∙ ap (λ (l : List ℕ). get_or l k 0) e)) })
