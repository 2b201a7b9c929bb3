-- The lines of a text.
use Rattle.std.specs.Prelude.{◌≡◌, ℕ, List, [], ◌∷◌, ◌++◌, codes, Option, Some, Bool, false, nat_eq}
use Rattle.std.specs.List.{list_any, flat_map}
use Rattle.sci_text.specs.Reading.{◌>>=◌}

abbrev pub is_lf : ℕ → Bool
is_lf c = nat_eq c 10

abbrev pub has_lf : List ℕ → Bool
has_lf bytes = list_any (nat_eq 10) bytes

-- a line, with its LF
abbrev pub with_lf : List ℕ → List ℕ
with_lf line = line ++ codes "\n"

-- lines with their LFs
abbrev pub joined : List (List ℕ) → List ℕ
joined lines = flat_map with_lf lines

-- lines without a LF in them
abbrev pub AllClear : List (List ℕ) → Type 0
AllClear [] = Unit {0}
AllClear (line ∷ lines) = (has_lf line ≡ false) × AllClear lines

-- where lines lead from a state, of which each line goes on from what those before it led to
abbrev pub through : {S : Type 0} → (List ℕ → S → Option S) → List (List ℕ) → S → Option S
through pass [] s = Some s
through pass (line ∷ lines) s = pass line s >>= through pass lines
