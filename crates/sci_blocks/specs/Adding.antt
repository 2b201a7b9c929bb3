-- What a walk that adds to a list says of what is still to come.
use Rattle.std.specs.Prelude.{List, ◌++◌, Ok}
use Rattle.sci_base.specs.Outcome.{Outcome, ◌>>=◌}

-- the list with what an outcome gives behind it
abbrev pub onto : {A : Type 0} → List A → Outcome (List A) → Outcome (List A)
onto xs o = o >>= λ ys. Ok (xs ++ ys)
