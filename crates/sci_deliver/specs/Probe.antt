-- A sink that fails at each piece, and tells the first byte of the first one.
use Rattle.std.specs.Prelude.{ℕ, [], ◌∷◌, Option, Some, None, Bool}
use Rattle.sci_io.specs.Causes.{counted}
use Rattle.sci_io.specs.Taken.{SinkState, direct}

-- it took nothing and did not fail; or it took this byte, and failed at the first piece and at so many more
abbrev pub probe_state : Option ℕ → (more : ℕ) → Bool → SinkState
probe_state None more failing = direct (Some []) 0 failing
probe_state (Some first) more failing = direct (Some (first ∷ [])) (counted more) failing
