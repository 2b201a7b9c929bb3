-- What a buffer gives on when a piece comes, and what it holds then.
use Rattle.std.specs.Prelude.{ℕ, ◌+◌, ◌++◌, List, [], length, nat_le, if◌then◌else◌}

-- nothing where the piece fits behind the bytes, else the bytes, and with them a piece that is larger than the whole room
abbrev pub given_on : ℕ → List ℕ → List ℕ → List ℕ
given_on room bytes piece = if nat_le (length bytes + length piece) room then [] else if nat_le (length piece) room then bytes else bytes ++ piece

-- the bytes with the piece behind them where it fits there, else the piece alone, but nothing of a piece that is larger than the whole room
abbrev pub held_then : ℕ → List ℕ → List ℕ → List ℕ
held_then room bytes piece = if nat_le (length bytes + length piece) room then bytes ++ piece else if nat_le (length piece) room then piece else []
