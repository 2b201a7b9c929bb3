use Rattle.std.proofs.Common.{◌+◌, ◌≤◌, vec_len}
use Rattle.std.specs.Io.KnownBytes.{Consumes}
use Rattle.sci_io.proofs.transfer.read_front.Given as goal

-- the bytes are what the reader lost, and each turn took one at least
abbrev pub invariant-loop-turn : goal.invariant-loop-turn
invariant-loop-turn g l = (vec_len l.bytes ≤ l.limit + 1) × (l._turn ≤ vec_len l.bytes) × Consumes (g.R.Read.remaining l.fn.reader) (g.R.Read.remaining l.reader) l.bytes.items
