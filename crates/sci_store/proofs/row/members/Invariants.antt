use Rattle.std.proofs.Common.{◌≡◌, map, take}
use Rattle.sci_store.proofs.Membering.{member_of}
use Rattle.sci_store.proofs.row.members.Given as goal

-- the blocks of the entries so far
abbrev pub invariant-loop-entry : goal.invariant-loop-entry
invariant-loop-entry l = l.members.items ≡ map member_of (take l.entry-index l.entries)
