use Rattle.std.proofs.Common.{◌≡◌, None}
use Rattle.sci_ranges_pass.specs.Told.{first_of, kept_at}
use Rattle.sci_ranges_sums.proofs.leaking.kept_by.Given as goal

abbrev pub invariant-loop-k : goal.invariant-loop-k
invariant-loop-k l = first_of (kept_at l.net l.block l.shift) l.k ≡ None
