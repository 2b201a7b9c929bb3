use Rattle.std.proofs.Common.{◌≡◌, ℕ, ◌<◌, length, get_or, vec_len}
use Rattle.sci_judge.specs.Rounds.{count_at, needs_at}
use Rattle.sci_judge.proofs.rounds.open_counts.Given as goal

abbrev pub invariant-loop-at : goal.invariant-loop-at
invariant-loop-at l = record {
  len : vec_len l.counts ≡ l.count;
  counts : (i : ℕ) → i < l.at → count_at l.counts.items (get_or l.table.members.items i 0) ≡ length (needs_at l.table i);
}
