use Rattle.std.proofs.Common.{◌≡◌, ◌==◌, take}
use Rattle.std.specs.List.{filter}
use Rattle.sci_judge.specs.Rounds.{count_at}
use Rattle.sci_judge.proofs.rounds.first_round.Given as goal

abbrev pub invariant-loop-member : goal.invariant-loop-member
invariant-loop-member l = l.first.items ≡ filter (λ b. count_at l.counts b == 0) (take l.member-index l.members)
