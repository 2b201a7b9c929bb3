use Rattle.std.proofs.Common.{◌≡◌, All, map, take}
use Rattle.sci_net.specs.Sources.{source_of}
use Rattle.sci_reaction.specs.Schedule.{blocks_of}
use Rattle.sci_rounds.specs.Rounds.{TellsActivation}
use Rattle.sci_reaction.specs.Kept.{entries_of}
use Rattle.sci_judge.specs.Rounds.{ranked}
use Rattle.sci_judge.proofs.rows.entries.Given as goal

abbrev pub invariant-loop-rank : goal.invariant-loop-rank
invariant-loop-rank l = record {
  blocks : blocks_of (entries_of l.entries.items) ≡ ranked (take l.rank-index l.ranks);
  depths : map (λ e. e.depth) l.entries.items ≡ map (λ r. r.depth) (take l.rank-index l.ranks);
  tells : All (TellsActivation l.net (source_of l.net l.source)) (entries_of l.entries.items);
}
