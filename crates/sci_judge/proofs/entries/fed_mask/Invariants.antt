use Rattle.std.proofs.Common.{Contains}
use Rattle.sci_net.specs.Parts.{feeds_of}
use Rattle.sci_judge.specs.Entries.{HasBitsTo}
use Rattle.sci_judge.proofs.entries.fed_mask.Given as goal

abbrev pub invariant-loop-at : goal.invariant-loop-at
invariant-loop-at l = HasBitsTo l.mask l.at (λ p. Contains (feeds_of l.net l.block p) l.feed)
