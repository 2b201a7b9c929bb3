use Rattle.sci_inherit.specs.Live.{WantedTo}
use Rattle.sci_inherit.proofs.live.wanted.Given as goal

abbrev pub invariant-loop-at : goal.invariant-loop-at
invariant-loop-at l = WantedTo l.net l.at l.wanted.items
