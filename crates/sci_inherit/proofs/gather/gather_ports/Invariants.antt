use Rattle.std.proofs.Common.{◌≡◌, ◌-◌, vec_len}
use Rattle.sci_loop.specs.Lists.{plain}
use Rattle.sci_inherit.specs.declared.gather.Senders.{Senders}
use Rattle.sci_inherit.specs.Gather.{IsSender, Gathered, OfBlocks, OfPorts}
use Rattle.sci_inherit.proofs.gather.gather_ports.Given as goal

abbrev pub invariant-loop-at : goal.invariant-loop-at
invariant-loop-at l = record {
  count : l.walk.count ≡ l.initial.walk.count;
  len : vec_len l.reaching ≡ vec_len l.initial.reaching;
  gathered : (s : Senders) → IsSender l.net l.rows.wanted.items s l.block
      → Gathered l.net (OfBlocks (IsSender l.net l.rows.wanted.items s) (l.block - 1)) (plain l.initial.reaching.items)
      → Gathered l.net (OfPorts (IsSender l.net l.rows.wanted.items s) l.block l.at) (plain l.reaching.items);
}
