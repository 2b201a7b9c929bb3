use Rattle.std.proofs.Common.{◌≡◌, take, vec_len}
use Rattle.sci_loop.specs.Lists.{plain, Adds}
use Rattle.sci_inherit.specs.Followers.{SenderGets}
use Rattle.sci_inherit.proofs.followers.push_to_senders.Given as goal

abbrev pub invariant-loop-feed : goal.invariant-loop-feed
invariant-loop-feed l = record {
  len : vec_len l.targets ≡ vec_len l.initial.targets;
  adds : Adds (SenderGets (take l.feed-index l.feeds) l.block) (plain l.initial.targets.items) (plain l.targets.items);
}
