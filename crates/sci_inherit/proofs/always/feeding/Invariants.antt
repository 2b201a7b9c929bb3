use Rattle.std.proofs.Common.{◌≡◌, vec_len}
use Rattle.sci_net.specs.Sources.{source_of}
use Rattle.sci_loop.specs.Lists.{plain}
use Rattle.sci_inherit.specs.Followers.{AreInOrder}
use Rattle.sci_inherit.specs.Gather.{AreEach, AreFeeding}
use Rattle.sci_inherit.proofs.always.feeding.Given as goal

abbrev pub invariant-loop-at : goal.invariant-loop-at
invariant-loop-at l = record {
  len : vec_len l.feeding ≡ l.at;
  each : AreEach (λ k fs. AreFeeding l.net (source_of l.net k) fs) (plain l.feeding.items);
  in_order : AreEach (λ k fs. AreInOrder fs) (plain l.feeding.items);
}
