use Rattle.std.proofs.Common.{◌≡◌, vec_len}
use Rattle.sci_net.specs.Sources.{source_of}
use Rattle.sci_loop.specs.Lists.{plain}
use Rattle.sci_inherit.specs.Gather.{AreEach, AreAlways}
use Rattle.sci_inherit.proofs.always.always.Given as goal

abbrev pub invariant-loop-at : goal.invariant-loop-at
invariant-loop-at l = record {
  count : l.walk.count ≡ l.initial.walk.count;
  len : vec_len l.always ≡ l.at;
  each : AreEach (λ k bs. AreAlways l.net (source_of l.net k) bs) (plain l.always.items);
}
