use Rattle.std.proofs.Common.{◌+◌, refl, arith}
use Rattle.sci_flat.specs.Ends.{end_of}
use Rattle.sci_flat.proofs.Filling.{numbers_more, ends_more}
use Rattle.sci_flat.proofs.ends.Ends.add.Goals as goal

pub overflow_cast-first : goal.overflow_cast-first
overflow_cast-first c =
    let low = c.requires c.args.class c.loop-k.k (omega (arith, c.count-k-end.ensures)) in
    omega (arith, low, c.first_of-first.ensures, c.from.ensures)

pub loop-k-preserved : goal.loop-k-preserved
loop-k-preserved c = record {
  numbers = numbers_more c.first_of-first.result c.loop-k.k (c.first_of-first.result + c.from.result) c.args.self.now.numbers.items c.loop-k.self.numbers.items c.push.new.self.items
      (omega (arith, c.from.ensures)) c.loop-k.invariant.numbers c.in_ok-push.ensures.items;
  feeds = ends_more c.args.block c.loop-k.k (end_of c.args.block (c.loop-k.k + 1)) c.args.self.now.feeds.items c.loop-k.self.feeds.items c.push-in-loop-k.new.self.items
      refl c.loop-k.invariant.feeds c.in_ok-push-2.ensures.items;
}
