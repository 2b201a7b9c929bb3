use Rattle.sci_ranges_find.proofs.Passing.{port_block}
use Rattle.sci_ranges_find.proofs.live.is_first.Goals as goal

pub is_dated-requires : goal.is_dated-requires
is_dated-requires c = port_block c.args.net.now c.args.place c.in-Port.q c.requires c.in-Port.ensures
