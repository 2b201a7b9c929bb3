use Rattle.sci_ranges_find.proofs.Passing.{port_block}
use Rattle.sci_ranges_find.proofs.pass.marks_programmed.Goals as goal

pub programs-requires : goal.programs-requires
programs-requires c = port_block c.args.net.now c.args.place c.in-Port.q c.requires c.in-Port.ensures
