use Rattle.sci_loop.proofs.Places.{not_missing}
use Rattle.sci_loop.proofs.table.place_of.Goals as goal

pub unreachable-requires : goal.unreachable-requires
unreachable-requires c =
    not_missing c.args.members.now c.args.number c.in-Err.field-0 c.binary_search.result c.requires.rising c.requires.member c.in-Err.is c.binary_search.ensures.position
