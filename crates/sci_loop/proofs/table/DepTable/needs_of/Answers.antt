use Rattle.sci_loop.proofs.Places.{needs_at, rises_at}
use Rattle.sci_loop.proofs.table.DepTable.needs_of.Goals as goal

pub returns-clause-rising : goal.returns-clause-rising
returns-clause-rising c =
    rises_at c.args.self.now c.place_of.result c.index.result.now c.deref.result.now c.as_slice.result.now c.requires.table c.place_of.ensures.within c.index.ensures
    c.deref.ensures.value c.as_slice.ensures.value

pub returns-clause-exactly : goal.returns-clause-exactly
returns-clause-exactly c =
    needs_at c.args.self.now c.place_of.result c.args.member c.index.result.now c.deref.result.now c.as_slice.result.now c.requires.table c.place_of.ensures.within c.place_of.ensures.found
    c.index.ensures c.deref.ensures.value c.as_slice.ensures.value
