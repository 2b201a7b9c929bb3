use Rattle.sci_loop.proofs.Needing.{numbers_needed}
use Rattle.sci_loop.proofs.table.DepTable.has_needs.Goals as goal

pub returns : goal.returns
returns c = numbers_needed c.args.self.now c.some_number.result c.deref.result.now c.requires c.deref.ensures.value c.some_number.ensures
