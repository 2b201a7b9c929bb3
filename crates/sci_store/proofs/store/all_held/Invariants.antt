use Rattle.sci_store.proofs.Stored.{AreHeldTo}
use Rattle.sci_store.proofs.store.all_held.Given as goal

abbrev pub invariant-loop-block : goal.invariant-loop-block
invariant-loop-block l = AreHeldTo l.frame.net l.block l.values.items
