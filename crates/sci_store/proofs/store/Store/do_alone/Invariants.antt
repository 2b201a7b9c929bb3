use Rattle.sci_reaction.specs.Equations.{AreInRange}
use Rattle.sci_places.specs.Flat.{values_at}
use Rattle.sci_store.specs.Frame.{AreSeated}
use Rattle.sci_store.specs.Store.{IsStore}
use Rattle.sci_store.proofs.Alone.{AreDoneTo}
use Rattle.sci_store.proofs.store.Store.do_alone.Given as goal

-- the blocks of the calls so far have their values
abbrev pub invariant-loop-call : goal.invariant-loop-call
invariant-loop-call g l = record {
  store : IsStore l.frame l.self;
  seated : AreSeated l.frame l.lib;
  in_range : AreInRange l.frame.net (values_at l.frame.net l.self.values);
  done : AreDoneTo l.frame l.inputs l.calls l.call-index l.initial.self l.self l.initial.lib l.lib;
}
