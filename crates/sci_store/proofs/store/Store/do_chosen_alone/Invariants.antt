use Rattle.std.proofs.Common.{take}
use Rattle.sci_reaction.specs.Equations.{AreInRange}
use Rattle.sci_places.specs.Flat.{values_at}
use Rattle.sci_store.specs.Frame.{AreSeated}
use Rattle.sci_store.specs.Store.{IsStore}
use Rattle.sci_store.proofs.Alone.{AreDoneTo}
use Rattle.sci_store.proofs.store.Store.do_chosen_alone.Given as goal

-- the blocks of the chosen calls so far have their values
abbrev pub invariant-loop-at : goal.invariant-loop-at
invariant-loop-at g l = record {
  store : IsStore l.frame l.self;
  seated : AreSeated l.frame l.lib;
  in_range : AreInRange l.frame.net (values_at l.frame.net l.self.values);
  done : AreDoneTo l.frame l.inputs (take l.count l.initial.self.chosen) l.at l.initial.self l.self l.initial.lib l.lib;
}
