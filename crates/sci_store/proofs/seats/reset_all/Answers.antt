use Rattle.std.proofs.Common.{◌+◌, sym, subst, ◌∙◌, refl}
use Rattle.sci_bank.proofs.LibraryLemmas.{Holds-full, in_order-with_bank}
use Rattle.sci_store.proofs.Seated.{AreResetTo, reset_none, reset_more, reset_past, reset_all}
use Rattle.sci_store.proofs.seats.reset_all.Goals as goal
use Rattle.sci_store.proofs.seats.reset_all.Goals.{in-Some, in_default}

pub reset-requires : goal.reset-requires
reset-requires g c = record { known = Holds-full _ c.in-Some.kind c.loop-number.invariant.full }

pub loop-number-init : goal.loop-number-init
loop-number-init g c = reset_none _ c.requires.full c.well_formed-2.ensures

pub loop-number-preserved : goal.loop-number-preserved
loop-number-preserved g c = elim c.match-kind_at.branch [
  | in-Some w ↦
      subst (λ (l : _). AreResetTo (c.loop-number.number + 1) l) (sym w.lib-is)
      (reset_more _ _ c.loop-number.number w.in-Some.kind c.loop-number.invariant (sym c.kind_at.ensures ∙ w.in-Some.is)
      w.reset.ensures.changed (in_order-with_bank _ _ w.in-Some.kind _ (Holds-full _ w.in-Some.kind c.loop-number.invariant.full) refl w.reset.ensures.changed) w.reset.ensures.full)
  | in_default w ↦
      subst (λ (l : _). AreResetTo (c.loop-number.number + 1) l) (sym w.lib-is)
      (reset_past _ c.loop-number.number c.loop-number.invariant (λ k e. w.in_default.not-Some k (c.kind_at.ensures ∙ e)))
]

pub returns : goal.returns
returns g c = reset_all _ c.loop-number.number c.loop-number.invariant c.loop-number-test.false
