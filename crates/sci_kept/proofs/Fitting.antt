-- A store fits its tables still where what was counted of it has changed.
use Rattle.std.proofs.Common.{◌≡◌, List, [], ◌∷◌, sym, subst}
use Rattle.std.specs.Prelude.{Result, Ok, Err, OnOk, OnErr}
use Rattle.sci_base.specs.declared.observation.Obs.{Obs}
use Rattle.sci_store.specs.Frame.{Fixed}
use Rattle.sci_store.specs.Store.{Standing, IsStore}
use Rattle.sci_store.specs.Written.{tallied}

pub tallied_fits : (f : Fixed) (s : Standing) (os : List Obs) → IsStore f s → IsStore f (tallied s os)
tallied_fits f s os h = record { values = h.values; cursors = h.cursors; marks = h.marks; room = h.room; chosen = h.chosen }

-- an observation was written or not
pub observed_fits : {T E : Type 0} (f : Fixed) (s t : Standing) (o : Obs) (r : Result T E) → OnOk r (t ≡ tallied s (o ∷ [])) → OnErr r (t ≡ s) → IsStore f s → IsStore f t
observed_fits f s t o (Ok x) counted kept h = subst (IsStore f) (sym counted) (tallied_fits f s (o ∷ []) h)
observed_fits f s t o (Err e) counted kept h = subst (IsStore f) (sym kept) h
