-- The run goes on from what was saved.
use Rattle.std.proofs.Common.{◌≡◌, ℕ, ◌+◌, ◌-◌, ◌==◌, List, [], ◌∷◌, ◌++◌, Bool, true, false, cond, refl, sym, ◌∙◌, arith}
use Rattle.sci_base.specs.declared.observation.Obs.{Obs}
use Rattle.sci_base.specs.declared.observation.EndWord.TheVariants.{Halt, Events}
use Rattle.sci_forms.specs.declared.spec.Spec.{Spec}
use Rattle.sci_net.specs.Parts.{Parts}
use Rattle.sci_net.specs.Net.{IsNet}
use Rattle.sci_reaction.specs.Memory.{Columns}
use Rattle.sci_pending.specs.Pending.{Event, next}
use Rattle.sci_run.specs.Activity.{halts_from, halts}
use Rattle.sci_run.specs.Anew.{Rises}
use Rattle.sci_run.specs.Alike.{GoOnAlike}
use Rattle.sci_run.specs.Run.{State, Decision, Over, Fires, in_time, comes_next, Reachable, IsRest, IsRun}
use Rattle.sci_run.proofs.Anew.{anew}
use Rattle.sci_run.proofs.Ordered.{stands_ahead}
use Rattle.sci_run.proofs.SameRest.{same_rest}
use Rattle.sci_run.proofs.Traces.{run_goes_on}
use Rattle.sci_save.specs.Saved.{Saved}
use Rattle.sci_save.specs.Resumed.{state_of, IsSavedOf}

-- no block is active, so none halts
none_halts : (b : ℕ) (ss : List Spec) → halts_from b ss (λ c. false) ≡ false
none_halts b [] = refl
none_halts b (s ∷ ss) = none_halts (b + 1) ss

-- where an event fires, no HALT_f was active
not_halted : (t : Bool) (d : Decision) (e : Event) → cond t (Over Halt) d ≡ Fires e → t ≡ false
not_halted true d e h = absurd cc
not_halted false d e h = refl

rises_from : (now : ℕ) (ds : List (ℕ × ℕ)) → Rises now ds → Rises 0 ds
rises_from now [] r = tt
rises_from now (d ∷ ds) r = (omega arith, r.1)

goes_alike : (n : Parts) (i : Columns) (until limit : ℕ) (st : State) (e : Event) (seen : List Obs) (m : Saved) → IsNet n → Reachable n i until limit st seen
    → comes_next n until (limit - st.fired) st ≡ Fires e → IsSavedOf n st m → GoOnAlike n (state_of m) st
goes_alike n i until limit st e seen m net reach fires s = record {
  memory = s.memory;
  numbered = anew.numbered m.pending;
  other_numbered = (stands_ahead n net i until limit st seen reach).numbered;
  pending = anew.in_order_again m.pending (rises_from m.now m.pending s.shaped.pending.rises) ∙ s.pending;
  fired = s.fired;
  halts = none_halts 1 n.specs ∙ sym (not_halted (halts n st.active) (cond (limit - st.fired == 0) (Over Events) (in_time until (next st.pending.events))) e fires);
}

pub resumed_goes_on : (n : Parts) (i : Columns) (until limit : ℕ) (st : State) (e : Event) (seen os : List Obs) (m : Saved) → IsNet n → Reachable n i until limit st seen
    → comes_next n until (limit - st.fired) st ≡ Fires e → IsSavedOf n st m → IsRest n i until limit (state_of m) os → IsRun n i until limit (seen ++ os)
resumed_goes_on n i until limit st e seen os m net reach fires s rest =
    run_goes_on n i until limit st seen os reach (same_rest n i until limit (state_of m) st os (goes_alike n i until limit st e seen m net reach fires s) rest)
