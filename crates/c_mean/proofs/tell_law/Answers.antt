use Rattle.std.proofs.Common.{refl, [], ◌∷◌}
use Rattle.sci_base.specs.declared.observation.Obs.TheVariants.{Start, Event, Val}
use Rattle.c_mean.specs.Laws.{ShowsFirst}
use Rattle.c_mean.proofs.Steps.{start_runs, event_runs, value_runs, finish_ends, stop_stops}
use Rattle.c_mean.proofs.tell_law.Goals as goal

pub returns : goal.returns
returns c = record {
  start = λ env n rest w. start_runs (ShowsFirst env rest w (Start ∷ [])) env n rest w (λ k. record { number = k; is = refl });
  event =
      λ env n a b c rest w x y z p q r. event_runs (ShowsFirst env rest w (Event x y z ∷ [])) env n a b c rest w x y z p q r
      (λ k. record { number = k; is = refl });
  value =
      λ env n a b c d rest w x y z v p q r s. value_runs (ShowsFirst env rest w (Val x y z v ∷ [])) env n a b c d rest w x y z v p q r s
      (λ k. record { number = k; is = refl });
  finish = λ env n a rest w z word p q. finish_ends env n a rest w z word p q;
  stop = λ env n a b c rest w z word block p q r s. stop_stops env n a b c rest w z word block p q r s;
}
