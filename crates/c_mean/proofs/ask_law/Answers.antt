use Rattle.std.proofs.Common.{refl}
use Rattle.c_mean.specs.Meaning.{truth, has_left, column}
use Rattle.c_mean.specs.Places.{Puts, Takes}
use Rattle.c_mean.specs.Laws.{GoesOn}
use Rattle.c_mean.proofs.Steps.{more_runs, input_runs, until_runs, limit_runs}
use Rattle.c_mean.proofs.ask_law.Goals as goal

pub returns : goal.returns
returns c = record {
  more =
      λ env n p e rest w x i c at is h. more_runs (GoesOn env rest (Puts w x i (truth (has_left (column w.left c))))) env n p e rest w x i c at is h
      (λ k w' put. record { number = k; to = w'; is = refl; holds = put });
  input =
      λ env n p e rest w x i c v vs at is column h. input_runs (GoesOn env rest (Takes w x i c v vs)) env n p e rest w x i c v vs at is column h
      (λ k w' put. record { number = k; to = w'; is = refl; holds = put });
  until =
      λ env n p rest w x i at h. until_runs (GoesOn env rest (Puts w x i env.until)) env n p rest w x i at h
      (λ k w' put. record { number = k; to = w'; is = refl; holds = put });
  limit =
      λ env n p rest w x i at h. limit_runs (GoesOn env rest (Puts w x i env.limit)) env n p rest w x i at h
      (λ k w' put. record { number = k; to = w'; is = refl; holds = put });
}
