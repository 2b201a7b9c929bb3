use Rattle.std.proofs.Common.{refl, ◌≡◌, ℕ}
use Rattle.c_mean.specs.Meaning.{Ran, then_run, run_block}
use Rattle.c_mean.proofs.Steps.{call_runs}
use Rattle.c_mean.proofs.call_law.Goals as goal

pub returns : goal.returns
returns c env n f rest w run is = call_runs (λ (r : Ran). (k : ℕ) × (r ≡ then_run (run w) (run_block env k rest))) env n f rest w run is (λ k. (k, refl))
