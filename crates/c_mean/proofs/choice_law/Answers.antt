use Rattle.std.proofs.Common.{refl, ◌≡◌, ℕ, if◌then◌else◌}
use Rattle.c_mean.specs.Meaning.{Ran, then_run, run_block}
use Rattle.c_mean.proofs.Steps.{test_runs}
use Rattle.c_mean.proofs.choice_law.Goals as goal

pub returns : goal.returns
returns c env n e a b rest w t is =
    test_runs (λ (r : Ran). (k : ℕ) × (l : ℕ) × (m : ℕ) ×
    (r ≡ then_run (if t then run_block env k a w else run_block env l b w) (run_block env m rest))) env n e a b rest w t is (λ k l m. (k, l, m, refl))
