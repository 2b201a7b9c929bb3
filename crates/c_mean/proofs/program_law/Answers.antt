use Rattle.std.proofs.Common.{refl, ◌≡◌, ℕ}
use Rattle.c_mean.specs.Meaning.{Ran, run_block, first_world}
use Rattle.c_mean.specs.Programs.{surroundings}
use Rattle.c_mean.proofs.Programs.{call_is, calls_stay, meaning_runs, first_is, first_left}
use Rattle.c_mean.proofs.program_law.Goals as goal

pub returns : goal.returns
returns c = record {
  call = call_is;
  stay = calls_stay;
  main =
      λ p columns last most. meaning_runs
      (λ (r : Ran). (n : ℕ) × (r ≡ run_block (surroundings p.funcs last most) n p.main (first_world p columns))) p columns last most (λ n. (n, refl));
  first = first_is;
  left = first_left;
}
