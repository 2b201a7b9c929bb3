use Rattle.std.proofs.Common.{◌≡◌, ◌≤◌, length}
use Rattle.sci_program.specs.Program.{states_before}
use Rattle.sci_cgen_run.proofs.declared_names.state_count.Given as goal

abbrev pub invariant-loop-at : goal.invariant-loop-at
invariant-loop-at l = record {
  so_far : l.count ≡ states_before l.net.specs l.at;
  within : l.at ≤ length l.net.specs;
}
