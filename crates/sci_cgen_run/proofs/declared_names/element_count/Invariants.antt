use Rattle.std.proofs.Common.{◌≡◌, ◌+◌, drop}
use Rattle.sci_net.specs.Net.{all_elements}
use Rattle.sci_cgen_run.proofs.declared_names.element_count.Given as goal

abbrev pub invariant-loop-at : goal.invariant-loop-at
invariant-loop-at l = l.count + all_elements (drop l.at l.net.specs) ≡ all_elements l.net.specs
