use Rattle.std.proofs.Common.{◌≡◌, ◌≤◌, ◌+◌, ◌*◌, drop}
use Rattle.sci_net.specs.Net.{all_elements}
use Rattle.sci_infer.proofs.broken.all_elements.Given as goal

abbrev pub invariant-loop-spec : goal.invariant-loop-spec
invariant-loop-spec l = record {
  rest : l.sum + all_elements (drop l.spec-index l.specs) ≡ all_elements l.specs;
  most : l.sum ≤ 16384 * l.spec-index;
}
