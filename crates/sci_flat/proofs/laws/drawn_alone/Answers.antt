use Rattle.std.proofs.Common.{◌++◌, ap, ◌∙◌, append-nil}
use Rattle.sci_goto.proofs.Untagged.{untagged_law}
use Rattle.sci_flat.specs.Ports.{tree_steps}
use Rattle.sci_flat.specs.Tagged.{tag_steps}
use Rattle.sci_flat.proofs.laws.drawn_alone.Goals as goal

pub returns : goal.returns
returns c = λ d none. ap (λ o. tree_steps d ++ tag_steps o) (untagged_law d none) ∙ append-nil (tree_steps d)
