use Rattle.sci_cgen_base.proofs.LaidLemmas.{LaidTo}
use Rattle.sci_cgen_base.proofs.block_layouts.layouts.Given as goal

abbrev pub invariant-loop-block : goal.invariant-loop-block
invariant-loop-block l = LaidTo l.net l.block l.layouts.items l.state
