use Rattle.sci_cgen_base.proofs.LaidLemmas.{few_read}
use Rattle.sci_cgen.proofs.generator.body.Goals as goal

pub block_body-requires-clause-few : goal.block_body-requires-clause-few
block_body-requires-clause-few c =
    few_read c.args.net.now c.args.layouts.now c.args.block _ _ c.well_formed-2.ensures c.requires.laid c.requires.block c.spec.ensures.value c.layout.ensures
