use Rattle.sci_cgen_blocks.proofs.Sensing.{body_senses}
use Rattle.sci_cgen_blocks.proofs.laws.sensor_law.Goals as goal

pub returns : goal.returns
returns c env s p column n w kind param room scratch = body_senses env s p column n w kind param room scratch
