use Rattle.std.proofs.Common.{arith}
use Rattle.std.proofs.lemmas.Simd.{put_chunk_whole}
use Rattle.sci_vcd.proofs.spell.put_eight.Goals as goal

pub returns-clause-text : goal.returns-clause-text
returns-clause-text c = put_chunk_whole c.args.text.now c.args.digits.now (omega (arith, c.requires))
