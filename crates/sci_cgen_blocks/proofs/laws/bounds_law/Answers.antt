use Rattle.sci_cgen_blocks.proofs.KindLaws.{cell_reads_law}
use Rattle.sci_cgen_blocks.proofs.NextStates.{next_reads_law, next_along_reads_law}
use Rattle.sci_cgen_blocks.proofs.Bounds.{body_fits, next_fits, delay_fits_all, branch_fits_all}
use Rattle.sci_cgen_blocks.proofs.laws.bounds_law.Goals as goal

pub returns : goal.returns
returns c = record {
  body = λ s p is_typed places d. body_fits s p places cell_reads_law is_typed d;
  next = λ s p is_typed places d. next_fits s p places next_reads_law next_along_reads_law is_typed d;
  delay = delay_fits_all;
  branch = branch_fits_all;
}
