use Rattle.sci_pass.proofs.Meanings.{no_delay}
use Rattle.sci_pass.proofs.no_delay.Goals as goal

pub returns : goal.returns
returns c s p u h = no_delay s p u h
