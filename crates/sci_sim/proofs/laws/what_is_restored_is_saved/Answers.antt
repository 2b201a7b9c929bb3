use Rattle.sci_sim.proofs.Restoring.{saved_again}
use Rattle.sci_sim.proofs.laws.what_is_restored_is_saved.Goals as goal

pub returns : goal.returns
returns c n m shaped = saved_again n m shaped
