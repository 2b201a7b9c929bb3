use Rattle.sci_vcd.proofs.OfNet.{net_signals}
use Rattle.sci_vcd.proofs.laws.net_has_signals.Goals as goal

pub returns : goal.returns
returns c = net_signals
