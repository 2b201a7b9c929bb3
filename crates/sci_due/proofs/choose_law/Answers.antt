use Rattle.sci_due.proofs.Pending.{choose_next}
use Rattle.sci_due.proofs.choose_law.Goals as goal

pub returns : goal.returns
returns c env n p k w some small falls ports s hb hc hs = choose_next env n p k w some small falls ports s hb hc hs
