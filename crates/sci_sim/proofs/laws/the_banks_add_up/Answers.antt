use Rattle.sci_sim.proofs.Totals.{state_adds_up, stop_adds_up}
use Rattle.sci_sim.proofs.laws.the_banks_add_up.Goals as goal

pub returns-clause-at_a_state : goal.returns-clause-at_a_state
returns-clause-at_a_state c r banks st full at = state_adds_up r banks st full at

pub returns-clause-at_a_stop : goal.returns-clause-at_a_stop
returns-clause-at_a_stop c n s st banks full h = stop_adds_up n s st banks full h
