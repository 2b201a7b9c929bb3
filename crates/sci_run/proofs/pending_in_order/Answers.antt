use Rattle.sci_run.proofs.Ordered.{first_ahead, reaches_ahead, stands_ahead, fires_ahead, now_rises}
use Rattle.sci_run.proofs.pending_in_order.Goals as goal

pub returns-clause-first : goal.returns-clause-first
returns-clause-first c n net = first_ahead n net

pub returns-clause-later : goal.returns-clause-later
returns-clause-later c n i until limit from st seen net order reaches = reaches_ahead n net i until limit from order reaches

pub returns-clause-reachable : goal.returns-clause-reachable
returns-clause-reachable c n i until limit st seen net stands = stands_ahead n net i until limit st seen stands

pub returns-clause-fires : goal.returns-clause-fires
returns-clause-fires c n until left st e order fires = fires_ahead n until left st e order fires

pub returns-clause-now : goal.returns-clause-now
returns-clause-now c n i until limit from st seen net order reaches = now_rises n net i until limit from order reaches
