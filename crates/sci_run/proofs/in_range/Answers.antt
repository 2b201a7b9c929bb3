use Rattle.sci_run.proofs.Ranges.{reaches_in_range, stands_in_range, fired_within, now_within, activations_within, orders_within}
use Rattle.sci_run.proofs.Reactions.{counted}
use Rattle.sci_run.proofs.in_range.Goals as goal

pub returns-clause-later : goal.returns-clause-later
returns-clause-later c n i until limit from st seen net free columns memory reaches = reaches_in_range n i net free columns until limit from memory reaches

pub returns-clause-reachable : goal.returns-clause-reachable
returns-clause-reachable c n i until limit st seen net free columns stands = stands_in_range n i net free columns until limit st seen stands

pub returns-clause-fired : goal.returns-clause-fired
returns-clause-fired c n i until limit st seen stands = fired_within n i until limit st seen stands

pub returns-clause-now : goal.returns-clause-now
returns-clause-now c n i until limit st seen stands = now_within n i until limit st seen stands

pub returns-clause-activations : goal.returns-clause-activations
returns-clause-activations c n i until limit st seen b stands = activations_within n i until limit st seen b stands

pub returns-clause-reactions : goal.returns-clause-reactions
returns-clause-reactions c n i until limit st seen stands = counted n i until limit st seen stands

pub returns-clause-orders : goal.returns-clause-orders
returns-clause-orders c n i until limit st seen stands = orders_within n i until limit st seen stands
