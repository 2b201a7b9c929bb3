use Rattle.sci_save.proofs.Reached.{reached_is_saved}
use Rattle.sci_save.proofs.Rest.{rest_is_saved}
use Rattle.sci_save.proofs.Resumed.{resumed_goes_on}
use Rattle.sci_save.proofs.resumed_goes_on.Goals as goal

pub returns-clause-saved : goal.returns-clause-saved
returns-clause-saved c n i until limit st seen net free columns early few stands = reached_is_saved n i until limit st seen net free columns early few stands

pub returns-clause-rest : goal.returns-clause-rest
returns-clause-rest c n i until limit m st seen net free columns early few valid stands = rest_is_saved n i until limit m st seen net free columns early few valid stands

pub returns-clause-goes_on : goal.returns-clause-goes_on
returns-clause-goes_on c n i until limit st e seen os m net reach fires s rest = resumed_goes_on n i until limit st e seen os m net reach fires s rest
