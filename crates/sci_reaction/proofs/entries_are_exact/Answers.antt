use Rattle.sci_reaction.proofs.Spreading.{possible, Spread-block}
use Rattle.sci_reaction.proofs.Rows.{row_plan, block_in}
use Rattle.sci_reaction.proofs.EntriesExact.{entry_exact, mask_exact}
use Rattle.sci_reaction.proofs.entries_are_exact.Goals as goal

pub returns-clause-entries : goal.returns-clause-entries
returns-clause-entries c n s row e y net is has =
    entry_exact n s net.wired e (Spread-block n s _ ((is.exactly e.block).0 (block_in row e has))) ((row_plan n s net.wired row is).entries e has) y

pub returns-clause-masks : goal.returns-clause-masks
returns-clause-masks c n s row e y mask p net is has mask_is =
    mask_exact n s net.wired e (Spread-block n s _ ((is.exactly e.block).0 (block_in row e has))) ((row_plan n s net.wired row is).entries e has) y mask p mask_is

pub returns-clause-others : goal.returns-clause-others
returns-clause-others c n s row b y net is active = (is.exactly b).1 (possible n s _ active)
