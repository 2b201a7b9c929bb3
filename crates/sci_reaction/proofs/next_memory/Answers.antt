use Rattle.sci_reaction.proofs.Next.{some_next, one_next, memory_in_range, first_in_range}
use Rattle.sci_reaction.proofs.next_memory.Goals as goal

pub returns-clause-some : goal.returns-clause-some
returns-clause-some c n m s y net = some_next n m s y

pub returns-clause-one : goal.returns-clause-one
returns-clause-one c n m s y one other b x z inside = one_next n m s y one other b x z inside

pub returns-clause-in_range : goal.returns-clause-in_range
returns-clause-in_range c n m s y after net memory fills next = memory_in_range n m s y after net memory fills next

pub returns-clause-first : goal.returns-clause-first
returns-clause-first c n net = first_in_range n net
