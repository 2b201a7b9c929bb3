use Rattle.sci_diagram.specs.Objects.{objects_of, object_view}
use Rattle.std.proofs.Common.{map}
use Rattle.sci_blocks.specs.Ports.{numbers}
use Rattle.sci_blocks.proofs.Tallying.{tally_finds}
use Rattle.sci_blocks.proofs.superblock.first_broken.Goals as goal

pub returns-in-Some-clause-value : goal.returns-in-Some-clause-value
returns-in-Some-clause-value c =
    let first = rw c.as_slice.ensures.value at c.in-Some.ensures.first in
    rw (← first) at (tally_finds c.in_ok-tally.tally c.args.count (numbers c.args.class (objects_of (map object_view c.args.objs.now))) c.in_ok-tally.ensures)

pub returns-clause-value : goal.returns-clause-value
returns-clause-value c =
    let first = rw c.as_slice.ensures.value at c.in-None.ensures.first in
    rw (← first) at (tally_finds c.in_ok-tally.tally c.args.count (numbers c.args.class (objects_of (map object_view c.args.objs.now))) c.in_ok-tally.ensures)
