use Rattle.std.proofs.Common.{Some, None}
use Rattle.sci_goto.specs.Phase.{taking, server}
use Rattle.sci_goto.specs.Placed.{standing_of}
use Rattle.sci_goto.specs.Givers.{IsFirst}
use Rattle.sci_goto.proofs.Takers.{one_serves, none_serves}
use Rattle.sci_goto.proofs.served.serving_of.Goals as goal

pub returns-in-Some-clause-ok : goal.returns-in-Some-clause-ok
returns-in-Some-clause-ok c = λ ss gs h there at.
    let s = standing_of c.args.t.now in
    let first : IsFirst ss (server gs (taking s c.in-Takes.tag)) (Some c.in-Some.giver) = rw c.in-Some.is at (c.in_ok-giver-in-Takes.ensures ss gs h) in
    let serves = one_serves ss gs s c.in-Takes.tag c.in-Some.giver c.args.n there at c.in-Takes.is first in
    rw c.in-Takes.is (serves, tt)

pub returns-in-None-clause-stop : goal.returns-in-None-clause-stop
returns-in-None-clause-stop c = λ ss gs h.
    let s = standing_of c.args.t.now in
    let none : IsFirst ss (server gs (taking s c.in-Takes.tag)) None = rw c.in-None.is at (c.in_ok-giver-in-Takes.ensures ss gs h) in
    let stops = none_serves ss gs s c.in-Takes.tag c.by_tag.result none c.by_tag.ensures in
    rw c.in-Takes.is stops
