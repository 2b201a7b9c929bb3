use Rattle.std.proofs.Common.{sym, ◌∙◌}
use Rattle.sci_goto.specs.Phase.{within}
use Rattle.sci_goto.specs.Placed.{standing_of}
use Rattle.sci_goto.specs.Givers.{IsScoped}
use Rattle.sci_goto.proofs.Holding.{given_twice, given_first}
use Rattle.sci_goto.proofs.givers.Givers.give.Goals as goal

pub returns-in-None-clause-ok : goal.returns-in-None-clause-ok
returns-in-None-clause-ok c = λ ss tags long h.
    let s = standing_of c.args.t.now in
    let k : IsScoped c.in_ok-key.key c.args.tag (within c.args.scope s.around) = rw c.as_slice.ensures at c.in_ok-key.ensures in
    given_first c.args.self.now ss tags s c.args.tag c.args.scope c.in_ok-key.key h k (record { positions = c.insert.new.self }) c.args.n (sym long) c.requires
    (sym c.in_ok-insert.ensures.old ∙ c.in-None.is) c.in_ok-insert.ensures.updates.0

pub returns-in-Some-clause-stop : goal.returns-in-Some-clause-stop
returns-in-Some-clause-stop c = λ ss tags h.
    let s = standing_of c.args.t.now in
    let k : IsScoped c.in_ok-key.key c.args.tag (within c.args.scope s.around) = rw c.as_slice.ensures at c.in_ok-key.ensures in
    given_twice c.args.self.now ss tags s c.args.tag c.args.scope c.in_ok-key.key h k c.in-Some.field-0 c.by_tag.result
    (sym c.in_ok-insert.ensures.old ∙ c.in-Some.is) c.by_tag.ensures
