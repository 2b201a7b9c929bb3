use Rattle.std.proofs.Common.{Some, None, ◌∙◌}
use Rattle.std.specs.List.{find}
use Rattle.sci_goto.specs.Phase.{gives}
use Rattle.sci_goto.specs.Givers.{IsFirst}
use Rattle.sci_goto.proofs.Holding.{first_at, first_or}
use Rattle.sci_goto.proofs.givers.Givers.server.Goals as goal

pub returns : goal.returns
returns c = λ ss gs h.
    let m = c.args.self.now in
    let around = c.args.t.now.around.path.items in
    let within : IsFirst ss (find (gives c.args.tag (Some around)) gs) c.copied-within.result =
    rw c.as_slice.ensures at (first_at m ss gs c.in_ok-local.local c.args.tag _ c.copied-within.result h c.in_ok-local.ensures (c.copied-within.ensures ∙ c.get.ensures.value)) in
    let everywhere = first_at m ss gs c.global.result c.args.tag None c.copied-everywhere.result h c.global.ensures (c.copied-everywhere.ensures ∙ c.get-2.ensures.value) in
    rw c.or.ensures (first_or ss _ _ _ _ within everywhere)
