use Rattle.std.proofs.Common.{◌≡◌, ◌-◌, List, get_or, ap, subst, ◌∙◌}
use Rattle.sci_forms.specs.Form.{is_halt}
use Rattle.sci_store.specs.declared.seats.Seat.{Seat}
use Rattle.sci_store.specs.Frame.{Fixed, IsFrame}
use Rattle.sci_store.proofs.Framed.{kind_read}
use Rattle.sci_store.proofs.frame.Frame.is_halt.Goals as goal

pub returns : goal.returns
returns c =
    let f = c.args.self.now in
    let s = c.index.result.now in
    let seats = ap (λ (g : Fixed). g.seats) c.self.view_is in
    c.is_halt.ensures
    ∙ ap is_halt (kind_read f c.args.block s (subst IsFrame c.self.view_is c.self.invariant) c.requires.least c.requires.most
    (subst (λ (ss : List Seat). s ≡ get_or ss (c.args.block - 1) s) seats c.index.ensures))
