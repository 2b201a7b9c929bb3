use Rattle.std.proofs.Common.{◌-◌, ap, ◌∙◌, arith}
use Rattle.serde_json.specs.Find.{get}
use Rattle.sci_json.specs.View.{view}
use Rattle.sci_diagram.specs.Names.{name_of}
use Rattle.sci_diagram.proofs.Placing.{read_at, lent}
use Rattle.sci_diagram.proofs.table.Fields.get.Goals as goal

pub returns : goal.returns
returns c =
    lent view c.as_ref.result _ c.as_ref.ensures.value
    ∙ read_at c.self.inside.found.now (view c.self.inside.value.now) (c.args.code - 1) c.index-found-code.result (omega arith) c.self.invariant c.index-found-code.is
    ∙ ap (λ ts. get (name_of c.args.code) (view ts)) c.self.view_is
