use Rattle.std.proofs.Common.{◌∙◌, ap, arith, sym, Err, Some}
use Rattle.sci_json.specs.View.{view}
use Rattle.sci_diagram.specs.Reading.{judge, judge_value}
use Rattle.sci_diagram.proofs.Bytes.{read_weighs}
use Rattle.sci_base.proofs.Stopping.{answers_from}
use Rattle.sci_diagram.specs.Objects.{diagram_view}
use Rattle.sci_diagram.proofs.Values.{value_read, value_refused}
use Rattle.sci_diagram.proofs.from_bytes.read.Goals as goal

pub read_value-requires : goal.read_value-requires
read_value-requires c =
    let is = c.in-Ok.ensures.ok.1 ∙ ap Some (sym c.root.ensures) in
    record { light = omega (arith, read_weighs c.args.bytes.now (view c.root.result) is) }

pub returns-in-Ok : goal.returns-in-Ok
unfolding judge
returns-in-Ok c =
    let is = value_read c.args.bytes.now (view c.root.result) c.in-Ok.ensures.ok.0 (c.in-Ok.ensures.ok.1 ∙ ap Some (sym c.root.ensures)) in
    rw is (answers_from diagram_view (judge_value (Some (view c.root.result))) c.read_value.result c.read_value.ensures.ok c.read_value.ensures.stop)

pub returns-in-Err-Invalid : goal.returns-in-Err-Invalid
unfolding judge
returns-in-Err-Invalid c =
    let none = value_refused c.args.bytes.now (c.in-Err-Invalid.ensures.invalid (ap Err c.in-Err-Invalid.field-0-is)) in
    ap judge_value none ∙ ap Err (sym c.of_the_whole.ensures)
