use Rattle.std.proofs.Common.{map}
use Rattle.std.proofs.lemmas.Bool.{false≢true}
use Rattle.serde_json.specs.View.{view}
use Rattle.sci_trace.specs.Columns.{needed_of}
use Rattle.sci_trace.specs.Reading.{judge, judge_value, columns_in}
use Rattle.sci_trace.proofs.Reading.{columns_read, columns_refused, answer_none}
use Rattle.sci_base.proofs.Stopping.{answers_from}
use Rattle.sci_trace.proofs.inputs.read.read_inputs.Goals as goal

pub returns-in-Ok : goal.returns-in-Ok
unfolding judge
returns-in-Ok c =
    let is = columns_read c.args.bytes.now (view c.in-Ok.v) c.in-Ok.ensures.ok.0 c.in-Ok.ensures.ok.1 in
    rw is (answers_from (λ columns. columns) (judge_value (map needed_of c.args.need.now) (view c.in-Ok.v)) c.read_value.result c.read_value.ensures.ok c.read_value.ensures.stop)

pub returns-else-is_memory : goal.returns-else-is_memory
unfolding judge
returns-else-is_memory c =
    let none = columns_refused c.args.bytes.now (c.in-Err.ensures.err (λ m. false≢true (c.if-is_memory.ensures.1 m))) in
    answer_none (map needed_of c.args.need.now) (columns_in c.args.bytes.now) c.ill_shaped.result none c.ill_shaped.ensures
