use Rattle.std.proofs.Common.{sym, ◌∙◌, subst}
use Rattle.std.proofs.lemmas.Bool.{eqb-true, eqb-false}
use Rattle.sci_trace.specs.Columns.{columns_view}
use Rattle.sci_save.specs.declared.stop.LineStop.{LineStop}
use Rattle.sci_save.specs.Saved.{saved_of}
use Rattle.sci_save.specs.Reading.{Fails, saved_at}
use Rattle.sci_save.proofs.BlockLines.{columns_short}
use Rattle.sci_save.proofs.Blaming.{all_read, some_left, line_broken, rest_within, left_within}
use Rattle.sci_save.proofs.read.answer.Goals as goal

pub returns-then-is_empty : goal.returns-then-is_empty
returns-then-is_empty c =
    let i = columns_view c.args.columns.now in
    all_read c.args.net.now i c.well_formed-2.ensures (columns_short c.args.columns.now) c.args.bytes.now (saved_of c.in-Ok.image) c.in-Ok.rest.now c.in-Ok.ensures (eqb-true _ 0 (sym c.is_empty.ensures ∙ c.if-is_empty.true))

pub line_number-requires : goal.line_number-requires
line_number-requires c =
    let i = columns_view c.args.columns.now in
    let within = rest_within c.args.net.now i c.well_formed-2.ensures (columns_short c.args.columns.now) c.args.bytes.now (saved_of c.in-Ok.image) c.in-Ok.rest.now c.in-Ok.ensures in
    within

pub returns-else-is_empty : goal.returns-else-is_empty
returns-else-is_empty c =
    let i = columns_view c.args.columns.now in
    let bytes = c.args.bytes.now in
    some_left c.args.net.now i c.well_formed-2.ensures (columns_short c.args.columns.now) bytes (saved_of c.in-Ok.image) c.in-Ok.rest.now c.line_number.result c.in-Ok.ensures
    (eqb-false _ 0 (sym c.is_empty.ensures ∙ c.if-is_empty.false)) c.line_number.ensures

pub line_number-requires-in-Err-Broken : goal.line_number-requires-in-Err-Broken
line_number-requires-in-Err-Broken c =
    let i = columns_view c.args.columns.now in
    left_within c.args.net.now i c.well_formed-2.ensures (columns_short c.args.columns.now) c.args.bytes.now c.in-Err-Broken.left (subst (λ (e : LineStop). Fails e (saved_at c.args.net.now i c.args.bytes.now)) c.in-Err-Broken.field-0-is c.in-Err-Broken.ensures)

pub returns-in-Err-Broken : goal.returns-in-Err-Broken
returns-in-Err-Broken c =
    let i = columns_view c.args.columns.now in
    line_broken c.args.net.now i c.well_formed-2.ensures (columns_short c.args.columns.now) c.args.bytes.now c.in-Err-Broken.left c.line_number-in-Err-Broken.result (subst (λ (e : LineStop). Fails e (saved_at c.args.net.now i c.args.bytes.now)) c.in-Err-Broken.field-0-is c.in-Err-Broken.ensures) c.line_number-in-Err-Broken.ensures
