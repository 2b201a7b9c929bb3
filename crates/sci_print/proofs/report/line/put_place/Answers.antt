use Rattle.std.proofs.Common.{rules, ◌∙◌, decimal, get_or, take, drop, length, ◌-◌}
use Rattle.sci_io.proofs.Advance.{then_writes, stopped, same_text}
use Rattle.sci_print.specs.Line.{steps_text}
use Rattle.sci_print.proofs.Steps.{place-parts, place-empty}
use Rattle.sci_print.proofs.report.line.put_place.Goals as goal

pub returns-in_err-put_first-in-len1-up : goal.returns-in_err-put_first-in-len1-up
returns-in_err-put_first-in-len1-up g c =
    let path = c.args.path.now in
    same_text (place-parts path c.in-len1-up.len_at_least) (stopped (decimal (get_or path 0 0)) (steps_text (take (length path - 1) (drop 1 path))) c.put_first.result c.from_residual.result _ _ c.in_err-put_first-in-len1-up.was (search rules) c.put_first.ensures)

pub returns-in_ok-put_first-in-len1-up : goal.returns-in_ok-put_first-in-len1-up
returns-in_ok-put_first-in-len1-up g c =
    let path = c.args.path.now in
    same_text (place-parts path c.in-len1-up.len_at_least) (then_writes (decimal (get_or path 0 0)) (steps_text (take (length path - 1) (drop 1 path))) c.put_first.result c.put_steps.result _ c.in_ok-put_first-in-len1-up.was c.put_first.ensures c.put_steps.ensures)

pub returns-in-empty : goal.returns-in-empty
returns-in-empty g c = same_text (c.as_bytes.ensures.value ∙ place-empty c.args.path.now c.in-empty.len_below) c.put.ensures.written
