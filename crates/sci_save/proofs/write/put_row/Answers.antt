use Rattle.std.proofs.Common.{rules, sym, ◌∙◌}
use Rattle.std.proofs.lemmas.Bool.{eqb-true, eqb-false}
use Rattle.sci_io.proofs.Advance.{then_writes, stopped, same_text, nothing_due}
use Rattle.sci_trace.specs.Lines.{numbers}
use Rattle.sci_save.specs.Numbers.{start_text}
use Rattle.sci_save.proofs.Writing.{row_split, row_none}
use Rattle.sci_save.proofs.write.put_row.Goals as goal

pub returns-then-is_empty : goal.returns-then-is_empty
returns-then-is_empty g c =
    same_text (sym (row_none c.args.word.now c.args.block c.args.row.now (eqb-true _ 0 (sym c.is_empty.ensures ∙ c.if-is_empty.true)))) (nothing_due _ _)

pub returns-in_err-put_start : goal.returns-in_err-put_start
returns-in_err-put_start g c =
    same_text (row_split c.args.word.now c.args.block c.args.row.now (eqb-false _ 0 (sym c.is_empty.ensures ∙ c.if-is_empty.false)))
    (stopped (start_text c.args.word.now c.args.block) (numbers c.args.row.now) c.put_start.result c.from_residual.result _ _ c.in_err-put_start.was (search rules) c.put_start.ensures)

pub returns : goal.returns
returns g c =
    same_text (row_split c.args.word.now c.args.block c.args.row.now (eqb-false _ 0 (sym c.is_empty.ensures ∙ c.if-is_empty.false)))
    (then_writes (start_text c.args.word.now c.args.block) (numbers c.args.row.now) c.put_start.result c.put_numbers.result _ c.in_ok-put_start.was c.put_start.ensures c.put_numbers.ensures)
