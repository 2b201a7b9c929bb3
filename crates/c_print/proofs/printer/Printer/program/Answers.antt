use Rattle.std.proofs.Common.{◌++◌, map}
use Rattle.std.specs.List.{flat_map}
use Rattle.c_ast.specs.View.{declared_of, function_of, statements_of}
use Rattle.c_ast.specs.Spelling.{header_row, header_lines, declared_row, function_rows, main_rows}
use Rattle.c_print.proofs.Steps.{rows_then}
use Rattle.c_print.proofs.printer.Printer.program.Goals as goal

pub returns : goal.returns
returns g c =
    rows_then (map header_row header_lines) (map declared_row (map declared_of c.args.p.now.decls.items) ++ (flat_map function_rows (map function_of c.args.p.now.funcs.items) ++ main_rows (statements_of c.args.p.now.main.items))) c.header.ensures
    (rows_then (map declared_row (map declared_of c.args.p.now.decls.items)) (flat_map function_rows (map function_of c.args.p.now.funcs.items) ++ main_rows (statements_of c.args.p.now.main.items)) (rw c.deref.ensures.value at c.decls.ensures)
    (rows_then (flat_map function_rows (map function_of c.args.p.now.funcs.items)) (main_rows (statements_of c.args.p.now.main.items)) (rw c.deref-2.ensures.value at c.funcs.ensures) (rw c.deref-3.ensures.value at c.main.ensures)))
