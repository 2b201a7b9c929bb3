use Rattle.sci_prepare.proofs.prepare.for_command.Goals as goal

pub returns-in-Report-clause-looks : goal.returns-in-Report-clause-looks
returns-in-Report-clause-looks g c = rw c.in-Report.is (c.for_report.ensures.looks.each _)

pub returns-in-Code-clause-looks : goal.returns-in-Code-clause-looks
returns-in-Code-clause-looks g c = rw c.in-Code.is (c.for_code.ensures.looks.each _)

pub returns-in-RunC-clause-looks : goal.returns-in-RunC-clause-looks
returns-in-RunC-clause-looks g c = rw c.in-RunC.is (c.for_run_c.ensures.looks.each _)

pub returns-in-DumpAt-clause-looks : goal.returns-in-DumpAt-clause-looks
returns-in-DumpAt-clause-looks g c = rw c.in-DumpAt.is (c.for_dump_at.ensures.looks.each _)

pub returns-in-Bulk-clause-looks : goal.returns-in-Bulk-clause-looks
returns-in-Bulk-clause-looks g c = rw c.in-Bulk.is (c.for_bulk.ensures.looks _)

pub returns-in-Code-clause-coded : goal.returns-in-Code-clause-coded
returns-in-Code-clause-coded g c = rw c.in-Code.is c.for_code.ensures.coded
