-- The statements so far, and those of the entries to come.
use Rattle.std.proofs.Common.{◌≡◌, drop}
use Rattle.c_ast.specs.View.{statements_of}
use Rattle.c_mean.specs.Texts.{joined}
use Rattle.sci_sched.specs.Plain.{row_of}
use Rattle.sci_program.specs.Program.{texts, cleared_text}
use Rattle.sci_cgen_sources.proofs.row_texts.push_clears.Given as goal

abbrev pub invariant-loop-entry : goal.invariant-loop-entry
invariant-loop-entry l =
    joined (statements_of l.out.items) (texts (cleared_text l.net) (row_of (drop l.entry-index l.row)))
    ≡ joined (statements_of l.fn.out.items) (texts (cleared_text l.net) (row_of l.row))
