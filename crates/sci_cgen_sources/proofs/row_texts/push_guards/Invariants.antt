-- The statements so far, and those of the guards to come.
use Rattle.std.proofs.Common.{◌≡◌, drop}
use Rattle.c_ast.specs.View.{statements_of}
use Rattle.c_mean.specs.Texts.{joined}
use Rattle.sci_reaction.specs.Kept.{entry_of, guards_of}
use Rattle.sci_program.specs.Program.{texts, guard_text}
use Rattle.sci_cgen_sources.proofs.row_texts.push_guards.Given as goal

abbrev pub invariant-loop-guard : goal.invariant-loop-guard
invariant-loop-guard l =
    joined (statements_of l.out.items) (texts (guard_text l.net (entry_of l.entry)) (guards_of (drop l.guard-index l.guards)))
    ≡ joined (statements_of l.fn.out.items) (texts (guard_text l.net (entry_of l.entry)) (guards_of l.guards))
