-- What is left decides.
use Rattle.std.proofs.Common.{◌≡◌, drop}
use Rattle.std.specs.List.{list_any}
use Rattle.sci_program.specs.Program.{counts_behind}
use Rattle.sci_cgen_run.proofs.declared_names.has_loop.Given as goal

abbrev pub invariant-loop-at : goal.invariant-loop-at
invariant-loop-at l = list_any counts_behind (drop l.at l.net.specs) ≡ list_any counts_behind l.net.specs
