-- What is left decides.
use Rattle.std.proofs.Common.{◌≡◌, drop}
use Rattle.sci_program.specs.Program.{is_any_looped}
use Rattle.sci_cgen_run.proofs.declared_names.is_any_looped.Given as goal

abbrev pub invariant-loop-port : goal.invariant-loop-port
invariant-loop-port l = is_any_looped (drop l.port l.outs) ≡ is_any_looped l.outs
