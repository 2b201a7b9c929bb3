use Rattle.std.proofs.Common.{◌≡◌, ◌≤◌, ◌&&◌, length, drop}
use Rattle.sci_sched.specs.Plain.{rows_of}
use Rattle.sci_program.specs.Program.{rows_fit}
use Rattle.sci_cgen_sources.proofs.parts.rows_fit.Given as goal

-- What is left decides.
abbrev pub invariant-loop-source : goal.invariant-loop-source
invariant-loop-source l = record {
  fits : (l.fits && rows_fit l.left (drop l.source (rows_of l.schedule))) ≡ rows_fit l.most (rows_of l.schedule);
  within : l.source ≤ length (rows_of l.schedule);
}
