use Rattle.std.proofs.Common.{◌≡◌, ◌≤◌, ℕ, length, drop}
use Rattle.sci_net.specs.Parts.{numbered}
use Rattle.sci_sched.specs.Plain.{row_of}
use Rattle.sci_program.specs.declared.part.Part.TheVariants.{Absent}
use Rattle.sci_program.specs.Program.{part_in}
use Rattle.sci_cgen_sources.proofs.parts.note_row.Given as goal

-- the parts that the entries from this one on say
abbrev pub invariant-loop-at : goal.invariant-loop-at
invariant-loop-at l = record {
  long : length l.parts.items ≡ length l.fn.parts.items;
  within : l.at ≤ length l.row;
  each : (b : ℕ) → numbered Absent l.parts.items b ≡ part_in l.net (row_of (drop l.at l.row)) b;
}
