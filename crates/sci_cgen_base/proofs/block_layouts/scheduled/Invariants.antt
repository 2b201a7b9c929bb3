use Rattle.std.proofs.Common.{◌≡◌, ℕ, false, length, take}
use Rattle.sci_net.specs.Parts.{numbered}
use Rattle.sci_sched.specs.Plain.{lists_of}
use Rattle.sci_program.specs.Program.{is_scheduled}
use Rattle.sci_cgen_base.proofs.block_layouts.scheduled.Given as goal

abbrev pub invariant-loop-row : goal.invariant-loop-row
invariant-loop-row l = record {
  long : length l.marks.items ≡ length l.net.specs;
  each : (b : ℕ) → numbered false l.marks.items b ≡ is_scheduled (lists_of (take l.row-index l.schedule.rows.items)) b;
}
