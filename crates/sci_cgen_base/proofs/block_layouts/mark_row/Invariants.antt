use Rattle.std.proofs.Common.{◌≡◌, ℕ, ◌||◌, false, length, take, nat_eq}
use Rattle.std.specs.List.{list_any}
use Rattle.sci_net.specs.Parts.{numbered}
use Rattle.sci_reaction.specs.Schedule.{blocks_of}
use Rattle.sci_sched.specs.Plain.{row_of}
use Rattle.sci_cgen_base.proofs.block_layouts.mark_row.Given as goal

abbrev pub invariant-loop-entry : goal.invariant-loop-entry
invariant-loop-entry l = record {
  long : length l.marks ≡ length l.fn.marks;
  each : (b : ℕ) → numbered false l.marks b ≡ (numbered false l.fn.marks b || list_any (nat_eq b) (blocks_of (row_of (take l.entry-index l.row))));
}
