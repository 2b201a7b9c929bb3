use Rattle.std.proofs.Common.{◌≡◌, ◌≤◌, List, length}
use Rattle.sci_reaction.specs.Schedule.{Entry}
use Rattle.sci_program.specs.Program.{scheduled_count}
use Rattle.sci_cgen_base.specs.Layouts.{AreMarked}
use Rattle.sci_cgen_sources.proofs.parts.scheduled_count.Given as goal

abbrev pub invariant-loop-at : goal.invariant-loop-at
invariant-loop-at l = record {
  so_far : (rows : List (List Entry)) → AreMarked l.net rows l.marks → l.count ≡ scheduled_count rows l.at;
  few : l.count ≤ l.at;
  within : l.at ≤ length l.net.specs;
}
