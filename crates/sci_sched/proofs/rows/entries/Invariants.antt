use Rattle.std.proofs.Common.{◌≡◌, map, take}
use Rattle.sci_reaction.specs.declared.entry.Entry.{Entry}
use Rattle.sci_sched.specs.Rows.{AreEntries}
use Rattle.sci_sched.proofs.rows.entries.Given as goal

abbrev pub invariant-loop-at : goal.invariant-loop-at
invariant-loop-at l = AreEntries l.net l.reach l.marks (take l.at l.blocks) l.entries.items × (map (λ (e : Entry). e.depth) l.entries.items ≡ take l.at l.depths)
