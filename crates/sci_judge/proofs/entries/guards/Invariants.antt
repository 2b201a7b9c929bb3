use Rattle.std.proofs.Common.{take}
use Rattle.sci_judge.specs.Entries.{AreBranches}
use Rattle.sci_reaction.specs.Kept.{guards_of}
use Rattle.sci_judge.proofs.entries.guards.Given as goal

abbrev pub invariant-loop-branch : goal.invariant-loop-branch
invariant-loop-branch l = AreBranches l.net l.found.found (take l.branch-index l.branch-items) l.block (guards_of l.guards.items)
