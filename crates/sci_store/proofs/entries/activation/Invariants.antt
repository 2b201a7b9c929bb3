use Rattle.std.proofs.Common.{◌≡◌, ◌||◌, take}
use Rattle.std.specs.List.{list_any}
use Rattle.sci_reaction.specs.Kept.{guards_of}
use Rattle.sci_store.specs.Entries.{is_taken, with_guards}
use Rattle.sci_store.proofs.entries.activation.Given as goal

abbrev pub invariant-loop-guard : goal.invariant-loop-guard
invariant-loop-guard l = record {
  active : l.active ≡ (l.entry.always || list_any (is_taken l.marks) (guards_of (take l.guard-index l.entry.guards.items)));
  mask : l.mask ≡ with_guards l.marks l.entry.mask (guards_of (take l.guard-index l.entry.guards.items));
}
