use Rattle.std.proofs.Common.{◌≡◌, ◌++◌}
use Rattle.sci_base.specs.Lists.{listed}
use Rattle.sci_forms.specs.Words.{held_of}
use Rattle.sci_store.proofs.store.push_held.Given as goal

abbrev pub invariant-loop-at : goal.invariant-loop-at
invariant-loop-at l = l.values.items ≡ l.initial.values.items ++ listed (held_of l.spec.kind l.spec) l.at
