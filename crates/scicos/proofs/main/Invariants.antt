use Rattle.std.proofs.Common.{◌-◌, length, map}
use Rattle.sci_forms.specs.Numbers.{kinds}
use Rattle.sci_library.specs.Banks.{IsBegun}
use Rattle.scicos.proofs.main.OwnLists.{own-1}
use Rattle.scicos.proofs.main.Given as goal

-- the banks of the first kinds are there
abbrev pub invariant-loop-kind : goal.invariant-loop-kind
invariant-loop-kind l = IsBegun (map (λ b. (own-1.entry b.vtable).1.meaning b.value) l.banks.items)

abbrev pub decreases-loop-kind : goal.decreases-loop-kind
decreases-loop-kind l = kinds - length l.banks.items
