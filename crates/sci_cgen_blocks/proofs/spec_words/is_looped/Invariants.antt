-- The elements so far, which are few, and those to come.
use Rattle.std.proofs.Common.{◌≡◌, ◌≤◌, ◌+◌, drop}
use Rattle.sci_forms.specs.Ports.{total}
use Rattle.sci_cgen_blocks.proofs.spec_words.is_looped.Given as goal

abbrev pub invariant-loop-port : goal.invariant-loop-port
invariant-loop-port l = (l.count + total (drop l.port l.ports) ≡ total l.ports) × (l.count ≤ 2)
