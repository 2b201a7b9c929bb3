use Rattle.std.proofs.Common.{◌≡◌, ◌≤◌, ◌-◌, length}
use Rattle.sci_wave.specs.Noted.{AreNotedTo}
use Rattle.sci_wave.proofs.noting.note_active.Given as goal

abbrev pub invariant-loop-at : goal.invariant-loop-at
invariant-loop-at l = record {
  rest : l.dump ≡ record l.initial.dump { noted = l.dump.noted };
  noted : AreNotedTo l.ready l.initial.dump.noted l.dump.noted l.blocks l.at;
}

abbrev pub decreases-loop-at : goal.decreases-loop-at
decreases-loop-at l = length l.blocks - l.at
