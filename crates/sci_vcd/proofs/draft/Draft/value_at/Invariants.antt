use Rattle.sci_vcd.specs.Waveforms.{first_of}
use Rattle.sci_vcd.proofs.Links.{Walks}
use Rattle.sci_vcd.proofs.draft.Draft.value_at.Given as goal

abbrev pub invariant-loop-count : goal.invariant-loop-count
invariant-loop-count l = Walks l.tick (first_of l.self.first.items l.signal) l.signal l.self.entries.items l.count

abbrev pub decreases-loop-count : goal.decreases-loop-count
decreases-loop-count l = l.count
