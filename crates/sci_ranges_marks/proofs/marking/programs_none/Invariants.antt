use Rattle.std.proofs.Common.{◌≡◌, ◌<◌, ℕ, true, false, get_or}
use Rattle.sci_base.specs.Lists.{truth_at}
use Rattle.sci_net.specs.Parts.{spec_of}
use Rattle.sci_reaction.specs.declared.entry.Entry.{Entry}
use Rattle.sci_ranges_reads.specs.Live.{may_program}
use Rattle.sci_ranges_marks.proofs.marking.programs_none.Given as goal

abbrev pub invariant-loop-k : goal.invariant-loop-k
invariant-loop-k l = (j : ℕ) (d : Entry) → j < l.k → truth_at l.acts (get_or l.row j d).block ≡ true → may_program (spec_of l.net (get_or l.row j d).block) ≡ false
