-- What is marked of the blocks within a reaction.
use Rattle.std.specs.Prelude.{ℕ, false, List}
use Rattle.sci_net.specs.Parts.{numbered}
use Rattle.sci_store.specs.declared.marks.Mark.{Mark}

abbrev pub idle : Mark
idle = record { active = false; branch = 0; mask = 0 }

abbrev pub mark_at : List Mark → ℕ → Mark
mark_at marks b = numbered idle marks b
