-- What goes in with a sum or a switch, as the pass has it.
use Rattle.std.specs.Prelude.{◌≡◌, ℕ, true, false, Option, Some, None, option_map, ⊤}
use Rattle.sci_net.specs.Parts.{Parts, IsBlock}
use Rattle.sci_reaction.specs.Memory.{Columns}
use Rattle.sci_ranges_rows.specs.Marks.{Marks}
use Rattle.sci_ranges_pass.specs.Ranges.{Ranges, entered}
use Rattle.sci_ranges_pass.specs.Taken.{comparison, addition}
use Rattle.sci_ranges_pass.specs.Told.{aim, leak}
use Rattle.sci_ranges_sums.specs.declared.parts.Followed.{Followed}
use Rattle.sci_ranges_sums.specs.declared.parts.Beside.{Beside}
use Rattle.sci_ranges_sums.specs.View.{leak_of}
use Rattle.sci_ranges_choices.specs.declared.parts.Choice.{Choice}

-- what goes into a block, where there is one
abbrev pub Follows : Parts → Columns → Marks → Ranges → Option ℕ → Option Followed → Type 0
Follows n i m r None None = ⊤
Follows n i m r None (Some f) = ⊥
Follows n i m r (Some b) None = ⊥
Follows n i m r (Some b) (Some f) = IsBlock n b × (f.block ≡ b) × (f.ins.items ≡ entered n i m r b)

pub record IsBeside (n : Parts) (i : Columns) (m : Marks) (r : Ranges) (c : ℕ) (b : Beside) : Type 0 where
  pub followed : Follows n i m r (aim n m c) b.followed
  pub leak : option_map leak_of b.leak ≡ leak n m c

-- into the comparison that a switch looks at, and into the sums that it takes
pub record IsBefore (n : Parts) (i : Columns) (m : Marks) (r : Ranges) (c : ℕ) (b : Choice) : Type 0 where
  pub compared : Follows n i m r (comparison n m c) b.compared
  pub first : Follows n i m r (addition n m c true) b.first
  pub third : Follows n i m r (addition n m c false) b.third
