-- How long the schedule of a net is, from what is found before its rows are built.
use Rattle.std.specs.Prelude.{◌≡◌, ℕ, ◌≤◌, List, length, sum_by}
use Rattle.sci_base.specs.declared.limits.TheConstants.{ENTRIES}
use Rattle.sci_net.specs.Parts.{Parts}
use Rattle.sci_net.specs.Sources.{sources_of}
use Rattle.sci_reaction.specs.Schedule.{Entry}
use Rattle.sci_inherit.specs.Origins.{AreOrigins}
use Rattle.sci_sched.specs.declared.measured.Size.{Size}
use Rattle.sci_sched.specs.declared.outline.Outline.{Outline}
use Rattle.sci_sched.specs.declared.planning.Outlined.{Outlined}
use Rattle.sci_sched.specs.Size.{entry_count, guard_count}
use Rattle.sci_sched.specs.Answer.{IsPlan}
use Rattle.sci_sched.specs.Outlines.{AreOutlines, outline_size}

-- so many entries and guards has the schedule of a net
pub record IsMeasured (n : Parts) (s : Size) : Type 0 where
  pub rows : List (List Entry)
  pub planned : IsPlan n rows
  pub entries : entry_count rows ≡ s.entries
  pub guards : guard_count rows ≡ s.guards

-- the entries and the guards of an outline apart
abbrev pub outline_entries : Outline → ℕ
outline_entries o = length o.blocks.items

abbrev pub outline_guards : Outline → ℕ
outline_guards o = o.guards

-- the outlines of all sources, which have no more entries and guards than a schedule may have
pub record AreOutlined (n : Parts) (o : Outlined) : Type 0 where
  pub origins : AreOrigins n o.reach
  pub outlines : AreOutlines n (length (sources_of n)) o.outlines.items
  pub short : sum_by outline_size o.outlines.items ≤ ENTRIES
