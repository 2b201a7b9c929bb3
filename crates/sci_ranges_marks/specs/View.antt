-- The marks of code, each `Vec` as its list.
use Rattle.std.specs.Prelude.{◌≡◌, ℕ, if◌then◌else◌, Bool, List, [], map, Option, Some, Vec}
use Rattle.std.specs.declared.alloc.Global.{Global}
use Rattle.sci_net.specs.Parts.{Parts, rows_of}
use Rattle.sci_reaction.specs.Schedule.{Entry as PlainEntry}
use Rattle.sci_reaction.specs.Kept.{entries_of}
use Rattle.sci_reaction.specs.declared.entry.Entry.{Entry}
use Rattle.sci_pending.specs.Pending.{Event, next}
use Rattle.sci_run.specs.Programs.{first_pending}
use Rattle.sci_ranges_reads.specs.Live.{IsQuiet}
use Rattle.sci_ranges_base.specs.declared.masks.Masks.{Masks}
use Rattle.sci_ranges_rows.specs.Marks.{Marks, AreActs, dead_of, entry_at, may_act}
use Rattle.sci_ranges_rows.specs.Tests.{mask_at}
use Rattle.sci_ranges_marks.specs.declared.indexed_row.IndexedRow.{IndexedRow}
use Rattle.sci_ranges_marks.specs.declared.marks.RowMarks.{RowMarks}

abbrev pub lists_of : List (Vec Entry Global) → List (List PlainEntry)
lists_of rows = map (λ v. entries_of v.items) rows

abbrev pub row_of : IndexedRow → List PlainEntry
row_of r = entries_of r.entries.items

abbrev pub marks_of : RowMarks → Marks
marks_of m = record {
  rows = map row_of m.rows.items;
  dead = rows_of m.dead.items;
  live = m.live.items;
  acts = rows_of m.acts.items;
  first = m.first;
  under = m.under.items;
}

-- with these sources live
abbrev pub with_live : Marks → List Bool → Marks
with_live m live = record m { live = live }

-- f is the place of the event that fires first, where there is one
abbrev pub IsFirstPlace : Parts → Option ℕ → Type 0
IsFirstPlace n f = (k : ℕ) → f ≡ Some k → (e : Event) × (next (first_pending n).events ≡ Some e) × (e.source ≡ k)

-- what marking leaves: the blocks of each row that may act, and the place of the first event, where start programs nothing
pub record AreMarked (n : Parts) (m : Marks) : Type 0 where
  pub acts : AreActs n m
  pub quiet : (f : ℕ) → m.first ≡ Some f → IsQuiet n (dead_of m.dead)
  pub first : IsFirstPlace n m.first

-- the masks of a block at the source of one place, where it may act
abbrev pub masks_here : Marks → ℕ → ℕ → List Masks
masks_here m k c = if may_act m k c then mask_at m k (entry_at m k c) else []
