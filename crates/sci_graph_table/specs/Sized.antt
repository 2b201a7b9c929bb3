-- How large tables of lists and agendas are.
use Rattle.std.specs.Prelude.{◌≡◌, ℕ, length}
use Rattle.sci_agenda.specs.Firing.{Meaning}
use Rattle.sci_links.specs.Table.{Table}

-- a table of so many lists and nodes
pub record IsSized (t : Table) (lists nodes : ℕ) : Type 0 where
  pub lists_are : length t.lists ≡ lists
  pub nodes_are : t.nodes ≡ nodes

-- an agenda whose last event was taken at this date, of so many sources
pub record IsAt (m : Meaning) (now ports : ℕ) : Type 0 where
  pub now_is : m.now ≡ now
  pub ports_are : m.ports ≡ ports
