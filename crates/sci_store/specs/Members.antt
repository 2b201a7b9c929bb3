-- The blocks of a row, each with whether guards may leave it idle.
use Rattle.std.specs.Prelude.{◌≡◌, ◌↔◌, ℕ, true, List, [], map, All, Contains}
use Rattle.sci_store.specs.declared.row.Member.{Member}
use Rattle.sci_store.specs.declared.row.Show.{Show}
use Rattle.sci_store.specs.Frame.{Fixed}
use Rattle.sci_store.specs.Rows.{shows_from}

-- these are the guarded ones, and no other
abbrev pub AreGuardedMembers : (guarded : List ℕ) → List Member → Type 0
AreGuardedMembers guarded members = All (λ (m : Member). (m.guarded ≡ true) ↔ Contains guarded m.block) members

-- the values of the blocks that are shown
abbrev pub shown_members : Fixed → (guarded : List ℕ) → List Member → List Show
shown_members f guarded members = shows_from f guarded [] (map (λ (m : Member). m.block) members)
