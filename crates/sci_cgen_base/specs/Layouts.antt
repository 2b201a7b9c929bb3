-- Where blocks lie, and what rows and marks are.
use Rattle.std.specs.Prelude.{◌≡◌, ℕ, ◌^◌, ◌<◌, Bool, false, List, [], map, length, All}
use Rattle.sci_net.specs.Parts.{Parts, IsBlock, spec_of, numbered}
use Rattle.sci_reaction.specs.Schedule.{Guard, Entry}
use Rattle.sci_cgen_blocks.specs.declared.block_layout.BlockLayout.{BlockLayout}
use Rattle.sci_cgen_blocks.specs.Plain.{plain_places}
use Rattle.sci_cgen_blocks.specs.Texts.{Places, fixed}
use Rattle.sci_program.specs.Program.{places_of, is_scheduled}

abbrev pub no_places : Places
no_places = record { number = 0; ins = []; outs = 0; state = 0; mask = 0; which = fixed 0 }

-- the layout of a block, by its number
abbrev pub laid_at : List BlockLayout → ℕ → Places
laid_at layouts b = numbered no_places (map plain_places layouts) b

-- these are where the values of each block of the net lie
pub record AreLaid (n : Parts) (layouts : List BlockLayout) : Type 0 where
  pub one_each : length layouts ≡ length n.specs
  pub places : (b : ℕ) → IsBlock n b → laid_at layouts b ≡ places_of n b

-- an entry and its guards name blocks of the net, and its mask activation inputs of its block
pub record IsNamed (n : Parts) (e : Entry) : Type 0 where
  pub block : IsBlock n e.block
  pub mask : e.mask < 2 ^ (spec_of n e.block).evtin
  pub guards : All (λ (g : Guard). IsBlock n g.block) e.guards

abbrev pub AreNamed : Parts → List Entry → Type 0
AreNamed n row = All (IsNamed n) row

-- of each block, whether the schedule has an entry of it
pub record AreMarked (n : Parts) (rows : List (List Entry)) (marks : List Bool) : Type 0 where
  pub one_each : length marks ≡ length n.specs
  pub each : (b : ℕ) → IsBlock n b → numbered false marks b ≡ is_scheduled rows b
