-- Laws of generated programs: where they assign and show the values of blocks, and where these lie.
use Rattle.std.specs.Prelude.{◌≡◌, ℕ, true, List, Contains}
use Rattle.sci_net.specs.Parts.{Parts, IsBlock, spec_of}
use Rattle.sci_net.specs.Net.{IsNet}
use Rattle.sci_reaction.specs.Schedule.{Entry, IsSchedule}
use Rattle.sci_run.specs.Laws.{AreLoopFree}
use Rattle.c_ast.specs.Syntax.{Function, Whole}
use Rattle.sci_cgen_blocks.specs.Texts.{body_text}
use Rattle.sci_cgen_blocks.specs.Meant.{AreInBounds}
use Rattle.sci_program.specs.Names.{block_name}
use Rattle.sci_program.specs.Program.{program, places_of, is_scheduled}
use Rattle.sci_program.specs.Laws.{named_so}
use Rattle.sci_cgen_laws.specs.Values.{KeepsValues}
use Rattle.sci_cgen_laws.specs.Places.{HasPlaces}

abbrev pub ProgramKeepsValues : Type 0
ProgramKeepsValues = (n : Parts) (rows : List (List Entry)) → IsNet n → IsSchedule n rows → KeepsValues n (program n rows)

abbrev pub ProgramHasPlaces : Type 0
ProgramHasPlaces = (n : Parts) (rows : List (List Entry)) → IsNet n → AreLoopFree n → IsSchedule n rows → HasPlaces n rows (program n rows)

-- The functions of the blocks that the schedule has are the texts of their kinds' values over their places, which can be spelled.
pub record HasTexts (n : Parts) (rows : List (List Entry)) (p : Whole) : Type 0 where
  pub bodies : (b : ℕ) (f : Function) → IsBlock n b → is_scheduled rows b ≡ true → Contains (named_so (block_name b) p.funcs) f
      → f.body ≡ body_text (spec_of n b) (places_of n b)
  pub within : (b : ℕ) → IsBlock n b → AreInBounds (spec_of n b) (places_of n b)

abbrev pub ProgramHasTexts : Type 0
ProgramHasTexts = (n : Parts) (rows : List (List Entry)) → IsNet n → HasTexts n rows (program n rows)
