-- What is due for a text: what it saves, or the line that is blamed.
use Rattle.std.specs.Prelude.{◌≡◌, ℕ, List, Result, Ok, Err}
use Rattle.sci_net.specs.Parts.{Parts}
use Rattle.sci_reaction.specs.Memory.{Columns}
use Rattle.sci_save.specs.declared.image.Image.{Image}
use Rattle.sci_save.specs.declared.stop.SaveStop.{SaveStop}
use Rattle.sci_save.specs.declared.stop.SaveStop.TheVariants as stops
use Rattle.sci_save.specs.Saved.{Saved, saved_of}
use Rattle.sci_save.specs.Blame.{Spells, IsBlamed}

-- what is answered, unless memory ran out
abbrev pub Answers : Parts → Columns → List ℕ → Result Image SaveStop → Type 0
Answers n i bytes (Ok m) = Spells n i bytes (saved_of m)
Answers n i bytes (Err (stops.NotSave k)) = IsBlamed n i bytes k
Answers n i bytes (Err stops.Memory) = Unit {0}

-- this is answered, unless memory ran out
abbrev pub Accepts : Result Image SaveStop → Saved → Type 0
Accepts (Ok m) o = saved_of m ≡ o
Accepts (Err (stops.NotSave k)) o = ⊥
Accepts (Err stops.Memory) o = Unit {0}

-- this line is blamed, unless memory ran out
abbrev pub Blames : Result Image SaveStop → ℕ → Type 0
Blames (Ok m) k = ⊥
Blames (Err (stops.NotSave j)) k = j ≡ k
Blames (Err stops.Memory) k = Unit {0}
