-- How blocks take part, as the code keeps it.
use Rattle.std.specs.Prelude.{ℕ, Bool, true, false, if◌then◌else◌}
use Rattle.sci_net.specs.Parts.{numbered}
use Rattle.sci_program.specs.declared.part.Part.{Part}
use Rattle.sci_program.specs.declared.part.Part.TheVariants.{Absent, Marked}
use Rattle.sci_cgen_sources.specs.declared.parts.Taking.{Taking}

-- how a block takes part in a text
abbrev pub takes : Taking → ℕ → Part
takes t b = if t.own then numbered Absent t.parts.items b else Marked

-- a block that takes part so has no text
abbrev pub is_absent : Part → Bool
is_absent Absent = true
is_absent _ = false
