-- What a turn of the choice looks at.
use Rattle.std.specs.Prelude.{pos, Bool, if◌then◌else◌}
use Rattle.c_ast.specs.Syntax.{Exp, num}
use Rattle.sci_due.specs.Texts.{counted_from, first_of}
use Rattle.sci_due_texts.specs.declared.choice_texts.Looked.{Looked}

-- the source of a number, or the first one of the group of that number
abbrev pub turn_place : Bool → Exp → Exp
turn_place grouped e = if grouped then first_of e else e

-- what a turn of the choice looks at
abbrev pub looked_at : Looked → Exp
looked_at l = turn_place l.grouped (if l.counted then counted_from l.number else num (pos l.number))
