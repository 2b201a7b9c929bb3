-- The variables that are declared while a program is looked through for what it names.
use Rattle.std.specs.Prelude.{List, [], ◌∷◌, map, false, ◌||◌, if◌then◌else◌}
use Rattle.std.specs.List.{flat_map}
use Rattle.c_ast.specs.declared.Name.{Name}
use Rattle.c_ast.specs.declared.events.TextEvent.{TextEvent}
use Rattle.c_ast.specs.Rules.{same_name}
use Rattle.c_ast.specs.Syntax.{Declared}
use Rattle.c_trim.specs.declared.texts.Candidate.{Candidate}
use Rattle.c_trim.specs.Trim.{is_named}

-- before a text is looked at
abbrev pub candidate_of : Declared → Candidate
candidate_of d = record { name = d.name; size = d.size; named = false }

-- where a text names this variable
abbrev pub noted_one : Name → Candidate → Candidate
noted_one x c = record { name = c.name; size = c.size; named = c.named || same_name x c.name }

unfoldable pub noted : Name → List Candidate → List Candidate
noted x cs = map (noted_one x) cs

abbrev pub marked_one : List TextEvent → Candidate → Candidate
marked_one es c = record { name = c.name; size = c.size; named = c.named || is_named es c.name }

-- behind a text
unfoldable pub marked : List TextEvent → List Candidate → List Candidate
marked es cs = map (marked_one es) cs

-- the declaration, where the variable is named
abbrev pub kept_part : Candidate → List Declared
kept_part c = let d : Declared = record { name = c.name; size = c.size } in if c.named then d ∷ [] else []

abbrev pub kept_of : List Candidate → List Declared
kept_of cs = flat_map kept_part cs
