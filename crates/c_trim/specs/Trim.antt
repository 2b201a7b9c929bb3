-- A program without the declarations of variables that no text names.
use Rattle.std.specs.Prelude.{List, Bool, false, filter}
use Rattle.std.specs.List.{list_any}
use Rattle.c_ast.specs.declared.Name.{Name}
use Rattle.c_ast.specs.declared.events.TextEvent.{TextEvent}
use Rattle.c_ast.specs.declared.events.TextEvent.TheVariants as events
use Rattle.c_ast.specs.Syntax.{Declared, Whole}
use Rattle.c_ast.specs.Events.{program_events}
use Rattle.c_ast.specs.Rules.{same_name}

-- It reads or assigns the variable, or counts with it; the bound of a loop is an event of its own. A declaration isn't meant, nor are names of functions.
abbrev pub names_event : Name → TextEvent → Bool
names_event x (events.Declare y size) = false
names_event x (events.Function f) = false
names_event x events.Main = false
names_event x (events.Read y k) = same_name y x
names_event x (events.Assign y k) = same_name y x
names_event x (events.Loop y n) = same_name y x
names_event x (events.Call f) = false
names_event x events.If = false
names_event x events.Close = false

-- a text names the variable
abbrev pub is_named : List TextEvent → Name → Bool
is_named es x = list_any (names_event x) es

-- the names whose declarations stay in a program: those that its texts name
abbrev pub is_kept : Whole → Name → Bool
is_kept p = is_named (program_events p)

abbrev pub trimmed : Whole → Whole
trimmed p = record { decls = filter (λ (d : Declared). is_kept p d.name) p.decls; funcs = p.funcs; main = p.main }
