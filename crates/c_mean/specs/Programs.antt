-- Whole programs: what a call means, and the world at the beginning.
use Rattle.std.specs.Prelude.{ℕ, ℤ, List, [], ◌∷◌, Bool, true, false, ◌&&◌, ◌||◌, not, if◌then◌else◌}
use Rattle.c_ast.specs.declared.Name.{Name}
use Rattle.c_ast.specs.Syntax.{Declared, Function}
use Rattle.c_mean.specs.Meaning.{same_name, Around, around, calls_of, numbered, elements_of}
use Rattle.c_mean.specs.Texts.{May, block_within}

-- what is called behind these functions
abbrev pub surroundings : List Function → ℤ → ℤ → Around
surroundings fs last most = around (calls_of (numbered 1 fs []) last most) last most

-- one of these functions has this name
abbrev pub is_defined : Name → List Function → Bool
is_defined f [] = false
is_defined f (g ∷ gs) = same_name g.name f || is_defined f gs

-- each of these functions that may be called does no more than it may
abbrev pub functions_within : May → List Function → Bool
functions_within may [] = true
functions_within may (f ∷ fs) = (not (may.call f.name) || block_within may f.body) && functions_within may fs

-- how many places a variable has among these; a name that isn't declared has none
abbrev pub places : List Declared → Name → ℕ
places [] x = 0
places (d ∷ ds) x = if same_name d.name x then elements_of d else places ds x
