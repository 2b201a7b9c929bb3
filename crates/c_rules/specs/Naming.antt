-- The declared names of a program by number.
use Rattle.std.specs.Prelude.{◌≡◌, ℕ, List, [], ◌∷◌, ◌++◌, map, Option, Some, None, Bool, false, ◌||◌, is_some, slice_index_or}
use Rattle.std.specs.List.{position_from}
use Rattle.indexmap.specs.IndexSet.{insert_all}
use Rattle.c_ast.specs.declared.Name.{Name}
use Rattle.c_ast.specs.Syntax.{Declared, Function, Whole}
use Rattle.c_ast.specs.Rules.{same_name, is_among}

-- the number of a name: its place, from 0 on
abbrev pub number_in : List Name → Name → Option ℕ
number_in names x = position_from (same_name x) 0 names

abbrev pub is_numbered : List Name → Name → Bool
is_numbered names x = is_some (number_in names x)

abbrev pub declared_name : Declared → Name
declared_name d = d.name

abbrev pub function_name : Function → Name
function_name f = f.name

-- what a program declares, the variables and then the functions, in the order of the text
abbrev pub declared_names : Whole → List Name
declared_names p = map declared_name p.decls ++ map function_name p.funcs

-- each name once, where it stands first
abbrev pub once : List Name → List Name
once names = insert_all same_name [] names

-- a name stands at two places among these
abbrev pub is_any_twice : List Name → Bool
is_any_twice [] = false
is_any_twice (x ∷ names) = is_among names x || is_any_twice names

-- what stands at a number, if there is one
abbrev pub at_number : {A : Type 0} → A → List A → Option ℕ → A
at_number d values None = d
at_number d values (Some n) = slice_index_or values n d

-- what stands at a place, if anything
abbrev pub at_place : {A : Type 0} → List (Option A) → ℕ → Option A
at_place values n = slice_index_or values n None

-- what stands at the number of a name
abbrev pub by_name : {A : Type 0} → List Name → List (Option A) → Name → Option A
by_name names values x = at_number None values (number_in names x)
