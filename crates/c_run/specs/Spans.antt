-- How variables stand in memory: their elements follow each other in the order of the declarations, those of the first declared first.
use Rattle.std.specs.Prelude.{ℕ, ◌+◌, ℤ, List, [], ◌∷◌, take, drop, nat_lt, if◌then◌else◌, Option, Some, None, option_map}
use Rattle.c_ast.specs.declared.Name.{Name}
use Rattle.c_ast.specs.Syntax.{Declared}
use Rattle.c_run.specs.declared.machine.VariableSpan.{VariableSpan}
use Rattle.c_mean.specs.Meaning.{Slot, same_name, elements_of, ◌>>=◌}

-- the elements of all, cut into those of each variable
abbrev pub cut : List Declared → List ℤ → List Slot
cut [] cells = []
cut (d ∷ ds) cells = record { name = d.name; cells = take (elements_of d) cells } ∷ cut ds (drop (elements_of d) cells)

-- so many elements behind
abbrev pub further : ℕ → VariableSpan → VariableSpan
further n s = record { first = n + s.first; size = s.size }

-- the elements of the first variable of this name
abbrev pub span_of : List Declared → Name → Option VariableSpan
span_of [] x = None
span_of (d ∷ ds) x = if same_name d.name x then Some (record { first = 0; size = elements_of d }) else option_map (further (elements_of d)) (span_of ds x)

-- element i of those
abbrev pub within : Option VariableSpan → ℕ → Option ℕ
within o i = o >>= λ s. if nat_lt i s.size then Some (s.first + i) else None

-- where element i of a name stands among so many, if there is such
abbrev pub element_at : ℕ → List Declared → Name → ℕ → Option ℕ
element_at n ds x i = within (span_of ds x) i >>= λ k. if nat_lt k n then Some k else None
