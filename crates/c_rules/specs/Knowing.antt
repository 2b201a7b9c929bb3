-- What the rules know of a text so far, in memory, and the scope that it stands for.
use Rattle.std.specs.Prelude.{◌≡◌, ℕ, ◌<◌, List, Option, Some, None, min}
use Rattle.c_ast.specs.declared.Name.{Name}
use Rattle.c_rules.specs.declared.bodies.Bodies.{Bodies}
use Rattle.c_rules.specs.declared.rules.Past.{Past}
use Rattle.c_rules.specs.declared.rules.Knowledge.{Knowledge}
use Rattle.c_ast.specs.Rules.{Routine, Scope, kind_in, routine_in, is_among}
use Rattle.c_rules.specs.Naming.{by_name}
use Rattle.c_rules.specs.Assigning.{Tells}
use Rattle.c_rules.specs.Bodies.{callees_in, assigners_in}

-- what a body assigns, itself or by others, are these names
abbrev pub AreAssigned : Bodies → ℕ → List Name → Type 0
AreAssigned b body names = Tells (is_among names) (callees_in b) (assigners_in b) body

-- a function that has ended
pub record IsRoutine (b : Bodies) (p : Past) (r : Routine) : Type 0 where
  pub earlier : p.body < b.last
  pub assigns : AreAssigned b p.body r.assigns
  pub depth : p.depth ≡ min r.depth 65

abbrev pub MayBeRoutine : Bodies → Option Past → Option Routine → Type 0
MayBeRoutine b None None = Unit {0}
MayBeRoutine b None (Some r) = ⊥
MayBeRoutine b (Some p) None = ⊥
MayBeRoutine b (Some p) (Some r) = IsRoutine b p r

pub record Agrees (k : Knowledge) (s : Scope) : Type 0 where
  pub kinds : (q : Name) → by_name k.bodies.names k.kinds.items q ≡ kind_in s.declared q
  pub elements : k.elements ≡ min s.elements 16777217
  pub routines : (q : Name) → MayBeRoutine k.bodies (by_name k.bodies.names k.routines.items q) (routine_in s.routines q)
  pub blocks : k.blocks.items ≡ s.blocks
  pub owner : k.owner ≡ s.owner
  pub assigns : AreAssigned k.bodies k.bodies.last s.assigns
  pub depth : k.depth ≡ min s.depth 65
