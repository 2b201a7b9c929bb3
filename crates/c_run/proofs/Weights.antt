-- The sizes of functions, so that a call of an earlier one is less.
use Rattle.std.proofs.Common.{ℕ, ◌+◌, ◌*◌, List, [], ◌∷◌}
use Rattle.c_ast.proofs.Sizes.{sizes_of}
use Rattle.c_run.specs.declared.machine.Routine.{Routine}

abbrev pub weight_of : List Routine → ℕ
weight_of [] = 0
weight_of (g ∷ gs) = 4 * sizes_of g.body.now + 4 + weight_of gs
