-- The inputs passed, and what is left of the elements before the one that is looked for.
use Rattle.std.proofs.Common.{◌≡◌, drop}
use Rattle.sci_cgen_blocks.specs.Recipes.{flat_from}
use Rattle.sci_cgen_blocks.proofs.kind_recipes.flat.Given as goal

abbrev pub invariant-loop-port : goal.invariant-loop-port
invariant-loop-port l = flat_from (drop l.port l.ports) l.port l.rest ≡ flat_from l.ports 0 l.e
