-- The declarations that stayed so far, and those of the ones to come.
use Rattle.std.proofs.Common.{◌≡◌, ◌++◌, drop, map}
use Rattle.c_ast.specs.View.{declared_of}
use Rattle.c_trim.specs.Candidates.{kept_of}
use Rattle.c_trim.proofs.declarations.kept.Given as goal

abbrev pub invariant-loop-candidate : goal.invariant-loop-candidate
invariant-loop-candidate l = map declared_of l.out.items ++ kept_of (drop l.candidate-index l.candidates) ≡ kept_of l.candidates
