use Rattle.std.proofs.Common.{◌≡◌, drop, ◌+◌, ◌*◌}
use Rattle.c_ast.proofs.Sizes.{size_of, sizes_of}
use Rattle.c_trim.proofs.Marking.{in_list}
use Rattle.c_trim.proofs.texts.+statements.Given as goal

-- what the statements to come name is noted, and then all that the statements name is
abbrev pub invariant-block-loop-s : goal.invariant-block-loop-s
invariant-block-loop-s l = in_list (drop l.s-index l.statements) l.candidates ≡ in_list l.statements l.initial.candidates

abbrev pub decreases-statement : goal.decreases-statement
decreases-statement l = 2 * size_of l.s.now

abbrev pub decreases-block : goal.decreases-block
decreases-block l = 2 * sizes_of l.statements.now + 1
